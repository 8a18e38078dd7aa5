-- What a mount keeps along an account and more turns of it, in parts.
use Rattle.std.proofs.Common.{◌≡◌, List, [], ◌∷◌, ◌++◌, refl, subst}
use Rattle.bucket_api.specs.BucketState.{BucketState}
use Rattle.bucket_api.specs.LogEvent.{LogEvent}
use Rattle.history_spec.specs.Account as account
use Rattle.history_spec.specs.Account.{Account, Turn}
use Rattle.history_spec.specs.JournalState.{JournalState, after_turn, after_turns, first_journal, reached}
use Rattle.mount_model.specs.declared.config.Config.{Config}
use Rattle.record_spec.specs.RecordList.{RecordList}
use Rattle.thrift_spec.specs.Records.{AllTold, RecordsAreTold, list_after_turn, list_after_turns, records_at}
use Rattle.thrift_spec.specs.Thrift.{IsThriftyAccount, Kept, ThriftyFrom, kept_after_turn, kept_after_turns, kept_at, none_kept}

module _ (config : Config) (start : BucketState) (log : List LogEvent) where
  -- ---- the record list
  pub list_after_turns-append : (state : JournalState) (list : RecordList) (turns more : Account) → list_after_turns config start log state list (turns ++ more)
      ≡ list_after_turns config start log (after_turns config start log state turns) (list_after_turns config start log state list turns) more
  list_after_turns-append state list [] more = refl
  list_after_turns-append state list (turn ∷ turns) more =
      list_after_turns-append (after_turn config start log state turn) (list_after_turn config start log state list turn) turns more

  pub AllTold-append : (state : JournalState) (list : RecordList) (turns more : Account) → AllTold config start log state list turns
      → AllTold config start log (after_turns config start log state turns) (list_after_turns config start log state list turns) more
      → AllTold config start log state list (turns ++ more)
  AllTold-append state list [] more told later = later
  AllTold-append state list (turn ∷ turns) more told later =
      (told.0, AllTold-append (after_turn config start log state turn) (list_after_turn config start log state list turn) turns more told.1 later)

  pub AllTold-parts : (state : JournalState) (list : RecordList) (turns more : Account) → AllTold config start log state list (turns ++ more)
      → AllTold config start log state list turns × AllTold config start log (after_turns config start log state turns) (list_after_turns config start log state list turns) more
  AllTold-parts state list [] more told = (tt, told)
  AllTold-parts state list (turn ∷ turns) more told =
      let rest = AllTold-parts (after_turn config start log state turn) (list_after_turn config start log state list turn) turns more told.1 in ((told.0, rest.0), rest.1)

  -- ---- all that is kept
  pub kept_after_turns-append : (state : JournalState) (kept : Kept) (turns more : Account) → kept_after_turns config start log state kept (turns ++ more)
      ≡ kept_after_turns config start log (after_turns config start log state turns) (kept_after_turns config start log state kept turns) more
  kept_after_turns-append state kept [] more = refl
  kept_after_turns-append state kept (turn ∷ turns) more =
      kept_after_turns-append (after_turn config start log state turn) (kept_after_turn config start log state kept turn) turns more

  pub kept_at-append : (turns more : Account)
      → kept_at config start log (turns ++ more) ≡ kept_after_turns config start log (reached config start log turns) (kept_at config start log turns) more
  kept_at-append turns more = kept_after_turns-append first_journal (none_kept config) turns more

  -- the records that are kept are the record list
  pub records_after_turn : (state : JournalState) (kept : Kept) (turn : Turn) → (kept_after_turn config start log state kept turn).records ≡ list_after_turn config start log state kept.records turn
  records_after_turn state kept (account.take call front request) = refl
  records_after_turn state kept (account.done call front h items fill) = refl
  records_after_turn state kept (account.tick front seconds) = refl

  pub records_after_turns : (state : JournalState) (kept : Kept) (turns : Account)
      → (kept_after_turns config start log state kept turns).records ≡ list_after_turns config start log state kept.records turns
  records_after_turns state kept [] = refl
  records_after_turns state kept (turn ∷ turns) =
      subst (λ list. (kept_after_turns config start log (after_turn config start log state turn) (kept_after_turn config start log state kept turn) turns).records
      ≡ list_after_turns config start log (after_turn config start log state turn) list turns) (records_after_turn state kept turn)
      (records_after_turns (after_turn config start log state turn) (kept_after_turn config start log state kept turn) turns)

  pub records_of_kept : (turns : Account) → (kept_at config start log turns).records ≡ records_at config start log turns
  records_of_kept turns = records_after_turns first_journal (none_kept config) turns

  -- ---- thrift
  pub ThriftyFrom-append : (state : JournalState) (kept : Kept) (turns more : Account) → ThriftyFrom config start log state kept turns
      → ThriftyFrom config start log (after_turns config start log state turns) (kept_after_turns config start log state kept turns) more
      → ThriftyFrom config start log state kept (turns ++ more)
  ThriftyFrom-append state kept [] more thrifty later = later
  ThriftyFrom-append state kept (turn ∷ turns) more thrifty later = (
    thrifty.0,
    thrifty.1,
    ThriftyFrom-append (after_turn config start log state turn) (kept_after_turn config start log state kept turn) turns more thrifty.2 later,
  )

  pub ThriftyFrom-parts : (state : JournalState) (kept : Kept) (turns more : Account) → ThriftyFrom config start log state kept (turns ++ more)
      → ThriftyFrom config start log state kept turns
      × ThriftyFrom config start log (after_turns config start log state turns) (kept_after_turns config start log state kept turns) more
  ThriftyFrom-parts state kept [] more thrifty = (tt, thrifty)
  ThriftyFrom-parts state kept (turn ∷ turns) more thrifty =
      let rest = ThriftyFrom-parts (after_turn config start log state turn) (kept_after_turn config start log state kept turn) turns more thrifty.2 in
      ((thrifty.0, thrifty.1, rest.0), rest.1)

  -- an account goes on thriftily by more turns
  pub IsThriftyAccount-append : (turns more : Account) → IsThriftyAccount config start log turns
      → ThriftyFrom config start log (reached config start log turns) (kept_at config start log turns) more
      → IsThriftyAccount config start log (turns ++ more)
  IsThriftyAccount-append turns more thrifty later = ThriftyFrom-append first_journal (none_kept config) turns more thrifty later

  -- thrift tells by the flags what was learned
  told_of_thrifty : (state : JournalState) (kept : Kept) (turns : Account) → ThriftyFrom config start log state kept turns → AllTold config start log state kept.records turns
  told_of_thrifty state kept [] thrifty = tt
  told_of_thrifty state kept (turn ∷ turns) thrifty = (
    thrifty.1,
    subst (λ list. AllTold config start log (after_turn config start log state turn) list turns) (records_after_turn state kept turn)
        (told_of_thrifty (after_turn config start log state turn) (kept_after_turn config start log state kept turn) turns thrifty.2),
  )

  pub thrifty_is_told : (turns : Account) → IsThriftyAccount config start log turns → RecordsAreTold config start log turns
  thrifty_is_told turns thrifty = told_of_thrifty first_journal (none_kept config) turns thrifty
