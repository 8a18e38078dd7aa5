-- A call that is taken at the end of a log, and done at the end of a longer one, is added to the account whole.
use Rattle.std.proofs.Common.{◌≡◌, ◌≤◌, List, [], ◌∷◌, ◌++◌, append_assoc, drop, length, take, Some, refl, sym, ap, subst, ◌∙◌, arith, length-append}
use Rattle.std.specs.Prelude.{unwrap_or}
use Rattle.std.specs.Option.{option_map_or}
use Rattle.std.proofs.lemmas.List.{take-append-drop, take-append-le}
use Rattle.bucket_api.proofs.ContentLaws.{content_of-grown}
use Rattle.bucket_api.specs.BucketState.{BucketState}
use Rattle.bucket_api.specs.Log.{content_of}
use Rattle.bucket_api.specs.LogEvent.{LogEvent}
use Rattle.history_spec.specs.Account.{Account, Item, Turn}
use Rattle.history_spec.specs.Fits.{IsAccount, MayBeDone, MayFollow}
use Rattle.history_spec.specs.JournalState.{JournalState, OpenCall, after_done, after_turn, at_front, open_of, reached, taken_by, with_taken}
use Rattle.history_spec.specs.Laws.{CallIsAdded, ContentsStay, GoesOn, IsAdded, IsTaken, StaysOver, done_of, take_of}
use Rattle.history_spec.proofs.Agreeing.{at_same}
use Rattle.history_spec.proofs.JournalLaws.{entry_is_added, log_grows}
use Rattle.history_spec.proofs.Lanes.{open_of-first}
use Rattle.mount_model.specs.declared.config.Config.{Config}
use Rattle.mount_model.specs.declared.journal.Fill.{Fill}
use Rattle.mount_model.specs.declared.journal.How.{How}
use Rattle.mount_rules.specs.Overlap.{opened_at}
use Rattle.mount_rules.specs.Rules.{AtTake}

module _ (config : Config) (start : BucketState) (log more : List LogEvent) (account : Account) (o : OpenCall) (how : How) (items : List Item) (fill : Fill) where
  abbrev before : JournalState
  before = reached config start log account

  abbrev last : Turn
  last = done_of o (length (log ++ more)) how items fill

  abbrev at_end : List LogEvent → AtTake
  at_end whole = at_front config start whole before.clock (length log)

  -- the take leaves the same over both logs
  taken_same : IsTaken config start log before o → o.front ≡ length log → after_turn config start (log ++ more) before (take_of o) ≡ with_taken before o
  taken_same taken front = ap (with_taken before)
      (ap (λ n. taken_by before o.call n (opened_at (at_front config start (log ++ more) before.clock n) before.mount o.taken.request)) front
      ∙ (ap (λ at. taken_by before o.call (length log) (opened_at at before.mount o.taken.request)) (sym at)
      ∙ sym taken.so))
    where
      same : take (length log) log ≡ take (length log) (log ++ more)
      same = sym (take-append-le (length log) log more (omega arith))

      at : at_end log ≡ at_end (log ++ more)
      at = at_same start log (log ++ more) (length log) same config before.clock (length log) (omega arith)

  module _ (is : IsAccount config start log account) (taken : IsTaken config start log before o) (may : MayBeDone start (log ++ more) (with_taken before o) o (length (log ++ more)) how items) where
    front : o.front ≡ length log
    front = ap (λ (x : OpenCall). x.front) taken.so

    grown : StaysOver config start log (log ++ more) account
    grown = log_grows config start log more account is

    took : GoesOn config start (log ++ more) account (take_of o)
    took = entry_is_added config start (log ++ more) account (take_of o) grown.is
        (subst (λ s. MayFollow start (log ++ more) s (take_of o)) (sym grown.reaches)
        (record { onward = let within : before.front ≤ length log = is.within in omega (arith, front); next = (taken.free, taken.next) }))
        (omega (arith, front, length-append log more))

    reaches : reached config start (log ++ more) (account ++ take_of o ∷ []) ≡ with_taken before o
    reaches = took.reaches ∙ (ap (λ s. after_turn config start (log ++ more) s (take_of o)) grown.reaches ∙ taken_same taken front)

    found : open_of (with_taken before o).opened o.call.lane ≡ Some o
    found = open_of-first o before.opened o.call.lane refl

    ended : GoesOn config start (log ++ more) (account ++ take_of o ∷ []) last
    ended = entry_is_added config start (log ++ more) (account ++ take_of o ∷ []) last took.is
        (subst (λ s. MayFollow start (log ++ more) s last) (sym reaches)
        (record { onward = omega (arith, front, length-append log more); next = (o, found, refl, may) }))
        (omega arith)

    turns : (account ++ take_of o ∷ []) ++ last ∷ [] ≡ account ++ take_of o ∷ last ∷ []
    turns = append_assoc account (take_of o ∷ []) (last ∷ [])

    is_added : IsAdded config start log more account o how items fill
    is_added = record {
      is = subst (IsAccount config start (log ++ more)) turns ended.is;
      reaches = sym (ap (reached config start (log ++ more)) turns)
          ∙ (ended.reaches
          ∙ (ap (λ s. after_turn config start (log ++ more) s last) reaches
          ∙ ap (λ call. option_map_or (after_done start (log ++ more) (with_taken before o) (length (log ++ more)) how items) call (with_taken before o)) found));
    }

pub call_is_added : CallIsAdded
call_is_added config start log more account o how items fill is taken may = is_added config start log more account o how items fill is taken may

pub contents_stay : ContentsStay
contents_stay config start log clock front name generation content known = (
  ap (λ found. unwrap_or found []) known,
  subst (λ whole. content_of start whole name generation ≡ Some content) (take-append-drop front log) (content_of-grown start (take front log) (drop front log) name generation content known),
)
