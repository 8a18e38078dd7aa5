-- The laws of accounts and journals: one more turn, longer logs, and beginnings.
use Rattle.std.proofs.Common.{◌≡◌, ℕ, ◌≤◌, List, [], ◌∷◌, ◌++◌, take, length, fold, map, refl, sym, ap, subst, ◌∙◌, arith, length-append}
use Rattle.std.proofs.lemmas.List.{length-take, take-append-le, take-take}
use Rattle.bucket_api.specs.BucketState.{BucketState}
use Rattle.bucket_api.specs.LogEvent.{LogEvent}
use Rattle.history_spec.specs.Account as account
use Rattle.history_spec.specs.Account.{Account, Turn, front_in, front_of, journal_of, last_front, printed}
use Rattle.history_spec.specs.Fits.{Fits, Follows, IsAccount}
use Rattle.history_spec.specs.Laws.{AccountIsCut, EntryIsAdded, JournalIsCut, JournalStays, LogGrows, StaysOver}
use Rattle.history_spec.specs.JournalState.{JournalState, after_turn, after_turns, first_journal, reached}
use Rattle.history_spec.proofs.Following.{Follows-append, Follows-first, Follows-rest, StaysSame, after_turns-append, front_after, fronts_rise, stays_same}
use Rattle.mount_model.specs.Journal.{Entry}
use Rattle.mount_model.specs.declared.config.Config.{Config}

pub entry_is_added : EntryIsAdded
entry_is_added config start log account turn is may within = record {
  is = record {
    follows = Follows-append config start log first_journal account (turn ∷ []) is.follows (may, tt);
    within = subst (λ (s : JournalState). s.front ≤ length log) (sym (after_turns-append config start log first_journal account (turn ∷ [])))
        (subst (λ n. n ≤ length log) (sym (front_after config start log (reached config start log account) turn may)) within);
  };
  reaches = after_turns-append config start log first_journal account (turn ∷ []);
}

-- ---- other logs
stays_over : (config : Config) (start : BucketState) (log other : List LogEvent) (account : Account) (upto : ℕ) → take upto log ≡ take upto other → upto ≤ length other
    → Follows config start log first_journal account → (reached config start log account).front ≤ upto → StaysOver config start log other account
stays_over config start log other account upto same within follows front = by (stays_same config start log other upto same first_journal account follows front)
  where
    by : StaysSame config start log other upto same first_journal account → StaysOver config start log other account
    by stays = record {
      is = record {
        follows = stays.follows;
        within = let is : (reached config start other account).front ≡ (reached config start log account).front = ap (λ (s : JournalState). s.front) stays.reaches in omega arith;
      };
      reaches = stays.reaches;
    }

pub log_grows : LogGrows
log_grows config start log more account is =
    stays_over config start log (log ++ more) account (length log) (sym (take-append-le (length log) log more (omega arith))) (omega (arith, length-append log more)) is.follows is.within

pub journal_stays : JournalStays
journal_stays config start log more journal fits = record { account = fits.account; told = fits.told; is = (log_grows config start log more fits.account fits.is).is }

pub account_is_cut : AccountIsCut
account_is_cut config start log account more is =
    stays_over config start log (take front log) account front (sym (take-take front front log (omega arith))) (omega (arith, inside, length-take front log)) first (omega arith)
  where
    front : ℕ
    front = (reached config start log account).front

    first : Follows config start log first_journal account
    first = Follows-first config start log first_journal account more is.follows

    inside : front ≤ length log
    inside =
        let rise : front ≤ (after_turns config start log (reached config start log account) more).front =
        fronts_rise config start log (reached config start log account) more (Follows-rest config start log first_journal account more is.follows) in
        let whole : (reached config start log (account ++ more)).front ≡ (after_turns config start log (reached config start log account) more).front =
        ap (λ (s : JournalState). s.front) (after_turns-append config start log first_journal account more) in
        let within : (reached config start log (account ++ more)).front ≤ length log = is.within in
        omega arith

-- ---- journals
front_printed : (turn : Turn) → front_in (printed turn) ≡ front_of turn
front_printed (account.take call front request) = refl
front_printed (account.done call front h items fill) = refl
front_printed (account.tick front seconds) = refl

-- the last front of what is printed of turns is that which the mount had seen at the last one
last_front_from : (config : Config) (start : BucketState) (log : List LogEvent) (state : JournalState) (turns : Account) → Follows config start log state turns
    → (after_turns config start log state turns).front ≡ fold (λ front (entry : Entry). front_in entry) state.front (map printed turns)
last_front_from config start log state [] follows = refl
last_front_from config start log state (turn ∷ turns) follows =
    last_front_from config start log (after_turn config start log state turn) turns follows.1
    ∙ ap (λ front. fold (λ front (entry : Entry). front_in entry) front (map printed turns)) (front_after config start log state turn follows.0 ∙ sym (front_printed turn))

record IsSplit (account : Account) (journal : List Entry) : Type 0 where
  first : Account
  rest : Account
  whole : account ≡ first ++ rest
  told : journal_of first ≡ journal

split_printed : (account : Account) (journal more : List Entry) → journal_of account ≡ journal ++ more → IsSplit account journal
split_printed account [] more told = record { first = []; rest = account; whole = refl; told = refl }
split_printed [] (entry ∷ journal) more told = absurd (cc)
split_printed (turn ∷ turns) (entry ∷ journal) more told = by (split_printed turns journal more (let same : journal_of turns ≡ journal ++ more = cc in same))
  where
    by : IsSplit turns journal → IsSplit (turn ∷ turns) (entry ∷ journal)
    by split = let head : printed turn ≡ entry = cc in record {
      first = turn ∷ split.first;
      rest = split.rest;
      whole = ap (λ (ts : Account). turn ∷ ts) split.whole;
      told = ap (λ (e : Entry). e ∷ journal_of split.first) head ∙ ap (λ (es : List Entry). entry ∷ es) split.told;
    }

pub journal_is_cut : JournalIsCut
journal_is_cut config start log journal more fits = by (split_printed fits.account journal more fits.told)
  where
    by : IsSplit fits.account journal → Fits config start (take (last_front journal) log) journal
    by split = record {
      account = split.first;
      told = split.told;
      is = subst (λ front. IsAccount config start (take front log) split.first)
          (last_front_from config start log first_journal split.first (Follows-first config start log first_journal split.first split.rest whole.follows) ∙ ap last_front split.told)
          (account_is_cut config start log split.first split.rest whole).is;
    }
      where
        whole : IsAccount config start log (split.first ++ split.rest)
        whole = subst (IsAccount config start log) split.whole fits.is
