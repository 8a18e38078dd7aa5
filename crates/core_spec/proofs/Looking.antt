-- What told all of a mount still does when its pass has seen more of the log.
use Rattle.std.proofs.Common.{◌≡◌, ℕ, Bool, true, false, All, List, ◌++◌, length, take, Some, None, refl, sym, ap, subst, ◌∙◌, arith}
use Rattle.std.specs.Prelude.{◌&&◌, not, Option, IsSome, is_some}
use Rattle.std.proofs.lemmas.List.{take-append-le}
use Rattle.bucket_api.specs.LogEvent.{LogEvent}
use Rattle.bucket_api.specs.Passes.{PassState}
use Rattle.core_spec.proofs.Apart.{apart_same}
use Rattle.core_spec.proofs.Covering.{covered_along}
use Rattle.core_spec.specs.Cores.{AreHome, CoreState, Tells, come_to, with_seen}
use Rattle.history_spec.proofs.JournalLaws.{log_grows}
use Rattle.history_spec.specs.Account.{Account}
use Rattle.history_spec.specs.JournalState.{JournalState, OpenCall, first_journal, open_of}
use Rattle.history_spec.specs.Lanes.{IsCovered}
use Rattle.history_spec.specs.Laws.{StaysOver}
use Rattle.lane_spec.specs.Numbers.{has}
use Rattle.thrift_spec.proofs.SameUpTo.{kept_over_longer}

-- a lane of its own that the pass doesn't hold has a call under way
pub lent : (home held : Bool) (found : Option OpenCall) → held ≡ home && not (is_some found) → home ≡ true → held ≡ false → IsSome found
lent true held None is its free = absurd (let both : false ≡ true = sym free ∙ is in cc)
lent true held (Some o) is its free = refl
lent false held found is its free = absurd (cc)

longer_same : (log more : List LogEvent) → take (length log) log ≡ take (length log) (log ++ more)
longer_same log more = sym (take-append-le (length log) log more (omega arith))

module _ {I : Type 0} (core : CoreState (PassState I)) (told : Account) (tells : Tells core told) (more : List LogEvent)
    (its : All (λ (e : LogEvent). has core.pass.held e.lane ≡ false) more) where
  grown : StaysOver core.config core.pass.origin.start core.pass.seen (core.pass.seen ++ more) told
  grown = log_grows core.config core.pass.origin.start core.pass.seen more told tells.is

  -- it comes to the same
  pub looks_same : come_to (with_seen core (core.pass.seen ++ more)) told ≡ come_to core told
  looks_same = grown.reaches

  open_so : (lane : ℕ) → has core.home lane ≡ true → All (λ (e : LogEvent). e.lane ≡ lane → IsSome (open_of (come_to core told).opened lane)) more
  open_so lane home k first within = λ same.
      lent (has core.home lane) (has core.pass.held lane) (open_of (come_to core told).opened lane) (tells.held lane) home
      (ap (has core.pass.held) (sym same) ∙ its k first within)

  -- and tells all
  pub looks_told : Tells (with_seen core (core.pass.seen ++ more)) told
  looks_told = record {
    is = grown.is;
    printed = tells.printed;
    apart = apart_same core.config core.pass.origin.start core.pass.seen (core.pass.seen ++ more) (length core.pass.seen) (longer_same core.pass.seen more)
        first_journal told tells.is.follows tells.is.within tells.apart;
    thrifty = (kept_over_longer core.config core.pass.origin.start core.pass.seen more told tells.is).thrifty tells.thrifty;
    covered = λ lane home. subst (λ s. IsCovered (core.pass.seen ++ more) s lane) (sym grown.reaches)
        (covered_along core.config core.pass.origin.start core.pass.seen more told (come_to core told) lane tells.is refl (open_so lane home) (tells.covered lane home));
    lanes = subst (AreHome core.home) (sym grown.reaches) tells.lanes;
    held = subst (λ (s : JournalState). (lane : ℕ) → has core.pass.held lane ≡ has core.home lane && not (is_some (open_of s.opened lane))) (sym grown.reaches) tells.held;
  }
