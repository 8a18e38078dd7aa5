-- A lane of whose events the calls are covered stays so along more of the log.
use Rattle.std.proofs.Common.{◌≡◌, ℕ, All, List, [], ◌∷◌, ◌++◌, append_assoc, append-nil, sym, subst, ◌∙◌}
use Rattle.std.specs.Prelude.{IsSome}
use Rattle.std.proofs.lemmas.List.Elements.{All-head, All-tail}
use Rattle.bucket_api.specs.BucketState.{BucketState}
use Rattle.bucket_api.specs.LogEvent.{LogEvent}
use Rattle.history_spec.proofs.JournalLaws.{log_grows}
use Rattle.history_spec.proofs.LaneLaws.{event_keeps_covered}
use Rattle.history_spec.specs.Account.{Account}
use Rattle.history_spec.specs.Fits.{IsAccount}
use Rattle.history_spec.specs.JournalState.{JournalState, open_of, reached}
use Rattle.history_spec.specs.Lanes.{IsCovered}
use Rattle.history_spec.specs.Laws.{StaysOver}
use Rattle.mount_model.specs.declared.config.Config.{Config}

-- by events of other lanes, or of its call under way
pub covered_along : (config : Config) (start : BucketState) (log more : List LogEvent) (told : Account) (state : JournalState) (lane : ℕ)
    → IsAccount config start log told → reached config start log told ≡ state
    → All (λ (e : LogEvent). e.lane ≡ lane → IsSome (open_of state.opened lane)) more
    → IsCovered log state lane → IsCovered (log ++ more) state lane
covered_along config start log [] told state lane is reaches its covered = subst (λ events. IsCovered events state lane) (sym (append-nil log)) covered
covered_along config start log (e ∷ more) told state lane is reaches its covered =
    subst (λ events. IsCovered events state lane) (append_assoc log (e ∷ []) more)
    (covered_along config start (log ++ e ∷ []) more told state lane grown.is (grown.reaches ∙ reaches)
    (All-tail (λ (x : LogEvent). x.lane ≡ lane → IsSome (open_of state.opened lane)) e more its)
    (subst (λ s. IsCovered (log ++ e ∷ []) s lane) (grown.reaches ∙ reaches)
    (event_keeps_covered config start log told e lane is (subst (λ s. IsCovered log s lane) (sym reaches) covered)
    (λ same. subst (λ (s : JournalState). IsSome (open_of s.opened lane)) (sym reaches)
    (All-head (λ (x : LogEvent). x.lane ≡ lane → IsSome (open_of state.opened lane)) e more its same)))))
  where
    grown : StaysOver config start log (log ++ e ∷ []) told
    grown = log_grows config start log (e ∷ []) told is
