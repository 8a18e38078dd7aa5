-- Before its first call, an account of no turns tells all of a mount, whose lanes have made nothing yet.
use Rattle.std.proofs.Common.{◌≡◌, ◌≢◌, ℕ, ◌+◌, true, false, All, List, [], ◌∷◌, drop, refl, sym, ap, ◌∙◌, arith, inl, inr}
use Rattle.std.specs.Prelude.{◌==◌, ◌⊎◌, if◌then◌else◌}
use Rattle.std.proofs.Math.Seq.{take-length}
use Rattle.std.proofs.lemmas.Bool.Decides.{eqb_tells}
use Rattle.std.proofs.lemmas.List.Elements.{All-head, All-tail}
use Rattle.bucket_api.specs.LogEvent.{LogEvent}
use Rattle.core_spec.proofs.Taking.{and_true}
use Rattle.core_spec.specs.Laws.{FirstIsTold}
use Rattle.history_spec.specs.Observing.{moments_of}
use Rattle.lane_spec.specs.Numbers.{has}
use Rattle.lane_spec.specs.declared.Numbers.{Numbers}

none_made : (held : Numbers) (lane first : ℕ) (log : List LogEvent) → has held lane ≡ true → All (λ (e : LogEvent). has held e.lane ≡ false) log → moments_of lane first log ≡ []
none_made held lane first [] its none = refl
none_made held lane first (e ∷ log) its none = by (eqb_tells e.lane lane) (none_made held lane (first + 1) log its (All-tail (λ (x : LogEvent). has held x.lane ≡ false) e log none))
  where
    by : (((e.lane == lane) ≡ true) × (e.lane ≡ lane)) ⊎ (((e.lane == lane) ≡ false) × (e.lane ≢ lane)) → moments_of lane (first + 1) log ≡ []
        → (if e.lane == lane then first ∷ moments_of lane (first + 1) log else moments_of lane (first + 1) log) ≡ []
    by (inl same) later = absurd (
        let lacks : has held e.lane ≡ false = All-head (λ (x : LogEvent). has held x.lane ≡ false) e log none in
        let never : false ≡ true = sym lacks ∙ (ap (has held) same.1 ∙ its) in
        cc)
    by (inr far) later = ap (λ t. if t then first ∷ moments_of lane (first + 1) log else moments_of lane (first + 1) log) far.0 ∙ later

pub first_is_told : (I : Type 0) → FirstIsTold I
first_is_told I config pass unused = record {
  tells = record {
    is = record { follows = tt; within = omega arith };
    printed = refl;
    apart = tt;
    thrifty = tt;
    covered = λ lane home. ap (λ events. moments_of lane 1 (drop 0 events)) (take-length pass.seen) ∙ none_made pass.held lane 1 pass.seen home unused;
    lanes = record { opened = tt; ended = tt };
    held = λ lane. sym (and_true (has pass.held lane));
  };
  beside = record { open_calls = tt; done_calls = tt };
}
