-- What is said of a result, from what was said of it.
use Rattle.std.proofs.Common.{Result, Ok, Err, IfOk, OnOk, OnErr, refl}
use Rattle.std.specs.Result.{IsOk, MatchResult}

module _ {A E : Type 0} (result : Result A E) where
  -- of a success, from two things that hold of it
  pub IfOk-both : {P R : A → Type 0} {Q : Type 0} → ((a : A) → P a → Q → R a) → IfOk result P → OnOk result Q → IfOk result R
  IfOk-both {P} {R} {Q} both = by result
    where
      by : (r : Result A E) → IfOk r P → OnOk r Q → IfOk r R
      by (Ok a) p q = both a p q
      by (Err e) p q = tt

  pub OnErr-then : {Q R : Type 0} → (Q → R) → OnErr result Q → OnErr result R
  OnErr-then {Q} {R} then = by result
    where
      by : (r : Result A E) → OnErr r Q → OnErr r R
      by (Ok a) q = tt
      by (Err e) q = then q

  pub OnErr-any : {Q : Type 0} → Q → OnErr result Q
  OnErr-any {Q} q = by result
    where
      by : (r : Result A E) → OnErr r Q
      by (Ok a) = tt
      by (Err e) = q

  -- it is a success where the case of a failure can't be
  pub IsOk-else : (P : A → Type 0) (Q : E → Type 0) → ((e : E) → ¬ Q e) → MatchResult result P Q → IsOk result
  IsOk-else P Q never = by result
    where
      by : (r : Result A E) → MatchResult r P Q → IsOk r
      by (Ok a) cases = refl
      by (Err e) cases = absurd (never e cases)
