-- What is known of an option from what it is equal to. That `None` is no `Some` is `none-some` of std, and a choice
-- between a `Some` and `None` its `cond_some`.
use Rattle.std.proofs.Common.{◌≡◌, Bool, true, false, cond, Option, Some, None, refl}

-- equal options hold equal values
pub same_some : {X : Type 0} (x y : X) → Some x ≡ Some y → x ≡ y
same_some x y e = cc

-- an option that stands behind a test, and that is there
pub when_true : {X : Type 0} (b : Bool) (o : Option X) (x : X) → cond b o None ≡ Some x → (b ≡ true) × (o ≡ Some x)
when_true true o x e = (refl, e)
when_true false o x e = absurd cc
