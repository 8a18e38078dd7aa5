-- What a pass holds once a lane that was split off is met again.
use Rattle.std.proofs.Common.{◌≡◌, ℕ, Bool, true, false, not, ◌&&◌, ◌||◌, ◌==◌, [], ◌∷◌, refl, ap, ◌∙◌, subst, sym, arith, eqb-true}
use Rattle.base_laws.proofs.Tests.{nat_eq_flip}
use Rattle.lane_spec.specs.declared.Numbers.{Numbers}
use Rattle.lane_spec.specs.declared.Numbers.TheVariants.{Only}
use Rattle.lane_spec.specs.Numbers.{has, HasAll, without, together}
use Rattle.lane_spec.proofs.Held.{has-without, has-together}

-- a lane that was split off and met again is held as before, and so is every other one
pub has-rejoined : (held : Numbers) (lane k : ℕ) → has held lane ≡ true → has (together (without held lane) (Only (lane ∷ []))) k ≡ has held k
has-rejoined held lane k mine =
    has-together (without held lane) (Only (lane ∷ [])) k
    ∙ (ap (λ b. b || ((lane == k) || false)) (has-without held lane k)
    ∙ (ap (λ t. (has held k && not (k == lane)) || (t || false)) (nat_eq_flip lane k)
    ∙ by (k == lane) refl (has held k) refl))
  where
    by : (here : Bool) → (k == lane) ≡ here → (had : Bool) → has held k ≡ had → (had && not here) || (here || false) ≡ had
    by true is true e = refl
    by true is false e = let lost : true ≡ false = sym mine ∙ (ap (has held) (sym (eqb-true k lane is)) ∙ e) in absurd cc
    by false is true e = refl
    by false is false e = refl

-- so who held all lanes holds them all again
pub HasAll-rejoined : (held : Numbers) (lane : ℕ) → HasAll held → HasAll (together (without held lane) (Only (lane ∷ [])))
HasAll-rejoined held lane all k = has-rejoined held lane k (all lane) ∙ all k
