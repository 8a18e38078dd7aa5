-- What each step of a lock tells the seat that makes it.
use Rattle.std.specs.Prelude.{◌≡◌, ◌≢◌, ℕ, false, true, List, [], ◌∷◌, ◌++◌, length, Option, Some}
use Rattle.atomic_table.specs.Table.{Step, Me, rest}
use Rattle.turn_lock.specs.declared.known.Known.{Known}
use Rattle.lane_spec.specs.declared.Numbers.TheVariants.{Only}
use Rattle.lane_spec.specs.Numbers.{without, together}
use Rattle.lane_spec.specs.Going.{longer}
use Rattle.turn_lock.specs.Book.{line, AllMade, GoesOn, StandsFor}

-- what a seat knows, and the slots that are out with it
abbrev pub Sat : Type 0 → Type 0 → Type 0
Sat S E = Me (Option S) (Known S E)

-- where the step is made
abbrev pub At : Type 0 → Type 0
At S = Step (Option S)

-- The seat has the turn, and the state, which stands for all that it has then seen
pub record Enters {S E H : Type 0} (entries : S → List E) (home : S → H) (may_make : ℕ → E → Type 0) (old new : Sat S E) : Type 0 where
  pub state : S
  pub slot : new.1 ≡ (0, Some state) ∷ old.1
  pub kept : new.0 ≡ record old.0 { seen = new.0.seen; entered = true }
  pub seen : GoesOn old.0.held old.0.seen new.0.seen
  pub stands : (first : S) → old.0.first ≡ Some first → StandsFor entries home may_make first new.0.seen state

module _ {S E H : Type 0} (entries : S → List E) (home : S → H) (may_make : ℕ → E → Type 0) where
  -- where the turn was free, the seat has it; else nothing changed
  abbrev pub took : At S → Sat S E → ℕ → Sat S E → Type 0
  took step old found new = (found ≡ 0 → Enters entries home may_make old new) × (found ≢ 0 → new ≡ old)

module _ {S E : Type 0} where
  -- what a seat knows once it has made an entry
  abbrev pub appended : Known S E → E → Known S E
  appended v e = record v { seen = v.seen ++ line v.number e ∷ []; mine = v.mine ++ e ∷ [] }

  -- the seat has made the entry that was picked
  abbrev pub wrote : Option E → At S → Sat S E → ℕ → Sat S E → Type 0
  wrote entry step old found new = (e : E) → entry ≡ Some e → new ≡ (appended old.0 e, old.1)

  -- the seat has no turn and no slot
  abbrev pub left : At S → Sat S E → ℕ → Sat S E → Type 0
  left step old found new = new ≡ (record old.0 { entered = false }, rest old.1)

  -- the seat has seen the book, whose length was found
  abbrev pub glanced : (ℕ → E → Type 0) → At S → Sat S E → ℕ → Sat S E → Type 0
  glanced may_make step old found new =
      (new.1 ≡ old.1) × (new.0 ≡ record old.0 { seen = new.0.seen }) × GoesOn old.0.held old.0.seen new.0.seen × (found ≡ length new.0.seen) × AllMade may_make new.0.seen

  -- what a seat knows that has given a number away
  abbrev pub giving : ℕ → Known S E → Known S E
  giving n v = record v { held = without v.held n }

  -- what the new seat knows that gets the number
  abbrev pub given : ℕ → Known S E → Known S E
  given n v = record { first = v.first; number = n; held = Only (n ∷ []); seen = v.seen; mine = []; entered = false; met = []; met_held = Only [] }

  -- the seat has what the other had seen and held, beside its own
  abbrev pub meeting : Known S E → Known S E → Known S E
  meeting v w = record v { met = w.seen; met_held = w.held }

  -- the seat has the longer list, and the numbers of both
  abbrev pub settling : Known S E → Known S E
  settling v = record v { seen = longer v.seen v.met; held = together v.held v.met_held; met = []; met_held = Only [] }

  -- the seat has settled which of the two lists is the longer
  abbrev pub settled : At S → Sat S E → ℕ → Sat S E → Type 0
  settled step old found new =
      (new ≡ (settling old.0, old.1)) × GoesOn old.0.held old.0.seen new.0.seen × GoesOn old.0.met_held old.0.met new.0.seen
