-- A book: its lines, the oldest first, each an entry with the number of the seat that made it.
use Rattle.std.specs.Prelude.{◌≡◌, ℕ, List, ◌∷◌, ◌++◌, map, All}
use Rattle.turn_lock.specs.declared.known.Line.{Line}
use Rattle.lane_spec.specs.declared.Numbers.{Numbers}
use Rattle.lane_spec.specs.Going.{GoesOnBy}

module _ {E : Type 0} where
  -- an entry, signed by its maker's number
  abbrev pub line : ℕ → E → Line E
  line n e = record { by = n; entry = e }

  -- the entries of the book, without the numbers
  abbrev pub entries_of : List (Line E) → List E
  entries_of book = map (λ x. x.entry) book

  -- the number of the seat that made the line
  abbrev pub maker : Line E → ℕ
  maker x = x.by

  -- the list goes on from what was seen, and has no further entry of a number that was held
  abbrev pub GoesOn : Numbers → List (Line E) → List (Line E) → Type 0
  GoesOn held seen list = GoesOnBy maker held seen list

  -- each entry may be made by its number
  abbrev pub AllMade : (ℕ → E → Type 0) → List (Line E) → Type 0
  AllMade may_make book = All (λ x. may_make x.by x.entry) book

  -- a list of entries goes on from the book by one that a seat of this number may make
  abbrev pub MayAppend : (ℕ → E → Type 0) → ℕ → List (Line E) → List E → Type 0
  MayAppend may_make number book list = (next : E) × (later : List E) × (list ≡ entries_of book ++ next ∷ later) × may_make number next

-- The state stands for the book: its list is the book's, each entry may be made by its number, and its home is that of the first state
pub record StandsFor {S E H : Type 0} (entries : S → List E) (home : S → H) (may_make : ℕ → E → Type 0) (first : S) (book : List (Line E)) (state : S) : Type 0 where
  pub list : entries state ≡ entries_of book
  pub made : AllMade may_make book
  pub at_home : home state ≡ home first
