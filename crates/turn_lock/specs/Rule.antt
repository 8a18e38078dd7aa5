-- The rule of the lock's table. Its words are the turn and the length of the book, and its one slot has the state.
use Rattle.std.specs.Prelude.{◌≡◌, ◌⊎◌, ℕ, ◌^◌, ◌<◌, ◌||◌, Bool, true, false, List, [], ◌∷◌, length, Option, Some, None}
use mathlib.Core.Option.{some, none}
use mathlib.Core.Option as maybe
use lib.ListN.{get_elem?}
use Rattle.atomic_table.specs.Table.{State}
use Rattle.turn_lock.specs.declared.known.Line.{Line}
use Rattle.turn_lock.specs.declared.known.Known.{Known}
use Rattle.lane_spec.specs.declared.Numbers.TheVariants.{Only, AllBut}
use Rattle.lane_spec.specs.Numbers.{has}
use Rattle.turn_lock.specs.Book.{AllMade, GoesOn, StandsFor}

module _ {S E : Type 0} where
  -- what the first seat knows
  abbrev pub first_known : S → Known S E
  first_known first = record { first = Some first; number = 0; held = AllBut []; seen = []; mine = []; entered = false; met = []; met_held = Only [] }

  -- what a seat knows that another has met: nothing
  abbrev pub spent : Known S E
  spent = record { first = None; number = 0; held = Only []; seen = []; mine = []; entered = false; met = []; met_held = Only [] }

  -- whether the seat holds the number, by itself or from a seat that it has just met
  abbrev pub holds : Known S E → ℕ → Bool
  holds v n = has v.held n || has v.met_held n

  -- no number is held by two seats
  abbrev pub IsApart : List (Known S E) → Type 0
  IsApart views = (n i j : ℕ) (v w : Known S E) → get_elem? views i ≡ some v → get_elem? views j ≡ some w → holds v n ≡ true → holds w n ≡ true → i ≡ j

-- What a seat knows is so: it has seen a beginning of the book, with all entries of the numbers that it holds. One that is entered holds its own number and has seen the whole book
pub record Knows {S E : Type 0} (first : S) (book : List (Line E)) (v : Known S E) : Type 0 where
  pub lock : (x : S) → v.first ≡ Some x → x ≡ first
  pub seen : GoesOn v.held v.seen book
  pub met : GoesOn v.met_held v.met book
  pub inside : v.entered ≡ true → (v.seen ≡ book) × (has v.held v.number ≡ true)

-- The turn is free: the state is at home and stands for the book, and no seat is entered
pub record IsFree {S E H : Type 0} (entries : S → List E) (home : S → H) (may_make : ℕ → E → Type 0) (first : S) (book : List (Line E)) (turn : ℕ) (homes : List (maybe.Option (Option S))) (views : List (Known S E)) : Type 0 where
  pub state : S
  pub turn_is : turn ≡ 0
  pub slot : homes ≡ some (Some state) ∷ []
  pub stands : StandsFor entries home may_make first book state
  pub nobody : (i : ℕ) (v : Known S E) → get_elem? views i ≡ some v → v.entered ≡ false

-- The turn is taken: the state is out, and just one seat is entered
pub record IsTaken {S E : Type 0} (turn : ℕ) (homes : List (maybe.Option (Option S))) (views : List (Known S E)) : Type 0 where
  pub holder : ℕ
  pub known : Known S E
  pub turn_is : 0 < turn
  pub slot : homes ≡ none ∷ []
  pub there : get_elem? views holder ≡ some known
  pub entered : known.entered ≡ true
  pub alone : (i : ℕ) (v : Known S E) → get_elem? views i ≡ some v → v.entered ≡ true → i ≡ holder

-- There is one book. Its length is the second word, each entry may be made by its number, the turn is free or taken, what the seats know is so, and no two seats hold one number
pub record Rule {S E H : Type 0} (entries : S → List E) (home : S → H) (may_make : ℕ → E → Type 0) (first : S) (s : State (Option S) (Known S E)) : Type 0 where
  pub book : List (Line E)
  pub turn : ℕ
  pub words : s.words ≡ turn ∷ length book ∷ []
  pub short : length book < 2 ^ 63
  pub made : AllMade may_make book
  pub place : IsFree entries home may_make first book turn s.homes s.views ⊎ IsTaken turn s.homes s.views
  pub knows : (i : ℕ) (v : Known S E) → get_elem? s.views i ≡ some v → Knows first book v
  pub apart : IsApart s.views
