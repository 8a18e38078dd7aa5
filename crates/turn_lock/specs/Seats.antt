-- What a contract sees of a lock and of a seat.
use Rattle.std.specs.Prelude.{◌≡◌, ℕ, Bool, true, false, List, [], ◌∷◌, ◌++◌, Option, Some, None, is_some}
use mathlib.Core.Bool.{true≢false}
use mathlib.Core.Path.{sym}
use Rattle.atomic_table.specs.Seated.{TableId}
use Rattle.lane_spec.specs.declared.Numbers.{Numbers}
use Rattle.lane_spec.specs.declared.Numbers.TheVariants.{Only, AllBut}
use Rattle.turn_lock.specs.declared.known.Line.{Line}
use Rattle.turn_lock.specs.declared.known.Known.{Known}
use Rattle.turn_lock.specs.Book.{line, entries_of}

-- which lock it is, and the state that it was made with
pub record Lock (S : Type 0) : Type 0 where
  pub table : TableId
  pub first : S

-- A seat: its lock, its own number, the numbers that it holds, the beginning of the book that it has seen, its own entries, and whether it is entered
pub record SeatState (S E : Type 0) : Type 0 where
  pub lock : Lock S
  pub number : ℕ
  pub held : Numbers
  pub seen : List (Line E)
  pub mine : List E
  pub entered : Bool

-- what is in the option
abbrev pub present : {S : Type 0} → (o : Option S) → is_some o ≡ true → S
present (Some x) h = x
present None h = absurd (true≢false (sym h))

-- the slots that are out with a seat: while it is entered, the one slot, with no state
abbrev pub slots_out : {S : Type 0} → Bool → List (ℕ × Option S)
slots_out true = (0, None) ∷ []
slots_out false = []

module _ {S E : Type 0} where
  -- the first seat of a lock
  abbrev pub first_seat : Lock S → SeatState S E
  first_seat lock = record { lock = lock; number = 0; held = AllBut []; seen = []; mine = []; entered = false }

  -- the seat that is split off for a number
  abbrev pub split_off : SeatState S E → ℕ → SeatState S E
  split_off seat n = record { lock = seat.lock; number = n; held = Only (n ∷ []); seen = seat.seen; mine = []; entered = false }

  -- a seat as its thread knows it
  abbrev pub seat_state : TableId → (k : Known S E) → is_some k.first ≡ true → SeatState S E
  seat_state table k live = record {
    lock = record { table = table; first = present k.first live };
    number = k.number;
    held = k.held;
    seen = k.seen;
    mine = k.mine;
    entered = k.entered;
  }

-- A step that appends: where a list is what the seat had seen, and then an entry, the seat has then seen and made that entry too
pub record Appends {S E : Type 0} (list : List E) (old new : SeatState S E) : Type 0 where
  pub seen : (next : E) (later : List E) → list ≡ entries_of old.seen ++ next ∷ later → new.seen ≡ old.seen ++ line old.number next ∷ []
  pub mine : (next : E) (later : List E) → list ≡ entries_of old.seen ++ next ∷ later → new.mine ≡ old.mine ++ next ∷ []
