-- Reading a JSON value from the top down: what is found, or the first fault that is met, with its number and its place.
use Rattle.std.specs.Prelude.{ℕ, ◌+◌, ◌&&◌, nat_le, Bool, true, false, not, if◌then◌else◌, List, [], ◌∷◌, ◌++◌, Option, Some, None, option_and_then, Result, Ok, Err, codes, decimal, bytes_eq, is_some}
use Prim.Native.String.{String}
use Rattle.std.specs.List.{list_any}
use Rattle.serde_json.specs.Data.{Data, Items, no_items, item, Members, no_members, member}
use Rattle.serde_json.specs.Find.{get, as_str, as_array, as_object, as_number, as_u64}

-- the place is the path from the value that is read down to the one at fault: each member's name and each position
-- stands behind a `/`, so the value that is read has the empty path
pub record Fault : Type 0 where
  pub number : ℕ
  pub place : List ℕ

abbrev pub Walk : Type 0 → Type 0
Walk A = Result A Fault

-- the value that is read is itself at fault
abbrev pub fault : {A : Type 0} → ℕ → Walk A
fault number = Err (record { number = number; place = [] })

infixl 10 ◌>>=◌
abbrev pub ◌>>=◌ : {A B : Type 0} → Walk A → (A → Walk B) → Walk B
Ok x >>= f = f x
Err e >>= f = Err e

-- the fault of a value, as one of the value that holds it under a member's name or at a position
abbrev pub below : List ℕ → Fault → Fault
below step f = record { number = f.number; place = (codes "/" ++ step) ++ f.place }

-- what is read one step below
abbrev pub within : {A : Type 0} → List ℕ → Walk A → Walk A
within step (Ok x) = Ok x
within step (Err f) = Err (below step f)

-- what was asked for, or this fault
abbrev pub asked : {A : Type 0} → ℕ → Option A → Walk A
asked number (Some x) = Ok x
asked number None = fault number

-- ---- one value

abbrev pub text : Data → Walk (List ℕ)
text d = asked 4 (as_str d)

abbrev pub number : Data → Walk ℕ
number d = asked 4 (option_and_then as_u64 (as_number d))

abbrev pub number_in : ℕ → ℕ → Data → Walk ℕ
number_in least most d = number d >>= λ n. if nat_le least n && nat_le n most then Ok n else fault 5

-- the meaning of a text in a table of texts
abbrev pub meaning : {A : Type 0} → List (List ℕ × A) → List ℕ → Option A
meaning [] word = None
meaning (row ∷ rows) word = if bytes_eq row.0 word then Some row.1 else meaning rows word

abbrev pub choice : {A : Type 0} → List (List ℕ × A) → Data → Walk A
choice rows d = text d >>= λ word. asked 4 (meaning rows word)

-- ---- an array: its items in order, each with what those before it made

abbrev pub items : Data → Walk Items
items d = asked 4 (as_array d)

abbrev pub through : {S : Type 0} → (S → Data → Walk S) → ℕ → S → Items → Walk S
through step position made no_items = Ok made
through step position made (item d ds) =
    within (decimal position) (step made d) >>= λ next. through step (position + 1) next ds

-- one more at the end
abbrev pub put_last : {A : Type 0} → List A → Walk A → Walk (List A)
put_last before read = read >>= λ x. Ok (before ++ x ∷ [])

-- a list of what is read from the items, where an item is read by those before it
abbrev pub each : {A : Type 0} → (List A → Data → Walk A) → Items → Walk (List A)
each read ds = through (λ before d. put_last before (read before d)) 0 [] ds

-- ---- an object: a table of the members that it may have, each with whether it must have it

abbrev pub Table : Type 0
Table = List (List ℕ × Bool)

abbrev pub must : String → List ℕ × Bool
must name = (codes name, true)

abbrev pub may : String → List ℕ × Bool
may name = (codes name, false)

abbrev pub names_of : Members → List (List ℕ)
names_of no_members = []
names_of (member k d ms) = k ∷ names_of ms

-- the table has a member of this name
abbrev pub knows : Table → List ℕ → Bool
knows table name = list_any (λ row. bytes_eq row.0 name) table

-- one of the names is none of the table's
abbrev pub has_unknown : Table → List (List ℕ) → Bool
has_unknown table names = list_any (λ name. not (knows table name)) names

-- the object lacks one of the members that the table says it must have
abbrev pub lacks_one : Table → Data → Bool
lacks_one table d = list_any (λ row. row.1 && not (is_some (get row.0 d))) table

-- the object itself: its kind is tested first, then whether it has an unknown member, then whether it lacks one
abbrev pub object : Table → Data → Walk Data
object table d =
    asked 4 (as_object d) >>= λ members.
    if has_unknown table (names_of members) then fault 3
    else if lacks_one table d then fault 2
    else Ok d

-- the value of a member that must be there
abbrev pub needed_under : {A : Type 0} → List ℕ → (Data → Walk A) → Data → Walk A
needed_under name read d = asked 2 (get name d) >>= λ value. within name (read value)

-- the value of a member, or what stands for it where it is absent
abbrev pub value_or : {A : Type 0} → List ℕ → A → (Data → Walk A) → Option Data → Walk A
value_or name default read None = Ok default
value_or name default read (Some value) = within name (read value)

abbrev pub optional_under : {A : Type 0} → List ℕ → A → (Data → Walk A) → Data → Walk A
optional_under name default read d = value_or name default read (get name d)

-- the same of a name that is written out
abbrev pub needed : {A : Type 0} → String → (Data → Walk A) → Data → Walk A
needed name = needed_under (codes name)

abbrev pub optional : {A : Type 0} → String → A → (Data → Walk A) → Data → Walk A
optional name = optional_under (codes name)
