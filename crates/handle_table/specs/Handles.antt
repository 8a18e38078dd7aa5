-- What contracts see of a table of handles, and what each call makes of it. A handle is the number that OPEN and OPENDIR
-- answer, `fh` of fuse.h; files and directories share the numbers.
use Rattle.std.specs.Prelude.{◌≡◌, ℕ, ◌+◌, ◌-◌, ◌<◌, ◌≤◌, List, Option, Some, ◌==◌, refl, length, filter, unwrap_or}
use Rattle.std.specs.Coded.{Coded, code_by, coded×, coded_ℕ, coded_list, coded_option}
use Rattle.std.specs.FinMap as fin
use Rattle.std.specs.Ordering.{nat_cmp}
use Rattle.object_names.specs.KindCode.{kind_code}
use Rattle.object_names.specs.declared.shown.NodeKind.{NodeKind}
use Rattle.object_names.specs.declared.shown.DirItem.{DirItem}
use Rattle.spare_maps.specs.SpareMaps.{Numbered}

-- an open handle: its node, and for a directory its entries
pub record Opened : Type 0 where
  pub node : ℕ
  pub items : Option (List DirItem)

-- the open handles by their numbers, the number that the next one gets, and for how many more there is room
pub record Handles : Type 0 where
  pub handles : fin.FinMap nat_cmp Opened
  pub next : ℕ
  pub spare : ℕ

-- ---- how values are told apart
abbrev pub item_code : Coded DirItem
item_code =
    code_by (List ℕ × NodeKind) (coded× (coded_list coded_ℕ) kind_code)
    (λ i. (i.shown, i.kind)) (λ p. record { shown = p.0; kind = p.1 }) (λ _. refl)

abbrev pub opened_code : Coded Opened
opened_code = code_by (ℕ × Option (List DirItem)) (coded× coded_ℕ (coded_option (coded_list item_code))) (λ h. (h.node, h.items)) (λ p. record { node = p.0; items = p.1 }) (λ _. refl)

abbrev pub handles_code : Coded Handles
handles_code =
    code_by (fin.FinMap nat_cmp Opened × (ℕ × ℕ)) (coded× (fin.code coded_ℕ opened_code) (coded× coded_ℕ coded_ℕ))
    (λ t. (t.handles, (t.next, t.spare))) (λ p. record { handles = p.0; next = p.1.0; spare = p.1.1 }) (λ _. refl)

-- ---- what calls make of a table
-- no handle is open, and the first one gets 1
abbrev pub no_handles : Handles
no_handles = record { handles = fin.empty; next = 1; spare = 0 }

-- one more handle, under the next number
abbrev pub opened : Handles → Opened → Handles
opened table handle = record { handles = fin.insert table.handles table.next handle; next = table.next + 1; spare = table.spare - 1 }

-- a handle is open no more
abbrev pub released : Handles → ℕ → Handles
released table fh = record table { handles = fin.remove table.handles fh }

-- how many handles are open on a node
abbrev pub open_on : fin.FinMap nat_cmp Opened → ℕ → ℕ
open_on handles node = length (filter (λ handle. handle.node == node) (fin.values handles))

-- ---- what holds of every table
-- handles have numbers that were given before, and no node has more of them than were given
pub record IsHandleTable (table : Handles) : Type 0 where
  pub given : (fh : ℕ) (handle : Opened) → fin.get table.handles fh ≡ Some handle → fh < table.next
  pub bounded : (node : ℕ) → open_on table.handles node ≤ table.next

-- the count that a map from nodes has for one
abbrev pub count_at : fin.FinMap nat_cmp ℕ → ℕ → ℕ
count_at counts node = unwrap_or (fin.get counts node) 0

-- the table that handles, counts, the next number and the spare make is one, the counts are those of its handles, and
-- both maps have its spare
pub record HoldsHandles (handles : Numbered Opened) (held : Numbered ℕ) (next spare : ℕ) : Type 0 where
  pub table : IsHandleTable (record { handles = handles.map; next = next; spare = spare })
  pub counts : (node : ℕ) → count_at held.map node ≡ open_on handles.map node
  pub handle_room : spare ≤ handles.spare
  pub held_room : spare ≤ held.spare
