-- What is known where a guard refuses nothing: what it looked at is there.
use Rattle.std.proofs.Common.{◌≡◌, ℕ, Bool, true, false, List, Option, Some, None, refl, ap, ◌∙◌, length, ◌≤◌, nat_le, nat_eq, arith}
use Rattle.std.proofs.lemmas.Bool.Decides.{Decides-eqb, nat_tests}
use Rattle.std.specs.Prelude.{if◌then◌else◌, ◌&&◌, not, is_some, option_and_then}
use Rattle.std.specs.Option.{option_map_or}
use Rattle.handle_table.specs.Handles.{Opened}
use Rattle.object_names.proofs.ComponentLemmas.{IsComponent-from_no_fault}
use Rattle.object_names.specs.Components.{IsComponent, name_fault}
use Rattle.object_names.specs.Paths.{path_max}
use Rattle.object_names.specs.declared.component.NameFault.{NameFault}
use Rattle.object_names.specs.declared.component.NameFault.TheVariants.{TooLong}
use Rattle.object_names.specs.declared.shown.DirItem.{DirItem}
use Rattle.object_names.specs.declared.shown.NodeKind.{NodeKind}
use Rattle.object_names.specs.declared.shown.NodeKind.TheVariants.{Dir, File, Symlink}
use Rattle.fuse_replies.specs.Errno.{ebadf, einval, enametoolong, enomem, enotdir, estale}
use Rattle.mount_rules.specs.Guards.{errno_of_fault, file_opened, in_directory, in_file, is_directory, is_file_of, longest_read, not_directory, on_file, on_live}
use Rattle.mount_rules.specs.Guards.{on_open_directory, on_open_file, part_refusal, size_refusal}
use Rattle.mount_rules.specs.View.{Sight, View, child_of}
use Rattle.mount_laws.proofs.Memory.{errors_differ}

-- a live node was seen, and what comes behind the guard refuses nothing either
pub record SeesLive (seen : Option Sight) (next : Sight → Option ℕ) : Type 0 where
  pub sight : Sight
  pub is : seen ≡ Some sight
  pub live : sight.live ≡ true
  pub next_none : next sight ≡ None

refuses : {errno : ℕ} → Some errno ≡ None → ⊥
refuses e = cc

pub on_live-none : (seen : Option Sight) (next : Sight → Option ℕ) → on_live seen next ≡ None → SeesLive seen next
on_live-none None next none = absurd (refuses none)
on_live-none (Some sight) next none = by sight.live refl none
  where
    by : (live : Bool) → sight.live ≡ live → (if live then next sight else Some estale) ≡ None → SeesLive (Some sight) next
    by true is e = record { sight = sight; is = refl; live = is; next_none = e }
    by false is e = absurd (refuses e)

-- a live directory was seen
pub record SeesDirectory (seen : Option Sight) (next : Sight → Option ℕ) : Type 0 where
  pub sight : Sight
  pub is : seen ≡ Some sight
  pub live : sight.live ≡ true
  pub directory : sight.kind ≡ Dir
  pub next_none : next sight ≡ None

pub in_directory-none : (seen : Option Sight) (next : Sight → Option ℕ) → in_directory seen next ≡ None → SeesDirectory seen next
in_directory-none seen next none = by (on_live-none seen _ none)
  where
    kinds : (sight : Sight) → seen ≡ Some sight → sight.live ≡ true → (kind : NodeKind) → sight.kind ≡ kind
        → (if is_directory kind then next sight else Some enotdir) ≡ None → SeesDirectory seen next
    kinds sight is live Dir kind e = record { sight = sight; is = is; live = live; directory = kind; next_none = e }
    kinds sight is live File kind e = absurd (refuses e)
    kinds sight is live Symlink kind e = absurd (refuses e)

    by : SeesLive seen (λ sight. if is_directory sight.kind then next sight else Some enotdir) → SeesDirectory seen next
    by s = kinds s.sight s.is s.live s.sight.kind refl s.next_none

-- of two guards behind this one, where one asks no less than the other
pub in_directory-less : (seen : Option Sight) (next less : Sight → Option ℕ) → ((sight : Sight) → next sight ≡ None → less sight ≡ None)
    → in_directory seen next ≡ None → in_directory seen less ≡ None
in_directory-less seen next less fewer none =
    let d = in_directory-none seen next none in
    ap (λ s. in_directory s less) d.is
    ∙ ap (λ live. if live then (if is_directory d.sight.kind then less d.sight else Some enotdir) else Some estale) d.live
    ∙ ap (λ kind. if is_directory kind then less d.sight else Some enotdir) d.directory
    ∙ fewer d.sight d.next_none

-- a name in a directory is a component, and its path is not too long
pub record IsChild (directory : Sight) (part : List ℕ) : Type 0 where
  pub component : IsComponent part
  pub short : length (child_of directory part) ≤ path_max

pub part_refusal-none : (part : List ℕ) (directory : Sight) → part_refusal part directory ≡ None → IsChild directory part
part_refusal-none part directory none = by (name_fault part) refl none
  where
    short : (b : Bool) → nat_le (length (child_of directory part)) path_max ≡ b → (if b then None else Some enametoolong) ≡ None → length (child_of directory part) ≤ path_max
    short true is e = grind (arith, nat_tests, is)
    short false is e = absurd (refuses e)

    by : (fault : Option NameFault) → name_fault part ≡ fault
        → option_map_or (λ f. Some (errno_of_fault f)) fault (if nat_le (length (child_of directory part)) path_max then None else Some enametoolong) ≡ None → IsChild directory part
    by None is e = record { component = IsComponent-from_no_fault part is; short = short (nat_le (length (child_of directory part)) path_max) refl e }
    by (Some fault) is e = absurd (refuses e)

-- an open directory was seen, on the node
pub record SeesEntries (node : ℕ) (seen : Option Opened) (next : List DirItem → Option ℕ) : Type 0 where
  pub handle : Opened
  pub is : seen ≡ Some handle
  pub node_is : handle.node ≡ node
  pub items : List DirItem
  pub items_are : handle.items ≡ Some items
  pub next_none : next items ≡ None

pub on_open_directory-none : (node : ℕ) (seen : Option Opened) (next : List DirItem → Option ℕ) → on_open_directory node seen next ≡ None → SeesEntries node seen next
on_open_directory-none node None next none = absurd (refuses none)
on_open_directory-none node (Some handle) next none = on (nat_eq handle.node node) refl none
  where
    with_items : handle.node ≡ node → (items : Option (List DirItem)) → handle.items ≡ items → option_map_or next items (Some ebadf) ≡ None → SeesEntries node (Some handle) next
    with_items same None is e = absurd (refuses e)
    with_items same (Some items) is e = record { handle = handle; is = refl; node_is = same; items = items; items_are = is; next_none = e }

    on : (b : Bool) → nat_eq handle.node node ≡ b → option_map_or next (if b then handle.items else None) (Some ebadf) ≡ None → SeesEntries node (Some handle) next
    on true same e = with_items ((Decides-eqb handle.node node).0 same) handle.items refl e
    on false same e = absurd (refuses e)

-- a live file was seen
pub record SeesFile (seen : Option Sight) (next : Sight → Option ℕ) : Type 0 where
  pub sight : Sight
  pub is : seen ≡ Some sight
  pub live : sight.live ≡ true
  pub file : sight.kind ≡ File
  pub next_none : next sight ≡ None

pub in_file-none : (seen : Option Sight) (next : Sight → Option ℕ) → in_file seen next ≡ None → SeesFile seen next
in_file-none seen next none = by (on_live-none seen _ none)
  where
    kinds : (sight : Sight) → seen ≡ Some sight → sight.live ≡ true → (kind : NodeKind) → sight.kind ≡ kind → on_file kind (next sight) ≡ None → SeesFile seen next
    kinds sight is live File kind e = record { sight = sight; is = is; live = live; file = kind; next_none = e }
    kinds sight is live Dir kind e = absurd (refuses e)
    kinds sight is live Symlink kind e = absurd (refuses e)

    by : SeesLive seen (λ sight. on_file sight.kind (next sight)) → SeesFile seen next
    by s = kinds s.sight s.is s.live s.sight.kind refl s.next_none

-- a handle of a file was seen, on the node, which is there
pub record SeesOpenFile (node : ℕ) (view : View) (next : Sight → Option ℕ) : Type 0 where
  pub handle : Opened
  pub is : view.handle ≡ Some handle
  pub node_is : handle.node ≡ node
  pub no_items : handle.items ≡ None
  pub sight : Sight
  pub seen : view.node ≡ Some sight
  pub file : is_directory sight.kind ≡ false
  pub next_none : next sight ≡ None

pub on_open_file-none : (node : ℕ) (view : View) (next : Sight → Option ℕ) → on_open_file node view next ≡ None → SeesOpenFile node view next
on_open_file-none node view next none = by view.handle view.node refl refl none
  where
    items_none : (items : Option (List DirItem)) → is_some items ≡ false → items ≡ None
    items_none None e = refl
    items_none (Some items) e = absurd cc

    kinds : (handle : Opened) (sight : Sight) → view.handle ≡ Some handle → view.node ≡ Some sight → nat_eq handle.node node ≡ true → is_some handle.items ≡ false
        → (directory : Bool) → is_directory sight.kind ≡ directory → option_map_or next (if directory then None else Some sight) (Some ebadf) ≡ None → SeesOpenFile node view next
    kinds handle sight h s same held true k e = absurd (refuses e)
    kinds handle sight h s same held false k e = record {
      handle = handle;
      is = h;
      node_is = (Decides-eqb handle.node node).0 same;
      no_items = items_none handle.items held;
      sight = sight;
      seen = s;
      file = k;
      next_none = e;
    }

    tests : (handle : Opened) (seen : Option Sight) → view.handle ≡ Some handle → view.node ≡ seen
        → (same held : Bool) → nat_eq handle.node node ≡ same → is_some handle.items ≡ held
        → option_map_or next (if same && not held then option_and_then not_directory seen else None) (Some ebadf) ≡ None → SeesOpenFile node view next
    tests handle (Some sight) h s true false same held e = kinds handle sight h s same held (is_directory sight.kind) refl e
    tests handle None h s true false same held e = absurd (refuses e)
    tests handle seen h s true true same held e = absurd (refuses e)
    tests handle seen h s false held_ same held e = absurd (refuses e)

    by : (handle : Option Opened) (seen : Option Sight) → view.handle ≡ handle → view.node ≡ seen
        → option_map_or next (option_and_then (λ (h : Opened). if is_file_of node h then option_and_then not_directory seen else None) handle) (Some ebadf) ≡ None → SeesOpenFile node view next
    by None seen h s e = absurd (refuses e)
    by (Some handle) seen h s e = tests handle seen h s (nat_eq handle.node node) (is_some handle.items) refl refl e

-- ---- no guard answers want of memory
pub on_live-memory : (seen : Option Sight) (next : Sight → Option ℕ) → ((sight : Sight) → next sight ≡ Some enomem → ⊥) → on_live seen next ≡ Some enomem → ⊥
on_live-memory None next other e = errors_differ (λ same. absurd (omega (arith, same))) e
on_live-memory (Some sight) next other e = by sight.live e
  where
    by : (live : Bool) → (if live then next sight else Some estale) ≡ Some enomem → ⊥
    by true e = other sight e
    by false e = errors_differ (λ same. absurd (omega (arith, same))) e

pub in_directory-memory : (seen : Option Sight) (next : Sight → Option ℕ) → ((sight : Sight) → next sight ≡ Some enomem → ⊥) → in_directory seen next ≡ Some enomem → ⊥
in_directory-memory seen next other = on_live-memory seen _ (λ sight. by sight sight.kind)
  where
    by : (sight : Sight) (kind : NodeKind) → (if is_directory kind then next sight else Some enotdir) ≡ Some enomem → ⊥
    by sight Dir e = other sight e
    by sight File e = errors_differ (λ same. absurd (omega (arith, same))) e
    by sight Symlink e = errors_differ (λ same. absurd (omega (arith, same))) e

pub part_refusal-memory : (part : List ℕ) (directory : Sight) → part_refusal part directory ≡ Some enomem → ⊥
part_refusal-memory part directory e = by (name_fault part) e
  where
    long : (b : Bool) → (if b then None else Some enametoolong) ≡ Some enomem → ⊥
    long true e = cc
    long false e = errors_differ (λ same. absurd (omega (arith, same))) e

    of_fault : (fault : NameFault) → Some (errno_of_fault fault) ≡ Some enomem → ⊥
    of_fault TooLong e = errors_differ (λ same. absurd (omega (arith, same))) e
    of_fault fault e = errors_differ (λ same. absurd (omega (arith, same))) e

    by : (fault : Option NameFault) → option_map_or (λ f. Some (errno_of_fault f)) fault (if nat_le (length (child_of directory part)) path_max then None else Some enametoolong) ≡ Some enomem → ⊥
    by None e = long (nat_le (length (child_of directory part)) path_max) e
    by (Some fault) e = of_fault fault e

pub on_open_directory-memory : (node : ℕ) (seen : Option Opened) (next : List DirItem → Option ℕ) → ((items : List DirItem) → next items ≡ Some enomem → ⊥)
    → on_open_directory node seen next ≡ Some enomem → ⊥
on_open_directory-memory node None next other e = errors_differ (λ same. absurd (omega (arith, same))) e
on_open_directory-memory node (Some handle) next other e = on (nat_eq handle.node node) e
  where
    with_items : (items : Option (List DirItem)) → option_map_or next items (Some ebadf) ≡ Some enomem → ⊥
    with_items None e = errors_differ (λ same. absurd (omega (arith, same))) e
    with_items (Some items) e = other items e

    on : (b : Bool) → option_map_or next (if b then handle.items else None) (Some ebadf) ≡ Some enomem → ⊥
    on true e = with_items handle.items e
    on false e = errors_differ (λ same. absurd (omega (arith, same))) e

pub in_file-memory : (seen : Option Sight) (next : Sight → Option ℕ) → ((sight : Sight) → next sight ≡ Some enomem → ⊥) → in_file seen next ≡ Some enomem → ⊥
in_file-memory seen next other = on_live-memory seen _ (λ sight. by sight sight.kind)
  where
    by : (sight : Sight) (kind : NodeKind) → on_file kind (next sight) ≡ Some enomem → ⊥
    by sight File e = other sight e
    by sight Dir e = errors_differ (λ same. absurd (omega (arith, same))) e
    by sight Symlink e = errors_differ (λ same. absurd (omega (arith, same))) e

pub on_open_file-memory : (node : ℕ) (view : View) (next : Sight → Option ℕ) → ((sight : Sight) → next sight ≡ Some enomem → ⊥) → on_open_file node view next ≡ Some enomem → ⊥
on_open_file-memory node view next other = by (file_opened node view)
  where
    by : (seen : Option Sight) → option_map_or next seen (Some ebadf) ≡ Some enomem → ⊥
    by None e = errors_differ (λ same. absurd (omega (arith, same))) e
    by (Some sight) e = other sight e

pub size_refusal-memory : (size : ℕ) → size_refusal size ≡ Some enomem → ⊥
size_refusal-memory size = by (nat_le size longest_read)
  where
    by : (b : Bool) → (if b then None else Some einval) ≡ Some enomem → ⊥
    by true e = cc
    by false e = errors_differ (λ same. absurd (omega (arith, same))) e
