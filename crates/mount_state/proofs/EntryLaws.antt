-- The entries that a READDIR is answered, and the pages of an OPENDIR.
use Rattle.std.proofs.Common.{◌≡◌, ℕ, ◌+◌, ◌-◌, ◌≤◌, Bool, true, false, List, [], ◌∷◌, length, drop, Option, Some, None, refl, sym, ap, subst, ◌∙◌, nat_le, arith}
use Rattle.std.proofs.lemmas.Bool.Decides.{nat_tests}
use Rattle.std.proofs.lemmas.List.{length-append}
use Rattle.std.proofs.lemmas.List.Concat.{flat_map-cons}
use Rattle.std.specs.Prelude.{if◌then◌else◌, not, ◌&&◌, option_and_then}
use Rattle.std.specs.FinMap as fin
use Rattle.std.specs.List.{flat_map}
use Rattle.std.specs.Option.{option_map_or}
use Rattle.fuse_replies.specs.Errno.{ebadf, einval, eproto}
use Rattle.fuse_replies.specs.Layouts.{dirent_len, dirent_text, dirents_text}
use Rattle.fuse_replies.specs.declared.reply.Dirent.{Dirent}
use Rattle.fuse_replies.proofs.TextLemmas.{length-dirent_text}
use Rattle.fuse_requests.specs.declared.request.Request.{Request}
use Rattle.fuse_requests.specs.declared.request.Request.TheVariants.{Readdir}
use Rattle.handle_table.specs.Handles.{Opened}
use Rattle.mount_rules.specs.Dispatch.{early, is_init, is_silent, rules_of, view_in}
use Rattle.mount_rules.specs.Guards.{entries_opened, on_open_directory}
use Rattle.mount_rules.specs.Mount.{MountModel}
use Rattle.mount_rules.specs.Requests.Readdir as readdir
use Rattle.mount_rules.specs.Guards.{longest_read, size_refusal}
use Rattle.mount_rules.specs.Requests.Readdir.{dirent_at, fitting}
use Rattle.object_names.specs.declared.shown.DirItem.{DirItem}
use Rattle.mount_laws.proofs.Keeping.{no_Some}
use Rattle.mount_state.specs.Spares.{Provided, entries, provided_for}

-- the entries that fit into so many bytes have at most so many
pub length-fitting : (position room : ℕ) (items : List DirItem) → length (dirents_text (fitting position room items)) ≤ room
unfolding dirents_text
length-fitting position room [] = omega arith
length-fitting position room (item ∷ more) = by (nat_le (dirent_len item.shown) room) refl (length-fitting (position + 1) (room - dirent_len item.shown) more)
  where
    by : (t : Bool) → nat_le (dirent_len item.shown) room ≡ t
        → length (flat_map dirent_text (fitting (position + 1) (room - dirent_len item.shown) more)) ≤ room - dirent_len item.shown
        → length (flat_map dirent_text (if t then dirent_at position item ∷ fitting (position + 1) (room - dirent_len item.shown) more else [])) ≤ room
    by true fits rest =
        let few : dirent_len item.shown ≤ room = grind (arith, nat_tests, fits) in
        rw (flat_map-cons, length-append, length-dirent_text) (omega (arith, few, rest))
    by false long rest = omega arith

-- a READDIR that nothing refuses asks for not too many bytes
not_too_long : (node size : ℕ) (opened : Option Opened)
    → on_open_directory node opened (λ entries. size_refusal size) ≡ None → size ≤ longest_read
not_too_long node size opened free = by (option_and_then (entries_opened node) opened) free
  where
    at : (t : Bool) → nat_le size longest_read ≡ t → (if t then None else Some einval) ≡ None → size ≤ longest_read
    at true fits e = grind (arith, nat_tests, fits)
    at false long e = absurd (no_Some (sym e))

    by : (o : Option (List DirItem)) → option_map_or (λ entries. size_refusal size) o (Some ebadf) ≡ None → size ≤ longest_read
    by None e = absurd (no_Some (sym e))
    by (Some items) e = at (nat_le size longest_read) refl e

-- the rules of a request that isn't refused refuse nothing
pub no_refusal : (mount : MountModel) (request : Request) → early mount request ≡ None → (rules_of request).refusal (view_in mount request) ≡ None
no_refusal mount request free = by (not mount.negotiated && not (is_silent request) && not (is_init request)) free
  where
    by : (t : Bool) → (if t then Some eproto else (rules_of request).refusal (view_in mount request)) ≡ None → (rules_of request).refusal (view_in mount request) ≡ None
    by true e = absurd (no_Some (sym e))
    by false e = e

abbrev entries_of : Provided → List Dirent
entries_of (entries dirents) = dirents
entries_of provided = []

-- the reply of a READDIR can be sent: it is no longer than what was asked for
pub sendable_entries : (mount : MountModel) (request : Request) (node fh first size : ℕ) (provided : Provided) (items : List Dirent) → request ≡ Readdir node fh first size
    → early mount request ≡ None → provided ≡ provided_for request (view_in mount request) → provided ≡ entries items → 16 + length (dirents_text items) ≤ 4294967295
sendable_entries mount request node fh first size provided items is free for_it held =
    whole (subst (λ r. early mount r ≡ None) is free) (for_it ∙ ap (λ r. provided_for r (view_in mount r)) is)
  where
    whole : early mount (Readdir node fh first size) ≡ None
        → provided ≡ entries (fitting first size (drop first (readdir.entries_of node (view_in mount (Readdir node fh first size))))) → 16 + length (dirents_text items) ≤ 4294967295
    whole free for_it =
        let rest = drop first (readdir.entries_of node (view_in mount (Readdir node fh first size))) in
        let short : length (dirents_text (fitting first size rest)) ≤ size = length-fitting first size rest in
        let few : size ≤ 1048576 = not_too_long node size (fin.get mount.handles fh) (no_refusal mount (Readdir node fh first size) free) in
        let same : items ≡ fitting first size rest = ap entries_of (sym held ∙ for_it) in
        let long : length (dirents_text items) ≡ length (dirents_text (fitting first size rest)) = ap (λ d. length (dirents_text d)) same in
        omega (arith, short, few, long)
