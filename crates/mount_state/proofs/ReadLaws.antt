-- What a READ is answered out of its base.
use Rattle.std.proofs.Common.{◌≡◌, ℕ, ◌-◌, ◌≤◌, Bool, true, false, List, Option, Some, None, length, nat_lt, nat_le, take, drop, refl, sym, ap, subst, ◌∙◌, arith}
use Rattle.std.proofs.lemmas.Bool.Decides.{nat_tests}
use Rattle.std.specs.Prelude.{if◌then◌else◌}
use Rattle.std.specs.Option.{option_map_or}
use Rattle.fuse_replies.specs.Errno.{ebadf, einval}
use Rattle.fuse_requests.specs.declared.request.Request.{Request}
use Rattle.fuse_requests.specs.declared.request.Request.TheVariants.{Read}
use Rattle.mount_rules.specs.Dispatch.{early}
use Rattle.mount_rules.specs.Guards.{file_opened, longest_read, on_open_file, size_refusal}
use Rattle.mount_rules.specs.Mount.{MountModel}
use Rattle.mount_rules.specs.Plans.{Contents, CoversWanted, HoldsWanted, Wanted}
use Rattle.mount_rules.specs.Reading.{bytes_in}
use Rattle.mount_rules.specs.Requests.Read as reading
use Rattle.mount_rules.specs.Rules.{at_open_file}
use Rattle.mount_rules.specs.View.{Sight, View, view_of}
use Rattle.mount_laws.proofs.Keeping.{no_Some}
use Rattle.mount_state.proofs.EntryLaws.{no_refusal}
use Rattle.mount_state.proofs.RangeLaws.{shows_source}

-- the range asked, cut out of a base that has what is wanted, is that of the content, where nothing is staged
pub read_so : (contents : Contents) (first size : ℕ) (seen : Option Sight) (base : ℕ) (bytes : List ℕ) (count : ℕ)
    → count ≡ option_map_or (λ (file : Sight). (reading.asked first size file.size).count) seen 0
    → CoversWanted (reading.wanted first size None seen) base (length bytes) → HoldsWanted contents (reading.wanted first size None seen) base bytes
    → take count (drop (first - base) bytes) ≡ reading.bytes contents first size None seen
read_so contents first size None base bytes count is covers holds = ap (λ n. take n (drop (first - base) bytes)) is
read_so contents first size (Some file) base bytes count is covers holds =
    ap (λ n. take n (drop (first - base) bytes)) is ∙ by (nat_lt 0 (reading.asked first size file.size).count) refl covers holds
  where
    wanted : Wanted
    wanted = record { name = file.name; generation = file.source; range = reading.asked first size file.size }

    by : (some : Bool) → nat_lt 0 (reading.asked first size file.size).count ≡ some
        → CoversWanted (if some then Some wanted else None) base (length bytes) → HoldsWanted contents (if some then Some wanted else None) base bytes
        → take (reading.asked first size file.size).count (drop (first - base) bytes) ≡ bytes_in (reading.asked first size file.size) (contents file.name file.source)
    by true some covers holds =
        shows_source (contents file.name file.source) base bytes (reading.asked first size file.size) (grind (arith, nat_tests, some)) holds covers
    by false none covers holds =
        let zero_ : (reading.asked first size file.size).count ≡ 0 = grind (arith, nat_tests, none) in
        ap (λ n. take n (drop (first - base) bytes)) zero_ ∙ sym (ap (λ n. take n (drop first (contents file.name file.source))) zero_)

-- a READ that nothing refuses asks for not too many bytes
within : (node size : ℕ) (view : View) → on_open_file node view (λ file. size_refusal size) ≡ None → size ≤ longest_read
within node size view free = by (file_opened node view) free
  where
    at : (t : Bool) → nat_le size longest_read ≡ t → (if t then None else Some einval) ≡ None → size ≤ longest_read
    at true fits e = grind (arith, nat_tests, fits)
    at false long e = absurd (no_Some (sym e))

    by : (o : Option Sight) → option_map_or (λ file. size_refusal size) o (Some ebadf) ≡ None → size ≤ longest_read
    by None e = absurd (no_Some (sym e))
    by (Some file) e = at (nat_le size longest_read) refl e

pub read_within : (mount : MountModel) (request : Request) (node fh first size : ℕ) → request ≡ Read node fh first size → early mount request ≡ None → size ≤ longest_read
read_within mount request node fh first size is free =
    within node size (view_of mount (at_open_file node fh)) (no_refusal mount (Read node fh first size) (subst (λ (r : Request). early mount r ≡ None) is free))
