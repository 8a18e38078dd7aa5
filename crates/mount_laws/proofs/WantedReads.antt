-- What a request wants of a source may be read before anything else.
use Rattle.std.proofs.Common.{◌≡◌, ℕ, Bool, true, false, List, [], Option, Some, None, refl, inl, length}
use Rattle.std.specs.FinMap as fin
use Rattle.std.specs.Option.{option_map_or}
use Rattle.std.specs.Prelude.{if◌then◌else◌}
use Rattle.bucket_api.specs.Operation.{Operation, read}
use Rattle.fuse_requests.specs.declared.request.Request.{Request}
use Rattle.fuse_requests.specs.declared.request.Request.TheVariants.{Flush, Fsync, Read, Write}
use Rattle.mount_laws.proofs.Keeping.{no_Some}
use Rattle.mount_laws.proofs.RequestLaws.{wanted_where}
use Rattle.mount_laws.proofs.Requests.Read as reads
use Rattle.mount_laws.proofs.Requests.Write as writes
use Rattle.mount_laws.proofs.Wanting.{IsReadOf-within}
use Rattle.mount_laws.specs.Observations.{WantedMayBeRead}
use Rattle.mount_rules.specs.Dispatch.{goes_on, is_full, rules_of, taken_at, view_in}
use Rattle.mount_rules.specs.Mount.{IsMount, MountModel}
use Rattle.mount_rules.specs.Plans.{Allows, Wanted, done}
use Rattle.mount_rules.specs.Reading.{given, source_of, while_given}
use Rattle.mount_rules.specs.Requests.Flush as flush
use Rattle.mount_rules.specs.Requests.Read as read_rules
use Rattle.mount_rules.specs.Requests.Write as write
use Rattle.mount_rules.specs.Rules.{AtTake}
use Rattle.mount_rules.specs.View.{Sight, View, sight_at, view_of}
use Rattle.staging_spec.proofs.WantedLaws.{flush_within}
use Rattle.staging_spec.specs.StagedFiles.{StagedContent, touched_by}
use Rattle.staging_spec.specs.Wanted.{wanted_by_flush}

-- the read of all that is wanted
abbrev read_all : Wanted → Operation
read_all wanted = read wanted.name wanted.generation wanted.range.first wanted.range.count

module _ (mount : MountModel) (is : IsMount mount) (node : ℕ) (wanted : Wanted) where
  of_read : (first size : ℕ) → read_rules.wanted first size (fin.get mount.staged node) (sight_at mount.table node) ≡ Some wanted
      → Allows (option_map_or (λ (file : Sight). while_given (source_of file) given) (sight_at mount.table node) done) (read_all wanted)
  of_read first size = by (sight_at mount.table node) refl
    where
      by : (seen : Option Sight) → sight_at mount.table node ≡ seen → read_rules.wanted first size (fin.get mount.staged node) seen ≡ Some wanted
          → Allows (option_map_or (λ (file : Sight). while_given (source_of file) given) seen done) (read_all wanted)
      by None there e = absurd (no_Some e)
      by (Some sight) there e = inl (IsReadOf-within mount node sight there is (fin.get mount.staged node) refl
          (read_rules.wanted_range (fin.get mount.staged node) first size sight) (reads.within first size sight (fin.get mount.staged node)) wanted e)

  of_write : (first : ℕ) (bytes : List ℕ) → write.wanted first bytes (fin.get mount.staged node) (sight_at mount.table node) ≡ Some wanted
      → Allows (option_map_or (λ (file : Sight). while_given (source_of file) given) (sight_at mount.table node) done) (read_all wanted)
  of_write first bytes = by (sight_at mount.table node) refl
    where
      by : (seen : Option Sight) → sight_at mount.table node ≡ seen → write.wanted first bytes (fin.get mount.staged node) seen ≡ Some wanted
          → Allows (option_map_or (λ (file : Sight). while_given (source_of file) given) seen done) (read_all wanted)
      by None there e = absurd (no_Some e)
      by (Some sight) there e = inl (IsReadOf-within mount node sight there is (fin.get mount.staged node) refl
          (write.wanted_range (fin.get mount.staged node) first (length bytes) sight) (λ some. writes.within first (length bytes) sight (fin.get mount.staged node)) wanted e)

  of_flush : (at : AtTake) (fh : ℕ) → flush.wanted (view_of mount (flush.looks node fh)) ≡ Some wanted
      → Allows (flush.plan (record { at = at; view = view_of mount (flush.looks node fh) }) []) (read_all wanted)
  of_flush at fh = by (fin.get mount.staged node) (sight_at mount.table node) refl refl
    where
      view : View
      view = view_of mount (flush.looks node fh)

      by : (staged : Option StagedContent) (seen : Option Sight) → fin.get mount.staged node ≡ staged → sight_at mount.table node ≡ seen
          → flush.wanted (record view { staged = staged; node = seen }) ≡ Some wanted
          → Allows (flush.plan (record { at = at; view = record view { staged = staged; node = seen } }) []) (read_all wanted)
      by None seen found there e = absurd (no_Some e)
      by (Some s) None found there e = absurd (no_Some e)
      by (Some s) (Some file) found there e = inl (IsReadOf-within mount node file there is (Some s) found
          (wanted_by_flush (touched_by s.overlay) s.overlay.limit) (λ some. flush_within (touched_by s.overlay) s.overlay.limit) wanted e)

by_rules : (at : AtTake) (mount : MountModel) (request : Request) (wanted : Wanted) → IsMount mount → (rules_of request).wants (view_in mount request) ≡ Some wanted
    → Allows ((rules_of request).plan (taken_at at mount request) []) (read_all wanted)
by_rules at mount (Read node fh first size) wanted is found = of_read mount is node wanted first size found
by_rules at mount (Write node fh first bytes) wanted is found = of_write mount is node wanted first bytes found
by_rules at mount (Flush node fh) wanted is found = of_flush mount is node wanted at fh found
by_rules at mount (Fsync node fh) wanted is found = of_flush mount is node wanted at fh found
by_rules at mount _ wanted is found = absurd (no_Some found)

pub wanted_may_be_read : WantedMayBeRead
wanted_may_be_read config at mount request wanted is = by (goes_on mount request)
  where
    by : (on : Bool) → (if on then (if is_full config mount request then None else (rules_of request).wants (view_in mount request)) else None) ≡ Some wanted
        → Allows ((if on then (rules_of request).plan (taken_at at mount request) else (λ answers. done)) []) (read_all wanted)
    by true found = by_rules at mount request wanted is (wanted_where (is_full config mount request) _ wanted found)
    by false found = absurd (no_Some found)
