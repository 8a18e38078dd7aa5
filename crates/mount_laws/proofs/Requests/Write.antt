-- The rules of WRITE are sound.
use Rattle.std.proofs.Common.{◌≡◌, ◌+◌, ℕ, Bool, true, false, List, [], ◌∷◌, Option, Some, None, refl, sym, subst, ◌∙◌, arith, inl, length, nat_le}
use Rattle.std.specs.Prelude.{if◌then◌else◌}
use Rattle.std.specs.FinMap as fin
use Rattle.bucket_api.specs.Operation.{max_content}
use Rattle.fuse_replies.specs.Errno.{efbig, einval, eio, enomem, enospc, estale}
use Rattle.fuse_replies.specs.declared.reply.Reply.TheVariants.{Error, Written}
use Rattle.inode_spec.proofs.Cases.{on_found}
use Rattle.inode_spec.specs.Inodes.{lookups_of}
use Rattle.mount_rules.specs.Claiming.{owns_node}
use Rattle.mount_rules.specs.Files.{overlay_of, with_staged}
use Rattle.mount_rules.specs.Guards.{is_directory}
use Rattle.mount_rules.specs.Laws.{GivesLater, IsCovered, IsOfFile, Keeps, given}
use Rattle.mount_rules.specs.Mount.{IsMount, MountModel}
use Rattle.mount_rules.specs.Plans.{IsHarmless, Wanted, answers_of}
use Rattle.mount_rules.specs.Requests.Write as write
use Rattle.mount_rules.specs.Requests.Write.{Came, whole, full, stale, fault}
use Rattle.mount_rules.specs.Rules.{AtTake, Taken, at_open_file}
use Rattle.mount_rules.specs.View.{Sight, View, sight_at, view_of}
use Rattle.staging_spec.proofs.WantedLaws.{write_within}
use Rattle.staging_spec.specs.StagedFiles.{StagedContent, touched_by}
use Rattle.staging_spec.specs.Wanted.{IsWithin}
use Rattle.mount_laws.proofs.Asking.{harmless_all}
use Rattle.mount_laws.proofs.Guarding.{SeesOpenFile, on_open_file-memory, on_open_file-none}
use Rattle.mount_laws.proofs.Keeping.{no_Some, same_Some}
use Rattle.mount_laws.proofs.Leaving.{Keeps-same, Keeps-staged}
use Rattle.mount_laws.proofs.Memory.{errors_differ, no_error}
use Rattle.mount_laws.proofs.Mounts.{GivesLater-same, GivesLater-staged}
use Rattle.mount_laws.proofs.Requests.Read.{asks_reads, reads_first}
use Rattle.mount_laws.proofs.Sights.{LooksClaimed-open_file}
use Rattle.mount_laws.proofs.Sound.{IsSound, taken_by}
use Rattle.mount_laws.proofs.Sources.{NodesFrom, NodesFrom-same}
use Rattle.mount_laws.proofs.Wanting.{IsOfFile-within, IsStagedAt-seen}

-- ---- what it leaves
module _ (taken : Taken) (mount : MountModel) (node first : ℕ) (bytes : List ℕ) where
  -- what holds of the mount as it was, and of it with something staged of the file, holds of it afterwards
  pub on_written : (P : MountModel → Type 0) → P mount
      → ((file : Sight) → taken.view.node ≡ Some file
      → P (with_staged mount node (write.staged_by taken.at.contents taken.at.second first bytes taken.view.staged file)))
      → (came : Came) → P (write.mount_after taken mount node first bytes came)
  on_written P same staged whole = by bytes refl
    where
      by : (found : List ℕ) → bytes ≡ found → P (write.written_in taken mount node first found)
      by [] is = same
      by (byte ∷ more) is =
          on_found P taken.view.node _ mount (λ none. same)
          (λ file seen. subst (λ b. P (with_staged mount node (write.staged_by taken.at.contents taken.at.second first b taken.view.staged file))) is (staged file seen))
  on_written P same staged full = same
  on_written P same staged stale = same
  on_written P same staged fault = same

  gives : (came : Came) (number : ℕ) → given (write.reply_to (length bytes) came) number ≡ 0
  gives whole number = refl
  gives full number = refl
  gives stale number = refl
  gives fault number = refl

  -- one that is answered an error leaves the mount as it was
  keeps_staged : (errno : ℕ) (came : Came) → write.reply_to (length bytes) came ≡ Error errno → (write.mount_after taken mount node first bytes came).staged ≡ mount.staged
  keeps_staged errno whole e = absurd (let never : Written (length bytes) ≡ Error errno = e in cc)
  keeps_staged errno full e = refl
  keeps_staged errno stale e = refl
  keeps_staged errno fault e = refl

  answers : (came : Came) → write.reply_to (length bytes) came ≡ Error enomem → ⊥
  answers whole e = cc
  answers full e = let same : enospc ≡ enomem = cc in absurd (omega (arith, same))
  answers stale e = let same : estale ≡ enomem = cc in absurd (omega (arith, same))
  answers fault e = let same : eio ≡ enomem = cc in absurd (omega (arith, same))

limits_memory : (first count : ℕ) → write.limits_refusal first count ≡ Some enomem → ⊥
limits_memory first count = by (nat_le count write.longest_write) (nat_le (first + count) max_content)
  where
    by : (short fits : Bool) → (if short then (if fits then None else Some efbig) else Some einval) ≡ Some enomem → ⊥
    by true true e = no_error e
    by true false e = errors_differ (λ same. absurd (omega (arith, same))) e
    by false fits e = errors_differ (λ same. absurd (omega (arith, same))) e

module _ (at : AtTake) (mount : MountModel) (node fh first : ℕ) (bytes : List ℕ) where
  abbrev view : View
  view = view_of mount (at_open_file node fh)

  abbrev taken : Taken
  taken = record { at = at; view = view }

  abbrev after : Came → MountModel
  after came = write.mount_after taken mount node first bytes came

  opened : write.refusal node first bytes view ≡ None → SeesOpenFile node view (λ file. write.limits_refusal first (length bytes))
  opened free = on_open_file-none node view (λ file. write.limits_refusal first (length bytes)) free

  later : IsMount mount → write.refusal node first bytes view ≡ None → (came : Came) → GivesLater mount (after came)
  later is free = on_written taken mount node first bytes (GivesLater mount) (GivesLater-same mount is)
      (λ file seen. GivesLater-staged mount is node _ (IsStagedAt-seen mount node file seen is (is_file file seen) view.staged refl _ (omega arith)))
    where
      is_file : (file : Sight) → view.node ≡ Some file → is_directory file.kind ≡ false
      is_file file seen = let s = opened free in subst (λ (x : Sight). is_directory x.kind ≡ false) (same_Some (sym s.seen ∙ seen)) s.file

  leaves : (came : Came) → Keeps (owns_node node ∷ []) mount (after came)
  leaves = on_written taken mount node first bytes (Keeps (owns_node node ∷ []) mount) (Keeps-same _ mount)
      (λ file seen. Keeps-staged (owns_node node ∷ []) mount node (inl (refl, refl)) _)

-- ---- what it wants
pub within : (first count : ℕ) (file : Sight) (staged : Option StagedContent) → IsWithin (write.wanted_range staged first count file) (overlay_of staged file).limit
within first count file staged = write_within (touched_by (overlay_of staged file)) (overlay_of staged file).limit first count

of_file : (node first : ℕ) (bytes : List ℕ) (mount : MountModel) → IsMount mount → (wanted : Wanted)
    → write.wanted first bytes (fin.get mount.staged node) (sight_at mount.table node) ≡ Some wanted → IsOfFile mount wanted
of_file node first bytes mount is wanted = by (sight_at mount.table node) refl
  where
    by : (seen : Option Sight) → sight_at mount.table node ≡ seen → write.wanted first bytes (fin.get mount.staged node) seen ≡ Some wanted → IsOfFile mount wanted
    by None there e = absurd (no_Some e)
    by (Some sight) there e = IsOfFile-within mount node sight there is (fin.get mount.staged node) refl
        (write.wanted_range (fin.get mount.staged node) first (length bytes) sight) (λ some. within first (length bytes) sight (fin.get mount.staged node)) wanted e

pub write_sound : (node fh first : ℕ) (bytes : List ℕ) → IsSound (write.rules node fh first bytes) (λ number. 0) None
write_sound node fh first bytes = record {
  later = λ at mount seen goes. later at mount node fh first bytes goes.is goes.free _;
  leaves = λ at mount seen goes. leaves at mount node fh first bytes _;
  sees = λ at mount goes asks.
      let s = opened at mount node fh first bytes goes.free in
      LooksClaimed-open_file _ mount node fh s.sight s.seen s.handle s.is s.node_is (inl refl);
  covers = λ taken told op allows. asks_reads (IsCovered (owns_node node ∷ [])) (λ name generation first count. tt) taken.view told op allows;
  harmless = λ taken seen planned fits asks. harmless_all _ (asks_reads IsHarmless (λ name generation first count. tt) taken.view) seen planned;
  bounded = λ taken seen n is planned. absurd (no_Some is);
  reads = λ taken wanted wants_it. reads_first taken.view _ wanted wants_it;
  of_files = λ mount wanted is wants_it. of_file node first bytes mount is wanted wants_it;
  agrees = λ taken mount seen agreed. on_written taken mount node first bytes (λ (m : MountModel). m.negotiated ≡ true) agreed (λ file is. agreed)
      (write.came taken mount first bytes (answers_of seen));
  refuses = λ view. on_open_file-memory node view _ (λ file. limits_memory first (length bytes));
  keeps_staged = λ at mount seen errno free error.
      let taken = taken_by (write.rules node fh first bytes) at mount in
      keeps_staged taken mount node first bytes errno (write.came taken mount first bytes (answers_of seen)) error;
  answers = λ taken mount seen. answers taken mount node first bytes (write.came taken mount first bytes (answers_of seen));
  counts = λ at mount seen number other goes.
      let taken = taken_by (write.rules node fh first bytes) at mount in
      let same = on_written taken mount node first bytes (λ (m : MountModel). lookups_of m.table number ≡ lookups_of mount.table number) refl (λ file is. refl)
      (write.came taken mount first bytes (answers_of seen)) in
      let none = gives taken mount node first bytes (write.came taken mount first bytes (answers_of seen)) number in
      omega (arith, same, none);
  nodes = λ Shown at mount seen goes tells.
      let taken = taken_by (write.rules node fh first bytes) at mount in
      on_written taken mount node first bytes (λ (m : MountModel). NodesFrom Shown mount.table m.table)
      (NodesFrom-same Shown mount.table) (λ file is. NodesFrom-same Shown mount.table) (write.came taken mount first bytes (answers_of seen));
}
