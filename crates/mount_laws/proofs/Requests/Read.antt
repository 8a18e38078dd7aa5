-- The rules of READ are sound.
use Rattle.std.proofs.Common.{◌≡◌, ◌≤◌, ℕ, List, [], ◌∷◌, Option, Some, None, refl, arith, inl, inr}
use Rattle.std.specs.Prelude.{option_and_then}
use Rattle.std.specs.FinMap as fin
use Rattle.std.specs.Option.{option_map_or}
use Rattle.bucket_api.specs.Operation.{Operation, read}
use Rattle.bucket_api.specs.declared.answers.Answer.{Answer}
use Rattle.fuse_replies.specs.Errno.{eio, enomem, estale}
use Rattle.fuse_replies.specs.declared.reply.Reply.TheVariants.{Error}
use Rattle.mount_rules.specs.Claiming.{shares_node}
use Rattle.mount_rules.specs.Guards.{size_refusal}
use Rattle.mount_rules.specs.Laws.{IsCovered, IsOfFile, given}
use Rattle.mount_rules.specs.Files.{overlay_of}
use Rattle.mount_rules.specs.Mount.{IsMount, MountModel}
use Rattle.mount_rules.specs.Plans.{Allows, IsHarmless, IsReadOf, Source, Step, Wanted, answers_of, done, may_read}
use Rattle.mount_rules.specs.Reading.{Reads, failed, given as all_given, gone, reads, source_of, while_given}
use Rattle.mount_rules.specs.Requests.Read as reading
use Rattle.mount_rules.specs.Rules.{at_open_file}
use Rattle.mount_rules.specs.View.{Sight, View, sight_at, view_of}
use Rattle.staging_spec.proofs.WantedLaws.{read_within}
use Rattle.staging_spec.specs.StagedFiles.{StagedContent, touched_by}
use Rattle.staging_spec.specs.Wanted.{IsWithin}
use Rattle.mount_laws.proofs.Asking.{harmless_all}
use Rattle.mount_laws.proofs.Guarding.{on_open_file-memory, on_open_file-none, size_refusal-memory}
use Rattle.mount_laws.proofs.Keeping.{no_Some}
use Rattle.mount_laws.proofs.Leaving.{Keeps-same}
use Rattle.mount_laws.proofs.Mounts.{GivesLater-same}
use Rattle.mount_laws.proofs.Sights.{LooksClaimed-open_file}
use Rattle.mount_laws.proofs.Sound.{IsSound}
use Rattle.mount_laws.proofs.Sources.{NodesFrom-same}
use Rattle.mount_laws.proofs.Wanting.{IsOfFile-within}

-- ---- what is asked, by a READ as by a WRITE
-- what holds of each read holds of what it asks
module _ (P : Operation → Type 0) (each : (name : List ℕ) (generation first count : ℕ) → P (read name generation first count)) where
  pub on_read : (source : Source) (op : Operation) → IsReadOf source op → P op
  on_read source (read name generation first count) allows = each name generation first count
  on_read source op never = absurd never

  pub asks_reads : (view : View) (told : List Answer) (op : Operation) → Allows (reading.plan view told) op → P op
  asks_reads view told op = by view.node (reads told)
    where
      first_or_none : (source : Source) → Allows (may_read source done) op → P op
      first_or_none source (inl is_read) = on_read source op is_read
      first_or_none source (inr never) = absurd never

      by : (seen : Option Sight) (came : Reads) → Allows (option_map_or (λ (file : Sight). while_given (source_of file) came) seen done) op → P op
      by None came allows = absurd allows
      by (Some file) all_given allows = first_or_none (source_of file) allows
      by (Some file) gone allows = absurd allows
      by (Some file) failed allows = absurd allows

-- it may read the source of what it wants before anything else
pub reads_first : (view : View) (of_sight : Sight → Option Wanted) (wanted : Wanted) → option_and_then of_sight view.node ≡ Some wanted
    → (source : Source) × (next : Step) × (reading.plan view [] ≡ may_read source next)
reads_first view of_sight wanted = by view.node
  where
    by : (seen : Option Sight) → option_and_then of_sight seen ≡ Some wanted
        → (source : Source) × (next : Step) × (option_map_or (λ (file : Sight). while_given (source_of file) all_given) seen done ≡ may_read source next)
    by None e = absurd (no_Some e)
    by (Some file) e = (source_of file, done, refl)

-- ---- what it wants
module _ (first size : ℕ) where
  pub within : (sight : Sight) (staged : Option StagedContent) → 1 ≤ (reading.wanted_range staged first size sight).count
      → IsWithin (reading.wanted_range staged first size sight) (overlay_of staged sight).limit
  within sight None some = omega (arith, some)
  within sight (Some s) some = read_within (touched_by s.overlay) s.overlay.limit first (reading.asked first size s.overlay.size).count

  -- which is that of a file that is there
  of_file : (mount : MountModel) → IsMount mount → (number : ℕ) (wanted : Wanted)
      → reading.wanted first size (fin.get mount.staged number) (sight_at mount.table number) ≡ Some wanted → IsOfFile mount wanted
  of_file mount is number wanted = by (sight_at mount.table number) refl
    where
      by : (seen : Option Sight) → sight_at mount.table number ≡ seen → reading.wanted first size (fin.get mount.staged number) seen ≡ Some wanted → IsOfFile mount wanted
      by None there e = absurd (no_Some e)
      by (Some sight) there e = IsOfFile-within mount number sight there is (fin.get mount.staged number) refl
          (reading.wanted_range (fin.get mount.staged number) first size sight) (within sight (fin.get mount.staged number)) wanted e

-- ---- what it is answered
answers : (bytes : List ℕ) (came : Reads) → reading.reply_to bytes came ≡ Error enomem → ⊥
answers bytes all_given e = cc
answers bytes gone e = let same : estale ≡ enomem = cc in absurd (omega (arith, same))
answers bytes failed e = let same : eio ≡ enomem = cc in absurd (omega (arith, same))

gives : (bytes : List ℕ) (came : Reads) (number : ℕ) → given (reading.reply_to bytes came) number ≡ 0
gives bytes all_given number = refl
gives bytes gone number = refl
gives bytes failed number = refl

pub read_sound : (node fh first size : ℕ) → IsSound (reading.rules node fh first size) (λ number. 0) None
read_sound node fh first size = record {
  later = λ at mount seen goes. GivesLater-same mount goes.is;
  leaves = λ at mount seen goes. Keeps-same _ mount;
  sees = λ at mount goes asks.
      let s = on_open_file-none node (view_of mount (at_open_file node fh)) (λ file. size_refusal size) goes.free in
      LooksClaimed-open_file _ mount node fh s.sight s.seen s.handle s.is s.node_is (inl refl);
  covers = λ taken told op allows. asks_reads (IsCovered (shares_node node ∷ [])) (λ name generation first count. tt) taken.view told op allows;
  harmless = λ taken seen planned fits asks. harmless_all _ (asks_reads IsHarmless (λ name generation first count. tt) taken.view) seen planned;
  bounded = λ taken seen n is planned. absurd (no_Some is);
  reads = λ taken wanted wants_it. reads_first taken.view _ wanted wants_it;
  of_files = λ mount wanted is wants_it. of_file first size mount is node wanted wants_it;
  agrees = λ taken mount seen agreed. agreed;
  refuses = λ view. on_open_file-memory node view _ (λ file. size_refusal-memory size);
  keeps_staged = λ at mount seen errno free error. refl;
  answers = λ taken mount seen. answers _ (reads (answers_of seen));
  counts = λ at mount seen number other goes.
      let none = gives (reading.bytes at.contents first size (fin.get mount.staged node) (sight_at mount.table node)) (reads (answers_of seen)) number in
      omega (arith, none);
  nodes = λ Shown at mount seen goes tells. NodesFrom-same Shown mount.table;
}
