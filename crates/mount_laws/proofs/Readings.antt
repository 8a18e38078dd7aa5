-- A READ that is answered bytes is answered those of its file's content.
use Rattle.std.proofs.Common.{◌≡◌, ◌-◌, ℕ, false, List, [], Option, Some, None, refl, sym, ap, ◌∙◌, length, min, take, drop}
use Rattle.std.proofs.lemmas.List.{length-drop, take_min}
use Rattle.std.specs.FinMap as fin
use Rattle.std.specs.Option.{option_map_or}
use Rattle.std.specs.Prelude.{is_some, not}
use Rattle.bucket_api.specs.Log.{content_of}
use Rattle.fuse_replies.specs.Errno.{eio, enomem, estale}
use Rattle.fuse_replies.specs.declared.reply.Reply.TheVariants.{Content, Error}
use Rattle.fuse_requests.specs.declared.request.Request.{Request}
use Rattle.fuse_requests.specs.declared.request.Request.TheVariants.{Read}
use Rattle.mount_model.specs.Observing.{Observed}
use Rattle.mount_model.specs.declared.config.Config.{Config}
use Rattle.mount_rules.specs.Dispatch.{early, reply_to, view_in}
use Rattle.mount_rules.specs.Files.{content_in, length_of, source_in}
use Rattle.mount_rules.specs.Guards.{is_directory, size_refusal}
use Rattle.mount_rules.specs.Laws.{AreOfContent, FilesHaveContent, ReadsAreOfContent, reached}
use Rattle.mount_rules.specs.Mount.{IsMount, MountModel}
use Rattle.mount_rules.specs.OneThread.{Call, Ending, RunState, at_state, contents_of, performed, reply_by, reply_in, short, stale}
use Rattle.mount_rules.specs.Plans.{answers_of}
use Rattle.mount_rules.specs.Reading.{Reads, failed, given as all_given, gone, reads}
use Rattle.mount_rules.specs.Requests.Read as reading
use Rattle.mount_rules.specs.Rules.{AtTake}
use Rattle.mount_rules.specs.View.{Sight, sight_at}
use Rattle.staging_spec.proofs.OverlayLaws.{length-map_numbers}
use Rattle.staging_spec.specs.Overlays.{overlay_byte}
use Rattle.staging_spec.specs.StagedFiles.{StagedContent}
use Rattle.mount_laws.proofs.Guarding.{SeesOpenFile, on_open_file-none}
use Rattle.mount_laws.proofs.RequestLaws.{unrefused}
use Rattle.mount_laws.proofs.Settled.{IsSettled, ends_with}
use Rattle.mount_laws.proofs.StagedContents.{SeesFileAt, SeesFileAt-seen, sized}

-- no more than there are
take_left : (count place : ℕ) (bytes : List ℕ) → take (min count (length bytes - place)) (drop place bytes) ≡ take count (drop place bytes)
take_left count place bytes = ap (λ n. take (min count n) (drop place bytes)) (sym (length-drop place bytes)) ∙ take_min count (drop place bytes)

-- ---- what a READ sees that is answered bytes
-- an open file, of whose content these are the bytes asked for
pub record TellsBytes (at : AtTake) (mount : MountModel) (node first size : ℕ) (bytes : List ℕ) : Type 0 where
  pub sight : Sight
  pub seen : sight_at mount.table node ≡ Some sight
  pub is_file : is_directory sight.kind ≡ false
  pub told : reading.bytes at.contents first size (fin.get mount.staged node) (Some sight) ≡ bytes

module _ (at : AtTake) (mount : MountModel) (node fh first size : ℕ) (bytes : List ℕ) where
  abbrev bytes_of : Option Sight → List ℕ
  bytes_of seen = reading.bytes at.contents first size (fin.get mount.staged node) seen

  -- it is not refused
  pub tells_bytes : (seen : List Observed) → reply_to at mount (Read node fh first size) seen ≡ Content bytes → TellsBytes at mount node first size bytes
  tells_bytes seen = by (early mount (Read node fh first size)) refl
    where
      all_told : (came : Reads) (found : List ℕ) → reading.reply_to found came ≡ Content bytes → found ≡ bytes
      all_told all_given found e = cc
      all_told gone found e = absurd (let never : Error estale ≡ Content bytes = e in cc)
      all_told failed found e = absurd (let never : Error eio ≡ Content bytes = e in cc)

      free : early mount (Read node fh first size) ≡ None → SeesOpenFile node (view_in mount (Read node fh first size)) (λ file. size_refusal size)
      free none =
          on_open_file-none node (view_in mount (Read node fh first size)) (λ file. size_refusal size)
          (unrefused mount (Read node fh first size) (ap (λ (e : Option ℕ). not (is_some e)) none))

      by : (error : Option ℕ) → early mount (Read node fh first size) ≡ error
          → option_map_or Error error (reading.reply_to (bytes_of (sight_at mount.table node)) (reads (answers_of seen))) ≡ Content bytes → TellsBytes at mount node first size bytes
      by (Some errno) is e = absurd (let never : Error errno ≡ Content bytes = e in cc)
      by None is e =
          let s = free is in
          record { sight = s.sight; seen = s.seen; is_file = s.file; told = ap bytes_of (sym s.seen) ∙ all_told (reads (answers_of seen)) _ e }

-- ---- they are of its content
module _ (state : RunState) (node first size : ℕ) (bytes : List ℕ) (is : IsMount state.mount) (files : FilesHaveContent state) where
  pub of_file : (sight : Sight) → is_directory sight.kind ≡ false → sight_at state.mount.table node ≡ Some sight
      → reading.bytes (contents_of state.store) first size (fin.get state.mount.staged node) (Some sight) ≡ bytes → AreOfContent state node first size bytes
  of_file sight is_file seen told =
      let at = SeesFileAt-seen state.mount node sight is seen is_file in
      let has = files node at.node at.file at.there at.is in
      let was_live : content_of state.store.start state.store.log sight.name sight.source ≡ Some has.0 =
      ap (λ name. content_of state.store.start state.store.log name sight.source) at.name ∙ ap (content_of state.store.start state.store.log at.node.name) at.source ∙ has.1 in
      record {
        file = sight;
        seen = seen;
        source = has.0;
        was_live = was_live;
        asked = sym told ∙ ap (λ n. take (min size (n - first)) (drop first content)) (lengths at (fin.get state.mount.staged node)) ∙ take_left size first content
            ∙ ap (λ found. take size (drop first (option_map_or (λ file. content_in (contents_of state.store) (fin.get state.mount.staged node) file) found []))) (sym seen);
      }
    where
      content : List ℕ
      content = content_in (contents_of state.store) (fin.get state.mount.staged node) sight

      lengths : SeesFileAt state.mount.table node sight → (held : Option StagedContent) → length_of held sight ≡ length (content_in (contents_of state.store) held sight)
      lengths at None = sym (sized state files node sight at)
      lengths at (Some held) = sym (length-map_numbers (overlay_byte held.overlay (source_in (contents_of state.store) sight)) 0 held.overlay.size)

module _ (config : Config) (state : RunState) (node fh first size : ℕ) (bytes : List ℕ) (settled : IsSettled config state) where
  of_reply : (seen : List Observed) → reply_to (at_state config state) state.mount (Read node fh first size) seen ≡ Content bytes → AreOfContent state node first size bytes
  of_reply seen e =
      let t = tells_bytes (at_state config state) state.mount node fh first size bytes seen e in
      of_file state node first size bytes settled.is settled.files t.sight t.is_file t.seen t.told

  of_call : (call : Call) → call.request ≡ Read node fh first size → reply_in config state call ≡ Content bytes → AreOfContent state node first size bytes
  of_call call request = by call.ending
    where
      by : (ending : Ending) → reply_by config state call ending ≡ Content bytes → AreOfContent state node first size bytes
      by performed e = of_reply call.seen (ap (λ (r : Request). reply_to (at_state config state) state.mount r call.seen) (sym request) ∙ e)
      by short e = absurd (let never : Error enomem ≡ Content bytes = e in cc)
      by stale e = absurd (let never : Error estale ≡ Content bytes = e in cc)

pub reads_are_of_content : ReadsAreOfContent
reads_are_of_content config bucket calls call node fh first size bytes ran request answered =
    of_call config (reached config bucket calls) node fh first size bytes (ends_with config bucket calls call ran).before call request answered
