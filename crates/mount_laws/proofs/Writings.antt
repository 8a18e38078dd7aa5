-- A WRITE that is answered so many bytes has written its bytes into the content of its file.
use Rattle.std.proofs.Common.{◌≡◌, ℕ, Bool, true, false, List, [], ◌∷◌, Option, Some, None, refl, sym, ap, subst, ◌∙◌, length}
use Rattle.std.specs.FinMap as fin
use Rattle.std.specs.Option.{option_map_or}
use Rattle.std.specs.Prelude.{if◌then◌else◌, not, is_some}
use Rattle.fuse_replies.specs.Errno.{eio, enomem, enospc, estale}
use Rattle.fuse_replies.specs.declared.reply.Reply.TheVariants.{Error, Written}
use Rattle.fuse_requests.specs.declared.request.Request.{Request}
use Rattle.fuse_requests.specs.declared.request.Request.TheVariants.{Write}
use Rattle.mount_model.specs.Observing.{Observed}
use Rattle.mount_model.specs.declared.config.Config.{Config}
use Rattle.mount_rules.specs.Dispatch.{early, goes_on, mount_after, reply_to, taken_at}
use Rattle.mount_rules.specs.Files.{content_in, source_in, staging_in, with_staged}
use Rattle.mount_rules.specs.Laws.{WritesPatch, content_at, reached}
use Rattle.mount_rules.specs.Mount.{MountModel}
use Rattle.mount_rules.specs.OneThread.{Call, Ending, IsLawful, Observes, RunState, Store, after_operations, at_state, contents_of, mount_by, performed, plan_at, reply_by, reply_in, short, stale, state_after_call}
use Rattle.mount_rules.specs.Plans.{Plan, answers_of, asked_by, done}
use Rattle.mount_rules.specs.Reading.{source_of, while_given, reads}
use Rattle.mount_rules.specs.Requests.Write as write
use Rattle.mount_rules.specs.Requests.Write.{Came, fault, full, whole}
use Rattle.mount_rules.specs.Rules.{Taken}
use Rattle.mount_rules.specs.View.{Sight, sight_at}
use Rattle.staging_spec.proofs.StandingLaws.{written_stands}
use Rattle.staging_spec.specs.Content.{patch}
use Rattle.staging_spec.specs.Overlays.{StandsOver}
use Rattle.staging_spec.specs.StagedFiles.{StagedContent}
use Rattle.staging_spec.specs.Staging.{Staging, written}
use Rattle.mount_laws.proofs.Guarding.{SeesOpenFile, on_open_file-none}
use Rattle.mount_laws.proofs.RequestLaws.{unrefused}
use Rattle.mount_laws.proofs.Settled.{IsSettled, ends_with}
use Rattle.mount_laws.proofs.StagedContents.{SeesFileAt, SeesFileAt-seen, holds, shows_content, stands}
use Rattle.mount_laws.proofs.Stores.{observes_none}
use Rattle.spare_maps.proofs.FinMaps.{number_put_same}

module _ (config : Config) (state : RunState) (node fh first count : ℕ) (bytes : List ℕ) (settled : IsSettled config state) where
  abbrev request : Request
  request = Write node fh first bytes

  abbrev taken : Taken
  taken = taken_at (at_state config state) state.mount request

  -- the content of the file that is written
  of_file : (sight : Sight) → sight_at state.mount.table node ≡ Some sight → SeesFileAt state.mount.table node sight → (all : List ℕ)
      → content_at (record { mount = write.written_in taken state.mount node first all; store = state.store }) node ≡ patch (content_at state node) first all
  of_file sight seen at [] = refl
  of_file sight seen at (byte ∷ rest) =
      ap (λ found. content_at (record { mount = option_map_or (λ file. with_staged state.mount node (held_by file)) found state.mount; store = state.store }) node) seen
      ∙ ap (λ staged. option_map_or (λ file. content_in (contents_of state.store) staged file) (sight_at state.mount.table node) []) (number_put_same state.mount.staged node (held_by sight))
      ∙ ap (λ found. option_map_or (λ file. content_in (contents_of state.store) (Some (held_by sight)) file) found []) seen
      ∙ ap (λ (s : Staging). s.content) (holds source (written before first (byte ∷ rest)) over (held_by sight) refl)
      ∙ ap (λ content. patch content first (byte ∷ rest)) (shows_content state settled.files node sight at (fin.get state.mount.staged node))
      ∙ ap (λ found. patch (option_map_or (λ file. content_in (contents_of state.store) (fin.get state.mount.staged node) file) found []) first (byte ∷ rest)) (sym seen)
    where
      source : List ℕ
      source = source_in (contents_of state.store) sight

      before : Staging
      before = staging_in (contents_of state.store) (fin.get state.mount.staged node) sight

      over : StandsOver source (written before first (byte ∷ rest))
      over = written_stands source before (stands state settled.files node sight at settled.over) first (byte ∷ rest)

      held_by : Sight → StagedContent
      held_by file = write.staged_by (contents_of state.store) taken.at.second first (byte ∷ rest) (fin.get state.mount.staged node) file

  -- it asks nothing
  asks_nothing : asked_by (plan_at config state request []) ≡ None
  asks_nothing = by (goes_on state.mount request) (sight_at state.mount.table node)
    where
      by : (on : Bool) (found : Option Sight)
          → asked_by (if◌then◌else◌ {A = Plan} on (λ answers. option_map_or (λ file. while_given (source_of file) (reads answers)) found done) (λ answers. done) []) ≡ None
      by true None = refl
      by true (Some file) = refl
      by false found = refl

  -- the content is patched in this mount, over this bucket
  abbrev Patched : MountModel → Store → Type 0
  Patched mount store = content_at (record { mount = mount; store = store }) node ≡ patch (content_at state node) first bytes

  of_reply : (seen : List Observed) → Observes (plan_at config state request) state.store seen → reply_to (at_state config state) state.mount request seen ≡ Written count
      → Patched (mount_after (at_state config state) state.mount request seen) (after_operations state.store seen)
  of_reply seen observed answered =
      subst (λ (s : List Observed). Patched (mount_after (at_state config state) state.mount request seen) (after_operations state.store s))
      (sym (observes_none (plan_at config state request) asks_nothing state.store seen observed)) (by (early state.mount request) refl answered)
    where
      opened : early state.mount request ≡ None → SeesOpenFile node taken.view (λ file. write.limits_refusal first (length bytes))
      opened none =
          on_open_file-none node taken.view (λ file. write.limits_refusal first (length bytes)) (unrefused state.mount request (ap (λ (e : Option ℕ). not (is_some e)) none))

      told : (came : Came) → write.reply_to (length bytes) came ≡ Written count → came ≡ whole
      told whole e = refl
      told full e = absurd (let never : Error enospc ≡ Written count = e in cc)
      told write.stale e = absurd (let never : Error estale ≡ Written count = e in cc)
      told fault e = absurd (let never : Error eio ≡ Written count = e in cc)

      came : Came
      came = write.came taken state.mount first bytes (answers_of seen)

      by : (error : Option ℕ) → early state.mount request ≡ error → option_map_or Error error (write.reply_to (length bytes) came) ≡ Written count
          → Patched (mount_after (at_state config state) state.mount request seen) state.store
      by (Some errno) is e = absurd (let never : Error errno ≡ Written count = e in cc)
      by None is e =
          let s = opened is in
          ap (λ (error : Option ℕ). content_at (record { mount = if not (is_some error) then write.mount_after taken state.mount node first bytes came else state.mount; store = state.store }) node) is
          ∙ ap (λ (c : Came). content_at (record { mount = write.mount_after taken state.mount node first bytes c; store = state.store }) node) (told came e)
          ∙ of_file s.sight s.seen (SeesFileAt-seen state.mount node s.sight settled.is s.seen s.file) bytes

  of_call : (call : Call) → call.request ≡ request → IsLawful config state call → reply_in config state call ≡ Written count
      → Patched (state_after_call config state call).mount (state_after_call config state call).store
  of_call call same lawful = by call.ending
    where
      by : (ending : Ending) → reply_by config state call ending ≡ Written count → Patched (mount_by config state call ending) (after_operations state.store call.seen)
      by performed e =
          subst (λ (r : Request). Observes (plan_at config state r) state.store call.seen → reply_to (at_state config state) state.mount r call.seen ≡ Written count
          → Patched (mount_after (at_state config state) state.mount r call.seen) (after_operations state.store call.seen)) (sym same) (of_reply call.seen) lawful.observed e
      by short e = absurd (let never : Error enomem ≡ Written count = e in cc)
      by stale e = absurd (let never : Error estale ≡ Written count = e in cc)

pub writes_patch : WritesPatch
writes_patch config bucket calls call node fh first count bytes ran request answered =
    let last = ends_with config bucket calls call ran in
    ap (λ (s : RunState). content_at s node) last.after
    ∙ of_call config (reached config bucket calls) node fh first count bytes last.before call request last.lawful answered
