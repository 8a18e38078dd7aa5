-- A READ that is answered bytes is answered those of its file's content, along any account.
use Rattle.std.proofs.Common.{◌≡◌, ℕ, List, [], ◌∷◌, Option, Some, None, sym, ap, ◌∙◌}
use Rattle.std.specs.FinMap as fin
use Rattle.bucket_api.specs.BucketState.{BucketState}
use Rattle.bucket_api.specs.LogEvent.{LogEvent}
use Rattle.fuse_replies.specs.Errno.{enomem}
use Rattle.fuse_replies.specs.declared.reply.Reply.TheVariants.{Content, Error}
use Rattle.fuse_requests.specs.declared.request.Request.{Request}
use Rattle.fuse_requests.specs.declared.request.Request.TheVariants.{Read}
use Rattle.history_laws.proofs.Along.{Stands, contents_same, files_whole, stands}
use Rattle.history_laws.specs.Ends.{CallEnd, IsLast, SeesAsTaken, mount_at, over, turn_of}
use Rattle.history_laws.specs.Reads.{ReadsAreOfContent}
use Rattle.history_spec.proofs.Following.{Follows-first}
use Rattle.history_spec.specs.Account.{Account}
use Rattle.history_spec.specs.JournalState.{first_journal, reached, reply_by}
use Rattle.history_spec.specs.Observing.{seen_by}
use Rattle.mount_laws.proofs.Readings.{TellsBytes, of_file, tells_bytes}
use Rattle.mount_model.specs.declared.config.Config.{Config}
use Rattle.mount_model.specs.declared.journal.How.{How}
use Rattle.mount_model.specs.declared.journal.How.TheVariants as how
use Rattle.mount_rules.specs.Dispatch.{reply_to, view_in}
use Rattle.mount_rules.specs.Files.{content_in, length_of}
use Rattle.mount_rules.specs.Laws.{AreOfContent}
use Rattle.mount_rules.specs.Mount.{MountModel}
use Rattle.mount_rules.specs.OneThread.{contents_of}
use Rattle.mount_rules.specs.Plans.{Contents}
use Rattle.mount_rules.specs.Reading.{bytes_in}
use Rattle.mount_rules.specs.Requests.Read as reading
use Rattle.mount_rules.specs.View.{Sight, View}
use Rattle.staging_spec.specs.Overlays.{staging_over}
use Rattle.staging_spec.specs.StagedFiles.{StagedContent}

-- contents that agree on a file's source give the file one content
pub content_by : (one other : Contents) (file : Sight) → one file.name file.source ≡ other file.name file.source → (held : Option StagedContent)
    → content_in one held file ≡ content_in other held file
content_by one other file same None = same
content_by one other file same (Some held) = ap (λ source. (staging_over held.overlay source).content) same

-- the state in which a call ends stands
pub stands_last : (config : Config) (start : BucketState) (log : List LogEvent) (account : Account) (e : CallEnd) → IsLast config start log account e
    → Stands start log (reached config start log account)
stands_last config start log account e last =
    stands config start log last.bucket last.allowed account (Follows-first config start log first_journal account (turn_of e ∷ []) last.is.follows)

module _ (config : Config) (start : BucketState) (log : List LogEvent) (account : Account) (e : CallEnd) (last : IsLast config start log account e) where
  abbrev mount : MountModel
  mount = mount_at config start log account

  -- the file that the head's node is, as it was seen at the take
  pub seen_at_take : (request : Request) (file : Sight) → SeesAsTaken mount e → e.call.taken.request ≡ request → (view_in mount request).node ≡ Some file
      → e.call.taken.view.node ≡ Some file
  seen_at_take request file sees is seen =
      sym (ap (λ (v : View). v.node) sees) ∙ ap (λ (r : Request). (view_in mount r).node) is ∙ seen

  module _ (node fh first size : ℕ) (bytes : List ℕ) (sees : SeesAsTaken mount e) (is_read : e.call.taken.request ≡ Read node fh first size) where
    answered : (h : How) → reply_by start log mount e.call h e.items ≡ Content bytes
        → reply_to e.call.taken.at mount (Read node fh first size) (seen_by start log e.items) ≡ Content bytes
    answered how.Ok told = ap (λ (r : Request). reply_to e.call.taken.at mount r (seen_by start log e.items)) (sym is_read) ∙ told
    answered how.NoMemory told = absurd (let never : Error enomem ≡ Content bytes = told in cc)

    of_content : TellsBytes e.call.taken.at mount node first size bytes → AreOfContent (over start log mount) node first size bytes
    of_content t =
        let standing = stands_last config start log account e last in
        let same = contents_same start log (reached config start log account) standing e.call t.sight last.under_way
        (seen_at_take (Read node fh first size) t.sight sees is_read t.seen) t.is_file in
        of_file (over start log mount) node first size bytes standing.is (files_whole start log (reached config start log account) standing) t.sight t.is_file t.seen
        (ap (bytes_in (reading.asked first size (length_of (fin.get mount.staged node) t.sight)))
        (sym (content_by e.call.taken.at.contents (contents_of (record { start = start; log = log })) t.sight same (fin.get mount.staged node))) ∙ t.told)

pub reads_are_of_content : ReadsAreOfContent
reads_are_of_content config start log account e node fh first size bytes last sees is_read told =
    of_content config start log account e last node fh first size bytes sees is_read
    (tells_bytes e.call.taken.at (mount_at config start log account) node fh first size bytes (seen_by start log e.items)
    (answered config start log account e last node fh first size bytes sees is_read e.how told))
