-- FLUSH: what is staged of an open file becomes a new generation of its object (fuse.h: `struct fuse_flush_in`, whose
-- lock owner is not looked at). It is inserted only where the generation that the file shows is live (Cloud Storage:
-- `ifGenerationMatch`), so a stale writer never replaces what is newer. Where nothing is staged, nothing is asked.
use Rattle.std.specs.Prelude.{ℕ, [], ◌∷◌, List, Option, Some, None, option_and_then, if◌then◌else◌}
use Rattle.std.specs.FinMap as fin
use Rattle.std.specs.Option.{option_map_or}
use Rattle.bucket_api.specs.BucketStep.{with_pair}
use Rattle.bucket_api.specs.Metadata.{Metadata}
use Rattle.bucket_api.specs.Operation.{Operation, insert}
use Rattle.bucket_api.specs.declared.answers.Answer.{Answer}
use Rattle.bucket_api.specs.declared.answers.Answer.TheVariants as answers
use Rattle.bucket_api.specs.declared.objects.Pair.{Pair}
use Rattle.claim_spec.specs.declared.claim.Claim.{Claim}
use Rattle.file_metadata.specs.FileMetadata.{mtime_key}
use Rattle.fuse_replies.specs.Errno.{eio, estale}
use Rattle.fuse_replies.specs.declared.reply.Reply.{Reply}
use Rattle.fuse_replies.specs.declared.reply.Reply.TheVariants.{Empty, Error}
use Rattle.inode_spec.specs.Inodes.{is_live, made_current, with_file}
use Rattle.mount_rules.specs.Claiming.{owns_name, owns_node}
use Rattle.mount_rules.specs.Files.{content_in, without_staged}
use Rattle.mount_rules.specs.Guards.{on_open_file}
use Rattle.mount_rules.specs.Mount.{MountModel, Node, NodeTable}
use Rattle.mount_rules.specs.Plans.{Contents, Source, Step, Wanted, answers_of, ask, done, last_moment, may_read}
use Rattle.mount_rules.specs.Reading.{source_of, wanting}
use Rattle.mount_rules.specs.Rules.{Rules, Taken, at_open_file}
use Rattle.mount_rules.specs.Showing.{file_shown}
use Rattle.mount_rules.specs.View.{Looks, Sight, View}
use Rattle.mtime_text.specs.Printed.{printed_text}
use Rattle.staging_spec.specs.Overlays.{Overlay}
use Rattle.staging_spec.specs.StagedFiles.{StagedContent, touched_by}
use Rattle.staging_spec.specs.Wanted.{wanted_by_flush}

abbrev pub refusal : ℕ → View → Option ℕ
refusal node view = on_open_file node view (λ file. None)

-- a time as a pair of an object's metadata
abbrev pub time_pair : ℕ → ℕ → Pair
time_pair seconds nanos = record { key = mtime_key; value = printed_text seconds nanos }

-- the pairs that are kept of the object, with the time of the staged content
abbrev pub pairs_of : Option Metadata → StagedContent → List Pair
pairs_of kept staged = with_pair (option_map_or (λ (meta : Metadata). meta.pairs) kept []) (time_pair staged.seconds staged.nanos)

abbrev pub insert_of : Contents → ℕ → Option Metadata → StagedContent → Sight → Operation
insert_of contents second kept staged file = insert file.name (content_in contents (Some staged) file) (pairs_of kept staged) (Some file.source) second

-- the source may be read until the insert is asked, and nothing is asked once a read isn't given bytes
abbrev pub after_reads : Source → Operation → List Answer → Step
after_reads source op [] = may_read source (ask op)
after_reads source op (answers.Bytes bytes ∷ more) = after_reads source op more
after_reads source op (_ ∷ more) = done

abbrev pub plan : Taken → List Answer → Step
plan taken answers =
    option_map_or (λ staged. option_map_or (λ file. after_reads (source_of file) (insert_of taken.at.contents taken.at.second taken.view.kept staged file) answers) taken.view.node done)
    taken.view.staged done

-- all that is still the source's
abbrev pub wanted_of : Overlay → Sight → Option Wanted
wanted_of overlay file = wanting file.name file.source (wanted_by_flush (touched_by overlay) overlay.limit)

abbrev pub wanted : View → Option Wanted
wanted view = option_and_then (λ staged. option_and_then (λ file. wanted_of staged.overlay file) view.node) view.staged

-- What came of it: a new generation; none, since the source is live no more; or the bucket failed.
pub data Came : Type 0 where
  made : Metadata → Came
  stale : Came
  fault : Came

abbrev pub came_of : List Answer → Came
came_of [] = fault
came_of (answers.Bytes bytes ∷ more) = came_of more
came_of (answers.Meta meta ∷ more) = made meta
came_of (answers.NotFound ∷ more) = stale
came_of (answers.Precondition generation metageneration ∷ more) = stale
came_of (_ ∷ more) = fault

abbrev pub reply_to : Came → Reply
reply_to (made meta) = Empty
reply_to stale = Error estale
reply_to fault = Error eio

-- where nothing is staged, nothing is done
abbrev pub reply_by : Option StagedContent → Came → Reply
reply_by None came = Empty
reply_by (Some staged) came = reply_to came

-- a live node becomes the current one of its name
abbrev pub made_current_if_live : NodeTable → ℕ → Node → NodeTable
made_current_if_live table number node = if is_live number node then made_current table number node.name else table

-- the nodes where this one shows a new generation
abbrev pub table_with : NodeTable → ℕ → Metadata → ℕ → NodeTable
table_with table number meta moment =
    let told = with_file table number (file_shown meta moment) in
    option_map_or (λ node. made_current_if_live told number node) (fin.get told.nodes number) told

abbrev pub mount_after : MountModel → ℕ → ℕ → Came → MountModel
mount_after mount number moment (made meta) = record (without_staged mount number) { table = table_with mount.table number meta moment }
mount_after mount number moment came = mount

abbrev pub mount_by : Option StagedContent → MountModel → ℕ → ℕ → Came → MountModel
mount_by None mount number moment came = mount
mount_by (Some staged) mount number moment came = mount_after mount number moment came

-- the node, and its name, under which it makes a generation
abbrev pub claims : ℕ → View → List Claim
claims node view = owns_node node ∷ owns_name (option_map_or (λ (sight : Sight). sight.name) view.node []) ∷ []

abbrev pub looks : ℕ → ℕ → Looks
looks node fh = record (at_open_file node fh) { kept = Some node }

abbrev pub rules : ℕ → ℕ → Rules
rules node fh = record {
  looks = looks node fh;
  refusal = refusal node;
  plan = plan;
  wants = wanted;
  claims = claims node;
  keys = λ view. [];
  reply = λ taken mount seen. reply_by taken.view.staged (came_of (answers_of seen));
  after = λ taken mount seen. mount_by taken.view.staged mount node (last_moment seen) (came_of (answers_of seen));
}
