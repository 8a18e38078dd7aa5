-- READ: bytes of an open file, from a place on (fuse.h: `struct fuse_read_in`, whose flags are not looked at). They are
-- those of its staged content, or of the generation that the file shows, and no others: one that was replaced meanwhile
-- may be read no more.
use Rattle.std.specs.Prelude.{ℕ, ◌-◌, [], ◌∷◌, List, Option, Some, None, min, option_and_then}
use Rattle.std.specs.Option.{option_map_or}
use Rattle.bucket_api.specs.declared.answers.Answer.{Answer}
use Rattle.fuse_replies.specs.Errno.{eio, estale}
use Rattle.fuse_replies.specs.declared.reply.Reply.{Reply}
use Rattle.fuse_replies.specs.declared.reply.Reply.TheVariants.{Content, Error}
use Rattle.mount_rules.specs.Claiming.{shares_node}
use Rattle.mount_rules.specs.Files.{content_in, length_of}
use Rattle.mount_rules.specs.Guards.{on_open_file, size_refusal}
use Rattle.mount_rules.specs.Plans.{Contents, Step, Wanted, answers_of, done}
use Rattle.mount_rules.specs.Reading.{Reads, given, gone, failed, bytes_in, reads, source_of, wanting, while_given}
use Rattle.mount_rules.specs.Rules.{Rules, at_open_file}
use Rattle.mount_rules.specs.View.{Sight, View}
use Rattle.staging_spec.specs.StagedFiles.{StagedContent, touched_by}
use Rattle.staging_spec.specs.Wanted.{Range, wanted_by_read}

abbrev pub refusal : ℕ → ℕ → View → Option ℕ
refusal node size view = on_open_file node view (λ file. size_refusal size)

-- the bytes asked that lie in a content of this length
abbrev pub asked : ℕ → ℕ → ℕ → Range
asked first size len = record { first = first; count = min size (len - first) }

-- those of them that are still the source's: all, where nothing is staged
abbrev pub wanted_range : Option StagedContent → ℕ → ℕ → Sight → Range
wanted_range None first size file = asked first size file.size
wanted_range (Some s) first size file = wanted_by_read (touched_by s.overlay) s.overlay.limit first (asked first size s.overlay.size).count

abbrev pub wanted : ℕ → ℕ → Option StagedContent → Option Sight → Option Wanted
wanted first size staged seen = option_and_then (λ file. wanting file.name file.source (wanted_range staged first size file)) seen

abbrev pub plan : View → List Answer → Step
plan view answers = option_map_or (λ file. while_given (source_of file) (reads answers)) view.node done

-- the bytes of the file that is seen
abbrev pub bytes : Contents → ℕ → ℕ → Option StagedContent → Option Sight → List ℕ
bytes contents first size staged seen =
    option_map_or (λ file. bytes_in (asked first size (length_of staged file)) (content_in contents staged file)) seen []

abbrev pub reply_to : List ℕ → Reads → Reply
reply_to bytes given = Content bytes
reply_to bytes gone = Error estale
reply_to bytes failed = Error eio

abbrev pub rules : ℕ → ℕ → ℕ → ℕ → Rules
rules node fh first size = record {
  looks = at_open_file node fh;
  refusal = refusal node size;
  plan = λ taken. plan taken.view;
  wants = λ view. wanted first size view.staged view.node;
  claims = λ view. shares_node node ∷ [];
  keys = λ view. [];
  reply = λ taken mount seen. reply_to (bytes taken.at.contents first size taken.view.staged taken.view.node) (reads (answers_of seen));
  after = λ taken mount seen. mount;
}
