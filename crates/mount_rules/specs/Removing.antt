-- Removing an object of a name: what came of the delete, and that the name then has no current node.
use Rattle.std.specs.Prelude.{ℕ, List}
use Rattle.bucket_api.specs.declared.answers.Answer.{Answer}
use Rattle.bucket_api.specs.declared.answers.Answer.TheVariants as answers
use Rattle.fuse_replies.specs.Errno.{eio, enoent}
use Rattle.fuse_replies.specs.declared.reply.Reply.{Reply}
use Rattle.fuse_replies.specs.declared.reply.Reply.TheVariants.{Empty, Error}
use Rattle.inode_spec.specs.Inodes.{detached}
use Rattle.mount_rules.specs.Mount.{MountModel}

-- What came of it: the object is gone; there was none; or the bucket failed.
pub data Removed : Type 0 where
  gone : Removed
  nothing : Removed
  fault : Removed

abbrev pub removed_by : Answer → Removed
removed_by answers.Done = gone
removed_by answers.NotFound = nothing
removed_by _ = fault

-- the error that the request is answered, 0 where the object is gone
abbrev pub errno_of : Removed → ℕ
errno_of gone = 0
errno_of nothing = enoent
errno_of fault = eio

abbrev pub reply_to : Removed → Reply
reply_to gone = Empty
reply_to nothing = Error enoent
reply_to fault = Error eio

-- the node itself stays, while it has look-ups or a handle holds it
abbrev pub without_name : MountModel → List ℕ → MountModel
without_name mount name = record mount { table = detached mount.table name }

abbrev pub mount_after : MountModel → List ℕ → Removed → MountModel
mount_after mount name gone = without_name mount name
mount_after mount name nothing = mount
mount_after mount name fault = mount
