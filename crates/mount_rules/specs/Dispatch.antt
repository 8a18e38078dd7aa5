-- The rules of every request, and the order of what comes before them: a version agreed on, a request that is served,
-- a body that could be read.
use Rattle.std.specs.Prelude.{ℕ, Bool, true, false, ◌==◌, ◌&&◌, not, List, [], ◌∷◌, Option, Some, None, is_some, if◌then◌else◌}
use Rattle.std.specs.List.{list_any}
use Rattle.std.specs.Option.{option_map_or}
use Rattle.claim_spec.specs.declared.claim.Claim.{Claim}
use Rattle.fuse_replies.specs.declared.reply.Reply.{Reply}
use Rattle.fuse_replies.specs.declared.reply.Reply.TheVariants.{Error, Silent}
use Rattle.fuse_requests.specs.Opcodes as opcodes
use Rattle.fuse_requests.specs.declared.request.Request.{Request}
use Rattle.fuse_requests.specs.declared.request.Request.TheVariants.{Lookup, Forget, BatchForget, Interrupt, Getattr, Setattr, Readlink, Symlink, Mknod, Mkdir, Unlink, Rmdir, Rename, Rename2, Init, Opening, Read, Write, Flush, Fsync, Release, Statfs, Opendir, Readdir, Releasedir, Fsyncdir, Create, Destroy, Unknown}
use Rattle.fuse_replies.specs.Errno.{einval, enosys, enospc, eproto}
use Rattle.mount_model.specs.declared.config.Config.{Config}
use Rattle.mount_rules.specs.Mount.{MountModel}
use Rattle.mount_model.specs.Observing.{Observed}
use Rattle.mount_rules.specs.Plans.{Plan, Wanted, done}
use Rattle.mount_rules.specs.Requests.BatchForget as batch_forget
use Rattle.mount_rules.specs.Requests.Create as create
use Rattle.mount_rules.specs.Requests.Destroy as destroy
use Rattle.mount_rules.specs.Requests.Flush as flush
use Rattle.mount_rules.specs.Requests.Forget as forget
use Rattle.mount_rules.specs.Requests.Fsync as fsync
use Rattle.mount_rules.specs.Requests.Fsyncdir as fsyncdir
use Rattle.mount_rules.specs.Requests.Getattr as getattr
use Rattle.mount_rules.specs.Requests.Init as init
use Rattle.mount_rules.specs.Requests.Lookup as lookup
use Rattle.mount_rules.specs.Requests.Mkdir as mkdir
use Rattle.mount_rules.specs.Requests.Mknod as mknod
use Rattle.mount_rules.specs.Requests.Open as open_file
use Rattle.mount_rules.specs.Requests.Opendir as opendir
use Rattle.mount_rules.specs.Requests.Read as read
use Rattle.mount_rules.specs.Requests.Readdir as readdir
use Rattle.mount_rules.specs.Requests.Readlink as readlink
use Rattle.mount_rules.specs.Requests.Release as release
use Rattle.mount_rules.specs.Requests.Releasedir as releasedir
use Rattle.mount_rules.specs.Requests.Rename as rename
use Rattle.mount_rules.specs.Requests.Rename2 as rename2
use Rattle.mount_rules.specs.Requests.Rmdir as rmdir
use Rattle.mount_rules.specs.Requests.Setattr as setattr
use Rattle.mount_rules.specs.Requests.Statfs as statfs
use Rattle.mount_rules.specs.Requests.Symlink as symlink
use Rattle.mount_rules.specs.Requests.Unlink as unlink
use Rattle.mount_rules.specs.Requests.Unserved as unserved
use Rattle.mount_rules.specs.Requests.Write as write
use Rattle.mount_rules.specs.Rules.{AtTake, Rules, Taken}
use Rattle.mount_rules.specs.View.{View, view_of}

-- the requests that never get a reply
abbrev pub silent_opcodes : List ℕ
silent_opcodes = opcodes.forget ∷ opcodes.interrupt ∷ opcodes.batch_forget ∷ []

-- the requests that are served and get a reply
abbrev pub served_opcodes : List ℕ
served_opcodes =
    opcodes.lookup ∷ opcodes.getattr ∷ opcodes.setattr ∷ opcodes.readlink ∷ opcodes.symlink ∷ opcodes.mknod ∷ opcodes.mkdir
    ∷ opcodes.unlink ∷ opcodes.rmdir ∷ opcodes.rename ∷ opcodes.opening ∷ opcodes.reading ∷ opcodes.writing ∷ opcodes.statfs
    ∷ opcodes.release ∷ opcodes.fsync ∷ opcodes.flush ∷ opcodes.init ∷ opcodes.opendir ∷ opcodes.readdir ∷ opcodes.releasedir
    ∷ opcodes.fsyncdir ∷ opcodes.create ∷ opcodes.destroy ∷ opcodes.rename2 ∷ []

abbrev pub is_among : List ℕ → ℕ → Bool
is_among opcodes opcode = list_any (λ o. o == opcode) opcodes

-- a request that could not be read: a served one has a body outside the grammar; another isn't served, its body unread
abbrev pub unread : ℕ → Option ℕ
unread opcode =
    if is_among silent_opcodes opcode then None
    else if is_among served_opcodes opcode then Some einval
    else Some enosys

-- the rules of each request
abbrev pub rules_of : Request → Rules
rules_of (Lookup node name) = lookup.rules node name
rules_of (Forget node count) = forget.rules node count
rules_of (BatchForget pairs) = batch_forget.rules pairs.items
rules_of (Getattr node) = getattr.rules node
rules_of (Setattr node valid size mtime nanos) = setattr.rules node (record { valid = valid; size = size; seconds = mtime; nanos = nanos })
rules_of (Opening node flags) = open_file.rules node
rules_of (Read node fh first size) = read.rules node fh first size
rules_of (Write node fh first content) = write.rules node fh first content
rules_of (Flush node fh) = flush.rules node fh
rules_of (Fsync node fh) = fsync.rules node fh
rules_of (Release node fh) = release.rules node fh
rules_of Statfs = statfs.rules
rules_of (Init major minor readahead flags) = init.rules major minor readahead flags
rules_of (Opendir node) = opendir.rules node
rules_of (Readdir node fh first size) = readdir.rules node fh first size
rules_of (Releasedir node fh) = releasedir.rules node fh
rules_of (Fsyncdir node fh) = fsyncdir.rules node fh
rules_of (Create node name) = create.rules node name
rules_of Destroy = destroy.rules
rules_of (Readlink node) = readlink.rules node
rules_of (Symlink node name target) = symlink.rules node name target
rules_of (Mknod node mode name) = mknod.rules node mode name
rules_of (Mkdir node name) = mkdir.rules node name
rules_of (Unlink node name) = unlink.rules node name
rules_of (Rmdir node name) = rmdir.rules node name
rules_of (Rename node newdir name newname) = rename.rules node (record { name = name; newdir = newdir; newname = newname })
rules_of (Rename2 node newdir flags name newname) = rename2.rules node flags (record { name = name; newdir = newdir; newname = newname })
rules_of Interrupt = unserved.rules None
rules_of (Unknown opcode) = unserved.rules (unread opcode)

-- FORGET, BATCH_FORGET and INTERRUPT never get a reply, also where their bodies could not be read
abbrev pub is_silent : Request → Bool
is_silent (Forget node count) = true
is_silent (BatchForget pairs) = true
is_silent Interrupt = true
is_silent (Unknown opcode) = is_among silent_opcodes opcode
is_silent _ = false

-- INIT, also where its body could not be read
abbrev pub is_init : Request → Bool
is_init (Init major minor readahead flags) = true
is_init (Unknown opcode) = opcode == opcodes.init
is_init _ = false

-- a request that waits for no reply has no effect before a version is agreed on
abbrev pub is_idle : MountModel → Request → Bool
is_idle mount request = is_silent request && not mount.negotiated

abbrev pub view_in : MountModel → Request → View
view_in mount request = view_of mount (rules_of request).looks

-- what a request has from a take at this mount
abbrev pub taken_at : AtTake → MountModel → Request → Taken
taken_at at mount request = record { at = at; view = view_in mount request }

-- The error with which a request that gets a reply is refused before anything is asked of the bucket: first of all, that
-- no version is agreed on.
abbrev pub early : MountModel → Request → Option ℕ
early mount request =
    if not mount.negotiated && not (is_silent request) && not (is_init request) then Some eproto
    else (rules_of request).refusal (view_in mount request)

-- the request goes by its rules: nothing refuses it, and it has an effect
abbrev pub goes_on : MountModel → Request → Bool
goes_on mount request = not (is_idle mount request) && not (is_some (early mount request))

-- What a request asks of the bucket next, after these answers; nothing, where it is refused.
abbrev pub plan : AtTake → MountModel → Request → Plan
plan at mount request =
    if goes_on mount request then (rules_of request).plan (taken_at at mount request) else (λ answers. done)

-- Whether a WRITE is refused for want of blocks. That is decided anew at its end, so it is no part of its plan.
abbrev pub is_full : Config → MountModel → Request → Bool
is_full config mount (Write node fh first content) = write.is_full config mount.staged first content (view_in mount (Write node fh first content))
is_full config mount request = false

-- the error with which a request is refused at its take: a WRITE also where it is refused for want of blocks
abbrev pub refused_at_take : Config → MountModel → Request → Option ℕ
refused_at_take config mount request = option_map_or Some (early mount request) (if is_full config mount request then Some enospc else None)

-- the bytes of a source that it wants; none, where it is refused at its take
abbrev pub wants : Config → MountModel → Request → Option Wanted
wants config mount request =
    if goes_on mount request then (if is_full config mount request then None else (rules_of request).wants (view_in mount request)) else None

-- what it claims from its take to its end; nothing, where it is refused or has no effect
abbrev pub claims : MountModel → Request → List Claim
claims mount request = if goes_on mount request then (rules_of request).claims (view_in mount request) else []

-- what it is answered
abbrev pub reply_to : AtTake → MountModel → Request → List Observed → Reply
reply_to at mount request seen =
    if is_idle mount request then Silent
    else option_map_or Error (early mount request) ((rules_of request).reply (taken_at at mount request) mount seen)

-- what it leaves: a request that is refused leaves the mount as it was
abbrev pub mount_after : AtTake → MountModel → Request → List Observed → MountModel
mount_after at mount request seen =
    if goes_on mount request then (rules_of request).after (taken_at at mount request) mount seen else mount
