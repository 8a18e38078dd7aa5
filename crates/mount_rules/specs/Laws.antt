-- What is proved of the requests and of runs, as statements.
use Rattle.std.specs.Prelude.{◌≡◌, ◌≢◌, ℕ, ◌+◌, ◌-◌, ◌≤◌, ◌==◌, true, List, [], ◌∷◌, ◌++◌, All, length, take, drop, Option, Some, None, IsSome, if◌then◌else◌}
use Rattle.std.specs.FinMap as fin
use Rattle.std.specs.List.{AllByRecursion}
use Rattle.std.specs.Option.{option_map_or}
use Rattle.bucket_api.specs.BucketState.{BucketState, IsBucket, object_of}
use Rattle.bucket_api.specs.BucketStep.{with_new}
use Rattle.bucket_api.specs.declared.answers.Answer.{Answer}
use Rattle.bucket_api.specs.declared.answers.Answer.TheVariants.{Bytes}
use Rattle.bucket_api.specs.declared.objects.Object.{Object}
use Rattle.bucket_api.specs.Log.{content_of}
use Rattle.bucket_api.specs.Operation.{Operation, IsAllowed, stat, read, insert, update, delete, copy, list}
use Rattle.claim_spec.specs.Conflicts.{AreApart, IsClaimed, IsOwned}
use Rattle.claim_spec.specs.declared.claim.Claim.{Claim}
use Rattle.claim_spec.specs.declared.claim.ClaimKey.TheVariants as key
use Rattle.fuse_replies.specs.declared.reply.Reply.{Reply}
use Rattle.fuse_replies.specs.declared.reply.Reply.TheVariants.{Content, Empty, Error, Entry, Created as CreatedReply, Written}
use Rattle.fuse_requests.specs.declared.request.Request.{Request}
use Rattle.fuse_requests.specs.declared.request.Request.TheVariants.{BatchForget, Create, Flush, Forget, Fsync, Getattr, Lookup, Mkdir, Mknod, Opening, Opendir, Read}
use Rattle.fuse_requests.specs.declared.request.Request.TheVariants.{Rename, Rename2, Rmdir, Setattr, Symlink, Unlink, Write}
use Rattle.handle_table.specs.Handles.{Opened}
use Rattle.inode_spec.specs.Inodes.{lookups_of}
use Rattle.mount_model.specs.declared.config.Config.{Config}
use Rattle.mount_rules.specs.Dispatch.{claims, early, is_full, mount_after, plan, reply_to, view_in, wants}
use Rattle.fuse_replies.specs.Errno.{enomem, enospc, estale}
use Rattle.mount_rules.specs.Files.{FilesAreShort, content_in}
use Rattle.mount_rules.specs.Mount.{File, IsMount, MountModel, Node}
use Rattle.mount_rules.specs.OneThread.{Call, IsLawful, IsRun, Ending, RunState, bucket_of, contents_of, first_state, short, reply_by, reply_in, state_after_call, state_after_calls}
use Rattle.mount_model.specs.Observing.{Observed}
use Rattle.mount_rules.specs.Plans.{Allows, IsHarmless, MayEnd, Plan, Source, Step, Wanted, answers_of, done, may_read, plan_after}
use Rattle.mount_rules.specs.Requests.BatchForget as batch_forget
use Rattle.mount_rules.specs.Rules.{AtTake}
use Rattle.mount_rules.specs.View.{Sight, kept_at, sight_at}
use Rattle.staging_spec.specs.Content.{patch}
use Rattle.staging_spec.specs.Overlays.{StandsOver, staging_over}
use Rattle.staging_spec.specs.StagedFiles.{StagedContent, blocks_in}

-- ---- a mount stays one
abbrev pub StaysMount : Type 0
StaysMount = (at : AtTake) (mount : MountModel) (request : Request) (seen : List Observed)
    → IsMount mount → IsMount (mount_after at mount request seen)

-- ---- what calls leave to one another
-- What a call with these claims leaves as it was: the sight of every node that is there and that it doesn't own; every
-- open handle on a node that it doesn't own; what is kept of a node whose number and name it doesn't claim; the current
-- node of every name that it doesn't claim, unless it owns that node; and what is staged of a node that it doesn't own.
pub record Keeps (claimed : List Claim) (mount after : MountModel) : Type 0 where
  pub sights : (number : ℕ) (sight : Sight) → sight_at mount.table number ≡ Some sight → (IsOwned claimed (key.Node number) → ⊥)
      → sight_at after.table number ≡ Some sight
  pub handles : (fh : ℕ) (handle : Opened) → fin.get mount.handles fh ≡ Some handle → (IsOwned claimed (key.Node handle.node) → ⊥)
      → fin.get after.handles fh ≡ Some handle
  pub kept : (number : ℕ) (sight : Sight) → sight_at mount.table number ≡ Some sight
      → (IsClaimed claimed (key.Node number) → ⊥) → (IsClaimed claimed (key.Name sight.name) → ⊥)
      → kept_at after.table number ≡ kept_at mount.table number
  pub current : (name : List ℕ) → (IsClaimed claimed (key.Name name) → ⊥)
      → ((number : ℕ) → fin.get mount.table.current name ≡ Some number → IsOwned claimed (key.Node number) → ⊥)
      → fin.get after.table.current name ≡ fin.get mount.table.current name
  pub staged : (number : ℕ) → (IsOwned claimed (key.Node number) → ⊥) → fin.get after.staged number ≡ fin.get mount.staged number

abbrev pub LeavesOthers : Type 0
LeavesOthers = (at : AtTake) (mount : MountModel) (request : Request) (seen : List Observed)
    → IsMount mount → Keeps (claims mount request) mount (mount_after at mount request seen)

-- The law of claims: a call that asks something sees the same after another call is done with which its claims don't
-- conflict, whatever that one observed; so it is refused no more than before, and asks and claims what it did.
abbrev pub ClaimsProtect : Type 0
ClaimsProtect = (mine at : AtTake) (mount : MountModel) (request other : Request) (seen : List Observed)
    → IsMount mount → plan mine mount request [] ≢ done → AreApart (claims mount request) (claims mount other)
    → view_in (mount_after at mount other seen) request ≡ view_in mount request

-- ---- what a plan may ask
-- an operation changes no name that the claims don't own, and stats none that they don't claim
abbrev pub IsCovered : List Claim → Operation → Type 0
IsCovered claimed (stat name) = IsClaimed claimed (key.Name name)
IsCovered claimed (read name generation first count) = Unit {0}
IsCovered claimed (insert name content pairs only stamp) = IsOwned claimed (key.Name name)
IsCovered claimed (update name pairs only only_meta stamp) = IsOwned claimed (key.Name name)
IsCovered claimed (delete name only) = IsOwned claimed (key.Name name)
IsCovered claimed (copy from generation to stamp) = IsClaimed claimed (key.Name from) × IsOwned claimed (key.Name to)
IsCovered claimed (list prefix slash max after) = Unit {0}

abbrev pub ClaimsCover : Type 0
ClaimsCover = (at : AtTake) (mount : MountModel) (request : Request) (seen : List Observed) (op : Operation)
    → Allows (plan at mount request (answers_of seen)) op → IsCovered (claims mount request) op

-- the plan asked for each of these, one after the other
abbrev pub Planned : Plan → List Observed → Type 0
Planned plan [] = Unit {0}
Planned plan (o ∷ more) = Allows (plan []) o.op × Planned (plan_after plan o.answer) more

-- a bucket answers bytes to a read alone
abbrev pub IsRead : Operation → Type 0
IsRead (read name generation first count) = Unit {0}
IsRead op = ⊥

abbrev pub IsAnswerTo : Operation → Answer → Type 0
IsAnswerTo op (Bytes bytes) = IsRead op
IsAnswerTo op answer = Unit {0}

-- while a plan still asks, nothing that it has asked made an insert, an update or a delete: so a call that stops short
-- leaves at most a copy
abbrev pub HarmlessWhileAsking : Type 0
HarmlessWhileAsking = (at : AtTake) (mount : MountModel) (request : Request) (seen : List Observed)
    → Planned (plan at mount request) seen → AllByRecursion (λ (o : Observed). IsAnswerTo o.op o.answer) seen
    → plan at mount request (answers_of seen) ≢ done
    → AllByRecursion (λ (o : Observed). IsHarmless o.op) seen

-- what a request wants of a source it may read before anything else
abbrev pub MayReadWanted : Type 0
MayReadWanted = (config : Config) (at : AtTake) (mount : MountModel) (request : Request) (wanted : Wanted)
    → wants config mount request ≡ Some wanted → (source : Source) × (next : Step) × (plan at mount request [] ≡ may_read source next)

-- what is wanted lies in the source of a file that is there
pub record IsOfFile (mount : MountModel) (wanted : Wanted) : Type 0 where
  pub number : ℕ
  pub node : Node
  pub file : File
  pub there : fin.get mount.table.nodes number ≡ Some node
  pub is_file : node.file ≡ Some file
  pub named : wanted.name ≡ node.name
  pub shown : wanted.generation ≡ file.source
  pub some : 1 ≤ wanted.range.count
  pub inside : wanted.range.first + wanted.range.count ≤ file.size

abbrev pub WantsOfFiles : Type 0
WantsOfFiles = (config : Config) (mount : MountModel) (request : Request) (wanted : Wanted)
    → IsMount mount → wants config mount request ≡ Some wanted → IsOfFile mount wanted

-- the most operations that a request asks; an OPENDIR asks a page for each page of its listing, and a request on the
-- content of a file may read its source as often as it likes
abbrev pub most_asked : Request → Option ℕ
most_asked (Lookup node name) = Some 2
most_asked (Create node name) = Some 1
most_asked (Mknod node mode name) = Some 1
most_asked (Symlink node name target) = Some 1
most_asked (Mkdir node name) = Some 1
most_asked (Unlink node name) = Some 1
most_asked (Rmdir node name) = Some 2
most_asked (Rename node newdir name newname) = Some 4
most_asked (Rename2 node newdir flags name newname) = Some 4
most_asked (Getattr node) = Some 1
most_asked (Opening node flags) = Some 1
most_asked (Setattr node valid size mtime nanos) = Some 1
most_asked (Read node fh first size) = None
most_asked (Write node fh first content) = None
most_asked (Flush node fh) = None
most_asked (Fsync node fh) = None
most_asked (Opendir node) = None
most_asked _ = Some 0

abbrev pub AsksAtMost : Type 0
AsksAtMost = (at : AtTake) (mount : MountModel) (request : Request) (seen : List Observed) (most : ℕ)
    → most_asked request ≡ Some most → Planned (plan at mount request) seen → length seen ≤ most

-- ---- replies
-- a request that is performed to its end is never answered ENOMEM
abbrev pub NeverOutOfMemory : Type 0
NeverOutOfMemory = (at : AtTake) (mount : MountModel) (request : Request) (seen : List Observed)
    → reply_to at mount request seen ≢ Error enomem

-- so the calls answered ENOMEM are those that stopped short
pub record IsShortBy (config : Config) (state : RunState) (call : Call) (ending : Ending) : Type 0 where
  pub stopped : ending ≡ short → reply_by config state call ending ≡ Error enomem
  pub answered : reply_by config state call ending ≡ Error enomem → ending ≡ short

abbrev pub ShortAreOutOfMemory : Type 0
ShortAreOutOfMemory = (config : Config) (state : RunState) (call : Call) → IsShortBy config state call call.ending

-- a request that is answered an error changes nothing that is staged
abbrev pub RefusedKeepsStaged : Type 0
RefusedKeepsStaged = (at : AtTake) (mount : MountModel) (request : Request) (seen : List Observed) (errno : ℕ)
    → reply_to at mount request seen ≡ Error errno → (mount_after at mount request seen).staged ≡ mount.staged

-- a WRITE that is refused for want of blocks at its take may end at once, is answered ENOSPC and leaves the mount as it was
pub record IsRefusedFull (at : AtTake) (mount : MountModel) (request : Request) : Type 0 where
  pub ends : MayEnd (plan at mount request [])
  pub answered : reply_to at mount request [] ≡ Error enospc
  pub left : mount_after at mount request [] ≡ mount

abbrev pub FullIsRefused : Type 0
FullIsRefused = (at : AtTake) (mount : MountModel) (request : Request)
    → early mount request ≡ None → is_full at.config mount request ≡ true → IsRefusedFull at mount request

-- ---- counts of look-ups
-- the look-ups of the node that a reply gives
abbrev pub given : Reply → ℕ → ℕ
given (Entry entry) number = if number == entry.node then 1 else 0
given (CreatedReply entry fh) number = if number == entry.node then 1 else 0
given _ number = 0

-- the look-ups of the node that a request gives back, of a BATCH_FORGET by all its pairs
abbrev pub back_by : Request → ℕ → ℕ
back_by (Forget node count) number = if number == node then count else 0
back_by (BatchForget pairs) number = batch_forget.given_back pairs.items number
back_by _ number = 0

-- none before a version is agreed on
abbrev pub given_back : MountModel → Request → ℕ → ℕ
given_back mount request number = if mount.negotiated then back_by request number else 0

-- the count of a node along the calls, from this count on: what replies give of it, less what is given back, stopping at 0
abbrev pub count_along : Config → RunState → ℕ → ℕ → List Call → ℕ
count_along config state number count [] = count
count_along config state number count (call ∷ calls) =
    count_along config (state_after_call config state call) number
    ((count + given (reply_in config state call) number) - given_back state.mount call.request number) calls

-- Live nodes: in any run from a first mount on, a node other than the root has the look-ups that were given of it and not
-- given back. So it is live exactly where its count is above 0.
abbrev pub CountsDecide : Type 0
CountsDecide = (config : Config) (bucket : BucketState) (calls : List Call) (number : ℕ) → number ≢ 1 → IsRun config (first_state bucket) calls
    → lookups_of (state_after_calls config (first_state bucket) calls).mount.table number ≡ count_along config (first_state bucket) number 0 calls

-- ---- content of reads
-- each generation that a file shows was live at some time, with content of the file's size
abbrev pub FilesHaveContent : RunState → Type 0
FilesHaveContent state = (number : ℕ) (node : Node) (file : File) → fin.get state.mount.table.nodes number ≡ Some node → node.file ≡ Some file
    → (content : List ℕ) × (content_of state.store.start state.store.log node.name file.source ≡ Some content) × (length content ≡ file.size)

-- that stays so, call after call, along operations that may be asked of a bucket
abbrev pub FilesKeepContent : Type 0
FilesKeepContent = (config : Config) (state : RunState) (call : Call) → IsMount state.mount → IsBucket state.store.start
    → All (λ e. IsAllowed e.op) (state_after_call config state call).store.log → IsLawful config state call
    → FilesHaveContent state → FilesHaveContent (state_after_call config state call)

-- then no file is longer than a content may be
abbrev pub ContentsAreShort : Type 0
ContentsAreShort = (state : RunState) → IsBucket state.store.start → All (λ e. IsAllowed e.op) state.store.log → FilesHaveContent state → FilesAreShort state.mount

-- what is staged of a file stands over the content of the generation that the file shows
pub record IsStagedOver (state : RunState) (number : ℕ) (node : Node) (file : File) (staged : StagedContent) : Type 0 where
  pub stands : StandsOver (contents_of state.store node.name file.source) (staging_over staged.overlay (contents_of state.store node.name file.source))

abbrev pub StagedStandOver : RunState → Type 0
StagedStandOver state = (number : ℕ) (node : Node) (file : File) (staged : StagedContent)
    → fin.get state.mount.table.nodes number ≡ Some node → node.file ≡ Some file → fin.get state.mount.staged number ≡ Some staged
    → IsStagedOver state number node file staged

-- that stays so as well
abbrev pub StagedStayOver : Type 0
StagedStayOver = (config : Config) (state : RunState) (call : Call) → IsMount state.mount → IsBucket state.store.start
    → All (λ e. IsAllowed e.op) (state_after_call config state call).store.log → IsLawful config state call
    → FilesHaveContent state → StagedStandOver state → StagedStandOver (state_after_call config state call)

-- the content of the file that the node is: the staged one, or that of its source
abbrev pub content_at : RunState → ℕ → List ℕ
content_at state number =
    option_map_or (λ file. content_in (contents_of state.store) (fin.get state.mount.staged number) file) (sight_at state.mount.table number) []

-- The bytes are those asked for of the content of a file, whose source was live at some time.
pub record AreOfContent (state : RunState) (node first size : ℕ) (bytes : List ℕ) : Type 0 where
  pub file : Sight
  pub seen : sight_at state.mount.table node ≡ Some file
  pub source : List ℕ
  pub was_live : content_of state.store.start state.store.log file.name file.source ≡ Some source
  pub asked : bytes ≡ take size (drop first (content_at state node))

-- the state that a run over a bucket came to by these calls, along operations that may be asked of one
abbrev pub reached : Config → BucketState → List Call → RunState
reached config bucket calls = state_after_calls config (first_state bucket) calls

pub record Ran (config : Config) (bucket : BucketState) (calls : List Call) : Type 0 where
  pub start : IsBucket bucket
  pub allowed : All (λ e. IsAllowed e.op) (reached config bucket calls).store.log
  pub run : IsRun config (first_state bucket) calls

-- Content of reads: in any run a READ that is answered bytes is answered those of its file's content.
abbrev pub ReadsAreOfContent : Type 0
ReadsAreOfContent = (config : Config) (bucket : BucketState) (calls : List Call) (call : Call) (node fh first size : ℕ) (bytes : List ℕ)
    → Ran config bucket (calls ++ call ∷ []) → call.request ≡ Read node fh first size
    → reply_in config (reached config bucket calls) call ≡ Content bytes → AreOfContent (reached config bucket calls) node first size bytes

-- in any run a WRITE that is answered so many bytes has written its bytes into the content
abbrev pub WritesPatch : Type 0
WritesPatch = (config : Config) (bucket : BucketState) (calls : List Call) (call : Call) (node fh first count : ℕ) (bytes : List ℕ)
    → Ran config bucket (calls ++ call ∷ []) → call.request ≡ Write node fh first bytes
    → reply_in config (reached config bucket calls) call ≡ Written count
    → content_at (reached config bucket (calls ++ call ∷ [])) node ≡ patch (content_at (reached config bucket calls) node) first bytes

-- in any run what is staged touches no more blocks than there are
abbrev pub StagingIsBounded : Type 0
StagingIsBounded = (config : Config) (bucket : BucketState) (calls : List Call)
    → Ran config bucket calls → blocks_in (reached config bucket calls).mount.staged ≤ config.staging_blocks

-- ---- guarded flush
-- the request is a FLUSH or an FSYNC of the node
abbrev pub IsFlushOf : ℕ → Request → Type 0
IsFlushOf node (Flush number fh) = number ≡ node
IsFlushOf node (Fsync number fh) = number ≡ node
IsFlushOf node request = ⊥

-- exactly one generation is made, under the file's name, with this content
pub record MakesGeneration (state after : RunState) (file : Sight) (content : List ℕ) : Type 0 where
  pub object : Object
  pub made : bucket_of after.store ≡ with_new (bucket_of state.store) file.name object
  pub fresh : object.meta.generation ≡ (bucket_of state.store).last + 1
  pub holds : object.content ≡ content

-- What a flush of staged content comes to. Where the generation that the file shows is live under its name, it makes one
-- with the staged content; else it is answered ESTALE, and the bucket is as it was.
pub record IsGuarded (state after : RunState) (node : ℕ) (file : Sight) (answer : Reply) : Type 0 where
  pub live : IsSome (object_of (bucket_of state.store) file.name file.source) → (answer ≡ Empty) × MakesGeneration state after file (content_at state node)
  pub gone : object_of (bucket_of state.store) file.name file.source ≡ None → (answer ≡ Error estale) × (bucket_of after.store ≡ bucket_of state.store)

-- Guarded flush: in any run every flush of staged content is so, but for one that is refused, or stops short.
abbrev pub FlushesAreGuarded : Type 0
FlushesAreGuarded = (config : Config) (bucket : BucketState) (calls : List Call) (call : Call) (node : ℕ) (file : Sight) (staged : StagedContent)
    → Ran config bucket (calls ++ call ∷ []) → IsFlushOf node call.request
    → sight_at (reached config bucket calls).mount.table node ≡ Some file
    → fin.get (reached config bucket calls).mount.staged node ≡ Some staged
    → early (reached config bucket calls).mount call.request ≡ None → call.ending ≢ short
    → IsGuarded (reached config bucket calls) (reached config bucket (calls ++ call ∷ [])) node file (reply_in config (reached config bucket calls) call)

-- ---- numbers are given once
-- no number below the next ones of an earlier mount is given again
pub record GivesLater (earlier mount : MountModel) : Type 0 where
  pub is : IsMount mount
  pub nodes : earlier.table.next ≤ mount.table.next
  pub handles : earlier.next_handle ≤ mount.next_handle

-- at any time of a run from a first mount on, every node and every handle has a number below the next one, and the next
-- ones have never fallen
abbrev pub NumbersRise : Type 0
NumbersRise = (config : Config) (bucket : BucketState) (calls more : List Call)
    → GivesLater (state_after_calls config (first_state bucket) calls).mount (state_after_calls config (first_state bucket) (calls ++ more)).mount
