-- What each request comes to at a mount without moments.
use Rattle.std.proofs.Common.{◌≡◌, ◌≤◌, ◌<◌, ℕ, List, [], ◌∷◌, Option, Some, None, refl, ap, length, arith}
use Rattle.std.specs.FinMap as fin
use Rattle.std.specs.Option.{option_and_then, option_map_or}
use Rattle.std.specs.Prelude.{IfSome}
use Rattle.bucket_api.specs.Metadata.{Metadata}
use Rattle.bucket_api.specs.declared.answers.Answer.{Answer}
use Rattle.bucket_api.specs.declared.answers.Answer.TheVariants as answers
use Rattle.fuse_replies.specs.Errno.{eio}
use Rattle.fuse_replies.specs.declared.reply.Reply.{Reply}
use Rattle.fuse_replies.specs.declared.reply.Reply.TheVariants.{Error}
use Rattle.fuse_requests.specs.declared.request.Request.{Request}
use Rattle.fuse_requests.specs.declared.request.Request.TheVariants.{
  Create,
  Flush,
  Fsync,
  Getattr,
  Lookup,
  Mkdir,
  Mknod,
  Opendir,
  Opening,
  Read,
  Rename,
  Rename2,
  Rmdir,
  Setattr,
  Symlink,
  Unlink,
  Write,
}
use Rattle.history_laws.proofs.Bare.{IsBare, IsKnown, IsWithin, UpTo, bare_names}
use Rattle.history_laws.proofs.BareMounts.{IsBareMount, bare_mount_later, bare_with_table, names_left}
use Rattle.history_laws.proofs.ShownAgain.{IsNews}
use Rattle.inode_spec.specs.Inodes.{detached}
use Rattle.mount_model.specs.declared.config.Config.{Config}
use Rattle.mount_rules.specs.Dispatch.{rules_of}
use Rattle.mount_rules.specs.Files.{with_staged}
use Rattle.mount_rules.specs.Making as making
use Rattle.mount_rules.specs.Mount.{File, MountModel, Node, NodeTable}
use Rattle.mount_rules.specs.Reading.{reads}
use Rattle.mount_rules.specs.Removing as removing
use Rattle.mount_rules.specs.Requests.Create as create
use Rattle.mount_rules.specs.Requests.Flush as flush
use Rattle.mount_rules.specs.Requests.Getattr as getattr
use Rattle.mount_rules.specs.Requests.Lookup as lookup
use Rattle.mount_rules.specs.Requests.Mkdir as mkdir
use Rattle.mount_rules.specs.Requests.Mknod as mknod
use Rattle.mount_rules.specs.Requests.Open as open_file
use Rattle.mount_rules.specs.Requests.Opendir as opendir
use Rattle.mount_rules.specs.Requests.Read as read
use Rattle.mount_rules.specs.Requests.Rename as rename
use Rattle.mount_rules.specs.Requests.Rmdir as rmdir
use Rattle.mount_rules.specs.Requests.Setattr as setattr
use Rattle.mount_rules.specs.Requests.Unlink as unlink
use Rattle.mount_rules.specs.Requests.Write as write
use Rattle.mount_rules.specs.Rules.{Taken}
use Rattle.mount_rules.specs.Standing as standing
use Rattle.mount_rules.specs.Standing.{Standing, generation_seen}
use Rattle.staging_spec.specs.StagedFiles.{StagedContent}

-- ---- what a request comes to without moments
abbrev pub getattr_reply : Config → MountModel → ℕ → Standing → Reply
getattr_reply config bare node standing.fault = Error eio
getattr_reply config bare node found = getattr.reply_with config (standing.table_after bare.table node 0 found) bare.staged node (names_left found)

abbrev pub setattr_reply : Taken → setattr.Asked → ℕ → MountModel → List Answer → setattr.Change → Reply
setattr_reply taken asked node bare told setattr.look = getattr_reply taken.at.config bare node (standing.standing (generation_seen taken.view.node) told)
setattr_reply taken asked node bare told change = setattr.reply_to taken asked node bare 0 told change

abbrev pub asked_by : ℕ → ℕ → ℕ → ℕ → setattr.Asked
asked_by valid size mtime nanos = record { valid = valid; size = size; seconds = mtime; nanos = nanos }

abbrev pub names_by : ℕ → List ℕ → List ℕ → rename.Names
names_by newdir name newname = record { name = name; newdir = newdir; newname = newname }

abbrev pub bare_reply : Request → Taken → MountModel → List Answer → Reply
bare_reply (Lookup node name) taken bare told = lookup.reply_to taken.at.config bare (lookup.path_of name taken.view) 0 (lookup.found told)
bare_reply (Getattr node) taken bare told = getattr_reply taken.at.config bare node (standing.standing (generation_seen taken.view.node) told)
bare_reply (Setattr node valid size mtime nanos) taken bare told =
    setattr_reply taken (asked_by valid size mtime nanos) node bare told (setattr.change_in (asked_by valid size mtime nanos) taken.view)
bare_reply (Opening node flags) taken bare told = open_file.reply_to bare (standing.standing (generation_seen taken.view.node) told)
bare_reply (Read node fh first size) taken bare told = read.reply_to (read.bytes taken.at.contents first size taken.view.staged taken.view.node) (reads told)
bare_reply (Write node fh first content) taken bare told = write.reply_to (length content) (write.came taken bare first content told)
bare_reply (Flush node fh) taken bare told = flush.reply_by taken.view.staged (flush.came_of told)
bare_reply (Fsync node fh) taken bare told = flush.reply_by taken.view.staged (flush.came_of told)
bare_reply (Opendir node) taken bare told = opendir.reply_to bare (opendir.entries (opendir.prefix_of taken.view) taken.at.config.implicit_dirs told)
bare_reply (Create node name) taken bare told = create.reply_to taken.at.config bare (create.path_of name taken.view) 0 (making.made told)
bare_reply (Symlink node name target) taken bare told = mknod.reply_to taken.at.config bare (create.path_of name taken.view) 0 (making.made told)
bare_reply (Mknod node mode name) taken bare told = mknod.reply_to taken.at.config bare (create.path_of name taken.view) 0 (making.made told)
bare_reply (Mkdir node name) taken bare told = mkdir.reply_to taken.at.config bare (mkdir.prefix_of name taken.view) (making.made told)
bare_reply (Unlink node name) taken bare told = removing.reply_to (unlink.removed told)
bare_reply (Rmdir node name) taken bare told = rmdir.reply_to (rmdir.came_of (mkdir.prefix_of name taken.view) told)
bare_reply (Rename node newdir name newname) taken bare told = rename.reply_to (rename.came (names_by newdir name newname) taken.view told)
bare_reply (Rename2 node newdir flags name newname) taken bare told = rename.reply_to (rename.came (names_by newdir name newname) taken.view told)
bare_reply request taken bare told = (rules_of request).reply taken bare []

abbrev pub bare_after : Request → Taken → MountModel → List Answer → MountModel
bare_after (Lookup node name) taken bare told = record bare { table = lookup.table_after bare.table (lookup.path_of name taken.view) 0 (lookup.found told) }
bare_after (Getattr node) taken bare told = record bare { table = standing.table_after bare.table node 0 (standing.standing (generation_seen taken.view.node) told) }
bare_after (Setattr node valid size mtime nanos) taken bare told =
    setattr.mount_after taken (asked_by valid size mtime nanos) node bare 0 told (setattr.change_in (asked_by valid size mtime nanos) taken.view)
bare_after (Opening node flags) taken bare told = open_file.mount_after node bare 0 (standing.standing (generation_seen taken.view.node) told)
bare_after (Read node fh first size) taken bare told = bare
bare_after (Write node fh first content) taken bare told = write.mount_after taken bare node first content (write.came taken bare first content told)
bare_after (Flush node fh) taken bare told = flush.mount_by taken.view.staged bare node 0 (flush.came_of told)
bare_after (Fsync node fh) taken bare told = flush.mount_by taken.view.staged bare node 0 (flush.came_of told)
bare_after (Opendir node) taken bare told = opendir.mount_after node bare (opendir.entries (opendir.prefix_of taken.view) taken.at.config.implicit_dirs told)
bare_after (Create node name) taken bare told = create.mount_after bare (create.path_of name taken.view) 0 (making.made told)
bare_after (Symlink node name target) taken bare told = mknod.mount_after bare (create.path_of name taken.view) 0 (making.made told)
bare_after (Mknod node mode name) taken bare told = mknod.mount_after bare (create.path_of name taken.view) 0 (making.made told)
bare_after (Mkdir node name) taken bare told = mkdir.mount_after bare (mkdir.prefix_of name taken.view) (making.made told)
bare_after (Unlink node name) taken bare told = removing.mount_after bare (unlink.path_of name taken.view) (unlink.removed told)
bare_after (Rmdir node name) taken bare told = rmdir.mount_after bare (mkdir.prefix_of name taken.view) (rmdir.came_of (mkdir.prefix_of name taken.view) told)
bare_after (Rename node newdir name newname) taken bare told = rename.mount_after (names_by newdir name newname) taken.view bare (rename.came (names_by newdir name newname) taken.view told)
bare_after (Rename2 node newdir flags name newname) taken bare told = rename.mount_after (names_by newdir name newname) taken.view bare (rename.came (names_by newdir name newname) taken.view told)
bare_after request taken bare told = (rules_of request).after taken bare []

-- ---- the same
-- both answer the same, and leave the same but for moments, of which this is known
pub record EndsBare (Then : List ℕ → ℕ → ℕ → Type 0) (answer told : Reply) (mount bare : MountModel) : Type 0 where
  pub reply : answer ≡ told
  pub after : IsBareMount Then mount bare

module _ (Known Then : List ℕ → ℕ → ℕ → Type 0) where
  -- ---- the last answer is no older than what is kept
  module _ (moment : ℕ) where
    -- an object that the answer shows is news of the name
    abbrev pub ShowsNews : List ℕ → Answer → Type 0
    ShowsNews name answer = (meta : Metadata) → answer ≡ answers.Meta meta → IsNews Known Then name meta.generation moment

    -- and it may be kept then
    abbrev pub MayKeep : List ℕ → Answer → Type 0
    MayKeep name answer = (meta : Metadata) → answer ≡ answers.Meta meta → Then name meta.generation moment

    -- of the name of a node
    abbrev pub NodeNews : NodeTable → ℕ → Answer → Type 0
    NodeNews table number answer = IfSome (fin.get table.nodes number) (λ (node : Node). ShowsNews node.name answer)

    abbrev pub LookupLate : List ℕ → List Answer → Type 0
    LookupLate path [] = Unit {0}
    LookupLate path (a ∷ []) = Unit {0}
    LookupLate path (a ∷ b ∷ more) = ShowsNews path b

    -- a generation that stands no more was known to stand before
    abbrev pub StandingLate : NodeTable → ℕ → ℕ → List Answer → Type 0
    StandingLate table number generation [] = Unit {0}
    StandingLate table number generation (a ∷ more) =
        NodeNews table number a × (standing.standing_by generation a ≡ standing.gone → getattr.known_at table number < moment)

    abbrev pub UpdateLate : NodeTable → ℕ → List Answer → Type 0
    UpdateLate table number [] = Unit {0}
    UpdateLate table number (a ∷ more) = NodeNews table number a

    abbrev pub SetattrLate : NodeTable → ℕ → ℕ → setattr.Change → List Answer → Type 0
    SetattrLate table number generation setattr.set_time told = UpdateLate table number told
    SetattrLate table number generation setattr.look told = StandingLate table number generation told
    SetattrLate table number generation change told = Unit {0}

    abbrev pub FlushLate : NodeTable → ℕ → List Answer → Type 0
    FlushLate table number told =
        (meta : Metadata) → flush.came_of told ≡ flush.made meta → IfSome (fin.get table.nodes number) (λ (node : Node). Then node.name meta.generation moment)

    abbrev pub MakingLate : List ℕ → List Answer → Type 0
    MakingLate path [] = Unit {0}
    MakingLate path (a ∷ more) = MayKeep path a

    abbrev pub IsLate : Taken → MountModel → Request → List Answer → Type 0
    IsLate taken mount (Lookup node name) told = LookupLate (lookup.path_of name taken.view) told
    IsLate taken mount (Getattr node) told = StandingLate mount.table node (generation_seen taken.view.node) told
    IsLate taken mount (Setattr node valid size mtime nanos) told =
        SetattrLate mount.table node (generation_seen taken.view.node) (setattr.change_in (asked_by valid size mtime nanos) taken.view) told
    IsLate taken mount (Opening node flags) told = StandingLate mount.table node (generation_seen taken.view.node) told
    IsLate taken mount (Flush node fh) told = FlushLate mount.table node told
    IsLate taken mount (Fsync node fh) told = FlushLate mount.table node told
    IsLate taken mount (Create node name) told = MakingLate (create.path_of name taken.view) told
    IsLate taken mount (Symlink node name target) told = MakingLate (create.path_of name taken.view) told
    IsLate taken mount (Mknod node mode name) told = MakingLate (create.path_of name taken.view) told
    IsLate taken mount request told = Unit {0}

  module _ (within : IsWithin Known Then) (mount bare : MountModel) (so : IsBareMount Known mount bare) where
    pub stays : IsBareMount Then mount bare
    stays = bare_mount_later Known Then within mount bare so

    pub same_end : (reply : Reply) → EndsBare Then reply reply mount bare
    same_end reply = record { reply = refl; after = stays }

    pub with_nodes : (table bare_table : NodeTable) → IsBare Then table bare_table → IsBareMount Then (record mount { table = table }) (record bare { table = bare_table })
    with_nodes table bare_table its = bare_with_table Known Then mount bare table bare_table so its

    pub staged_too : (node : ℕ) (s : StagedContent) → IsBareMount Then (with_staged mount node s) (with_staged bare node s)
    staged_too node s = record { table = stays.table; rest = ap (λ (b : MountModel). with_staged b node s) so.rest }

    pub unnamed_too : (name : List ℕ) → IsBareMount Then (removing.without_name mount name) (removing.without_name bare name)
    unnamed_too name = with_nodes (detached mount.table name) (detached bare.table name) (bare_names Then mount.table bare.table stays.table (λ current. fin.remove current name))

-- ---- where all moments are later
-- the last answer came later than one bound, and not past another
abbrev pub EndsBetween : ℕ → ℕ → ℕ → List Answer → Type 0
EndsBetween n k moment [] = Unit {0}
EndsBetween n k moment (a ∷ more) = (n < moment) × (moment ≤ k)

module _ (n k moment : ℕ) (table : NodeTable) (known : (number : ℕ) (node : Node) → fin.get table.nodes number ≡ Some node → IsKnown (UpTo n) node) where
  news_between : (name : List ℕ) (generation : ℕ) → n < moment → moment ≤ k → IsNews (UpTo n) (UpTo k) name generation moment
  news_between name generation above below = record { later = λ source known low. omega (arith, low, above); new = below }

  every : (P : Node → Type 0) (found : Option Node) → ((node : Node) → P node) → IfSome found P
  every P None all = tt
  every P (Some node) all = all node

  node_between : (number : ℕ) (answer : Answer) → n < moment → moment ≤ k → NodeNews (UpTo n) (UpTo k) moment table number answer
  node_between number answer above below = every (λ node. ShowsNews (UpTo n) (UpTo k) moment node.name answer) (fin.get table.nodes number)
      (λ node meta is. news_between node.name meta.generation above below)

  known_before : (number : ℕ) → getattr.known_at table number ≤ n
  known_before number = by (fin.get table.nodes number) refl
    where
      kept : (file : Option File) → IfSome file (λ (f : File). f.kept.known ≤ n) → option_map_or (λ (f : File). f.kept.known) file 0 ≤ n
      kept None low = omega arith
      kept (Some f) low = low

      by : (found : Option Node) → fin.get table.nodes number ≡ found → option_map_or (λ (f : File). f.kept.known) (option_and_then (λ (x : Node). x.file) found) 0 ≤ n
      by None there = omega arith
      by (Some x) there = kept x.file (known number x there)

  standing_between : (number generation : ℕ) (told : List Answer) → EndsBetween n k moment told → StandingLate (UpTo n) (UpTo k) moment table number generation told
  standing_between number generation [] late = tt
  standing_between number generation (a ∷ more) late =
      let above : n < moment = late.0 in
      (node_between number a late.0 late.1, λ gone. let low : getattr.known_at table number ≤ n = known_before number in omega (arith, low, above))

  update_between : (number : ℕ) (told : List Answer) → EndsBetween n k moment told → UpdateLate (UpTo n) (UpTo k) moment table number told
  update_between number [] late = tt
  update_between number (a ∷ more) late = node_between number a late.0 late.1

  setattr_between : (number generation : ℕ) (change : setattr.Change) (told : List Answer) → EndsBetween n k moment told
      → SetattrLate (UpTo n) (UpTo k) moment table number generation change told
  setattr_between number generation setattr.set_time told late = update_between number told late
  setattr_between number generation setattr.look told late = standing_between number generation told late
  setattr_between number generation setattr.resize told late = tt
  setattr_between number generation setattr.stage_time told late = tt

  lookup_between : (path : List ℕ) (told : List Answer) → EndsBetween n k moment told → LookupLate (UpTo n) (UpTo k) moment path told
  lookup_between path [] late = tt
  lookup_between path (a ∷ []) late = tt
  lookup_between path (a ∷ b ∷ more) late = λ meta is. news_between path meta.generation late.0 late.1

  flush_between : (number : ℕ) (told : List Answer) → EndsBetween n k moment told → FlushLate (UpTo n) (UpTo k) moment table number told
  flush_between number [] late = λ meta is. absurd (let never : flush.fault ≡ flush.made meta = is in cc)
  flush_between number (a ∷ more) late = λ meta is. every (λ node. moment ≤ k) (fin.get table.nodes number) (λ node. late.1)

  making_between : (path : List ℕ) (told : List Answer) → EndsBetween n k moment told → MakingLate (UpTo n) (UpTo k) moment path told
  making_between path [] late = tt
  making_between path (a ∷ more) late = λ meta is. late.1

pub late_between : (n k moment : ℕ) (taken : Taken) (mount : MountModel) → ((number : ℕ) (node : Node) → fin.get mount.table.nodes number ≡ Some node → IsKnown (UpTo n) node)
    → (request : Request) (told : List Answer) → EndsBetween n k moment told → IsLate (UpTo n) (UpTo k) moment taken mount request told
late_between n k moment taken mount known (Lookup node name) told late = lookup_between n k moment mount.table known (lookup.path_of name taken.view) told late
late_between n k moment taken mount known (Getattr node) told late = standing_between n k moment mount.table known node (generation_seen taken.view.node) told late
late_between n k moment taken mount known (Setattr node valid size mtime nanos) told late =
    setattr_between n k moment mount.table known node (generation_seen taken.view.node) (setattr.change_in (asked_by valid size mtime nanos) taken.view) told late
late_between n k moment taken mount known (Opening node flags) told late = standing_between n k moment mount.table known node (generation_seen taken.view.node) told late
late_between n k moment taken mount known (Flush node fh) told late = flush_between n k moment mount.table known node told late
late_between n k moment taken mount known (Fsync node fh) told late = flush_between n k moment mount.table known node told late
late_between n k moment taken mount known (Create node name) told late = making_between n k moment mount.table known (create.path_of name taken.view) told late
late_between n k moment taken mount known (Symlink node name target) told late = making_between n k moment mount.table known (create.path_of name taken.view) told late
late_between n k moment taken mount known (Mknod node mode name) told late = making_between n k moment mount.table known (create.path_of name taken.view) told late
late_between n k moment taken mount known _ told late = tt
