-- What requests come to that keep a moment, at a mount without moments: the same, where their own is later than those kept.
use Rattle.std.proofs.Common.{◌≡◌, ◌<◌, ◌+◌, ℕ, Bool, true, false, List, [], ◌∷◌, Option, Some, None, refl, sym, ap, ◌∙◌, nat_lt, arith}
use Rattle.std.proofs.lemmas.Bool.Decides.{nat_tests}
use Rattle.std.specs.FinMap as fin
use Rattle.std.specs.Option.{option_map_or}
use Rattle.std.specs.Prelude.{IfSome, ◌==◌, if◌then◌else◌}
use Rattle.bucket_api.specs.Metadata.{Metadata}
use Rattle.bucket_api.specs.declared.answers.Answer.{Answer}
use Rattle.bucket_api.specs.declared.answers.Answer.TheVariants as answers
use Rattle.fuse_replies.specs.declared.reply.Reply.{Reply}
use Rattle.fuse_replies.specs.declared.reply.Reply.TheVariants.{Created, Entry, Opened}
use Rattle.history_laws.proofs.Bare.{IsBare, IsWithin, bare_granted, next_same}
use Rattle.history_laws.proofs.BareMounts.{IsBareMount, directory_entry_bare, entry_bare, object_entry_bare, reply_with_bare}
use Rattle.history_laws.proofs.BareSteps.{directory_bare, showing_bare, standing_bare, table_with_bare}
use Rattle.history_laws.proofs.ShownAgain.{AreNamed, IsNews}
use Rattle.inode_spec.specs.Inodes.{granted}
use Rattle.mount_model.specs.declared.config.Config.{Config}
use Rattle.mount_rules.specs.Attributes.{entry_of}
use Rattle.mount_rules.specs.Files.{with_staged, without_staged}
use Rattle.mount_rules.specs.Making as making
use Rattle.mount_rules.specs.Mount.{MountModel, Node, NodeTable}
use Rattle.mount_rules.specs.Requests.Create as create
use Rattle.mount_rules.specs.Requests.Flush as flush
use Rattle.mount_rules.specs.Requests.Getattr as getattr
use Rattle.mount_rules.specs.Requests.Lookup as lookup
use Rattle.mount_rules.specs.Requests.Mknod as mknod
use Rattle.mount_rules.specs.Requests.Open as open_file
use Rattle.mount_rules.specs.Requests.Setattr as setattr
use Rattle.mount_rules.specs.Rules.{Taken}
use Rattle.mount_rules.specs.Showing.{new_node}
use Rattle.mount_rules.specs.Standing as standing
use Rattle.mount_rules.specs.Standing.{Standing, generation_seen}
use Rattle.mount_rules.specs.View.{Sight}
use Rattle.staging_spec.specs.StagedFiles.{StagedContent}
use Rattle.history_laws.proofs.BareEnds.{EndsBare, FlushLate, LookupLate, MakingLate, NodeNews, SetattrLate, ShowsNews, StandingLate, getattr_reply, same_end, setattr_reply, staged_too, stays, with_nodes}

-- ---- what answers show
-- a probe shows no object
no_object : (found : lookup.Probed) (meta : Metadata) → lookup.found_by found ≡ lookup.object meta → ⊥
no_object lookup.present meta is = cc
no_object lookup.absent meta is = cc
no_object lookup.failed meta is = cc

object_found : (answer : Answer) (meta : Metadata) → lookup.found_at answer ≡ lookup.object meta → answer ≡ answers.Meta meta
object_found (answers.Meta m) meta is = cc
object_found answers.NotFound meta is = absurd (let never : lookup.nothing ≡ lookup.object meta = is in cc)
object_found _ meta is = absurd (let never : lookup.fault ≡ lookup.object meta = is in cc)

live_told : (generation : ℕ) (answer : Answer) (meta : Metadata) → standing.standing_by generation answer ≡ standing.live meta → answer ≡ answers.Meta meta
live_told generation (answers.Meta m) meta is = by (m.generation == generation) is
  where
    by : (same : Bool) → (if same then standing.live m else standing.gone) ≡ standing.live meta → answers.Meta m ≡ answers.Meta meta
    by true e = cc
    by false e = absurd (let never : standing.gone ≡ standing.live meta = e in cc)
live_told generation answers.NotFound meta is = absurd (let never : standing.gone ≡ standing.live meta = is in cc)
live_told generation _ meta is = absurd (let never : standing.fault ≡ standing.live meta = is in cc)

live_set : (answer : Answer) (meta : Metadata) → setattr.standing_by answer ≡ standing.live meta → answer ≡ answers.Meta meta
live_set (answers.Meta m) meta is = cc
live_set answers.NotFound meta is = absurd (let never : standing.gone ≡ standing.live meta = is in cc)
live_set (answers.Precondition generation metageneration) meta is = absurd (let never : standing.gone ≡ standing.live meta = is in cc)
live_set _ meta is = absurd (let never : standing.fault ≡ standing.live meta = is in cc)

new_told : (answer : Answer) (meta : Metadata) → making.made_by answer ≡ making.new meta → answer ≡ answers.Meta meta
new_told (answers.Meta m) meta is = cc
new_told (answers.Precondition generation metageneration) meta is = absurd (let never : making.exists ≡ making.new meta = is in cc)
new_told _ meta is = absurd (let never : making.fault ≡ making.new meta = is in cc)

module _ (Known Then : List ℕ → ℕ → ℕ → Type 0) (within : IsWithin Known Then) (mount bare : MountModel) (so : IsBareMount Known mount bare) (moment : ℕ) where
  then_so : IsBareMount Then mount bare
  then_so = stays Known Then within mount bare so

  then_with : (table bare_table : NodeTable) → IsBare Then table bare_table → IsBareMount Then (record mount { table = table }) (record bare { table = bare_table })
  then_with = with_nodes Known Then within mount bare so

  same : (reply : Reply) → EndsBare Then reply reply mount bare
  same = same_end Known Then within mount bare so

  -- LOOKUP
  lookup_found : AreNamed mount.table → (config : Config) (path : List ℕ) (found : lookup.Found) → ((meta : Metadata) → found ≡ lookup.object meta → IsNews Known Then path meta.generation moment)
      → EndsBare Then (lookup.reply_to config mount path moment found) (lookup.reply_to config bare path 0 found)
      (record mount { table = lookup.table_after mount.table path moment found }) (record bare { table = lookup.table_after bare.table path 0 found })
  lookup_found named config path lookup.directory news = record {
    reply = ap Entry (directory_entry_bare Known mount bare so config _);
    after = then_with _ _ (directory_bare Then mount.table bare.table then_so.table _);
  }
  lookup_found named config path (lookup.object meta) news = record {
    reply = ap Entry (object_entry_bare Known mount bare so config Then within named path meta moment (news meta refl));
    after = then_with _ _ (showing_bare Known Then within mount.table bare.table so.table named path meta moment (news meta refl));
  }
  lookup_found named config path lookup.nothing news = same _
  lookup_found named config path lookup.fault news = same _

  pub lookup_end : AreNamed mount.table → (config : Config) (path : List ℕ) (told : List Answer) → LookupLate Known Then moment path told
      → EndsBare Then (lookup.reply_to config mount path moment (lookup.found told)) (lookup.reply_to config bare path 0 (lookup.found told))
      (record mount { table = lookup.table_after mount.table path moment (lookup.found told) }) (record bare { table = lookup.table_after bare.table path 0 (lookup.found told) })
  lookup_end named config path [] late = same _
  lookup_end named config path (a ∷ []) late = lookup_found named config path (lookup.found_by (lookup.probed a)) (λ meta is. absurd (no_object (lookup.probed a) meta is))
  lookup_end named config path (a ∷ b ∷ more) late = lookup_found named config path (lookup.found_at b) (λ meta is. late meta (object_found b meta is))

  -- ---- nodes by how a generation stands
  -- what shows it live is news of the node's name
  abbrev StandsLate : ℕ → Standing → Type 0
  StandsLate node found = (meta : Metadata) → found ≡ standing.live meta → IfSome (fin.get mount.table.nodes node) (λ (n : Node). IsNews Known Then n.name meta.generation moment)

  stands_late : (node : ℕ) (answer : Answer) (found : Standing) → ((meta : Metadata) → found ≡ standing.live meta → answer ≡ answers.Meta meta)
      → NodeNews Known Then moment mount.table node answer → StandsLate node found
  stands_late node answer found shows news = λ meta is. by (fin.get mount.table.nodes node) news meta (shows meta is)
    where
      by : (n : Option Node) → IfSome n (λ (n : Node). ShowsNews Known Then moment n.name answer) → (meta : Metadata) → answer ≡ answers.Meta meta
          → IfSome n (λ (n : Node). IsNews Known Then n.name meta.generation moment)
      by None its meta is = tt
      by (Some n) its meta is = its meta is

  stood : (node : ℕ) (found : Standing) → StandsLate node found
      → IsBareMount Then (record mount { table = standing.table_after mount.table node moment found }) (record bare { table = standing.table_after bare.table node 0 found })
  stood node found news = then_with _ _ (standing_bare Known Then within mount.table bare.table so.table node found moment news)

  gone_since : (node : ℕ) → getattr.known_at mount.table node < moment → getattr.links mount.table node moment standing.gone ≡ 0
  gone_since node before = ap (λ t. if t then 0 else 1) (tells (getattr.known_at mount.table node) before)
    where
      tells : (known : ℕ) → known < moment → nat_lt known moment ≡ true
      tells known low = grind (arith, nat_tests)

  getattr_found : (config : Config) (node : ℕ) (found : Standing) → StandsLate node found → (found ≡ standing.gone → getattr.known_at mount.table node < moment)
      → getattr.reply_to config mount node moment found ≡ getattr_reply config bare node found
  getattr_found config node standing.unasked news gone = reply_with_bare Known mount bare so config node 1
  getattr_found config node (standing.live meta) news gone = reply_with_bare Then _ _ (stood node (standing.live meta) news) config node 1
  getattr_found config node standing.gone news gone =
      ap (λ count. getattr.reply_with config mount.table mount.staged node count) (gone_since node (gone refl)) ∙ reply_with_bare Known mount bare so config node 0
  getattr_found config node standing.fault news gone = refl

  pub getattr_end : (config : Config) (node generation : ℕ) (told : List Answer) → StandingLate Known Then moment mount.table node generation told
      → EndsBare Then (getattr.reply_to config mount node moment (standing.standing generation told)) (getattr_reply config bare node (standing.standing generation told))
      (record mount { table = standing.table_after mount.table node moment (standing.standing generation told) })
      (record bare { table = standing.table_after bare.table node 0 (standing.standing generation told) })
  getattr_end config node generation [] late = record { reply = reply_with_bare Known mount bare so config node 1; after = then_so }
  getattr_end config node generation (a ∷ more) late = record {
    reply = getattr_found config node (standing.standing_by generation a) news late.1;
    after = stood node (standing.standing_by generation a) news;
  }
    where
      news : StandsLate node (standing.standing_by generation a)
      news = stands_late node a (standing.standing_by generation a) (live_told generation a) late.0

  setattr_stood : (taken : Taken) (asked : setattr.Asked) (node : ℕ) (told : List Answer) (found : Standing) → StandsLate node found
      → EndsBare Then (setattr.set_reply taken.at.config (record mount { table = standing.table_after mount.table node moment found }) node found)
      (setattr.set_reply taken.at.config (record bare { table = standing.table_after bare.table node 0 found }) node found)
      (record mount { table = standing.table_after mount.table node moment found }) (record bare { table = standing.table_after bare.table node 0 found })
  setattr_stood taken asked node told standing.unasked news = record { reply = reply_with_bare Known mount bare so taken.at.config node 1; after = then_so }
  setattr_stood taken asked node told (standing.live meta) news = record {
    reply = reply_with_bare Then _ _ (stood node (standing.live meta) news) taken.at.config node 1;
    after = stood node (standing.live meta) news;
  }
  setattr_stood taken asked node told standing.gone news = same _
  setattr_stood taken asked node told standing.fault news = same _

  -- something else is staged
  setattr_staged : (taken : Taken) (node : ℕ) (found : Option StagedContent)
      → EndsBare Then (setattr.attributes_in taken.at.config (option_map_or (λ s. with_staged mount node s) found mount) node)
      (setattr.attributes_in taken.at.config (option_map_or (λ s. with_staged bare node s) found bare) node)
      (option_map_or (λ s. with_staged mount node s) found mount) (option_map_or (λ s. with_staged bare node s) found bare)
  setattr_staged taken node None = record { reply = reply_with_bare Known mount bare so taken.at.config node 1; after = then_so }
  setattr_staged taken node (Some s) = record {
    reply = reply_with_bare Then _ _ (staged_too Known Then within mount bare so node s) taken.at.config node 1;
    after = staged_too Known Then within mount bare so node s;
  }

  pub setattr_end : (taken : Taken) (asked : setattr.Asked) (node : ℕ) (told : List Answer) (change : setattr.Change)
      → SetattrLate Known Then moment mount.table node (generation_seen taken.view.node) change told
      → EndsBare Then (setattr.reply_to taken asked node mount moment told change) (setattr_reply taken asked node bare told change)
      (setattr.mount_after taken asked node mount moment told change) (setattr.mount_after taken asked node bare 0 told change)
  setattr_end taken asked node told setattr.resize late = by taken.view.node
    where
      by : (found : Option Sight)
          → EndsBare Then (setattr.attributes_in taken.at.config (option_map_or (λ file. with_staged mount node (setattr.resized_by taken asked file)) found mount) node)
          (setattr.attributes_in taken.at.config (option_map_or (λ file. with_staged bare node (setattr.resized_by taken asked file)) found bare) node)
          (option_map_or (λ file. with_staged mount node (setattr.resized_by taken asked file)) found mount)
          (option_map_or (λ file. with_staged bare node (setattr.resized_by taken asked file)) found bare)
      by None = setattr_staged taken node None
      by (Some file) = setattr_staged taken node (Some (setattr.resized_by taken asked file))
  setattr_end taken asked node told setattr.stage_time late = by taken.view.staged
    where
      by : (found : Option StagedContent)
          → EndsBare Then (setattr.attributes_in taken.at.config (option_map_or (λ s. with_staged mount node (setattr.with_time s (setattr.time_set asked taken.at.second))) found mount) node)
          (setattr.attributes_in taken.at.config (option_map_or (λ s. with_staged bare node (setattr.with_time s (setattr.time_set asked taken.at.second))) found bare) node)
          (option_map_or (λ s. with_staged mount node (setattr.with_time s (setattr.time_set asked taken.at.second))) found mount)
          (option_map_or (λ s. with_staged bare node (setattr.with_time s (setattr.time_set asked taken.at.second))) found bare)
      by None = setattr_staged taken node None
      by (Some s) = setattr_staged taken node (Some (setattr.with_time s (setattr.time_set asked taken.at.second)))
  setattr_end taken asked node [] setattr.set_time late = record { reply = reply_with_bare Known mount bare so taken.at.config node 1; after = then_so }
  setattr_end taken asked node (a ∷ more) setattr.set_time late = setattr_stood taken asked node (a ∷ more) (setattr.standing_by a) (stands_late node a (setattr.standing_by a) (live_set a) late)
  setattr_end taken asked node told setattr.look late = getattr_end taken.at.config node (generation_seen taken.view.node) told late

  -- OPEN
  open_found : (node : ℕ) (found : Standing) → StandsLate node found
      → EndsBare Then (open_file.reply_to mount found) (open_file.reply_to bare found) (open_file.mount_after node mount moment found) (open_file.mount_after node bare 0 found)
  open_found node standing.unasked news = record {
    reply = ap (λ (b : MountModel). Opened b.next_handle) so.rest;
    after = record { table = then_so.table; rest = ap (λ (b : MountModel). open_file.with_handle node b bare.table) so.rest };
  }
  open_found node (standing.live meta) news = record {
    reply = ap (λ (b : MountModel). Opened b.next_handle) so.rest;
    after = record {
      table = (stood node (standing.live meta) news).table;
      rest = ap (λ (b : MountModel). open_file.with_handle node b (standing.table_after bare.table node 0 (standing.live meta))) so.rest;
    };
  }
  open_found node standing.gone news = same _
  open_found node standing.fault news = same _

  pub open_end : (node generation : ℕ) (told : List Answer) → StandingLate Known Then moment mount.table node generation told
      → EndsBare Then (open_file.reply_to mount (standing.standing generation told)) (open_file.reply_to bare (standing.standing generation told))
      (open_file.mount_after node mount moment (standing.standing generation told)) (open_file.mount_after node bare 0 (standing.standing generation told))
  open_end node generation [] late = open_found node standing.unasked (λ meta is. absurd (let never : standing.unasked ≡ standing.live meta = is in cc))
  open_end node generation (a ∷ more) late =
      open_found node (standing.standing_by generation a) (stands_late node a (standing.standing_by generation a) (live_told generation a) late.0)

  -- FLUSH and FSYNC
  flush_came : (staged : Option StagedContent) (node : ℕ) (came : flush.Came)
      → ((meta : Metadata) → came ≡ flush.made meta → IfSome (fin.get mount.table.nodes node) (λ (n : Node). Then n.name meta.generation moment))
      → IsBareMount Then (flush.mount_by staged mount node moment came) (flush.mount_by staged bare node 0 came)
  flush_came None node came late = then_so
  flush_came (Some s) node (flush.made meta) late = record {
    table = table_with_bare Then mount.table bare.table then_so.table node meta moment (late meta refl);
    rest = ap (λ (b : MountModel). record (without_staged b node) { table = flush.table_with bare.table node meta 0 }) so.rest;
  }
  flush_came (Some s) node flush.stale late = then_so
  flush_came (Some s) node flush.fault late = then_so

  pub flush_end : (staged : Option StagedContent) (node : ℕ) (told : List Answer) → FlushLate Known Then moment mount.table node told
      → IsBareMount Then (flush.mount_by staged mount node moment (flush.came_of told)) (flush.mount_by staged bare node 0 (flush.came_of told))
  flush_end staged node told late = flush_came staged node (flush.came_of told) late

  -- ---- new objects
  new_entry : (config : Config) (path : List ℕ) (meta : Metadata) → entry_of config mount.table.next (new_node path meta moment) None ≡ entry_of config bare.table.next (new_node path meta 0) None
  new_entry config path meta =
      sym (entry_bare config mount.table.next (new_node path meta moment) None) ∙ ap (λ next. entry_of config next (new_node path meta 0) None) (next_same Known mount.table bare.table so.table)

  new_granted : (path : List ℕ) (meta : Metadata) → Then path meta.generation moment → IsBare Then (granted mount.table (new_node path meta moment)) (granted bare.table (new_node path meta 0))
  new_granted path meta late = bare_granted Then mount.table bare.table then_so.table (new_node path meta moment) late

  -- what is made may be kept
  abbrev MadeLate : List ℕ → making.Made → Type 0
  MadeLate path made = (meta : Metadata) → made ≡ making.new meta → Then path meta.generation moment

  create_made : (config : Config) (path : List ℕ) (made : making.Made) → MadeLate path made
      → EndsBare Then (create.reply_to config mount path moment made) (create.reply_to config bare path 0 made) (create.mount_after mount path moment made) (create.mount_after bare path 0 made)
  create_made config path (making.new meta) late = record {
    reply = ap (λ entry. Created entry mount.next_handle) (new_entry config path meta)
        ∙ ap (λ (b : MountModel). Created (entry_of config bare.table.next (new_node path meta 0) None) b.next_handle) so.rest;
    after = record {
      table = new_granted path meta (late meta refl);
      rest = ap (λ next. opened next mount) (next_same Known mount.table bare.table so.table) ∙ ap (opened bare.table.next) so.rest;
    };
  }
    where
      opened : ℕ → MountModel → MountModel
      opened next b = record b {
        table = granted bare.table (new_node path meta 0);
        handles = fin.insert b.handles b.next_handle (record { node = next; items = None });
        next_handle = b.next_handle + 1;
      }
  create_made config path making.exists late = same _
  create_made config path making.fault late = same _

  mknod_made : (config : Config) (path : List ℕ) (made : making.Made) → MadeLate path made
      → EndsBare Then (mknod.reply_to config mount path moment made) (mknod.reply_to config bare path 0 made) (mknod.mount_after mount path moment made) (mknod.mount_after bare path 0 made)
  mknod_made config path (making.new meta) late = record { reply = ap Entry (new_entry config path meta); after = then_with _ _ (new_granted path meta (late meta refl)) }
  mknod_made config path making.exists late = same _
  mknod_made config path making.fault late = same _

  pub create_end : (config : Config) (path : List ℕ) (told : List Answer) → MakingLate Known Then moment path told
      → EndsBare Then (create.reply_to config mount path moment (making.made told)) (create.reply_to config bare path 0 (making.made told))
      (create.mount_after mount path moment (making.made told)) (create.mount_after bare path 0 (making.made told))
  create_end config path [] late = same _
  create_end config path (a ∷ more) late = create_made config path (making.made_by a) (λ meta is. late meta (new_told a meta is))

  pub mknod_end : (config : Config) (path : List ℕ) (told : List Answer) → MakingLate Known Then moment path told
      → EndsBare Then (mknod.reply_to config mount path moment (making.made told)) (mknod.reply_to config bare path 0 (making.made told))
      (mknod.mount_after mount path moment (making.made told)) (mknod.mount_after bare path 0 (making.made told))
  mknod_end config path [] late = same _
  mknod_end config path (a ∷ more) late = mknod_made config path (making.made_by a) (λ meta is. late meta (new_told a meta is))
