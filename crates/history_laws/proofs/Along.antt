-- What stands along an account: each file shows a generation that was live by then, with content of its size; and so does
-- each file that a call under way saw at its take.
use Rattle.std.proofs.Common.{◌≡◌, ◌≤◌, ℕ, false, List, [], ◌∷◌, ◌++◌, All, take, drop, Option, Some, None, refl, sym, ap, subst, ◌∙◌, ◌⊎◌, inl, inr, nat_cmp}
use Rattle.std.proofs.lemmas.List.{take-append-drop, take-take}
use Rattle.std.specs.FinMap as fin
use Rattle.std.specs.List.{AllByRecursion}
use Rattle.std.specs.Option.{option_and_then, option_map_or}
use Rattle.std.specs.Prelude.{unwrap_or}
use Rattle.bucket_api.proofs.ContentLaws.{content_of-grown}
use Rattle.bucket_api.specs.BucketState.{BucketState, IsBucket}
use Rattle.bucket_api.specs.Log.{content_of}
use Rattle.bucket_api.specs.LogEvent.{LogEvent}
use Rattle.bucket_api.specs.Operation.{IsAllowed}
use Rattle.fuse_requests.specs.declared.request.Request.{Request}
use Rattle.history_laws.proofs.NodeLaws.{IsMount-done}
use Rattle.history_laws.proofs.WalkTells.{nodes_done}
use Rattle.history_laws.specs.Ends.{over}
use Rattle.history_spec.proofs.Lanes.{all_others, at_lane}
use Rattle.history_spec.specs.Account as account
use Rattle.history_spec.specs.Account.{Account, Turn}
use Rattle.history_spec.specs.Fits.{Follows, MayFollow}
use Rattle.history_spec.specs.JournalState.{JournalState, OpenCall, after_done, after_turn, after_turns, at_front, first_journal, mount_by, open_of, reached, taken_by}
use Rattle.mount_laws.proofs.Contents.{files_show, show_content, show_files}
use Rattle.mount_laws.proofs.Keeping.{no_Some}
use Rattle.mount_laws.proofs.Lengths.{was_live}
use Rattle.mount_laws.proofs.Mounts.{IsMount-first}
use Rattle.mount_laws.proofs.Sources.{NodesFrom, NodesFrom-same}
use Rattle.mount_laws.proofs.StagedContents.{SeesFileAt-seen}
use Rattle.mount_laws.proofs.Stores.{HasContent}
use Rattle.mount_model.specs.declared.config.Config.{Config}
use Rattle.mount_model.specs.declared.gate.CallId.{CallId}
use Rattle.mount_rules.specs.Dispatch.{rules_of}
use Rattle.mount_rules.specs.Guards.{is_directory}
use Rattle.mount_rules.specs.Laws.{FilesHaveContent}
use Rattle.mount_rules.specs.Mount.{File, IsMount, MountModel, Node}
use Rattle.mount_rules.specs.OneThread.{contents_of}
use Rattle.mount_rules.specs.Overlap.{opened_at}
use Rattle.mount_rules.specs.Plans.{Contents}
use Rattle.mount_rules.specs.Rules.{AtTake}
use Rattle.mount_rules.specs.View.{Sight, sight_at}
use Rattle.inode_spec.specs.Inodes.{root}
use Rattle.spare_maps.proofs.FinMaps.{number_put}

-- ---- turn by turn
longer : (start : BucketState) (log : List LogEvent) (earlier later : ℕ) → earlier ≤ later → take later log ≡ take earlier log ++ drop earlier (take later log)
longer start log earlier later within =
    sym (take-append-drop earlier (take later log)) ∙ ap (λ events. events ++ drop earlier (take later log)) (take-take earlier later log within)

-- what was live by an earlier front was so by a later one
pub content_later : (start : BucketState) (log : List LogEvent) (name : List ℕ) (generation size earlier later : ℕ) → earlier ≤ later
    → HasContent start (take earlier log) name generation size → HasContent start (take later log) name generation size
content_later start log name generation size earlier later within has = (
  has.0,
  ap (λ events. content_of start events name generation) (longer start log earlier later within)
      ∙ content_of-grown start (take earlier log) (drop earlier (take later log)) name generation has.0 has.1,
  has.2,
)

-- What a call under way has from its take: what each generation holds by then; and each file that it saw was live by then,
-- with content of its size.
abbrev pub SawContent : BucketState → List LogEvent → OpenCall → Type 0
SawContent start log o = (file : Sight) → o.taken.view.node ≡ Some file → is_directory file.kind ≡ false
    → HasContent start (take o.front log) file.name file.source file.size

pub record IsTakenBy (start : BucketState) (log : List LogEvent) (o : OpenCall) : Type 0 where
  pub contents : o.taken.at.contents ≡ contents_of (record { start = start; log = take o.front log })
  pub saw : SawContent start log o

pub record Stands (start : BucketState) (log : List LogEvent) (state : JournalState) : Type 0 where
  pub is : IsMount state.mount
  pub files : FilesHaveContent (over start (take state.front log) state.mount)
  pub taken : AllByRecursion (IsTakenBy start log) state.opened

-- the node that a request's head names, where one is seen
seen_node : (mount : MountModel) (looked : Option ℕ) (file : Sight) → option_and_then (sight_at mount.table) looked ≡ Some file → (number : ℕ) × (sight_at mount.table number ≡ Some file)
seen_node mount None file is = absurd (no_Some is)
seen_node mount (Some number) file is = (number, is)

module _ (config : Config) (start : BucketState) (log : List LogEvent) (bucket : IsBucket start) (allowed : All (λ e. IsAllowed e.op) log) where
  files_later : (state : JournalState) (front : ℕ) (mount : MountModel) → state.front ≤ front
      → NodesFrom (HasContent start (take front log)) state.mount.table mount.table
      → FilesHaveContent (over start (take state.front log) state.mount) → FilesHaveContent (over start (take front log) mount)
  files_later state front mount within from files =
      show_files start (take front log) mount.table
      (show_content start (take state.front log) (drop state.front (take front log)) (take front log) state.mount.table mount.table
      (longer start log state.front front within) from (files_show (over start (take state.front log) state.mount) files))

  saw_at_take : (state : JournalState) (front : ℕ) (request : Request) (at : AtTake) (call : CallId) → state.front ≤ front → Stands start log state
      → SawContent start log (taken_by state call front (opened_at at state.mount request))
  saw_at_take state front request at call within stands file seen other =
      let n = seen_node state.mount (rules_of request).looks.node file seen in
      let s = SeesFileAt-seen state.mount n.0 file stands.is n.1 other in
      let has = stands.files n.0 s.node s.file s.there s.is in
      let its : HasContent start (take state.front log) file.name file.source file.size =
      subst (λ name. HasContent start (take state.front log) name file.source file.size) (sym s.name)
      (subst (λ generation. HasContent start (take state.front log) s.node.name generation file.size) (sym s.source)
      (subst (λ size. HasContent start (take state.front log) s.node.name s.file.source size) (sym s.size) has)) in
      content_later start log file.name file.source file.size state.front front within its

  stands_turn : (state : JournalState) (turn : Turn) → MayFollow start log state turn → Stands start log state → Stands start log (after_turn config start log state turn)
  stands_turn state (account.take call front request) may stands = record {
    is = stands.is;
    files = files_later state front state.mount may.onward (NodesFrom-same _ state.mount.table) stands.files;
    taken = (record { contents = refl; saw = saw_at_take state front request (at_front config start log state.clock front) call may.onward stands }, stands.taken);
  }
  stands_turn state (account.done call front h items fill) may stands =
      subst (λ found. Stands start log (option_map_or (after_done start log state front h items) found state)) (sym may.next.1) record {
        is = IsMount-done config start log state may.next.0 h items stands.is;
        files = files_later state front (mount_by start log state.mount may.next.0 h items) may.onward
            (nodes_done start log bucket allowed front state may.next.0 h items stands.is may.next.3) stands.files;
        taken = all_others (IsTakenBy start log) (IsTakenBy start log) may.next.0.call.lane (λ o differ taken. taken) state.opened stands.taken;
      }
  stands_turn state (account.tick front seconds) may stands = record {
    is = stands.is;
    files = files_later state front state.mount may.onward (NodesFrom-same _ state.mount.table) stands.files;
    taken = stands.taken;
  }

  pub stands_along : (state : JournalState) (turns : Account) → Follows config start log state turns → Stands start log state → Stands start log (after_turns config start log state turns)
  stands_along state [] follows stands = stands
  stands_along state (turn ∷ turns) follows stands =
      stands_along (after_turn config start log state turn) turns follows.1 (stands_turn state turn follows.0 stands)

  -- before the first turn there is no file
  no_file : (number : ℕ) (node : Node) (file : File) → node.file ≡ Some file → ((number ≡ 1) × (root ≡ node)) ⊎ (fin.get {R = nat_cmp} fin.empty number ≡ Some node) → ⊥
  no_file number node file has (inl (at, one)) = no_Some (ap (λ (n : Node). n.file) one ∙ has)
  no_file number node file has (inr was) = let none : fin.get {X = Node} {R = nat_cmp} fin.empty number ≡ None = fin.get-empty nat_cmp number in no_Some (sym none ∙ was)

  pub stands_first : Stands start log first_journal
  stands_first = record {
    is = IsMount-first;
    files = λ number node file there has. absurd (no_file number node file has (number_put fin.empty 1 root node number there));
    taken = tt;
  }

  pub stands : (turns : Account) → Follows config start log first_journal turns → Stands start log (reached config start log turns)
  stands turns follows = stands_along first_journal turns follows stands_first

-- ---- by the whole log
module _ (start : BucketState) (log : List LogEvent) (state : JournalState) (stands : Stands start log state) where
  pub files_whole : FilesHaveContent (over start log state.mount)
  files_whole =
      show_files start log state.mount.table
      (show_content start (take state.front log) (drop state.front log) log state.mount.table state.mount.table (sym (take-append-drop state.front log))
      (NodesFrom-same _ state.mount.table) (files_show (over start (take state.front log) state.mount) stands.files))

  -- what a call has from its take of the content of a file that it saw is what the whole log says of it
  pub contents_same : (o : OpenCall) (file : Sight) → open_of state.opened o.call.lane ≡ Some o → o.taken.view.node ≡ Some file → is_directory file.kind ≡ false
      → o.taken.at.contents file.name file.source ≡ contents_of (record { start = start; log = log }) file.name file.source
  contents_same o file under_way seen other =
      let taken = at_lane (IsTakenBy start log) state.opened o.call.lane o under_way stands.taken in
      let has = taken.saw file seen other in
      let whole : content_of start log file.name file.source ≡ Some has.0 =
      ap (λ events. content_of start events file.name file.source) (sym (take-append-drop o.front log))
      ∙ content_of-grown start (take o.front log) (drop o.front log) file.name file.source has.0 has.1 in
      ap (λ (c : Contents). c file.name file.source) taken.contents ∙ ap (λ known. unwrap_or known []) has.1 ∙ sym (ap (λ known. unwrap_or known []) whole)

  -- the generation that a file shows was given
  pub source_numbered : IsBucket start → All (λ e. IsAllowed e.op) log → (number : ℕ) (file : Sight) → sight_at state.mount.table number ≡ Some file → is_directory file.kind ≡ false → 1 ≤ file.source
  source_numbered bucket allowed number file seen other =
      let s = SeesFileAt-seen state.mount number file stands.is seen other in
      let known = files_whole number s.node s.file s.there s.is in
      subst (λ n. 1 ≤ n) (sym s.source) (was_live start log s.node.name s.file.source known.0 bucket allowed known.1).numbered
