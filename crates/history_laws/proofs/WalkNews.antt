-- What each request keeps of what it observed along its plan is news of the node that keeps it.
use Rattle.std.proofs.Common.{◌≡◌, ◌≤◌, ◌<◌, ℕ, Bool, true, false, List, [], ◌∷◌, Option, Some, None, refl, sym, ap, subst, ◌∙◌, inl, inr, arith}
use Rattle.std.specs.FinMap as fin
use Rattle.std.specs.Option.{option_map, option_map_or, option_and_then}
use Rattle.std.specs.Prelude.{IfSome, if◌then◌else◌}
use Rattle.bucket_api.specs.Metadata.{Metadata}
use Rattle.bucket_api.specs.Operation.{Operation, stat}
use Rattle.bucket_api.specs.declared.answers.Answer.{Answer}
use Rattle.bucket_api.specs.declared.answers.Answer.TheVariants as answers
use Rattle.bucket_api.specs.declared.objects.Pair.{Pair}
use Rattle.fuse_requests.specs.declared.request.Request.{Request}
use Rattle.fuse_requests.specs.declared.request.Request.TheVariants.{Create, Flush, Fsync, Getattr, Lookup, Mknod, Opening, Setattr, Symlink}
use Rattle.history_laws.proofs.Bare.{IsKnown}
use Rattle.history_laws.proofs.BareEnds.{FlushLate, IsLate, LookupLate, MakingLate, NodeNews, SetattrLate, ShowsNews, StandingLate, UpdateLate, asked_by}
use Rattle.history_laws.proofs.KnownMoments.{IsNewsTo, NewsAlong, about}
use Rattle.history_laws.proofs.WalkTells.{IsNoMeta}
use Rattle.history_spec.proofs.PlanSteps.{is_read}
use Rattle.mount_laws.proofs.Keeping.{no_Some, same_Some}
use Rattle.mount_model.specs.Observing.{Observed}
use Rattle.mount_rules.specs.Dispatch.{goes_on, plan, rules_of, taken_at}
use Rattle.mount_rules.specs.Guards.{is_directory}
use Rattle.mount_rules.specs.Making as making
use Rattle.mount_rules.specs.Mount.{File, MountModel, Node, NodeTable}
use Rattle.mount_rules.specs.Plans.{Allows, Plan, Source, answers_of, ask, done, last_moment, may_read, plan_after}
use Rattle.mount_rules.specs.Reading.{source_of}
use Rattle.mount_rules.specs.Requests.Flush as flush
use Rattle.mount_rules.specs.Requests.Getattr as getattr
use Rattle.mount_rules.specs.Requests.Lookup as lookup
use Rattle.mount_rules.specs.Requests.Setattr as setattr
use Rattle.mount_rules.specs.Rules.{AtTake, Taken}
use Rattle.mount_rules.specs.Standing as standing
use Rattle.mount_rules.specs.Standing.{generation_seen}
use Rattle.mount_rules.specs.View.{Sight, sight_at, sight_of}
use Rattle.staging_spec.specs.StagedFiles.{StagedContent}

-- ---- what is seen of a node
-- A node that is there has this name, and shows this generation.
record IsOfNode (table : NodeTable) (number : ℕ) (name : List ℕ) (generation : ℕ) : Type 0 where
  pub node : Node
  pub there : fin.get table.nodes number ≡ Some node
  pub named : node.name ≡ name
  pub source : generation ≡ option_map_or (λ (file : File). file.source) node.file 0

sight_node : (table : NodeTable) (number : ℕ) (sight : Sight) → sight_at table number ≡ Some sight → IsOfNode table number sight.name (generation_seen (sight_at table number))
sight_node table number sight seen = by (fin.get table.nodes number) refl seen
  where
    by : (found : Option Node) → fin.get table.nodes number ≡ found → option_map (sight_of number) found ≡ Some sight
        → IsOfNode table number sight.name (generation_seen (sight_at table number))
    by None there is = absurd (no_Some is)
    by (Some node) there is = record {
      node = node;
      there = there;
      named = ap (λ (s : Sight). s.name) (same_Some is);
      source = ap (λ found. generation_seen (option_map (sight_of number) found)) there;
    }

asked_node : (table : NodeTable) (number : ℕ) (staged : Option StagedContent) (name : List ℕ) → option_and_then (standing.name_of staged) (sight_at table number) ≡ Some name
    → IsOfNode table number name (generation_seen (sight_at table number))
asked_node table number staged name asked = by (sight_at table number) refl asked
  where
    named : (sight : Sight) (held : Option StagedContent) → standing.name_of held sight ≡ Some name → sight.name ≡ name
    named sight None is = kind (is_directory sight.kind) is
      where
        kind : (directory : Bool) → (if directory then None else Some sight.name) ≡ Some name → sight.name ≡ name
        kind true e = absurd (no_Some e)
        kind false e = same_Some e
    named sight (Some s) is = absurd (no_Some is)

    by : (seen : Option Sight) → sight_at table number ≡ seen → option_and_then (standing.name_of staged) seen ≡ Some name → IsOfNode table number name (generation_seen (sight_at table number))
    by None there is = absurd (no_Some is)
    by (Some sight) there is = subst (λ n. IsOfNode table number n (generation_seen (sight_at table number))) (named sight staged is) (sight_node table number sight there)

module _ (Known Then : List ℕ → ℕ → ℕ → Type 0) where
  -- ---- one observation
  shows_news : (s : Observed) (name : List ℕ) → about s.op ≡ Some name → IsNewsTo Known Then s → ShowsNews Known Then s.moment name s.answer
  shows_news s name its news = λ meta is. record { later = news.later name its; new = news.new name meta its is }

  node_news : (s : Observed) (table : NodeTable) (number : ℕ) (node : Node) → fin.get table.nodes number ≡ Some node → about s.op ≡ Some node.name → IsNewsTo Known Then s
      → NodeNews Known Then s.moment table number s.answer
  node_news s table number node there its news = subst (λ found. IfSome found (λ (n : Node). ShowsNews Known Then s.moment n.name s.answer)) (sym there) (shows_news s node.name its news)

  gone_news : (s : Observed) (table : NodeTable) (number generation : ℕ) (name : List ℕ) → IsOfNode table number name generation → about s.op ≡ Some name → IsNewsTo Known Then s
      → ((number : ℕ) (node : Node) → fin.get table.nodes number ≡ Some node → IsKnown Known node)
      → standing.standing_by generation s.answer ≡ standing.gone → getattr.known_at table number < s.moment
  gone_news s table number generation name its asks news known gone =
      subst (λ found. option_map_or (λ (f : File). f.kept.known) (option_and_then (λ (n : Node). n.file) found) 0 < s.moment) (sym its.there)
      (by its.node.file its.source (known number its.node its.there))
    where
      by : (file : Option File) → generation ≡ option_map_or (λ (f : File). f.source) file 0 → IfSome file (λ (f : File). Known its.node.name f.source f.kept.known)
          → option_map_or (λ (f : File). f.kept.known) file 0 < s.moment
      by None source kept = let positive : 1 ≤ s.moment = news.positive in omega (arith, positive)
      by (Some f) source kept = news.gone its.node.name (asks ∙ ap Some (sym its.named)) f.source f.kept.known kept
          (ap (λ g. standing.standing_by g s.answer) (sym source) ∙ gone)

  -- ---- plans
  -- nothing is observed along a plan that is done
  none_observed : (plan : Plan) (seen : List Observed) → NewsAlong Known Then (λ told. done) seen → NewsAlong Known Then plan seen
  none_observed plan [] walked = tt
  none_observed plan (s ∷ more) walked = absurd walked.0

  probe_asks : (path : List ℕ) (suffixed : Bool) (found : lookup.Probed) (op : Operation) → Allows (lookup.after_probe path suffixed found) op → op ≡ stat path
  probe_asks path suffixed lookup.present op allowed = by suffixed allowed
    where
      by : (b : Bool) → Allows (if b then ask (stat path) else done) op → op ≡ stat path
      by true may = may
      by false may = absurd may
  probe_asks path suffixed lookup.absent op allowed = by suffixed allowed
    where
      by : (b : Bool) → Allows (if b then done else ask (stat path)) op → op ≡ stat path
      by true may = absurd may
      by false may = may
  probe_asks path suffixed lookup.failed op allowed = absurd allowed

  lookup_late : (implicit : Bool) (path : List ℕ) (suffixed : Bool) (seen : List Observed) → NewsAlong Known Then (lookup.plan implicit path suffixed) seen
      → LookupLate Known Then (last_moment seen) path (answers_of seen)
  lookup_late implicit path suffixed [] walked = tt
  lookup_late implicit path suffixed (s ∷ []) walked = tt
  lookup_late implicit path suffixed (s ∷ t ∷ []) walked = shows_news t path (ap about (probe_asks path suffixed (lookup.probed s.answer) t.op walked.2.0)) walked.2.1
  lookup_late implicit path suffixed (s ∷ t ∷ u ∷ more) walked = absurd walked.2.2.0

  module _ (table : NodeTable) (known : (number : ℕ) (node : Node) → fin.get table.nodes number ≡ Some node → IsKnown Known node) (number : ℕ) where
    standing_late : (staged : Option StagedContent) (seen : List Observed) → NewsAlong Known Then (standing.plan (option_and_then (standing.name_of staged) (sight_at table number))) seen
        → StandingLate Known Then (last_moment seen) table number (generation_seen (sight_at table number)) (answers_of seen)
    standing_late staged seen walked = by (option_and_then (standing.name_of staged) (sight_at table number)) refl seen walked
      where
        one : (s : Observed) (name : List ℕ) → IsOfNode table number name (generation_seen (sight_at table number)) → s.op ≡ stat name → IsNewsTo Known Then s
            → StandingLate Known Then s.moment table number (generation_seen (sight_at table number)) (s.answer ∷ [])
        one s name its asks news = (
          node_news s table number its.node its.there (ap about asks ∙ ap Some (sym its.named)) news,
          gone_news s table number (generation_seen (sight_at table number)) name its (ap about asks) news known,
        )

        by : (asked : Option (List ℕ)) → option_and_then (standing.name_of staged) (sight_at table number) ≡ asked → (seen : List Observed) → NewsAlong Known Then (standing.plan asked) seen
            → StandingLate Known Then (last_moment seen) table number (generation_seen (sight_at table number)) (answers_of seen)
        by asked is [] walked = tt
        by None is (s ∷ more) walked = absurd walked.0
        by (Some name) is (s ∷ []) walked = one s name (asked_node table number staged name is) walked.0 walked.1
        by (Some name) is (s ∷ t ∷ more) walked = absurd walked.2.0

    -- by a plan for a file that is seen
    of_sight : (P : List Observed → Type 0) (p : Sight → Plan) → P [] → ((sight : Sight) → sight_at table number ≡ Some sight → (seen : List Observed) → NewsAlong Known Then (p sight) seen → P seen)
        → (seen : List Observed) → NewsAlong Known Then (λ told. option_map_or (λ sight. p sight told) (sight_at table number) done) seen → P seen
    of_sight P p nothing each seen walked = by (sight_at table number) refl seen walked
      where
        by : (found : Option Sight) → sight_at table number ≡ found → (seen : List Observed) → NewsAlong Known Then (λ told. option_map_or (λ sight. p sight told) found done) seen → P seen
        by None is [] walked = nothing
        by None is (s ∷ more) walked = absurd walked.0
        by (Some sight) is seen walked = each sight is seen walked

    update_late : (asked : setattr.Asked) (second : ℕ) (seen : List Observed)
        → NewsAlong Known Then (λ told. option_map_or (λ file. setattr.update_plan asked second file told) (sight_at table number) done) seen
        → UpdateLate Known Then (last_moment seen) table number (answers_of seen)
    update_late asked second = of_sight (λ seen. UpdateLate Known Then (last_moment seen) table number (answers_of seen)) (setattr.update_plan asked second) tt each
      where
        each : (sight : Sight) → sight_at table number ≡ Some sight → (seen : List Observed) → NewsAlong Known Then (setattr.update_plan asked second sight) seen
            → UpdateLate Known Then (last_moment seen) table number (answers_of seen)
        each sight is [] walked = tt
        each sight is (s ∷ []) walked =
            let its = sight_node table number sight is in
            node_news s table number its.node its.there (ap about walked.0 ∙ ap Some (sym its.named)) walked.1
        each sight is (s ∷ t ∷ more) walked = absurd walked.2.0

    setattr_late : (taken : Taken) (asked : setattr.Asked) (change : setattr.Change) → taken.view.node ≡ sight_at table number → (seen : List Observed)
        → NewsAlong Known Then (setattr.plan_by asked taken.at.second taken.view change) seen
        → SetattrLate Known Then (last_moment seen) table number (generation_seen taken.view.node) change (answers_of seen)
    setattr_late taken asked setattr.resize sees seen walked = tt
    setattr_late taken asked setattr.stage_time sees seen walked = tt
    setattr_late taken asked setattr.set_time sees seen walked =
        update_late asked taken.at.second seen
        (subst (λ found. NewsAlong Known Then (λ told. option_map_or (λ file. setattr.update_plan asked taken.at.second file told) found done) seen) sees walked)
    setattr_late taken asked setattr.look sees seen walked =
        subst (λ found. StandingLate Known Then (last_moment seen) table number (generation_seen found) (answers_of seen)) (sym sees)
        (standing_late taken.view.staged seen (subst (λ found. NewsAlong Known Then (standing.plan (option_and_then (standing.name_of taken.view.staged) found)) seen) sees walked))

    -- ---- FLUSH
    -- the insert behind the reads
    reads_late : (source : Source) (op : Operation) (name : List ℕ) → about op ≡ Some name → (seen : List Observed) → NewsAlong Known Then (flush.after_reads source op) seen
        → (meta : Metadata) → flush.came_of (answers_of seen) ≡ flush.made meta → Then name meta.generation (last_moment seen)
    reads_late source op name its [] walked meta came = absurd (let never : flush.fault ≡ flush.made meta = came in cc)
    reads_late source op name its (s ∷ more) walked meta came = by s.answer refl more walked.2 came (reads_late source op name its more)
      where
        -- what was answered an object is no read
        inserted : Allows (may_read source (ask op)) s.op → s.answer ≡ answers.Meta meta → about s.op ≡ Some name
        inserted (inl reads) is = absurd (subst IsNoMeta is (walked.1.reads (is_read source s.op reads)))
        inserted (inr same) is = ap about same ∙ its

        by : (a : Answer) → s.answer ≡ a → (more : List Observed) → NewsAlong Known Then (plan_after (flush.after_reads source op) s.answer) more
            → flush.came_of (s.answer ∷ answers_of more) ≡ flush.made meta
            → (NewsAlong Known Then (flush.after_reads source op) more → (m : Metadata) → flush.came_of (answers_of more) ≡ flush.made m → Then name m.generation (last_moment more))
            → Then name meta.generation (last_moment (s ∷ more))
        by (answers.Bytes bytes) is [] later came rest =
            absurd (let never : flush.fault ≡ flush.made meta = ap (λ a. flush.came_of (a ∷ [])) (sym is) ∙ came in cc)
        by (answers.Bytes bytes) is (p ∷ more) later came rest =
            rest (subst (λ a. NewsAlong Known Then (plan_after (flush.after_reads source op) a) (p ∷ more)) is later) meta (ap (λ a. flush.came_of (a ∷ answers_of (p ∷ more))) (sym is) ∙ came)
        by (answers.Meta m) is [] later came rest =
            let made : flush.made m ≡ flush.made meta = ap (λ a. flush.came_of (a ∷ [])) (sym is) ∙ came in
            let same : m ≡ meta = cc made in
            walked.1.new name meta (inserted walked.0 (is ∙ ap answers.Meta same)) (is ∙ ap answers.Meta same)
        by (answers.Meta m) is (p ∷ more) later came rest = absurd ((subst (λ a. NewsAlong Known Then (plan_after (flush.after_reads source op) a) (p ∷ more)) is later).0)
        by answers.NotFound is more later came rest =
            absurd (let never : flush.stale ≡ flush.made meta = ap (λ a. flush.came_of (a ∷ answers_of more)) (sym is) ∙ came in cc)
        by (answers.Precondition generation metageneration) is more later came rest =
            absurd (let never : flush.stale ≡ flush.made meta = ap (λ a. flush.came_of (a ∷ answers_of more)) (sym is) ∙ came in cc)
        by _ is more later came rest =
            absurd (let never : flush.fault ≡ flush.made meta = ap (λ a. flush.came_of (a ∷ answers_of more)) (sym is) ∙ came in cc)

    flush_late : (taken : Taken) → taken.view.node ≡ sight_at table number → (seen : List Observed) → NewsAlong Known Then (flush.plan taken) seen
        → FlushLate Known Then (last_moment seen) table number (answers_of seen)
    flush_late taken sees seen walked = by taken.view.staged seen walked
      where
        planned : StagedContent → Sight → Plan
        planned staged file told = flush.after_reads (source_of file) (flush.insert_of taken.at.contents taken.at.second taken.view.kept staged file) told

        nothing : FlushLate Known Then 0 table number []
        nothing meta came = absurd (let never : flush.fault ≡ flush.made meta = came in cc)

        each : (staged : StagedContent) (sight : Sight) → sight_at table number ≡ Some sight → (seen : List Observed) → NewsAlong Known Then (planned staged sight) seen
            → FlushLate Known Then (last_moment seen) table number (answers_of seen)
        each staged sight is seen walked meta came =
            let its = sight_node table number sight is in
            subst (λ found. IfSome found (λ (n : Node). Then n.name meta.generation (last_moment seen))) (sym its.there)
            (subst (λ name. Then name meta.generation (last_moment seen)) (sym its.named)
            (reads_late (source_of sight) (flush.insert_of taken.at.contents taken.at.second taken.view.kept staged sight) sight.name refl seen walked meta came))

        by : (held : Option StagedContent) (seen : List Observed)
            → NewsAlong Known Then (λ told. option_map_or (λ staged. option_map_or (λ file. planned staged file told) taken.view.node done) held done) seen
            → FlushLate Known Then (last_moment seen) table number (answers_of seen)
        by None [] walked = nothing
        by None (s ∷ more) walked = absurd walked.0
        by (Some staged) seen walked =
            of_sight (λ seen. FlushLate Known Then (last_moment seen) table number (answers_of seen)) (planned staged) nothing (each staged) seen
            (subst (λ found. NewsAlong Known Then (λ told. option_map_or (λ file. planned staged file told) found done) seen) sees walked)

  making_late : (path : List ℕ) (pairs : List Pair) (second : ℕ) (seen : List Observed) → NewsAlong Known Then (making.plan path pairs second) seen
      → MakingLate Known Then (last_moment seen) path (answers_of seen)
  making_late path pairs second [] walked = tt
  making_late path pairs second (s ∷ []) walked = λ meta is. walked.1.new path meta (ap about walked.0) is
  making_late path pairs second (s ∷ t ∷ more) walked = absurd walked.2.0

  -- ---- each request
  module _ (at : AtTake) (mount : MountModel) (known : (number : ℕ) (node : Node) → fin.get mount.table.nodes number ≡ Some node → IsKnown Known node) (seen : List Observed) where
    abbrev Late : Request → Type 0
    Late request = IsLate Known Then (last_moment seen) (taken_at at mount request) mount request (answers_of seen)

    rules_late : (request : Request) → NewsAlong Known Then ((rules_of request).plan (taken_at at mount request)) seen → Late request
    rules_late (Lookup node name) walked = lookup_late at.config.implicit_dirs _ _ seen walked
    rules_late (Getattr node) walked = standing_late mount.table known node _ seen walked
    rules_late (Setattr node valid size mtime nanos) walked =
        setattr_late mount.table known node (taken_at at mount (Setattr node valid size mtime nanos)) (asked_by valid size mtime nanos) _ refl seen walked
    rules_late (Opening node flags) walked = standing_late mount.table known node _ seen walked
    rules_late (Flush node fh) walked = flush_late mount.table known node (taken_at at mount (Flush node fh)) refl seen walked
    rules_late (Fsync node fh) walked = flush_late mount.table known node (taken_at at mount (Fsync node fh)) refl seen walked
    rules_late (Create node name) walked = making_late _ _ _ seen walked
    rules_late (Symlink node name target) walked = making_late _ _ _ seen walked
    rules_late (Mknod node mode name) walked = making_late _ _ _ seen walked
    rules_late _ walked = tt

    pub walk_late : (request : Request) → NewsAlong Known Then (plan at mount request) seen → Late request
    walk_late request walked = rules_late request (by (goes_on mount request) walked)
      where
        by : (on : Bool) → NewsAlong Known Then (if on then (rules_of request).plan (taken_at at mount request) else (λ (told : List Answer). done)) seen
            → NewsAlong Known Then ((rules_of request).plan (taken_at at mount request)) seen
        by true w = w
        by false w = none_observed _ seen w
