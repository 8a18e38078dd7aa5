-- What is staged is frozen, and goes with the pairs that are kept.
use Rattle.std.proofs.Common.{◌≡◌, ℕ, rules, List, Option, Some, subst, sym, ap, ◌∙◌}
use Rattle.std.specs.FinMap as fin
use Rattle.std.specs.Option.{option_map_or}
use Rattle.bucket_api.specs.BucketStep.{with_pair}
use Rattle.bucket_api.specs.Metadata.{KeysRise}
use Rattle.bucket_api.specs.Names.{IsObjectName}
use Rattle.bucket_api.specs.Operation.{insert}
use Rattle.bucket_api.specs.declared.objects.Pair.{Pair}
use Rattle.mount_core.proofs.FileLemmas.{named_file}
use Rattle.mount_core.proofs.FlushLemmas.{HasTime, flush_asks, frozen_short, has_time}
use Rattle.mount_rules.specs.Mount.{File, Node}
use Rattle.mount_rules.specs.Requests.Flush.{time_pair}
use Rattle.plan_files.specs.Errands.{asks_behind}
use Rattle.staged_file.specs.Frozen.{frozen_content}
use Rattle.staging_spec.specs.Overlays.{bare, staging_over}
use Rattle.staging_spec.specs.StagedFiles.{StagedContent, StagedFiles}
use Rattle.mount_core.proofs.files.flush.Goals as goal
use Rattle.mount_core.proofs.files.flush.Goals.{After-wanted_by_flush}

-- ---- what is there
node_there : (c : After-wanted_by_flush) → fin.get c.args.mount.now.mount.table.nodes c.args.node ≡ Some c.in-Some-get.inode.now
node_there c = search rules

is_file : (c : After-wanted_by_flush) → c.in-Some-get.inode.now.file ≡ Some c.in-Some-file.file
is_file c = sym (ap (λ (n : Node). n.file) c.inode.view_is) ∙ c.in-Some-file.is

named : (c : After-wanted_by_flush) → c.in_ok-name.name ≡ c.in-Some-get.inode.now.name
named c = c.in_ok-name.ensures.ok ∙ ap (λ (n : Node). n.name) c.inode.view_is

since : (c : After-wanted_by_flush) → HasTime (fin.get c.staging-staging.result.now.files c.args.node) c.in-Some.seconds c.in-Some.nanos
since c = has_time (fin.get c.staging-staging.result.now.files c.args.node) c.in-Some.seconds c.in-Some.nanos c.in-Some.ensures.ok

held : (c : After-wanted_by_flush) → fin.get c.args.mount.now.mount.staged c.args.node ≡ Some (since c).staged
held c = ap (λ (files : StagedFiles). fin.get files c.args.node) (sym c.staging-staging.ensures.files) ∙ (since c).is

-- ---- what is flushed
whole : (c : After-wanted_by_flush) (source : List ℕ) → frozen_content c.in_ok-frozen.frozen source ≡ (staging_over (since c).staged.overlay source).content
whole c source =
    c.in_ok-frozen.ensures.ok source
    ∙ ap (λ (found : Option StagedContent). (staging_over (option_map_or (λ s. s.overlay) found (bare c.file.inside.size)) source).content) (since c).is

timed : (c : After-wanted_by_flush) → c.in_ok-pairs.pairs.items ≡ with_pair c.in-Some-file.file.kept.meta.pairs (time_pair (since c).staged.seconds (since c).staged.nanos)
timed c =
    c.in_ok-pairs.ensures.ok
    ∙ ap (λ (pairs : List Pair). with_pair pairs (time_pair c.in-Some.seconds c.in-Some.nanos)) c.kept_pairs.ensures
    ∙ ap (λ n. with_pair c.in-Some-file.file.kept.meta.pairs (time_pair n c.in-Some.nanos)) (sym (since c).since.0)
    ∙ ap (λ n. with_pair c.in-Some-file.file.kept.meta.pairs (time_pair (since c).staged.seconds n)) (sym (since c).since.1)

pub returns-clause-plan : goal.returns-clause-plan
returns-clause-plan c = λ at fh answers.
    let frozen = c.in_ok-frozen.frozen in
    let pairs = c.in_ok-pairs.pairs.items in
    let node : Node = c.in-Some-get.inode.now in
    ap (λ (name : List ℕ). asks_behind (insert name (frozen_content frozen (at.contents name c.file.inside.source)) pairs (Some c.file.inside.source) at.second) answers) (named c)
    ∙ ap (λ source. asks_behind (insert node.name (frozen_content frozen (at.contents node.name source)) pairs (Some source) at.second) answers) (ap (λ (f : File). f.source) c.file.view_is)
    ∙ flush_asks c.args.mount.now.mount c.args.node node c.in-Some-file.file (since c).staged (node_there c) (is_file c) (held c) frozen (whole c) pairs (timed c) at fh answers

pub returns-clause-errand : goal.returns-clause-errand
returns-clause-errand c =
    let node : Node = c.in-Some-get.inode.now in
    let file : File = c.in-Some-file.file in
    record {
      named = subst IsObjectName (sym (named c)) (named_file c.args.mount.now.mount c.args.node node (node_there c) file (is_file c) c.nodes.ensures.valid);
      ordered = c.in_ok-pairs.ensures.rise (subst KeysRise (sym c.kept_pairs.ensures) (c.requires.metadata.pairs c.args.node node file (node_there c) (is_file c)));
      lacks = c.in_ok-frozen.ensures.wanted ∙ sym c.wanted_by_flush.ensures.ok;
      short = frozen_short c.in_ok-frozen.frozen (since c).staged.overlay (whole c) (c.in-Some.ensures.valid.bounded c.args.node (since c).staged (since c).is).most;
    }
