-- A run that has made no call came to a mount before its first request.
use Rattle.std.proofs.Common.{◌≡◌, ℕ, Bool, true, false, cond, Option, Some, None, refl, sym, ap, ◌∙◌, nat_eq}
use Rattle.std.proofs.lemmas.List.Elements.{All-nil}
use Rattle.std.specs.FinMap as fin
use Rattle.std.specs.Ordering.{nat_cmp}
use Rattle.bucket_api.specs.Operation.{IsAllowed}
use Rattle.bucket_api.specs.BucketState.{BucketState, IsBucket}
use Rattle.inode_spec.specs.Inodes.{Nodes, root}
use Rattle.mount_core.specs.Serials.{CameTo, first_serial}
use Rattle.mount_model.specs.declared.config.Config.{Config}
use Rattle.mount_rules.specs.Laws.{FilesHaveContent}
use Rattle.mount_rules.specs.Mount.{File, Node, first_mount}
use Rattle.mount_rules.specs.OneThread.{first_state}
use Rattle.spare_maps.proofs.FinMaps.{get-insert_number}
use Rattle.staging_spec.specs.StagedFiles.{StagedContent}

-- no node but the root
abbrev first_nodes : Nodes File
first_nodes = fin.empty

-- the root is no file
no_file : (number : ℕ) (node : Node) (file : File) → fin.get first_mount.table.nodes number ≡ Some node → node.file ≡ Some file → ⊥
no_file number node file there is_file = by (nat_eq number 1) (fin.get first_nodes number) (fin.get-empty nat_cmp number) (sym (get-insert_number first_nodes 1 root number) ∙ there)
  where
    by : (one : Bool) (found : Option Node) → found ≡ None → cond one (Some root) found ≡ Some node → ⊥
    by true found none e = let same : root ≡ node = cc in let no_file : None ≡ Some file = ap (λ (n : Node). n.file) same ∙ is_file in cc
    by false found none e = cc

no_files : (bucket : BucketState) → FilesHaveContent (first_state bucket)
no_files bucket number node file there is_file = absurd (no_file number node file there is_file)

-- nothing is staged
none_staged : (number : ℕ) (staged : StagedContent) → fin.get first_mount.staged number ≡ Some staged → ⊥
none_staged number staged found = let never : None ≡ Some staged = sym (fin.get-empty nat_cmp number) ∙ found in cc

pub came_first : (config : Config) (bucket : BucketState) → IsBucket bucket → CameTo (first_state bucket) (first_serial config bucket)
came_first config bucket is = record {
  mount = refl;
  store = record { start = is; allowed = All-nil (λ e. IsAllowed e.op); bucket = refl; made = refl };
  files = no_files bucket;
  staged = λ number node file staged there is_file found. absurd (none_staged number staged found);
  metadata = record {
    pairs = λ number node file there is_file. absurd (no_file number node file there is_file);
    times = λ number staged found. absurd (none_staged number staged found);
  };
}
