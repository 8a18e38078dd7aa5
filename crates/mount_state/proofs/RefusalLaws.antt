-- What the guards of a request come to at a node that was found.
use Rattle.std.proofs.Common.{◌≡◌, ℕ, Bool, true, false, Option, Some, None, refl, ap, ◌∙◌}
use Rattle.std.specs.Prelude.{if◌then◌else◌, option_map}
use Rattle.std.specs.FinMap as fin
use Rattle.fuse_replies.specs.Errno.{enotdir, estale}
use Rattle.inode_spec.specs.Inodes.{is_live}
use Rattle.mount_rules.specs.Guards.{in_directory, is_directory}
use Rattle.mount_rules.specs.Mount.{Node, NodeTable}
use Rattle.mount_rules.specs.View.{Sight, sight_at, sight_of}
use Rattle.mount_laws.proofs.Keeping.{no_Some}

-- a live directory goes on
pub in_live_directory : (table : NodeTable) (number : ℕ) (node : Node) (next : Sight → Option ℕ) → fin.get table.nodes number ≡ Some node
    → None ≡ (if is_live number node then (if is_directory node.kind then None else Some enotdir) else Some estale)
    → in_directory (sight_at table number) next ≡ next (sight_of number node)
in_live_directory table number node next there free =
    ap (λ (found : Option Node). in_directory (option_map (sight_of number) found) next) there ∙ by (is_live number node) (is_directory node.kind) free
  where
    by : (live dir : Bool) → None ≡ (if live then (if dir then None else Some enotdir) else Some estale)
        → (if live then (if dir then next (sight_of number node) else Some enotdir) else Some estale) ≡ next (sight_of number node)
    by true true e = refl
    by true false e = absurd (no_Some e)
    by false dir e = absurd (no_Some e)
