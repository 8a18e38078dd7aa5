-- The paths of children: a part of a live directory has a path, and a directory's prefix.
use Rattle.std.proofs.Common.{◌≡◌, ◌≤◌, ℕ, Bool, true, false, List, [], ◌∷◌, Option, Some, None, refl, sym, ap, subst, ◌∙◌, length, option_map}
use Rattle.std.proofs.lemmas.List.Elements.{All-nil}
use Rattle.std.specs.FinMap as fin
use Rattle.bucket_api.specs.Metadata.{Metadata}
use Rattle.dir_listing.specs.Kinds.{file_or_link, has_target}
use Rattle.object_names.proofs.PathLemmas.{IsPrefix-dir}
use Rattle.object_names.specs.Components.{IsComponent}
use Rattle.object_names.specs.Paths.{IsPath, IsPrefix, dir_prefix_of}
use Rattle.object_names.specs.declared.shown.NodeKind.TheVariants.{Dir}
use Rattle.mount_rules.specs.Guards.{in_directory, part_refusal, path_in}
use Rattle.mount_rules.specs.Mount.{File, IsKeptOf, IsMount, IsNameOf, MountModel, Node, NodeTable}
use Rattle.mount_rules.specs.View.{Sight, child_of, sight_at, sight_of}
use Rattle.mount_laws.proofs.Guarding.{in_directory-none, part_refusal-none}
use Rattle.mount_laws.proofs.Keeping.{no_Some, same_Some}

-- the node behind a sight
pub record IsSeen (table : NodeTable) (number : ℕ) (sight : Sight) : Type 0 where
  pub node : Node
  pub there : fin.get table.nodes number ≡ Some node
  pub is : sight_of number node ≡ sight

pub IsSeen-at : (table : NodeTable) (number : ℕ) (sight : Sight) → sight_at table number ≡ Some sight → IsSeen table number sight
IsSeen-at table number sight e = by (fin.get table.nodes number) refl e
  where
    by : (found : Option Node) → fin.get table.nodes number ≡ found → option_map (sight_of number) found ≡ Some sight → IsSeen table number sight
    by None there e = absurd (no_Some e)
    by (Some node) there e = record { node = node; there = there; is = same_Some e }

-- a directory that is seen is named by its prefix
pub IsPrefix-seen : (mount : MountModel) (number : ℕ) (sight : Sight) → IsMount mount → sight_at mount.table number ≡ Some sight → sight.kind ≡ Dir → IsPrefix sight.name
IsPrefix-seen mount number sight is seen directory =
    let s = IsSeen-at mount.table number sight seen in
    let kind : s.node.kind ≡ Dir = ap (λ (x : Sight). x.kind) s.is ∙ directory in
    subst (λ name. IsPrefix name) (ap (λ (x : Sight). x.name) s.is) (subst (λ k. IsNameOf k s.node.name) kind (is.names number s.node s.there))

-- What is known of a name in a directory that is not refused: the directory, and the path.
pub record HasPath (mount : MountModel) (number : ℕ) (part : List ℕ) : Type 0 where
  pub sight : Sight
  pub seen : sight_at mount.table number ≡ Some sight
  pub path_is : path_in (sight_at mount.table number) part ≡ child_of sight part
  pub is_path : IsPath (path_in (sight_at mount.table number) part)

pub HasPath-none : (mount : MountModel) (number : ℕ) (part : List ℕ) → IsMount mount → in_directory (sight_at mount.table number) (part_refusal part) ≡ None → HasPath mount number part
HasPath-none mount number part is none =
    let d = in_directory-none (sight_at mount.table number) (part_refusal part) none in
    let child = part_refusal-none part d.sight d.next_none in
    let path : path_in (sight_at mount.table number) part ≡ child_of d.sight part = ap (λ seen. path_in seen part) d.is in
    record {
      sight = d.sight;
      seen = d.is;
      path_is = path;
      is_path = record {
        prefix = d.sight.name;
        part = part;
        parent = IsPrefix-seen mount number d.sight is d.is d.directory;
        child = child.component;
        is = path;
        short = subst (λ p. length p ≤ 1023) (sym path) child.short;
      };
    }

-- the prefix of a directory at a path
pub IsPrefix-path : (path : List ℕ) → IsPath path → IsPrefix (dir_prefix_of path)
IsPrefix-path path is = by path is
  where
    by : (p : List ℕ) → IsPath p → IsPrefix (dir_prefix_of p)
    by [] is = record { parts = []; components = All-nil IsComponent; is = refl }
    by (byte ∷ p) is = IsPrefix-dir (byte ∷ p) is

-- an object's node is a file or a symlink, which its path names
pub IsNameOf-object : (meta : Metadata) (path : List ℕ) → IsPath path → IsNameOf (file_or_link (has_target meta.pairs)) path
IsNameOf-object meta path is = by (has_target meta.pairs)
  where
    by : (link : Bool) → IsNameOf (file_or_link link) path
    by true = is
    by false = is

-- of which something is kept
pub IsKeptOf-object : (meta : Metadata) (file : File) → IsKeptOf (file_or_link (has_target meta.pairs)) (Some file)
IsKeptOf-object meta file = by (has_target meta.pairs)
  where
    by : (link : Bool) → IsKeptOf (file_or_link link) (Some file)
    by true = refl
    by false = refl
