-- Showing a name leaves a table of nodes, what others may see of it, and one look-up more of the node that is shown.
use Rattle.std.proofs.Common.{◌≡◌, ◌≤◌, ◌+◌, ◌-◌, ℕ, Bool, true, false, List, Option, Some, None, refl, sym, ap, subst, ◌∙◌, nat_eq, nat_lt, arith, option_map}
use Rattle.std.proofs.lemmas.Bool.Decides.{nat_tests}
use Rattle.std.specs.Prelude.{if◌then◌else◌, ◌||◌, option_and_then}
use Rattle.std.specs.FinMap as fin
use Rattle.std.specs.Option.{option_map_or}
use Rattle.bucket_api.specs.Metadata.{Metadata}
use Rattle.claim_spec.specs.Conflicts.{IsClaimed}
use Rattle.claim_spec.specs.declared.claim.Claim.{Claim}
use Rattle.claim_spec.specs.declared.claim.ClaimKey.TheVariants as key
use Rattle.inode_spec.specs.Inodes.{is_live, looked_up, lookups_of, with_inode}
use Rattle.mount_rules.specs.Mount.{File, IsKeptOf, IsNameOf, Node, NodeTable}
use Rattle.mount_rules.specs.Showing.{Numbered, current_shown, directory_again, object_again, refreshed, shown_again, shown_or_new, stands_for, with_shown_or_new}
use Rattle.mount_rules.specs.View.{sight_of}
use Rattle.mount_laws.proofs.Counting.{count_of, counts_more}
use Rattle.mount_laws.proofs.Keeping.{TableKeeps, TableKeeps-granted, TableKeeps-written, no_Some, same_Some}
use Rattle.mount_laws.proofs.Sources.{IsSameNode, IsSameNode-looked, IsTold, NodesFrom, NodesFrom-stay, NodesFrom-told, NodesStay-put}
use Rattle.mount_laws.proofs.Staying.{FilesStay, FilesStay-new, FilesStay-put}
use Rattle.mount_laws.proofs.Tables.{IsKeptOf-same, IsNodeTable, TableLater, TableLater-granted, TableLater-written, next_unused}

-- what showing a node again leaves of it: all but its look-ups, of which there is one more, and what is kept
pub record ShownAgain (node shown : Node) : Type 0 where
  pub kind : shown.kind ≡ node.kind
  pub name : shown.name ≡ node.name
  pub lookups : shown.lookups ≡ node.lookups + 1
  pub seen : (number : ℕ) → is_live number node ≡ true → sight_of number shown ≡ sight_of number node
  pub same : IsSameNode node shown

live_more : (number lookups : ℕ) → (nat_eq number 1 || nat_lt 0 (lookups + 1)) ≡ true
live_more number lookups = by (nat_eq number 1)
  where
    by : (root : Bool) → (root || nat_lt 0 (lookups + 1)) ≡ true
    by true = refl
    by false = grind (arith, nat_tests)

pub ShownAgain-directory : (node shown : Node) → directory_again node ≡ Some shown → ShownAgain node shown
ShownAgain-directory node shown e = subst (ShownAgain node) (same_Some e) (record {
  kind = refl;
  name = refl;
  lookups = refl;
  seen = λ number live. ap (λ b. record (sight_of number node) { live = b }) (live_more number node.lookups ∙ sym live);
  same = IsSameNode-looked node (node.lookups + 1);
})

-- a file that is shown again keeps its source and its size
refreshed-source : (meta : Metadata) (moment : ℕ) (file : File) → (refreshed meta moment file).source ≡ file.source
refreshed-source meta moment file = by (nat_eq file.source meta.generation)
  where
    by : (b : Bool) → (if b then record file { kept = shown_again file.kept meta moment } else file).source ≡ file.source
    by true = refl
    by false = refl

refreshed-size : (meta : Metadata) (moment : ℕ) (file : File) → (refreshed meta moment file).size ≡ file.size
refreshed-size meta moment file = by (nat_eq file.source meta.generation)
  where
    by : (b : Bool) → (if b then record file { kept = shown_again file.kept meta moment } else file).size ≡ file.size
    by true = refl
    by false = refl

-- a node whose file is refreshed is the same, and is seen as before
pub IsSameNode-refreshed : (meta : Metadata) (moment : ℕ) (node : Node) (file : File) → node.file ≡ Some file → IsSameNode node (record node { file = Some (refreshed meta moment file) })
IsSameNode-refreshed meta moment node file has = record {
  kind = refl;
  name = refl;
  shown = (λ i. Some (refreshed-source meta moment file i, refreshed-size meta moment file i)) ∙ sym (ap (option_map (λ (f : File). (f.source, f.size))) has);
}

pub refreshed-seen : (meta : Metadata) (moment : ℕ) (node : Node) (file : File) → node.file ≡ Some file → (number : ℕ)
    → sight_of number (record node { file = Some (refreshed meta moment file) }) ≡ sight_of number node
refreshed-seen meta moment node file has number = λ i. record {
  kind = node.kind;
  name = node.name;
  live = is_live number node;
  source = (refreshed-source meta moment file ∙ sym (ap (λ f. option_map_or (λ (x : File). x.source) f 0) has)) i;
  size = (refreshed-size meta moment file ∙ sym (ap (λ f. option_map_or (λ (x : File). x.size) f 0) has)) i;
}

pub ShownAgain-object : (meta : Metadata) (moment : ℕ) (node shown : Node) → object_again meta moment node ≡ Some shown → ShownAgain node shown
ShownAgain-object meta moment node shown e = by node.file refl e
  where
    is_again : (file : File) → node.file ≡ Some file → looked_up (record node { file = Some (refreshed meta moment file) }) ≡ shown → ShownAgain node shown
    is_again file has e = subst (ShownAgain node) e (record {
      kind = refl;
      name = refl;
      lookups = refl;
      seen = λ number live.
          ap (λ b. record (sight_of number (record node { file = Some (refreshed meta moment file) })) { live = b }) (live_more number node.lookups ∙ sym live)
          ∙ refreshed-seen meta moment node file has number;
      same = record { kind = refl; name = refl; shown = (IsSameNode-refreshed meta moment node file has).shown };
    })

    on : (file : File) → node.file ≡ Some file → (b : Bool)
        → (if b then Some (looked_up (record node { file = Some (refreshed meta moment file) })) else None) ≡ Some shown → ShownAgain node shown
    on file has true e = is_again file has (same_Some e)
    on file has false e = absurd (no_Some e)

    by : (file : Option File) → node.file ≡ file
        → option_and_then (λ (f : File). if stands_for meta moment f then Some (looked_up (record node { file = Some (refreshed meta moment f) })) else None) file ≡ Some shown → ShownAgain node shown
    by None has e = absurd (no_Some e)
    by (Some file) has e = on file has (stands_for meta moment file) e

-- a node that is shown again was the current one of its name
pub record WasCurrent (table : NodeTable) (name : List ℕ) (shown : Numbered) : Type 0 where
  pub node : Node
  pub current : fin.get table.current name ≡ Some shown.number
  pub there : fin.get table.nodes shown.number ≡ Some node
  pub again : ShownAgain node shown.node

module _ (again : Node → Option Node) (shows : (node shown : Node) → again node ≡ Some shown → ShownAgain node shown) (table : NodeTable) (name : List ℕ) where
  pub WasCurrent-shown : (shown : Numbered) → current_shown again table name ≡ Some shown → WasCurrent table name shown
  WasCurrent-shown shown e = at (fin.get table.current name) refl e
    where
      under : (number : ℕ) (node : Node) (new : Option Node) → fin.get table.current name ≡ Some number → fin.get table.nodes number ≡ Some node → again node ≡ new
          → option_and_then (λ (n : Node). Some (record { number = number; node = n })) new ≡ Some shown → WasCurrent table name shown
      under number node None current there is e = absurd (no_Some e)
      under number node (Some new) current there is e =
          let one : record { number = number; node = new } ≡ shown = same_Some e in
          subst (WasCurrent table name) one (record { node = node; current = current; there = there; again = shows node new is })

      found_at : (number : ℕ) (found : Option Node) → fin.get table.current name ≡ Some number → fin.get table.nodes number ≡ found
          → option_and_then (λ (node : Node). option_and_then (λ (n : Node). Some (record { number = number; node = n })) (again node)) found ≡ Some shown → WasCurrent table name shown
      found_at number None current there e = absurd (no_Some e)
      found_at number (Some node) current there e = under number node (again node) current there refl e

      at : (current : Option ℕ) → fin.get table.current name ≡ current
          → option_and_then (λ number. option_and_then (λ (node : Node). option_and_then (λ (n : Node). Some (record { number = number; node = n })) (again node))
          (fin.get table.nodes number)) current ≡ Some shown
          → WasCurrent table name shown
      at None current e = absurd (no_Some e)
      at (Some number) current e = found_at number (fin.get table.nodes number) current refl e

  module _ (is : IsNodeTable table) (new : Node) (named : new.name ≡ name) where
    -- the table is one, and no number is given again
    pub shown_later : IsNameOf new.kind new.name → IsKeptOf new.kind new.file → 1 ≤ new.lookups → TableLater table (with_shown_or_new table (current_shown again table name) new)
    shown_later of_kind kept given = by (current_shown again table name) refl
      where
        by : (shown : Option Numbered) → current_shown again table name ≡ shown → TableLater table (with_shown_or_new table shown new)
        by None e = TableLater-granted table is new of_kind kept given
        by (Some shown) e =
            let was = WasCurrent-shown shown e in
            TableLater-written table is shown.number was.node shown.node was.there was.again.kind was.again.name
            (IsKeptOf-same was.node shown.node was.again.same (is.files shown.number was.node was.there))
            (λ live. ap (λ n. nat_eq shown.number 1 || nat_lt 0 n) was.again.lookups ∙ live_more shown.number was.node.lookups)

    -- each file stays
    pub shown_stay : FilesStay table.nodes (with_shown_or_new table (current_shown again table name) new).nodes
    shown_stay = by (current_shown again table name) refl
      where
        by : (shown : Option Numbered) → current_shown again table name ≡ shown → FilesStay table.nodes (with_shown_or_new table shown new).nodes
        by None e = FilesStay-new table.nodes table.next new (next_unused table is)
        by (Some shown) e = let was = WasCurrent-shown shown e in FilesStay-put table.nodes shown.number was.node shown.node was.there was.again.same.shown

    -- others see the same, but for the name
    pub shown_keeps : (claimed : List Claim) → IsClaimed claimed (key.Name name) → TableKeeps claimed table (with_shown_or_new table (current_shown again table name) new)
    shown_keeps claimed mine = by (current_shown again table name) refl
      where
        by : (shown : Option Numbered) → current_shown again table name ≡ shown → TableKeeps claimed table (with_shown_or_new table shown new)
        by None e = TableKeeps-granted claimed table new is.nodes (subst (λ q. IsClaimed claimed (key.Name q)) (sym named) mine)
        by (Some shown) e =
            let was = WasCurrent-shown shown e in
            let c = is.current name shown.number was.current in
            let one : c.inode ≡ was.node = same_Some (sym c.there ∙ was.there) in
            TableKeeps-written claimed table shown.number was.node shown.node was.there
            (was.again.seen shown.number (subst (λ (x : Node). is_live shown.number x ≡ true) one c.live))
            (subst (λ q. IsClaimed claimed (key.Name q)) (sym (ap (λ (x : Node). x.name) (sym one) ∙ c.named)) mine)

    -- the node that is shown has one look-up more
    pub shown_counts : new.lookups ≡ 1 → (number : ℕ)
        → lookups_of (with_shown_or_new table (current_shown again table name) new) number
        ≡ (lookups_of table number + (if nat_eq number (shown_or_new table (current_shown again table name) new).number then 1 else 0)) - 0
    shown_counts one number = by (current_shown again table name) refl
      where
        none : lookups_of table table.next ≡ 0
        none = ap count_of (next_unused table is)

        by : (shown : Option Numbered) → current_shown again table name ≡ shown
            → lookups_of (with_shown_or_new table shown new) number ≡ (lookups_of table number + (if nat_eq number (shown_or_new table shown new).number then 1 else 0)) - 0
        by None e = counts_more table number table.next new (one ∙ ap (λ n. n + 1) (sym none))
        by (Some shown) e =
            let was = WasCurrent-shown shown e in
            counts_more table number shown.number shown.node (was.again.lookups ∙ ap (λ n. n + 1) (sym (ap count_of was.there)))

  -- each node was there, or is the new one
  pub shown_nodes : (Shown : List ℕ → ℕ → ℕ → Type 0) (new : Node) → IsTold Shown new → NodesFrom Shown table (with_shown_or_new table (current_shown again table name) new)
  shown_nodes Shown new is = by (current_shown again table name) refl
    where
      by : (shown : Option Numbered) → current_shown again table name ≡ shown → NodesFrom Shown table (with_shown_or_new table shown new)
      by None e = NodesFrom-told Shown table table.next new is
      by (Some shown) e =
          let was = WasCurrent-shown shown e in
          NodesFrom-stay Shown table (with_inode table shown.number shown.node) (NodesStay-put table shown.number was.node shown.node was.there was.again.same)
