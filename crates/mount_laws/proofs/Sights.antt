-- A request sees the same after another call whose claims don't conflict with its own.
use Rattle.std.proofs.Common.{◌≡◌, ℕ, List, [], Option, Some, None, refl, sym, ap, subst, ◌∙◌}
use Rattle.std.specs.Prelude.{map, option_and_then, option_map}
use Rattle.std.specs.FinMap as fin
use Rattle.claim_spec.specs.Conflicts.{AreApart, IsClaimed, IsOwned}
use Rattle.claim_spec.specs.declared.claim.Claim.{Claim}
use Rattle.claim_spec.specs.declared.claim.ClaimKey.TheVariants as key
use Rattle.handle_table.specs.Handles.{Opened}
use Rattle.mount_rules.specs.Laws.{Keeps}
use Rattle.mount_rules.specs.Mount.{MountModel}
use Rattle.mount_rules.specs.Rules.{at_file, at_node, at_open_file}
use Rattle.mount_rules.specs.View.{Looks, Named, Sight, child_of, current_at, kept_at, old_at, sight_at, view_of}
use Rattle.mount_laws.proofs.Keeping.{no_Some, same_Some}

-- The request owns the name, and claims its current node, where it has one, which is there.
pub record CurrentClaimed (mine : List Claim) (mount : MountModel) (name : List ℕ) : Type 0 where
  pub owned : IsOwned mine (key.Name name)
  pub node : (number : ℕ) → fin.get mount.table.current name ≡ Some number → (sight : Sight) × (sight_at mount.table number ≡ Some sight) × IsClaimed mine (key.Node number)

-- What a request looks at is there, and it claims what it looks at: the node and the second directory; the node of its
-- handle; what is kept of a node only where it owns the node and its name; the node of what is staged; and the current node
-- of its old name, which it owns.
pub record LooksClaimed (mine : List Claim) (mount : MountModel) (looks : Looks) : Type 0 where
  pub node : (number : ℕ) → looks.node ≡ Some number → (sight : Sight) × (sight_at mount.table number ≡ Some sight) × IsClaimed mine (key.Node number)
  pub directory : (number : ℕ) → looks.directory ≡ Some number → (sight : Sight) × (sight_at mount.table number ≡ Some sight) × IsClaimed mine (key.Node number)
  pub handle : (fh : ℕ) → looks.handle ≡ Some fh → (handle : Opened) × (fin.get mount.handles fh ≡ Some handle) × IsClaimed mine (key.Node handle.node)
  pub kept : (number : ℕ) → looks.kept ≡ Some number
      → (sight : Sight) × (sight_at mount.table number ≡ Some sight) × IsOwned mine (key.Node number) × IsOwned mine (key.Name sight.name)
  pub staged : (number : ℕ) → looks.staged ≡ Some number → IsClaimed mine (key.Node number)
  pub old : (part : List ℕ) (directory : Sight) → looks.old ≡ Some part → option_and_then (sight_at mount.table) looks.node ≡ Some directory
      → CurrentClaimed mine mount (child_of directory part)
  pub listed : looks.listed ≡ []

module _ (mine others : List Claim) (mount after : MountModel) (apart : AreApart mine others) (keeps : Keeps others mount after) where
  free : (number : ℕ) → IsClaimed mine (key.Node number) → IsOwned others (key.Node number) → ⊥
  free number claimed owned = apart.others_alone (key.Node number) claimed owned

  sight_stays : (looked : Option ℕ) → ((number : ℕ) → looked ≡ Some number → (sight : Sight) × (sight_at mount.table number ≡ Some sight) × IsClaimed mine (key.Node number))
      → option_and_then (sight_at after.table) looked ≡ option_and_then (sight_at mount.table) looked
  sight_stays None claims = refl
  sight_stays (Some number) claims = let c = claims number refl in keeps.sights number c.0 c.1 (free number c.2) ∙ sym c.1

  handle_stays : (looked : Option ℕ) → ((fh : ℕ) → looked ≡ Some fh → (handle : Opened) × (fin.get mount.handles fh ≡ Some handle) × IsClaimed mine (key.Node handle.node))
      → option_and_then (fin.get after.handles) looked ≡ option_and_then (fin.get mount.handles) looked
  handle_stays None claims = refl
  handle_stays (Some fh) claims = let c = claims fh refl in keeps.handles fh c.0 c.1 (free c.0.node c.2) ∙ sym c.1

  kept_stays : (looked : Option ℕ)
      → ((number : ℕ) → looked ≡ Some number → (sight : Sight) × (sight_at mount.table number ≡ Some sight) × IsOwned mine (key.Node number) × IsOwned mine (key.Name sight.name))
      → option_and_then (kept_at after.table) looked ≡ option_and_then (kept_at mount.table) looked
  kept_stays None claims = refl
  kept_stays (Some number) claims =
      let c = claims number refl in
      keeps.kept number c.0 c.1 (λ claimed. apart.mine_alone (key.Node number) c.2 claimed) (λ claimed. apart.mine_alone (key.Name c.0.name) c.3 claimed)

  staged_stays : (looked : Option ℕ) → ((number : ℕ) → looked ≡ Some number → IsClaimed mine (key.Node number))
      → option_and_then (fin.get after.staged) looked ≡ option_and_then (fin.get mount.staged) looked
  staged_stays None claims = refl
  staged_stays (Some number) claims = keeps.staged number (free number (claims number refl))

  -- the current node of a name that is owned, with what is staged of it
  abbrev named_in : MountModel → ℕ → Option Named
  named_in m number = option_map (λ sight. record { number = number; sight = sight; staged = fin.get m.staged number }) (sight_at m.table number)

  current_stays : (name : List ℕ) → CurrentClaimed mine mount name → current_at after name ≡ current_at mount name
  current_stays name c = ap (option_and_then (named_in after)) same ∙ by (fin.get mount.table.current name) refl
    where
      same : fin.get after.table.current name ≡ fin.get mount.table.current name
      same = keeps.current name (λ claimed. apart.mine_alone (key.Name name) c.owned claimed) (λ number is owned. free number (c.node number is).2 owned)

      by : (found : Option ℕ) → fin.get mount.table.current name ≡ found → option_and_then (named_in after) found ≡ option_and_then (named_in mount) found
      by None is = refl
      by (Some number) is =
          let n = c.node number is in
          ap (λ staged. option_map (λ sight. record { number = number; sight = sight; staged = staged }) (sight_at after.table number)) (keeps.staged number (free number n.2))
          ∙ ap (option_map (λ sight. record { number = number; sight = sight; staged = fin.get mount.staged number })) (keeps.sights number n.0 n.1 (free number n.2) ∙ sym n.1)

  old_stays : (directory : Option Sight) (looked : Option (List ℕ))
      → ((part : List ℕ) (d : Sight) → looked ≡ Some part → directory ≡ Some d → CurrentClaimed mine mount (child_of d part))
      → option_and_then (old_at after directory) looked ≡ option_and_then (old_at mount directory) looked
  old_stays directory None claims = refl
  old_stays None (Some part) claims = refl
  old_stays (Some d) (Some part) claims = current_stays (child_of d part) (claims part d refl refl)

  pub view_stays : (looks : Looks) → LooksClaimed mine mount looks → view_of after looks ≡ view_of mount looks
  view_stays looks claims = λ i. record {
    node = node_same i;
    directory = sight_stays looks.directory claims.directory i;
    handle = handle_stays looks.handle claims.handle i;
    kept = kept_stays looks.kept claims.kept i;
    staged = staged_stays looks.staged claims.staged i;
    old = old_same i;
    listed = listed_same i;
  }
    where
      node_same : option_and_then (sight_at after.table) looks.node ≡ option_and_then (sight_at mount.table) looks.node
      node_same = sight_stays looks.node claims.node

      old_same : option_and_then (old_at after (option_and_then (sight_at after.table) looks.node)) looks.old
          ≡ option_and_then (old_at mount (option_and_then (sight_at mount.table) looks.node)) looks.old
      old_same = ap (λ seen. option_and_then (old_at after seen) looks.old) node_same ∙ old_stays (option_and_then (sight_at mount.table) looks.node) looks.old claims.old

      listed_same : map (sight_at after.table) looks.listed ≡ map (sight_at mount.table) looks.listed
      listed_same = subst (λ looked. map (sight_at after.table) looked ≡ map (sight_at mount.table) looked) (sym claims.listed) refl

-- a request that looks at one node, which it claims
pub LooksClaimed-node : (mine : List Claim) (mount : MountModel) (number : ℕ) (sight : Sight) → sight_at mount.table number ≡ Some sight → IsClaimed mine (key.Node number)
    → LooksClaimed mine mount (at_node number)
LooksClaimed-node mine mount number sight seen claimed = record {
  node = λ n is. let same : number ≡ n = same_Some is in (sight, ap (sight_at mount.table) (sym same) ∙ seen, subst (λ k. IsClaimed mine (key.Node k)) same claimed);
  directory = λ n is. absurd (no_Some is);
  handle = λ fh is. absurd (no_Some is);
  kept = λ n is. absurd (no_Some is);
  staged = λ n is. absurd (no_Some is);
  old = λ part directory is. absurd (no_Some is);
  listed = refl;
}

-- and at what is staged of it
pub LooksClaimed-file : (mine : List Claim) (mount : MountModel) (number : ℕ) (sight : Sight) → sight_at mount.table number ≡ Some sight → IsClaimed mine (key.Node number)
    → LooksClaimed mine mount (at_file number)
LooksClaimed-file mine mount number sight seen claimed =
    let looks = LooksClaimed-node mine mount number sight seen claimed in
    record {
      node = looks.node;
      directory = looks.directory;
      handle = looks.handle;
      kept = looks.kept;
      staged = λ n is. subst (λ k. IsClaimed mine (key.Node k)) (same_Some is) claimed;
      old = λ part directory is. absurd (no_Some is);
      listed = refl;
    }

-- and at a handle that is open on it
pub LooksClaimed-open_file : (mine : List Claim) (mount : MountModel) (number fh : ℕ) (sight : Sight) → sight_at mount.table number ≡ Some sight
    → (handle : Opened) → fin.get mount.handles fh ≡ Some handle → handle.node ≡ number → IsClaimed mine (key.Node number)
    → LooksClaimed mine mount (at_open_file number fh)
LooksClaimed-open_file mine mount number fh sight seen handle there on_it claimed =
    let looks = LooksClaimed-file mine mount number sight seen claimed in
    record {
      node = looks.node;
      directory = looks.directory;
      handle = λ f is. let same : fh ≡ f = same_Some is in (handle, ap (fin.get mount.handles) (sym same) ∙ there, subst (λ k. IsClaimed mine (key.Node k)) (sym on_it) claimed);
      kept = looks.kept;
      staged = looks.staged;
      old = λ part directory is. absurd (no_Some is);
      listed = refl;
    }
