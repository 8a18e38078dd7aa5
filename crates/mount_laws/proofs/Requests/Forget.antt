-- The rules of FORGET are sound.
use Rattle.std.proofs.Common.{◌≡◌, ℕ, Bool, true, false, List, [], ◌∷◌, Option, Some, refl, sym, subst, nat_eq, nat_lt, arith, inl, option_map}
use Rattle.std.proofs.lemmas.Bool.Decides.{nat_tests}
use Rattle.std.specs.Prelude.{if◌then◌else◌, ◌||◌}
use Rattle.std.specs.FinMap as fin
use Rattle.std.specs.Option.{option_map_or}
use Rattle.claim_spec.specs.Conflicts.{IsOwned}
use Rattle.claim_spec.specs.declared.claim.Claim.{Claim}
use Rattle.claim_spec.specs.declared.claim.ClaimKey.TheVariants as key
use Rattle.inode_spec.specs.Inodes.{forgotten, forgotten_at, is_live}
use Rattle.mount_rules.specs.Claiming.{owns_node}
use Rattle.mount_rules.specs.Laws.{GivesLater}
use Rattle.mount_rules.specs.Mount.{IsMount, MountModel, Node}
use Rattle.mount_rules.specs.Plans.{done}
use Rattle.mount_rules.specs.Requests.Forget as forget
use Rattle.mount_rules.specs.View.{Sight, sight_of}
use Rattle.mount_laws.proofs.Changes.{on_forgotten}
use Rattle.mount_laws.proofs.Counting.{counts_forgotten}
use Rattle.mount_laws.proofs.Asking.{asks_none, at_most_none}
use Rattle.mount_laws.proofs.Keeping.{TableKeeps, TableKeeps-forgotten, TableKeeps-same, no_Some}
use Rattle.mount_laws.proofs.Leaving.{Keeps-left}
use Rattle.mount_laws.proofs.Memory.{no_error, silent_answered, silent_is_none}
use Rattle.mount_laws.proofs.Mounts.{GivesLater-left, IsNodeTable-of}
use Rattle.mount_laws.proofs.Sound.{IsSound}
use Rattle.mount_laws.proofs.Sources.{NodesFrom-stay, NodesStay-forgotten}
use Rattle.mount_laws.proofs.Staying.{FilesLeft-forgotten}
use Rattle.mount_laws.proofs.Tables.{TableLater-given_back}

module _ (mount : MountModel) (k count : ℕ) (held : Bool) where
  -- what is claimed where a node was found
  abbrev claims_by : Option Node → List Claim
  claims_by found = option_map_or (λ (sight : Sight). if sight.live then owns_node k ∷ [] else []) (option_map (sight_of k) found) []

  leaves : TableKeeps (claims_by (fin.get mount.table.nodes k)) mount.table (forgotten mount.table k count held)
  leaves = on_forgotten (TableKeeps (claims_by (fin.get mount.table.nodes k)) mount.table) mount.table k count held (TableKeeps-same _ mount.table)
      (λ node other there some. subst (λ found. TableKeeps (claims_by found) mount.table (forgotten_at mount.table k count held node)) (sym there)
      (TableKeeps-forgotten _ mount.table k (owned node (has_lookups node (nat_eq k 1) some)) count held node))
    where
      owned : (node : Node) → is_live k node ≡ true → IsOwned (if is_live k node then owns_node k ∷ [] else []) (key.Node k)
      owned node live = subst (λ (b : Bool). IsOwned (if b then owns_node k ∷ [] else []) (key.Node k)) (sym live) (inl (refl, refl))

      has_lookups : (node : Node) (root : Bool) → nat_eq node.lookups 0 ≡ false → (root || nat_lt 0 node.lookups) ≡ true
      has_lookups node true some = refl
      has_lookups node false some = grind (arith, nat_tests, some)

pub forget_later : (mount : MountModel) → IsMount mount → (node count : ℕ) → GivesLater mount (forget.after node count mount)
forget_later mount is node count =
    let held = forget.is_held mount.handles node in
    GivesLater-left mount is node _ (TableLater-given_back mount.table (IsNodeTable-of mount is) node count held) (FilesLeft-forgotten mount.table node count held)

pub forget_sound : (node count : ℕ) → IsSound (forget.rules node count) (λ number. if nat_eq number node then count else 0) (Some 0)
forget_sound node count = record {
  later = λ at mount seen goes. forget_later mount goes.is node count;
  leaves = λ at mount seen goes. Keeps-left _ mount goes.is node _ (leaves mount node count (forget.is_held mount.handles node));
  sees = λ at mount goes asks. absurd (asks refl);
  covers = λ taken answers op allows. absurd allows;
  harmless = λ taken seen planned fits asks. absurd (asks refl);
  bounded = λ taken seen n is planned. at_most_none seen n is (asks_none (λ answers. done) refl seen planned);
  reads = λ taken wanted wants_it. absurd (no_Some wants_it);
  of_files = λ mount wanted is wants_it. absurd (no_Some wants_it);
  agrees = λ taken mount seen agreed. agreed;
  refuses = λ view. no_error;
  keeps_staged = λ at mount seen errno free error. absurd (silent_is_none errno error);
  answers = λ taken mount seen. silent_answered;
  counts = λ at mount seen number other goes. counts_forgotten mount.table number node count (forget.is_held mount.handles node) other;
  nodes = λ Shown at mount seen goes tells. NodesFrom-stay Shown mount.table (forget.after node count mount).table (NodesStay-forgotten mount.table node count (forget.is_held mount.handles node));
}
