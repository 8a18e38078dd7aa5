-- The rules of BATCH_FORGET are sound.
use Rattle.std.proofs.Common.{◌≡◌, ◌≢◌, ◌+◌, ◌-◌, ℕ, Bool, true, false, List, [], ◌∷◌, Option, Some, refl, sym, ap, subst, ◌∙◌, nat_eq, nat_lt, arith, inl, inr, map, option_map}
use Rattle.std.proofs.lemmas.Bool.{false≢true}
use Rattle.std.proofs.lemmas.Bool.Decides.{nat_tests}
use Rattle.std.specs.Prelude.{if◌then◌else◌, ◌||◌}
use Rattle.std.specs.FinMap as fin
use Rattle.std.specs.List.{AllByRecursion, list_any}
use Rattle.claim_spec.specs.Conflicts.{IsOwned}
use Rattle.claim_spec.specs.declared.claim.Claim.{Claim}
use Rattle.claim_spec.specs.declared.claim.ClaimKey.TheVariants as key
use Rattle.fuse_requests.specs.declared.request.Forgotten.{Forgotten}
use Rattle.inode_spec.specs.Inodes.{forgotten, is_live, lookups_of}
use Rattle.mount_rules.specs.Claiming.{owns_node}
use Rattle.mount_rules.specs.Laws.{GivesLater, Keeps}
use Rattle.mount_rules.specs.Mount.{IsMount, MountModel, Node, NodeTable}
use Rattle.mount_rules.specs.Plans.{done}
use Rattle.mount_rules.specs.Requests.BatchForget as batch_forget
use Rattle.mount_rules.specs.Requests.Forget as forget
use Rattle.mount_rules.specs.View.{Sight, sight_at, sight_of}
use Rattle.mount_laws.proofs.Asking.{asks_none, at_most_none}
use Rattle.mount_laws.proofs.Changes.{on_forgotten}
use Rattle.mount_laws.proofs.Counting.{counts_forgotten}
use Rattle.mount_laws.proofs.Keeping.{TableKeeps, TableKeeps-given_back, TableKeeps-same, no_Some}
use Rattle.mount_laws.proofs.Leaving.{Keeps-left, Keeps-same, Keeps-then}
use Rattle.mount_laws.proofs.Memory.{no_error, silent_answered, silent_is_none}
use Rattle.mount_laws.proofs.Mounts.{GivesLater-same, GivesLater-then}
use Rattle.mount_laws.proofs.Requests.Forget.{forget_later}
use Rattle.mount_laws.proofs.Sound.{IsSound}
use Rattle.mount_laws.proofs.Sources.{NodesFrom-stay, NodesStay, NodesStay-forgotten, NodesStay-same, NodesStay-then}

-- ---- pair by pair
later : (pairs : List Forgotten) (mount : MountModel) → IsMount mount → GivesLater mount (batch_forget.after pairs mount)
later [] mount is = GivesLater-same mount is
later (pair ∷ more) mount is =
    let one = forget_later mount is pair.node pair.count in
    GivesLater-then one (later more (forget.after pair.node pair.count mount) one.is)

counts : (pairs : List Forgotten) (mount : MountModel) (number : ℕ) → number ≢ 1
    → lookups_of (batch_forget.after pairs mount).table number ≡ (lookups_of mount.table number + 0) - batch_forget.given_back pairs number
counts [] mount number other = omega arith
counts (pair ∷ more) mount number other =
    let one = counts_forgotten mount.table number pair.node pair.count (forget.is_held mount.handles pair.node) other in
    let rest = counts more (forget.after pair.node pair.count mount) number other in
    omega (arith, one, rest)

pub nodes_stay : (pairs : List Forgotten) (mount : MountModel) → NodesStay mount.table (batch_forget.after pairs mount).table
nodes_stay [] mount = NodesStay-same mount.table
nodes_stay (pair ∷ more) mount =
    NodesStay-then mount.table (forget.after pair.node pair.count mount).table (batch_forget.after more (forget.after pair.node pair.count mount)).table
    (NodesStay-forgotten mount.table pair.node pair.count (forget.is_held mount.handles pair.node))
    (nodes_stay more (forget.after pair.node pair.count mount))

agrees : (pairs : List Forgotten) (mount : MountModel) → mount.negotiated ≡ true → (batch_forget.after pairs mount).negotiated ≡ true
agrees [] mount agreed = agreed
agrees (pair ∷ more) mount agreed = agrees more (forget.after pair.node pair.count mount) agreed

-- ---- what others are left
-- the nodes of the pairs are owned
abbrev OwnsAll : List Claim → List Forgotten → Type 0
OwnsAll claimed pairs = AllByRecursion (λ (pair : Forgotten). IsOwned claimed (key.Node pair.node)) pairs

leaves_owned : (claimed : List Claim) (pairs : List Forgotten) (mount : MountModel) → IsMount mount → OwnsAll claimed pairs → Keeps claimed mount (batch_forget.after pairs mount)
leaves_owned claimed [] mount is owned = Keeps-same claimed mount
leaves_owned claimed (pair ∷ more) mount is owned =
    Keeps-then claimed mount (forget.after pair.node pair.count mount) (batch_forget.after (pair ∷ more) mount)
    (Keeps-left claimed mount is pair.node _ (TableKeeps-given_back claimed mount.table pair.node owned.0 pair.count (forget.is_held mount.handles pair.node)))
    (leaves_owned claimed more (forget.after pair.node pair.count mount) (forget_later mount is pair.node pair.count).is owned.1)

owned_more : (claim : Claim) (claimed : List Claim) (pairs : List Forgotten) → OwnsAll claimed pairs → OwnsAll (claim ∷ claimed) pairs
owned_more claim claimed [] owned = tt
owned_more claim claimed (pair ∷ more) owned = (inr owned.0, owned_more claim claimed more owned.1)

abbrev owning : List Forgotten → List Claim
owning pairs = map (λ (pair : Forgotten). owns_node pair.node) pairs

owns_all : (pairs : List Forgotten) → OwnsAll (owning pairs) pairs
owns_all [] = tt
owns_all (pair ∷ more) = (inl (refl, refl), owned_more (owns_node pair.node) (owning more) more (owns_all more))

-- where none of the nodes is live, nothing is given back
idle : (mount : MountModel) (k count : ℕ) → batch_forget.is_seen_live (sight_at mount.table k) ≡ false
    → forgotten mount.table k count (forget.is_held mount.handles k) ≡ mount.table
idle mount k count none = on_forgotten (λ (table : NodeTable). table ≡ mount.table) mount.table k count (forget.is_held mount.handles k) refl
    (λ node other there some. absurd (has_lookups (nat_eq k 1) node.lookups some (not_live node there)))
  where
    has_lookups : (is_root : Bool) (n : ℕ) → nat_eq n 0 ≡ false → (is_root || nat_lt 0 n) ≡ false → ⊥
    has_lookups true n some idle_ = false≢true (sym idle_)
    has_lookups false n some idle_ = false≢true (sym idle_ ∙ (grind (arith, nat_tests, some)))

    not_live : (node : Node) → fin.get mount.table.nodes k ≡ Some node → is_live k node ≡ false
    not_live node there = ap (λ found. batch_forget.is_seen_live (option_map (sight_of k) found)) (sym there) ∙ none

both_false : (a b : Bool) → (a || b) ≡ false → (a ≡ false) × (b ≡ false)
both_false true b e = absurd (false≢true (sym e))
both_false false b e = (refl, e)

abbrev seen_at : NodeTable → List Forgotten → List (Option Sight)
seen_at table pairs = map (sight_at table) (map (λ (pair : Forgotten). pair.node) pairs)

leaves_idle : (pairs : List Forgotten) (mount : MountModel) → IsMount mount → list_any batch_forget.is_seen_live (seen_at mount.table pairs) ≡ false
    → Keeps [] mount (batch_forget.after pairs mount)
leaves_idle [] mount is none = Keeps-same [] mount
leaves_idle (pair ∷ more) mount is none =
    let both = both_false (batch_forget.is_seen_live (sight_at mount.table pair.node)) _ none in
    let same = idle mount pair.node pair.count both.0 in
    Keeps-then [] mount (forget.after pair.node pair.count mount) (batch_forget.after (pair ∷ more) mount)
    (Keeps-left [] mount is pair.node _ (subst (TableKeeps [] mount.table) (sym same) (TableKeeps-same [] mount.table)))
    (leaves_idle more (forget.after pair.node pair.count mount) (forget_later mount is pair.node pair.count).is
    (ap (λ table. list_any batch_forget.is_seen_live (seen_at table more)) same ∙ both.1))

leaves : (pairs : List Forgotten) (mount : MountModel) → IsMount mount
    → Keeps (if list_any batch_forget.is_seen_live (seen_at mount.table pairs) then owning pairs else []) mount (batch_forget.after pairs mount)
leaves pairs mount is = by (list_any batch_forget.is_seen_live (seen_at mount.table pairs)) refl
  where
    by : (any : Bool) → list_any batch_forget.is_seen_live (seen_at mount.table pairs) ≡ any → Keeps (if any then owning pairs else []) mount (batch_forget.after pairs mount)
    by true some = leaves_owned (owning pairs) pairs mount is (owns_all pairs)
    by false none = leaves_idle pairs mount is none

pub batch_forget_sound : (pairs : List Forgotten) → IsSound (batch_forget.rules pairs) (batch_forget.given_back pairs) (Some 0)
batch_forget_sound pairs = record {
  later = λ at mount seen goes. later pairs mount goes.is;
  leaves = λ at mount seen goes. leaves pairs mount goes.is;
  sees = λ at mount goes asks. absurd (asks refl);
  covers = λ taken told op allows. absurd allows;
  harmless = λ taken seen planned fits asks. absurd (asks refl);
  bounded = λ taken seen n is planned. at_most_none seen n is (asks_none (λ answers. done) refl seen planned);
  reads = λ taken wanted wants_it. absurd (no_Some wants_it);
  of_files = λ mount wanted is wants_it. absurd (no_Some wants_it);
  agrees = λ taken mount seen agreed. agrees pairs mount agreed;
  refuses = λ view. no_error;
  keeps_staged = λ at mount seen errno free error. absurd (silent_is_none errno error);
  answers = λ taken mount seen. silent_answered;
  counts = λ at mount seen number other goes. counts pairs mount number other;
  nodes = λ Shown at mount seen goes tells. NodesFrom-stay Shown mount.table (batch_forget.after pairs mount).table (nodes_stay pairs mount);
}
