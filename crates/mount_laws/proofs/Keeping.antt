-- What changes of a table of nodes leave to other calls.
use Rattle.std.proofs.Common.{◌≡◌, ◌<◌, ℕ, Bool, true, false, cond, List, [], ◌∷◌, Option, Some, None, refl, sym, ap, subst, ◌∙◌, inl, inr, nat_eq, arith, option_map}
use Rattle.std.proofs.lemmas.Bool.Decides.{Decides-eqb}
use Rattle.std.proofs.lemmas.Slice.Eq.{bytes_eq-Decides}
use Rattle.std.specs.Prelude.{if◌then◌else◌, option_and_then, ◌-◌}
use Rattle.std.specs.FinMap as fin
use Rattle.std.specs.Option.{option_map_or}
use Rattle.std.specs.Str.{bytes_eq}
use Rattle.bucket_api.specs.Metadata.{Metadata}
use Rattle.claim_spec.specs.Conflicts.{IsClaimed, IsOwned}
use Rattle.claim_spec.specs.declared.claim.Claim.{Claim}
use Rattle.claim_spec.specs.declared.claim.ClaimKey.{ClaimKey}
use Rattle.claim_spec.specs.declared.claim.ClaimKey.TheVariants as key
use Rattle.inode_spec.specs.Inodes.{Names, detached, forgotten, forgotten_at, granted, let_go, made_current, with_inode, without_current}
use Rattle.mount_rules.specs.Mount.{File, Node, NodeTable}
use Rattle.mount_rules.specs.View.{Sight, kept_at, sight_at, sight_of}
use Rattle.mount_laws.proofs.Changes.{on_forgotten, on_forgotten_at, on_let_go}
use Rattle.spare_maps.proofs.FinMaps.{get-insert_number, get-remove_number, get-insert_name, get-remove_name}

-- the current nodes of names that are left
abbrev LeavesNames : List Claim → NodeTable → Names → Type 0
LeavesNames claimed table names = (name : List ℕ) → (IsClaimed claimed (key.Name name) → ⊥)
    → ((number : ℕ) → fin.get table.current name ≡ Some number → IsOwned claimed (key.Node number) → ⊥)
    → fin.get names name ≡ fin.get table.current name

-- what a change of the table leaves to calls whose claims don't conflict with these
pub record TableKeeps (claimed : List Claim) (table after : NodeTable) : Type 0 where
  pub sights : (number : ℕ) (sight : Sight) → sight_at table number ≡ Some sight → (IsOwned claimed (key.Node number) → ⊥)
      → sight_at after number ≡ Some sight
  pub kept : (number : ℕ) (sight : Sight) → sight_at table number ≡ Some sight
      → (IsClaimed claimed (key.Node number) → ⊥) → (IsClaimed claimed (key.Name sight.name) → ⊥)
      → kept_at after number ≡ kept_at table number
  pub current : LeavesNames claimed table after.current

-- a claim that is owned is claimed
pub claimed_by_owner : (claims : List Claim) (k : ClaimKey) → IsOwned claims k → IsClaimed claims k
claimed_by_owner [] k owned = owned
claimed_by_owner (claim ∷ claims) k (inl (is, alone)) = inl is
claimed_by_owner (claim ∷ claims) k (inr owned) = inr (claimed_by_owner claims k owned)

pub same_Some : {X : Type 0} {x y : X} → Some x ≡ Some y → x ≡ y
same_Some e = cc

pub no_Some : {X : Type 0} {x : X} → None ≡ Some x → ⊥
no_Some e = cc

abbrev kept_in : Option Node → Option Metadata
kept_in found = option_and_then (λ (node : Node). option_map (λ (file : File). file.kept.meta) node.file) found

module _ (table : NodeTable) (number : ℕ) where
  -- a node put under a number
  sight_put : (k : ℕ) (v : Node) → sight_at (with_inode table k v) number ≡ cond (nat_eq number k) (Some (sight_of number v)) (sight_at table number)
  sight_put k v = ap (option_map (sight_of number)) (get-insert_number table.nodes k v number) ∙ by (nat_eq number k)
    where
      by : (b : Bool) → option_map (sight_of number) (cond b (Some v) (fin.get table.nodes number)) ≡ cond b (Some (sight_of number v)) (sight_at table number)
      by true = refl
      by false = refl

  kept_put : (k : ℕ) (v : Node) → kept_at (with_inode table k v) number ≡ cond (nat_eq number k) (kept_in (Some v)) (kept_at table number)
  kept_put k v = ap kept_in (get-insert_number table.nodes k v number) ∙ by (nat_eq number k)
    where
      by : (b : Bool) → kept_in (cond b (Some v) (fin.get table.nodes number)) ≡ cond b (kept_in (Some v)) (kept_at table number)
      by true = refl
      by false = refl

  -- a number taken away
  sight_taken : (k : ℕ) → sight_at (record table { nodes = fin.remove table.nodes k }) number ≡ cond (nat_eq number k) None (sight_at table number)
  sight_taken k = ap (option_map (sight_of number)) (get-remove_number table.nodes k number) ∙ by (nat_eq number k)
    where
      by : (b : Bool) → option_map (sight_of number) (cond b None (fin.get table.nodes number)) ≡ cond b None (sight_at table number)
      by true = refl
      by false = refl

  kept_taken : (k : ℕ) → kept_at (record table { nodes = fin.remove table.nodes k }) number ≡ cond (nat_eq number k) None (kept_at table number)
  kept_taken k = ap kept_in (get-remove_number table.nodes k number) ∙ by (nat_eq number k)
    where
      by : (b : Bool) → kept_in (cond b None (fin.get table.nodes number)) ≡ cond b None (kept_at table number)
      by true = refl
      by false = refl

-- a choice by a number that is another one
other_number : {X : Type 0} (number k : ℕ) (yes_ no_ : X) → (number ≡ k → ⊥) → cond (nat_eq number k) yes_ no_ ≡ no_
other_number number k yes_ no_ other = by (nat_eq number k) refl
  where
    by : (b : Bool) → nat_eq number k ≡ b → cond b yes_ no_ ≡ no_
    by true is = absurd (other ((Decides-eqb number k).0 is))
    by false is = refl

other_name : {X : Type 0} (name k : List ℕ) (yes_ no_ : X) → (name ≡ k → ⊥) → cond (bytes_eq name k) yes_ no_ ≡ no_
other_name name k yes_ no_ other = by (bytes_eq name k) refl
  where
    by : (b : Bool) → bytes_eq name k ≡ b → cond b yes_ no_ ≡ no_
    by true is = absurd (other ((bytes_eq-Decides name k).0 is))
    by false is = refl

module _ (claimed : List Claim) (table : NodeTable) where
  -- nothing is changed
  pub TableKeeps-same : TableKeeps claimed table table
  TableKeeps-same = record { sights = λ number sight is mine. is; kept = λ number sight is mine named. refl; current = λ name mine owned. refl }

  -- a node that is there is written anew, and is seen as before; its name is claimed
  pub TableKeeps-written : (k : ℕ) (old v : Node) → fin.get table.nodes k ≡ Some old → sight_of k v ≡ sight_of k old → IsClaimed claimed (key.Name old.name)
      → TableKeeps claimed table (with_inode table k v)
  TableKeeps-written k old v there same named = record {
    sights = λ number sight is mine. sight_put table number k v ∙ seen number sight is (nat_eq number k) refl;
    kept = λ number sight is mine other. kept_put table number k v ∙ other_number number k _ _ (λ n. other (subst (λ s. IsClaimed claimed (key.Name s)) (name_of number sight is n) named));
    current = λ name mine owned. refl;
  }
    where
      old_seen : sight_at table k ≡ Some (sight_of k old)
      old_seen = ap (option_map (sight_of k)) there

      seen : (number : ℕ) (sight : Sight) → sight_at table number ≡ Some sight → (b : Bool) → nat_eq number k ≡ b → cond b (Some (sight_of number v)) (sight_at table number) ≡ Some sight
      seen number sight is true e =
          let n : number ≡ k = (Decides-eqb number k).0 e in
          ap (λ m. Some (sight_of m v)) n ∙ ap Some same ∙ sym old_seen ∙ ap (sight_at table) (sym n) ∙ is
      seen number sight is false e = is

      name_of : (number : ℕ) (sight : Sight) → sight_at table number ≡ Some sight → number ≡ k → old.name ≡ sight.name
      name_of number sight is n = ap (λ (s : Sight). s.name) (same_Some (sym old_seen ∙ ap (sight_at table) (sym n) ∙ is))

  -- a new node becomes the current one of its name, which is claimed
  pub TableKeeps-granted : (new : Node) → ((number : ℕ) (node : Node) → fin.get table.nodes number ≡ Some node → number < table.next) → IsClaimed claimed (key.Name new.name)
      → TableKeeps claimed table (granted table new)
  TableKeeps-granted new below named = record {
    sights = λ number sight is mine. sight_put table number table.next new ∙ other_number number table.next _ _ (fresh number sight is) ∙ is;
    kept = λ number sight is mine other. kept_put table number table.next new ∙ other_number number table.next _ _ (fresh number sight is);
    current = λ name mine owned. get-insert_name table.current new.name table.next name ∙ other_name name new.name _ _ (λ n. mine (subst (λ s. IsClaimed claimed (key.Name s)) (sym n) named));
  }
    where
      under : (number : ℕ) (sight : Sight) (found : Option Node) → fin.get table.nodes number ≡ found → option_map (sight_of number) found ≡ Some sight → number ≡ table.next → ⊥
      under number sight None is seen n = no_Some seen
      under number sight (Some node) is seen n = let low : number < table.next = below number node is in absurd (omega arith)

      fresh : (number : ℕ) (sight : Sight) → sight_at table number ≡ Some sight → number ≡ table.next → ⊥
      fresh number sight is = under number sight (fin.get table.nodes number) refl is

  -- a name that is claimed has no current node any more
  pub TableKeeps-detached : (name : List ℕ) → IsClaimed claimed (key.Name name) → TableKeeps claimed table (detached table name)
  TableKeeps-detached name named = record {
    sights = λ number sight is mine. is;
    kept = λ number sight is mine other. refl;
    current = λ q mine owned. get-remove_name table.current name q ∙ other_name q name _ _ (λ same. mine (subst (λ s. IsClaimed claimed (key.Name s)) (sym same) named));
  }

  -- a node that is owned is written anew, or goes
  module _ (k : ℕ) (owned : IsOwned claimed (key.Node k)) where
    not_mine : (number : ℕ) → (IsOwned claimed (key.Node number) → ⊥) → number ≡ k → ⊥
    not_mine number mine n = mine (subst (λ m. IsOwned claimed (key.Node m)) (sym n) owned)

    unclaimed : (number : ℕ) → (IsClaimed claimed (key.Node number) → ⊥) → number ≡ k → ⊥
    unclaimed number mine n = mine (subst (λ m. IsClaimed claimed (key.Node m)) (sym n) (claimed_by_owner claimed (key.Node k) owned))

    TableKeeps-put : (v : Node) (names : Names) → LeavesNames claimed table names → TableKeeps claimed table (record table { nodes = fin.insert table.nodes k v; current = names })
    TableKeeps-put v names left = record {
      sights = λ number sight is mine. sight_put table number k v ∙ other_number number k _ _ (not_mine number mine) ∙ is;
      kept = λ number sight is mine other. kept_put table number k v ∙ other_number number k _ _ (unclaimed number mine);
      current = left;
    }

    TableKeeps-taken : (names : Names) → LeavesNames claimed table names → TableKeeps claimed table (record table { nodes = fin.remove table.nodes k; current = names })
    TableKeeps-taken names left = record {
      sights = λ number sight is mine. sight_taken table number k ∙ other_number number k _ _ (not_mine number mine) ∙ is;
      kept = λ number sight is mine other. kept_taken table number k ∙ other_number number k _ _ (unclaimed number mine);
      current = left;
    }

    -- it is written anew
    pub TableKeeps-owned : (v : Node) → TableKeeps claimed table (with_inode table k v)
    TableKeeps-owned v = TableKeeps-put v table.current (λ name unnamed owned. refl)

    -- and becomes the current one of a name that is claimed
    pub TableKeeps-current : (v : Node) (name : List ℕ) → IsClaimed claimed (key.Name name) → TableKeeps claimed table (made_current (with_inode table k v) k name)
    TableKeeps-current v name named = TableKeeps-put v (fin.insert table.current name k)
        (λ q mine owned. get-insert_name table.current name k q ∙ other_name q name _ _ (λ same. mine (subst (λ n. IsClaimed claimed (key.Name n)) (sym same) named)))

    -- its look-ups are given back
    pub TableKeeps-forgotten : (count : ℕ) (held : Bool) (node : Node) → TableKeeps claimed table (forgotten_at table k count held node)
    TableKeeps-forgotten count held node = on_forgotten_at (TableKeeps claimed table) table k count held node
        (λ every. TableKeeps-put (record node { lookups = 0 }) _ names_left)
        (λ every. TableKeeps-taken _ names_left)
        (λ fewer. TableKeeps-put (record node { lookups = node.lookups - count }) table.current (λ name unnamed owned. refl))
      where
        names_left : LeavesNames claimed table (without_current table.current node.name k)
        names_left name unnamed mine = at (fin.get table.current node.name) refl
          where
            was : (b : Bool) (number : ℕ) → fin.get table.current node.name ≡ Some number → nat_eq k number ≡ b
                → fin.get (if b then fin.remove table.current node.name else table.current) name ≡ fin.get table.current name
            was true number is e =
                let one : IsOwned claimed (key.Node number) = subst (λ m. IsOwned claimed (key.Node m)) ((Decides-eqb k number).0 e) owned in
                get-remove_name table.current node.name name ∙ other_name name node.name _ _ (λ n. mine number (ap (fin.get table.current) n ∙ is) one)
            was false number is e = refl

            at : (found : Option ℕ) → fin.get table.current node.name ≡ found
                → fin.get (if option_map_or (nat_eq k) found false then fin.remove table.current node.name else table.current) name ≡ fin.get table.current name
            at None is = refl
            at (Some number) is = was (nat_eq k number) number is refl

    pub TableKeeps-given_back : (count : ℕ) (held : Bool) → TableKeeps claimed table (forgotten table k count held)
    TableKeeps-given_back count held =
        on_forgotten (TableKeeps claimed table) table k count held TableKeeps-same (λ node other there some. TableKeeps-forgotten count held node)

    -- no handle holds it any more
    pub TableKeeps-let_go : TableKeeps claimed table (let_go table k)
    TableKeeps-let_go =
        on_let_go (TableKeeps claimed table) table k TableKeeps-same (λ node there idle. TableKeeps-taken table.current (λ name unnamed owned. refl))
