-- What keeps the table of nodes of a mount one: each change of it.
use Rattle.std.proofs.Common.{◌≡◌, ◌≢◌, ◌<◌, ◌≤◌, ◌+◌, ◌-◌, ℕ, Bool, true, false, List, Option, Some, None, refl, sym, ap, subst, ◌∙◌, ◌⊎◌, inl, inr, nat_eq, nat_cmp, nat_le, nat_lt, arith}
use Rattle.std.proofs.lemmas.Bool.{false≢true}
use Rattle.std.proofs.lemmas.Bool.Decides.{Decides-eqb, nat_tests}
use Rattle.std.specs.Prelude.{if◌then◌else◌, ◌||◌}
use Rattle.std.specs.FinMap as fin
use Rattle.std.specs.Option.{option_map_or}
use Rattle.inode_spec.specs.Inodes.{IsLiveUnder, detached, forgotten, forgotten_at, granted, is_live, let_go, made_current, with_inode, without_current}
use Rattle.mount_rules.specs.Mount.{File, IsKeptOf, IsNameOf, Node, NodeTable}
use Rattle.object_names.specs.declared.shown.NodeKind.{NodeKind}
use Rattle.object_names.specs.declared.shown.NodeKind.TheVariants.{Dir, File as RegularFile, Symlink}
use Rattle.mount_laws.proofs.Changes.{on_forgotten, on_forgotten_at, on_let_go, unnamed, without_node}
use Rattle.mount_laws.proofs.Keeping.{no_Some, same_Some}
use Rattle.mount_laws.proofs.Sources.{IsSameNode, shown_in}
use Rattle.mount_laws.proofs.Staying.{one_or_two}
use Rattle.spare_maps.proofs.FinMaps.{number_put, number_put_same, number_put_other, number_taken, number_taken_other, name_put, name_taken}

-- what holds of the table of a mount
pub record IsNodeTable (table : NodeTable) : Type 0 where
  pub first : 2 ≤ table.next
  pub nodes : (number : ℕ) (node : Node) → fin.get table.nodes number ≡ Some node → number < table.next
  pub names : (number : ℕ) (node : Node) → fin.get table.nodes number ≡ Some node → IsNameOf node.kind node.name
  pub files : (number : ℕ) (node : Node) → fin.get table.nodes number ≡ Some node → IsKeptOf node.kind node.file
  pub current : (name : List ℕ) (number : ℕ) → fin.get table.current name ≡ Some number → IsLiveUnder table name number

-- the table is one, and gives no number again that an earlier one gave
pub record TableLater (earlier table : NodeTable) : Type 0 where
  pub is : IsNodeTable table
  pub rises : earlier.next ≤ table.next

-- no node has the next number
pub next_unused : (table : NodeTable) → IsNodeTable table → fin.get table.nodes table.next ≡ None
next_unused table is = by (fin.get table.nodes table.next) refl
  where
    by : (found : Option Node) → fin.get table.nodes table.next ≡ found → found ≡ None
    by None there = refl
    by (Some node) there = let low = is.nodes table.next node there in absurd (omega (arith, low))

-- what is kept of a node stays of its kind where it shows the same
kept_same : (kind : NodeKind) (old v : Option File) → shown_in v ≡ shown_in old → IsKeptOf kind old → IsKeptOf kind v
kept_same Dir None None same has = refl
kept_same Dir None (Some v) same has = absurd (no_Some (sym same))
kept_same Dir (Some old) v same has = absurd (no_Some (sym has))
kept_same RegularFile (Some old) (Some v) same has = refl
kept_same RegularFile (Some old) None same has = absurd (no_Some same)
kept_same RegularFile None v same has = absurd (false≢true has)
kept_same Symlink (Some old) (Some v) same has = refl
kept_same Symlink (Some old) None same has = absurd (no_Some same)
kept_same Symlink None v same has = absurd (false≢true has)

pub IsKeptOf-same : (old v : Node) → IsSameNode old v → IsKeptOf old.kind old.file → IsKeptOf v.kind v.file
IsKeptOf-same old v same has = subst (λ kind. IsKeptOf kind v.file) (sym same.kind) (kept_same old.kind old.file v.file same.shown has)

module _ (table : NodeTable) (is : IsNodeTable table) where
  pub TableLater-same : TableLater table table
  TableLater-same = record { is = is; rises = omega arith }

  -- a node that is there is written anew, with its name, kind and life
  pub TableLater-written : (number : ℕ) (old new : Node) → fin.get table.nodes number ≡ Some old → new.kind ≡ old.kind → new.name ≡ old.name → IsKeptOf new.kind new.file
      → (is_live number old ≡ true → is_live number new ≡ true) → TableLater table (with_inode table number new)
  TableLater-written number old new there kind name kept live = record {
    is = record {
      first = is.first;
      nodes = λ n node found. by_found n node found (λ x. n < table.next) (λ same one. is.nodes n old (ap (fin.get table.nodes) same ∙ there)) (is.nodes n node);
      names = λ n node found. by_found n node found (λ x. IsNameOf x.kind x.name)
          (λ same one. subst (λ k. IsNameOf k new.name) (sym kind) (subst (λ t. IsNameOf old.kind t) (sym name) (is.names number old there))) (is.names n node);
      files = λ n node found. by_found n node found (λ x. IsKeptOf x.kind x.file) (λ same one. kept) (is.files n node);
      current = λ q n found. stays q n (is.current q n found);
    };
    rises = omega arith;
  }
    where
      by_found : (n : ℕ) (node : Node) → fin.get (fin.insert table.nodes number new) n ≡ Some node → (P : Node → Type 0)
          → (n ≡ number → new ≡ node → P new) → (fin.get table.nodes n ≡ Some node → P node) → P node
      by_found n node found P put was = on (number_put table.nodes number new node n found)
        where
          on : ((n ≡ number) × (new ≡ node)) ⊎ (fin.get table.nodes n ≡ Some node) → P node
          on (inl (same, one)) = subst P one (put same one)
          on (inr old_one) = was old_one

      stays : (q : List ℕ) (n : ℕ) → IsLiveUnder table q n → IsLiveUnder (with_inode table number new) q n
      stays q n c = on (one_or_two n number)
        where
          on : (n ≡ number) ⊎ (n ≢ number) → IsLiveUnder (with_inode table number new) q n
          on (inl same) =
              let one : c.inode ≡ old = same_Some (sym c.there ∙ ap (fin.get table.nodes) same ∙ there) in
              record {
                inode = new;
                there = ap (fin.get (fin.insert table.nodes number new)) same ∙ number_put_same table.nodes number new;
                named = name ∙ ap (λ (x : Node). x.name) (sym one) ∙ c.named;
                live = subst (λ m. is_live m new ≡ true) (sym same) (live (subst (λ m. is_live m old ≡ true) same (subst (λ x. is_live n x ≡ true) one c.live)));
              }
          on (inr other) = record { inode = c.inode; there = number_put_other table.nodes number new n other ∙ c.there; named = c.named; live = c.live }

  -- a new live node becomes the current one of its name
  pub TableLater-granted : (new : Node) → IsNameOf new.kind new.name → IsKeptOf new.kind new.file → 1 ≤ new.lookups → TableLater table (granted table new)
  TableLater-granted new named kept given = record {
    is = record {
      first = omega (arith, is.first);
      nodes = λ n node found. nodes n node (number_put table.nodes table.next new node n found);
      names = λ n node found. names n node (number_put table.nodes table.next new node n found);
      files = λ n node found. files n node (number_put table.nodes table.next new node n found);
      current = λ q n found. current q n (name_put table.current new.name table.next n q found);
    };
    rises = omega arith;
  }
    where
      nodes : (n : ℕ) (node : Node) → ((n ≡ table.next) × (new ≡ node)) ⊎ (fin.get table.nodes n ≡ Some node) → n < table.next + 1
      nodes n node (inl (same, one)) = omega arith
      nodes n node (inr was) = let low = is.nodes n node was in omega (arith, low)

      names : (n : ℕ) (node : Node) → ((n ≡ table.next) × (new ≡ node)) ⊎ (fin.get table.nodes n ≡ Some node) → IsNameOf node.kind node.name
      names n node (inl (same, one)) = subst (λ (x : Node). IsNameOf x.kind x.name) one named
      names n node (inr was) = is.names n node was

      files : (n : ℕ) (node : Node) → ((n ≡ table.next) × (new ≡ node)) ⊎ (fin.get table.nodes n ≡ Some node) → IsKeptOf node.kind node.file
      files n node (inl (same, one)) = subst (λ (x : Node). IsKeptOf x.kind x.file) one kept
      files n node (inr was) = is.files n node was

      new_live : is_live table.next new ≡ true
      new_live = by (nat_eq table.next 1)
        where
          by : (b : Bool) → (b || nat_lt 0 new.lookups) ≡ true
          by true = refl
          by false = grind (arith, nat_tests, given)

      current : (q : List ℕ) (n : ℕ) → ((q ≡ new.name) × (table.next ≡ n)) ⊎ (fin.get table.current q ≡ Some n) → IsLiveUnder (granted table new) q n
      current q n (inl (same, next)) = record {
        inode = new;
        there = ap (fin.get (fin.insert table.nodes table.next new)) (sym next) ∙ number_put_same table.nodes table.next new;
        named = sym same;
        live = subst (λ m. is_live m new ≡ true) next new_live;
      }
      current q n (inr was) =
          let c = is.current q n was in
          let low = is.nodes n c.inode c.there in
          record { inode = c.inode; there = number_put_other table.nodes table.next new n (λ same. absurd (omega (arith, low, same))) ∙ c.there; named = c.named; live = c.live }

  -- a name has no current node any more
  pub TableLater-detached : (name : List ℕ) → TableLater table (detached table name)
  TableLater-detached name = record {
    is = record { first = is.first; nodes = is.nodes; names = is.names; files = is.files; current = current };
    rises = omega arith;
  }
    where
      current : (q : List ℕ) (n : ℕ) → fin.get (fin.remove table.current name) q ≡ Some n → IsLiveUnder (detached table name) q n
      current q n found =
          let c = is.current q n (name_taken table.current name n q found).1 in
          record { inode = c.inode; there = c.there; named = c.named; live = c.live }

  -- look-ups of a node other than the root are given back
  pub TableLater-forgotten : (number count : ℕ) (held : Bool) (node : Node) → number ≢ 1 → fin.get table.nodes number ≡ Some node
      → TableLater table (forgotten_at table number count held node)
  TableLater-forgotten number count held node other there = on_forgotten_at (TableLater table) table number count held node
      (λ every. stays) (λ every. goes)
      (λ fewer. TableLater-written number node (record node { lookups = node.lookups - count }) there refl refl (is.files number node there) (λ was. still fewer (nat_eq number 1)))
    where
      -- the names that are left have other nodes, as they had
      names_left : (q : List ℕ) (n : ℕ) → fin.get (without_current table.current node.name number) q ≡ Some n → (n ≢ number) × (fin.get table.current q ≡ Some n)
      names_left q n = at (fin.get table.current node.name) refl
        where
          named : fin.get table.current q ≡ Some number → node.name ≡ q
          named c = let was = is.current q number c in ap (λ (x : Node). x.name) (same_Some (sym there ∙ was.there)) ∙ was.named

          on : (b : Bool) (k : ℕ) → fin.get table.current node.name ≡ Some k → nat_eq number k ≡ b
              → fin.get (if b then fin.remove table.current node.name else table.current) q ≡ Some n → (n ≢ number) × (fin.get table.current q ≡ Some n)
          on true k was e found =
              let kept = name_taken table.current node.name n q found in (λ same. kept.0 (sym (named (kept.1 ∙ ap Some same))), kept.1)
          on false k was e found =
              (λ same. false≢true (sym e ∙ (Decides-eqb number k).1 (same_Some (sym (found ∙ ap Some same) ∙ ap (fin.get table.current) (sym (named (found ∙ ap Some same))) ∙ was))), found)

          at : (o : Option ℕ) → fin.get table.current node.name ≡ o
              → fin.get (if option_map_or (nat_eq number) o false then fin.remove table.current node.name else table.current) q ≡ Some n → (n ≢ number) × (fin.get table.current q ≡ Some n)
          at None was found = (λ same. no_Some (sym was ∙ ap (fin.get table.current) (named (found ∙ ap Some same)) ∙ found), found)
          at (Some k) was found = on (nat_eq number k) k was refl found

      current_other : (nodes : fin.FinMap nat_cmp Node) → ((n : ℕ) → n ≢ number → fin.get nodes n ≡ fin.get table.nodes n)
          → (q : List ℕ) (n : ℕ) → fin.get (without_current table.current node.name number) q ≡ Some n
          → IsLiveUnder (record table { nodes = nodes; current = without_current table.current node.name number }) q n
      current_other nodes same q n found =
          let left = names_left q n found in
          let c = is.current q n left.1 in
          record { inode = c.inode; there = same n left.0 ∙ c.there; named = c.named; live = c.live }

      put : (n : ℕ) (x : Node) → ((n ≡ number) × (record node { lookups = 0 } ≡ x)) ⊎ (fin.get table.nodes n ≡ Some x)
          → (n < table.next) × IsNameOf x.kind x.name × IsKeptOf x.kind x.file
      put n x (inl (same, one)) = (
        is.nodes n node (ap (fin.get table.nodes) same ∙ there),
        subst (λ (y : Node). IsNameOf y.kind y.name) one (is.names number node there),
        subst (λ (y : Node). IsKeptOf y.kind y.file) one (is.files number node there),
      )
      put n x (inr was) = (is.nodes n x was, is.names n x was, is.files n x was)

      stays : TableLater table (unnamed table number node (fin.insert table.nodes number (record node { lookups = 0 })))
      stays = record {
        is = record {
          first = is.first;
          nodes = λ n x found. (put n x (number_put table.nodes number (record node { lookups = 0 }) x n found)).0;
          names = λ n x found. (put n x (number_put table.nodes number (record node { lookups = 0 }) x n found)).1;
          files = λ n x found. (put n x (number_put table.nodes number (record node { lookups = 0 }) x n found)).2;
          current = current_other (fin.insert table.nodes number (record node { lookups = 0 })) (number_put_other table.nodes number (record node { lookups = 0 }));
        };
        rises = omega arith;
      }

      goes : TableLater table (unnamed table number node (fin.remove table.nodes number))
      goes = record {
        is = record {
          first = is.first;
          nodes = λ n x found. is.nodes n x (number_taken table.nodes number x n found).1;
          names = λ n x found. is.names n x (number_taken table.nodes number x n found).1;
          files = λ n x found. is.files n x (number_taken table.nodes number x n found).1;
          current = current_other (fin.remove table.nodes number) (number_taken_other table.nodes number);
        };
        rises = omega arith;
      }

      still : nat_le node.lookups count ≡ false → (root_one : Bool) → (root_one || nat_lt 0 (node.lookups - count)) ≡ true
      still more true = refl
      still more false = grind (arith, nat_tests, more)

  pub TableLater-given_back : (number count : ℕ) (held : Bool) → TableLater table (forgotten table number count held)
  TableLater-given_back number count held = on_forgotten (TableLater table) table number count held TableLater-same
      (λ node other there some. TableLater-forgotten number count held node other there)

  -- a node that isn't live goes with its last handle
  pub TableLater-let_go : (number : ℕ) → TableLater table (let_go table number)
  TableLater-let_go number = on_let_go (TableLater table) table number TableLater-same gone
    where
      gone : (node : Node) → fin.get table.nodes number ≡ Some node → is_live number node ≡ false → TableLater table (without_node table number)
      gone node there idle = record {
        is = record {
          first = is.first;
          nodes = λ n x found. is.nodes n x (number_taken table.nodes number x n found).1;
          names = λ n x found. is.names n x (number_taken table.nodes number x n found).1;
          files = λ n x found. is.files n x (number_taken table.nodes number x n found).1;
          current = λ q n found. stays q n (is.current q n found);
        };
        rises = omega arith;
      }
        where
          stays : (q : List ℕ) (n : ℕ) → IsLiveUnder table q n → IsLiveUnder (record table { nodes = fin.remove table.nodes number }) q n
          stays q n c = record { inode = c.inode; there = number_taken_other table.nodes number n other ∙ c.there; named = c.named; live = c.live }
            where
              other : n ≢ number
              other same =
                  let one : c.inode ≡ node = same_Some (sym c.there ∙ ap (fin.get table.nodes) same ∙ there) in
                  false≢true (sym idle ∙ subst (λ m. is_live m node ≡ true) same (subst (λ (x : Node). is_live n x ≡ true) one c.live))

  -- a live node becomes the current one of its name
  pub TableLater-current : (number : ℕ) (node : Node) → fin.get table.nodes number ≡ Some node → is_live number node ≡ true
      → TableLater table (made_current table number node.name)
  TableLater-current number node there live = record {
    is = record {
      first = is.first;
      nodes = is.nodes;
      names = is.names;
      files = is.files;
      current = λ q n found. by q n (name_put table.current node.name number n q found);
    };
    rises = omega arith;
  }
    where
      by : (q : List ℕ) (n : ℕ) → ((q ≡ node.name) × (number ≡ n)) ⊎ (fin.get table.current q ≡ Some n) → IsLiveUnder (made_current table number node.name) q n
      by q n (inl (same, one)) = record {
        inode = node;
        there = ap (fin.get table.nodes) (sym one) ∙ there;
        named = sym same;
        live = subst (λ m. is_live m node ≡ true) one live;
      }
      by q n (inr was) = let c = is.current q n was in record { inode = c.inode; there = c.there; named = c.named; live = c.live }

-- one change after another
pub TableLater-then : {first second third : NodeTable} → TableLater first second → TableLater second third → TableLater first third
TableLater-then a b = record { is = b.is; rises = omega (arith, a.rises, b.rises) }
