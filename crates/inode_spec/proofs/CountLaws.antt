-- How many look-ups a node has after each call, and so after any list of calls.
use Rattle.std.proofs.Common.{◌≡◌, ◌≢◌, ℕ, ◌+◌, ◌-◌, Bool, true, false, cond, List, [], ◌∷◌, Option, Some, None, IsSome, is_some, refl, sym, ap, ◌∙◌, nat_eq, nat_lt, nat_le, nat_cmp, ◌&&◌, ◌||◌, ◌==◌, if◌then◌else◌, arith}
use Rattle.std.proofs.lemmas.Bool.{false≢true}
use Rattle.std.proofs.lemmas.Bool.Decides.{Decides-eqb, nat_tests}
use Rattle.std.specs.FinMap as fin
use Rattle.std.specs.Option.{option_map_or}
use Rattle.spare_maps.proofs.FinMaps.{get-insert_number, get-remove_number}
use Rattle.inode_spec.specs.Counts.{Call, Grant, Look, Forget, LetGo, Detach, MakeCurrent, Write, after, after_all, Meets, MeetsAll, counted, next_after, count_along, CountsDecide}
use Rattle.inode_spec.specs.Inodes.{Inode, Inodes, Nodes, root, root_number, first_table, is_live, lookups_of, with_inode, granted, looked_up, looked, with_file, left_without, without_current, forgotten_at, forgotten, let_go}
use Rattle.inode_spec.proofs.Cases.{on_test, on_found, where_same, where_kept}

module _ {F : Type 0} where
  -- the look-ups of what is found
  abbrev count_in : Option (Inode F) → ℕ
  count_in o = option_map_or (λ (inode : Inode F). inode.lookups) o 0

  at_choice : (test : Bool) (x y : Option (Inode F)) → count_in (cond test x y) ≡ cond test (count_in x) (count_in y)
  at_choice true x y = refl
  at_choice false x y = refl

  -- ---- a node that is put, or taken away
  pub lookups-put : (nodes : Nodes F) (number : ℕ) (inode : Inode F) (n : ℕ)
      → count_in (fin.get (fin.insert nodes number inode) n) ≡ (if n == number then inode.lookups else count_in (fin.get nodes n))
  lookups-put nodes number inode n = ap count_in (get-insert_number nodes number inode n) ∙ at_choice (nat_eq n number) (Some inode) (fin.get nodes n)

  pub lookups-taken : (nodes : Nodes F) (number n : ℕ) → count_in (fin.get (fin.remove nodes number) n) ≡ (if n == number then 0 else count_in (fin.get nodes n))
  lookups-taken nodes number n = ap count_in (get-remove_number nodes number n) ∙ at_choice (nat_eq n number) None (fin.get nodes n)

  -- what a node has that is found
  lookups-found : (table : Inodes F) (number n : ℕ) (inode : Inode F) → fin.get table.nodes number ≡ Some inode → n ≡ number → lookups_of table n ≡ inode.lookups
  lookups-found table number n inode there p = ap count_in (ap (fin.get table.nodes) p ∙ there)

  -- ---- one call
  -- a grant
  pub lookups-granted : (table : Inodes F) (inode : Inode F) (n : ℕ) → lookups_of (granted table inode) n ≡ (if n == table.next then inode.lookups else lookups_of table n)
  lookups-granted table inode n = lookups-put table.nodes table.next inode n

  -- a node that was there, written anew
  pub lookups-written : (table : Inodes F) (number : ℕ) (inode new : Inode F) (f : ℕ → ℕ) (n : ℕ) → fin.get table.nodes number ≡ Some inode → new.lookups ≡ f inode.lookups
      → lookups_of (with_inode table number new) n ≡ (if n == number then f (lookups_of table n) else lookups_of table n)
  lookups-written table number inode new f n there is =
      lookups-put table.nodes number new n
      ∙ where_same n number new.lookups (f (lookups_of table n)) (lookups_of table n) (λ p. is ∙ ap f (sym (lookups-found table number n inode there p)))

  -- a look-up of a node that is there
  pub lookups-looked : (table : Inodes F) (number n : ℕ) → IsSome (fin.get table.nodes number)
      → lookups_of (looked table number) n ≡ (if n == number then lookups_of table n + 1 else lookups_of table n)
  lookups-looked table number n there =
      on_found (λ after. lookups_of after n ≡ cond (nat_eq n number) (lookups_of table n + 1) (lookups_of table n))
      (fin.get table.nodes number) (λ inode. with_inode table number (looked_up inode)) table
      (λ none. absurd (false≢true (sym (ap is_some none) ∙ there)))
      (λ inode e. lookups-written table number inode (looked_up inode) (λ count. count + 1) n e refl)

  -- other parts of a file
  pub lookups-with_file : (table : Inodes F) (number : ℕ) (file : F) (n : ℕ) → lookups_of (with_file table number file) n ≡ lookups_of table n
  lookups-with_file table number file n =
      on_found (λ after. lookups_of after n ≡ lookups_of table n)
      (fin.get table.nodes number) (λ inode. with_inode table number (record inode { file = Some file })) table
      (λ none. refl)
      (λ inode e. lookups-put table.nodes number (record inode { file = Some file }) n
      ∙ where_kept n number inode.lookups (lookups_of table n) (λ p. sym (lookups-found table number n inode e p)))

  -- the node has so many look-ups less, and all others have theirs
  abbrev Less : Inodes F → ℕ → ℕ → ℕ → Inodes F → Type 0
  Less table number count n after = lookups_of after n ≡ cond (nat_eq n number) (lookups_of table n - count) (lookups_of table n)

  abbrev forgotten_found : Inodes F → ℕ → ℕ → Bool → Inode F → Inodes F
  forgotten_found table number count held inode = if inode.lookups == 0 then table else forgotten_at table number count held inode

  -- look-ups given back, of any node but the root
  pub lookups-forgotten : (table : Inodes F) (number count : ℕ) (held : Bool) (n : ℕ) → n ≢ root_number
      → lookups_of (forgotten table number count held) n ≡ (if n == number then lookups_of table n - count else lookups_of table n)
  lookups-forgotten table number count held n other =
      on_test (Less table number count n) (nat_eq number 1) table (option_map_or (forgotten_found table number count held) (fin.get table.nodes number) table)
      (λ root. stays (λ p. absurd (other (p ∙ (Decides-eqb number 1).0 root))))
      (λ _. on_found (Less table number count n) (fin.get table.nodes number) (forgotten_found table number count held) table
      (λ none. stays (λ p. let no = ap count_in (ap (fin.get table.nodes) p ∙ none) in omega (arith, no)))
      (λ inode e. on_test (Less table number count n) (nat_eq inode.lookups 0) table (forgotten_at table number count held inode)
      (λ zero. stays (λ p. let is = lookups-found table number n inode e p in let none = (Decides-eqb inode.lookups 0).0 zero in omega (arith, is, none)))
      (λ _. on_test (Less table number count n) (nat_le inode.lookups count)
      (record table { nodes = left_without table.nodes number held inode; current = without_current table.current inode.name number })
      (with_inode table number (record inode { lookups = inode.lookups - count }))
      (λ few. gone inode e few)
      (λ _. lookups-written table number inode (record inode { lookups = inode.lookups - count }) (λ c. c - count) n e refl))))
    where
      stays : (n ≡ number → lookups_of table n ≡ lookups_of table n - count) → Less table number count n table
      stays same = sym (where_kept n number (lookups_of table n - count) (lookups_of table n) (λ p. sym (same p)))

      none_left : (inode : Inode F) → fin.get table.nodes number ≡ Some inode → nat_le inode.lookups count ≡ true → n ≡ number → 0 ≡ lookups_of table n - count
      none_left inode e few p = let is = lookups-found table number n inode e p in grind (arith, nat_tests)

      gone : (inode : Inode F) → fin.get table.nodes number ≡ Some inode → nat_le inode.lookups count ≡ true
          → count_in (fin.get (left_without table.nodes number held inode) n) ≡ cond (nat_eq n number) (lookups_of table n - count) (lookups_of table n)
      gone inode e few = on_test (λ nodes. count_in (fin.get nodes n) ≡ cond (nat_eq n number) (lookups_of table n - count) (lookups_of table n))
          (held && is_some inode.file) (fin.insert table.nodes number (record inode { lookups = 0 })) (fin.remove table.nodes number)
          (λ _. lookups-put table.nodes number (record inode { lookups = 0 }) n ∙ where_same n number 0 (lookups_of table n - count) (lookups_of table n) (none_left inode e few))
          (λ _. lookups-taken table.nodes number n ∙ where_same n number 0 (lookups_of table n - count) (lookups_of table n) (none_left inode e few))

  -- a node that is let go has no look-ups
  pub lookups-let_go : (table : Inodes F) (number n : ℕ) → lookups_of (let_go table number) n ≡ lookups_of table n
  lookups-let_go table number n =
      on_found (λ after. lookups_of after n ≡ lookups_of table n) (fin.get table.nodes number) (λ inode. if is_live number inode then table else record table { nodes = fin.remove table.nodes number }) table
      (λ _. refl)
      (λ inode e. on_test (λ after. lookups_of after n ≡ lookups_of table n) (is_live number inode) table (record table { nodes = fin.remove table.nodes number })
      (λ _. refl)
      (λ dead. lookups-taken table.nodes number n
      ∙ where_kept n number 0 (lookups_of table n) (λ p. sym (lookups-found table number n inode e p ∙ no_look_ups (nat_eq number 1) inode.lookups dead))))
    where
      no_look_ups : (is_root : Bool) (count : ℕ) → (is_root || nat_lt 0 count) ≡ false → count ≡ 0
      no_look_ups true count e = absurd (false≢true (sym e))
      no_look_ups false count e = grind (arith, nat_tests)

  -- ---- the number that the next node gets
  abbrev SameNext : Inodes F → Inodes F → Type 0
  SameNext table after = after.next ≡ table.next

  next-looked : (table : Inodes F) (number : ℕ) → (looked table number).next ≡ table.next
  next-looked table number =
      on_found (SameNext table) (fin.get table.nodes number) (λ inode. with_inode table number (looked_up inode)) table (λ _. refl) (λ _ _. refl)

  next-with_file : (table : Inodes F) (number : ℕ) (file : F) → (with_file table number file).next ≡ table.next
  next-with_file table number file =
      on_found (SameNext table) (fin.get table.nodes number) (λ inode. with_inode table number (record inode { file = Some file })) table (λ _. refl) (λ _ _. refl)

  pub next-forgotten : (table : Inodes F) (number count : ℕ) (held : Bool) → (forgotten table number count held).next ≡ table.next
  next-forgotten table number count held =
      on_test (SameNext table) (nat_eq number 1) table (option_map_or (forgotten_found table number count held) (fin.get table.nodes number) table)
      (λ _. refl)
      (λ _. on_found (SameNext table) (fin.get table.nodes number) (forgotten_found table number count held) table
      (λ _. refl)
      (λ inode _. on_test (SameNext table) (nat_eq inode.lookups 0) table (forgotten_at table number count held inode)
      (λ _. refl)
      (λ _. on_test (SameNext table) (nat_le inode.lookups count)
      (record table { nodes = left_without table.nodes number held inode; current = without_current table.current inode.name number })
      (with_inode table number (record inode { lookups = inode.lookups - count }))
      (λ _. refl) (λ _. refl))))

  pub next-let_go : (table : Inodes F) (number : ℕ) → (let_go table number).next ≡ table.next
  next-let_go table number =
      on_found (SameNext table)
      (fin.get table.nodes number) (λ inode. if is_live number inode then table else record table { nodes = fin.remove table.nodes number }) table
      (λ _. refl)
      (λ inode _. on_test (SameNext table) (is_live number inode) table (record table { nodes = fin.remove table.nodes number }) (λ _. refl) (λ _. refl))

  -- ---- any list of calls
  counts_after : (table : Inodes F) (call : Call F) (node : ℕ) → node ≢ root_number → Meets table call → lookups_of (after table call) node ≡ counted node table.next call (lookups_of table node)
  counts_after table (Grant kind name file) node other meets = lookups-granted table (record { kind = kind; name = name; lookups = 1; file = file }) node
  counts_after table (Look number) node other meets = lookups-looked table number node meets
  counts_after table (Forget number count held) node other meets = lookups-forgotten table number count held node other
  counts_after table (LetGo number) node other meets = lookups-let_go table number node
  counts_after table (Detach name) node other meets = refl
  counts_after table (MakeCurrent number name) node other meets = refl
  counts_after table (Write number file) node other meets = lookups-with_file table number file node

  goes_on : (table : Inodes F) (call : Call F) → (after table call).next ≡ next_after table.next call
  goes_on table (Grant kind name file) = refl
  goes_on table (Look number) = next-looked table number
  goes_on table (Forget number count held) = next-forgotten table number count held
  goes_on table (LetGo number) = next-let_go table number
  goes_on table (Detach name) = refl
  goes_on table (MakeCurrent number name) = refl
  goes_on table (Write number file) = next-with_file table number file

  counts_along : (calls : List (Call F)) (table : Inodes F) (node : ℕ) → node ≢ root_number → MeetsAll table calls
      → lookups_of (after_all table calls) node ≡ count_along node table.next (lookups_of table node) calls
  counts_along [] table node other meets = refl
  counts_along (call ∷ calls) table node other meets =
      counts_along calls (after table call) node other meets.1
      ∙ ap (λ next. count_along node next (lookups_of (after table call) node) calls) (goes_on table call)
      ∙ ap (λ count. count_along node (next_after table.next call) count calls) (counts_after table call node other meets.0)

  pub counts_decide : CountsDecide F
  counts_decide calls meets node other =
      counts_along calls first_table node other meets ∙ ap (λ count. count_along node 2 count calls) nobody
    where
      nobody : lookups_of (first_table {F = F}) node ≡ 0
      nobody = lookups-put fin.empty 1 root node ∙ where_kept node 1 0 (count_in (fin.get {R = nat_cmp} fin.empty node)) (λ p. absurd (other p)) ∙ ap count_in (fin.get-empty nat_cmp node)
