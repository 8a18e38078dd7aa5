-- The pairs that are kept of each file, and those that a bucket tells of, are in order.
use Rattle.std.proofs.Common.{◌≡◌, ◌+◌, ◌-◌, ℕ, Bool, true, false, List, [], ◌∷◌, Option, Some, None, refl, subst, ◌⊎◌, inl, inr, nat_lt}
use Rattle.std.specs.Prelude.{if◌then◌else◌, ◌==◌, option_and_then}
use Rattle.std.specs.FinMap as fin
use Rattle.std.specs.List.{AllByRecursion}
use Rattle.std.specs.List.Sorted.{IsStrictlySortedBy}
use Rattle.bucket_api.specs.Metadata.{KeysRise, Metadata}
use Rattle.bucket_api.specs.declared.answers.Answer.{Answer}
use Rattle.bucket_api.specs.declared.answers.Answer.TheVariants as answers
use Rattle.bucket_api.specs.declared.objects.Pair.{Pair}
use Rattle.inode_spec.proofs.Cases.{on_found, on_test}
use Rattle.inode_spec.specs.Inodes.{file_of, forgotten, granted, let_go, with_file}
use Rattle.mount_laws.proofs.Changes.{on_forgotten, on_forgotten_at, on_let_go}
use Rattle.mount_laws.proofs.Keeping.{no_Some, same_Some}
use Rattle.mount_model.specs.Observing.{Observed}
use Rattle.mount_rules.specs.Making as making
use Rattle.mount_rules.specs.Mount.{File, Node, NodeTable}
use Rattle.mount_rules.specs.Plans.{answers_of}
use Rattle.mount_rules.specs.Requests.Flush as flush
use Rattle.mount_rules.specs.Requests.Lookup as lookup
use Rattle.mount_rules.specs.Requests.Setattr as setattr
use Rattle.mount_rules.specs.Requests.Setattr.{Asked, Change}
use Rattle.mount_rules.specs.Showing.{Numbered, current_shown, directory_again, object_again, refreshed, stands_for, with_shown_or_new}
use Rattle.mount_rules.specs.Standing as standing
use Rattle.mount_rules.specs.Standing.{Standing, generation_seen, refreshed_at}
use Rattle.spare_maps.proofs.FinMaps.{number_put, number_taken}

-- the keys of no pairs and of one pair rise
pub none_rise : KeysRise []
unfolding IsStrictlySortedBy
none_rise = tt

pub one_rises : (pair : Pair) → KeysRise (pair ∷ [])
unfolding IsStrictlySortedBy
one_rises pair = (tt, tt)

abbrev pub KeptRise : Option File → Type 0
KeptRise None = Unit {0}
KeptRise (Some file) = KeysRise file.kept.meta.pairs

abbrev pub AllRise : NodeTable → Type 0
AllRise table = (number : ℕ) (node : Node) → fin.get table.nodes number ≡ Some node → KeptRise node.file

-- an answer tells of pairs in order
abbrev pub TellsInOrder : Answer → Type 0
TellsInOrder (answers.Meta meta) = KeysRise meta.pairs
TellsInOrder answer = Unit {0}

-- a file that is shown again keeps what it kept, or what was told
rise_refreshed : (meta : Metadata) (moment : ℕ) (file : File) → KeysRise meta.pairs → KeysRise file.kept.meta.pairs → KeysRise (refreshed meta moment file).kept.meta.pairs
rise_refreshed meta moment file told kept =
    on_test (λ (f : File). KeysRise f.kept.meta.pairs) (file.source == meta.generation) _ file
    (λ same. on_test (λ (m : Metadata). KeysRise m.pairs) (nat_lt file.kept.meta.metageneration meta.metageneration) meta file.kept.meta (λ later. told) (λ earlier. kept))
    (λ other. kept)

module _ (table : NodeTable) (all : AllRise table) where
  pub rise_put : (k : ℕ) (new : Node) → KeptRise new.file → (number : ℕ) (node : Node) → fin.get (fin.insert table.nodes k new) number ≡ Some node → KeptRise node.file
  rise_put k new rise number node found = by (number_put table.nodes k new node number found)
    where
      by : ((number ≡ k) × (new ≡ node)) ⊎ (fin.get table.nodes number ≡ Some node) → KeptRise node.file
      by (inl (at, one)) = subst (λ (n : Node). KeptRise n.file) one rise
      by (inr was) = all number node was

  rise_taken : (k number : ℕ) (node : Node) → fin.get (fin.remove table.nodes k) number ≡ Some node → KeptRise node.file
  rise_taken k number node found = all number node (number_taken table.nodes k node number found).1

  pub rise_forgotten : (k count : ℕ) (held : Bool) → AllRise (forgotten table k count held)
  rise_forgotten k count held = on_forgotten AllRise table k count held all
      (λ node other there some. on_forgotten_at AllRise table k count held node
      (λ every. rise_put k (record node { lookups = 0 }) (all k node there))
      (λ every. rise_taken k)
      (λ fewer. rise_put k (record node { lookups = node.lookups - count }) (all k node there)))

  pub rise_let_go : (k : ℕ) → AllRise (let_go table k)
  rise_let_go k = on_let_go AllRise table k all (λ node there idle. rise_taken k)

  pub rise_with_file : (k : ℕ) (file : File) → KeysRise file.kept.meta.pairs → AllRise (with_file table k file)
  rise_with_file k file rise = on_found AllRise (fin.get table.nodes k) _ table (λ absent. all) (λ node there. rise_put k (record node { file = Some file }) rise)

  rise_file_of : (k : ℕ) (file : File) → file_of table k ≡ Some file → KeysRise file.kept.meta.pairs
  rise_file_of k file is = by (fin.get table.nodes k) refl is
    where
      by : (found : Option Node) → fin.get table.nodes k ≡ found → option_and_then (λ (node : Node). node.file) found ≡ Some file → KeysRise file.kept.meta.pairs
      by None there e = absurd (no_Some e)
      by (Some node) there e = subst KeptRise e (all k node there)

  rise_refreshed_at : (k : ℕ) (meta : Metadata) (moment : ℕ) → KeysRise meta.pairs → AllRise (refreshed_at table k meta moment)
  rise_refreshed_at k meta moment told =
      on_found AllRise (file_of table k) _ table (λ absent. all)
      (λ file is. rise_with_file k (refreshed meta moment file) (rise_refreshed meta moment file told (rise_file_of k file is)))

  -- a node that is shown again
  rise_shown : (again : Node → Option Node) (name : List ℕ) → ((node shown : Node) → KeptRise node.file → again node ≡ Some shown → KeptRise shown.file)
      → (shown : Numbered) → current_shown again table name ≡ Some shown → KeptRise shown.node.file
  rise_shown again name each shown is = by_number (fin.get table.current name) is
    where
      by_again : (node : Node) (o : Option Node) → KeptRise node.file → again node ≡ o → (number : ℕ)
          → option_and_then (λ (s : Node). Some (record { number = number; node = s })) o ≡ Some shown → KeptRise shown.node.file
      by_again node None rise same number e = absurd (no_Some e)
      by_again node (Some s) rise same number e = subst (λ (n : Numbered). KeptRise n.node.file) (same_Some e) (each node s rise same)

      by_node : (number : ℕ) (o : Option Node) → fin.get table.nodes number ≡ o
          → option_and_then (λ (node : Node). option_and_then (λ (s : Node). Some (record { number = number; node = s })) (again node)) o ≡ Some shown → KeptRise shown.node.file
      by_node number None there e = absurd (no_Some e)
      by_node number (Some node) there e = by_again node (again node) (all number node there) refl number e

      by_number : (o : Option ℕ)
          → option_and_then (λ number. option_and_then (λ (node : Node). option_and_then (λ (s : Node). Some (record { number = number; node = s })) (again node)) (fin.get table.nodes number)) o ≡ Some shown
          → KeptRise shown.node.file
      by_number None e = absurd (no_Some e)
      by_number (Some number) e = by_node number (fin.get table.nodes number) refl e

  pub rise_shown_or_new : (again : Node → Option Node) (name : List ℕ) (new : Node) → ((node shown : Node) → KeptRise node.file → again node ≡ Some shown → KeptRise shown.file)
      → KeptRise new.file → AllRise (with_shown_or_new table (current_shown again table name) new)
  rise_shown_or_new again name new each rise =
      on_found AllRise (current_shown again table name) _ (granted table new) (λ absent. rise_put table.next new rise)
      (λ shown is. rise_put shown.number shown.node (rise_shown again name each shown is))

  pub rise_table_after : (k moment : ℕ) (found : Standing) → ((meta : Metadata) → found ≡ standing.live meta → KeysRise meta.pairs) → AllRise (standing.table_after table k moment found)
  rise_table_after k moment standing.unasked told = all
  rise_table_after k moment (standing.live meta) told = rise_refreshed_at k meta moment (told meta refl)
  rise_table_after k moment standing.gone told = all
  rise_table_after k moment standing.fault told = all

-- a file that is shown again
pub object_rises : (meta : Metadata) (moment : ℕ) → KeysRise meta.pairs → (node shown : Node) → KeptRise node.file → object_again meta moment node ≡ Some shown → KeptRise shown.file
object_rises meta moment told node shown rise is = by node.file rise is
  where
    on : (file : File) (stands : Bool) → KeysRise file.kept.meta.pairs
        → (if stands then Some (record node { file = Some (refreshed meta moment file); lookups = node.lookups + 1 }) else None) ≡ Some shown → KeptRise shown.file
    on file true kept e = subst (λ (n : Node). KeptRise n.file) (same_Some e) (rise_refreshed meta moment file told kept)
    on file false kept e = absurd (no_Some e)

    by : (file : Option File) → KeptRise file
        → option_and_then (λ f. if stands_for meta moment f then Some (record node { file = Some (refreshed meta moment f); lookups = node.lookups + 1 }) else None) file ≡ Some shown → KeptRise shown.file
    by None kept e = absurd (no_Some e)
    by (Some file) kept e = on file (stands_for meta moment file) kept e

pub directory_rises : (node shown : Node) → KeptRise node.file → directory_again node ≡ Some shown → KeptRise shown.file
directory_rises node shown rise is = subst (λ (n : Node). KeptRise n.file) (same_Some is) rise

abbrev pub TellInOrder : List Observed → Type 0
TellInOrder seen = AllByRecursion (λ (o : Observed). TellsInOrder o.answer) seen

-- what a request made of the answers tells of pairs in order
pub standing_told : (generation : ℕ) (seen : List Observed) → TellInOrder seen → (meta : Metadata) → standing.standing generation (answers_of seen) ≡ standing.live meta → KeysRise meta.pairs
standing_told generation [] tell meta is = cc
standing_told generation (o ∷ more) tell meta is = by o.answer tell.0 is
  where
    live_told : (m : Metadata) (same : Bool) → KeysRise m.pairs → (if same then standing.live m else standing.gone) ≡ standing.live meta → KeysRise meta.pairs
    live_told m true rise e = subst (λ (x : Metadata). KeysRise x.pairs) (let one : m ≡ meta = cc in one) rise
    live_told m false rise e = cc

    by : (a : Answer) → TellsInOrder a → standing.standing_by generation a ≡ standing.live meta → KeysRise meta.pairs
    by (answers.Meta m) rise e = live_told m (m.generation == generation) rise e
    by answers.NotFound rise e = cc
    by (answers.Bytes bytes) rise e = cc
    by (answers.Page page) rise e = cc
    by answers.Done rise e = cc
    by (answers.Precondition generation metageneration) rise e = cc
    by answers.Fault rise e = cc

pub update_told : (seen : List Observed) → TellInOrder seen → (meta : Metadata) → setattr.standing_of (answers_of seen) ≡ standing.live meta → KeysRise meta.pairs
update_told [] tell meta is = cc
update_told (o ∷ more) tell meta is = by o.answer tell.0 is
  where
    by : (a : Answer) → TellsInOrder a → setattr.standing_by a ≡ standing.live meta → KeysRise meta.pairs
    by (answers.Meta m) rise e = subst (λ (x : Metadata). KeysRise x.pairs) (let one : m ≡ meta = cc in one) rise
    by answers.NotFound rise e = cc
    by (answers.Bytes bytes) rise e = cc
    by (answers.Page page) rise e = cc
    by answers.Done rise e = cc
    by (answers.Precondition generation metageneration) rise e = cc
    by answers.Fault rise e = cc

pub flush_told : (seen : List Observed) → TellInOrder seen → (meta : Metadata) → flush.came_of (answers_of seen) ≡ flush.made meta → KeysRise meta.pairs
flush_told [] tell meta is = cc
flush_told (o ∷ more) tell meta is = by o.answer tell.0 (flush_told more tell.1 meta) is
  where
    by : (a : Answer) → TellsInOrder a → (flush.came_of (answers_of more) ≡ flush.made meta → KeysRise meta.pairs)
        → flush.came_of (a ∷ answers_of more) ≡ flush.made meta → KeysRise meta.pairs
    by (answers.Meta m) rise later e = subst (λ (x : Metadata). KeysRise x.pairs) (let one : m ≡ meta = cc in one) rise
    by answers.NotFound rise later e = cc
    by (answers.Bytes bytes) rise later e = later e
    by (answers.Page page) rise later e = cc
    by answers.Done rise later e = cc
    by (answers.Precondition generation metageneration) rise later e = cc
    by answers.Fault rise later e = cc

pub made_told : (seen : List Observed) → TellInOrder seen → (meta : Metadata) → making.made (answers_of seen) ≡ making.new meta → KeysRise meta.pairs
made_told [] tell meta is = cc
made_told (o ∷ more) tell meta is = by o.answer tell.0 is
  where
    by : (a : Answer) → TellsInOrder a → making.made_by a ≡ making.new meta → KeysRise meta.pairs
    by (answers.Meta m) rise e = subst (λ (x : Metadata). KeysRise x.pairs) (let one : m ≡ meta = cc in one) rise
    by answers.NotFound rise e = cc
    by (answers.Bytes bytes) rise e = cc
    by (answers.Page page) rise e = cc
    by answers.Done rise e = cc
    by (answers.Precondition generation metageneration) rise e = cc
    by answers.Fault rise e = cc

pub found_told : (seen : List Observed) → TellInOrder seen → (meta : Metadata) → lookup.found (answers_of seen) ≡ lookup.object meta → KeysRise meta.pairs
found_told [] tell meta is = cc
found_told (o ∷ []) tell meta is = by (lookup.probed o.answer) is
  where
    by : (probed : lookup.Probed) → lookup.found_by probed ≡ lookup.object meta → KeysRise meta.pairs
    by lookup.present e = cc
    by lookup.absent e = cc
    by lookup.failed e = cc
found_told (o ∷ p ∷ more) tell meta is = by p.answer tell.1.0 is
  where
    by : (a : Answer) → TellsInOrder a → lookup.found_at a ≡ lookup.object meta → KeysRise meta.pairs
    by (answers.Meta m) rise e = subst (λ (x : Metadata). KeysRise x.pairs) (let one : m ≡ meta = cc in one) rise
    by answers.NotFound rise e = cc
    by (answers.Bytes bytes) rise e = cc
    by (answers.Page page) rise e = cc
    by answers.Done rise e = cc
    by (answers.Precondition generation metageneration) rise e = cc
    by answers.Fault rise e = cc
