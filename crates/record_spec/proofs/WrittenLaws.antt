-- What an own write reaches: each key that it writes has no record afterwards, and is known to the write's moment.
use Rattle.std.proofs.Common.{◌≡◌, ℕ, ◌≤◌, max, Bool, true, false, cond, ◌||◌, ◌==◌, List, [], ◌∷◌, ◌++◌, map, fold, Some, None, bytes_eq, refl, sym, ap, subst, ◌∙◌, ◌⊎◌, inl, inr, append_assoc, append-nil}
use Rattle.std.proofs.Math.Nat.{le-max_right}
use Rattle.std.proofs.lemmas.List.{map-append}
use Rattle.std.proofs.lemmas.List.Folds.{list_any-append}
use Rattle.std.proofs.lemmas.Slice.Eq.{bytes_eq-Decides}
use Rattle.std.specs.List.{list_any}
use Rattle.bucket_api.specs.Listing.{ends_in_slash}
use Rattle.record_spec.specs.declared.records.Record.{Record}
use Rattle.record_spec.specs.RecordList.{Key, RecordList, record_of, known_to}
use Rattle.record_spec.specs.Steps.{gone, cuts, written, written_keys}
use Rattle.record_spec.specs.Past.{Writes}
use Rattle.record_spec.proofs.KnownLaws.{moment_or, same_text, text_itself, lookup-without_same, lookup-without_other, or_false, or_true}

-- ---- cuts
or_right : (a b : Bool) → b ≡ true → a || b ≡ true
or_right true b e = refl
or_right false b e = e

or_left : (a b : Bool) → a ≡ true → a || b ≡ true
or_left true b e = refl
or_left false b e = cc

-- a key that is among others is among them with one byte more before each
any-longer : (byte : ℕ) (key : Key) (keys : List Key) → list_any (bytes_eq key) keys ≡ true → list_any (bytes_eq (byte ∷ key)) (map (λ k. byte ∷ k) keys) ≡ true
any-longer byte key [] e = e
any-longer byte key (k ∷ keys) e = by (any-longer byte key keys) (bytes_eq key k) refl e
  where
    by : (list_any (bytes_eq key) keys ≡ true → list_any (bytes_eq (byte ∷ key)) (map (λ k. byte ∷ k) keys) ≡ true)
        → (b : Bool) → bytes_eq key k ≡ b → b || list_any (bytes_eq key) keys ≡ true → list_any (bytes_eq (byte ∷ key)) (map (λ k. byte ∷ k) (k ∷ keys)) ≡ true
    by rest true is e = or_left _ _ ((bytes_eq-Decides (byte ∷ key) (byte ∷ k)).1 (ap (λ t. byte ∷ t) (same_text key k is)))
    by rest false is e = or_right _ _ (rest e)

longer_cut : (byte : ℕ) (key : Key) (b : Bool) → map (λ k. byte ∷ k) (cond b (key ∷ []) []) ≡ cond b ((byte ∷ key) ∷ []) []
longer_cut byte key true = refl
longer_cut byte key false = refl

-- the cuts of a text with one more byte: the text itself is one, where the byte is a slash
pub cuts-push : (name : Key) (byte : ℕ) → cuts (name ++ byte ∷ []) ≡ cuts name ++ cond (byte == 47) ((name ++ byte ∷ []) ∷ []) []
cuts-push [] byte = append-nil (cond (byte == 47) ((byte ∷ []) ∷ []) [])
cuts-push (first ∷ name) byte =
    let head = cond (first == 47) ((first ∷ []) ∷ []) [] in
    let last = cond (byte == 47) ((name ++ byte ∷ []) ∷ []) [] in
    ap (λ keys. head ++ map (λ k. first ∷ k) keys) (cuts-push name byte)
    ∙ ap (λ keys. head ++ keys) (map-append (λ k. first ∷ k) (cuts name) last ∙ ap (λ keys. map (λ k. first ∷ k) (cuts name) ++ keys) (longer_cut first (name ++ byte ∷ []) (byte == 47)))
    ∙ sym (append_assoc head (map (λ k. first ∷ k) (cuts name)) (cond (byte == 47) ((first ∷ (name ++ byte ∷ [])) ∷ []) []))

-- a directory's key that begins a name is one of its cuts
cut_of : (key rest : List ℕ) → ends_in_slash key ≡ true → list_any (bytes_eq key) (cuts (key ++ rest)) ≡ true
cut_of [] rest e = cc
cut_of (byte ∷ []) rest e =
    list_any-append (bytes_eq (byte ∷ [])) (cond (byte == 47) ((byte ∷ []) ∷ []) []) (map (λ k. byte ∷ k) (cuts rest))
    ∙ or_left _ _ (ap (λ b. list_any (bytes_eq (byte ∷ [])) (cond b ((byte ∷ []) ∷ []) [])) e ∙ or_left (bytes_eq (byte ∷ []) (byte ∷ [])) false (text_itself (byte ∷ [])))
cut_of (byte ∷ next ∷ key) rest e =
    list_any-append (bytes_eq (byte ∷ next ∷ key)) (cond (byte == 47) ((byte ∷ []) ∷ []) []) (map (λ k. byte ∷ k) (cuts ((next ∷ key) ++ rest)))
    ∙ or_right _ _ (any-longer byte (next ∷ key) (cuts ((next ∷ key) ++ rest)) (cut_of (next ∷ key) rest e))

pub written_key : (implicit : Bool) (name key : Key) → Writes implicit name key → list_any (bytes_eq key) (written_keys implicit name) ≡ true
written_key implicit name key (inl same) = or_left _ _ ((bytes_eq-Decides key name).1 same)
written_key implicit name key (inr (is, ends, begins)) =
    or_right _ _ (subst (λ b. list_any (bytes_eq key) (cond b (cuts name) []) ≡ true) (sym is)
    (subst (λ n. list_any (bytes_eq key) (cuts n) ≡ true) (sym begins.1) (cut_of key begins.0 ends)))

-- ---- going
-- a key without a record has none after another goes
none-gone : (list : RecordList) (key q : Key) → record_of list q ≡ None → record_of (gone list key) q ≡ None
none-gone list key q none = by (bytes_eq q key) refl
  where
    by : (b : Bool) → bytes_eq q key ≡ b → record_of (gone list key) q ≡ None
    by true e = lookup-without_same q key list.records e
    by false e = lookup-without_other q key list.records e ∙ none

none-all_gone : (list : RecordList) (keys : List Key) (q : Key) → record_of list q ≡ None → record_of (fold gone list keys) q ≡ None
none-all_gone list [] q none = none
none-all_gone list (key ∷ keys) q none = none-all_gone (gone list key) keys q (none-gone list key q none)

-- and none of the keys that go has one
all_gone : (list : RecordList) (keys : List Key) (q : Key) → list_any (bytes_eq q) keys ≡ true → record_of (fold gone list keys) q ≡ None
all_gone list [] q e = cc
all_gone list (key ∷ keys) q e = by (λ e. all_gone (gone list key) keys q e) (bytes_eq q key) refl e
  where
    by : (list_any (bytes_eq q) keys ≡ true → record_of (fold gone (gone list key) keys) q ≡ None)
        → (b : Bool) → bytes_eq q key ≡ b → b || list_any (bytes_eq q) keys ≡ true → record_of (fold gone (gone list key) keys) q ≡ None
    by rest true is e = none-all_gone (gone list key) keys q (lookup-without_same q key list.records is)
    by rest false is e = rest e

-- a key that a write writes is known to its moment
pub known_to-written : (list : RecordList) (name : Key) (moment : ℕ) (implicit : Bool) (key : Key) → Writes implicit name key → moment ≤ known_to (written list name moment implicit) key
known_to-written list name moment implicit key writes =
    let after = fold gone list (written_keys implicit name) in
    subst (λ o. moment ≤ moment_or o (max after.low moment)) (sym (all_gone list (written_keys implicit name) key (written_key implicit name key writes))) (le-max_right after.low moment)

-- ---- what is found after going was there before
pub was-gone : (list : RecordList) (key q : Key) (r : Record) → record_of (gone list key) q ≡ Some r → record_of list q ≡ Some r
was-gone list key q r e = by (bytes_eq q key) refl
  where
    by : (b : Bool) → bytes_eq q key ≡ b → record_of list q ≡ Some r
    by true is = absurd (cc (lookup-without_same q key list.records is, e))
    by false is = sym (lookup-without_other q key list.records is) ∙ e

pub was-all_gone : (list : RecordList) (keys : List Key) (q : Key) (r : Record) → record_of (fold gone list keys) q ≡ Some r → record_of list q ≡ Some r
was-all_gone list [] q r e = e
was-all_gone list (key ∷ keys) q r e = was-gone list key q r (was-all_gone (gone list key) keys q r e)

-- ---- a write reaches no other key
any-shorter : (byte : ℕ) (key : Key) (keys : List Key) → list_any (bytes_eq key) (map (λ k. byte ∷ k) keys) ≡ true → (k : Key) × (key ≡ byte ∷ k) × (list_any (bytes_eq k) keys ≡ true)
any-shorter byte key [] e = cc
any-shorter byte key (k ∷ keys) e = by (any-shorter byte key keys) (bytes_eq key (byte ∷ k)) refl e
  where
    by : (list_any (bytes_eq key) (map (λ k. byte ∷ k) keys) ≡ true → (j : Key) × (key ≡ byte ∷ j) × (list_any (bytes_eq j) keys ≡ true))
        → (b : Bool) → bytes_eq key (byte ∷ k) ≡ b → b || list_any (bytes_eq key) (map (λ k. byte ∷ k) keys) ≡ true → (j : Key) × (key ≡ byte ∷ j) × (list_any (bytes_eq j) (k ∷ keys) ≡ true)
    by rest true is e = (k, same_text key (byte ∷ k) is, or_left (bytes_eq k k) (list_any (bytes_eq k) keys) (text_itself k))
    by rest false is e = let later = rest e in (later.0, later.1, or_right (bytes_eq later.0 k) (list_any (bytes_eq later.0) keys) later.2)

one_byte : (byte : ℕ) (rest key : List ℕ) (b : Bool) → byte == 47 ≡ b → list_any (bytes_eq key) (cond b ((byte ∷ []) ∷ []) []) ≡ true
    → (ends_in_slash key ≡ true) × ((after : List ℕ) × (byte ∷ rest ≡ key ++ after))
one_byte byte rest key true is e =
    let same : key ≡ byte ∷ [] = same_text key (byte ∷ []) (or_one (bytes_eq key (byte ∷ [])) e) in
    (subst (λ k. ends_in_slash k ≡ true) (sym same) is, (rest, ap (λ k. k ++ rest) (sym same)))
  where
    or_one : (b : Bool) → b || false ≡ true → b ≡ true
    or_one true e = refl
    or_one false e = e
one_byte byte rest key false is e = cc

longer_key : (byte : ℕ) (k : Key) → ends_in_slash k ≡ true → ends_in_slash (byte ∷ k) ≡ true
longer_key byte [] e = cc
longer_key byte (next ∷ k) e = e

cut_is : (name key : Key) → list_any (bytes_eq key) (cuts name) ≡ true → (ends_in_slash key ≡ true) × ((rest : List ℕ) × (name ≡ key ++ rest))
cut_is [] key e = cc
cut_is (byte ∷ name) key e =
    by (cut_is name) (or_true (list_any (bytes_eq key) (cond (byte == 47) ((byte ∷ []) ∷ []) [])) (list_any (bytes_eq key) (map (λ k. byte ∷ k) (cuts name)))
    (sym (list_any-append (bytes_eq key) (cond (byte == 47) ((byte ∷ []) ∷ []) []) (map (λ k. byte ∷ k) (cuts name))) ∙ e))
  where
    by : ((k : Key) → list_any (bytes_eq k) (cuts name) ≡ true → (ends_in_slash k ≡ true) × ((rest : List ℕ) × (name ≡ k ++ rest)))
        → (list_any (bytes_eq key) (cond (byte == 47) ((byte ∷ []) ∷ []) []) ≡ true) ⊎ (list_any (bytes_eq key) (map (λ k. byte ∷ k) (cuts name)) ≡ true)
        → (ends_in_slash key ≡ true) × ((rest : List ℕ) × (byte ∷ name ≡ key ++ rest))
    by later (inl here) = one_byte byte name key (byte == 47) refl here
    by later (inr there) =
        let short = any-shorter byte key (cuts name) there in
        let is = later short.0 short.2 in
        (subst (λ k. ends_in_slash k ≡ true) (sym short.1) (longer_key byte short.0 is.0), (is.1.0, ap (λ n. byte ∷ n) is.1.1 ∙ ap (λ k. k ++ is.1.0) (sym short.1)))

writes_if_written : (implicit : Bool) (name key : Key) → list_any (bytes_eq key) (written_keys implicit name) ≡ true → Writes implicit name key
writes_if_written implicit name key e = by (bytes_eq key name) implicit refl refl e
  where
    by : (b i : Bool) → bytes_eq key name ≡ b → implicit ≡ i → b || list_any (bytes_eq key) (cond i (cuts name) []) ≡ true → Writes implicit name key
    by true i is on e = inl (same_text key name is)
    by false true is on e = let cut = cut_is name key e in inr (on, cut.0, cut.1)
    by false false is on e = cc

stays-gone : (list : RecordList) (key q : Key) → bytes_eq q key ≡ false → record_of (gone list key) q ≡ record_of list q
stays-gone list key q other = lookup-without_other q key list.records other

stays-all_gone : (list : RecordList) (keys : List Key) (q : Key) → list_any (bytes_eq q) keys ≡ false → record_of (fold gone list keys) q ≡ record_of list q
stays-all_gone list [] q e = refl
stays-all_gone list (key ∷ keys) q e =
    let parts = or_false (bytes_eq q key) (list_any (bytes_eq q) keys) e in
    stays-all_gone (gone list key) keys q parts.1 ∙ stays-gone list key q parts.0

-- the record of a key that a write doesn't write stays
pub stays-written : (list : RecordList) (name : Key) (moment : ℕ) (implicit : Bool) (key : Key) → ¬ Writes implicit name key
    → record_of (written list name moment implicit) key ≡ record_of list key
stays-written list name moment implicit key other = stays-all_gone list (written_keys implicit name) key (by (list_any (bytes_eq key) (written_keys implicit name)) refl)
  where
    by : (b : Bool) → list_any (bytes_eq key) (written_keys implicit name) ≡ b → b ≡ false
    by true is = absurd (other (writes_if_written implicit name key is))
    by false is = refl

-- and that of one that it writes goes
pub none-written : (list : RecordList) (name : Key) (moment : ℕ) (implicit : Bool) (key : Key) → Writes implicit name key → record_of (written list name moment implicit) key ≡ None
none-written list name moment implicit key writes = all_gone list (written_keys implicit name) key (written_key implicit name key writes)
