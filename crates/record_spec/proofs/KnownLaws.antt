-- What each step makes of the records and of what is known of each key: no step lets what is known of a key fall.
use Rattle.std.proofs.Common.{◌≡◌, ℕ, zero, suc, ◌+◌, ◌<◌, ◌≤◌, max, Bool, true, false, cond, not, ◌||◌, List, [], ◌∷◌, length, take, fold, slice_get, Option, Some, None, nat_lt, bytes_eq, refl, sym, ap, subst, ◌∙◌, ◌⊎◌, inl, inr, arith, ltb-true, ltb-false, true≢false}
use Rattle.std.proofs.Math.Nat.{le-max_left, le-max_right}
use Rattle.std.proofs.lemmas.List.Filters.{length-filter_both}
use Rattle.std.proofs.lemmas.Map.Entries.{lookup-filter-keys}
use Rattle.std.proofs.lemmas.Slice.Eq.{bytes_eq-Decides}
use Rattle.std.specs.Map.{lookup}
use Rattle.std.specs.Option.{option_map_or, option_and_then}
use Rattle.record_spec.specs.declared.records.Record.{Record}
use Rattle.record_spec.specs.declared.records.Learned.{Learned}
use Rattle.record_spec.specs.declared.records.Learned.TheVariants.{Kept, Behind, NoMemory}
use Rattle.record_spec.specs.RecordList.{Key, RecordList, record_of, known_to, without}
use Rattle.record_spec.specs.Steps.{is_live, live_record, found, gone, is_behind, behind, kept, raised, learned, MayBe, written, written_keys}
use Rattle.record_spec.specs.Laws.{NoneFalls}

-- the moment of a record, where there is one
abbrev pub moment_or : Option Record → ℕ → ℕ
moment_or o low = option_map_or (λ r. r.moment) o low

-- a higher watermark lets nothing fall
pub moment_or-low : (o : Option Record) (low high : ℕ) → low ≤ high → moment_or o low ≤ moment_or o high
moment_or-low None low high h = h
moment_or-low (Some r) low high h = omega arith

-- ---- the records of all other keys
pub same_text : (q key : Key) → bytes_eq q key ≡ true → q ≡ key
same_text q key = (bytes_eq-Decides q key).0

pub text_itself : (key : Key) → bytes_eq key key ≡ true
text_itself key = (bytes_eq-Decides key key).1 refl

found_without : (q key : Key) (es : List (Key × Record)) → lookup (bytes_eq q) (without key es) ≡ cond (not (bytes_eq key q)) (lookup (bytes_eq q) es) None
found_without q key es = lookup-filter-keys (bytes_eq q) (λ k. not (bytes_eq key k)) (not (bytes_eq key q)) (λ k same. ap (λ k. not (bytes_eq key k)) (sym (same_text q k same))) es

pub lookup-without_same : (q key : Key) (es : List (Key × Record)) → bytes_eq q key ≡ true → lookup (bytes_eq q) (without key es) ≡ None
lookup-without_same q key es same =
    found_without q key es ∙ ap (λ b. cond (not b) (lookup (bytes_eq q) es) None) (subst (λ k. bytes_eq key k ≡ true) (sym (same_text q key same)) (text_itself key))

pub lookup-without_other : (q key : Key) (es : List (Key × Record)) → bytes_eq q key ≡ false → lookup (bytes_eq q) (without key es) ≡ lookup (bytes_eq q) es
lookup-without_other q key es other = found_without q key es ∙ by (bytes_eq key q) refl
  where
    by : (b : Bool) → bytes_eq key q ≡ b → cond (not b) (lookup (bytes_eq q) es) None ≡ lookup (bytes_eq q) es
    by true e = absurd (cc (text_itself q, ap (bytes_eq q) (same_text key q e), other))
    by false e = refl

-- ---- the first records alone
-- what is known of a key in one record more than there may be, once the last one went
pub moment_or-take : (n : ℕ) (es : List (Key × Record)) (q : Key) (low : ℕ) → length es ≤ n + 1
    → moment_or (lookup (bytes_eq q) es) low ≤ moment_or (lookup (bytes_eq q) (take n es)) (option_map_or (λ last. max low last.1.moment) (slice_get es n) low)
moment_or-take zero [] q low h = omega arith
moment_or-take (suc n) [] q low h = omega arith
moment_or-take zero (e ∷ []) q low h = by (bytes_eq q e.0)
  where
    by : (b : Bool) → moment_or (cond b (Some e.1) None) low ≤ max low e.1.moment
    by true = le-max_right low e.1.moment
    by false = le-max_left low e.1.moment
moment_or-take zero (e ∷ f ∷ es) q low h = absurd (omega arith)
moment_or-take (suc n) (e ∷ es) q low h = by (moment_or-take n es q low (omega arith)) (bytes_eq q e.0)
  where
    by : moment_or (lookup (bytes_eq q) es) low ≤ moment_or (lookup (bytes_eq q) (take n es)) (option_map_or (λ last. max low last.1.moment) (slice_get es n) low)
        → (b : Bool) → moment_or (cond b (Some e.1) (lookup (bytes_eq q) es)) low
        ≤ moment_or (cond b (Some e.1) (lookup (bytes_eq q) (take n es))) (option_map_or (λ last. max low last.1.moment) (slice_get es n) low)
    by rest true = omega arith
    by rest false = rest

-- no record is found among the first that isn't found among all
pub lookup-take : (n : ℕ) (es : List (Key × Record)) (q : Key) (r : Record) → lookup (bytes_eq q) (take n es) ≡ Some r → lookup (bytes_eq q) es ≡ Some r
lookup-take zero es q r e = cc
lookup-take (suc n) [] q r e = e
lookup-take (suc n) (f ∷ es) q r e = by (lookup-take n es q r) (bytes_eq q f.0) e
  where
    by : (lookup (bytes_eq q) (take n es) ≡ Some r → lookup (bytes_eq q) es ≡ Some r)
        → (b : Bool) → cond b (Some f.1) (lookup (bytes_eq q) (take n es)) ≡ Some r → cond b (Some f.1) (lookup (bytes_eq q) es) ≡ Some r
    by rest true e = e
    by rest false e = rest e

-- ---- steps
pub NoneFalls-refl : (list : RecordList) → NoneFalls list list
NoneFalls-refl list key = omega arith

pub NoneFalls-trans : (a b c : RecordList) → NoneFalls a b → NoneFalls b c → NoneFalls a c
NoneFalls-trans a b c f g key = let p = f key in let q = g key in omega arith

pub NoneFalls-raised : (list : RecordList) (moment : ℕ) → NoneFalls list (raised list moment)
NoneFalls-raised list moment key = moment_or-low (record_of list key) list.low (max list.low moment) (le-max_left list.low moment)

pub NoneFalls-gone : (list : RecordList) (key : Key) → NoneFalls list (gone list key)
NoneFalls-gone list key q = by (bytes_eq q key) refl
  where
    by : (b : Bool) → bytes_eq q key ≡ b → known_to list q ≤ known_to (gone list key) q
    by true e = subst (λ o. known_to list q ≤ moment_or o (max list.low (known_to list key))) (sym (lookup-without_same q key list.records e))
        (subst (λ k. known_to list k ≤ max list.low (known_to list key)) (sym (same_text q key e)) (le-max_right list.low (known_to list key)))
    by false e = subst (λ o. known_to list q ≤ moment_or o (max list.low (known_to list key))) (sym (lookup-without_other q key list.records e))
        (moment_or-low (record_of list q) list.low (max list.low (known_to list key)) (le-max_left list.low (known_to list key)))

-- a record put before all others is found, and of other keys what there was
pub moment_or-put : (list : RecordList) (key : Key) (r : Record) (q : Key) → known_to list key ≤ r.moment
    → known_to list q ≤ moment_or (cond (bytes_eq q key) (Some r) (lookup (bytes_eq q) (without key list.records))) list.low
moment_or-put list key r q rises = by (bytes_eq q key) refl
  where
    by : (b : Bool) → bytes_eq q key ≡ b → known_to list q ≤ moment_or (cond b (Some r) (lookup (bytes_eq q) (without key list.records))) list.low
    by true e = subst (λ k. known_to list k ≤ r.moment) (sym (same_text q key e)) rises
    by false e = subst (λ o. known_to list q ≤ moment_or o list.low) (sym (lookup-without_other q key list.records e)) (omega arith)

-- ---- how many records there are
pub length-without_le : (key : Key) (es : List (Key × Record)) → length (without key es) ≤ length es
length-without_le key es = omega (arith, length-filter_both (λ (e : Key × Record). not (bytes_eq key e.0)) (λ e. not (not (bytes_eq key e.0))) (λ e. refl) es)

-- one less, where the key has a record
pub length-without : (key : Key) (es : List (Key × Record)) (r : Record) → lookup (bytes_eq key) es ≡ Some r → length (without key es) + 1 ≤ length es
length-without key [] r e = cc
length-without key (f ∷ es) r e = by (λ e. length-without key es r e) (bytes_eq key f.0) e
  where
    by : (lookup (bytes_eq key) es ≡ Some r → length (without key es) + 1 ≤ length es)
        → (b : Bool) → cond b (Some f.1) (lookup (bytes_eq key) es) ≡ Some r → length (cond (not b) (f ∷ without key es) (without key es)) + 1 ≤ suc (length es)
    by rest true e = omega (arith, length-without_le key es)
    by rest false e = omega (arith, rest e)

-- ---- a test of two parts
pub or_false : (a b : Bool) → a || b ≡ false → (a ≡ false) × (b ≡ false)
or_false true b e = absurd (true≢false e)
or_false false b e = (refl, e)

pub or_true : (a b : Bool) → a || b ≡ true → (a ≡ true) ⊎ (b ≡ true)
or_true true b e = inl refl
or_true false b e = inr e

-- an observation that isn't behind is at least as new as all that is known of its key
pub not_behind : (list : RecordList) (key : Key) (moment : ℕ) → is_behind list key moment ≡ false → (list.low ≤ moment) × (known_to list key ≤ moment)
not_behind list key moment e =
    let parts = or_false (nat_lt moment list.low) (nat_lt moment (known_to list key)) e in
    (ltb-false moment list.low parts.0, ltb-false moment (known_to list key) parts.1)

-- ---- learning
pub NoneFalls-kept : (list : RecordList) (key : Key) (r : Record) → length list.records ≤ list.capacity → is_behind list key r.moment ≡ false → NoneFalls list (kept list key r)
NoneFalls-kept list key r few ahead q =
    let put = moment_or-put list key r q (not_behind list key r.moment ahead).1 in
    let short : length ((key, r) ∷ without key list.records) ≤ list.capacity + 1 = omega (arith, length-without_le key list.records) in
    let cut = moment_or-take list.capacity ((key, r) ∷ without key list.records) q list.low short in
    omega arith

pub NoneFalls-behind : (list : RecordList) (key : Key) (moment : ℕ) → NoneFalls list (behind list key moment)
NoneFalls-behind list key moment = by (nat_lt (known_to list key) moment)
  where
    by : (b : Bool) → NoneFalls list (cond b (gone list key) list)
    by true = NoneFalls-gone list key
    by false = NoneFalls-refl list

pub NoneFalls-learned : (list : RecordList) (key : Key) (r : Record) (came : Learned) → length list.records ≤ list.capacity → MayBe list key r.moment came → NoneFalls list (learned list key r came)
NoneFalls-learned list key r Kept few may = NoneFalls-kept list key r few may
NoneFalls-learned list key r Behind few may = NoneFalls-behind list key r.moment
NoneFalls-learned list key r NoMemory few may = NoneFalls-raised list r.moment

-- ---- own writes
pub NoneFalls-all_gone : (list : RecordList) (keys : List Key) → NoneFalls list (fold gone list keys)
NoneFalls-all_gone list [] = NoneFalls-refl list
NoneFalls-all_gone list (key ∷ keys) = NoneFalls-trans list (gone list key) (fold gone (gone list key) keys) (NoneFalls-gone list key) (NoneFalls-all_gone (gone list key) keys)

pub NoneFalls-written : (list : RecordList) (name : Key) (moment : ℕ) (implicit : Bool) → NoneFalls list (written list name moment implicit)
NoneFalls-written list name moment implicit =
    let after = fold gone list (written_keys implicit name) in
    NoneFalls-trans list after (raised after moment) (NoneFalls-all_gone list (written_keys implicit name)) (NoneFalls-raised after moment)

-- ---- finding
-- the record that is found is the key's, and lives
pub live_record_is : (list : RecordList) (key : Key) (now lifetime : ℕ) (r : Record) → live_record list key now lifetime ≡ Some r → (record_of list key ≡ Some r) × (now < r.tick + lifetime)
live_record_is list key now lifetime r e = at (record_of list key) refl e
  where
    by : (s : Record) (b : Bool) → is_live now lifetime s ≡ b → cond b (Some s) None ≡ Some r → (s ≡ r) × (now < r.tick + lifetime)
    by s true live e = let same : s ≡ r = cc in (same, subst (λ t. now < t.tick + lifetime) same (ltb-true now (s.tick + lifetime) live))
    by s false live e = cc

    at : (o : Option Record) → record_of list key ≡ o → option_and_then (λ s. cond (is_live now lifetime s) (Some s) None) o ≡ Some r → (record_of list key ≡ Some r) × (now < r.tick + lifetime)
    at None was e = cc
    at (Some s) was e = let is = by s (is_live now lifetime s) refl e in (was ∙ ap Some is.0, is.1)

-- what one finds leaves the list as it was, or puts the key's own record before the others
pub found_by : (list : RecordList) (key : Key) (now lifetime : ℕ) (P : RecordList → Type 0) → P list
    → ((r : Record) → record_of list key ≡ Some r → P (record list { records = (key, r) ∷ without key list.records })) → P (found list key now lifetime)
found_by list key now lifetime P stays front = at (live_record list key now lifetime) refl
  where
    at : (o : Option Record) → live_record list key now lifetime ≡ o → P (option_map_or (λ r. record list { records = (key, r) ∷ without key list.records }) o list)
    at None is = stays
    at (Some r) is = front r (live_record_is list key now lifetime r is).0

pub NoneFalls-found : (list : RecordList) (key : Key) (now lifetime : ℕ) → NoneFalls list (found list key now lifetime)
NoneFalls-found list key now lifetime = found_by list key now lifetime (NoneFalls list) (NoneFalls-refl list)
    (λ r was q. moment_or-put list key r q (subst (λ o. moment_or o list.low ≤ r.moment) (sym was) (omega arith)))
