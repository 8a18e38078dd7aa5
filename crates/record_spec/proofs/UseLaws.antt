-- The list keeps up with what calls that are done have seen, used and written; so a record that is found may be used.
use Rattle.std.proofs.Common.{◌≡◌, ℕ, suc, ◌+◌, ◌<◌, ◌≤◌, max, Bool, true, false, cond, List, [], ◌∷◌, length, fold, Option, Some, None, IfSome, nat_lt, bytes_eq, All, Contains, refl, sym, ap, subst, ◌∙◌, ◌⊎◌, inl, inr, arith, ltb-true, ltb-false}
use Rattle.std.proofs.Math.Nat.{le-max_left, le-max_right}
use Rattle.std.proofs.lemmas.List.{length-take}
use Rattle.std.proofs.lemmas.List.Elements.{All-nil, All-cons, All-weaker}
use Rattle.std.specs.Map.{lookup}
use Rattle.record_spec.specs.declared.records.Record.{Record}
use Rattle.record_spec.specs.declared.records.Learned.{Learned}
use Rattle.record_spec.specs.declared.records.Learned.TheVariants.{Kept, Behind, NoMemory}
use Rattle.record_spec.specs.RecordList.{Key, RecordList, empty_list, record_of, known_to, without}
use Rattle.record_spec.specs.Steps.{live_record, found, gone, is_behind, behind, kept, raised, learned, MayBe, written, written_keys}
use Rattle.record_spec.specs.Past.{Past, no_past, Writes, IsLawful, KeepsUp}
use Rattle.record_spec.specs.Laws.{Act, find, saw, used, wrote, list_after, past_after, MayHappen, list_after_all, past_after_all, MayHappenAll, NoneFalls, FindsLawful, UsesAreLawful}
use Rattle.record_spec.proofs.KnownLaws.{moment_or, same_text, text_itself, lookup-without_other, moment_or-take, lookup-take, length-without_le, length-without, or_true, live_record_is, found_by, NoneFalls-learned, NoneFalls-written, NoneFalls-found, NoneFalls-refl, NoneFalls-trans, lookup-without_same}
use Rattle.record_spec.proofs.WrittenLaws.{known_to-written, was-gone, was-all_gone}

-- ---- what was seen
Contains-here : {X : Type 0} (x : X) (xs : List X) → Contains (x ∷ xs) x
Contains-here x xs = (0, omega arith, refl)

Contains-later : {X : Type 0} (y : X) (xs : List X) (x : X) → Contains xs x → Contains (y ∷ xs) x
Contains-later y xs x c = (suc c.0, let within = c.1 in omega arith, c.2)

-- ---- what a list knows of
abbrev KnowsSeen : RecordList → Key × Record → Type 0
KnowsSeen list u = u.1.moment ≤ known_to list u.0

abbrev KnowsUsed : RecordList → Key × ℕ → Type 0
KnowsUsed list u = u.1 ≤ known_to list u.0

abbrev KnowsWritten : Bool → RecordList → Key × ℕ → Type 0
KnowsWritten implicit list w = (key : Key) → Writes implicit w.0 key → w.1 ≤ known_to list key

still_seen : (old new : RecordList) (seen : List (Key × Record)) → NoneFalls old new → All (KnowsSeen old) seen → All (KnowsSeen new) seen
still_seen old new seen rises = All-weaker (KnowsSeen old) (KnowsSeen new) (λ u h. let up = rises u.0 in omega arith) seen

-- where nothing falls, a list keeps up whose records were all seen, of which it knows
KeepsUp-risen : (implicit : Bool) (past : Past) (old new : RecordList) (seen : List (Key × Record)) → KeepsUp implicit past old → NoneFalls old new → All (KnowsSeen new) seen
    → ((key : Key) (r : Record) → record_of new key ≡ Some r → Contains seen (key, r)) → length new.records ≤ new.capacity → KeepsUp implicit (record past { seen = seen }) new
KeepsUp-risen implicit past old new seen k rises known shown few = record {
  shown = shown;
  seen = known;
  used = All-weaker (KnowsUsed old) (KnowsUsed new) (λ u h. let up = rises u.0 in omega arith) past.used k.used;
  written = All-weaker (KnowsWritten implicit old) (KnowsWritten implicit new) (λ w h key writes. let up = rises key in let was = h key writes in omega arith) past.written k.written;
  few = few;
}

-- a list with no further record
KeepsUp-less : (implicit : Bool) (past : Past) (old new : RecordList) → KeepsUp implicit past old → NoneFalls old new
    → ((key : Key) (r : Record) → record_of new key ≡ Some r → record_of old key ≡ Some r) → length new.records ≤ new.capacity → KeepsUp implicit past new
KeepsUp-less implicit past old new k rises was few =
    KeepsUp-risen implicit past old new past.seen k rises (still_seen old new past.seen rises k.seen) (λ key r e. k.shown key r (was key r e)) few

-- the same, once one more was seen, of which it knows
KeepsUp-saw : (implicit : Bool) (past : Past) (old new : RecordList) (key : Key) (r : Record) → KeepsUp implicit past old → NoneFalls old new
    → ((q : Key) (s : Record) → record_of new q ≡ Some s → ((key ≡ q) × (r ≡ s)) ⊎ (record_of old q ≡ Some s)) → length new.records ≤ new.capacity → r.moment ≤ known_to new key
    → KeepsUp implicit (record past { seen = (key, r) ∷ past.seen }) new
KeepsUp-saw implicit past old new key r k rises was few known =
    KeepsUp-risen implicit past old new ((key, r) ∷ past.seen) k rises (All-cons (KnowsSeen new) (key, r) past.seen known (still_seen old new past.seen rises k.seen))
    (λ q s e. by q s (was q s e)) few
  where
    by : (q : Key) (s : Record) → ((key ≡ q) × (r ≡ s)) ⊎ (record_of old q ≡ Some s) → Contains ((key, r) ∷ past.seen) (q, s)
    by q s (inl is) = subst (λ t. Contains ((key, r) ∷ past.seen) (q, t)) is.1 (subst (λ t. Contains ((key, r) ∷ past.seen) (t, r)) is.0 (Contains-here (key, r) past.seen))
    by q s (inr was) = Contains-later (key, r) past.seen (q, s) (k.shown q s was)

-- ---- learning
few-gone : (list : RecordList) (key : Key) → length list.records ≤ list.capacity → length (gone list key).records ≤ list.capacity
few-gone list key few = omega (arith, length-without_le key list.records)

few-all_gone : (list : RecordList) (keys : List Key) → length list.records ≤ list.capacity → length (fold gone list keys).records ≤ (fold gone list keys).capacity
few-all_gone list [] few = few
few-all_gone list (key ∷ keys) few = few-all_gone (gone list key) keys (few-gone list key few)

-- the record that is kept is found, or has gone itself
known_to-kept : (list : RecordList) (key : Key) (r : Record) → length list.records ≤ list.capacity → r.moment ≤ known_to (kept list key r) key
known_to-kept list key r few =
    let put : List (Key × Record) = (key, r) ∷ without key list.records in
    let short : length put ≤ list.capacity + 1 = omega (arith, length-without_le key list.records) in
    let here : lookup (bytes_eq key) put ≡ Some r = ap (λ b. cond b (Some r) (lookup (bytes_eq key) (without key list.records))) (text_itself key) in
    subst (λ o. moment_or o list.low ≤ known_to (kept list key r) key) here (moment_or-take list.capacity put key list.low short)

-- each record after it was there, or is the new one
was-kept : (list : RecordList) (key : Key) (r : Record) (q : Key) (s : Record) → record_of (kept list key r) q ≡ Some s → ((key ≡ q) × (r ≡ s)) ⊎ (record_of list q ≡ Some s)
was-kept list key r q s e = by (bytes_eq q key) refl (lookup-take list.capacity ((key, r) ∷ without key list.records) q s e)
  where
    by : (b : Bool) → bytes_eq q key ≡ b → cond b (Some r) (lookup (bytes_eq q) (without key list.records)) ≡ Some s → ((key ≡ q) × (r ≡ s)) ⊎ (record_of list q ≡ Some s)
    by true is e = inl (sym (same_text q key is), cc)
    by false is e = inr (sym (lookup-without_other q key list.records is) ∙ e)

few-kept : (list : RecordList) (key : Key) (r : Record) → length (kept list key r).records ≤ list.capacity
few-kept list key r = simp length-take (omega arith)

-- one that is behind
-- no record of the key is left
none_left : (list : RecordList) (key : Key) → record_of (gone list key) key ≡ None
none_left list key = lookup-without_same key key list.records (text_itself key)

behind_known : (list : RecordList) (key : Key) (moment : ℕ) → is_behind list key moment ≡ true → moment ≤ known_to (behind list key moment) key
behind_known list key moment e = by (nat_lt (known_to list key) moment) refl
  where
    below : (nat_lt moment list.low ≡ true) ⊎ (nat_lt moment (known_to list key) ≡ true) → known_to list key < moment → moment ≤ list.low
    below (inl low) older = let l = ltb-true moment list.low low in omega arith
    below (inr newer) older = let l = ltb-true moment (known_to list key) newer in absurd (omega arith)

    by : (b : Bool) → nat_lt (known_to list key) moment ≡ b → moment ≤ known_to (cond b (gone list key) list) key
    by true older =
        let low = below (or_true (nat_lt moment list.low) (nat_lt moment (known_to list key)) e) (ltb-true (known_to list key) moment older) in
        let up = le-max_left list.low (known_to list key) in
        subst (λ o. moment ≤ moment_or o (max list.low (known_to list key))) (sym (none_left list key)) (omega arith)
    by false older = ltb-false (known_to list key) moment older

few-behind : (list : RecordList) (key : Key) (moment : ℕ) → length list.records ≤ list.capacity → length (behind list key moment).records ≤ (behind list key moment).capacity
few-behind list key moment few = by (nat_lt (known_to list key) moment)
  where
    by : (b : Bool) → length (cond b (gone list key) list).records ≤ (cond b (gone list key) list).capacity
    by true = few-gone list key few
    by false = few

was-behind : (list : RecordList) (key : Key) (moment : ℕ) (q : Key) (s : Record) → record_of (behind list key moment) q ≡ Some s → record_of list q ≡ Some s
was-behind list key moment q s e = by (nat_lt (known_to list key) moment) e
  where
    by : (b : Bool) → record_of (cond b (gone list key) list) q ≡ Some s → record_of list q ≡ Some s
    by true e = was-gone list key q s e
    by false e = e

pub KeepsUp-learned : (implicit : Bool) (past : Past) (list : RecordList) (key : Key) (r : Record) (came : Learned) → KeepsUp implicit past list → MayBe list key r.moment came
    → KeepsUp implicit (record past { seen = (key, r) ∷ past.seen }) (learned list key r came)
KeepsUp-learned implicit past list key r Kept k may =
    KeepsUp-saw implicit past list (kept list key r) key r k (NoneFalls-learned list key r Kept k.few may) (was-kept list key r) (few-kept list key r) (known_to-kept list key r k.few)
KeepsUp-learned implicit past list key r Behind k may =
    KeepsUp-saw implicit past list (behind list key r.moment) key r k (NoneFalls-learned list key r Behind k.few may)
    (λ q s e. inr (was-behind list key r.moment q s e)) (few-behind list key r.moment k.few) (behind_known list key r.moment may)
KeepsUp-learned implicit past list key r NoMemory k may =
    KeepsUp-saw implicit past list (raised list r.moment) key r k (NoneFalls-learned list key r NoMemory k.few may) (λ q s e. inr e) k.few
    (subst (λ o. r.moment ≤ moment_or o (max list.low r.moment)) (sym may.1) (le-max_right list.low r.moment))

-- ---- using, writing, finding
pub KeepsUp-used : (implicit : Bool) (past : Past) (list : RecordList) (key : Key) (moment : ℕ) → KeepsUp implicit past list → moment ≤ known_to list key
    → KeepsUp implicit (record past { used = (key, moment) ∷ past.used }) list
KeepsUp-used implicit past list key moment k known = record {
  shown = k.shown;
  seen = k.seen;
  used = All-cons (KnowsUsed list) (key, moment) past.used known k.used;
  written = k.written;
  few = k.few;
}

pub KeepsUp-written : (implicit : Bool) (past : Past) (list : RecordList) (name : Key) (moment : ℕ) → KeepsUp implicit past list
    → KeepsUp implicit (record past { written = (name, moment) ∷ past.written }) (written list name moment implicit)
KeepsUp-written implicit past list name moment k =
    let new : RecordList = written list name moment implicit in
    let less : KeepsUp implicit past new = KeepsUp-less implicit past list new k (NoneFalls-written list name moment implicit)
    (was-all_gone list (written_keys implicit name)) (few-all_gone list (written_keys implicit name) k.few) in
    record {
      shown = less.shown;
      seen = less.seen;
      used = less.used;
      written = All-cons (KnowsWritten implicit new) (name, moment) past.written (known_to-written list name moment implicit) less.written;
      few = less.few;
    }

pub KeepsUp-found : (implicit : Bool) (past : Past) (list : RecordList) (key : Key) (now lifetime : ℕ) → KeepsUp implicit past list → KeepsUp implicit past (found list key now lifetime)
KeepsUp-found implicit past list key now lifetime k =
    KeepsUp-less implicit past list (found list key now lifetime) k (NoneFalls-found list key now lifetime)
    (found_by list key now lifetime (λ new. (q : Key) (s : Record) → record_of new q ≡ Some s → record_of list q ≡ Some s) (λ q s e. e) front)
    (found_by list key now lifetime (λ new. length new.records ≤ new.capacity) k.few (λ r was. omega (arith, length-without key list.records r was, k.few)))
  where
    front : (r : Record) → record_of list key ≡ Some r → (q : Key) (s : Record) → lookup (bytes_eq q) ((key, r) ∷ without key list.records) ≡ Some s → record_of list q ≡ Some s
    front r was q s e = by (bytes_eq q key) refl e
      where
        by : (b : Bool) → bytes_eq q key ≡ b → cond b (Some r) (lookup (bytes_eq q) (without key list.records)) ≡ Some s → record_of list q ≡ Some s
        by true is e = ap (record_of list) (same_text q key is) ∙ was ∙ e
        by false is e = sym (lookup-without_other q key list.records is) ∙ e

-- ---- a record that is found may be used
pub IsLawful-live : (implicit : Bool) (past : Past) (list : RecordList) (key : Key) (now lifetime : ℕ) (r : Record) → KeepsUp implicit past list → live_record list key now lifetime ≡ Some r
    → IsLawful implicit past key now lifetime r
IsLawful-live implicit past list key now lifetime r k e = record {
  shown = k.shown key r is.0;
  live = is.1;
  unwritten = All-weaker (KnowsWritten implicit list) (λ w. Writes implicit w.0 key → w.1 ≤ r.moment)
      (λ w h writes. subst (λ n. w.1 ≤ n) known (h key writes)) past.written k.written;
  newest_seen = All-weaker (KnowsSeen list) (λ u. u.0 ≡ key → u.1.moment ≤ r.moment)
      (λ u h same. subst (λ n. u.1.moment ≤ n) (ap (known_to list) same ∙ known) h) past.seen k.seen;
  newest_used = All-weaker (KnowsUsed list) (λ u. u.0 ≡ key → u.1 ≤ r.moment)
      (λ u h same. subst (λ n. u.1 ≤ n) (ap (known_to list) same ∙ known) h) past.used k.used;
}
  where
    is : (record_of list key ≡ Some r) × (now < r.tick + lifetime)
    is = live_record_is list key now lifetime r e

    known : known_to list key ≡ r.moment
    known = ap (λ o. moment_or o list.low) is.0

pub finds_lawful : (list : RecordList) (key : Key) (now lifetime : ℕ) → FindsLawful list key now lifetime
finds_lawful list key now lifetime implicit past k = at (live_record list key now lifetime) refl
  where
    at : (o : Option Record) → live_record list key now lifetime ≡ o → IfSome o (IsLawful implicit past key now lifetime)
    at None e = tt
    at (Some r) e = IsLawful-live implicit past list key now lifetime r k e

-- ---- along acts
pub KeepsUp-empty : (implicit : Bool) (capacity : ℕ) → KeepsUp implicit no_past (empty_list capacity)
KeepsUp-empty implicit capacity = record {
  shown = λ key r e. cc;
  seen = All-nil (KnowsSeen (empty_list capacity));
  used = All-nil (KnowsUsed (empty_list capacity));
  written = All-nil (KnowsWritten implicit (empty_list capacity));
  few = omega arith;
}

pub NoneFalls-after : (implicit : Bool) (list : RecordList) (act : Act) → length list.records ≤ list.capacity → MayHappen list act → NoneFalls list (list_after implicit list act)
NoneFalls-after implicit list (find key now lifetime) few may = NoneFalls-found list key now lifetime
NoneFalls-after implicit list (saw key r came) few may = NoneFalls-learned list key r came few may
NoneFalls-after implicit list (used key moment) few may = NoneFalls-refl list
NoneFalls-after implicit list (wrote name moment) few may = NoneFalls-written list name moment implicit

pub KeepsUp-after : (implicit : Bool) (past : Past) (list : RecordList) (act : Act) → KeepsUp implicit past list → MayHappen list act
    → KeepsUp implicit (past_after past act) (list_after implicit list act)
KeepsUp-after implicit past list (find key now lifetime) k may = KeepsUp-found implicit past list key now lifetime k
KeepsUp-after implicit past list (saw key r came) k may = KeepsUp-learned implicit past list key r came k may
KeepsUp-after implicit past list (used key moment) k may = KeepsUp-used implicit past list key moment k may
KeepsUp-after implicit past list (wrote name moment) k may = KeepsUp-written implicit past list name moment k

pub KeepsUp-after_all : (implicit : Bool) (past : Past) (list : RecordList) (acts : List Act) → KeepsUp implicit past list → MayHappenAll implicit list acts
    → KeepsUp implicit (past_after_all past acts) (list_after_all implicit list acts)
KeepsUp-after_all implicit past list [] k may = k
KeepsUp-after_all implicit past list (act ∷ acts) k may =
    KeepsUp-after_all implicit (past_after past act) (list_after implicit list act) acts (KeepsUp-after implicit past list act k may.0) may.1

-- what was known once stays known
pub NoneFalls-after_all : (implicit : Bool) (past : Past) (list : RecordList) (acts : List Act) → KeepsUp implicit past list → MayHappenAll implicit list acts
    → NoneFalls list (list_after_all implicit list acts)
NoneFalls-after_all implicit past list [] k may = NoneFalls-refl list
NoneFalls-after_all implicit past list (act ∷ acts) k may =
    let new : RecordList = list_after implicit list act in
    NoneFalls-trans list new (list_after_all implicit new acts) (NoneFalls-after implicit list act k.few may.0)
    (NoneFalls-after_all implicit (past_after past act) new acts (KeepsUp-after implicit past list act k may.0) may.1)

pub uses_are_lawful : UsesAreLawful
uses_are_lawful implicit capacity acts may =
    let k = KeepsUp-after_all implicit no_past (empty_list capacity) acts (KeepsUp-empty implicit capacity) may in
    let list : RecordList = list_after_all implicit (empty_list capacity) acts in
    let past : Past = past_after_all no_past acts in
    record {
      keeps_up = k;
      lawful = λ key now lifetime. finds_lawful list key now lifetime implicit past k;
      rises = λ later may. NoneFalls-after_all implicit past list later k may;
    }
