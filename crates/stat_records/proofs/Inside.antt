-- The table's value behind its fields: what each step of `lru` makes of it.
use Rattle.std.proofs.Common.{◌≡◌, ◌≢◌, ℕ, zero, suc, ◌+◌, ◌-◌, ◌<◌, ◌≤◌, max, Bool, true, false, cond, List, [], ◌∷◌, ◌++◌, fold, get_or, append-nil, length, take, slice_get, Option, Some, None, String, string_bytes, bytes_eq, is_some, IsSome, refl, sym, ap, subst, ◌∙◌, arith}
use borrow.Author.Tests.{eq-eqb, ne_eqb}
use Rattle.std.proofs.Math.Nat.{max-eq_left}
use Rattle.std.proofs.lemmas.List.{take_all, take_more}
use Rattle.std.proofs.lemmas.List.Sums.{fold-append}
use Rattle.std.proofs.lemmas.Option.{slice_get_past}
use Rattle.std.specs.List.{IsDistinct}
use Rattle.std.specs.Map.{lookup, lookup_entry, remove_entry, set_value, keys_of}
use Rattle.std.specs.Borrow.{MutBor}
use Rattle.std.specs.Option.{option_map_or, option_and_then, option_copied_mut}
use Rattle.std.specs.String.{string_eq}
use Rattle.lru.specs.LruCache.{LruCache, lru_cache, promoted, put_entries, displaced}
use Rattle.record_spec.specs.declared.records.Record.{Record}
use Rattle.record_spec.specs.RecordList.{Key, RecordList, record_of, known_to, without}
use Rattle.record_spec.specs.Steps.{is_live, live_record, found, gone, kept, cuts}
use Rattle.record_spec.proofs.KnownLaws.{moment_or, text_itself, live_record_is, length-without}
use Rattle.record_spec.proofs.WrittenLaws.{cuts-push}
use Rattle.stat_records.specs.Keys.{by_bytes}
use Rattle.stat_records.proofs.Views.{is_text, lookup-by_bytes, entry-by_bytes, lookup-entry, without-absent, by_bytes-remove, by_bytes-promoted, none_found, fronted, found_is}

raised_known : (o : Option Record) (low : ℕ) → option_map_or (λ r. max low r.moment) o low ≡ max low (moment_or o low)
raised_known None low = sym (max-eq_left {n = low} {m = low} (omega arith))
raised_known (Some r) low = refl

-- ---- the value behind the fields
module _ {Y : Type 0} where
  abbrev pub seen_as : List (String Y × Record) → ℕ → ℕ → RecordList
  seen_as es low capacity = record { records = by_bytes es; low = low; capacity = capacity }

  pub record_of-inside : (es : List (String Y × Record)) (low capacity : ℕ) (list : RecordList) (key : Key) → seen_as es low capacity ≡ list → record_of list key ≡ lookup (is_text key) es
  record_of-inside es low capacity list key is = ap (λ l. record_of l key) (sym is) ∙ lookup-by_bytes key es

  -- the table once a key's entry was taken out
  pub gone-inside : (es : List (String Y × Record)) (low capacity : ℕ) (list : RecordList) (key : Key) (new : LruCache (String Y) Record) (mark : ℕ) → seen_as es low capacity ≡ list
      → IsDistinct string_eq (keys_of es) → new ≡ lru_cache (remove_entry (is_text key) es) capacity → mark ≡ option_map_or (λ e. max low e.1.moment) (lookup_entry (is_text key) es) low
      → seen_as new.entries mark new.cap ≡ gone list key
  gone-inside es low capacity list key new mark is once taken risen =
      let records : by_bytes new.entries ≡ without key (by_bytes es) = ap (λ c. by_bytes c.entries) taken ∙ by_bytes-remove key es once in
      let low_is : mark ≡ max low (known_to (seen_as es low capacity) key) =
      risen ∙ lookup-entry key es (λ r. max low r.moment) low ∙ raised_known (lookup (is_text key) es) low
      ∙ ap (λ o. max low (moment_or o low)) (sym (lookup-by_bytes key es)) in
      (λ i. record { records = records i; low = low_is i; capacity = ap (λ c. c.cap) taken i }) ∙ ap (λ l. gone l key) is

  -- the table once a live record was found
  pub found-inside : (es : List (String Y × Record)) (low capacity : ℕ) (list : RecordList) (key : Key) (now lifetime : ℕ) (new : LruCache (String Y) Record) → seen_as es low capacity ≡ list
      → IsDistinct string_eq (keys_of es) → new ≡ lru_cache (promoted (is_text key) es) capacity → is_some (live_record list key now lifetime) ≡ true
      → seen_as new.entries low new.cap ≡ found list key now lifetime
  found-inside es low capacity list key now lifetime new is once moved live =
      let records : by_bytes new.entries ≡ option_map_or (λ r. (key, r) ∷ without key (by_bytes es)) (lookup (bytes_eq key) (by_bytes es)) (by_bytes es) =
      ap (λ c. by_bytes c.entries) moved ∙ by_bytes-promoted key es once in
      (λ i. record { records = records i; low = low; capacity = ap (λ c. c.cap) moved i })
      ∙ ap (λ l. fronted l key) is
      ∙ sym (found_is list key now lifetime live)

-- what was found is found again
pub live-found : (list : RecordList) (key : Key) (now lifetime : ℕ) → live_record (found list key now lifetime) key now lifetime ≡ live_record list key now lifetime
live-found list key now lifetime = by (live_record list key now lifetime) refl
  where
    by : (o : Option Record) → live_record list key now lifetime ≡ o
        → live_record (option_map_or (λ r. record list { records = (key, r) ∷ without key list.records }) o list) key now lifetime ≡ live_record list key now lifetime
    by None is = refl
    by (Some r) is =
        let was = (live_record_is list key now lifetime r is).0 in
        ap (λ b. option_and_then (λ r. cond (is_live now lifetime r) (Some r) None) (cond b (Some r) (lookup (bytes_eq key) (without key list.records)))) (text_itself key)
        ∙ sym (ap (option_and_then (λ r. cond (is_live now lifetime r) (Some r) None)) was)

-- a list with one more before it, up to a capacity
take-front : {X : Type 0} (n : ℕ) (x : X) (xs : List X) → 0 < n → take n (x ∷ xs) ≡ x ∷ take (n - 1) xs
take-front zero x xs h = absurd (omega arith)
take-front (suc n) x xs h = let same : suc n - 1 ≡ n = omega arith in rw same

at-front : {X : Type 0} (n : ℕ) (x : X) (xs : List X) → 0 < n → slice_get (x ∷ xs) n ≡ slice_get xs (n - 1)
at-front zero x xs h = absurd (omega arith)
at-front (suc n) x xs h = let same : suc n - 1 ≡ n = omega arith in rw same

-- ---- a new key's record before the others
module _ {Y : Type 0} where
  none_there : (q : Key) (es : List (String Y × Record)) → lookup (is_text q) es ≡ None → lookup_entry (is_text q) es ≡ None
  none_there q [] is = refl
  none_there q (e ∷ es) is = by (none_there q es) (is_text q e.0) is
    where
      by : (lookup (is_text q) es ≡ None → lookup_entry (is_text q) es ≡ None) → (b : Bool) → cond b (Some e.1) (lookup (is_text q) es) ≡ None → cond b (Some e) (lookup_entry (is_text q) es) ≡ None
      by rest true is = cc
      by rest false is = rest is

  by_bytes-take : (n : ℕ) (es : List (String Y × Record)) → by_bytes (take n es) ≡ take n (by_bytes es)
  by_bytes-take zero es = refl
  by_bytes-take (suc n) [] = refl
  by_bytes-take (suc n) (e ∷ es) = ap (λ rest. (string_bytes e.0, e.1) ∷ rest) (by_bytes-take n es)

  length_by_bytes : (es : List (String Y × Record)) → length (by_bytes es) ≡ length es
  length_by_bytes [] = refl
  length_by_bytes (e ∷ es) = ap suc (length_by_bytes es)

  moment-at : (low : ℕ) (es : List (String Y × Record)) (n : ℕ)
      → option_map_or (λ (e : String Y × Record). max low e.1.moment) (slice_get es n) low ≡ option_map_or (λ (e : Key × Record). max low e.1.moment) (slice_get (by_bytes es) n) low
  moment-at low [] n = refl
  moment-at low (e ∷ es) zero = refl
  moment-at low (e ∷ es) (suc n) = moment-at low es n

  -- the table once a key that it did not have was put in
  pub kept-inside : (es : List (String Y × Record)) (low capacity : ℕ) (list : RecordList) (key : Key) (r : Record)
      (text : String Y) (out : Option (String Y × Record)) (new : LruCache (String Y) Record) (mark : ℕ)
      → seen_as es low capacity ≡ list → 0 < capacity → record_of list key ≡ None → string_bytes text ≡ key
      → new ≡ lru_cache (put_entries string_eq (lru_cache es capacity) text r) capacity → out ≡ displaced string_eq (lru_cache es capacity) text r
      → mark ≡ option_map_or (λ e. max low e.1.moment) out low → seen_as new.entries mark new.cap ≡ kept list key r
  kept-inside es low capacity list key r text out new mark is room none named put went risen =
      let absent : lookup (is_text key) es ≡ None = sym (record_of-inside es low capacity list key is) ∙ none in
      let missing : lookup_entry (string_eq text) es ≡ None = ap (λ q. lookup_entry (is_text q) es) named ∙ none_there key es absent in
      let gone_none : lookup (string_eq text) es ≡ None = ap (λ q. lookup (is_text q) es) named ∙ absent in
      let alone : without key (by_bytes es) ≡ by_bytes es = without-absent key es absent in
      let entries : new.entries ≡ (text, r) ∷ take (capacity - 1) es =
      ap (λ c. c.entries) put ∙ ap (λ o. option_map_or (λ e. (e.0, r) ∷ remove_entry (string_eq text) es) o ((text, r) ∷ take (capacity - 1) es)) missing in
      let records : by_bytes new.entries ≡ take capacity ((key, r) ∷ without key (by_bytes es)) =
      ap by_bytes entries ∙ ap (λ k. (k, r) ∷ by_bytes (take (capacity - 1) es)) named ∙ ap (λ t. (key, r) ∷ t) (by_bytes-take (capacity - 1) es)
      ∙ sym (take-front capacity (key, r) (by_bytes es) room) ∙ ap (λ t. take capacity ((key, r) ∷ t)) (sym alone) in
      let low_is : mark ≡ option_map_or (λ e. max low e.1.moment) (slice_get ((key, r) ∷ without key (by_bytes es)) capacity) low =
      risen ∙ ap (λ o. option_map_or (λ (e : String Y × Record). max low e.1.moment) o low) (went ∙ ap (λ o. option_map_or (λ old. Some (text, old)) o (slice_get es (capacity - 1))) gone_none)
      ∙ moment-at low es (capacity - 1)
      ∙ ap (λ o. option_map_or (λ (e : Key × Record). max low e.1.moment) o low) (sym (at-front capacity (key, r) (by_bytes es) room) ∙ ap (λ t. slice_get ((key, r) ∷ t) capacity) (sym alone)) in
      (λ i. record { records = records i; low = low_is i; capacity = ap (λ c. c.cap) put i }) ∙ ap (λ l. kept l key r) is

  -- the table once a key that it had got another record
  pub replaced-inside : (es : List (String Y × Record)) (low capacity : ℕ) (list : RecordList) (key : Key) (r : Record) → seen_as es low capacity ≡ list
      → IsDistinct string_eq (keys_of es) → length es ≤ capacity → IsSome (record_of list key) → seen_as (set_value (is_text key) (promoted (is_text key) es) r) low capacity ≡ kept list key r
  replaced-inside es low capacity list key r is once few there = by (lookup_entry (is_text key) es) refl ∙ ap (λ l. kept l key r) is
    where
      records : (e : String Y × Record) → lookup_entry (is_text key) es ≡ Some e → by_bytes (set_value (is_text key) (e ∷ remove_entry (is_text key) es) r) ≡ (key, r) ∷ without key (by_bytes es)
      records e at =
          let key_is = (entry-by_bytes key es e at).0 in
          ap (λ b. by_bytes (cond b ((e.0, r) ∷ remove_entry (is_text key) es) (e ∷ set_value (is_text key) (remove_entry (is_text key) es) r))) (ap (bytes_eq key) key_is ∙ text_itself key)
          ∙ ap (λ k. (k, r) ∷ by_bytes (remove_entry (is_text key) es)) key_is ∙ ap (λ t. (key, r) ∷ t) (by_bytes-remove key es once)

      short : (e : String Y × Record) → lookup_entry (is_text key) es ≡ Some e → length ((key, r) ∷ without key (by_bytes es)) ≤ capacity
      short e at = omega (arith, length-without key (by_bytes es) e.1 (lookup-by_bytes key es ∙ (entry-by_bytes key es e at).1), length_by_bytes es)

      by : (o : Option (String Y × Record)) → lookup_entry (is_text key) es ≡ o
          → seen_as (set_value (is_text key) (option_map_or (λ e. e ∷ remove_entry (is_text key) es) o es) r) low capacity ≡ kept (seen_as es low capacity) key r
      by None missing = absurd (cc (there, record_of-inside es low capacity list key is, none_found key es missing))
      by (Some e) at = λ i. record {
        records = (records e at ∙ sym (take_all capacity ((key, r) ∷ without key (by_bytes es)) (short e at))) i;
        low = ap (λ o. option_map_or (λ (e : Key × Record). max low e.1.moment) o low) (sym (slice_get_past ((key, r) ∷ without key (by_bytes es)) capacity (short e at))) i;
        capacity = capacity;
      }

pub none_if : {X : Type 0} (o : Option X) → is_some o ≡ false → o ≡ None
none_if None e = refl
none_if (Some x) e = cc

-- what is lent is there where the value is
pub some_lent : {X : Type 0} (r : Option (MutBor X)) (o : Option X) → option_copied_mut r ≡ o → is_some o ≡ true → is_some r ≡ true
some_lent None o e there = cc
some_lent (Some x) o e there = refl

-- ---- the records of the cuts of a name, byte by byte
-- a slash makes one more go
pub cut_after : (list : RecordList) (name : Key) (at : ℕ) → at < length name → get_or name at 0 ≡ 47
    → gone (fold gone list (cuts (take at name))) (take (at + 1) name) ≡ fold gone list (cuts (take (at + 1) name))
cut_after list name at within slash =
    let more : take (at + 1) name ≡ take at name ++ get_or name at 0 ∷ [] = take_more name at 0 within in
    ap (gone (fold gone list (cuts (take at name)))) more
    ∙ sym (fold-append gone list (cuts (take at name)) ((take at name ++ get_or name at 0 ∷ []) ∷ []))
    ∙ ap (λ b. fold gone list (cuts (take at name) ++ cond b ((take at name ++ get_or name at 0 ∷ []) ∷ []) [])) (sym (eq-eqb (get_or name at 0) 47 slash))
    ∙ ap (fold gone list) (sym (cuts-push (take at name) (get_or name at 0)))
    ∙ ap (λ k. fold gone list (cuts k)) (sym more)

-- and another byte none
pub cut_before : (list : RecordList) (name : Key) (at : ℕ) → at < length name → get_or name at 0 ≢ 47
    → fold gone list (cuts (take at name)) ≡ fold gone list (cuts (take (at + 1) name))
cut_before list name at within other =
    let more : take (at + 1) name ≡ take at name ++ get_or name at 0 ∷ [] = take_more name at 0 within in
    ap (fold gone list) (sym (append-nil (cuts (take at name))))
    ∙ ap (λ b. fold gone list (cuts (take at name) ++ cond b ((take at name ++ get_or name at 0 ∷ []) ∷ []) [])) (sym (ne_eqb (get_or name at 0) 47 other))
    ∙ ap (fold gone list) (sym (cuts-push (take at name) (get_or name at 0)))
    ∙ ap (λ k. fold gone list (cuts k)) (sym more)

-- ---- how many there are
pub few-inside : {Y : Type 0} (es : List (String Y × Record)) (low capacity : ℕ) (list : RecordList) → seen_as es low capacity ≡ list → length es ≤ capacity
    → length list.records ≤ list.capacity
few-inside es low capacity list is few = subst (λ (l : RecordList). length l.records ≤ l.capacity) is (omega (arith, length_by_bytes es))
