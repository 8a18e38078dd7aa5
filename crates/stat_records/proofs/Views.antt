-- The entries of a table by the bytes of their keys: what one finds, takes out and puts in.
use Rattle.std.proofs.Common.{◌≡◌, ℕ, Bool, true, false, cond, not, List, [], ◌∷◌, Option, Some, None, String, string_bytes, bytes_eq, is_some, refl, sym, ap, subst, ◌∙◌}
use Rattle.std.proofs.lemmas.Map.Keys.{IsDistinct-head, IsDistinct-tail}
use Rattle.std.specs.List.{AllByRecursion, IsDistinct}
use Rattle.std.specs.Map.{lookup, lookup_entry, remove_entry, keys_of}
use Rattle.std.specs.Option.{option_map_or, option_and_then}
use Rattle.std.specs.String.{string_eq}
use Rattle.lru.specs.LruCache.{promoted}
use Rattle.record_spec.specs.declared.records.Record.{Record}
use Rattle.record_spec.specs.RecordList.{Key, RecordList, record_of, without}
use Rattle.record_spec.specs.Steps.{is_live, live_record, found}
use Rattle.record_spec.proofs.KnownLaws.{same_text, live_record_is}
use Rattle.stat_records.specs.Keys.{by_bytes}
use Rattle.stat_records.specs.Told.{told_of}

module _ {Y : Type 0} where
  -- the test by which the table is asked
  abbrev pub is_text : Key → String Y → Bool
  is_text q k = bytes_eq q (string_bytes k)

  pub lookup-by_bytes : (q : Key) (es : List (String Y × Record)) → lookup (bytes_eq q) (by_bytes es) ≡ lookup (is_text q) es
  lookup-by_bytes q [] = refl
  lookup-by_bytes q (e ∷ es) = ap (cond (bytes_eq q (string_bytes e.0)) (Some e.1)) (lookup-by_bytes q es)

  -- the entry that is found has the key and its record
  pub entry-by_bytes : (q : Key) (es : List (String Y × Record)) (e : String Y × Record) → lookup_entry (is_text q) es ≡ Some e → (string_bytes e.0 ≡ q) × (lookup (is_text q) es ≡ Some e.1)
  entry-by_bytes q [] e h = cc
  entry-by_bytes q (f ∷ es) e h = by (entry-by_bytes q es e) (is_text q f.0) refl h
    where
      by : (lookup_entry (is_text q) es ≡ Some e → (string_bytes e.0 ≡ q) × (lookup (is_text q) es ≡ Some e.1))
          → (b : Bool) → is_text q f.0 ≡ b → cond b (Some f) (lookup_entry (is_text q) es) ≡ Some e → (string_bytes e.0 ≡ q) × (cond b (Some f.1) (lookup (is_text q) es) ≡ Some e.1)
      by rest true is h = let same : f ≡ e = cc in (ap (λ g. string_bytes g.0) (sym same) ∙ sym (same_text q (string_bytes f.0) is), ap (λ g. Some g.1) same)
      by rest false is h = rest h

  -- the entry and the record are found alike
  pub lookup-entry : (q : Key) (es : List (String Y × Record)) {X : Type 0} (f : Record → X) (d : X)
      → option_map_or (λ (e : String Y × Record). f e.1) (lookup_entry (is_text q) es) d ≡ option_map_or f (lookup (is_text q) es) d
  lookup-entry q [] f d = refl
  lookup-entry q (e ∷ es) {X} f d = by (lookup-entry q es f d) (is_text q e.0)
    where
      by : option_map_or (λ (e : String Y × Record). f e.1) (lookup_entry (is_text q) es) d ≡ option_map_or f (lookup (is_text q) es) d
          → (b : Bool) → option_map_or (λ (e : String Y × Record). f e.1) (cond b (Some e) (lookup_entry (is_text q) es)) d ≡ option_map_or f (cond b (Some e.1) (lookup (is_text q) es)) d
      by rest true = refl
      by rest false = rest

  -- ---- what is left without a key
  without-none : (q : Key) (es : List (String Y × Record)) → AllByRecursion (λ k. is_text q k ≡ false) (keys_of es) → without q (by_bytes es) ≡ by_bytes es
  without-none q [] none = refl
  without-none q (e ∷ es) none =
      ap (λ b. cond (not b) ((string_bytes e.0, e.1) ∷ without q (by_bytes es)) (without q (by_bytes es))) none.0 ∙ ap (λ rest. (string_bytes e.0, e.1) ∷ rest) (without-none q es none.1)

  pub without-absent : (q : Key) (es : List (String Y × Record)) → lookup (is_text q) es ≡ None → without q (by_bytes es) ≡ by_bytes es
  without-absent q [] none = refl
  without-absent q (e ∷ es) none = by (without-absent q es) (is_text q e.0) none
    where
      by : (lookup (is_text q) es ≡ None → without q (by_bytes es) ≡ by_bytes es)
          → (b : Bool) → cond b (Some e.1) (lookup (is_text q) es) ≡ None → cond (not b) ((string_bytes e.0, e.1) ∷ without q (by_bytes es)) (without q (by_bytes es)) ≡ by_bytes (e ∷ es)
      by rest true none = cc
      by rest false none = ap (λ rest. (string_bytes e.0, e.1) ∷ rest) (rest none)

  pub by_bytes-remove : (q : Key) (es : List (String Y × Record)) → IsDistinct string_eq (keys_of es) → by_bytes (remove_entry (is_text q) es) ≡ without q (by_bytes es)
  by_bytes-remove q [] once = refl
  by_bytes-remove q (e ∷ es) once = by (by_bytes-remove q es (IsDistinct-tail string_eq e.0 (keys_of es) once)) (is_text q e.0) refl
    where
      by : by_bytes (remove_entry (is_text q) es) ≡ without q (by_bytes es)
          → (b : Bool) → is_text q e.0 ≡ b → by_bytes (cond b es (e ∷ remove_entry (is_text q) es)) ≡ cond (not b) ((string_bytes e.0, e.1) ∷ without q (by_bytes es)) (without q (by_bytes es))
      by rest true is = sym (without-none q es
          (subst (λ k. AllByRecursion (λ j. bytes_eq k (string_bytes j) ≡ false) (keys_of es)) (sym (same_text q (string_bytes e.0) is))
          (IsDistinct-head string_eq e.0 (keys_of es) once)))
      by rest false is = ap (λ rest. (string_bytes e.0, e.1) ∷ rest) rest

  pub none_found : (q : Key) (es : List (String Y × Record)) → lookup_entry (is_text q) es ≡ None → lookup (is_text q) es ≡ None
  none_found q [] is = refl
  none_found q (e ∷ es) is = by (none_found q es) (is_text q e.0) is
    where
      by : (lookup_entry (is_text q) es ≡ None → lookup (is_text q) es ≡ None) → (b : Bool) → cond b (Some e) (lookup_entry (is_text q) es) ≡ None → cond b (Some e.1) (lookup (is_text q) es) ≡ None
      by rest true is = cc
      by rest false is = rest is

  -- ---- the key's own record before the others
  pub by_bytes-promoted : (q : Key) (es : List (String Y × Record)) → IsDistinct string_eq (keys_of es)
      → by_bytes (promoted (is_text q) es) ≡ option_map_or (λ r. (q, r) ∷ without q (by_bytes es)) (lookup (bytes_eq q) (by_bytes es)) (by_bytes es)
  by_bytes-promoted q es once = by (lookup_entry (is_text q) es) refl
    where
      by : (o : Option (String Y × Record)) → lookup_entry (is_text q) es ≡ o
          → by_bytes (option_map_or (λ e. e ∷ remove_entry (is_text q) es) o es) ≡ option_map_or (λ r. (q, r) ∷ without q (by_bytes es)) (lookup (bytes_eq q) (by_bytes es)) (by_bytes es)
      by None is = sym (ap (λ o. option_map_or (λ r. (q, r) ∷ without q (by_bytes es)) o (by_bytes es)) (lookup-by_bytes q es ∙ none_found q es is))
      by (Some e) is =
          let found = entry-by_bytes q es e is in
          ap (λ rest. (string_bytes e.0, e.1) ∷ rest) (by_bytes-remove q es once)
          ∙ ap (λ k. (k, e.1) ∷ without q (by_bytes es)) found.0
          ∙ sym (ap (λ o. option_map_or (λ r. (q, r) ∷ without q (by_bytes es)) o (by_bytes es)) (lookup-by_bytes q es ∙ found.1))

-- ---- what one tells of a record
pub told-none : (list : RecordList) (key : Key) (now lifetime : ℕ) → record_of list key ≡ None → None ≡ told_of (live_record list key now lifetime)
told-none list key now lifetime none = sym (ap (λ o. told_of (option_and_then (λ r. cond (is_live now lifetime r) (Some r) None) o)) none)

pub told-dead : (list : RecordList) (key : Key) (now lifetime : ℕ) (r : Record) → record_of list key ≡ Some r → is_live now lifetime r ≡ false
    → None ≡ told_of (live_record list key now lifetime)
told-dead list key now lifetime r is dead =
    sym (ap (λ o. told_of (option_and_then (λ r. cond (is_live now lifetime r) (Some r) None) o)) is ∙ ap (λ b. told_of (cond b (Some r) None)) dead)

pub told-live : (list : RecordList) (key : Key) (now lifetime : ℕ) (r : Record) → record_of list key ≡ Some r → is_live now lifetime r ≡ true
    → Some (r.moment, r.shown) ≡ told_of (live_record list key now lifetime)
told-live list key now lifetime r is live =
    sym (ap (λ o. told_of (option_and_then (λ r. cond (is_live now lifetime r) (Some r) None) o)) is ∙ ap (λ b. told_of (cond b (Some r) None)) live)

-- the key's own record before the others
abbrev pub fronted : RecordList → Key → RecordList
fronted list key = record list { records = option_map_or (λ r. (key, r) ∷ without key list.records) (record_of list key) list.records }

-- a live record is found by its key alone
pub found_is : (list : RecordList) (key : Key) (now lifetime : ℕ) → is_some (live_record list key now lifetime) ≡ true
    → found list key now lifetime ≡ fronted list key
found_is list key now lifetime live = by (live_record list key now lifetime) refl live
  where
    by : (o : Option Record) → live_record list key now lifetime ≡ o → is_some o ≡ true
        → option_map_or (λ r. record list { records = (key, r) ∷ without key list.records }) o list ≡ fronted list key
    by None is some = cc
    by (Some r) is some = sym (ap (λ o. record list { records = option_map_or (λ r. (key, r) ∷ without key list.records) o list.records }) (live_record_is list key now lifetime r is).0)
