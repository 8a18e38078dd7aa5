-- A value written at the place of a name, seen as an insertion into the finite map.
use Rattle.std.proofs.Common.{◌≡◌, ℕ, ◌<◌, Bool, true, List, map, length, slice_get, position, Some, sym, ap, subst, ◌∙◌, inl, inr, String, string_bytes, nat_lt, arith}
use Rattle.std.proofs.lemmas.List.Quantifiers.{position-Some}
use Rattle.std.proofs.lemmas.Map.Text.{hash_map_updates_text}
use Rattle.std.proofs.lemmas.List.{length-map, get_or-map}
use Rattle.std.proofs.lemmas.Option.{slice_get_cases, cond_some}
use Rattle.std.specs.List.{position_or_len}
use borrow.Author.Tests.{ltb-true}
use Rattle.std.proofs.lemmas.Slice.Eq.{bytes_eq-Decides}
use Rattle.std.specs.Cmp.Lexicographic.{slice_cmp}
use Rattle.std.specs.FinMap as fin
use Rattle.std.specs.Ordering.{nat_cmp}
use Rattle.std.specs.Str.{bytes_eq}
use Rattle.std.specs.String.{string_eq, string_eq_equiv}
use Rattle.indexmap.specs.IndexMap.{IndexMap, IsUnique, with_value_at, keys}
use Rattle.indexmap.proofs.CallerLemmas.{updates-with_value_at}
use Rattle.spare_maps.specs.SpareMaps.{by_bytes}
use Rattle.spare_maps.proofs.Views.{names-insert}

-- the entry at the first key that passes
entry_at : {K X : Type 0} (t : K → Bool) (es : List (K × X)) (i : ℕ) → position t (map (λ e. e.0) es) ≡ Some i → (e : K × X) × (slice_get es i ≡ Some e) × (t e.0 ≡ true)
entry_at {K} {X} t es i at =
    let found = cond_some (nat_lt (position_or_len t (map (λ e. e.0) es)) (length (map (λ e. e.0) es))) (position_or_len t (map (λ e. e.0) es)) i at in
    let there : position_or_len t (map (λ e. e.0) es) < length (map (λ (e : K × X). e.0) es) = ltb-true _ _ found.0 in
    let place : position_or_len t (map (λ e. e.0) es) ≡ i = found.1 in
    let same : length (map (λ (e : K × X). e.0) es) ≡ length es = length-map es (λ (e : K × X). e.0) in
    elim (slice_get_cases es i).1 [
      | inl c ↦
          let passes = position-Some t (map (λ e. e.0) es) i c.0.0 at in
          (c.0, c.2, subst (λ k. t k ≡ true) (get_or-map (λ (e : K × X). e.0) es i c.0 c.0.0 c.1 ∙ ap (λ e. e.0) c.3) passes.1)
      | inr past ↦ absurd (omega arith)
    ]

pub names-set : {X S Y : Type 0} (m : IndexMap (String Y) X S) (name : List ℕ) (i : ℕ) (v : X) → IsUnique string_eq m
    → position (λ k. bytes_eq name (string_bytes k)) (keys m) ≡ Some i
    → fin.from_entries {R = slice_cmp nat_cmp} (by_bytes (with_value_at m i v).entries) ≡ fin.insert (fin.from_entries (by_bytes m.entries)) name v
names-set m name i v unique at =
    let e = entry_at (λ k. bytes_eq name (string_bytes k)) m.entries i at in
    let same : string_bytes e.0.0 ≡ name = sym ((bytes_eq-Decides name (string_bytes e.0.0)).0 e.2) in
    names-insert m.entries (with_value_at m i v).entries (string_bytes e.0.0) v
    (hash_map_updates_text (string_bytes e.0.0) m (with_value_at m i v) (Some v) (updates-with_value_at m i v string_eq_equiv unique e.0.0 e.0.1 e.1))
    ∙ ap (λ n. fin.insert (fin.from_entries (by_bytes m.entries)) n v) same
