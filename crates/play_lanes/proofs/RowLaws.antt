-- The rows of a table as the code keeps them: each a vector, which is seen as its items.
use Rattle.std.proofs.Common.{◌≡◌, ◌<◌, ◌≤◌, ℕ, zero, suc, ◌+◌, ◌-◌, List, [], ◌∷◌, ◌++◌, length, map, slice_get, get_or, Option, Some, None, unwrap_or, refl, sym, ap, ◌∙◌, arith}
use Rattle.std.specs.Prelude.{option_map}
use Rattle.std.specs.List.{slice_set}
use Rattle.std.proofs.lemmas.Option.{slice_get-get_or, slice_get-map, slice_get_past}
use Rattle.play_lanes.specs.Tables.{row_of, with_last}

module _ {V X : Type 0} (items : V → List X) where
  -- one more item in the last row
  pub last_written : (rows : List V) (k : ℕ) (row added : V) (x : X) → k + 1 ≡ length rows → row ≡ get_or rows k row → items added ≡ items row ++ x ∷ []
      → map items (slice_set rows k added) ≡ with_last (map items rows) x
  last_written [] k row added x last is more = absurd (omega (arith, last))
  last_written (r ∷ []) zero row added x last is more = ap (λ list. list ∷ []) (more ∙ ap (λ v. items v ++ x ∷ []) is)
  last_written (r ∷ []) (suc k) row added x last is more = absurd (omega (arith, last))
  last_written (r ∷ next ∷ rows) zero row added x last is more = absurd (omega (arith, last))
  last_written (r ∷ next ∷ rows) (suc k) row added x last is more = ap (λ list. items r ∷ list) (last_written (next ∷ rows) k row added x (omega (arith, last)) is more)

  pub none_written : (rows : List V) (x : X) → (0 < length rows → ⊥) → map items rows ≡ with_last (map items rows) x
  none_written [] x never = refl
  none_written (r ∷ rows) x never = absurd (never (omega arith))

  -- the row of a lane
  pub row_there : (rows : List V) (lane : ℕ) (row : V) → 1 ≤ lane → lane - 1 < length rows → row ≡ get_or rows (lane - 1) row → items row ≡ row_of (map items rows) lane
  row_there rows zero row some within is = absurd (omega (arith, some))
  row_there rows (suc k) row some within is =
      let same : suc k - 1 ≡ k = omega arith in
      let inside : k < length rows = omega (arith, within) in
      ap items (is ∙ ap (λ n. get_or rows n row) same)
      ∙ sym (ap (λ (found : Option (List X)). unwrap_or found []) (slice_get-map items rows k ∙ ap (option_map items) (slice_get-get_or rows k row inside)))

  pub row_missing : (rows : List V) (lane : ℕ) → length rows ≤ lane - 1 → [] ≡ row_of (map items rows) lane
  row_missing rows zero past = refl
  row_missing rows (suc k) past =
      let beyond : length rows ≤ k = omega (arith, past) in
      sym (ap (λ (found : Option (List X)). unwrap_or found []) (slice_get-map items rows k ∙ ap (option_map items) (slice_get_past rows k beyond)))
