-- The placeholder of a path's directory is named by the path and a slash, and by nothing else.
use Rattle.std.proofs.Common.{◌≡◌, ◌≢◌, ◌≤◌, ◌++◌, ℕ, Bool, true, false, List, [], ◌∷◌, refl, sym, ap, ◌∙◌, length, arith}
use Rattle.std.proofs.lemmas.Bool.{false≢true}
use Rattle.std.proofs.lemmas.List.{append_cancel_right}
use Rattle.std.proofs.lemmas.Slice.Eq.{bytes_eq-Decides}
use Rattle.std.specs.Str.{bytes_eq}
use Rattle.object_names.specs.Paths.{IsPath, dir_prefix_of}

-- a path is not empty
dir_prefix_of-path : (path : List ℕ) → IsPath path → dir_prefix_of path ≡ path ++ 47 ∷ []
dir_prefix_of-path [] is = absurd (none is.prefix is.part is.is is.child.named)
  where
    none : (prefix part : List ℕ) → [] ≡ prefix ++ part → 1 ≤ length part → ⊥
    none [] [] e some = omega (arith, some)
    none [] (byte ∷ part) e some = cc
    none (byte ∷ prefix) part e some = cc
dir_prefix_of-path (byte ∷ path) is = refl

module _ (name path : List ℕ) (is : IsPath path) where
  -- a test for the placeholder's name is that of what stands before the slash
  pub placeholder_by : (front : List ℕ) → name ≡ front ++ 47 ∷ [] → bytes_eq front path ≡ bytes_eq name (dir_prefix_of path)
  placeholder_by front ends = by (bytes_eq front path) (bytes_eq name (dir_prefix_of path)) refl refl
    where
      by : (a b : Bool) → bytes_eq front path ≡ a → bytes_eq name (dir_prefix_of path) ≡ b → a ≡ b
      by true true same one = refl
      by false false same one = refl
      by true false same one =
          let whole : name ≡ dir_prefix_of path = ends ∙ ap (λ f. f ++ 47 ∷ []) ((bytes_eq-Decides front path).0 same) ∙ sym (dir_prefix_of-path path is) in
          absurd (false≢true (sym one ∙ (bytes_eq-Decides name (dir_prefix_of path)).1 whole))
      by false true same one =
          let whole : front ++ 47 ∷ [] ≡ path ++ 47 ∷ [] = sym ends ∙ (bytes_eq-Decides name (dir_prefix_of path)).0 one ∙ dir_prefix_of-path path is in
          absurd (false≢true (sym same ∙ (bytes_eq-Decides front path).1 (append_cancel_right front path (47 ∷ []) whole)))

  -- a name without a slash at its end is none
  pub no_placeholder : ((front : List ℕ) → name ≢ front ++ 47 ∷ []) → false ≡ bytes_eq name (dir_prefix_of path)
  no_placeholder other = by (bytes_eq name (dir_prefix_of path)) refl
    where
      by : (b : Bool) → bytes_eq name (dir_prefix_of path) ≡ b → false ≡ b
      by true one = absurd (other path ((bytes_eq-Decides name (dir_prefix_of path)).0 one ∙ dir_prefix_of-path path is))
      by false one = refl
