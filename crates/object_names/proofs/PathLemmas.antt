-- Prefixes and paths.
use Rattle.std.proofs.Common.{◌≡◌, ℕ, List, [], ◌∷◌, ◌++◌, refl, sym, ap, ◌∙◌, append_assoc}
use Rattle.std.proofs.lemmas.List.Elements.{All-push}
use Rattle.object_names.specs.Components.{IsComponent}
use Rattle.object_names.specs.Paths.{prefix_of, IsPrefix, IsPath}

-- one more component on the way
prefix_of-push : (parts : List (List ℕ)) (part : List ℕ) → prefix_of (parts ++ part ∷ []) ≡ prefix_of parts ++ (part ++ 47 ∷ [])
prefix_of-push [] part = refl
prefix_of-push (first ∷ parts) part = ap (λ rest. first ++ 47 ∷ rest) (prefix_of-push parts part) ∙ sym (append_assoc first (47 ∷ prefix_of parts) (part ++ 47 ∷ []))

-- a path and a slash are the prefix of a directory
pub IsPrefix-dir : (path : List ℕ) → IsPath path → IsPrefix (path ++ 47 ∷ [])
IsPrefix-dir path p = record {
  parts = p.parent.parts ++ p.part ∷ [];
  components = All-push IsComponent p.parent.parts p.part p.parent.components p.child;
  is = ap (λ text. text ++ 47 ∷ []) p.is
      ∙ append_assoc p.prefix p.part (47 ∷ [])
      ∙ ap (λ front. front ++ (p.part ++ 47 ∷ [])) p.parent.is
      ∙ sym (prefix_of-push p.parent.parts p.part);
}
