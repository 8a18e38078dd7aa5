-- The placeholder's name is the path and a slash.
use Rattle.std.proofs.Common.{◌≡◌, ◌++◌, ◌∷◌, [], sym, ap, ◌∙◌}
use Rattle.std.specs.Str.{bytes_eq}
use Rattle.plan_names.proofs.PlaceholderLemmas.{no_placeholder, placeholder_by}
use Rattle.plan_names.proofs.removing.is_placeholder.Goals as goal

pub returns-in-Some : goal.returns-in-Some
returns-in-Some c =
    let ends : c.args.name.now ≡ c.in-Some.front.now ++ 47 ∷ [] = sym c.as_bytes.ensures.value ∙ c.in-Some.ensures in
    c.eq.ensures ∙ ap (bytes_eq c.in-Some.front.now) c.as_bytes-in-Some.ensures.value
    ∙ placeholder_by c.args.name.now c.args.path.now c.requires c.in-Some.front.now ends

pub returns-in-None : goal.returns-in-None
returns-in-None c = no_placeholder c.args.name.now c.args.path.now c.requires (λ front ends. c.in-None.ensures front (c.as_bytes.ensures.value ∙ ends))
