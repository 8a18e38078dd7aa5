-- Pages that are added one after another are one page.
use Rattle.std.proofs.Common.{◌≡◌, ℕ, List, [], ◌∷◌, ◌++◌, map, append-nil, append_assoc, sym, ap, ◌∙◌}
use Rattle.std.proofs.lemmas.List.{map-append}
use Rattle.bucket_api.specs.PageData.{PageData}
use Rattle.bucket_api.specs.Pages.{joined}
use Rattle.object_names.specs.ShownNames.{Listed}
use Rattle.object_names.specs.declared.shown.NodeKind.{NodeKind}
use Rattle.dir_listing.specs.Pages.{item_of, with_page, with_pages}

made : Listed → List (List ℕ × NodeKind) → List (List ℕ) → Listed
made listed items prefixes = record { prefix = listed.prefix; items = items; prefixes = prefixes; implicit = listed.implicit }

-- so it does not matter how a list was cut into pages
pub with_pages-joined : (listed : Listed) (pages : List PageData) → with_pages listed pages ≡ with_page listed (joined pages)
unfolding made
with_pages-joined listed [] = sym (ap (λ items. made listed items (listed.prefixes ++ [])) (append-nil listed.items) ∙ ap (made listed listed.items) (append-nil listed.prefixes))
with_pages-joined listed (page ∷ pages) =
    with_pages-joined (with_page listed page) pages
    ∙ ap (λ items. made listed items ((listed.prefixes ++ page.prefixes) ++ (joined pages).prefixes)) (append_assoc listed.items (map item_of page.items) (map item_of (joined pages).items) ∙ ap (λ items. listed.items ++ items) (sym (map-append item_of page.items (joined pages).items)))
    ∙ ap (made listed (listed.items ++ map item_of (page.items ++ (joined pages).items))) (append_assoc listed.prefixes page.prefixes (joined pages).prefixes)
