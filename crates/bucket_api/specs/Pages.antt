-- Pages that are asked one after another, joined.
use Rattle.std.specs.Prelude.{◌≡◌, ℕ, List, [], ◌∷◌, ◌++◌, Option, Some, None, MatchOption}
use Rattle.bucket_api.specs.PageData.{PageData}

-- each page is what `ask` gives after the `next` of the one before it, the first after `after`, and the last has no `next`
abbrev pub ArePages : (Option (List ℕ) → PageData) → Option (List ℕ) → List PageData → Type 0
ArePages ask after [] = ⊥
ArePages ask after (p ∷ ps) = (p ≡ ask after) × MatchOption p.next (ps ≡ []) (λ key. ArePages ask (Some key) ps)

-- the pages one after another as one page
abbrev pub joined : List PageData → PageData
joined [] = record { items = []; prefixes = []; next = None }
joined (p ∷ ps) = record { items = p.items ++ (joined ps).items; prefixes = p.prefixes ++ (joined ps).prefixes; next = None }
