-- What a listing asks next, by the page that it was answered last.
use Rattle.std.proofs.Common.{◌≡◌, ◌≢◌, ℕ, ◌-◌, true, List, [], ◌∷◌, length, slice_get, Option, Some, None, IfSome, refl, ap, subst, ◌∙◌}
use Rattle.std.specs.Option.{option_map_or}
use Rattle.bucket_api.specs.Operation.{list}
use Rattle.bucket_api.specs.PageData.{PageData}
use Rattle.bucket_api.specs.declared.answers.Answer.{Answer}
use Rattle.bucket_api.specs.declared.answers.Answer.TheVariants as answers
use Rattle.mount_rules.specs.Plans.{Plan, Step, done, ask, plan_after}
use Rattle.mount_rules.specs.Requests.Opendir as spec
use Rattle.plan_names.specs.Errands.{Asked, IsTold}
use Rattle.plan_names.proofs.LastLemmas.{last_of, last_is}

-- the page behind the last one, unless that one ends the listing
abbrev pub behind : List ℕ → ℕ → Answer → Step
behind prefix max (answers.Page page) = option_map_or (λ key. ask (list prefix true max (Some key))) page.next done
behind prefix max _ = done

step_behind : (prefix : List ℕ) (max : ℕ) (after : Option (List ℕ)) (a : Answer) (more : List Answer)
    → Asked (spec.plan prefix max after) (a ∷ more) → spec.plan prefix max after (a ∷ more) ≡ behind prefix max (last_of a more)
step_behind prefix max after (answers.Page page) [] asked = refl
step_behind prefix max after (answers.Page page) (b ∷ more) asked = by (λ key. step_behind prefix max (Some key) b more) page.next asked.2
  where
    by : ((key : List ℕ) → Asked (spec.plan prefix max (Some key)) (b ∷ more) → spec.plan prefix max (Some key) (b ∷ more) ≡ behind prefix max (last_of b more))
        → (next : Option (List ℕ)) → Asked (λ told. option_map_or (λ key. spec.plan prefix max (Some key) told) next done) (b ∷ more)
        → option_map_or (λ key. spec.plan prefix max (Some key) (b ∷ more)) next done ≡ behind prefix max (last_of b more)
    by further None asked = absurd (asked.0 refl)
    by further (Some key) asked = further key asked
step_behind prefix max after a [] asked = refl
step_behind prefix max after a (b ∷ more) asked = absurd (asked.2.0 refl)

told_last : (plan : Plan) (a : Answer) (more : List Answer) → Asked plan (a ∷ more) → IsTold (last_of a more)
told_last plan a [] asked = asked.1
told_last plan a (b ∷ more) asked = told_last (plan_after plan a) b more asked.2

-- what a listing asks after these answers, by the last of them
asks_behind : (prefix : List ℕ) (max : ℕ) (told : List Answer) (last : Answer) → Asked (spec.plan prefix max None) told
    → Some last ≡ slice_get told (length told - 1) → spec.plan prefix max None told ≡ behind prefix max last
asks_behind prefix max [] last asked was = cc
asks_behind prefix max (a ∷ more) last asked was = step_behind prefix max None a more asked ∙ ap (behind prefix max) (last_is a more last was)

-- the last page goes on behind a key
goes_behind : (plan : Plan) (told : List Answer) (last : Answer) → Asked plan told → Some last ≡ slice_get told (length told - 1) → IsTold last
goes_behind plan [] last asked was = cc
goes_behind plan (a ∷ more) last asked was = subst IsTold (last_is a more last was) (told_last plan a more asked)

other_ends : (prefix : List ℕ) (max : ℕ) (last : Answer) → ((page : PageData) → last ≡ answers.Page page → ⊥) → behind prefix max last ≡ done
other_ends prefix max (answers.Page page) other = absurd (other page refl)
other_ends prefix max _ other = refl

module _ (prefix : List ℕ) (max : ℕ) (told : List Answer) (last : Answer) (asked : Asked (spec.plan prefix max None) told)
    (was : Some last ≡ slice_get told (length told - 1)) where
  -- an answer that is no page ends it
  pub ends_by_other : ((page : PageData) → last ≡ answers.Page page → ⊥) → spec.plan prefix max None told ≡ done
  ends_by_other other = asks_behind prefix max told last asked was ∙ other_ends prefix max last other

  -- and so does the last page
  pub ends_by_page : (page : PageData) → last ≡ answers.Page page → page.next ≡ None → spec.plan prefix max None told ≡ done
  ends_by_page page is none =
      asks_behind prefix max told last asked was ∙ ap (behind prefix max) is
      ∙ ap (λ next. option_map_or (λ key. ask (list prefix true max (Some key))) next done) none

  -- another page is followed by the one behind its key, which is not empty
  pub asks_after : (page : PageData) (key : List ℕ) → last ≡ answers.Page page → page.next ≡ Some key
      → spec.plan prefix max None told ≡ ask (list prefix true max (Some key))
  asks_after page key is some =
      asks_behind prefix max told last asked was ∙ ap (behind prefix max) is
      ∙ ap (λ next. option_map_or (λ k. ask (list prefix true max (Some k))) next done) some

  pub some_key : (page : PageData) (key : List ℕ) → last ≡ answers.Page page → page.next ≡ Some key → key ≢ []
  some_key page key is some =
      subst (λ next. IfSome next (λ k. k ≢ [])) some (subst IsTold is (goes_behind (spec.plan prefix max None) told last asked was))
