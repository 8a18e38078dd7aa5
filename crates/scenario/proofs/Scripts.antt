-- One more fault at the end of a script.
use Rattle.std.proofs.Common.{◌≡◌, sym, ap, ◌∙◌, subst, ℕ, zero, suc, ◌<◌, List, [], ◌∷◌, ◌++◌, arith}
use Rattle.std.specs.Prelude.{◌≢◌, fold, Contains, All}
use Rattle.std.proofs.lemmas.List.{map-append}
use Rattle.std.proofs.lemmas.List.Elements.{All-push}
use Rattle.std.proofs.lemmas.List.Sums.{fold-append}
use Rattle.bucket_api.specs.declared.events.Mode.{Mode}
use Rattle.bucket_api.specs.declared.events.Mode.TheVariants.{Done, Failed, Lost}
use Rattle.bucket_api.specs.declared.events.Scripted.{Scripted}
use Rattle.bucket_api.specs.Scripts.{script_of, RisesAfter, IsScript}
use Rattle.scenario.specs.Format.{last_moment}

rises_push : (moment : ℕ) (fs : List Scripted) (f : Scripted) → RisesAfter moment (script_of fs) → fold (λ last f. f.moment) moment fs < f.moment → RisesAfter moment (script_of (fs ++ f ∷ []))
rises_push moment [] f rises later = (later, tt)
rises_push moment (x ∷ xs) f rises later = (rises.0, rises_push x.moment xs f rises.1 later)

-- a later fault that isn't `Done` may follow
pub script_push : (fs : List Scripted) (f : Scripted) → IsScript (script_of fs) → last_moment fs < f.moment → f.mode ≢ Done → IsScript (script_of (fs ++ f ∷ []))
script_push fs f is later mode = record {
  rises = rises_push 0 fs f is.rises later;
  faults = subst (All (λ f. f.1 ≢ Done)) (sym (map-append (λ f. (f.moment, f.mode)) fs (f ∷ []))) (All-push (λ f. f.1 ≢ Done) (script_of fs) (f.moment, f.mode) is.faults mode);
}

-- the modes of the table aren't `Done`
not_done : (mode : Mode) → Contains (Failed ∷ Lost ∷ []) mode → mode ≢ Done
not_done mode (zero, inside, is) done = let no : Failed ≡ Done = is ∙ done in absurd (cc no)
not_done mode (suc zero, inside, is) done = let no : Lost ≡ Done = is ∙ done in absurd (cc no)
not_done mode (suc (suc k), inside, is) done = absurd (omega (arith, inside))

-- a script with one more fault of the table, that is later than the last one
pub script_next : (fs new : List Scripted) (f : Scripted) (last : ℕ) → new ≡ fs ++ f ∷ [] → IsScript (script_of fs) × (last ≡ last_moment fs) → last < f.moment → Contains (Failed ∷ Lost ∷ []) f.mode → IsScript (script_of new) × (f.moment ≡ last_moment new)
script_next fs new f last is (script, last_is) later mode = (
  subst (λ xs. IsScript (script_of xs)) (sym is) (script_push fs f script (subst (λ n. n < f.moment) last_is later) (not_done f.mode mode)),
  sym (ap last_moment is ∙ fold-append (λ last f. f.moment) 0 fs (f ∷ [])),
)
