-- Each call under way sees what it saw at its take, whatever is taken and done meanwhile.
use Rattle.std.proofs.Common.{◌≡◌, ◌≢◌, ℕ, zero, suc, Bool, true, false, List, [], ◌∷◌, Option, Some, None, refl, sym, ap, subst, ◌∙◌}
use Rattle.std.specs.Prelude.{if◌then◌else◌, not, ◌&&◌, is_some, slice_get}
use Rattle.std.specs.List.{AllByRecursion}
use Rattle.claim_spec.proofs.Apart.{AreApart-swap}
use Rattle.claim_spec.specs.Conflicts.{AreApart}
use Rattle.claim_spec.specs.declared.claim.Claim.{Claim}
use Rattle.fuse_replies.specs.Errno.{eproto}
use Rattle.fuse_requests.specs.declared.request.Request.{Request}
use Rattle.fuse_requests.specs.declared.request.Request.TheVariants.{Init, Unknown}
use Rattle.mount_model.specs.Observing.{Observed}
use Rattle.mount_rules.specs.Rules.{AtTake}
use Rattle.mount_rules.specs.Dispatch.{claims, goes_on, is_init, is_silent, mount_after, plan, rules_of, view_in}
use Rattle.mount_rules.specs.Mount.{IsMount, MountModel, first_mount}
use Rattle.mount_rules.specs.Overlap.{ApartFromAll, HappenFrom, MayHappen, OpenCall, OpenCallsSee, SeesAsTaken, Shared, Turn, after_done, after_turn, after_turns, at_once, done, others_than, short, take, tick}
use Rattle.mount_rules.specs.Plans as plans
use Rattle.mount_rules.specs.Plans.{Plan, Step}
use Rattle.mount_rules.specs.View.{View}
use Rattle.mount_laws.proofs.Mounts.{IsMount-first}
use Rattle.mount_laws.proofs.RequestLaws.{agreement_stays, claims_protect, stays_mount}

-- whether a request goes on, by the agreement on a version and its own refusal
abbrev goes_with : Bool → Request → Option ℕ → Bool
goes_with agreed request refusal =
    not (is_silent request && not agreed) && not (is_some (if not agreed && not (is_silent request) && not (is_init request) then Some eproto else refusal))

abbrev quiet : Plan
quiet = λ answers. plans.done

abbrev refusal_of : Request → View → Option ℕ
refusal_of request view = (rules_of request).refusal view

abbrev plan_by : AtTake → Request → Bool → View → Step
plan_by at request on view = (if on then (rules_of request).plan (record { at = at; view = view }) else quiet) []

abbrev claims_by : Request → Bool → View → List Claim
claims_by request on view = if on then (rules_of request).claims view else []

-- before a version is agreed on, no request asks anything
no_plan : (at : AtTake) (mount : MountModel) (request : Request) → mount.negotiated ≡ false → plan at mount request [] ≡ plans.done
no_plan at mount request off = ap (λ b. plan_by at request b (view_in mount request)) (ap (λ b. goes_with b request (refusal_of request (view_in mount request))) off) ∙ by request
  where
    both : (on : Bool) → (if on then quiet else quiet) [] ≡ plans.done
    both true = refl
    both false = refl

    by : (r : Request) → plan_by at r (goes_with false r (refusal_of r (view_in mount request))) (view_in mount request) ≡ plans.done
    by (Init major minor readahead flags) = both (goes_with false (Init major minor readahead flags) (refusal_of (Init major minor readahead flags) (view_in mount request)))
    by (Unknown opcode) = both (goes_with false (Unknown opcode) (refusal_of (Unknown opcode) (view_in mount request)))
    by _ = refl

agreed_by : (at : AtTake) (mount : MountModel) (request : Request) → plan at mount request [] ≢ plans.done → mount.negotiated ≡ true
agreed_by at mount request asks = by mount.negotiated refl
  where
    by : (agreed : Bool) → mount.negotiated ≡ agreed → agreed ≡ true
    by true is = refl
    by false is = absurd (asks (no_plan at mount request is))

-- ---- one call under way
record IsGoing (mount : MountModel) (o : OpenCall) : Type 0 where
  sees : SeesAsTaken mount o
  asks : plan o.at mount o.request [] ≢ plans.done

-- another call that is done, and whose claims don't conflict, leaves it so
IsGoing-after : (mount : MountModel) (o : OpenCall) → IsMount mount → IsGoing mount o
    → (at : AtTake) (request : Request) (seen : List Observed) → AreApart o.claimed (claims mount request) → IsGoing (mount_after at mount request seen) o
IsGoing-after mount o is going at request seen apart = record {
  sees = record { view = same ∙ going.sees.view; goes = goes ∙ going.sees.goes; claimed = same_claims ∙ going.sees.claimed };
  asks = λ none. going.asks (sym same_plan ∙ none);
}
  where
    after : MountModel
    after = mount_after at mount request seen

    same : view_in (mount_after at mount request seen) o.request ≡ view_in mount o.request
    same = claims_protect o.at at mount o.request request seen is going.asks (subst (λ c. AreApart c (claims mount request)) (sym going.sees.claimed) apart)

    before_agreed : mount.negotiated ≡ true
    before_agreed = agreed_by o.at mount o.request going.asks

    goes : goes_on (mount_after at mount request seen) o.request ≡ goes_on mount o.request
    goes = ap (λ b. goes_with b o.request (refusal_of o.request (view_in (mount_after at mount request seen) o.request)))
        (agreement_stays at mount request seen before_agreed ∙ sym before_agreed)
        ∙ ap (λ v. goes_with mount.negotiated o.request (refusal_of o.request v)) same

    same_claims : claims (mount_after at mount request seen) o.request ≡ claims mount o.request
    same_claims = ap (λ b. claims_by o.request b (view_in (mount_after at mount request seen) o.request)) goes ∙ ap (claims_by o.request (goes_on mount o.request)) same

    same_plan : plan o.at (mount_after at mount request seen) o.request [] ≡ plan o.at mount o.request []
    same_plan = ap (λ b. plan_by o.at o.request b (view_in (mount_after at mount request seen) o.request)) goes
        ∙ ap (plan_by o.at o.request (goes_on mount o.request)) same

-- ---- all calls under way
abbrev AllApart : List OpenCall → Type 0
AllApart [] = Unit {0}
AllApart (o ∷ more) = ApartFromAll o.claimed more × AllApart more

record IsUnderWay (shared : Shared) : Type 0 where
  is : IsMount shared.mount
  each : AllByRecursion (IsGoing shared.mount) shared.open_calls
  apart : AllApart shared.open_calls

-- what holds of all holds of all but one
module _ (P : OpenCall → Type 0) where
  all_but : (place : ℕ) (os : List OpenCall) → AllByRecursion P os → AllByRecursion P (others_than place os)
  all_but zero [] all = all
  all_but (suc place) [] all = all
  all_but zero (o ∷ os) all = all.1
  all_but (suc place) (o ∷ os) all = (all.0, all_but place os all.1)

  at_place : (place : ℕ) (os : List OpenCall) (o : OpenCall) → slice_get os place ≡ Some o → AllByRecursion P os → P o
  at_place place [] o is all = absurd (let never : None ≡ Some o = is in cc)
  at_place zero (p ∷ os) o is all = let same : p ≡ o = cc in subst P same all.0
  at_place (suc place) (p ∷ os) o is all = at_place place os o is all.1

apart_but : (place : ℕ) (os : List OpenCall) → AllApart os → AllApart (others_than place os)
apart_but zero [] apart = apart
apart_but (suc place) [] apart = apart
apart_but zero (o ∷ os) apart = apart.1
apart_but (suc place) (o ∷ os) apart = (all_but (λ (q : OpenCall). AreApart o.claimed q.claimed) place os apart.0, apart_but place os apart.1)

-- the call at a place is apart from all others
apart_from_others : (place : ℕ) (os : List OpenCall) (o : OpenCall) → slice_get os place ≡ Some o → AllApart os → ApartFromAll o.claimed (others_than place os)
apart_from_others place [] o is apart = absurd (let never : None ≡ Some o = is in cc)
apart_from_others zero (p ∷ os) o is apart = let same : p ≡ o = cc in subst (λ (q : OpenCall). ApartFromAll q.claimed os) same apart.0
apart_from_others (suc place) (p ∷ os) o is apart =
    (AreApart-swap p.claimed o.claimed (at_place (λ (q : OpenCall). AreApart p.claimed q.claimed) place os o is apart.0), apart_from_others place os o is apart.1)

-- a call that is done leaves all that are apart from it
all_going : (mount : MountModel) → IsMount mount → (at : AtTake) (request : Request) (seen : List Observed) (os : List OpenCall)
    → ApartFromAll (claims mount request) os → AllByRecursion (IsGoing mount) os → AllByRecursion (IsGoing (mount_after at mount request seen)) os
all_going mount is at request seen [] apart going = tt
all_going mount is at request seen (o ∷ os) apart going = (
  IsGoing-after mount o is going.0 at request seen (AreApart-swap (claims mount request) o.claimed apart.0),
  all_going mount is at request seen os apart.1 going.1,
)

IsUnderWay-turn : (shared : Shared) (turn : Turn) → IsUnderWay shared → MayHappen shared turn → IsUnderWay (after_turn shared turn)
IsUnderWay-turn shared (take at request) way may = record {
  is = way.is;
  each = (record { sees = record { view = refl; goes = goes_by (goes_on shared.mount request) refl may.0; claimed = refl }; asks = may.0 }, way.each);
  apart = (may.1, way.apart);
}
  where
    goes_by : (on : Bool) → goes_on shared.mount request ≡ on → (plan_by at request on (view_in shared.mount request) ≢ plans.done) → on ≡ true
    goes_by true is asks = refl
    goes_by false is asks = absurd (asks refl)
IsUnderWay-turn shared (done place seen) way (o, there) =
    subst (λ (found : Option OpenCall). IsUnderWay (after_done shared place seen found)) (sym there) (record {
      is = stays_mount o.at shared.mount o.request seen way.is;
      each = all_going shared.mount way.is o.at o.request seen (others_than place shared.open_calls)
          (subst (λ c. ApartFromAll c (others_than place shared.open_calls)) (sym going.sees.claimed) (apart_from_others place shared.open_calls o there way.apart))
          (all_but (IsGoing shared.mount) place shared.open_calls way.each);
      apart = apart_but place shared.open_calls way.apart;
    })
  where
    going : IsGoing shared.mount o
    going = at_place (IsGoing shared.mount) place shared.open_calls o there way.each
IsUnderWay-turn shared (short place) way (o, there) = record {
  is = way.is;
  each = all_but (IsGoing shared.mount) place shared.open_calls way.each;
  apart = apart_but place shared.open_calls way.apart;
}
IsUnderWay-turn shared (at_once at request) way may = record {
  is = stays_mount at shared.mount request [] way.is;
  each = all_going shared.mount way.is at request [] shared.open_calls may way.each;
  apart = way.apart;
}
IsUnderWay-turn shared (tick seconds) way may = way

IsUnderWay-turns : (shared : Shared) (turns : List Turn) → IsUnderWay shared → HappenFrom shared turns → IsUnderWay (after_turns shared turns)
IsUnderWay-turns shared [] way happen = way
IsUnderWay-turns shared (turn ∷ turns) way happen =
    IsUnderWay-turns (after_turn shared turn) turns (IsUnderWay-turn shared turn way happen.0) happen.1

all_see : (mount : MountModel) (os : List OpenCall) → AllByRecursion (IsGoing mount) os → AllByRecursion (SeesAsTaken mount) os
all_see mount [] going = tt
all_see mount (o ∷ os) going = (going.0.sees, all_see mount os going.1)

pub open_calls_see : OpenCallsSee
open_calls_see turns happen =
    let way = IsUnderWay-turns (record { mount = first_mount; open_calls = [] }) turns (record { is = IsMount-first; each = tt; apart = tt }) happen in
    all_see _ _ way.each
