-- Calls under way beside one another on one mount: each is taken, asks its bucket, and is done; calls that ask nothing are
-- taken and done in one turn; and the clock ticks. The law of claims along all of that.
use Rattle.std.specs.Prelude.{◌≡◌, ◌≢◌, ℕ, List, [], ◌∷◌, slice_get, zero, suc, true, Option, Some, None}
use Rattle.std.specs.List.{AllByRecursion}
use Rattle.claim_spec.specs.Conflicts.{AreApart}
use Rattle.claim_spec.specs.declared.claim.Claim.{Claim}
use Rattle.fuse_requests.specs.declared.request.Request.{Request}
use Rattle.mount_model.specs.Observing.{Observed}
use Rattle.mount_rules.specs.Dispatch.{claims, goes_on, mount_after, plan, view_in}
use Rattle.mount_rules.specs.Mount.{MountModel, first_mount}
use Rattle.mount_rules.specs.Plans as plans
use Rattle.mount_rules.specs.Rules.{AtTake}
use Rattle.mount_rules.specs.View.{View}

-- A call that was taken and is not done: its request, what it has from its take, what it saw then and the claims that it
-- holds.
pub record OpenCall : Type 0 where
  pub request : Request
  pub at : AtTake
  pub view : View
  pub claimed : List Claim

-- a mount, and the calls that are under way on it
pub record Shared : Type 0 where
  pub mount : MountModel
  pub open_calls : List OpenCall

-- What happens: a call is taken; the open call at a place is done, having observed this; or it ends short, for want of
-- memory, and leaves the mount as it was; a call that asks nothing is taken and done; the clock ticks.
pub data Turn : Type 0 where
  take : (at : AtTake) (request : Request) → Turn
  done : (place : ℕ) (seen : List Observed) → Turn
  short : (place : ℕ) → Turn
  at_once : (at : AtTake) (request : Request) → Turn
  tick : (seconds : ℕ) → Turn

-- the calls but the one at a place
abbrev pub others_than : ℕ → List OpenCall → List OpenCall
others_than place [] = []
others_than zero (o ∷ more) = more
others_than (suc place) (o ∷ more) = o ∷ others_than place more

abbrev pub opened_at : AtTake → MountModel → Request → OpenCall
opened_at at mount request = record { request = request; at = at; view = view_in mount request; claimed = claims mount request }

-- the claims conflict with those of no open call
abbrev pub ApartFromAll : List Claim → List OpenCall → Type 0
ApartFromAll claimed others = AllByRecursion (λ (o : OpenCall). AreApart claimed o.claimed) others

-- The turn may happen: a call is taken, or made at once, where its claims conflict with none that is held; one that is
-- taken asks something; and the call that ends is under way.
abbrev pub MayHappen : Shared → Turn → Type 0
MayHappen shared (take at request) =
    (plan at shared.mount request [] ≢ plans.done) × ApartFromAll (claims shared.mount request) shared.open_calls
MayHappen shared (done place seen) = (o : OpenCall) × (slice_get shared.open_calls place ≡ Some o)
MayHappen shared (short place) = (o : OpenCall) × (slice_get shared.open_calls place ≡ Some o)
MayHappen shared (at_once at request) = ApartFromAll (claims shared.mount request) shared.open_calls
MayHappen shared (tick seconds) = Unit {0}

abbrev pub after_done : Shared → ℕ → List Observed → Option OpenCall → Shared
after_done shared place seen None = shared
after_done shared place seen (Some o) =
    record { mount = mount_after o.at shared.mount o.request seen; open_calls = others_than place shared.open_calls }

abbrev pub after_turn : Shared → Turn → Shared
after_turn shared (take at request) = record shared { open_calls = opened_at at shared.mount request ∷ shared.open_calls }
after_turn shared (done place seen) = after_done shared place seen (slice_get shared.open_calls place)
after_turn shared (short place) = record shared { open_calls = others_than place shared.open_calls }
after_turn shared (at_once at request) = record shared { mount = mount_after at shared.mount request [] }
after_turn shared (tick seconds) = shared

-- the turns happen one after another, from this on
abbrev pub HappenFrom : Shared → List Turn → Type 0
HappenFrom shared [] = Unit {0}
HappenFrom shared (turn ∷ turns) = MayHappen shared turn × HappenFrom (after_turn shared turn) turns

abbrev pub after_turns : Shared → List Turn → Shared
after_turns shared [] = shared
after_turns shared (turn ∷ turns) = after_turns (after_turn shared turn) turns

-- a call under way sees at this mount what it saw at its take, is not refused, and holds the claims that it would have now
pub record SeesAsTaken (mount : MountModel) (o : OpenCall) : Type 0 where
  pub view : view_in mount o.request ≡ o.view
  pub goes : goes_on mount o.request ≡ true
  pub claimed : claims mount o.request ≡ o.claimed

-- The law of claims, along all turns: whatever calls were taken and done meanwhile, each call under way sees what it saw
-- at its take. So it asks what it asked, and its end is by the rules.
abbrev pub OpenCallsSee : Type 0
OpenCallsSee = (turns : List Turn) → HappenFrom (record { mount = first_mount; open_calls = [] }) turns
    → AllByRecursion (SeesAsTaken (after_turns (record { mount = first_mount; open_calls = [] }) turns).mount)
    (after_turns (record { mount = first_mount; open_calls = [] }) turns).open_calls
