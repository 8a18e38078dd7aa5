-- The claim on a parent: of all that a request on names claims, what keeps its view while other calls are done.
use Rattle.std.specs.Prelude.{◌≡◌, ◌≢◌, ℕ, true, List, [], ◌∷◌, Option, Some, None}
use Rattle.claim_spec.specs.Conflicts.{AreApart, IsClaimed}
use Rattle.claim_spec.specs.declared.claim.Claim.{Claim}
use Rattle.claim_spec.specs.declared.claim.ClaimKey.TheVariants as key
use Rattle.fuse_requests.specs.declared.request.Request.{Request}
use Rattle.fuse_requests.specs.declared.request.Request.TheVariants.{Create, Lookup, Mkdir, Mknod, Opendir, Rmdir, Symlink, Unlink}
use Rattle.mount_model.specs.Observing.{Observed}
use Rattle.mount_rules.specs.Rules.{AtTake}
use Rattle.mount_rules.specs.Claiming.{shares_node}
use Rattle.mount_rules.specs.Dispatch.{claims, goes_on, mount_after, plan, view_in}
use Rattle.mount_rules.specs.Mount.{IsMount, MountModel}
use Rattle.mount_rules.specs.Plans.{done}

-- the one directory in which a request names something, or which it lists; a RENAME has two, and sees more than these
abbrev pub parent_of : Request → Option ℕ
parent_of (Lookup node name) = Some node
parent_of (Create node name) = Some node
parent_of (Mknod node mode name) = Some node
parent_of (Symlink node name target) = Some node
parent_of (Mkdir node name) = Some node
parent_of (Unlink node name) = Some node
parent_of (Rmdir node name) = Some node
parent_of (Opendir node) = Some node
parent_of _ = None

-- its claim on that directory, beside others that look at it too
abbrev pub parent_claims : ℕ → List Claim
parent_claims node = shares_node node ∷ []

-- The law of claims, by this claim alone: a request that asks something sees the same after another call is done that
-- doesn't own its parent, whatever names the two claim. Without it another call may drop the parent.
abbrev pub ParentsProtect : Type 0
ParentsProtect = (mine at : AtTake) (mount : MountModel) (request other : Request) (seen : List Observed) (node : ℕ)
    → IsMount mount → parent_of request ≡ Some node → plan mine mount request [] ≢ done → AreApart (parent_claims node) (claims mount other)
    → view_in (mount_after at mount other seen) request ≡ view_in mount request

-- each request that is not refused claims its parent
abbrev pub ParentsAreClaimed : Type 0
ParentsAreClaimed = (mount : MountModel) (request : Request) (node : ℕ) → parent_of request ≡ Some node → goes_on mount request ≡ true
    → IsClaimed (claims mount request) (key.Node node)
