-- The claims of a FLUSH: of all that requests on a file claim, what keeps the pairs of its object while they are read and
-- put into a new generation.
use Rattle.std.specs.Prelude.{◌≡◌, ℕ, true, List, [], ◌∷◌, Some}
use Rattle.claim_spec.specs.Conflicts.{AreApart, IsOwned}
use Rattle.claim_spec.specs.declared.claim.Claim.{Claim}
use Rattle.claim_spec.specs.declared.claim.ClaimKey.TheVariants as key
use Rattle.fuse_requests.specs.declared.request.Request.{Request}
use Rattle.fuse_requests.specs.declared.request.Request.TheVariants.{Flush}
use Rattle.mount_model.specs.Observing.{Observed}
use Rattle.mount_rules.specs.Claiming.{owns_name, owns_node}
use Rattle.mount_rules.specs.Dispatch.{claims, goes_on, mount_after, view_in}
use Rattle.mount_rules.specs.Mount.{IsMount, MountModel}
use Rattle.mount_rules.specs.Rules.{AtTake}
use Rattle.mount_rules.specs.View.{Sight, sight_at}

-- its node and its name, both alone
abbrev pub flush_claims : ℕ → Sight → List Claim
flush_claims node file = owns_node node ∷ owns_name file.name ∷ []

-- The law of claims, by these two: a FLUSH sees the same after another call is done whose claims don't conflict with them,
-- and so carries the same pairs and the same bytes. Where it only shared its name, a look-up of that could change the
-- pairs that are kept of the object.
abbrev pub FlushesProtect : Type 0
FlushesProtect = (at : AtTake) (mount : MountModel) (other : Request) (seen : List Observed) (node fh : ℕ) (file : Sight)
    → IsMount mount → sight_at mount.table node ≡ Some file → goes_on mount (Flush node fh) ≡ true → AreApart (flush_claims node file) (claims mount other)
    → view_in (mount_after at mount other seen) (Flush node fh) ≡ view_in mount (Flush node fh)

-- each that is not refused has them
abbrev pub FlushesOwn : Type 0
FlushesOwn = (mount : MountModel) (node fh : ℕ) (file : Sight) → sight_at mount.table node ≡ Some file → goes_on mount (Flush node fh) ≡ true
    → IsOwned (claims mount (Flush node fh)) (key.Node node) × IsOwned (claims mount (Flush node fh)) (key.Name file.name)
