-- The claims of a FLUSH on its node and its name keep what it sees.
use Rattle.std.proofs.Common.{◌≡◌, Bool, true, false, [], refl, ap, inl, inr}
use Rattle.std.proofs.lemmas.Bool.{false≢true}
use Rattle.std.specs.Prelude.{if◌then◌else◌}
use Rattle.claim_spec.specs.Conflicts.{IsOwned}
use Rattle.claim_spec.specs.declared.claim.ClaimKey.TheVariants as key
use Rattle.fuse_requests.specs.declared.request.Request.TheVariants.{Flush}
use Rattle.mount_rules.specs.Dispatch.{claims, goes_on, mount_after}
use Rattle.mount_rules.specs.Requests.Flush as flush
use Rattle.mount_rules.specs.View.{view_of}
use Rattle.mount_laws.proofs.RequestLaws.{leaves, unrefused}
use Rattle.mount_laws.proofs.Requests.Flush.{LooksClaimed-flush}
use Rattle.mount_laws.proofs.Sights.{view_stays}
use Rattle.mount_laws.proofs.Standing.{name_seen}
use Rattle.mount_laws.specs.Flushes.{FlushesOwn, FlushesProtect, flush_claims}

pub flushes_protect : FlushesProtect
flushes_protect at mount other seen node fh file is sees on apart =
    view_stays (flush_claims node file) (claims mount other) mount (mount_after at mount other seen) apart (leaves at mount other seen is) (flush.looks node fh)
    (LooksClaimed-flush mount node fh (unrefused mount (Flush node fh) on) (flush_claims node file) file sees (inl (refl, refl)) (inr (inl (refl, refl))))

pub flushes_own : FlushesOwn
flushes_own mount node fh file sees on = by (goes_on mount (Flush node fh)) on
  where
    by : (b : Bool) → b ≡ true
        → IsOwned (if b then flush.claims node (view_of mount (flush.looks node fh)) else []) (key.Node node)
        × IsOwned (if b then flush.claims node (view_of mount (flush.looks node fh)) else []) (key.Name file.name)
    by true e = (inl (refl, refl), inr (inl (ap (λ seen. key.Name (name_seen seen)) sees, refl)))
    by false e = absurd (false≢true e)
