-- The claim on its parent keeps what a request on names sees.
use Rattle.std.proofs.Common.{◌≡◌, ◌≢◌, ℕ, Bool, true, false, [], Option, Some, None, refl, sym, ap, inl}
use Rattle.std.proofs.lemmas.Bool.{false≢true}
use Rattle.std.specs.Prelude.{if◌then◌else◌}
use Rattle.claim_spec.specs.Conflicts.{IsClaimed}
use Rattle.claim_spec.specs.declared.claim.ClaimKey.TheVariants as key
use Rattle.fuse_requests.specs.declared.request.Request.{Request}
use Rattle.fuse_requests.specs.declared.request.Request.TheVariants.{Create, Lookup, Mkdir, Mknod, Opendir, Rmdir, Symlink, Unlink}
use Rattle.mount_rules.specs.Dispatch.{claims, goes_on, mount_after, rules_of, taken_at, view_in}
use Rattle.mount_rules.specs.Guards.{in_directory, part_refusal}
use Rattle.mount_rules.specs.Mount.{MountModel}
use Rattle.mount_rules.specs.Plans.{done}
use Rattle.mount_rules.specs.Requests.Symlink.{texts_refusal}
use Rattle.mount_rules.specs.Rules.{at_node}
use Rattle.mount_rules.specs.View.{Sight, sight_at, view_of}
use Rattle.object_names.specs.Paths.{bare_name}
use Rattle.mount_laws.proofs.Guarding.{in_directory-none}
use Rattle.mount_laws.proofs.Keeping.{no_Some, same_Some}
use Rattle.mount_laws.proofs.RequestLaws.{goes, leaves}
use Rattle.mount_laws.proofs.Requests.Mknod.{mknod_as_create}
use Rattle.mount_laws.proofs.Sights.{LooksClaimed, LooksClaimed-node, view_stays}
use Rattle.mount_laws.proofs.Sound.{GoesOn}
use Rattle.mount_laws.specs.Parents.{ParentsAreClaimed, ParentsProtect, parent_claims, parent_of}

-- a request that looks at its parent alone looks at a node that this one claim is on
at_parent : (mount : MountModel) (parent node : ℕ) (next : Sight → Option ℕ) → parent ≡ node → in_directory (sight_at mount.table parent) next ≡ None
    → LooksClaimed (parent_claims node) mount (at_node parent)
at_parent mount parent node next same free =
    let d = in_directory-none (sight_at mount.table parent) next free in
    LooksClaimed-node (parent_claims node) mount parent d.sight d.is (inl (ap key.Node (sym same)))

sees : (mount : MountModel) (request : Request) (node : ℕ) → parent_of request ≡ Some node → GoesOn (rules_of request) mount
    → LooksClaimed (parent_claims node) mount (rules_of request).looks
sees mount (Lookup parent name) node is on = at_parent mount parent node (part_refusal (bare_name name)) (same_Some is) on.free
sees mount (Create parent name) node is on = at_parent mount parent node (part_refusal name) (same_Some is) on.free
sees mount (Mknod parent mode name) node is on = at_parent mount parent node (part_refusal name) (same_Some is) (mknod_as_create mode name (view_of mount (at_node parent)) on.free)
sees mount (Symlink parent name target) node is on = at_parent mount parent node (texts_refusal name target) (same_Some is) on.free
sees mount (Mkdir parent name) node is on = at_parent mount parent node (part_refusal name) (same_Some is) on.free
sees mount (Unlink parent name) node is on = at_parent mount parent node (part_refusal (bare_name name)) (same_Some is) on.free
sees mount (Rmdir parent name) node is on = at_parent mount parent node (part_refusal name) (same_Some is) on.free
sees mount (Opendir parent) node is on = at_parent mount parent node (λ directory. None) (same_Some is) on.free
sees mount _ node is on = absurd (no_Some is)

pub parents_protect : ParentsProtect
parents_protect mine at mount request other seen node mount_is is asks apart = by (goes_on mount request) refl asks
  where
    by : (on : Bool) → goes_on mount request ≡ on
        → ((if on then (rules_of request).plan (taken_at mine mount request) else (λ answers. done)) [] ≢ done)
        → view_in (mount_after at mount other seen) request ≡ view_in mount request
    by true e asks =
        view_stays (parent_claims node) (claims mount other) mount (mount_after at mount other seen) apart
        (leaves at mount other seen mount_is) (rules_of request).looks (sees mount request node is (goes mount request mount_is e))
    by false e asks = absurd (asks refl)

pub parents_are_claimed : ParentsAreClaimed
parents_are_claimed mount request node is on = by (goes_on mount request) on
  where
    among : (r : Request) → parent_of r ≡ Some node → IsClaimed ((rules_of r).claims (view_in mount r)) (key.Node node)
    among (Lookup parent name) is = inl (ap key.Node (same_Some is))
    among (Create parent name) is = inl (ap key.Node (same_Some is))
    among (Mknod parent mode name) is = inl (ap key.Node (same_Some is))
    among (Symlink parent name target) is = inl (ap key.Node (same_Some is))
    among (Mkdir parent name) is = inl (ap key.Node (same_Some is))
    among (Unlink parent name) is = inl (ap key.Node (same_Some is))
    among (Rmdir parent name) is = inl (ap key.Node (same_Some is))
    among (Opendir parent) is = inl (ap key.Node (same_Some is))
    among _ is = absurd (no_Some is)

    by : (b : Bool) → b ≡ true → IsClaimed (if b then (rules_of request).claims (view_in mount request) else []) (key.Node node)
    by true e = among request is
    by false e = absurd (false≢true e)
