-- What an RMDIR that nothing refuses removes.
use Rattle.std.proofs.Common.{◌≡◌, ℕ, List, Option, Some, None, sym, ap, subst, ◌∙◌}
use Rattle.fuse_requests.specs.declared.request.Request.{Request}
use Rattle.fuse_requests.specs.declared.request.Request.TheVariants.{Rmdir}
use Rattle.mount_rules.specs.Dispatch.{early, view_in}
use Rattle.mount_rules.specs.Mount.{IsMount, MountModel}
use Rattle.object_names.specs.Paths.{IsPath}
use Rattle.mount_laws.proofs.Children.{HasPath-none}
use Rattle.mount_laws.proofs.Keeping.{same_Some}
use Rattle.mount_state.specs.Spares.{Provided, provided_for, removal}
use Rattle.mount_state.proofs.EntryLaws.{no_refusal}

abbrev path_of : Provided → Option (List ℕ)
path_of (removal text) = Some text
path_of provided = None

-- its path is one
pub removed_path : (mount : MountModel) (request : Request) (node : ℕ) (name path : List ℕ) → request ≡ Rmdir node name → IsMount mount → early mount request ≡ None
    → removal path ≡ provided_for request (view_in mount request) → IsPath path
removed_path mount request node name path is valid free provided =
    let same = ap path_of (provided ∙ ap (λ (r : Request). provided_for r (view_in mount r)) is) in
    subst IsPath (sym (same_Some same)) (HasPath-none mount node name valid (no_refusal mount (Rmdir node name) (subst (λ (r : Request). early mount r ≡ None) is free))).is_path
