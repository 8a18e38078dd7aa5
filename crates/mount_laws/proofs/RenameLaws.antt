-- The claims of a RENAME on its directories, its old name and the current node of that keep what it sees.
use Rattle.std.proofs.Common.{refl, inl, inr}
use Rattle.fuse_requests.specs.declared.request.Request.TheVariants.{Rename}
use Rattle.mount_rules.specs.Dispatch.{claims, mount_after, view_in}
use Rattle.mount_rules.specs.Requests.Rename as rename
use Rattle.mount_laws.proofs.RequestLaws.{leaves, unrefused}
use Rattle.mount_laws.proofs.Requests.Rename.{LooksClaimed-rename}
use Rattle.mount_laws.proofs.Sights.{view_stays}
use Rattle.mount_laws.specs.Renames.{RenamesProtect, rename_claims, renamed}

pub renames_protect : RenamesProtect
renames_protect at mount other seen node newdir name newname is on apart =
    view_stays (rename_claims node (renamed newdir name newname) (view_in mount (Rename node newdir name newname))) (claims mount other) mount (mount_after at mount other seen) apart
    (leaves at mount other seen is) (rename.looks node (renamed newdir name newname))
    (LooksClaimed-rename node (renamed newdir name newname) mount is (unrefused mount (Rename node newdir name newname) on)
    (rename_claims node (renamed newdir name newname) (view_in mount (Rename node newdir name newname)))
    (inl refl) (inr (inl refl)) (inr (inr (inl (refl, refl)))) (λ number claimed. inr (inr (inr claimed))))
