-- With what a request comes to its end: the settings, the second of its take, and the bytes of its source that it wants.
use Rattle.std.specs.Prelude.{◌≡◌, ℕ, List, length}
use Rattle.bucket_api.specs.declared.answers.Answer.{Answer}
use Rattle.fuse_requests.specs.declared.request.Request.{Request}
use Rattle.mount_model.specs.declared.config.Config.{Config}
use Rattle.mount_rules.specs.Dispatch.{wants}
use Rattle.mount_rules.specs.Mount.{MountModel}
use Rattle.mount_rules.specs.Plans.{CoversWanted, HoldsWanted}
use Rattle.mount_rules.specs.Reading.{given, reads}
use Rattle.mount_rules.specs.Rules.{AtTake}
use Rattle.mount_state.specs.declared.base.Base.{Base}

-- the base reaches over what the request wants, unless a read of that was given none
abbrev pub Serves : Config → MountModel → Request → List Answer → Base → Type 0
Serves config mount request answers base = reads answers ≡ given → CoversWanted (wants config mount request) base.first (length base.bytes)

-- the take had these settings and this second, and what the base has are bytes of the source as it then stood
pub record IsServedAt (config : Config) (second : ℕ) (mount : MountModel) (request : Request) (base : Base) (at : AtTake) : Type 0 where
  pub settings : at.config ≡ config
  pub second_is : at.second ≡ second
  pub holds : HoldsWanted at.contents (wants config mount request) base.first base.bytes
