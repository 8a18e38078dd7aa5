-- Fresh open: an OPEN shows what stands in the bucket while the call is under way, or what came before.
use Rattle.std.specs.Prelude.{◌≡◌, ℕ, ◌<◌, ◌≤◌, List, Contains, Some, None}
use Rattle.std.specs.FinMap as fin
use Rattle.bucket_api.specs.BucketState.{BucketState, object_at}
use Rattle.bucket_api.specs.Log.{event_at, state_at}
use Rattle.bucket_api.specs.LogEvent.{LogEvent}
use Rattle.bucket_api.specs.Operation.{stat}
use Rattle.bucket_api.specs.declared.objects.Object.{Object}
use Rattle.fuse_replies.specs.declared.reply.Reply.TheVariants.{Opened}
use Rattle.fuse_requests.specs.declared.request.Request.TheVariants.{Opening}
use Rattle.history_laws.specs.Ends.{CallEnd, IsLast, mount_at, reply_at}
use Rattle.history_spec.specs.Account.{Account, own_moments_of}
use Rattle.mount_model.specs.declared.config.Config.{Config}
use Rattle.mount_rules.specs.View.{Sight, sight_at}

-- An own stat of the file's name, behind a front, shows the generation that the file shows. Whatever stood under the name
-- by then is no newer: so it is none that an earlier flush of the name made.
pub record IsFresh (start : BucketState) (log : List LogEvent) (file : Sight) (front : ℕ) (own : List ℕ) : Type 0 where
  pub moment : ℕ
  pub among : Contains own moment
  pub since : front < moment
  pub event : LogEvent
  pub there : event_at log moment ≡ Some event
  pub asks : event.op ≡ stat file.name
  pub object : Object
  pub shows : object_at (state_at start log moment) file.name ≡ Some object
  pub same : object.meta.generation ≡ file.source
  pub newest : (earlier : ℕ) (other : Object) → earlier ≤ moment → object_at (state_at start log earlier) file.name ≡ Some other → other.meta.generation ≤ file.source

-- Each OPEN is so that is answered well, of a file of which nothing is staged, where records of objects serve for no time.
abbrev pub OpensAreFresh : Type 0
OpensAreFresh = (config : Config) (start : BucketState) (log : List LogEvent) (account : Account) (e : CallEnd) (node flags fh : ℕ) (file : Sight)
    → config.stat_lifetime ≡ 0 → IsLast config start log account e → e.call.taken.request ≡ Opening node flags
    → sight_at (mount_at config start log account).table node ≡ Some file → fin.get (mount_at config start log account).staged node ≡ None
    → reply_at start log (mount_at config start log account) e ≡ Opened fh
    → IsFresh start log file e.call.front (own_moments_of e.items)
