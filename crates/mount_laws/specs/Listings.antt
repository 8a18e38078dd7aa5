-- How many pages an OPENDIR asks of a bucket, where nobody changes the bucket meanwhile.
use Rattle.std.specs.Prelude.{ℕ, ◌≤◌, ◌+◌, ◌/◌, true, List, length}
use Rattle.std.specs.Map.{keys_of}
use Rattle.bucket_api.specs.Listing.{keys_shown}
use Rattle.fuse_requests.specs.declared.request.Request.TheVariants.{Opendir}
use Rattle.mount_model.specs.Observing.{Observed}
use Rattle.mount_model.specs.declared.config.Config.{Config}
use Rattle.mount_rules.specs.Dispatch.{view_in}
use Rattle.mount_rules.specs.OneThread.{Observes, RunState, bucket_of, plan_at}
use Rattle.mount_rules.specs.Requests.Opendir.{prefix_of}

-- the keys that a listing of the directory shows: its objects, and what stands in it up to a slash
abbrev pub keys_in : RunState → ℕ → List (List ℕ)
keys_in state node = keys_shown (prefix_of (view_in state.mount (Opendir node))) true (keys_of (bucket_of state.store).entries)

-- Every page but the last shows as many keys as a page may, and none is shown twice. So a listing comes to its end: it
-- asks at most one page more than its keys fill.
abbrev pub PagesAreFull : Type 0
PagesAreFull = (config : Config) (state : RunState) (node : ℕ) (seen : List Observed) → 1 ≤ config.list_page
    → Observes (plan_at config state (Opendir node)) state.store seen
    → length seen ≤ length (keys_in state node) / config.list_page + 1
