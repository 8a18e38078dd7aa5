-- UNLINK and RMDIR: what they make of the bucket of the one-thread mount.
use Rattle.std.specs.Prelude.{◌≡◌, ◌≢◌, ℕ, true, List, IsSome, nat_eq}
use Rattle.std.specs.List.{starts_with}
use Rattle.bucket_api.specs.BucketState.{BucketState, IsBucket, object_at}
use Rattle.bucket_api.specs.BucketStep.{without_object}
use Rattle.fuse_replies.specs.declared.reply.Reply.{Reply}
use Rattle.fuse_replies.specs.declared.reply.Reply.TheVariants.{Empty, Error}
use Rattle.fuse_requests.specs.declared.request.Request.TheVariants.{Rmdir}
use Rattle.mount_model.specs.declared.config.Config.{Config}
use Rattle.mount_rules.specs.Dispatch.{view_in}
use Rattle.mount_rules.specs.OneThread.{Call, IsLawful, RunState, bucket_of, reply_in, short, state_after_call}
use Rattle.mount_rules.specs.Requests.Mkdir.{prefix_of}

-- The directory's placeholder is live no more, and nothing else is changed; no other object was in it.
pub record IsEmptied (before after : BucketState) (prefix : List ℕ) : Type 0 where
  pub alone : (name : List ℕ) → IsSome (object_at before name) → starts_with nat_eq name prefix ≡ true → name ≡ prefix
  pub left : after ≡ without_object before prefix

-- What an RMDIR comes to that doesn't stop short: one that is answered well has removed an empty directory, and one that is
-- answered an error has left the bucket as it was.
pub record IsRemoved (state after : RunState) (prefix : List ℕ) (answer : Reply) : Type 0 where
  pub emptied : answer ≡ Empty → IsEmptied (bucket_of state.store) (bucket_of after.store) prefix
  pub kept : (errno : ℕ) → answer ≡ Error errno → bucket_of after.store ≡ bucket_of state.store

abbrev pub RmdirsEmpty : Type 0
RmdirsEmpty = (config : Config) (state : RunState) (call : Call) (node : ℕ) (name : List ℕ)
    → IsBucket (bucket_of state.store) → call.request ≡ Rmdir node name → IsLawful config state call → call.ending ≢ short
    → IsRemoved state (state_after_call config state call) (prefix_of name (view_in state.mount (Rmdir node name))) (reply_in config state call)
