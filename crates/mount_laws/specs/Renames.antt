-- RENAME: the claims that keep what it sees, and what it makes of the bucket.
use Rattle.std.specs.Prelude.{◌≡◌, ◌≢◌, ◌⊎◌, ℕ, true, false, List, ◌∷◌, Some}
use Rattle.bucket_api.specs.BucketState.{BucketState, object_at}
use Rattle.bucket_api.specs.BucketStep.{new_object, with_new, without_object}
use Rattle.bucket_api.specs.declared.objects.Object.{Object}
use Rattle.claim_spec.specs.Conflicts.{AreApart}
use Rattle.claim_spec.specs.declared.claim.Claim.{Claim}
use Rattle.fuse_replies.specs.declared.reply.Reply.{Reply}
use Rattle.fuse_replies.specs.declared.reply.Reply.TheVariants.{Empty, Error}
use Rattle.fuse_requests.specs.declared.request.Request.{Request}
use Rattle.fuse_requests.specs.declared.request.Request.TheVariants.{Rename}
use Rattle.mount_model.specs.Observing.{Observed}
use Rattle.mount_model.specs.declared.config.Config.{Config}
use Rattle.mount_rules.specs.Claiming.{owns_name, shares_node}
use Rattle.mount_rules.specs.Dispatch.{claims, goes_on, mount_after, view_in}
use Rattle.mount_rules.specs.Mount.{IsMount, MountModel}
use Rattle.mount_rules.specs.OneThread.{Call, IsLawful, RunState, bucket_of, reply_in, second_of, short, state_after_call}
use Rattle.mount_rules.specs.Requests.Rename.{Names, from_of, is_same, old_claims, to_of}
use Rattle.mount_rules.specs.Rules.{AtTake}
use Rattle.mount_rules.specs.View.{View}

-- what a RENAME asks for
abbrev pub renamed : ℕ → List ℕ → List ℕ → Names
renamed newdir name newname = record { name = name; newdir = newdir; newname = newname }

-- both directories and the old name's current node, beside others that look at them, and the old name alone
abbrev pub rename_claims : ℕ → Names → View → List Claim
rename_claims node names view = shares_node node ∷ shares_node names.newdir ∷ owns_name (from_of names view) ∷ old_claims view

-- The law of claims, by these: a RENAME sees the same after another call is done whose claims don't conflict with them. So
-- a file of which nothing was staged at its take has nothing staged at its end.
abbrev pub RenamesProtect : Type 0
RenamesProtect = (at : AtTake) (mount : MountModel) (other : Request) (seen : List Observed) (node newdir : ℕ) (name newname : List ℕ)
    → IsMount mount → goes_on mount (Rename node newdir name newname) ≡ true
    → AreApart (rename_claims node (renamed newdir name newname) (view_in mount (Rename node newdir name newname))) (claims mount other)
    → view_in (mount_after at mount other seen) (Rename node newdir name newname) ≡ view_in mount (Rename node newdir name newname)

-- The object that was live under the old name stands under the new one, as a new generation with its content and its
-- pairs; and none is live under the old name. Nothing else is changed.
pub record IsMoved (before after : BucketState) (from to : List ℕ) (second : ℕ) : Type 0 where
  pub object : Object
  pub was : object_at before from ≡ Some object
  pub left : after ≡ without_object (with_new before to (new_object before to object.content object.meta.pairs second)) from

-- What a RENAME comes to that doesn't stop short: one to another name that is answered well has moved the object, and one
-- that is answered an error has left the bucket as it was.
pub record IsRenamed (config : Config) (state after : RunState) (names : Names) (view : View) (answer : Reply) : Type 0 where
  pub moved : is_same names view ≡ false → answer ≡ Empty
      → IsMoved (bucket_of state.store) (bucket_of after.store) (from_of names view) (to_of names view) (second_of config)
  pub kept : (errno : ℕ) → answer ≡ Error errno → bucket_of after.store ≡ bucket_of state.store

abbrev pub RenamesMove : Type 0
RenamesMove = (config : Config) (state : RunState) (call : Call) (node newdir : ℕ) (name newname : List ℕ)
    → call.request ≡ Rename node newdir name newname → IsLawful config state call → call.ending ≢ short
    → IsRenamed config state (state_after_call config state call) (renamed newdir name newname) (view_in state.mount (Rename node newdir name newname)) (reply_in config state call)

-- The same object stands under the new name, as a new generation, and nothing else is changed.
pub record IsCopied (before after : BucketState) (from to : List ℕ) (second : ℕ) : Type 0 where
  pub object : Object
  pub was : object_at before from ≡ Some object
  pub left : after ≡ with_new before to (new_object before to object.content object.meta.pairs second)

-- the bucket is as it was, but for the copy
abbrev pub IsCopiedAtMost : BucketState → BucketState → List ℕ → List ℕ → ℕ → Type 0
IsCopiedAtMost before after from to second = (after ≡ before) ⊎ IsCopied before after from to second

-- so it is after one that stops short
abbrev pub RenamesStop : Type 0
RenamesStop = (config : Config) (state : RunState) (call : Call) (node newdir : ℕ) (name newname : List ℕ)
    → call.request ≡ Rename node newdir name newname → IsLawful config state call → call.ending ≡ short
    → IsCopiedAtMost (bucket_of state.store) (bucket_of (state_after_call config state call).store)
    (from_of (renamed newdir name newname) (view_in state.mount (Rename node newdir name newname)))
    (to_of (renamed newdir name newname) (view_in state.mount (Rename node newdir name newname))) (second_of config)
