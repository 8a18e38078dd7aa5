-- The rules of one request, as one value: where it looks, why it is refused, what it asks of the bucket, what it claims,
-- what it is answered and what it leaves. Each request of the protocol has a file of its own under `Requests`, which ends
-- in its rules; the dispatcher gives a request its rules.
use Rattle.std.specs.Prelude.{ℕ, List, [], Option, Some, None}
use Rattle.claim_spec.specs.declared.claim.Claim.{Claim}
use Rattle.fuse_replies.specs.declared.reply.Reply.{Reply}
use Rattle.mount_model.specs.declared.config.Config.{Config}
use Rattle.mount_rules.specs.Mount.{MountModel}
use Rattle.mount_model.specs.Observing.{Observed}
use Rattle.mount_rules.specs.Plans.{Contents, Plan, Wanted}
use Rattle.mount_rules.specs.View.{Looks, View}

-- What a request has from its take, whatever it sees of the mount: the settings, the second, which stamps what it asks,
-- and what each generation holds.
pub record AtTake : Type 0 where
  pub config : Config
  pub second : ℕ
  pub contents : Contents

-- what its rules go by from then on: that, and its view
pub record Taken : Type 0 where
  pub at : AtTake
  pub view : View

pub record Rules : Type 0 where
  pub looks : Looks
  -- the first error that refuses it before anything is asked, once a version is agreed on
  pub refusal : View → Option ℕ
  pub plan : Taken → Plan
  -- the bytes of a source that it wants, where it wants one: it may find that source gone
  pub wants : View → Option Wanted
  -- the nodes and names that it claims from its take to its end
  pub claims : View → List Claim
  -- the keys of records that it looks for, in order: an object's path, or a directory's path and a slash
  pub keys : View → List (List ℕ)
  -- what it is answered, and what it leaves of the mount as it stands at its end
  pub reply : Taken → MountModel → List Observed → Reply
  pub after : Taken → MountModel → List Observed → MountModel

-- nowhere
abbrev pub nowhere : Looks
nowhere = record { node = None; directory = None; handle = None; kept = None; staged = None; old = None; listed = [] }

-- at the head's node
abbrev pub at_node : ℕ → Looks
at_node node = record nowhere { node = Some node }

-- at the head's node, and at what is staged of it
abbrev pub at_file : ℕ → Looks
at_file node = record nowhere { node = Some node; staged = Some node }

-- at each node of a list
abbrev pub at_nodes : List ℕ → Looks
at_nodes numbers = record nowhere { listed = numbers }

-- at a handle, and at the head's node
abbrev pub at_handle : ℕ → ℕ → Looks
at_handle node fh = record nowhere { node = Some node; handle = Some fh }

-- at a handle of a file, and at the head's node with what is staged of it
abbrev pub at_open_file : ℕ → ℕ → Looks
at_open_file node fh = record (at_handle node fh) { staged = Some node }
