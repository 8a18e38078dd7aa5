-- The calls of a lane, each by what it asks and by what of earlier replies is written into its frame.
use Rattle.std.specs.Prelude.{ℕ, ◌+◌, List, [], ◌∷◌, ◌++◌, length, true, false}
use Rattle.fuse_requests.specs.declared.request.Request.{Request}
use Rattle.fuse_requests.specs.Text.{request_text}
use Rattle.mount_model.specs.declared.gate.CallId.{CallId}
use Rattle.scenario.specs.declared.call.Fix.{Fix}
use Rattle.scenario.specs.Parts.{Call}

-- what a call asks, and the fixups of its frame
pub record Step : Type 0 where
  pub request : Request
  pub fixes : List Fix

-- the frame of this unique, and its fixups
abbrev pub call_of : ℕ → Step → Call
call_of unique step = record { frame = request_text unique step.request; fixes = step.fixes }

-- the calls of steps, whose uniques count up from this one
abbrev pub numbered : ℕ → List Step → List Call
numbered unique [] = []
numbered unique (step ∷ steps) = call_of unique step ∷ numbered (unique + 1) steps

-- a lane's calls with those of further steps behind them: each unique is the call's index
unfoldable pub with_steps : List Call → List Step → List Call
with_steps calls steps = calls ++ numbered (length calls + 1) steps

-- the node of a call's reply, written in the place of the head's node: nodeid of `struct fuse_in_header`
abbrev pub node_of : CallId → Fix
node_of call = record { at = 16; call = call; handle = false }

-- the handle of a call's reply, written where the body begins: fh of `struct fuse_write_in`, `struct fuse_flush_in` and
-- `struct fuse_release_in`
abbrev pub handle_of : CallId → Fix
handle_of call = record { at = 40; call = call; handle = true }
