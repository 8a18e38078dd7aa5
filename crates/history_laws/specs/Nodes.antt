-- Live nodes: along any account a node is live exactly while the kernel holds look-ups of it.
use Rattle.std.specs.Prelude.{◌≡◌, ◌≢◌, ℕ, ◌+◌, ◌-◌, List, [], ◌∷◌}
use Rattle.std.specs.Option.{option_map_or}
use Rattle.bucket_api.specs.BucketState.{BucketState}
use Rattle.bucket_api.specs.LogEvent.{LogEvent}
use Rattle.history_spec.specs.Account as account
use Rattle.history_spec.specs.Account.{Account, Turn}
use Rattle.history_spec.specs.Fits.{IsAccount}
use Rattle.history_spec.specs.JournalState.{JournalState, OpenCall, after_turn, first_journal, open_of, reply_by}
use Rattle.history_laws.specs.Ends.{mount_at}
use Rattle.inode_spec.specs.Inodes.{lookups_of}
use Rattle.mount_model.specs.declared.config.Config.{Config}
use Rattle.mount_rules.specs.Laws.{given, given_back}

-- the count of a node's look-ups after a turn: a call that is done adds those that its reply gives, and takes away those that
-- its request gives back, stopping at 0
abbrev pub count_after : BucketState → List LogEvent → JournalState → Turn → ℕ → ℕ → ℕ
count_after start log state (account.done call front how items fill) number count =
    option_map_or (λ (o : OpenCall). (count + given (reply_by start log state.mount o how items) number) - given_back state.mount o.taken.request number)
    (open_of state.opened call.lane) count
count_after start log state turn number count = count

-- along the turns, from this count on
abbrev pub count_along : Config → BucketState → List LogEvent → JournalState → ℕ → ℕ → Account → ℕ
count_along config start log state number count [] = count
count_along config start log state number count (turn ∷ turns) =
    count_along config start log (after_turn config start log state turn) number (count_after start log state turn number count) turns

abbrev pub count_of : Config → BucketState → List LogEvent → Account → ℕ → ℕ
count_of config start log turns number = count_along config start log first_journal number 0 turns

-- A node other than the root has the look-ups that were given of it and not given back. So it is live exactly where its
-- count is above 0.
abbrev pub CountsDecide : Type 0
CountsDecide = (config : Config) (start : BucketState) (log : List LogEvent) (turns : Account) (number : ℕ) → number ≢ 1
    → IsAccount config start log turns → lookups_of (mount_at config start log turns).table number ≡ count_of config start log turns number
