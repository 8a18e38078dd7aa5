-- Along any account the mount stays one, and a node has the look-ups that were given of it and not given back.
use Rattle.std.proofs.Common.{◌≡◌, ◌≢◌, ◌+◌, ◌-◌, ℕ, List, [], ◌∷◌, Option, Some, None, sym, ap, subst, ◌∙◌, arith}
use Rattle.std.specs.Option.{option_map_or}
use Rattle.bucket_api.specs.BucketState.{BucketState}
use Rattle.bucket_api.specs.LogEvent.{LogEvent}
use Rattle.history_laws.specs.Nodes.{CountsDecide, count_after, count_along}
use Rattle.history_spec.specs.Account as account
use Rattle.history_spec.specs.Account.{Account, Item, Turn}
use Rattle.history_spec.specs.Fits.{Follows, MayBeDone, MayFollow}
use Rattle.history_spec.specs.JournalState.{JournalState, OpenCall, after_done, after_turn, after_turns, first_journal, mount_by, open_of, reply_by}
use Rattle.history_spec.specs.Observing.{seen_by}
use Rattle.inode_spec.specs.Inodes.{lookups_of}
use Rattle.mount_laws.proofs.Counting.{counts_first}
use Rattle.mount_laws.proofs.Mounts.{IsMount-first}
use Rattle.mount_laws.proofs.RequestLaws.{back_asks, counts, stays_mount}
use Rattle.mount_model.specs.declared.config.Config.{Config}
use Rattle.mount_model.specs.declared.journal.How.{How}
use Rattle.mount_model.specs.declared.journal.How.TheVariants as how
use Rattle.mount_rules.specs.Laws.{given, given_back}
use Rattle.mount_rules.specs.Mount.{IsMount}

module _ (config : Config) (start : BucketState) (log : List LogEvent) where
  -- ---- a mount stays one
  pub IsMount-done : (state : JournalState) (o : OpenCall) (h : How) (items : List Item) → IsMount state.mount → IsMount (mount_by start log state.mount o h items)
  IsMount-done state o how.Ok items is = stays_mount o.taken.at state.mount o.taken.request (seen_by start log items) is
  IsMount-done state o how.NoMemory items is = is

  pub IsMount-turn : (state : JournalState) (turn : Turn) → IsMount state.mount → IsMount (after_turn config start log state turn).mount
  IsMount-turn state (account.take call front request) is = is
  IsMount-turn state (account.done call front h items fill) is = by (open_of state.opened call.lane)
    where
      by : (found : Option OpenCall) → IsMount (option_map_or (after_done start log state front h items) found state).mount
      by None = is
      by (Some o) = IsMount-done state o h items is
  IsMount-turn state (account.tick front seconds) is = is

  -- ---- counts of look-ups
  module _ (number : ℕ) (other : number ≢ 1) where
    counts_done : (state : JournalState) (front : ℕ) (h : How) (items : List Item) (o : OpenCall) (count : ℕ) → IsMount state.mount
        → MayBeDone start log state o front h items → lookups_of state.mount.table number ≡ count
        → lookups_of (mount_by start log state.mount o h items).table number
        ≡ (count + given (reply_by start log state.mount o h items) number) - given_back state.mount o.taken.request number
    counts_done state front how.Ok items o count is may same =
        counts o.taken.at state.mount o.taken.request (seen_by start log items) number is other
        ∙ ap (λ n. (n + given (reply_by start log state.mount o how.Ok items) number) - given_back state.mount o.taken.request number) same
    counts_done state front how.NoMemory items o count is may same =
        let none : given_back state.mount o.taken.request number ≡ 0 = back_asks o.taken.at state.mount o.taken.request number may.ends.0 in
        omega (arith, none, same)

    counts_turn : (state : JournalState) (turn : Turn) (count : ℕ) → IsMount state.mount → MayFollow start log state turn → lookups_of state.mount.table number ≡ count
        → lookups_of (after_turn config start log state turn).mount.table number ≡ count_after start log state turn number count
    counts_turn state (account.take call front request) count is may same = same
    counts_turn state (account.done call front h items fill) count is may same =
        subst
        (λ found. lookups_of (option_map_or (after_done start log state front h items) found state).mount.table number
        ≡ option_map_or (λ (o : OpenCall). (count + given (reply_by start log state.mount o h items) number) - given_back state.mount o.taken.request number) found count)
        (sym may.next.1) (counts_done state front h items may.next.0 count is may.next.3 same)
    counts_turn state (account.tick front seconds) count is may same = same

    counts_along : (state : JournalState) (turns : Account) (count : ℕ) → IsMount state.mount → Follows config start log state turns
        → lookups_of state.mount.table number ≡ count
        → lookups_of (after_turns config start log state turns).mount.table number ≡ count_along config start log state number count turns
    counts_along state [] count is follows same = same
    counts_along state (turn ∷ turns) count is follows same =
        counts_along (after_turn config start log state turn) turns (count_after start log state turn number count) (IsMount-turn state turn is) follows.1
        (counts_turn state turn count is follows.0 same)

pub counts_decide : CountsDecide
counts_decide config start log turns number other is =
    counts_along config start log number other first_journal turns 0 IsMount-first is.follows (counts_first number other)
