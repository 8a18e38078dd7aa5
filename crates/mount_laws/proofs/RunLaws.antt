-- Laws of runs of the mount on one thread.
use Rattle.std.proofs.Common.{◌≡◌, ◌≢◌, ◌+◌, ◌-◌, ℕ, List, [], ◌∷◌, ◌++◌, refl, sym, ap, subst, ◌∙◌, arith}
use Rattle.fuse_replies.specs.declared.reply.Reply.TheVariants.{Error}
use Rattle.inode_spec.specs.Inodes.{lookups_of}
use Rattle.mount_model.specs.declared.config.Config.{Config}
use Rattle.fuse_replies.specs.Errno.{enomem, estale}
use Rattle.mount_rules.specs.Laws.{CountsDecide, GivesLater, IsShortBy, NumbersRise, ShortAreOutOfMemory, count_along, given, given_back}
use Rattle.mount_rules.specs.Mount.{IsMount}
use Rattle.mount_rules.specs.OneThread.{Call, Ending, Ends, IsLawful, IsRun, RunState, at_state, first_state, mount_by, performed, reply_by, reply_in, short, stale, state_after_call, state_after_calls}
use Rattle.mount_laws.proofs.Counting.{counts_first}
use Rattle.mount_laws.proofs.Mounts.{GivesLater-same, GivesLater-then, IsMount-first}
use Rattle.mount_laws.proofs.RequestLaws.{back_asks, back_wants, counts, later, never_out_of_memory}

pub state_after_calls-append : (config : Config) (state : RunState) (first then_ : List Call)
    → state_after_calls config state (first ++ then_) ≡ state_after_calls config (state_after_calls config state first) then_
state_after_calls-append config state [] then_ = refl
state_after_calls-append config state (call ∷ first) then_ = state_after_calls-append config (state_after_call config state call) first then_

-- ---- numbers are given once
pub GivesLater-call : (config : Config) (state : RunState) (call : Call) → IsMount state.mount → GivesLater state.mount (state_after_call config state call).mount
GivesLater-call config state call is = by call.ending
  where
    by : (ending : Ending) → GivesLater state.mount (mount_by config state call ending)
    by performed = later (at_state config state) state.mount call.request call.seen is
    by short = GivesLater-same state.mount is
    by stale = GivesLater-same state.mount is

pub GivesLater-run : (config : Config) (state : RunState) (calls : List Call) → IsMount state.mount → GivesLater state.mount (state_after_calls config state calls).mount
GivesLater-run config state [] is = GivesLater-same state.mount is
GivesLater-run config state (call ∷ calls) is =
    let one = GivesLater-call config state call is in
    GivesLater-then one (GivesLater-run config (state_after_call config state call) calls one.is)

pub numbers_rise : NumbersRise
numbers_rise config bucket calls more =
    let early = GivesLater-run config (first_state bucket) calls IsMount-first in
    subst (λ (state : RunState). GivesLater (state_after_calls config (first_state bucket) calls).mount state.mount) (sym (state_after_calls-append config (first_state bucket) calls more))
    (GivesLater-run config (state_after_calls config (first_state bucket) calls) more early.is)

-- ---- counts of look-ups
module _ (config : Config) (number : ℕ) (other : number ≢ 1) where
  -- one call leaves the count that it gives and takes
  one_call : (state : RunState) (call : Call) → IsMount state.mount → IsLawful config state call
      → lookups_of (state_after_call config state call).mount.table number
      ≡ (lookups_of state.mount.table number + given (reply_in config state call) number) - given_back state.mount call.request number
  one_call state call is lawful = by call.ending lawful.ends
    where
      stays : (errno : ℕ) → given_back state.mount call.request number ≡ 0
          → lookups_of state.mount.table number ≡ (lookups_of state.mount.table number + given (Error errno) number) - given_back state.mount call.request number
      stays errno none = omega (arith, none)

      by : (ending : Ending) → Ends config state call.request call.seen ending
          → lookups_of (mount_by config state call ending).table number ≡ (lookups_of state.mount.table number + given (reply_by config state call ending) number) - given_back state.mount call.request number
      by performed ends = counts (at_state config state) state.mount call.request call.seen number is other
      by short ends = stays enomem (back_asks (at_state config state) state.mount call.request number ends.asks)
      by stale ends = stays estale (back_wants config state.mount call.request ends.wanted number ends.wants_it)

  along : (state : RunState) (calls : List Call) (count : ℕ) → IsMount state.mount → lookups_of state.mount.table number ≡ count → IsRun config state calls
      → lookups_of (state_after_calls config state calls).mount.table number ≡ count_along config state number count calls
  along state [] count is same run = same
  along state (call ∷ calls) count is same run =
      along (state_after_call config state call) calls _ (GivesLater-call config state call is).is
      (one_call state call is run.0 ∙ ap (λ n. (n + given (reply_in config state call) number) - given_back state.mount call.request number) same) run.1

pub counts_decide : CountsDecide
counts_decide config bucket calls number other run = along config number other (first_state bucket) calls 0 IsMount-first (counts_first number other) run

-- ---- the calls answered ENOMEM are those that stopped short
pub short_are_out_of_memory : ShortAreOutOfMemory
short_are_out_of_memory config state call = by call.ending
  where
    by : (ending : Ending) → IsShortBy config state call ending
    by performed = record { stopped = λ is. absurd (never is); answered = λ is. absurd (never_out_of_memory (at_state config state) state.mount call.request call.seen is) }
      where
        never : performed ≡ short → ⊥
        never e = cc
    by short = record { stopped = λ is. refl; answered = λ is. refl }
    by stale = record { stopped = λ is. absurd (never is); answered = λ is. absurd (stale_is_other is) }
      where
        never : stale ≡ short → ⊥
        never e = cc

        stale_is_other : Error estale ≡ Error enomem → ⊥
        stale_is_other e = let same : estale ≡ enomem = cc in absurd (omega (arith, same))
