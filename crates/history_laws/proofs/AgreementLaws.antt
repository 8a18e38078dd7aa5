-- An account that is serial agrees with the one-thread mount, call by call.
use Rattle.std.proofs.Common.{◌≡◌, ◌≤◌, ◌<◌, ℕ, suc, All, List, [], ◌∷◌, append-nil, length, Some, None, refl, sym, ap, subst, ◌∙◌, ◌⊎◌, inl, inr, nat_cmp, arith}
use Rattle.std.specs.FinMap as fin
use Rattle.std.specs.List.{AllByRecursion}
use Rattle.bucket_api.specs.BucketState.{BucketState, IsBucket}
use Rattle.bucket_api.specs.Log.{state_at}
use Rattle.bucket_api.specs.LogEvent.{LogEvent}
use Rattle.bucket_api.specs.Operation.{IsAllowed}
use Rattle.bucket_api.specs.declared.events.Mode.TheVariants as modes
use Rattle.history_laws.proofs.Along.{stands_first}
use Rattle.history_laws.proofs.Bare.{IsKnown, UpTo, bare_table}
use Rattle.history_laws.proofs.BareMounts.{IsBareMount}
use Rattle.history_laws.proofs.CallPairs.{IsPair, after_pair, get_some, pair_of}
use Rattle.history_laws.proofs.KnownMoments.{IsToldKnown, not_below}
use Rattle.history_laws.proofs.StaleTurns.{StaleAlong, stale_along}
use Rattle.history_laws.specs.Agreements.{Agrees, OneThreadAgrees, StandsStill}
use Rattle.history_laws.specs.Apart.{OneByOne}
use Rattle.history_spec.proofs.Following.{fronts_rise}
use Rattle.history_spec.specs.Account as account
use Rattle.history_spec.specs.Account.{Account, Item, Turn, own_moments_of}
use Rattle.history_spec.specs.Fits.{Follows}
use Rattle.history_spec.specs.JournalState.{JournalState, after_turns, first_journal}
use Rattle.inode_spec.specs.Inodes.{root}
use Rattle.mount_laws.proofs.Keeping.{no_Some}
use Rattle.mount_model.specs.declared.config.Config.{Config}
use Rattle.mount_rules.specs.Mount.{MountModel, Node, first_mount}
use Rattle.mount_rules.specs.OneThread.{Call}
use Rattle.record_spec.specs.Past.{no_past}
use Rattle.spare_maps.proofs.FinMaps.{number_put}
use Rattle.history_laws.proofs.SerialCalls.{AgreesFrom, OwnAll, StandsAlone, agrees_pair, stands_next, told_of}

module _ (config : Config) (start : BucketState) (log : List LogEvent) where
  module _ (bucket : IsBucket start) (allowed : All (λ e. IsAllowed e.op) log) (complete : All (λ (e : LogEvent). e.mode ≡ modes.Done) log) where
    -- at its end nothing more was made
    at_end : (state : JournalState) (past : List LogEvent) (other : MountModel) → StandsAlone config start log state past other → OwnAll config start log state [] →
        state.front ≤ length log → AgreesFrom config start log state [] past other
    at_end state past other so own_all within = record {
      calls = [];
      run = tt;
      requests = refl;
      endings = refl;
      stale_are = tt;
      replies = sym (append-nil (told_of state));
      bucket = so.same.bucket ∙ ap (state_at start log) front_is;
    }
      where
        front_is : state.front ≡ length log
        front_is =
            let whole : length log ≤ state.front = not_below state.front (length log) (λ below.
            let event = get_some log state.front below in
            let found = own_all (suc state.front) event.0 event.1 in
            let early : suc state.front ≤ state.front = so.own_before found.0 (suc state.front) found.1 found.2 in
            absurd (omega (arith, early))) in
            omega (arith, whole, within)

    agrees_along : (turns : Account) (state : JournalState) (past : List LogEvent) (other : MountModel) → StandsAlone config start log state past other →
        Follows config start log state turns → OneByOne turns
        → AllByRecursion StandsStill turns → StaleAlong config start log state turns → OwnAll config start log state turns →
        (after_turns config start log state turns).front ≤ length log → AgreesFrom config start log state turns past other
    agrees_along [] state past other so follows one still stale_wants own_all within = at_end state past other so own_all within
    agrees_along (account.take call front request ∷ account.done ended behind h items fill ∷ turns) state past other so follows one still stale_wants own_all within =
        agrees_pair config start log bucket allowed complete state past other so call front request ended behind h items fill turns follows one.1 one.0 stale_wants.1.0 own_later here
        (agrees_along turns _ _ _ (stands_next config start log bucket allowed complete state past other so call front request ended behind h items fill
        turns follows one.1 one.0 stale_wants.1.0 own_later here)
        next.rest one.1 still.1.1 (subst (λ s. StaleAlong config start log s turns) next.reaches stale_wants.1.1) own_later later)
      where
        next : IsPair config start log state call front request ended behind h items fill turns
        next = pair_of config start log state call front request ended behind h items fill turns so.none follows one.0

        own_later : OwnAll config start log (after_pair config start log state call front request behind h items) turns
        own_later = subst (λ s. OwnAll config start log s turns) next.reaches own_all

        later : (after_turns config start log (after_pair config start log state call front request behind h items) turns).front ≤ length log
        later = subst (λ s. (after_turns config start log s turns).front ≤ length log) next.reaches within

        here : behind ≤ length log
        here = let rises : behind ≤ (after_turns config start log (after_pair config start log state call front request behind h items) turns).front =
            fronts_rise config start log (after_pair config start log state call front request behind h items) turns next.rest in
            let within = later in omega (arith, rises, within)
    agrees_along (account.tick front seconds ∷ turns) state past other so follows one still stale_wants own_all within = absurd still.0
    agrees_along (account.take call front request ∷ []) state past other so follows one still stale_wants own_all within = absurd one
    agrees_along (account.take call front request ∷ account.take c f r ∷ turns) state past other so follows one still stale_wants own_all within = absurd one
    agrees_along (account.take call front request ∷ account.tick f s ∷ turns) state past other so follows one still stale_wants own_all within = absurd one
    agrees_along (account.done call front h items fill ∷ turns) state past other so follows one still stale_wants own_all within = absurd one

-- before the first call
first_bare : (Known : List ℕ → ℕ → ℕ → Type 0) → IsBareMount Known first_mount (record first_mount { table = bare_table first_mount.table })
first_bare Known = record { table = record { is = refl; known = λ k node there. known node (number_put fin.empty 1 root node k there) }; rest = refl }
  where
    known : {k : ℕ} (node : Node) → ((k ≡ 1) × (root ≡ node)) ⊎ (fin.get {R = nat_cmp} fin.empty k ≡ Some node) → IsKnown Known node
    known node (inl first) = subst (IsKnown Known) first.1 tt
    known {k} node (inr was) = let none : fin.get {X = Node} {R = nat_cmp} fin.empty k ≡ None = fin.get-empty nat_cmp k in absurd (no_Some (sym none ∙ was))

pub one_thread_agrees : OneThreadAgrees
one_thread_agrees config start log turns alone stale_wants =
    by (agrees_along config start log alone.bucket alone.allowed alone.done turns first_journal [] first_mount first alone.is.follows alone.one alone.still
    (stale_along config start log turns [] turns refl stale_wants) alone.own alone.is.within)
  where
    first : StandsAlone config start log first_journal [] first_mount
    first = record {
      none = refl;
      clock = refl;
      alike = record { bare = record first_mount { table = bare_table first_mount.table }; one_is = first_bare (IsToldKnown start log 0 no_past); other_is = first_bare (UpTo 0) };
      same = record { bucket = refl; contents = λ name generation. refl };
      own_before = λ e moment there its. let never : there.0 < 0 = there.1 in absurd (omega (arith, never));
      stands = stands_first config start log alone.bucket alone.allowed;
      told = tt;
    }

    by : AgreesFrom config start log first_journal turns [] first_mount → (calls : List Call) × Agrees config start log turns calls
    by a = (a.calls, record { run = a.run; requests = a.requests; endings = a.endings; stale = a.stale_are; replies = sym a.replies; bucket = a.bucket })
