-- Between calls that come one at a time, over a log that they alone make without a failure, what a lawful record shows is what
-- the bucket answers now.
use Rattle.std.proofs.Common.{◌≡◌, ◌≤◌, ◌<◌, ℕ, suc, ◌+◌, ◌-◌, List, [], ◌∷◌, Some, length, refl, sym, ap, subst, ◌∙◌, ◌⊎◌, inl, inr, arith}
use Rattle.std.proofs.lemmas.List.Elements.{All-contains}
use Rattle.std.specs.Prelude.{Contains, option_and_then, option_map, slice_get}
use Rattle.bucket_api.specs.BucketState.{BucketState}
use Rattle.bucket_api.specs.BucketStep.{answer_to}
use Rattle.bucket_api.specs.Log.{answer_by, event_at, state_at}
use Rattle.bucket_api.specs.LogEvent.{LogEvent}
use Rattle.bucket_api.specs.Moments.{position_of}
use Rattle.bucket_api.specs.Operation.{Operation}
use Rattle.history_laws.proofs.CallPairs.{get_some, later_own}
use Rattle.history_laws.proofs.Records.{AllTellWrites, OwnUpTo, shows_now}
use Rattle.history_laws.proofs.ToldPasts.{AreToldPasts, past_within}
use Rattle.history_laws.proofs.Untouched.{LooksAt}
use Rattle.history_laws.specs.Apart.{OneByOne}
use Rattle.history_spec.specs.Account.{Account}
use Rattle.history_spec.specs.Fits.{Follows}
use Rattle.history_spec.specs.JournalState.{EndedCall, JournalState, OpenCall, after_turns, past_of}
use Rattle.history_spec.specs.Looks.{IsLook, MayRecall}
use Rattle.history_spec.specs.Observing.{observed_at}
use Rattle.history_spec.specs.Pasts.{key_of}
use Rattle.mount_model.specs.Observing.{Observed}
use Rattle.mount_model.specs.declared.config.Config.{Config}
use Rattle.record_spec.specs.RecordList.{Key}
use Rattle.record_spec.specs.declared.records.Record.{Record}

module _ (config : Config) (start : BucketState) (log : List LogEvent) (state : JournalState) (turns : Account) (none : state.opened ≡ []) (follows : Follows config start log state turns)
    (one : OneByOne turns) (within : state.front ≤ length log) (told : AreToldPasts start log state.front state.ended)
    (own_all : (moment : ℕ) (event : LogEvent) → event_at log moment ≡ Some event → (e : EndedCall) × Contains (after_turns config start log state turns).ended e × Contains e.own moment) where
  tell_writes : (ended : List EndedCall) → AreToldPasts start log state.front ended → AllTellWrites start log ended
  tell_writes [] all = tt
  tell_writes (e ∷ ended) all = (all.0.writes, tell_writes ended all.1)

  own_up_to : OwnUpTo start log state.ended state.front
  own_up_to k before = record {
    event = event.0;
    there = event.1;
    seen = seen;
    observed = observed;
    op = refl;
    call = whose.0;
    among = by (later_own config start log state turns none follows one whose.0 (suc k) whose.1 whose.2);
    own = whose.2;
  }
    where
      event : (x : LogEvent) × (slice_get log k ≡ Some x)
      event = get_some log k (omega (arith, before, within))

      whose : (e : EndedCall) × Contains (after_turns config start log state turns).ended e × Contains e.own (suc k)
      whose = own_all (suc k) event.0 event.1

      answered : LogEvent → Observed
      answered x = record { op = x.op; moment = suc k; answer = answer_by x.mode x.op (state_at start log (position_of (suc k))) }

      seen : Observed
      seen = answered event.0

      observed : observed_at start log (suc k) ≡ Some seen
      observed = ap (λ found. option_and_then (λ (x : LogEvent). option_map (λ a. record { op = x.op; moment = suc k; answer = a })
          (option_map (λ (y : LogEvent). answer_by y.mode y.op (state_at start log (position_of (suc k)))) found)) found) event.1

      by : Contains state.ended whose.0 ⊎ (state.front < suc k) → Contains state.ended whose.0
      by (inl there) = there
      by (inr late) = absurd (omega (arith, late, before))

  -- by a call that is taken now
  module _ (o : OpenCall) (op : Operation) (position : ℕ) (before : o.before ≡ state.ended) (may : MayRecall o op (suc position)) where
    its_within : suc position ≤ state.front
    its_within =
        let at : may.r.moment ≡ suc position = may.is in
        let low : may.r.moment ≤ state.front =
        All-contains (λ (u : Key × Record). u.1.moment ≤ state.front) (past_of state.ended).seen (key_of op, may.r) (past_within start log state.front state.ended told)
        (subst (λ ended. Contains (past_of ended).seen (key_of op, may.r)) before may.lawful.shown) in
        omega (arith, at, low)

    -- what the record shows is what the bucket answers
    pub record_shows_now : (seen : Observed) (event : LogEvent) → LooksAt o.taken.at.config.implicit_dirs op → IsLook op → slice_get log position ≡ Some event → event.op ≡ op
        → seen.answer ≡ answer_to op (state_at start log position) → seen.answer ≡ answer_to op (state_at start log state.front)
    record_shows_now seen event at look there its answered =
        let up : suc position ≤ state.front = its_within in
        let count : suc position + (state.front - suc position) ≡ state.front = omega (arith, up) in
        shows_now start log o.taken.at.config.implicit_dirs o op (suc position) state.front refl may
        (subst (AllTellWrites start log) (sym before) (tell_writes state.ended told))
        (subst (λ ended. OwnUpTo start log ended state.front) (sym before) own_up_to)
        seen event position (state.front - suc position) at look refl there its answered (omega (arith, count))
        ∙ ap (λ n. answer_to op (state_at start log n)) count
