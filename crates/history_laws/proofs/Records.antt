-- Own writes leave no record standing: where only calls that were done before a take wrote, and no write of a key came behind a
-- record of it, the record shows what the bucket would answer now.
use Rattle.std.proofs.Common.{◌≡◌, ◌≤◌, ◌<◌, ℕ, suc, ◌+◌, Bool, List, [], ◌∷◌, ◌++◌, Contains, Option, Some, None, refl, sym, ap, subst, ◌∙◌, ◌⊎◌, inl, inr, arith}
use Rattle.std.proofs.lemmas.List.Elements.{All-contains, Contains-append_left, Contains-append_right}
use Rattle.std.specs.List.{AllByRecursion, cons_option}
use Rattle.std.specs.Prelude.{option_and_then, option_map, slice_get}
use Rattle.bucket_api.specs.BucketState.{BucketState}
use Rattle.bucket_api.specs.BucketStep.{answer_to}
use Rattle.bucket_api.specs.Log.{state_at}
use Rattle.bucket_api.specs.LogEvent.{LogEvent}
use Rattle.bucket_api.specs.Operation.{Operation, stat, read, insert, update, delete, copy, list}
use Rattle.history_laws.proofs.CallPairs.{contains_cons}
use Rattle.history_laws.proofs.Moments.{position_step}
use Rattle.history_laws.proofs.Untouched.{IsLeft, LooksAt, answers_still, event_leaves}
use Rattle.history_spec.proofs.Walking.{Walked}
use Rattle.history_spec.specs.Account.{Item, looked, made, own_moments_of, recalled}
use Rattle.history_spec.specs.JournalState.{EndedCall, OpenCall, past_of}
use Rattle.history_spec.specs.Looks.{IsLook, MayRecall}
use Rattle.history_spec.specs.Observing.{observed_at}
use Rattle.history_spec.specs.Pasts as pasts
use Rattle.history_spec.specs.Pasts.{told_by, written_by, wrote}
use Rattle.mount_laws.proofs.Keeping.{no_Some, same_Some}
use Rattle.mount_model.specs.Observing.{Observed}
use Rattle.mount_rules.specs.Plans.{Plan, plan_after}
use Rattle.record_spec.specs.Past.{Writes}
use Rattle.record_spec.specs.RecordList.{Key}

-- a look writes nothing
look_writes : (op : Operation) (name : Key) → IsLook op → written_by op ≡ Some name → ⊥
look_writes (stat n) name look is = no_Some is
look_writes (list prefix slash max after) name look is = no_Some is
look_writes (read n generation first count) name look is = look
look_writes (insert n content pairs only stamp) name look is = look
look_writes (update n pairs only only_meta stamp) name look is = look
look_writes (delete n only) name look is = look
look_writes (copy from generation to stamp) name look is = look

pub first_of : {X : Type 0} (x : X) (xs : List X) → Contains (x ∷ xs) x
first_of x xs = Contains-append_left (x ∷ []) xs x (0, omega arith, refl)

pub later_of : {X : Type 0} (y : Option X) (xs : List X) (x : X) → Contains xs x → Contains (cons_option y xs) x
later_of None xs x there = there
later_of (Some y) xs x there = Contains-append_right (y ∷ []) xs x there

module _ (start : BucketState) (log : List LogEvent) where
  -- ---- what a call that is done tells of its writes
  -- each of these moments at which a name was written is told
  abbrev pub TellsWrites : List ℕ → List (Key × ℕ) → Type 0
  TellsWrites own written =
      (moment : ℕ) (seen : Observed) (name : Key) → Contains own moment → observed_at start log moment ≡ Some seen → written_by seen.op ≡ Some name → Contains written (name, moment)

  pub items_tell : (o : OpenCall) (plan : Plan) (items : List Item) → Walked start log o plan items → TellsWrites (own_moments_of items) (told_by start log wrote items)
  items_tell o plan [] walked moment seen name (k, within, there) is writes = absurd (omega (arith, within))
  items_tell o plan (recalled m ∷ items) walked moment seen name there is writes =
      later_of (option_and_then (wrote (recalled m)) (observed_at start log m)) (told_by start log wrote items) (name, moment)
      (items_tell o (plan_after plan walked.0.answer) items walked.4 moment seen name there is writes)
  items_tell o plan (looked m kept ∷ items) walked moment seen name there is writes =
      by (contains_cons m (own_moments_of items) moment there) (λ later. items_tell o (plan_after plan walked.0.answer) items walked.4 moment seen name later is writes)
    where
      by : (m ≡ moment) ⊎ Contains (own_moments_of items) moment → (Contains (own_moments_of items) moment → Contains (told_by start log wrote items) (name, moment))
          → Contains (told_by start log wrote (looked m kept ∷ items)) (name, moment)
      by (inl same) rest =
          let its : walked.0 ≡ seen = same_Some (sym walked.1 ∙ ap (observed_at start log) same ∙ is) in
          absurd (look_writes seen.op name (subst (λ (x : Observed). IsLook x.op) its walked.3) writes)
      by (inr later) rest =
          later_of (option_and_then (wrote (looked m kept)) (observed_at start log m)) (told_by start log wrote items) (name, moment) (rest later)
  items_tell o plan (made m ∷ items) walked moment seen name there is writes =
      by (contains_cons m (own_moments_of items) moment there) (λ later. items_tell o (plan_after plan walked.0.answer) items walked.4 moment seen name later is writes)
    where
      told : m ≡ moment → option_and_then (wrote (made m)) (observed_at start log m) ≡ Some (name, moment)
      told same =
          ap (λ n. option_and_then (wrote (made n)) (observed_at start log n)) same
          ∙ ap (option_and_then (wrote (made moment))) is ∙ ap (option_map (λ n. (n, moment))) writes

      by : (m ≡ moment) ⊎ Contains (own_moments_of items) moment → (Contains (own_moments_of items) moment → Contains (told_by start log wrote items) (name, moment))
          → Contains (told_by start log wrote (made m ∷ items)) (name, moment)
      by (inl same) rest = subst (λ found. Contains (cons_option found (told_by start log wrote items)) (name, moment)) (sym (told same)) (first_of (name, moment) (told_by start log wrote items))
      by (inr later) rest =
          later_of (option_and_then (wrote (made m)) (observed_at start log m)) (told_by start log wrote items) (name, moment) (rest later)

  -- each call that is done tells of its writes
  abbrev pub AllTellWrites : List EndedCall → Type 0
  AllTellWrites ended = AllByRecursion (λ (e : EndedCall). TellsWrites e.own e.past.written) ended

  -- and so does their past
  pub past_tells : (ended : List EndedCall) → AllTellWrites ended → (e : EndedCall) → Contains ended e → TellsWrites e.own (past_of ended).written
  past_tells [] all e (k, within, there) moment seen name own is writes = absurd (omega (arith, within))
  past_tells (f ∷ ended) all e there moment seen name own is writes = by (contains_cons f ended e there) (past_tells ended all.1 e)
    where
      by : (f ≡ e) ⊎ Contains ended e → (Contains ended e → TellsWrites e.own (past_of ended).written) → Contains (f.past.written ++ (past_of ended).written) (name, moment)
      by (inl same) rest = Contains-append_left f.past.written (past_of ended).written (name, moment)
          (all.0 moment seen name (subst (λ (x : EndedCall). Contains x.own moment) (sym same) own) is writes)
      by (inr later) rest = Contains-append_right f.past.written (past_of ended).written (name, moment) (rest later moment seen name own is writes)

  -- ---- no record stands
  -- The event at a position is that of a call that is done.
  pub record IsOwnEvent (ended : List EndedCall) (k : ℕ) : Type 0 where
    pub event : LogEvent
    pub there : slice_get log k ≡ Some event
    pub seen : Observed
    pub observed : observed_at start log (suc k) ≡ Some seen
    pub op : seen.op ≡ event.op
    pub call : EndedCall
    pub among : Contains ended call
    pub own : Contains call.own (suc k)

  -- up to this front each event of the log is
  abbrev pub OwnUpTo : List EndedCall → ℕ → Type 0
  OwnUpTo ended front = (k : ℕ) → k < front → IsOwnEvent ended k

  module _ (implicit : Bool) (o : OpenCall) (op : Operation) (moment front : ℕ) (is_implicit : o.taken.at.config.implicit_dirs ≡ implicit) (may : MayRecall o op moment)
      (tell : AllTellWrites o.before) (own : OwnUpTo o.before front) where
    -- behind a lawful record nothing wrote its key
    pub record_left : IsLeft implicit start log (pasts.key_of op) moment front
    record_left k from before = (its.event, its.there, never)
      where
        its : IsOwnEvent o.before k
        its = own k before

        never : (name : Key) → written_by its.event.op ≡ Some name → Writes implicit name (pasts.key_of op) → ⊥
        never name writes key =
            let told : Contains (past_of o.before).written (name, suc k) =
            past_tells o.before tell its.call its.among (suc k) its.seen name its.own its.observed (ap written_by its.op ∙ writes) in
            let early : suc k ≤ may.r.moment =
            All-contains (λ (w : Key × ℕ). Writes o.taken.at.config.implicit_dirs w.0 (pasts.key_of op) → w.1 ≤ may.r.moment) (past_of o.before).written (name, suc k) may.lawful.unwritten told
            (subst (λ b. Writes b name (pasts.key_of op)) (sym is_implicit) key) in
            let at : may.r.moment ≡ moment = may.is in
            omega (arith, early, at, from)

    -- Own writes leave no record standing: what a lawful record shows is what the bucket answers at each later position.
    pub shows_now : (seen : Observed) (event : LogEvent) (position count : ℕ) → LooksAt implicit op → IsLook op → moment ≡ suc position → slice_get log position ≡ Some event
        → event.op ≡ op → seen.answer ≡ answer_to op (state_at start log position) → moment + count ≤ front
        → seen.answer ≡ answer_to op (state_at start log (moment + count))
    shows_now seen event position count at look is there its answered within =
        answered ∙ sym (answers_still implicit start log op moment count at (λ k from before. record_left k from (omega (arith, before, within)))
        ∙ ap (λ n. answer_to op (state_at start log n)) is
        ∙ ap (answer_to op) (position_step start log position event there)
        ∙ event_leaves implicit start log op event (state_at start log position) at
        (λ name writes key. look_writes event.op name (subst IsLook (sym its) look) writes))
