-- Plans that read a source before anything else: what is left of a call's walk along one without its reads.
use Rattle.std.proofs.Common.{◌≡◌, ℕ, suc, Bool, true, false, List, [], ◌∷◌, ◌++◌, take, drop, Option, Some, None, refl, sym, ap, subst, ◌∙◌, inl, inr}
use Rattle.std.specs.List.{AllByRecursion}
use Rattle.std.specs.Option.{option_map_or}
use Rattle.std.specs.Prelude.{if◌then◌else◌}
use Rattle.bucket_api.specs.BucketState.{BucketState, generation_at, object_of}
use Rattle.bucket_api.specs.BucketStep.{answer_to, is_met, new_object, refused}
use Rattle.bucket_api.specs.Log.{state_at, state_by}
use Rattle.bucket_api.specs.LogEvent.{LogEvent}
use Rattle.bucket_api.specs.Operation.{Operation, stat, read, insert, update, delete, copy, list}
use Rattle.bucket_api.specs.declared.answers.Answer.{Answer}
use Rattle.bucket_api.specs.declared.answers.Answer.TheVariants as answers
use Rattle.bucket_api.specs.declared.objects.Object.{Object}
use Rattle.history_laws.proofs.AloneWalks.{ShownFrom}
use Rattle.history_laws.proofs.Moments.{position_step}
use Rattle.history_laws.proofs.SameStores.{SameStore, made_by, read_idle, store_made, store_read}
use Rattle.history_spec.proofs.PlanSteps.{is_read}
use Rattle.history_spec.specs.Looks.{IsLook}
use Rattle.mount_model.specs.Observing.{Observed}
use Rattle.mount_rules.specs.Laws.{IsRead}
use Rattle.mount_rules.specs.Plans.{Allows, IsHarmless, IsReadOf, Plan, Source, Step, answers_of, ask, done, may_read, plan_after}

-- the source may be read until a read isn't given bytes; then there is one last step
abbrev pub reading : Source → Step → List Answer → Step
reading source last [] = may_read source last
reading source last (answers.Bytes bytes ∷ more) = reading source last more
reading source last (_ ∷ more) = done

-- what was answered behind reads that were given bytes
abbrev pub behind_reads : List Answer → List Answer
behind_reads [] = []
behind_reads (answers.Bytes bytes ∷ more) = behind_reads more
behind_reads (a ∷ more) = a ∷ more

-- the last step is that nothing more is asked, or an insert
abbrev pub IsInsert : Operation → Type 0
IsInsert (insert name content pairs only stamp) = Unit {0}
IsInsert op = ⊥

abbrev pub IsLast : Step → Type 0
IsLast done = Unit {0}
IsLast (ask op) = IsInsert op
IsLast (may_read source next) = ⊥

-- an insert is given no bytes
inserted_last : (op : Operation) (b : BucketState) → IsInsert op → (source : Source) (last : Step) (told : List Answer) → reading source last (answer_to op b ∷ told) ≡ done
inserted_last (insert name content pairs only stamp) b is source last told = by (is_met only (generation_at b name))
  where
    by : (met : Bool) → reading source last ((if met then answers.Meta (new_object b name content pairs stamp).meta else refused b name) ∷ told) ≡ done
    by true = refl
    by false = refl
inserted_last (stat name) b is source last told = absurd is
inserted_last (read name generation first count) b is source last told = absurd is
inserted_last (update name pairs only only_meta stamp) b is source last told = absurd is
inserted_last (delete name only) b is source last told = absurd is
inserted_last (copy from generation to stamp) b is source last told = absurd is
inserted_last (list prefix slash max after) b is source last told = absurd is

inserted_behind : (op : Operation) (b : BucketState) → IsInsert op → behind_reads (answer_to op b ∷ []) ≡ answer_to op b ∷ []
inserted_behind (insert name content pairs only stamp) b is = by (is_met only (generation_at b name))
  where
    by : (met : Bool) → behind_reads ((if met then answers.Meta (new_object b name content pairs stamp).meta else refused b name) ∷ [])
        ≡ (if met then answers.Meta (new_object b name content pairs stamp).meta else refused b name) ∷ []
    by true = refl
    by false = refl
inserted_behind (stat name) b is = absurd is
inserted_behind (read name generation first count) b is = absurd is
inserted_behind (update name pairs only only_meta stamp) b is = absurd is
inserted_behind (delete name only) b is = absurd is
inserted_behind (copy from generation to stamp) b is = absurd is
inserted_behind (list prefix slash max after) b is = absurd is

inserted_harm : (op : Operation) → IsInsert op → IsHarmless op → ⊥
inserted_harm (insert name content pairs only stamp) is harmless = harmless
inserted_harm (stat name) is harmless = is
inserted_harm (read name generation first count) is harmless = is
inserted_harm (update name pairs only only_meta stamp) is harmless = is
inserted_harm (delete name only) is harmless = is
inserted_harm (copy from generation to stamp) is harmless = is
inserted_harm (list prefix slash max after) is harmless = is

-- a look is neither a read nor an insert
look_reads : (op : Operation) → IsRead op → IsLook op → ⊥
look_reads (read name generation first count) is look = look
look_reads (stat name) is look = is
look_reads (insert name content pairs only stamp) is look = is
look_reads (update name pairs only only_meta stamp) is look = is
look_reads (delete name only) is look = is
look_reads (copy from generation to stamp) is look = is
look_reads (list prefix slash max after) is look = is

look_inserts : (op : Operation) → IsInsert op → IsLook op → ⊥
look_inserts (insert name content pairs only stamp) is look = look
look_inserts (stat name) is look = is
look_inserts (read name generation first count) is look = is
look_inserts (update name pairs only only_meta stamp) is look = is
look_inserts (delete name only) is look = is
look_inserts (copy from generation to stamp) is look = is
look_inserts (list prefix slash max after) is look = is

-- what a read of the source is answered: bytes, or that the source is gone
data ReadAnswer (source : Source) (b : BucketState) (answer : Answer) : Type 0 where
  with_bytes : (bytes : List ℕ) → answer ≡ answers.Bytes bytes → ReadAnswer source b answer
  gone : answer ≡ answers.NotFound → object_of b source.name source.generation ≡ None → ReadAnswer source b answer

read_answer : (source : Source) (b : BucketState) (op : Operation) → IsReadOf source op → ReadAnswer source b (answer_to op b)
read_answer source b (read name generation first count) is = by (object_of b name generation) refl
  where
    by : (found : Option Object) → object_of b name generation ≡ found
        → ReadAnswer source b (option_map_or (λ (o : Object). answers.Bytes (take count (drop first o.content))) found answers.NotFound)
    by None there = gone refl (sym (ap (λ n. object_of b n source.generation) is.0 ∙ refl) ∙ sym (ap (λ g. object_of b name g) is.1) ∙ there)
    by (Some o) there = with_bytes _ refl
read_answer source b (stat name) is = absurd is
read_answer source b (insert name content pairs only stamp) is = absurd is
read_answer source b (update name pairs only only_meta stamp) is = absurd is
read_answer source b (delete name only) is = absurd is
read_answer source b (copy from generation to stamp) is = absurd is
read_answer source b (list prefix slash max after) is = absurd is

module _ (start : BucketState) (log : List LogEvent) (source : Source) (last : Step) (ends : IsLast last) (upto : ℕ) where
  -- How such a walk came out, over a bucket that its reads left as it was: all reads were given bytes, and nothing more was
  -- made; or the source was gone; or the insert was made.
  pub data CameOut (k : ℕ) (past : List LogEvent) (seen : List Observed) : Type 0 where
    given : behind_reads (answers_of seen) ≡ [] → SameStore start log upto past → CameOut k past seen
    found_gone : behind_reads (answers_of seen) ≡ answers.NotFound ∷ [] → object_of (state_at start log k) source.name source.generation ≡ None
        → SameStore start log upto past → CameOut k past seen
    inserted : (op : Operation) → last ≡ ask op → behind_reads (answers_of seen) ≡ answer_to op (state_at start log k) ∷ []
        → (AllByRecursion (λ (o : Observed). IsHarmless o.op) seen → ⊥) → SameStore start log upto (past ++ made_by op ∷ []) → CameOut k past seen

  -- nothing is observed along a plan that is done
  nothing_more : (k : ℕ) (plan : Plan) (more : List Observed) → plan [] ≡ done → ShownFrom start log upto k plan more → (more ≡ []) × (k ≡ upto)
  nothing_more k plan [] is shown = (refl, shown)
  nothing_more k plan (o ∷ more) is (inl shown) = absurd (subst (λ step. Allows step o.op) is shown.0.allowed)
  nothing_more k plan (o ∷ more) is (inr shown) = absurd (subst (λ step. Allows step o.op) is shown.0.allowed)

  -- no look is asked for on the way
  no_look : (op : Operation) → Allows (may_read source last) op → IsLook op → ⊥
  no_look op (inl reads) look = look_reads op (is_read source op reads) look
  no_look op (inr allowed) look = of_last last refl allowed
    where
      of_last : (l : Step) → last ≡ l → Allows l op → ⊥
      of_last done is never = never
      of_last (ask asked) is same = look_inserts op (subst IsInsert (sym same) (subst IsLast is ends)) look
      of_last (may_read s next) is never = subst IsLast is ends

  pub came_out : (seen : List Observed) (k : ℕ) (past : List LogEvent) → ShownFrom start log upto k (reading source last) seen → SameStore start log k past → CameOut k past seen
  came_out [] k past shown so = given refl (subst (λ n. SameStore start log n past) shown so)
  came_out (o ∷ more) k past (inr shown) so = absurd (no_look o.op shown.0.allowed shown.0.look)
  came_out (o ∷ more) k past (inl shown) so = by shown.0.allowed (λ s. came_out more (suc k) past s)
    where
      after_insert : (op : Operation) → last ≡ ask op → IsInsert op → o.op ≡ op → CameOut k past (o ∷ more)
      after_insert op is insert_is asked =
          let told : o.answer ≡ answer_to op (state_at start log k) = shown.0.answer ∙ ap (λ x. answer_to x (state_at start log k)) asked in
          let none = nothing_more (suc k) (plan_after (reading source last) o.answer) more
          (ap (λ a. reading source last (a ∷ [])) told ∙ inserted_last op (state_at start log k) insert_is source last []) shown.1 in
          inserted op is
          (ap (λ (m : List Observed). behind_reads (o.answer ∷ answers_of m)) none.0 ∙ ap (λ a. behind_reads (a ∷ [])) told ∙ inserted_behind op (state_at start log k) insert_is)
          (λ all. inserted_harm op insert_is (subst IsHarmless asked all.0))
          (subst (λ n. SameStore start log n (past ++ made_by op ∷ [])) none.1
          (subst (λ x. SameStore start log (suc k) (past ++ made_by x ∷ [])) (sym shown.0.op ∙ asked) (store_made start log k past so shown.0.event shown.0.there shown.0.done)))

      of_last : (l : Step) → last ≡ l → Allows l o.op → CameOut k past (o ∷ more)
      of_last done is allowed = absurd allowed
      of_last (ask op) is allowed = after_insert op is (subst IsLast is ends) allowed
      of_last (may_read s next) is allowed = absurd (subst IsLast is ends)

      -- a read leaves the bucket as it was
      idle : IsReadOf source o.op → state_by shown.0.event.mode shown.0.event.op (state_at start log k) ≡ state_at start log k
      idle reads = ap (λ mode. state_by mode shown.0.event.op (state_at start log k)) shown.0.done
          ∙ read_idle shown.0.event.op (state_at start log k) (subst IsRead shown.0.op (is_read source o.op reads))

      state_later : IsReadOf source o.op → state_at start log (suc k) ≡ state_at start log k
      state_later reads = position_step start log k shown.0.event shown.0.there ∙ idle reads

      store_later : IsReadOf source o.op → SameStore start log (suc k) past
      store_later reads = store_read start log k past so shown.0.event shown.0.there (idle reads)

      then_rest : IsReadOf source o.op → (bytes : List ℕ) → o.answer ≡ answers.Bytes bytes → CameOut (suc k) past more → CameOut k past (o ∷ more)
      then_rest reads bytes told (given none same) = given (ap (λ a. behind_reads (a ∷ answers_of more)) told ∙ none) same
      then_rest reads bytes told (found_gone not_found away same) = found_gone (ap (λ a. behind_reads (a ∷ answers_of more)) told ∙ not_found)
          (sym (ap (λ b. object_of b source.name source.generation) (state_later reads)) ∙ away) same
      then_rest reads bytes told (inserted op is answered harm same) = inserted op is
          (ap (λ a. behind_reads (a ∷ answers_of more)) told ∙ answered ∙ ap (λ b. answer_to op b ∷ []) (state_later reads)) (λ all. harm all.1) same

      by_answer : IsReadOf source o.op → ReadAnswer source (state_at start log k) (answer_to o.op (state_at start log k))
          → (ShownFrom start log upto (suc k) (reading source last) more → SameStore start log (suc k) past → CameOut (suc k) past more) → CameOut k past (o ∷ more)
      by_answer reads (with_bytes bytes told) later =
          then_rest reads bytes (shown.0.answer ∙ told)
          (later (subst (λ a. ShownFrom start log upto (suc k) (plan_after (reading source last) a) more) (shown.0.answer ∙ told) shown.1) (store_later reads))
      by_answer reads (gone told away) later =
          let none = nothing_more (suc k) (plan_after (reading source last) o.answer) more (ap (λ a. reading source last (a ∷ [])) (shown.0.answer ∙ told)) shown.1 in
          found_gone (ap (λ (m : List Observed). behind_reads (o.answer ∷ answers_of m)) none.0 ∙ ap (λ a. behind_reads (a ∷ [])) (shown.0.answer ∙ told)) away
          (subst (λ n. SameStore start log n past) none.1 (store_later reads))

      by : Allows (may_read source last) o.op → (ShownFrom start log upto (suc k) (reading source last) more → SameStore start log (suc k) past → CameOut (suc k) past more) → CameOut k past (o ∷ more)
      by (inl reads) later = by_answer reads (read_answer source (state_at start log k) o.op reads) later
      by (inr allowed) later = of_last last refl allowed
