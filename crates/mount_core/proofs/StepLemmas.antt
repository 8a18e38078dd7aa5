-- One step of a request on the bucket of a mount on one thread.
use Rattle.std.proofs.Common.{◌≡◌, ◌≤◌, ◌<◌, ◌+◌, ℕ, List, [], ◌∷◌, ◌++◌, Option, Some, None, length, take, drop, refl, sym, ap, subst, ◌∙◌, arith}
use Rattle.std.proofs.lemmas.List.{append_assoc, length-drop, length-take-le}
use Rattle.std.specs.Option.{option_map_or}
use Rattle.bucket_api.specs.BucketState.{BucketState, IsBucket, object_of}
use Rattle.bucket_api.specs.BucketStep.{answer_to}
use Rattle.bucket_api.specs.Operation.{Operation}
use Rattle.bucket_api.specs.declared.answers.Answer.{Answer}
use Rattle.bucket_api.specs.declared.answers.Answer.TheVariants.{Bytes, NotFound}
use Rattle.bucket_api.specs.declared.objects.Object.{Object}
use Rattle.mount_core.proofs.HarmlessLemmas.{answer_fits}
use Rattle.mount_core.proofs.PageKeys.{answer_told}
use Rattle.mount_core.specs.Bases.{HasBytes}
use Rattle.mount_core.specs.Carrying.{StepsOn}
use Rattle.mount_core.specs.Courses.{AsksRead, AsksStep, FitsAnswer, HoldsFor, after_answer, rest}
use Rattle.mount_core.specs.Errands.{HoldsEntries, IsListing, plan_over, wanted_of}
use Rattle.mount_core.specs.Stores.{Counted, most}
use Rattle.mount_core.specs.Walks.{left_by}
use Rattle.mount_core.specs.declared.course.Course.{Course}
use Rattle.mount_core.specs.declared.course.Stage.{Stage}
use Rattle.mount_core.specs.declared.course.Stage.TheVariants.{Asking, Reading}
use Rattle.mount_core.specs.declared.errand.Errand.{Errand}
use Rattle.mount_rules.specs.Plans.{Contents, CoversWanted, Wanted, answers_of, last_moment}
use Rattle.mount_state.proofs.ToldLaws.{answers_told, moment_told, never_empty}
use Rattle.staging_spec.specs.Slices.{Covers}

-- ---- a read
module _ (before mid : Course) (op : Operation) (bucket : BucketState) (asks : AsksRead before mid op) (a : Answer) (told : a ≡ answer_to op bucket) where
  reading : mid.stage ≡ Reading asks.wanted.range.first
  reading = ap (λ (c : Course). c.stage) asks.left

  same_errand : mid.errand ≡ before.errand
  same_errand = ap (λ (c : Course). c.errand) asks.left

  bytes_of : Object → List ℕ
  bytes_of o = take asks.wanted.range.count (drop asks.wanted.range.first o.content)

  is : a ≡ option_map_or (λ (o : Object). Bytes (take asks.wanted.range.count (drop asks.wanted.range.first o.content))) (object_of bucket asks.wanted.name asks.wanted.generation) NotFound
  is = told ∙ ap (λ (o : Operation). answer_to o bucket) asks.is

  -- the bytes reach over all that is wanted
  pub fits_read : HasBytes bucket (wanted_of before.errand) → FitsAnswer mid.stage mid a
  fits_read has = subst (λ (s : Stage). FitsAnswer s mid a) (sym reading) (by (object_of bucket asks.wanted.name asks.wanted.generation) refl)
    where
      enough : (o : Object) → object_of bucket asks.wanted.name asks.wanted.generation ≡ Some o
          → length (take asks.wanted.range.count (drop asks.wanted.range.first o.content)) ≡ asks.wanted.range.count
      enough o live =
          let inside : asks.wanted.range.first + asks.wanted.range.count ≤ length o.content = subst (λ (found : Option Wanted). HasBytes bucket found) asks.wants_it has o live in
          length-take-le asks.wanted.range.count (drop asks.wanted.range.first o.content) (let l = length-drop asks.wanted.range.first o.content in omega (arith, l, inside))

      covers : (n : ℕ) → n ≡ asks.wanted.range.count → CoversWanted (wanted_of mid.errand) asks.wanted.range.first n
      covers n long =
          subst (λ (found : Option Wanted). CoversWanted found asks.wanted.range.first n) (sym (ap wanted_of same_errand ∙ asks.wants_it))
          (subst (λ k. Covers asks.wanted.range.first k asks.wanted.range) (sym long) (λ some. (omega arith, omega arith)))

      by : (found : Option Object) → object_of bucket asks.wanted.name asks.wanted.generation ≡ found → FitsAnswer (Reading asks.wanted.range.first) mid a
      by (Some o) live =
          subst (FitsAnswer (Reading asks.wanted.range.first) mid) (sym (is ∙ ap (λ (f : Option Object). option_map_or (λ (x : Object). Bytes (take asks.wanted.range.count (drop asks.wanted.range.first x.content))) f NotFound) live))
          (covers _ (enough o live))
      by None gone =
          subst (FitsAnswer (Reading asks.wanted.range.first) mid) (sym (is ∙ ap (λ (f : Option Object). option_map_or (λ (x : Object). Bytes (take asks.wanted.range.count (drop asks.wanted.range.first x.content))) f NotFound) gone)) tt

-- ---- an operation of its errand
module _ (before mid : Course) (op : Operation) (asks : AsksStep before mid op) where
  asking : mid.stage ≡ Asking
  asking = ap (λ (c : Course). c.stage) asks.left

  pub fits_step : (bucket : BucketState) (a : Answer) → IsBucket bucket → a ≡ answer_to op bucket → FitsAnswer mid.stage mid a
  fits_step bucket a valid told = subst (λ (s : Stage). FitsAnswer s mid a) (sym asking) (subst (FitsAnswer Asking mid) (sym told) (answer_told op bucket valid))

  pub steps_on : (after : Course) (moment : ℕ) (a : Answer) (store left : Counted) → moment ≡ store.made + 1 → a ≡ answer_to op store.bucket → left ≡ left_by store op → store.made < most
      → after ≡ after_answer mid.stage mid moment a → StepsOn before after store left
  steps_on after moment a store left at told made few saw = record {
    op = op;
    asked = asks.asked;
    allowed = asks.allowed;
    bounded = few;
    made = made;
    behind = λ contents holds more. same_rest contents more ∙ asks.behind contents holds answer (answer_fits op store.bucket) more;
    holds = λ contents holds. subst (λ (e : Errand). HoldsFor e contents after.base) (sym errand) (subst (HoldsFor mid.errand contents) (sym base) (asks.holds contents holds));
    read = asks.read;
    on_way = asks.on_way;
    stage = ap (λ (c : Course). c.stage) seen;
    base = base ∙ ap (λ (c : Course). c.base) asks.left;
    answers = answers ∙ ap (λ (c : Course). answers_of c.told.items ++ answer ∷ []) asks.left;
    moment = ap (λ (c : Course). last_moment c.told.items) seen ∙ moment_told (answers_of mid.told.items ++ answer ∷ []) moment (never_empty (answers_of mid.told.items) answer moment) ∙ at;
    entries = λ implicit answers_ items held. asks.entries implicit answers_ items (subst (λ (e : Errand). HoldsEntries e implicit answers_ items) errand held);
    lists = λ lists. asks.lists (subst IsListing errand lists);
  }
    where
      answer : Answer
      answer = answer_to op store.bucket

      seen : after ≡ after_answer Asking mid moment (answer_to op store.bucket)
      seen = saw ∙ ap (λ (s : Stage). after_answer s mid moment a) asking ∙ ap (after_answer Asking mid moment) told

      errand : after.errand ≡ mid.errand
      errand = ap (λ (c : Course). c.errand) seen

      base : after.base ≡ mid.base
      base = ap (λ (c : Course). c.base) seen

      answers : answers_of after.told.items ≡ answers_of mid.told.items ++ answer_to op store.bucket ∷ []
      answers = ap (λ (c : Course). answers_of c.told.items) seen ∙ answers_told (answers_of mid.told.items ++ answer_to op store.bucket ∷ []) moment

      same_rest : (contents : Contents) (more : List Answer) → rest after contents more ≡ rest mid contents (answer_to op store.bucket ∷ more)
      same_rest contents more =
          ap (λ (e : Errand). plan_over e contents after.second (answers_of after.told.items ++ more)) errand
          ∙ ap (λ n. plan_over mid.errand contents n (answers_of after.told.items ++ more)) (ap (λ (c : Course). c.second) seen)
          ∙ ap (λ told. plan_over mid.errand contents mid.second (told ++ more)) answers
          ∙ ap (plan_over mid.errand contents mid.second) (append_assoc (answers_of mid.told.items) (answer_to op store.bucket ∷ []) more)
