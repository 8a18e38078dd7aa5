-- A request that is carried out step by step: what it wants is read, its plan is walked, and it comes to its end or stops
-- short.
use Rattle.std.proofs.Common.{◌≡◌, ◌≢◌, ◌+◌, ◌-◌, ◌*◌, ◌<◌, arith, ℕ, true, List, [], ◌∷◌, ◌++◌, Option, Some, None, IsSome, refl, sym, ap, subst, ◌∙◌, ◌⊎◌, inl, inr}
use Rattle.std.proofs.lemmas.List.{append_assoc, append-nil}
use Rattle.bucket_api.specs.BucketStep.{answer_to}
use Rattle.bucket_api.specs.declared.answers.Answer.{Answer}
use Rattle.bucket_api.specs.declared.answers.Answer.TheVariants.{NotFound}
use Rattle.mount_core.proofs.WalkLemmas.{Walks-more, Walks-none, answers_of-append}
use Rattle.mount_core.specs.Bases.{HasBytes, HasRead, HoldsBase, IsGone, IsRead}
use Rattle.mount_core.specs.Carrying.{CanRead, CarriedOut, Carries, IsCarried, IsFresh, IsUnread, IsWalked, Steps, StepsOn, StepsRead, StopsShort, WasGone, WasRead, weight}
use Rattle.mount_core.specs.Courses.{AsksMore, AsksNothing, HoldsFor, HoldsRead, rest}
use Rattle.mount_core.specs.Errands.{HoldsEntries, IsListing, plan_over, wanted_of}
use Rattle.mount_core.specs.Stores.{Counted, most}
use Rattle.mount_core.specs.Walks.{Walks, observed_on}
use Rattle.mount_core.specs.declared.course.Course.{Course}
use Rattle.mount_core.specs.declared.course.Stage.{Stage}
use Rattle.mount_core.specs.declared.course.Stage.TheVariants.{Between, Ended, Unread}
use Rattle.mount_core.specs.declared.errand.Errand.{Errand}
use Rattle.mount_core.specs.declared.errand.Errand.TheVariants.{Files, Flush, Names, Nothing}
use Rattle.mount_laws.specs.Observations.{TellSame}
use Rattle.mount_model.specs.Observing.{Observed}
use Rattle.mount_rules.specs.Plans.{Contents, MayEnd, Wanted, answers_of, asked_by, done, last_moment}
use Rattle.mount_state.specs.Telling.{ToldList}
use Rattle.mount_state.specs.declared.base.Base.{Base}

-- the moment of what was observed last
pub last_moment-append : (seen : List Observed) (o : Observed) → last_moment (seen ++ o ∷ []) ≡ o.moment
last_moment-append [] o = refl
last_moment-append (p ∷ []) o = refl
last_moment-append (p ∷ q ∷ seen) o = last_moment-append (q ∷ seen) o

pub holds_for : (errand : Errand) (contents : Contents) (base : Base) → HoldsBase contents (wanted_of errand) base → HoldsFor errand contents base
holds_for Nothing contents base holds = tt
holds_for (Names errand) contents base holds = holds
holds_for (Files errand) contents base holds = holds
holds_for (Flush errand frozen) contents base holds = holds

-- nothing is wanted and nothing was read
read_none : (errand : Errand) (start : Counted) (base : Base) → wanted_of errand ≡ None → base.bytes ≡ [] → HasRead start.bucket (wanted_of errand) base
read_none errand start base none empty = subst (λ (found : Option Wanted). HasRead start.bucket found base) (sym none) empty

no_some : (found : Option Wanted) → found ≡ None → IsSome found → ⊥
no_some None is some = absurd cc
no_some (Some wanted) is some = absurd cc

module _ (errand : Errand) (second : ℕ) (start : Counted) where
  fresh_rest : (course : Course) (store : Counted) → IsFresh errand second start course store → (contents : Contents) (more : List Answer)
      → rest course contents more ≡ plan_over errand contents second more
  fresh_rest course store f contents more =
      ap (λ (e : Errand). plan_over e contents course.second (answers_of course.told.items ++ more)) f.errand_is
      ∙ ap (λ n. plan_over errand contents n (answers_of course.told.items ++ more)) f.second_is
      ∙ ap (λ (items : List Observed). plan_over errand contents second (answers_of items ++ more)) f.told

  fresh_wants : (course : Course) (store : Counted) (found : Option Wanted) → IsFresh errand second start course store → wanted_of course.errand ≡ found → wanted_of errand ≡ found
  fresh_wants course store found f is = ap wanted_of (sym f.errand_is) ∙ is

  -- one that wants nothing has walked along nothing
  fresh_walked : (course : Course) (store : Counted) → IsFresh errand second start course store → wanted_of errand ≡ None → IsWalked errand second start course store
  fresh_walked course store f none = record {
    seen = [];
    read = read_none errand start course.base none f.base;
    walked = λ contents holds. subst (Walks (plan_over errand contents second) start []) (sym f.kept) (Walks-none (plan_over errand contents second) start);
    left = λ contents holds more. fresh_rest course store f contents more;
    holds = λ contents holds. subst (λ (e : Errand). HoldsFor e contents course.base) (sym f.errand_is) (holds_for errand contents course.base holds);
    tells = record { answers = ap answers_of (sym f.told); moment = ap last_moment (sym f.told) };
    entries = λ implicit told items holds. subst (λ (e : Errand). HoldsEntries e implicit told items) f.errand_is holds;
    lists = λ is. subst IsListing f.errand_is is;
  }

  -- ---- one more operation
  walked_on : (course after : Course) (store left : Counted) → IsWalked errand second start course store → StepsOn course after store left → IsWalked errand second start after left
  walked_on course after store left w on = record {
    seen = more_seen;
    read = subst (HasRead start.bucket (wanted_of errand)) (sym on.base) w.read;
    walked = λ contents holds. goes_on contents (was contents holds);
    left = λ contents holds more. on.behind contents (w.holds contents (was contents holds)) more ∙ w.left contents (was contents holds) (answer ∷ more) ∙ ap (plan_over errand contents second) (sym (ap (λ told. told ++ more) (answers_of-append w.seen o) ∙ append_assoc (answers_of w.seen) (answer ∷ []) more));
    holds = λ contents holds. on.holds contents (w.holds contents (was contents holds));
    tells = record {
      answers = answers_of-append w.seen o ∙ ap (λ told. told ++ answer ∷ []) w.tells.answers ∙ sym on.answers;
      moment = last_moment-append w.seen o ∙ sym on.moment;
    };
    entries = λ implicit told items holds. w.entries implicit told items (on.entries implicit told items holds);
    lists = λ is. w.lists (on.lists is);
  }
    where
      answer : Answer
      answer = answer_to on.op store.bucket

      o : Observed
      o = observed_on store on.op

      more_seen : List Observed
      more_seen = w.seen ++ o ∷ []

      was : (contents : Contents) → HoldsBase contents (wanted_of errand) after.base → HoldsBase contents (wanted_of errand) course.base
      was contents holds = subst (HoldsBase contents (wanted_of errand)) on.base holds

      here : (contents : Contents) → HoldsBase contents (wanted_of errand) course.base → rest course contents [] ≡ plan_over errand contents second (answers_of w.seen)
      here contents holds = w.left contents holds [] ∙ ap (plan_over errand contents second) (append-nil (answers_of w.seen))

      goes_on : (contents : Contents) → HoldsBase contents (wanted_of errand) course.base → Walks (plan_over errand contents second) start more_seen left
      goes_on contents holds =
          Walks-more (plan_over errand contents second) start store left w.seen more_seen (w.walked contents holds) (record {
            op = on.op;
            asked = ap asked_by (sym (here contents holds)) ∙ on.asked contents (w.holds contents holds);
            allowed = on.allowed;
            observed = refl;
            left = on.made;
            bounded = on.bounded;
          })

  -- ---- a step
  differ : {P : Type 0} (stage : Stage) → stage ≡ Unread → stage ≡ Between → P
  differ stage one other = absurd (let never : Unread ≡ Between = sym one ∙ other in cc)

  never_ended : {P : Type 0} (stage : Stage) → stage ≡ Unread → stage ≡ Ended → P
  never_ended stage one other = absurd (let never : Unread ≡ Ended = sym one ∙ other in cc)

  pub carries_on : (course after : Course) (store left : Counted) → Carries errand second start course store → StepsOn course after store left → Carries errand second start after left
  carries_on course after store left (inl f) on =
      inr (inl (walked_on course after store left (fresh_walked course store f (fresh_wants course store None f (on.read f.stage))) on, on.stage))
  carries_on course after store left (inr (inl (w, stage))) on = inr (inl (walked_on course after store left w on, on.stage))
  carries_on course after store left (inr (inr e)) on = absurd (on.on_way e.stage)

  pub carries_read : (course after : Course) (store left : Counted) → Carries errand second start course store → StepsRead course after store left → Carries errand second start after left
  carries_read course after store left (inl f) step = by step.came
    where
      wants_it : wanted_of errand ≡ Some step.wanted
      wants_it = fresh_wants course store (Some step.wanted) f step.wants_it

      same : left ≡ start
      same = step.kept ∙ f.kept

      bucket_is : store ≡ start
      bucket_is = f.kept

      by : WasRead course after store step.wanted ⊎ WasGone course after store step.wanted → Carries errand second start after left
      by (inl was) =
          let errand_is : after.errand ≡ errand = was.errand ∙ f.errand_is in
          let second_is : after.second ≡ second = was.second ∙ f.second_is in
          let told : after.told.items ≡ [] = was.told ∙ f.told in
          inr (inl (
            record {
              seen = [];
              read = subst (λ (found : Option Wanted). HasRead start.bucket found after.base) (sym wants_it) (subst (λ (s : Counted). IsRead s.bucket step.wanted after.base) bucket_is was.read);
              walked = λ contents holds. subst (Walks (plan_over errand contents second) start []) (sym same) (Walks-none (plan_over errand contents second) start);
              left = λ contents holds more. ap (λ (e : Errand). plan_over e contents after.second (answers_of after.told.items ++ more)) errand_is ∙ ap (λ n. plan_over errand contents n (answers_of after.told.items ++ more)) second_is ∙ ap (λ (items : List Observed). plan_over errand contents second (answers_of items ++ more)) told;
              holds = λ contents holds. subst (λ (e : Errand). HoldsFor e contents after.base) (sym errand_is) (holds_for errand contents after.base holds);
              tells = record { answers = ap answers_of (sym told); moment = ap last_moment (sym told) };
              entries = λ implicit answers items holds. subst (λ (e : Errand). HoldsEntries e implicit answers items) errand_is holds;
              lists = λ is. subst IsListing errand_is is;
            },
            was.stage,
          ))
      by (inr was) = inr (inr (record {
        unread = record {
          wanted = step.wanted;
          wants_it = wants_it;
          gone = subst (λ (s : Counted). IsGone s.bucket step.wanted) bucket_is was.gone;
          answers = was.told ∙ ap (λ (items : List Observed). answers_of items ++ NotFound ∷ []) f.told;
          empty = ap (λ (b : Base). b.bytes) was.base ∙ f.base;
          kept = same;
        };
        errand_is = was.errand ∙ f.errand_is;
        stage = was.ended;
      }))
  carries_read course after store left (inr (inl (w, stage))) step = differ course.stage step.was stage
  carries_read course after store left (inr (inr e)) step = never_ended course.stage step.was e.stage

  -- ---- the end
  module _ (course after : Course) (store : Counted) (nothing : AsksNothing course after) where
    errand_as : after.errand ≡ course.errand
    errand_as = ap (λ (c : Course). c.errand) nothing.left

    told_as : after.told ≡ course.told
    told_as = ap (λ (c : Course). c.told) nothing.left

    base_as : after.base ≡ course.base
    base_as = ap (λ (c : Course). c.base) nothing.left

    carried : IsWalked errand second start course store → ((contents : Contents) → MayEnd (rest course contents [])) → IsCarried errand second start after.told after.base store
    carried w ends = record {
      seen = w.seen;
      read = subst (HasRead start.bucket (wanted_of errand)) (sym base_as) w.read;
      walked = λ contents holds. w.walked contents (subst (HoldsBase contents (wanted_of errand)) base_as holds);
      completes = λ contents holds. subst MayEnd (w.left contents (subst (HoldsBase contents (wanted_of errand)) base_as holds) [] ∙ ap (plan_over errand contents second) (append-nil (answers_of w.seen))) (ends contents);
      tells = subst (λ (told : ToldList). TellSame w.seen told.items) (sym told_as) w.tells;
    }

    pub carried_out : Carries errand second start course store → CarriedOut errand second start after.told after.base store
    carried_out (inl f) = by nothing.ends
      where
        by : (course.stage ≡ Ended) ⊎ ((contents : Contents) → MayEnd (rest course contents [])) → CarriedOut errand second start after.told after.base store
        by (inl ended) = never_ended course.stage f.stage ended
        by (inr ends) = inl (carried (fresh_walked course store f (fresh_wants course store None f (nothing.read f.stage))) ends)
    carried_out (inr (inl (w, stage))) = by nothing.ends
      where
        by : (course.stage ≡ Ended) ⊎ ((contents : Contents) → MayEnd (rest course contents [])) → CarriedOut errand second start after.told after.base store
        by (inl ended) = absurd (let never : Between ≡ Ended = sym stage ∙ ended in cc)
        by (inr ends) = inl (carried w ends)
    carried_out (inr (inr e)) = inr (subst (λ (told : ToldList). IsUnread errand start told after.base store) (sym told_as) (subst (λ (base : Base). IsUnread errand start course.told base store) (sym base_as) e.unread))

    -- ---- memory for its entries was refused
    listed_walk : IsWalked errand second start course store → IsListing after.errand → StopsShort errand second start store
    listed_walk w lists = inl (record { base = course.base; seen = w.seen; read = w.read; walked = w.walked; asks_on = inr (w.lists (subst IsListing errand_as lists)) })

    pub stops_listed : Carries errand second start course store → IsListing after.errand → StopsShort errand second start store
    stops_listed (inl f) lists = listed_walk (fresh_walked course store f (fresh_wants course store None f (nothing.read f.stage))) lists
    stops_listed (inr (inl (w, stage))) lists = listed_walk w lists
    stops_listed (inr (inr e)) lists = inr (record { wanted = e.unread.wanted; wants_it = e.unread.wants_it; kept = e.unread.kept })

  -- ---- memory for what it asks was refused
  module _ (course : Course) (store : Counted) where
    stops_walk : IsWalked errand second start course store → ((contents : Contents) → HoldsRead contents course → rest course contents [] ≢ done) → StopsShort errand second start store
    stops_walk w asks = inl (record {
      base = course.base;
      seen = w.seen;
      read = w.read;
      walked = w.walked;
      asks_on = inl (λ contents holds e. asks contents (w.holds contents holds) (w.left contents holds [] ∙ ap (plan_over errand contents second) (append-nil (answers_of w.seen)) ∙ e));
    })

    pub stops_so : Carries errand second start course store → AsksMore course → StopsShort errand second start store
    stops_so (inl f) asks = by (wanted_of errand) refl asks
      where
        by : (found : Option Wanted) → wanted_of errand ≡ found → AsksMore course → StopsShort errand second start store
        by (Some wanted) is more = inr (record { wanted = wanted; wants_it = is; kept = f.kept })
        by None is (inl (unread, some)) = absurd (no_some (wanted_of course.errand) (ap wanted_of f.errand_is ∙ is) some)
        by None is (inr more) = stops_walk (fresh_walked course store f is) more
    stops_so (inr (inl (w, stage))) (inl (unread, some)) = differ course.stage unread stage
    stops_so (inr (inl (w, stage))) (inr asks) = stops_walk w asks
    stops_so (inr (inr e)) asks = inr (record { wanted = e.unread.wanted; wants_it = e.unread.wants_it; kept = e.unread.kept })

  -- ---- before a step, and behind it
  pub can_read : (course : Course) (store : Counted) → Carries errand second start course store → HasBytes start.bucket (wanted_of errand) → CanRead course store
  can_read course store (inl f) has unread =
      subst (λ (s : Counted). HasBytes s.bucket (wanted_of course.errand)) (sym f.kept) (subst (λ (e : Errand). HasBytes start.bucket (wanted_of e)) (sym f.errand_is) has)
  can_read course store (inr (inl (w, stage))) has unread = differ course.stage unread stage
  can_read course store (inr (inr e)) has unread = never_ended course.stage unread e.stage

  pub carries_step : (course after : Course) (store left : Counted) → Carries errand second start course store → Steps true course after store left → Carries errand second start after left
  carries_step course after store left carries (inl read) = carries_read course after store left carries read
  carries_step course after store left carries (inr on) = carries_on course after store left carries on

-- fewer steps may be made then
pub fewer : (course after : Course) (store left : Counted) → Steps true course after store left
    → 2 * (most - left.made) + weight after.stage < 2 * (most - store.made) + weight course.stage
fewer course after store left (inl read) =
    let was : weight course.stage ≡ 1 = ap weight read.was in
    let is : weight after.stage ≡ 0 = by read.came in
    let same : left.made ≡ store.made = ap (λ (s : Counted). s.made) read.kept in
    omega (arith, was, is, same)
  where
    by : WasRead course after store read.wanted ⊎ WasGone course after store read.wanted → weight after.stage ≡ 0
    by (inl was) = ap weight was.stage
    by (inr was) = ap weight was.ended
fewer course after store left (inr on) =
    let is : weight after.stage ≡ 0 = ap weight on.stage in
    let more : left.made ≡ store.made + 1 = ap (λ (s : Counted). s.made) on.made in
    let few : store.made < most = on.bounded in
    omega (arith, is, more, few)
