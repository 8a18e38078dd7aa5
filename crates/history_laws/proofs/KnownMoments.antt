-- What is known, along an account, of the moments that are kept of nodes: at each the bucket told of its node's generation, and
-- a call that is done saw the node's name then, used a record of it, or wrote it. So what a call observes is no older than what
-- is kept of the name, also where a lawful record served.
use Rattle.std.proofs.Common.{◌≡◌, ◌≤◌, ◌<◌, ℕ, zero, suc, Bool, true, false, List, [], ◌∷◌, Contains, Option, Some, None, refl, sym, ap, subst, ◌∙◌, ◌⊎◌, inl, inr, nat_le, arith}
use Rattle.std.proofs.lemmas.Bool.Decides.{Decides-eqb, nat_tests}
use Rattle.std.proofs.lemmas.List.Elements.{All-contains, Contains-append_left, Contains-append_right}
use Rattle.std.specs.List.{AllByRecursion, cons_option}
use Rattle.std.specs.Prelude.{option_and_then, option_map, ◌==◌, if◌then◌else◌}
use Rattle.bucket_api.specs.BucketState.{BucketState}
use Rattle.bucket_api.specs.LogEvent.{LogEvent}
use Rattle.bucket_api.specs.Metadata.{Metadata}
use Rattle.bucket_api.specs.Operation.{Operation, stat, read, insert, update, delete, copy, list}
use Rattle.bucket_api.specs.declared.answers.Answer.{Answer}
use Rattle.bucket_api.specs.declared.answers.Answer.TheVariants as answers
use Rattle.history_laws.proofs.Bare.{IsWithin}
use Rattle.history_laws.proofs.CallPairs.{contains_cons}
use Rattle.history_laws.proofs.Moments.{Told, told_at}
use Rattle.history_laws.proofs.Records.{first_of, later_of}
use Rattle.history_laws.proofs.WalkTells.{IsNoMeta, read_tells}
use Rattle.history_spec.proofs.Walking.{Walked}
use Rattle.history_spec.specs.Account.{Item, looked, made, moment_of, own_moments_of, recalled}
use Rattle.history_spec.specs.Fits.{MayTell}
use Rattle.history_spec.specs.JournalState.{OpenCall, past_of}
use Rattle.history_spec.specs.Looks.{IsLook, MayRecall}
use Rattle.history_spec.specs.Observing.{observed_at, seen_by}
use Rattle.history_spec.specs.Pasts.{joined, key_of, past_by, saw, shown_of, told_by, used, written_by, wrote}
use Rattle.mount_laws.proofs.Keeping.{no_Some, same_Some}
use Rattle.mount_model.specs.Observing.{Observed}
use Rattle.mount_rules.specs.Laws.{IsRead}
use Rattle.mount_rules.specs.Plans.{Allows, Plan, plan_after}
use Rattle.mount_rules.specs.Standing as standing
use Rattle.record_spec.specs.Past.{Past, Writes}
use Rattle.record_spec.specs.RecordList.{Key}
use Rattle.record_spec.specs.declared.records.Record.{Record}
use Rattle.record_spec.specs.declared.records.Shown.TheVariants as shows

-- what is not above is below
pub not_below : (m n : ℕ) → (m < n → ⊥) → n ≤ m
not_below m n never = by (nat_le n m) refl
  where
    by : (b : Bool) → nat_le n m ≡ b → n ≤ m
    by true is = grind (arith, nat_tests)
    by false is = absurd (never (grind (arith, nat_tests)))

-- ---- operations that show an object of a name
abbrev pub about : Operation → Option (List ℕ)
about (stat name) = Some name
about (insert name content pairs only stamp) = Some name
about (update name pairs only only_meta stamp) = Some name
about op = None

-- a look asks about that key, and another operation writes that name
look_key : (op : Operation) (name : List ℕ) → IsLook op → about op ≡ Some name → key_of op ≡ name
look_key (stat n) name look is = same_Some is
look_key (list prefix slash max after) name look is = absurd (no_Some is)
look_key (read n generation first count) name look is = absurd look
look_key (insert n content pairs only stamp) name look is = absurd look
look_key (update n pairs only only_meta stamp) name look is = absurd look
look_key (delete n only) name look is = absurd look
look_key (copy from generation to stamp) name look is = absurd look

made_writes : (op : Operation) (name : List ℕ) → (IsLook op → ⊥) → about op ≡ Some name → written_by op ≡ Some name
made_writes (stat n) name other is = absurd (other tt)
made_writes (insert n content pairs only stamp) name other is = is
made_writes (update n pairs only only_meta stamp) name other is = is
made_writes (list prefix slash max after) name other is = absurd (no_Some is)
made_writes (read n generation first count) name other is = absurd (no_Some is)
made_writes (delete n only) name other is = absurd (no_Some is)
made_writes (copy from generation to stamp) name other is = absurd (no_Some is)

-- ---- news
-- What was observed is news: no older than what is known of the name that it is about, and later where it shows that a
-- generation stands no more; and what it shows is known then.
pub record IsNewsTo (Known Then : List ℕ → ℕ → ℕ → Type 0) (s : Observed) : Type 0 where
  pub later : (name : List ℕ) → about s.op ≡ Some name → (source known : ℕ) → Known name source known → known ≤ s.moment
  pub gone : (name : List ℕ) → about s.op ≡ Some name → (source known : ℕ) → Known name source known → standing.standing_by source s.answer ≡ standing.gone → known < s.moment
  pub new : (name : List ℕ) (meta : Metadata) → about s.op ≡ Some name → s.answer ≡ answers.Meta meta → Then name meta.generation s.moment
  pub reads : IsRead s.op → IsNoMeta s.answer
  pub positive : 1 ≤ s.moment

-- so is each along a plan
abbrev pub NewsAlong : (List ℕ → ℕ → ℕ → Type 0) → (List ℕ → ℕ → ℕ → Type 0) → Plan → List Observed → Type 0
NewsAlong Known Then plan [] = Unit {0}
NewsAlong Known Then plan (s ∷ more) = Allows (plan []) s.op × IsNewsTo Known Then s × NewsAlong Known Then (plan_after plan s.answer) more

module _ (start : BucketState) (log : List LogEvent) where
  -- ---- what is known
  -- a call that is done saw the name at the moment, used a record of it, or wrote it
  abbrev pub IsToldOf : Past → List ℕ → ℕ → Type 0
  IsToldOf past name known = ((r : Record) × Contains past.seen (name, r) × (r.moment ≡ known)) ⊎ (Contains past.used (name, known) ⊎ Contains past.written (name, known))

  -- The bucket told of the generation at the moment, which lies not behind this front; and the past tells of the name then.
  pub record IsToldKnown (front : ℕ) (past : Past) (name : List ℕ) (source known : ℕ) : Type 0 where
    pub seen : Observed
    pub there : observed_at start log known ≡ Some seen
    pub meta : Metadata
    pub showing : seen.answer ≡ answers.Meta meta
    pub same : meta.generation ≡ source
    pub within : known ≤ front
    pub told : IsToldOf past name known

  -- what is known stays so
  pub known_stays : (front later : ℕ) (past more : Past) → front ≤ later → IsWithin (IsToldKnown front past) (IsToldKnown later (joined more past))
  known_stays front later past more onward name source known its = record {
    seen = its.seen;
    there = its.there;
    meta = its.meta;
    showing = its.showing;
    same = its.same;
    within = let low : known ≤ front = its.within in omega (arith, low, onward);
    told = by its.told;
  }
    where
      by : IsToldOf past name known → IsToldOf (joined more past) name known
      by (inl (r, there, at)) = inl (r, Contains-append_right more.seen past.seen (name, r) there, at)
      by (inr (inl there)) = inr (inl (Contains-append_right more.used past.used (name, known) there))
      by (inr (inr there)) = inr (inr (Contains-append_right more.written past.written (name, known) there))

  -- what an item tells is among what they all tell
  told_contains : {X : Type 0} (tells : Item → Observed → Option X) (items : List Item) (item : Item) (seen : Observed) (x : X) → Contains items item
      → observed_at start log (moment_of item) ≡ Some seen → tells item seen ≡ Some x → Contains (told_by start log tells items) x
  told_contains tells [] item seen x (k, within, there) is told = absurd (omega (arith, within))
  told_contains tells (i ∷ items) item seen x there is told = by (contains_cons i items item there) (told_contains tells items item seen x)
    where
      by : (i ≡ item) ⊎ Contains items item → (Contains items item → observed_at start log (moment_of item) ≡ Some seen → tells item seen ≡ Some x → Contains (told_by start log tells items) x)
          → Contains (told_by start log tells (i ∷ items)) x
      by (inl same) rest =
          let first : option_and_then (tells i) (observed_at start log (moment_of i)) ≡ Some x =
          ap (λ y. option_and_then (tells y) (observed_at start log (moment_of y))) same ∙ ap (option_and_then (tells item)) is ∙ told in
          subst (λ found. Contains (cons_option found (told_by start log tells items)) x) (sym first) (first_of x (told_by start log tells items))
      by (inr later) rest = later_of (option_and_then (tells i) (observed_at start log (moment_of i))) (told_by start log tells items) x (rest later is told)

  -- ---- what a call observes
  -- A call that was taken at this front, whose own operations came behind it; it is done at a later one with these items.
  module _ (o : OpenCall) (front behind : ℕ) (items : List Item) (above : (moment : ℕ) → Contains (own_moments_of items) moment → front < moment) where
    abbrev pub Before : List ℕ → ℕ → ℕ → Type 0
    Before = IsToldKnown front (past_of o.before)

    abbrev pub Behind : List ℕ → ℕ → ℕ → Type 0
    Behind = IsToldKnown behind (joined (past_by start log o.clock items) (past_of o.before))

    -- an own item is among the own moments
    own_there : (is : List Item) (item : Item) (moment : ℕ) → Contains is item → own_moments_of (item ∷ []) ≡ moment ∷ [] → Contains (own_moments_of is) moment
    own_there [] item moment (k, within, there) own = absurd (omega (arith, within))
    own_there (i ∷ is) item moment there own = by (contains_cons i is item there) (own_there is item moment)
      where
        later : (i : Item) → Contains (own_moments_of is) moment → Contains (own_moments_of (i ∷ is)) moment
        later (looked m kept) rest = later_of (Some m) (own_moments_of is) moment rest
        later (recalled m) rest = rest
        later (made m) rest = later_of (Some m) (own_moments_of is) moment rest

        first : (i : Item) → own_moments_of (i ∷ []) ≡ moment ∷ [] → Contains (own_moments_of (i ∷ is)) moment
        first (looked m kept) its = subst (λ n. Contains (m ∷ own_moments_of is) n) (heads its) (first_of m (own_moments_of is))
          where
            heads : m ∷ [] ≡ moment ∷ [] → m ≡ moment
            heads e = cc
        first (recalled m) its = absurd (let never : [] ≡ moment ∷ [] = its in cc)
        first (made m) its = subst (λ n. Contains (m ∷ own_moments_of is) n) (heads its) (first_of m (own_moments_of is))
          where
            heads : m ∷ [] ≡ moment ∷ [] → m ≡ moment
            heads e = cc

        by : (i ≡ item) ⊎ Contains is item → (Contains is item → own_moments_of (item ∷ []) ≡ moment ∷ [] → Contains (own_moments_of is) moment) → Contains (own_moments_of (i ∷ is)) moment
        by (inl same) rest = first i (ap (λ x. own_moments_of (x ∷ [])) same ∙ own)
        by (inr among) rest = later i (rest among own)

    -- a lawful record is no older than what is known
    record_later : (op : Operation) (moment : ℕ) (name : List ℕ) (source known : ℕ) → key_of op ≡ name → MayRecall o op moment → Before name source known → known ≤ moment
    record_later op moment name source known key may its = by its.told
      where
        at : may.r.moment ≡ moment
        at = may.is

        by : IsToldOf (past_of o.before) name known → known ≤ moment
        by (inl (r, there, same)) =
            let low : r.moment ≤ may.r.moment =
            All-contains (λ (u : Key × Record). u.0 ≡ key_of op → u.1.moment ≤ may.r.moment) (past_of o.before).seen (name, r) may.lawful.newest_seen there (sym key) in
            let is = at in
            let its_moment : r.moment ≡ known = same in
            omega (arith, low, is, its_moment)
        by (inr (inl there)) =
            let low : known ≤ may.r.moment =
            All-contains (λ (u : Key × ℕ). u.0 ≡ key_of op → u.1 ≤ may.r.moment) (past_of o.before).used (name, known) may.lawful.newest_used there (sym key) in
            let is = at in
            omega (arith, low, is)
        by (inr (inr there)) =
            let low : known ≤ may.r.moment =
            All-contains (λ (w : Key × ℕ). Writes o.taken.at.config.implicit_dirs w.0 (key_of op) → w.1 ≤ may.r.moment) (past_of o.before).written (name, known) may.lawful.unwritten there (inl key) in
            let is = at in
            omega (arith, low, is)

    -- what told of a generation doesn't show that it stands no more
    still_stands : (source : ℕ) (answer : Answer) (meta : Metadata) → answer ≡ answers.Meta meta → meta.generation ≡ source → standing.standing_by source answer ≡ standing.gone → ⊥
    still_stands source answer meta is same gone =
        by (meta.generation == source) ((Decides-eqb meta.generation source).1 same) (sym (ap (standing.standing_by source) is) ∙ gone)
      where
        by : (b : Bool) → b ≡ true → (if b then standing.live meta else standing.gone) ≡ standing.gone → ⊥
        by true equal e = cc
        by false equal e = cc

    module _ (item : Item) (among : Contains items item) (within : moment_of item ≤ behind) (seen : Observed) (is : observed_at start log (moment_of item) ≡ Some seen)
        (may : MayTell o seen.op item) where
      shown_there : Told start log (moment_of item) seen
      shown_there = told_at start log (moment_of item) seen is

      positive : (moment : ℕ) → observed_at start log moment ≡ Some seen → 1 ≤ moment
      positive zero there = absurd (no_Some (told_at start log 0 seen there).there)
      positive (suc k) there = omega arith

      told : (name : List ℕ) (meta : Metadata) → about seen.op ≡ Some name → seen.answer ≡ answers.Meta meta
          → IsToldOf (joined (past_by start log o.clock items) (past_of o.before)) name (moment_of item)
      told name meta its shown = by item refl may
        where
          by : (i : Item) → i ≡ item → MayTell o seen.op i → IsToldOf (joined (past_by start log o.clock items) (past_of o.before)) name (moment_of item)
          by (looked moment kept) same look =
              let r : Record = record { moment = moment; tick = o.clock; shown = shows.Object meta } in
              inl (
                r,
                Contains-append_left (told_by start log (saw o.clock) items) (past_of o.before).seen (name, r)
                    (told_contains (saw o.clock) items item seen (name, r) among is
                    (ap (λ i. saw o.clock i seen) (sym same)
                    ∙ ap (λ a. option_map (λ s. (key_of seen.op, record { moment = moment; tick = o.clock; shown = s })) (shown_of a)) shown
                    ∙ ap (λ k. Some (k, r)) (look_key seen.op name look its))),
                ap moment_of same,
              )
          by (recalled moment) same look =
              inr (inl (Contains-append_left (told_by start log used items) (past_of o.before).used (name, moment_of item)
              (told_contains used items item seen (name, moment_of item) among is
              (ap (λ i. used i seen) (sym same) ∙ ap (λ k. Some (k, moment)) (look_key seen.op name look.0 its) ∙ ap (λ m. Some (name, m)) (ap moment_of same)))))
          by (made moment) same other =
              inr (inr (Contains-append_left (told_by start log wrote items) (past_of o.before).written (name, moment_of item)
              (told_contains wrote items item seen (name, moment_of item) among is
              (ap (λ i. wrote i seen) (sym same) ∙ ap (option_map (λ n. (n, moment))) (made_writes seen.op name other its) ∙ ap (λ m. Some (name, m)) (ap moment_of same)))))

      -- an own item came behind the front
      behind_front : (moment : ℕ) → own_moments_of (item ∷ []) ≡ moment ∷ [] → front < moment
      behind_front moment own = above moment (own_there items item moment among own)

      later : (name : List ℕ) → about seen.op ≡ Some name → (source known : ℕ) → Before name source known → known ≤ moment_of item
      later name its source known before = by item refl may
        where
          by : (i : Item) → i ≡ item → MayTell o seen.op i → known ≤ moment_of item
          by (looked moment kept) same look =
              let high : front < moment = behind_front moment (ap (λ i. own_moments_of (i ∷ [])) (sym same)) in
              let low : known ≤ front = before.within in
              let at : moment ≡ moment_of item = ap moment_of same in
              omega (arith, high, low, at)
          by (recalled moment) same look = subst (λ m. known ≤ m) (ap moment_of same) (record_later seen.op moment name source known (look_key seen.op name look.0 its) look.1 before)
          by (made moment) same other =
              let high : front < moment = behind_front moment (ap (λ i. own_moments_of (i ∷ [])) (sym same)) in
              let low : known ≤ front = before.within in
              let at : moment ≡ moment_of item = ap moment_of same in
              omega (arith, high, low, at)

      gone : (name : List ℕ) → about seen.op ≡ Some name → (source known : ℕ) → Before name source known → standing.standing_by source seen.answer ≡ standing.gone → known < moment_of item
      gone name its source known before away = not_below (moment_of item) (suc known) (λ low.
          let high : known ≤ moment_of item = later name its source known before in
          let at : known ≡ moment_of item = omega (arith, low, high) in
          let same : before.seen ≡ seen = same_Some (sym before.there ∙ ap (observed_at start log) at ∙ is) in
          still_stands source seen.answer before.meta (ap (λ (x : Observed). x.answer) (sym same) ∙ before.showing) before.same away)

      pub item_news : IsNewsTo Before Behind seen
      item_news = record {
        later = λ name its source known before. subst (λ m. known ≤ m) (sym shown_there.at) (later name its source known before);
        gone = λ name its source known before away. subst (λ m. known < m) (sym shown_there.at) (gone name its source known before away);
        new = λ name meta its shown. subst (Behind name meta.generation) (sym shown_there.at) (record {
          seen = seen;
          there = is;
          meta = meta;
          showing = shown;
          same = refl;
          within = within;
          told = told name meta its shown;
        });
        reads = λ reads. subst IsNoMeta (sym shown_there.answer) (read_tells shown_there.event.mode shown_there.event.op _ (subst IsRead shown_there.op reads));
        positive = subst (λ m. 1 ≤ m) (sym shown_there.at) (positive (moment_of item) is);
      }

    -- so is all that the call observed
    pub walk_news : (left : List Item) (plan : Plan) → ((item : Item) → Contains left item → Contains items item) → AllByRecursion (λ item. moment_of item ≤ behind) left
        → Walked start log o plan left → NewsAlong Before Behind plan (seen_by start log left)
    walk_news [] plan among within walked = tt
    walk_news (item ∷ left) plan among within walked =
        subst (λ found. NewsAlong Before Behind plan (cons_option found (seen_by start log left))) (sym walked.1) (
          walked.2,
          item_news item (among item (first_of item left)) within.0 walked.0 walked.1 walked.3,
          walk_news left (plan_after plan walked.0.answer) (λ i there. among i (later_of (Some item) left i there)) within.1 walked.4,
        )
