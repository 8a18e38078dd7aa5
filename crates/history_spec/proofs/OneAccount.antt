-- A journal and a log have one account.
use Rattle.std.proofs.Common.{◌≡◌, ℕ, Bool, false, true, Contains, List, [], ◌∷◌, Some, refl, sym, ap, subst, ◌∙◌}
use Rattle.bucket_api.specs.BucketState.{BucketState}
use Rattle.bucket_api.specs.LogEvent.{LogEvent}
use Rattle.bucket_api.specs.declared.answers.Answer.{Answer}
use Rattle.history_spec.specs.Account as account
use Rattle.history_spec.specs.Account.{Account, Item, Turn, journal_of, looked, made, moment_of, own_moments_of, printed, recalled, use_of, uses_of}
use Rattle.history_spec.specs.Fits.{Follows, MayBeDone, MayFollow, plan_of}
use Rattle.history_spec.specs.JournalState.{JournalState, OpenCall, after_turn, first_journal, open_of}
use Rattle.history_spec.specs.Laws.{AccountsAreOne}
use Rattle.history_spec.specs.Looks.{IsLook, MayRecall, keys_taken}
use Rattle.history_spec.specs.Observing.{observed_at}
use Rattle.history_spec.specs.Pasts.{key_of}
use Rattle.history_spec.proofs.PlanSteps.{AsksNoRead, allows_one, looks_alone}
use Rattle.history_spec.proofs.Walking.{Walked, Walked-walks}
use Rattle.mount_model.specs.Observing.{Observed}
use Rattle.mount_model.specs.declared.config.Config.{Config}
use Rattle.mount_model.specs.declared.journal.How.{How}
use Rattle.mount_model.specs.declared.journal.Use.{Use}
use Rattle.mount_rules.specs.Plans.{Allows, Plan, plan_after}

module _ (start : BucketState) (log : List LogEvent) (o : OpenCall) where
  -- what two items of one moment tell is one
  tell_one : (m n : ℕ) (a b : Observed) → m ≡ n → observed_at start log m ≡ Some a → observed_at start log n ≡ Some b → b ≡ a
  tell_one m n a b same first second = let both : Some b ≡ Some a = sym second ∙ (ap (observed_at start log) (sym same) ∙ first) in cc

  -- where the call looks for a record, it reads no source
  abbrev pub LooksAlone : Plan → Type 0
  LooksAlone plan = (key : List ℕ) → Contains (keys_taken o.taken) key → (told : List Answer) → AsksNoRead (plan told)

  abbrev pub ItemsAreOne : Plan → List Item → List Item → Type 0
  ItemsAreOne plan items others =
      LooksAlone plan → Walked start log o plan items → Walked start log o plan others → uses_of items ≡ uses_of others → own_moments_of items ≡ own_moments_of others → items ≡ others

  -- a look is told apart from another operation by what the log tells of its moment
  not_both : (m n : ℕ) (a b : Observed) → m ≡ n → observed_at start log m ≡ Some a → observed_at start log n ≡ Some b → IsLook a.op → (IsLook b.op → ⊥) → ⊥
  not_both m n a b same first second look none = none (subst (λ (x : Observed). IsLook x.op) (sym (tell_one m n a b same first second)) look)

  -- a use of a record is told apart from a look of the call's own
  not_own : (m n : ℕ) (k : Bool) (uses others : List Use) → record { moment = m; own = false; kept = false } ∷ uses ≡ record { moment = n; own = true; kept = k } ∷ others → ⊥
  not_own m n k uses others same =
      let head : ◌≡◌ {A = Use} (record { moment = m; own = false; kept = false }) (record { moment = n; own = true; kept = k }) = cc in
      let flag : false ≡ true = ap (λ (u : Use). u.own) head in
      cc

  -- and from another operation by what the plan asks
  no_record : (m : ℕ) (a b : Observed) (plan : Plan) → LooksAlone plan → Allows (plan []) a.op → Allows (plan []) b.op → IsLook a.op × MayRecall o a.op m → (IsLook b.op → ⊥) → ⊥
  no_record m a b plan alone allowed also may none =
      none (subst IsLook (allows_one (plan []) a.op b.op (alone (key_of a.op) may.1.asked []) allowed also) may.0)

  pub items_are_one : (plan : Plan) (items others : List Item) → ItemsAreOne plan items others
  items_are_one plan [] [] alone walked other uses own = refl
  items_are_one plan [] (looked n kept ∷ others) alone walked other uses own = absurd (cc)
  items_are_one plan [] (recalled n ∷ others) alone walked other uses own = absurd (cc)
  items_are_one plan [] (made n ∷ others) alone walked other uses own = absurd (cc)
  items_are_one plan (looked m k ∷ items) [] alone walked other uses own = absurd (cc)
  items_are_one plan (recalled m ∷ items) [] alone walked other uses own = absurd (cc)
  items_are_one plan (made m ∷ items) [] alone walked other uses own = absurd (cc)
  items_are_one plan (recalled m ∷ items) (looked n k ∷ others) alone walked other uses own = absurd (not_own m n k (uses_of items) (uses_of others) uses)
  items_are_one plan (recalled m ∷ items) (made n ∷ others) alone walked other uses own = absurd (no_record m walked.0 other.0 plan alone walked.2 other.2 walked.3 other.3)
  items_are_one plan (looked m k ∷ items) (recalled n ∷ others) alone walked other uses own = absurd (not_own n m k (uses_of others) (uses_of items) (sym uses))
  items_are_one plan (made m ∷ items) (recalled n ∷ others) alone walked other uses own = absurd (no_record n other.0 walked.0 plan alone other.2 walked.2 other.3 walked.3)
  items_are_one plan (recalled m ∷ items) (recalled n ∷ others) alone walked other uses own =
      let head : ◌≡◌ {A = Use} (record { moment = m; own = false; kept = false }) (record { moment = n; own = false; kept = false }) = cc in
      let same : m ≡ n = ap (λ (u : Use). u.moment) head in
      let rest : items ≡ others = items_are_one (plan_after plan walked.0.answer) items others (λ key asked told. alone key asked (walked.0.answer ∷ told)) walked.4
      (subst (λ (x : Observed). Walked start log o (plan_after plan x.answer) others) (tell_one m n walked.0 other.0 same walked.1 other.1) other.4) (cc) own in
      cc
  items_are_one plan (looked m k ∷ items) (made n ∷ others) alone walked other uses own =
      absurd (not_both m n walked.0 other.0 (let same : m ≡ n = cc in same) walked.1 other.1 walked.3 other.3)
  items_are_one plan (made m ∷ items) (looked n k ∷ others) alone walked other uses own =
      absurd (not_both n m other.0 walked.0 (let same : n ≡ m = cc in same) other.1 walked.1 other.3 walked.3)
  items_are_one plan (looked m k ∷ items) (looked n l ∷ others) alone walked other uses own =
      let same : m ≡ n = cc in
      let head : ◌≡◌ {A = Use} (record { moment = m; own = true; kept = k }) (record { moment = n; own = true; kept = l }) = cc in
      let flag : k ≡ l = ap (λ (u : Use). u.kept) head in
      let rest : items ≡ others = items_are_one (plan_after plan walked.0.answer) items others (λ key asked told. alone key asked (walked.0.answer ∷ told)) walked.4
      (subst (λ (x : Observed). Walked start log o (plan_after plan x.answer) others) (tell_one m n walked.0 other.0 same walked.1 other.1) other.4) (cc) (cc) in
      cc
  items_are_one plan (made m ∷ items) (made n ∷ others) alone walked other uses own =
      let same : m ≡ n = cc in
      let rest : items ≡ others = items_are_one (plan_after plan walked.0.answer) items others (λ key asked told. alone key asked (walked.0.answer ∷ told)) walked.4
      (subst (λ (x : Observed). Walked start log o (plan_after plan x.answer) others) (tell_one m n walked.0 other.0 same walked.1 other.1) other.4) uses (cc) in
      cc

  pub done_is_one : (state : JournalState) (front : ℕ) (h k : How) (items others : List Item) → MayBeDone start log state o front h items → MayBeDone start log state o front k others
      → uses_of items ≡ uses_of others → items ≡ others
  done_is_one state front h k items others may other uses =
      items_are_one (plan_of state o) items others (λ key asked told. looks_alone o.taken.at state.mount o.taken.request o.taken.view key asked told)
      (Walked-walks start log o (plan_of state o) items may.walk.told may.walk.walked) (Walked-walks start log o (plan_of state o) others other.walk.told other.walk.walked)
      uses (may.walk.own ∙ sym other.walk.own)

module _ (config : Config) (start : BucketState) (log : List LogEvent) where
  turns_are_one : (state : JournalState) (turn other : Turn) → MayFollow start log state turn → MayFollow start log state other → printed turn ≡ printed other → turn ≡ other
  turns_are_one state (account.take c f r) (account.take d g s) may also same = cc
  turns_are_one state (account.tick f n) (account.tick g m) may also same = cc
  turns_are_one state (account.take c f r) (account.done d g h items fill) may also same = absurd (cc)
  turns_are_one state (account.take c f r) (account.tick g n) may also same = absurd (cc)
  turns_are_one state (account.done c f h items fill) (account.take d g r) may also same = absurd (cc)
  turns_are_one state (account.done c f h items fill) (account.tick g n) may also same = absurd (cc)
  turns_are_one state (account.tick f n) (account.take d g r) may also same = absurd (cc)
  turns_are_one state (account.tick f n) (account.done d g h items fill) may also same = absurd (cc)
  turns_are_one state (account.done c f h items fill) (account.done d g k others other_fill) may also same =
      let call : c ≡ d = cc in
      let front : f ≡ g = cc in
      let uses : uses_of items ≡ uses_of others = cc in
      let open_one : Some also.next.0 ≡ Some may.next.0 = sym also.next.1 ∙ (ap (λ x. open_of state.opened x.lane) (sym call) ∙ may.next.1) in
      let its : also.next.0 ≡ may.next.0 = cc in
      let items_one : items ≡ others = done_is_one start log may.next.0 state f h k items others may.next.3
      (subst (λ n. MayBeDone start log state may.next.0 n k others) (sym front) (subst (λ x. MayBeDone start log state x g k others) its also.next.3)) uses in
      cc

  follows_one : (state : JournalState) (one other : Account) → Follows config start log state one → Follows config start log state other → journal_of one ≡ journal_of other → one ≡ other
  follows_one state [] [] follows also same = refl
  follows_one state [] (turn ∷ others) follows also same = absurd (cc)
  follows_one state (turn ∷ turns) [] follows also same = absurd (cc)
  follows_one state (turn ∷ turns) (other ∷ others) follows also same =
      let first : turn ≡ other = turns_are_one state turn other follows.0 also.0 (cc) in
      let rest : turns ≡ others = follows_one (after_turn config start log state turn) turns others follows.1
      (subst (λ t. Follows config start log (after_turn config start log state t) others) (sym first) also.1) (cc) in
      cc

pub accounts_are_one : AccountsAreOne
accounts_are_one config start log = follows_one config start log first_journal
