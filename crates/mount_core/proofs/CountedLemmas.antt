-- What is seen, and what it counts as: one observation more; a record's answer to the first look; and what is left of what was found.
use Rattle.std.proofs.Common.{◌≡◌, true≢false, ◌≤◌, ◌<◌, ◌+◌, arith, ℕ, Bool, true, false, List, [], ◌∷◌, ◌++◌, Option, Some, None, length, refl, sym, ap, subst, ◌∙◌, append_assoc}
use Rattle.std.specs.List.{AllByRecursion, cons_option}
use Rattle.bucket_api.specs.Listing.{ends_in_slash}
use Rattle.bucket_api.specs.Operation.{Operation, copy, delete, insert, list, read, stat, update}
use Rattle.bucket_api.specs.declared.answers.Answer.{Answer}
use Rattle.history_spec.specs.Account.{Item}
use Rattle.history_spec.specs.JournalState.{OpenCall}
use Rattle.mount_core.proofs.WalkLemmas.{answers_of-append}
use Rattle.history_spec.specs.Looks.{IsLook}
use Rattle.history_spec.specs.Pasts.{shown_of}
use Rattle.mount_core.specs.Logged.{CountsAs, item_of, noted_of, notes_seen}
use Rattle.mount_kept.specs.Drafts.{IsDraftOf, looks, note_from}
use Rattle.mount_kept.specs.declared.draft.Draft.{Draft}
use Rattle.mount_kept.specs.declared.draft.Draft.TheVariants.{Look, Nothing, Write}
use Rattle.mount_kept.specs.declared.notes.Note.TheVariants.{Wrote}
use Rattle.record_spec.specs.declared.records.Shown.{Shown}
use Rattle.mount_kept.specs.Items.{note_of, note_shown}
use Rattle.mount_kept.specs.Recalls.{found_for, found_left, is_probe}
use Rattle.mount_kept.specs.declared.notes.Note.{Note}
use Rattle.mount_kept.specs.declared.recall.Found.{Found}
use Rattle.mount_kept.specs.declared.recall.Recall.{Recall}
use Rattle.mount_laws.specs.Observations.{EndSame, IsPassedOver}
use Rattle.mount_model.specs.Observing.{Observed}
use Rattle.mount_rules.specs.Dispatch.{mount_after, plan, reply_to}
use Rattle.mount_rules.specs.Mount.{MountModel}
use Rattle.mount_rules.specs.Plans.{IsHarmless, answers_of}
use Rattle.std.specs.Prelude.{if◌then◌else◌, option_map}
use Rattle.thrift_spec.specs.Recalls.{StandsFor}

abbrev AreHarmless : List Observed → Type 0
AreHarmless seen = AllByRecursion (λ (x : Observed). IsHarmless x.op) seen

all_last : (seen : List Observed) (x : Observed) → AreHarmless (seen ++ x ∷ []) → IsHarmless x.op
all_last [] x all = all.0
all_last (s ∷ seen) x all = all_last seen x all.1

all_first : (seen : List Observed) (x : Observed) → AreHarmless (seen ++ x ∷ []) → AreHarmless seen
all_first [] x all = tt
all_first (s ∷ seen) x all = (all.0, all_first seen x all.1)

pub harmless_then : (seen : List Observed) (x : Observed) → AreHarmless seen → IsHarmless x.op → AreHarmless (seen ++ x ∷ [])
harmless_then [] x all it = (it, tt)
harmless_then (s ∷ seen) x all it = (all.0, harmless_then seen x all.1 it)

never_none : {P : Type 0} (seen : List Observed) (x : Observed) → answers_of (seen ++ x ∷ []) ≡ [] → P
never_none [] x e = absurd cc
never_none (s ∷ seen) x e = absurd cc

-- ---- what it counts as
module _ (mount : MountModel) (o : OpenCall) where
  pub counts_none : CountsAs mount o [] []
  counts_none = record { asks = λ answers. refl; ends = λ later. record { reply = refl; after = refl }; harmless = λ all. all; none = λ e. refl }

  pub counts_passed : (given : Observed) → IsPassedOver o.taken.at mount o.taken.request given → IsHarmless given.op → CountsAs mount o (given ∷ []) []
  counts_passed given passed harmless = record { asks = passed.asks; ends = passed.ends; harmless = λ all. (harmless, tt); none = λ e. absurd (cc) }

  pub counts_more : (seen counted : List Observed) (x : Observed) → CountsAs mount o seen counted → CountsAs mount o (seen ++ x ∷ []) (counted ++ x ∷ [])
  counts_more seen counted x c = record {
    asks = λ answers.
        ap (plan o.taken.at mount o.taken.request) (more seen answers) ∙ c.asks (x.answer ∷ answers) ∙ ap (plan o.taken.at mount o.taken.request) (sym (more counted answers));
    ends = λ later. record {
      reply = ap (reply_to o.taken.at mount o.taken.request) (append_assoc seen (x ∷ []) later) ∙ (c.ends (x ∷ later)).reply
          ∙ ap (reply_to o.taken.at mount o.taken.request) (sym (append_assoc counted (x ∷ []) later));
      after = ap (mount_after o.taken.at mount o.taken.request) (append_assoc seen (x ∷ []) later) ∙ (c.ends (x ∷ later)).after
          ∙ ap (mount_after o.taken.at mount o.taken.request) (sym (append_assoc counted (x ∷ []) later));
    };
    harmless = λ all. harmless_then seen x (c.harmless (all_first counted x all)) (all_last counted x all);
    none = λ e. never_none seen x e;
  }
    where
      more : (one : List Observed) (answers : List Answer) → answers_of (one ++ x ∷ []) ++ answers ≡ answers_of one ++ (x.answer ∷ answers)
      more one answers = ap (λ told. told ++ answers) (answers_of-append one x) ∙ append_assoc (answers_of one) (x.answer ∷ []) answers

  pub counts_first : (first other : Observed) → StandsFor o.taken.at mount o.taken.request first other → IsHarmless first.op → CountsAs mount o (first ∷ []) (other ∷ [])
  counts_first first other stands harmless = record {
    asks = stands.asks;
    ends = λ later. record { reply = stands.reply later; after = stands.after later };
    harmless = λ all. (harmless, tt);
    none = λ e. absurd (cc);
  }

-- ---- what is noted
pub notes_more : (items : List Item) (seen : List Observed) (item : Item) (x : Observed) → length seen ≡ length items
    → notes_seen (items ++ item ∷ []) (seen ++ x ∷ []) ≡ notes_seen items seen ++ cons_option (note_of item x) []
notes_more [] [] item x same = refl
notes_more [] (s ∷ seen) item x same = absurd (cc)
notes_more (i ∷ items) [] item x same = absurd (cc)
notes_more (i ∷ items) (s ∷ seen) item x same =
    ap (cons_option (note_of i s)) (notes_more items seen item x (suc_same (length seen) (length items) same)) ∙ by (note_of i s) (notes_seen items seen) (cons_option (note_of item x) [])
  where
    by : (n : Option Note) (one other : List Note) → cons_option n (one ++ other) ≡ cons_option n one ++ other
    by None one other = refl
    by (Some n) one other = refl

    suc_same : (n m : ℕ) → length (s ∷ seen) ≡ length (i ∷ items) → length seen ≡ length items
    suc_same n m e = cc

-- ---- what is left of what was found
-- how many records are left
pub one_of : Option Recall → ℕ
one_of None = 0
one_of (Some r) = 1

abbrev pub size_of : Found → ℕ
size_of found = one_of found.probe + one_of found.stat

none_left : one_of None ≡ 0
unfolding one_of
none_left = refl

one_left : (r : Recall) → one_of (Some r) ≡ 1
unfolding one_of
one_left r = refl

abbrev AreFewer : Found → Found → Type 0
AreFewer rest found = size_of rest ≤ size_of found

without_probe : (found : Found) → AreFewer (record found { probe = None }) found
without_probe found = let none = none_left in omega (arith, none)

without_stat : (found : Found) → AreFewer (record found { stat = None }) found
without_stat found = let none = none_left in omega (arith, none)

all_stay : (found : Found) → AreFewer found found
all_stay found = omega arith

pub size_left : (found : Found) (op : Operation) → size_of (found_left found op) ≤ size_of found
size_left found (list prefix slash max after) = by (is_probe slash max after)
  where
    by : (b : Bool) → AreFewer (if b then record found { probe = None } else found) found
    by true = without_probe found
    by false = all_stay found
size_left found (stat name) = by (ends_in_slash name)
  where
    by : (b : Bool) → AreFewer (if b then record found { probe = None } else record found { stat = None }) found
    by true = without_probe found
    by false = without_stat found
size_left found _ = all_stay found

fewer_probe : (found : Found) (r : Recall) → found.probe ≡ Some r → size_of (record found { probe = None }) < size_of found
fewer_probe found r is = let none = none_left in let one : one_of found.probe ≡ 1 = ap one_of is ∙ one_left r in omega (arith, none, one)

fewer_stat : (found : Found) (r : Recall) → found.stat ≡ Some r → size_of (record found { stat = None }) < size_of found
fewer_stat found r is = let none = none_left in let one : one_of found.stat ≡ 1 = ap one_of is ∙ one_left r in omega (arith, none, one)

never_found : {P : Type 0} (r : Recall) → None ≡ Some r → P
never_found r e = absurd (cc)

pub size_recalled : (found : Found) (op : Operation) (r : Recall) → found_for found op ≡ Some r → size_of (found_left found op) < size_of found
size_recalled found (list prefix slash max after) r is = by (is_probe slash max after) is
  where
    by : (b : Bool) → (if b then found.probe else None) ≡ Some r → size_of (if b then record found { probe = None } else found) < size_of found
    by true is = fewer_probe found r is
    by false is = never_found r is
size_recalled found (stat name) r is = by (ends_in_slash name) is
  where
    by : (b : Bool) → (if b then found.probe else found.stat) ≡ Some r → size_of (if b then record found { probe = None } else record found { stat = None }) < size_of found
    by true is = fewer_probe found r is
    by false is = fewer_stat found r is
size_recalled found _ r is = never_found r is

-- ---- what a draft notes
pub draft_look : (op : Operation) (draft : Draft) → IsDraftOf op draft → looks draft ≡ true → IsLook op
draft_look op (Look key) is e = is.0
draft_look op (Write name) is e = absurd (true≢false (sym e))
draft_look op Nothing is e = absurd (true≢false (sym e))

pub draft_other : (op : Operation) (draft : Draft) → IsDraftOf op draft → looks draft ≡ false → IsLook op → ⊥
draft_other op (Look key) is e = absurd (true≢false e)
draft_other op (Write name) is e = is.0
draft_other op Nothing is e = is.0

pub draft_note : (op : Operation) (draft : Draft) (moment : ℕ) (shown : Option Shown) (answer : Answer) → IsDraftOf op draft → (looks draft ≡ true → shown ≡ shown_of answer)
    → cons_option (note_from draft moment shown) [] ≡ noted_of (item_of (looks draft) moment) (record { op = op; moment = moment; answer = answer })
draft_note op (Look key) moment shown answer is shows =
    ap (λ s. note_shown key moment s ∷ []) (shows refl) ∙ ap (λ k. note_shown k moment (shown_of answer) ∷ []) is.1
draft_note op (Write name) moment shown answer is shows = ap (λ n. cons_option (option_map (λ w. Wrote w moment) n) []) (sym is.1)
draft_note op Nothing moment shown answer is shows = ap (λ n. cons_option (option_map (λ w. Wrote w moment) n) []) (sym is.1)
