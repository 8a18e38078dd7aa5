-- What is told of notes is told of the items that they stand for.
use Rattle.std.proofs.Common.{◌≡◌, ℕ, Bool, false, List, [], ◌∷◌, Option, Some, None, IsSome, IfSome, map, refl, sym, ap, subst, ◌∙◌, true≢false}
use Rattle.std.specs.List.{AllByRecursion, cons_option}
use Rattle.std.specs.Prelude.{option_and_then, option_map}
use Rattle.bucket_api.specs.BucketState.{BucketState}
use Rattle.bucket_api.specs.LogEvent.{LogEvent}
use Rattle.history_spec.specs.Account.{Item, looked, made, moment_of, recalled, use_of}
use Rattle.history_spec.specs.Observing.{observed_at}
use Rattle.history_spec.specs.Pasts.{key_of, shown_of, written_by}
use Rattle.mount_kept.specs.Items.{AreToldAs, NotesTellItems, note_of, note_shown, notes_of, unflagged}
use Rattle.mount_kept.specs.Notes.{EndsBy}
use Rattle.mount_kept.specs.declared.notes.Note.TheVariants.{Wrote}
use Rattle.mount_model.specs.Observing.{Observed}
use Rattle.mount_model.specs.declared.journal.Use.{Use}
use Rattle.record_spec.specs.Laws as acts
use Rattle.record_spec.specs.Laws.{Act, MayHappen}
use Rattle.record_spec.specs.RecordList.{Key, RecordList}
use Rattle.record_spec.specs.declared.records.Record.{Record}
use Rattle.record_spec.specs.declared.records.Shown.{Shown}
use Rattle.thrift_spec.specs.OneCall.{IsToldOwn, OwnAreTold}
use Rattle.thrift_spec.specs.Records.{act_at, act_of, came_of, list_after_items, list_by}

module _ (implicit : Bool) (start : BucketState) (log : List LogEvent) (clock : ℕ) (after : RecordList) where
  abbrev Told : RecordList → List Item → List Use → Type 0
  Told list items uses = AreToldAs implicit start log clock list items uses after

  abbrev next : RecordList → Option Act → RecordList
  next list act = list_by implicit start log clock list act

  abbrev saw_of : RecordList → ℕ → Observed → Shown → Bool → Act
  saw_of list moment seen shown kept = acts.saw (key_of seen.op) (record { moment = moment; tick = clock; shown = shown }) (came_of list (key_of seen.op) moment kept)

  -- one item more in front, which is this act, with its use in front of theirs
  in_front : (list : RecordList) (item flagged : Item) (items : List Item) (act : Option Act) (uses more : List Use) → act_at implicit start log clock list flagged ≡ act
      → unflagged flagged ≡ unflagged item → IsToldOwn implicit start log clock list flagged → cons_option (use_of flagged) more ≡ uses → Told (next list act) items more → Told list (item ∷ items) uses
  in_front list item flagged items act uses more is same told printed rest = record {
    told = flagged ∷ rest.told;
    same = ap (λ i. i ∷ map unflagged rest.told) same ∙ ap (λ is. unflagged item ∷ is) rest.same;
    printed = ap (cons_option (use_of flagged)) rest.printed ∙ printed;
    leaves = ap (λ a. list_after_items implicit start log clock (next list a) rest.told) is ∙ rest.leaves;
    flags = (told, subst (λ a. OwnAreTold implicit start log clock (next list a) rest.told) (sym is) rest.flags);
  }

  -- what an item is to the list that observed this
  act_is : (list : RecordList) (item : Item) (seen : Observed) → observed_at start log (moment_of item) ≡ Some seen → act_at implicit start log clock list item ≡ act_of clock list item seen
  act_is list item seen is = ap (option_and_then (act_of clock list item)) is

  module _ (items : List Item) (later : (list : RecordList) (uses : List Use) → EndsBy implicit clock list (notes_of start log items) uses after → Told list items uses) where
    a_look : (list : RecordList) (moment : ℕ) (kept : Bool) (seen : Observed) (shown : Option Shown) (uses : List Use) → observed_at start log moment ≡ Some seen → shown_of seen.answer ≡ shown
        → EndsBy implicit clock list (note_shown (key_of seen.op) moment shown ∷ notes_of start log items) uses after → Told list (looked moment kept ∷ items) uses
    a_look list moment kept seen None uses is shows ends =
        in_front list (looked moment kept) (looked moment false) items None uses ends.1 act refl (subst (λ a. IfSome a (MayHappen list)) (sym act) tt) (sym ends.3) (later list ends.1 ends.4)
      where
        act : act_at implicit start log clock list (looked moment false) ≡ None
        act = act_is list (looked moment false) seen is
            ∙ ap (λ s. option_map (λ (u : Key × Record). acts.saw u.0 u.1 (came_of list u.0 u.1.moment false)) (option_map (λ shown. (key_of seen.op, record { moment = moment; tick = clock; shown = shown })) s)) shows
    a_look list moment kept seen (Some shown) uses is shows ends =
        in_front list (looked moment kept) (looked moment ends.0) items (Some (saw_of list moment seen shown ends.0)) uses ends.1 act refl (subst (λ a. IfSome a (MayHappen list)) (sym act) ends.2) (sym ends.3)
        (later (next list (Some (saw_of list moment seen shown ends.0))) ends.1 ends.4)
      where
        act : act_at implicit start log clock list (looked moment ends.0) ≡ Some (saw_of list moment seen shown ends.0)
        act = act_is list (looked moment ends.0) seen is
            ∙ ap (λ s. option_map (λ (u : Key × Record). acts.saw u.0 u.1 (came_of list u.0 u.1.moment ends.0)) (option_map (λ shown. (key_of seen.op, record { moment = moment; tick = clock; shown = shown })) s)) shows

    a_write : (list : RecordList) (moment : ℕ) (seen : Observed) (name : Option Key) (uses : List Use) → observed_at start log moment ≡ Some seen → written_by seen.op ≡ name
        → EndsBy implicit clock list (cons_option (option_map (λ n. Wrote n moment) name) (notes_of start log items)) uses after → Told list (made moment ∷ items) uses
    a_write list moment seen None uses is writes ends = in_front list (made moment) (made moment) items None uses uses act refl tt refl (later list uses ends)
      where
        act : act_at implicit start log clock list (made moment) ≡ None
        act = act_is list (made moment) seen is ∙ ap (λ n. option_map (λ (w : Key × ℕ). acts.wrote w.0 w.1) (option_map (λ name. (name, moment)) n)) writes
    a_write list moment seen (Some name) uses is writes ends =
        in_front list (made moment) (made moment) items (Some (acts.wrote name moment)) uses ends.1 act refl tt (sym ends.3) (later (next list (Some (acts.wrote name moment))) ends.1 ends.4)
      where
        act : act_at implicit start log clock list (made moment) ≡ Some (acts.wrote name moment)
        act = act_is list (made moment) seen is ∙ ap (λ n. option_map (λ (w : Key × ℕ). acts.wrote w.0 w.1) (option_map (λ name. (name, moment)) n)) writes

    an_item : (list : RecordList) (item : Item) (seen : Observed) (uses : List Use) → observed_at start log (moment_of item) ≡ Some seen
        → EndsBy implicit clock list (cons_option (note_of item seen) (notes_of start log items)) uses after → Told list (item ∷ items) uses
    an_item list (looked moment kept) seen uses is ends = a_look list moment kept seen (shown_of seen.answer) uses is refl ends
    an_item list (recalled moment) seen uses is ends =
        in_front list (recalled moment) (recalled moment) items (Some (acts.used (key_of seen.op) moment)) uses ends.1 (act_is list (recalled moment) seen is) refl tt (sym ends.3) (later list ends.1 ends.4)
    an_item list (made moment) seen uses is ends = a_write list moment seen (written_by seen.op) uses is refl ends

  items_told : (items : List Item) (list : RecordList) (uses : List Use) → AllByRecursion (λ item. IsSome (observed_at start log (moment_of item))) items
      → EndsBy implicit clock list (notes_of start log items) uses after → Told list items uses
  items_told [] list uses seen ends = record { told = []; same = refl; printed = sym ends.0; leaves = sym ends.1; flags = tt }
  items_told (item ∷ items) list uses seen ends = by (observed_at start log (moment_of item)) refl seen.0 ends (λ l us es. items_told items l us seen.1 es)
    where
      by : (o : Option Observed) → observed_at start log (moment_of item) ≡ o → IsSome o
          → EndsBy implicit clock list (cons_option (option_and_then (note_of item) o) (notes_of start log items)) uses after
          → ((l : RecordList) (us : List Use) → EndsBy implicit clock l (notes_of start log items) us after → Told l items us) → Told list (item ∷ items) uses
      by None is some ends later = absurd (true≢false (sym some))
      by (Some o) is some ends later = an_item items later list item o uses is ends

pub notes_tell_items : NotesTellItems
notes_tell_items implicit start log clock list items uses after seen ends = items_told implicit start log clock after items list uses seen ends
