-- Each kind of step keeps the rule.
use Rattle.std.proofs.Common.{◌≡◌, ◌≢◌, ◌⊎◌, ℕ, zero, suc, ◌+◌, ◌%◌, ◌^◌, ◌<◌, eqb, Bool, true, false, not, ◌||◌, ◌&&◌, List, [], ◌∷◌, ◌++◌, length, get_or, set, All, Option, Some, None, is_some, refl, sym, ap, ◌∙◌, subst, inl, inr, ⊎_elim, true≢false, length-append, pos_of_ne-zero, mod-eq_of_lt, eqb-true, arith}
use Rattle.base_laws.proofs.Options.{same_some}
use Rattle.std.proofs.lemmas.Option.{none-some}
use Rattle.std.proofs.lemmas.List.Elements.{All-nil, All-push}
use Rattle.std.proofs.lemmas.Bool.{and_parts}
use Rattle.std.proofs.lemmas.Bool.Decides.{nat_tests}
use mathlib.Core.Option.{some, none, some-injective, some-ne-none}
use mathlib.Core.Option as maybe
use lib.ListN.{get_elem?}
use prog.Atomic.{either}
use Rattle.atomic_table.specs.Table.{State, Me, step, keeps, takes, gives, Allows, Splits, Joins, opening, Final, Seen, rest}
use Rattle.atomic_table.proofs.Lists.{set_here, set_else, exchanged}
use Rattle.turn_lock.specs.declared.known.Line.{Line}
use Rattle.turn_lock.specs.declared.known.Known.{Known}
use Rattle.lane_spec.specs.declared.Numbers.{Numbers}
use Rattle.lane_spec.specs.declared.Numbers.TheVariants.{Only, AllBut}
use Rattle.lane_spec.specs.Numbers.{has, HasAll, without, together}
use Rattle.turn_lock.specs.Book.{line, maker, GoesOn, StandsFor}
use Rattle.turn_lock.specs.Rule.{Rule, IsFree, IsTaken, Knows, holds, IsApart, first_known, spent}
use Rattle.turn_lock.specs.Steps.{took, appended, wrote, left, glanced, giving, given, meeting, settling, settled}
use Rattle.lane_spec.proofs.Held.{has-without, has-together}
use Rattle.lane_spec.proofs.Going.{or_false, GoesOnBy-refl, GoesOnBy-push, GoesOnBy-fewer, longer_goes_on, whole_book}
use Rattle.turn_lock.proofs.Views.{at_length, each_set, each_end, apart_set, apart_cut, apart_joined, entered_set, entered_end}

not_held : (b : Bool) → (b ≡ true → ⊥) → b ≡ false
not_held true h = absurd (h refl)
not_held false h = refl

only_first : {A : Type 0} (P : ℕ → A → Type 0) (a : A) → P 0 a → (i : ℕ) (b : A) → get_elem? (a ∷ []) i ≡ some b → P i b
only_first P a h zero b e = subst (P 0) (some-injective a b e) h
only_first P a h (suc i) b e = absurd (some-ne-none b (sym e))

only_index : {A : Type 0} (a : A) (i : ℕ) (b : A) → get_elem? (a ∷ []) i ≡ some b → i ≡ 0
only_index a zero b e = refl
only_index a (suc i) b e = absurd (some-ne-none b (sym e))

from_settled : (a : Bool) → a || false ≡ true → a ≡ true
from_settled true h = refl
from_settled false h = h

giving_less : (a b c : Bool) → (a && b) || c ≡ true → a || c ≡ true
giving_less true b c h = refl
giving_less false b c h = h

given_away : (a b c : Bool) → b ≡ true → c ≡ false → (a && not b) || c ≡ true → ⊥
given_away true true true e f h = true≢false f
given_away true true false e f h = true≢false (sym h)
given_away false true true e f h = true≢false f
given_away false true false e f h = true≢false (sym h)
given_away a false c e f h = true≢false (sym e)

only_one_test : (n k : ℕ) → (eqb n k || false) || false ≡ true → eqb k n ≡ true
only_one_test n k h = grind (arith, nat_tests)

only_one : (n k : ℕ) → (eqb n k || false) || false ≡ true → k ≡ n
only_one n k h = eqb-true k n (only_one_test n k h)

one_held : (held : Numbers) (n k : ℕ) → has held n ≡ true → k ≡ n → has held k ≡ true
one_held held n k h e = ap (has held) e ∙ h

held_by_one : (a b c d : Bool) → a || c ≡ true → (a || b ≡ true) ⊎ (c || d ≡ true)
held_by_one true b c d h = inl refl
held_by_one false b true d h = inr refl
held_by_one false b false d h = absurd (true≢false (sym h))

-- a word that was exchanged from 0 to 1, or was not 0, is above 0
pub taken_above : (n : ℕ) → 0 < either (eqb n 0) 1 n
taken_above n = exchanged n 0 1 (λ k. 0 < k) (λ _. omega arith) (λ ne. pos_of_ne-zero ne)

module _ {S E H : Type 0} (entries : S → List E) (home : S → H) (may_make : ℕ → E → Type 0) (first : S) where
  abbrev Places : List (Line E) → ℕ → List (maybe.Option (Option S)) → List (Known S E) → Type 0
  Places book turn homes views = IsFree entries home may_make first book turn homes views ⊎ IsTaken turn homes views

  -- the seat id knows w, the others what they knew
  moved : (views : List (Known S E)) (id : ℕ) (v w : Known S E) (book' : List (Line E)) (turn' : ℕ) (words' : List ℕ) (homes' : List (maybe.Option (Option S)))
      → get_elem? views id ≡ some v → words' ≡ turn' ∷ length book' ∷ [] → length book' < 2 ^ 63 → All (λ x. may_make x.by x.entry) book'
      → Places book' turn' homes' (set views id w) → ((j : ℕ) (u : Known S E) → j ≢ id → get_elem? views j ≡ some u → Knows first book' u) → Knows first book' w
      → ((n : ℕ) → holds w n ≡ true → holds v n ≡ true) → IsApart views
      → Rule entries home may_make first record { words = words'; homes = homes'; views = set views id w }
  moved views id v w book' turn' words' homes' at words short made place others mine fewer_held apart = record {
    book = book';
    turn = turn';
    words = words;
    short = short;
    made = made;
    place = place;
    knows = each_set (λ j u. Knows first book' u) views id w mine others;
    apart = apart_set views id v w at fewer_held apart;
  }

  -- a seat that is entered as before leaves the turn where it is
  same_place : (views : List (Known S E)) (id : ℕ) (v w : Known S E) (book : List (Line E)) (turn turn' : ℕ) (homes : List (maybe.Option (Option S)))
      → get_elem? views id ≡ some v → w.entered ≡ v.entered → (turn ≡ 0 → turn' ≡ 0) → (0 < turn → 0 < turn') → Places book turn homes views → Places book turn' homes (set views id w)
  same_place views id v w book turn turn' homes at same free taken = ⊎_elim
      (λ (r : IsFree entries home may_make first book turn homes views). inl record {
        state = r.state;
        turn_is = free r.turn_is;
        slot = r.slot;
        stands = r.stands;
        nobody = each_set (λ j u. u.entered ≡ false) views id w (same ∙ r.nobody id v at) (λ j u _ e. r.nobody j u e);
      })
      (λ (r : IsTaken turn homes views). let h = entered_set views id r.holder v w at same (r.known, r.there, r.entered) in inr record {
        holder = r.holder;
        known = h.0;
        turn_is = taken r.turn_is;
        slot = r.slot;
        there = h.1;
        entered = h.2;
        alone = each_set (λ j u. u.entered ≡ true → j ≡ r.holder) views id w (λ e. r.alone id v at (sym same ∙ e)) (λ j u _ e. r.alone j u e);
      })

  -- a new seat that is not entered leaves the turn where it is
  same_place_end : (views : List (Known S E)) (u : Known S E) (book : List (Line E)) (turn : ℕ) (homes : List (maybe.Option (Option S)))
      → u.entered ≡ false → Places book turn homes views → Places book turn homes (views ++ u ∷ [])
  same_place_end views u book turn homes out = ⊎_elim
      (λ (r : IsFree entries home may_make first book turn homes views). inl record {
        state = r.state;
        turn_is = r.turn_is;
        slot = r.slot;
        stands = r.stands;
        nobody = each_end (λ j x. x.entered ≡ false) views u out r.nobody;
      })
      (λ (r : IsTaken turn homes views). let h = entered_end views r.holder u (r.known, r.there, r.entered) in inr record {
        holder = r.holder;
        known = h.0;
        turn_is = r.turn_is;
        slot = r.slot;
        there = h.1;
        entered = h.2;
        alone = each_end (λ j x. x.entered ≡ true → j ≡ r.holder) views u (λ e. absurd (true≢false (sym e ∙ out))) r.alone;
      })

  -- so does a seat that is not entered and comes to know u
  same_place_else : (views : List (Known S E)) (other : ℕ) (w u : Known S E) (book : List (Line E)) (turn : ℕ) (homes : List (maybe.Option (Option S)))
      → get_elem? views other ≡ some w → w.entered ≡ false → u.entered ≡ false → Places book turn homes views → Places book turn homes (set views other u)
  same_place_else views other w u book turn homes at was now = same_place views other w u book turn turn homes at (now ∙ sym was) (λ e. e) (λ h. h)

  -- the word that a step on the table finds
  turn_found : (words : List ℕ) (turn n : ℕ) → words ≡ turn ∷ n ∷ [] → get_or words 0 0 ≡ turn
  turn_found words turn n e = ap (λ ws. get_or ws 0 0) e

  length_found : (words : List ℕ) (turn n : ℕ) → words ≡ turn ∷ n ∷ [] → get_or words 1 0 ≡ n
  length_found words turn n e = ap (λ ws. get_or ws 1 0) e

  turn_set : (words : List ℕ) (turn n x : ℕ) → words ≡ turn ∷ n ∷ [] → set words 0 x ≡ x ∷ n ∷ []
  turn_set words turn n x e = ap (λ ws. set ws 0 x) e

  length_set : (words : List ℕ) (turn n x : ℕ) → words ≡ turn ∷ n ∷ [] → set words 1 x ≡ turn ∷ x ∷ []
  length_set words turn n x e = ap (λ ws. set ws 1 x) e

  -- Taking the turn: a compare-exchange from 0, or a swap by which sleepers are known
  pub takes_turn : (slots id : ℕ) (v : Known S E) (c : List (ℕ × Option S)) (f : ℕ → ℕ) (a b : ℕ) → has v.held v.number ≡ true → ((n : ℕ) → 0 < f n)
      → Allows (Rule entries home may_make first) slots id (v, c) 0 f (took entries home may_make (step slots 0 a b none) (v, c))
  takes_turn slots id v c f a b own above s r len at low =
      let found = turn_found s.words r.turn (length r.book) r.words in
      let t = f (get_or s.words 0 0) in
      let words' = turn_set s.words r.turn (length r.book) t r.words in
      let kn = r.knows id v at in
      ⊎_elim
      (λ (p : IsFree entries home may_make first r.book r.turn s.homes s.views).
      let w : Known S E = record v { seen = r.book; entered = true } in (
        w,
        takes 0 (Some p.state),
        ap (λ hs. get_elem? hs 0) p.slot,
        moved s.views id v w r.book t (set s.words 0 t) (set s.homes 0 none) at words' r.short r.made
            (inr record {
              holder = id;
              known = w;
              turn_is = above (get_or s.words 0 0);
              slot = ap (λ hs. set hs 0 none) p.slot;
              there = set_here s.views id w (at_length s.views id v at);
              entered = refl;
              alone = each_set (λ j u. u.entered ≡ true → j ≡ id) s.views id w (λ _. refl) (λ j u ne e h. absurd (true≢false (sym h ∙ p.nobody j u e)));
            })
            (λ j u _ e. r.knows j u e)
            (record { lock = kn.lock; seen = GoesOnBy-refl maker v.held r.book; met = kn.met; inside = λ _. (refl, own) })
            (λ n h. h) r.apart,
        (
          (λ _. record {
            state = p.state;
            slot = refl;
            kept = refl;
            seen = kn.seen;
            stands = λ x e. subst (λ y. StandsFor entries home may_make y r.book p.state) (sym (kn.lock x e)) p.stands;
          }),
          (λ ne. absurd (ne (found ∙ p.turn_is))),
        ),
      ))
      (λ (p : IsTaken r.turn s.homes s.views). (
        v,
        keeps,
        tt,
        moved s.views id v v r.book t (set s.words 0 t) s.homes at words' r.short r.made
            (same_place s.views id v v r.book r.turn t s.homes at refl (λ e. let h = p.turn_is in absurd (omega arith)) (λ _. above (get_or s.words 0 0)) r.place)
            (λ j u _ e. r.knows j u e) kn (λ n h. h) r.apart,
        ((λ e. let h = p.turn_is in absurd (omega arith)), (λ _. refl)),
      ))
      r.place

  -- who is entered while the seat id is, is that seat
  only_holder : (book : List (Line E)) (turn id : ℕ) (homes : List (maybe.Option (Option S))) (views : List (Known S E)) (v : Known S E) → Places book turn homes views
      → get_elem? views id ≡ some v → v.entered ≡ true → (0 < turn) × (homes ≡ none ∷ []) × ((j : ℕ) (u : Known S E) → get_elem? views j ≡ some u → u.entered ≡ true → j ≡ id)
  only_holder book turn id homes views v place at entered = ⊎_elim
      (λ (p : IsFree entries home may_make first book turn homes views). absurd (true≢false (sym entered ∙ p.nobody id v at)))
      (λ (p : IsTaken turn homes views). (p.turn_is, p.slot, λ j u e h. p.alone j u e h ∙ sym (p.alone id v at entered)))
      place

  only_lacks : (held : Numbers) (n : ℕ) → held ≡ Only [] → has held n ≡ false
  only_lacks held n e = ap (λ h. has h n) e

  -- Appending: one is added to the length
  pub appends : (slots id : ℕ) (v : Known S E) (c : List (ℕ × Option S)) (entry : Option E) (e : E) (a b : ℕ) → entry ≡ Some e → v.entered ≡ true → v.met_held ≡ Only [] → may_make v.number e
      → suc (length v.seen) < 2 ^ 63 → Allows (Rule entries home may_make first) slots id (v, c) 1 (λ n. (n + 1) % 2 ^ 64) (wrote entry (step slots 1 a b none) (v, c))
  appends slots id v c entry e a b is entered quiet may room s r len at low =
      let x : Line E = line v.number e in
      let w : Known S E = appended v e in
      let kn = r.knows id v at in
      let within = kn.inside entered in
      let hold = only_holder r.book r.turn id s.homes s.views v r.place at entered in
      let found = length_found s.words r.turn (length r.book) r.words in
      let grown = length-append r.book (x ∷ []) in
      let fits : suc (length r.book) < 2 ^ 63 = subst (λ (l : List (Line E)). suc (length l) < 2 ^ 63) within.0 room in
      let longer_by_one : (get_or s.words 1 0 + 1) % 2 ^ 64 ≡ length (r.book ++ x ∷ []) =
      ap (λ n. (n + 1) % 2 ^ 64) found ∙ (mod-eq_of_lt (omega arith) ∙ sym grown) in
      let words' : set s.words 1 ((get_or s.words 1 0 + 1) % 2 ^ 64) ≡ r.turn ∷ length (r.book ++ x ∷ []) ∷ [] =
      length_set s.words r.turn (length r.book) ((get_or s.words 1 0 + 1) % 2 ^ 64) r.words ∙ ap (λ n. r.turn ∷ n ∷ []) longer_by_one in (
        w,
        keeps,
        tt,
        moved s.views id v w (r.book ++ x ∷ []) r.turn (set s.words 1 ((get_or s.words 1 0 + 1) % 2 ^ 64)) s.homes at words'
            (omega arith)
            (All-push (λ y. may_make y.by y.entry) r.book x r.made may)
            (inr record {
              holder = id;
              known = w;
              turn_is = hold.0;
              slot = hold.1;
              there = set_here s.views id w (at_length s.views id v at);
              entered = entered;
              alone = each_set (λ j u. u.entered ≡ true → j ≡ id) s.views id w (λ _. refl) (λ j u _ f h. hold.2 j u f h);
            })
            (λ j u ne f. let ku = r.knows j u f in
            let lacks = or_false (has u.held v.number) (has u.met_held v.number)
            (not_held (holds u v.number) (λ h. ne (r.apart v.number j id u v f at h (ap (λ t. t || has v.met_held v.number) within.1)))) in record {
              lock = ku.lock;
              seen = GoesOnBy-push maker u.held u.seen r.book x ku.seen lacks.0;
              met = GoesOnBy-push maker u.met_held u.met r.book x ku.met lacks.1;
              inside = λ h. absurd (ne (hold.2 j u f h));
            })
            (record {
              lock = kn.lock;
              seen = subst (λ l. GoesOn v.held (v.seen ++ x ∷ []) (l ++ x ∷ [])) within.0 (GoesOnBy-refl maker v.held (v.seen ++ x ∷ []));
              met = GoesOnBy-push maker v.met_held v.met r.book x kn.met (only_lacks v.met_held v.number quiet);
              inside = λ _. (ap (λ l. l ++ x ∷ []) within.0, within.1);
            })
            (λ n h. h) r.apart,
        (λ e' is'. ap (λ y. (appended v y, c)) (same_some _ _ (sym is ∙ is'))),
      )

  -- Leaving: the state goes back, and the turn is free
  pub leaves : (slots id : ℕ) (v : Known S E) (state : S) (x : S) (a b : ℕ) → v.entered ≡ true → v.first ≡ Some x → StandsFor entries home may_make x v.seen state
      → Allows (Rule entries home may_make first) slots id (v, (0, Some state) ∷ []) 0 (λ _. 0) (left (step slots 0 a b none) (v, (0, Some state) ∷ []))
  leaves slots id v state x a b entered is stands s r len at low =
      let w : Known S E = record v { entered = false } in
      let kn = r.knows id v at in
      let within = kn.inside entered in
      let hold = only_holder r.book r.turn id s.homes s.views v r.place at entered in (
        w,
        gives,
        tt,
        moved s.views id v w r.book 0 (set s.words 0 0) (set s.homes 0 (some (Some state))) at (turn_set s.words r.turn (length r.book) 0 r.words) r.short r.made
            (inl record {
              state = state;
              turn_is = refl;
              slot = ap (λ hs. set hs 0 (some (Some state))) hold.1;
              stands = subst (λ (y : S × List (Line E)). StandsFor entries home may_make y.0 y.1 state) (λ k. (kn.lock x is k, within.0 k)) stands;
              nobody = each_set (λ j u. u.entered ≡ false) s.views id w refl (λ j u ne e. not_held u.entered (λ h. ne (hold.2 j u e h)));
            })
            (λ j u _ e. r.knows j u e)
            (record { lock = kn.lock; seen = kn.seen; met = kn.met; inside = λ h. absurd (true≢false (sym h)) })
            (λ n h. h) r.apart,
        refl,
      )

  -- a load of the length, after which the seat knows w
  loads : (v w : Known S E) (id : ℕ) (s : State (Option S) (Known S E)) (r : Rule entries home may_make first s) → get_elem? s.views id ≡ some v → w.entered ≡ v.entered → Knows first r.book w
      → ((n : ℕ) → holds w n ≡ true → holds v n ≡ true)
      → Rule entries home may_make first record { words = set s.words 1 (get_or s.words 1 0); homes = s.homes; views = set s.views id w }
  loads v w id s r at same known fewer_held =
      let words' = length_set s.words r.turn (length r.book) (get_or s.words 1 0) r.words ∙ ap (λ n. r.turn ∷ n ∷ []) (length_found s.words r.turn (length r.book) r.words) in
      moved s.views id v w r.book r.turn (set s.words 1 (get_or s.words 1 0)) s.homes at words' r.short r.made
      (same_place s.views id v w r.book r.turn r.turn s.homes at same (λ e. e) (λ h. h) r.place) (λ j u _ e. r.knows j u e) known fewer_held r.apart

  -- Glancing: a load of the length shows the book
  pub glances : (slots id : ℕ) (v : Known S E) (c : List (ℕ × Option S)) (a b : ℕ)
      → Allows (Rule entries home may_make first) slots id (v, c) 1 (λ n. n) (glanced may_make (step slots 1 a b none) (v, c))
  glances slots id v c a b s r len at low =
      let w : Known S E = record v { seen = r.book } in
      let kn = r.knows id v at in (
        w,
        keeps,
        tt,
        loads v w id s r at refl (record { lock = kn.lock; seen = GoesOnBy-refl maker v.held r.book; met = kn.met; inside = λ h. (refl, (kn.inside h).1) }) (λ n h. h),
        (refl, refl, kn.seen, length_found s.words r.turn (length r.book) r.words, r.made),
      )

  -- Settling: a load after which the seat has the longer of two lists, and the numbers of both
  pub settles : (slots id : ℕ) (v : Known S E) (c : List (ℕ × Option S)) (a b : ℕ) → v.entered ≡ false
      → Allows (Rule entries home may_make first) slots id (v, c) 1 (λ n. n) (settled (step slots 1 a b none) (v, c))
  settles slots id v c a b out s r len at low =
      let w : Known S E = settling v in
      let kn = r.knows id v at in
      let later = longer_goes_on maker v.held v.met_held v.seen v.met r.book kn.seen kn.met in (
        w,
        keeps,
        tt,
        loads v w id s r at refl (record { lock = kn.lock; seen = later.2; met = (r.book, refl, λ k d l. refl); inside = λ h. absurd (true≢false (sym h ∙ out)) })
            (λ n h. sym (has-together v.held v.met_held n) ∙ from_settled (has (together v.held v.met_held) n) h),
        (refl, later.0, later.1),
      )

  -- Splitting: a number goes to a new seat
  pub splits : (id : ℕ) (v : Known S E) (n : ℕ) → v.entered ≡ false → v.met_held ≡ Only [] → has v.held n ≡ true → Splits (Rule entries home may_make first) id v (giving n v) (given n v)
  splits id v n out quiet holds_n s r at =
      let left' : Known S E = giving n v in
      let right' : Known S E = given n v in
      let kn = r.knows id v at in
      let in_left : (k : ℕ) → holds left' k ≡ true → holds v k ≡ true = λ k h. giving_less (has v.held k) (not (eqb k n)) (has v.met_held k) (ap (λ b. b || has v.met_held k) (sym (has-without v.held n k)) ∙ h) in
      let in_right : (k : ℕ) → holds right' k ≡ true → holds v k ≡ true = λ k h. ap (λ b. b || has v.met_held k) (one_held v.held n k holds_n (only_one n k h)) in
      record {
        book = r.book;
        turn = r.turn;
        words = r.words;
        short = r.short;
        made = r.made;
        place = same_place_end (set s.views id left') right' r.book r.turn s.homes refl (same_place s.views id v left' r.book r.turn r.turn s.homes at refl (λ e. e) (λ h. h) r.place);
        knows = each_end (λ j u. Knows first r.book u) (set s.views id left') right'
            (record {
              lock = kn.lock;
              seen = GoesOnBy-fewer maker v.held (Only (n ∷ [])) v.seen r.book (λ k h. one_held v.held n k holds_n (only_one n k (ap (λ b. b || false) h))) kn.seen;
              met = (r.book, refl, λ k d l. refl);
              inside = λ h. absurd (true≢false (sym h));
            })
            (each_set (λ j u. Knows first r.book u) s.views id left'
            (record {
              lock = kn.lock;
              seen = GoesOnBy-fewer maker v.held (without v.held n) v.seen r.book (λ k h. (and_parts (has v.held k) (not (eqb k n)) (sym (has-without v.held n k) ∙ h)).0) kn.seen;
              met = kn.met;
              inside = λ h. absurd (true≢false (sym h ∙ out));
            })
            (λ j u _ e. r.knows j u e));
        apart = apart_cut s.views id v left' right' at r.apart in_left in_right
            (λ k hl hr. given_away (has v.held k) (eqb k n) (has v.met_held k) (only_one_test n k hr) (only_lacks v.met_held k quiet) (ap (λ b. b || has v.met_held k) (sym (has-without v.held n k)) ∙ hl));
      }

  -- Meeting: the other seat's list and numbers go to the seat
  pub meets : (id : ℕ) (v : Known S E) (other : ℕ) (w : Known S E) → v.met_held ≡ Only [] → w.met_held ≡ Only [] → w.entered ≡ false
      → Joins (Rule entries home may_make first) id v other w (meeting v w) spent
  meets id v other w quiet quiet' out s r at ne there' =
      let both : Known S E = meeting v w in
      let there : get_elem? s.views other ≡ some w = sym (set_else s.views id other both ne) ∙ there' in
      let kn = r.knows id v at in
      let kw = r.knows other w there in
      record {
        book = r.book;
        turn = r.turn;
        words = r.words;
        short = r.short;
        made = r.made;
        place = same_place_else (set s.views id both) other w spent r.book r.turn s.homes there' out refl (same_place s.views id v both r.book r.turn r.turn s.homes at refl (λ e. e) (λ h. h) r.place);
        knows = each_set (λ j u. Knows first r.book u) (set s.views id both) other spent
            (record { lock = λ x e. absurd (none-some x e); seen = (r.book, refl, λ k d l. refl); met = (r.book, refl, λ k d l. refl); inside = λ h. absurd (true≢false (sym h)) })
            (λ j u _ e. each_set (λ j u. Knows first r.book u) s.views id both (record { lock = kn.lock; seen = kn.seen; met = kw.seen; inside = kn.inside }) (λ j u _ e. r.knows j u e) j u e);
        apart = apart_joined s.views id other v w both spent at there r.apart
            (λ n h. held_by_one (has v.held n) (has v.met_held n) (has w.held n) (has w.met_held n) h)
            (λ n h. absurd (true≢false (sym h)));
      }

  -- A new lock: nothing is in its book, and its state is at home
  pub starts : entries first ≡ [] → Rule entries home may_make first (opening (0 ∷ 0 ∷ []) (Some first ∷ []) (first_known first))
  starts none_yet = record {
    book = [];
    turn = 0;
    words = refl;
    short = omega arith;
    made = All-nil (λ x. may_make x.by x.entry);
    place = inl record {
      state = first;
      turn_is = refl;
      slot = refl;
      stands = record { list = none_yet; made = All-nil (λ x. may_make x.by x.entry); at_home = refl };
      nobody = λ i v e. only_first (λ j u. u.entered ≡ false) (first_known first) refl i v e;
    };
    knows = λ i v e. only_first (λ j u. Knows first [] u) (first_known first)
        (record { lock = λ x e. sym (same_some _ _ e); seen = GoesOnBy-refl maker (AllBut []) []; met = GoesOnBy-refl maker (Only []) []; inside = λ h. absurd (true≢false (sym h)) }) i v e;
    apart = λ n i j v w ei ej _ _. only_index (first_known first) i v ei ∙ sym (only_index (first_known first) j w ej);
  }

  state_at_end : (id : ℕ) (v : Known S E) (x : S) (words : List ℕ) (slots : List (Option S)) → HasAll v.held → v.entered ≡ false → v.first ≡ Some x
      → Final (Seen (Rule entries home may_make first) id v) words slots
      → (state : S) × (get_elem? slots 0 ≡ some (Some state)) × StandsFor entries home may_make x v.seen state
  state_at_end id v x words slots all out is f =
      let r = f.1.0 in
      let at = f.1.1 in
      let kn = r.knows id v at in
      ⊎_elim
      (λ (p : IsFree entries home may_make first r.book r.turn f.0.homes f.0.views). (
        p.state,
        f.4 0 (Some p.state) (ap (λ hs. get_elem? hs 0) p.slot),
        subst (λ (y : S × List (Line E)). StandsFor entries home may_make y.0 y.1 p.state) (λ k. (sym (kn.lock x is) k, whole_book maker v.held v.seen r.book all kn.seen k)) p.stands,
      ))
      (λ (p : IsTaken r.turn f.0.homes f.0.views).
      let inside = ((r.knows p.holder p.known p.there).inside p.entered).1 in
      let here : p.holder ≡ id = r.apart p.known.number p.holder id p.known v p.there at (ap (λ t. t || has p.known.met_held p.known.number) inside) (ap (λ t. t || has v.met_held p.known.number) (all p.known.number)) in
      let one : p.known ≡ v = some-injective p.known v (sym p.there ∙ (ap (get_elem? f.0.views) here ∙ at)) in
      absurd (true≢false (sym p.entered ∙ (ap (λ (k : Known S E). k.entered) one ∙ out))))
      r.place

  -- The end: who holds all numbers and is not entered finds the state at home, and it stands for all that the seat has seen
  pub ends : (id : ℕ) (v : Known S E) (x : S) (words : List ℕ) (slots : List (Option S)) (found : Option S) → HasAll v.held → v.entered ≡ false
      → v.first ≡ Some x → Final (Seen (Rule entries home may_make first) id v) words slots
      → get_elem? slots 0 ≡ some found → (is_some found ≡ true) × ((state : S) → found ≡ Some state → StandsFor entries home may_make x v.seen state)
  ends id v x words slots found all out is f at =
      let last = state_at_end id v x words slots all out is f in
      let same : found ≡ Some last.0 = some-injective found (Some last.0) (sym at ∙ last.1) in
      (ap is_some same, λ state e. subst (StandsFor entries home may_make x v.seen) (same_some _ _ (sym same ∙ e)) last.2)

  -- the same of a seat that has put the state into its slot
  pub leaves_from : (slots id : ℕ) (m n : Me (Option S) (Known S E)) (state x : S) (a b : ℕ) → n.1 ≡ (0, None) ∷ [] → m ≡ (n.0, (0, Some state) ∷ rest n.1) → n.0.entered ≡ true → n.0.first ≡ Some x
      → StandsFor entries home may_make x n.0.seen state → Allows (Rule entries home may_make first) slots id m 0 (λ _. 0) (left (step slots 0 a b none) m)
  leaves_from slots id m n state x a b out is entered first_is stands =
      subst (λ (k : Me (Option S) (Known S E)). Allows (Rule entries home may_make first) slots id k 0 (λ _. 0) (left (step slots 0 a b none) k))
      (sym (is ∙ ap (λ (l : List (ℕ × Option S)). (n.0, (0, Some state) ∷ rest l)) out)) (leaves slots id n.0 state x a b entered first_is stands)
