-- The calls of a lawful scenario: each has a whole frame, and its fixups name calls that are done before it.
use Rattle.std.proofs.Common.{◌≡◌, ◌≢◌, ◌<◌, ◌≤◌, ℕ, zero, suc, ◌+◌, ◌-◌, Bool, true, false, cond, List, [], ◌∷◌, ◌++◌, length, map, slice_get, Option, Some, None, refl, sym, ap, subst, ◌∙◌, ◌⊎◌, inl, inr, arith, append_assoc, length-append}
use Rattle.std.proofs.lemmas.Bool.Decides.{eqb_tells, nat_tests}
use Rattle.std.proofs.lemmas.Bool.{leb-true}
use Rattle.std.proofs.lemmas.Grind.{flat_map-append}
use Rattle.std.proofs.lemmas.List.{map-append, length-map}
use Rattle.std.specs.Prelude.{◌==◌, if◌then◌else◌, IsTrue, IsSome, nat_le, nat_lt, slice_index, option_map}
use Rattle.std.specs.List.{All}
use Rattle.legal_spec.specs.Schedules.{calls_by, lane_at, numbered}
use Rattle.play_lanes.proofs.TableLaws.{numbered-within}
use Rattle.play_lanes.specs.Playing.{lanes_in}
use Rattle.play_lanes.specs.Tables.{row_of}
use Rattle.scenario.specs.Checks as checks
use Rattle.scenario.specs.Checks.{Spot, counts_of, is_earlier, items_in, spot_after}
use Rattle.scenario.specs.Lawful.{AreLanes, ArePhases, EachAfter, IsCall, IsFix, IsLane, IsPhase}
use Rattle.scenario.specs.Parts.{Call, Lane, calls, clock, remote}
use Rattle.scenario.specs.declared.call.Fix.{Fix}

-- ---- items of lists that are lawful one after another
pub record AfterSome {A : Type 0} (P : List A → A → Type 0) (count : ℕ) (x : A) : Type 0 where
  pub front : List A
  pub is : P front x
  pub counted : length front ≡ count

pub each_at : {A : Type 0} (P : List A → A → Type 0) (before xs : List A) → EachAfter P before xs → (position : ℕ) (x : A) → slice_get xs position ≡ Some x
    → AfterSome P (length before + position) x
each_at P before [] each position x there = absurd (let never : None ≡ Some x = there in cc)
each_at P before (y ∷ xs) each zero x there = record {
  front = before;
  is = subst (P before) (let same : Some y ≡ Some x = there in cc) each.0;
  counted = omega arith;
}
each_at P before (y ∷ xs) each (suc k) x there =
    let later = each_at P (before ++ y ∷ []) xs each.1 k x there in
    record { front = later.front; is = later.is; counted = later.counted ∙ ap (λ n. n + k) (length-append before (y ∷ [])) ∙ omega arith }

-- ---- lanes
counts_are : (phases : List (List Lane)) → counts_of phases ≡ map checks.calls_of (lanes_in phases)
counts_are [] = refl
counts_are (lanes ∷ phases) = ap (λ counts. map checks.calls_of lanes ++ counts) (counts_are phases) ∙ sym (map-append checks.calls_of lanes (lanes_in phases))

-- A lane is lawful behind the lanes of the phases before: it knows their calls and its own number.
pub record StandsAt (lanes : List Lane) (number : ℕ) (lane : Lane) : Type 0 where
  pub spot : Spot
  pub is : IsLane spot lane
  pub numbered : spot.lane ≡ number
  pub front : List Lane
  pub rest : List Lane
  pub split : lanes ≡ front ++ rest
  pub earlier : length front < number
  pub counts : spot.counts ≡ map checks.calls_of front

-- what stands at a position of two lists, one behind the other
in_either : {X : Type 0} (xs ys : List X) (position : ℕ) (x : X) → slice_get (xs ++ ys) position ≡ Some x
    → (slice_get xs position ≡ Some x) ⊎ ((k : ℕ) × (position ≡ length xs + k) × (slice_get ys k ≡ Some x))
in_either [] ys position x there = let same : position ≡ 0 + position = omega arith in inr (position, same, there)
in_either (y ∷ xs) ys zero x there = inl there
in_either (y ∷ xs) ys (suc k) x there = by (in_either xs ys k x there)
  where
    by : (slice_get xs k ≡ Some x) ⊎ ((j : ℕ) × (k ≡ length xs + j) × (slice_get ys j ≡ Some x))
        → (slice_get xs k ≡ Some x) ⊎ ((j : ℕ) × (suc k ≡ length (y ∷ xs) + j) × (slice_get ys j ≡ Some x))
    by (inl its) = inl its
    by (inr (j, at, its)) = inr (j, omega (arith, at), its)

stands_from : (before phases : List (List Lane)) → EachAfter IsPhase before phases → (position : ℕ) (lane : Lane) → slice_get (lanes_in phases) position ≡ Some lane
    → StandsAt (lanes_in (before ++ phases)) (length (lanes_in before) + position + 1) lane
stands_from before [] each position lane there = absurd (let never : None ≡ Some lane = there in cc)
stands_from before (lanes ∷ phases) each position lane there =
    by (λ k. stands_from (before ++ lanes ∷ []) phases each.1 k lane) (in_either lanes (lanes_in phases) position lane there)
  where
    whole : lanes_in (before ++ lanes ∷ phases) ≡ lanes_in before ++ lanes_in (lanes ∷ phases)
    whole = flat_map-append (λ ls. ls) before (lanes ∷ phases)

    here : AfterSome (λ beside. IsLane (spot_after (counts_of before) (items_in before) beside)) position lane → StandsAt (lanes_in (before ++ lanes ∷ phases)) (length (lanes_in before) + position + 1) lane
    here found =
        let count : length (counts_of before) ≡ length (lanes_in before) = ap length (counts_are before) ∙ length-map (lanes_in before) checks.calls_of in
        let beside : length found.front ≡ position = found.counted in
        record {
          spot = spot_after (counts_of before) (items_in before) found.front;
          is = found.is;
          numbered = omega (arith, count, beside);
          front = lanes_in before;
          rest = lanes_in (lanes ∷ phases);
          split = whole;
          earlier = omega arith;
          counts = counts_are before;
        }

    later : (k : ℕ) → position ≡ length lanes + k → StandsAt (lanes_in ((before ++ lanes ∷ []) ++ phases)) (length (lanes_in (before ++ lanes ∷ [])) + k + 1) lane
        → StandsAt (lanes_in (before ++ lanes ∷ phases)) (length (lanes_in before) + position + 1) lane
    later k at stands =
        let size : length (lanes_in (before ++ lanes ∷ [])) ≡ length (lanes_in before) + length (lanes_in (lanes ∷ [])) =
        ap length (flat_map-append (λ ls. ls) before (lanes ∷ [])) ∙ length-append (lanes_in before) (lanes_in (lanes ∷ [])) in
        let one : length (lanes_in (lanes ∷ [])) ≡ length lanes + 0 = length-append lanes [] in
        let number : length (lanes_in (before ++ lanes ∷ [])) + k + 1 ≡ length (lanes_in before) + position + 1 = omega (arith, size, one, at) in
        subst (λ n. StandsAt (lanes_in (before ++ lanes ∷ phases)) n lane) number
        (subst (λ ps. StandsAt (lanes_in ps) (length (lanes_in (before ++ lanes ∷ [])) + k + 1) lane) (append_assoc before (lanes ∷ []) phases) stands)

    by : ((k : ℕ) → slice_get (lanes_in phases) k ≡ Some lane → StandsAt (lanes_in ((before ++ lanes ∷ []) ++ phases)) (length (lanes_in (before ++ lanes ∷ [])) + k + 1) lane)
        → (slice_get lanes position ≡ Some lane) ⊎ ((k : ℕ) × (position ≡ length lanes + k) × (slice_get (lanes_in phases) k ≡ Some lane))
        → StandsAt (lanes_in (before ++ lanes ∷ phases)) (length (lanes_in before) + position + 1) lane
    by stands (inl its) =
        let same : 0 + position ≡ position = omega arith in
        here (subst (λ n. AfterSome (λ beside. IsLane (spot_after (counts_of before) (items_in before) beside)) n lane) same
        (each_at (λ beside. IsLane (spot_after (counts_of before) (items_in before) beside)) [] lanes each.0.each position lane its))
    by stands (inr (k, at, its)) = later k at (stands k its)

pub stands_at : (phases : List (List Lane)) → ArePhases phases → (number : ℕ) (lane : Lane) → lane_at phases number ≡ Some lane → StandsAt (lanes_in phases) number lane
stands_at phases are zero lane there = absurd (let never : None ≡ Some lane = there in cc)
stands_at phases are (suc position) lane there =
    let number : 0 + position + 1 ≡ suc position = omega arith in
    subst (λ n. StandsAt (lanes_in phases) n lane) number (stands_from [] phases are position lane there)

-- ---- fixups
calls_counted : (lane : Lane) → checks.calls_of lane ≡ length (calls_by (Some lane))
calls_counted (calls cs) = refl
calls_counted (remote ops) = refl
calls_counted (clock steps) = refl

-- the calls of a lane that are counted, where there are some
counted_at : (front rest : List Lane) (position index : ℕ) → 1 ≤ index → index ≤ slice_index (map checks.calls_of front) position
    → (position < length front) × (index ≤ length (calls_by (slice_get (front ++ rest) position)))
counted_at [] rest position index first counted = absurd (let none : slice_index [] position ≡ 0 = refl in omega (arith, first, counted, none))
counted_at (l ∷ front) rest zero index first counted = (omega arith, subst (λ n. index ≤ n) (calls_counted l) counted)
counted_at (l ∷ front) rest (suc k) index first counted = let later = counted_at front rest k index first counted in (omega (arith, later.0), later.1)

counted_lane : (front rest : List Lane) (lane index : ℕ) → 1 ≤ lane → 1 ≤ index → index ≤ slice_index (map checks.calls_of front) (lane - 1)
    → (lane ≤ length front) × (index ≤ length (calls_by (numbered (front ++ rest) lane)))
counted_lane front rest zero index some first counted = absurd (omega (arith, some))
counted_lane front rest (suc k) index some first counted =
    let at : suc k - 1 ≡ k = omega arith in
    let found = counted_at front rest k index first (subst (λ n. index ≤ slice_index (map checks.calls_of front) n) at counted) in
    (omega (arith, found.0), found.1)

-- The rows of the lanes before are whole, and that of this lane has the calls before this one: so the call that a fixup
-- names is in its row.
pub named_is_done : {X : Type 0} (table : List (List X)) (phases : List (List Lane)) (spot : Spot) (front rest : List Lane) (index size : ℕ) (fix : Fix)
    → lanes_in phases ≡ front ++ rest → length front < spot.lane → spot.counts ≡ map checks.calls_of front
    → ((number : ℕ) → number < spot.lane → length (row_of table number) ≡ length (calls_by (lane_at phases number)))
    → index ≡ length (row_of table spot.lane) + 1
    → IsFix spot index size fix → (x : X) × (numbered (row_of table fix.call.lane) fix.call.index ≡ Some x)
named_is_done {X} table phases spot front rest index size fix split earlier counts whole next is = by (eqb_tells fix.call.lane spot.lane)
  where
    earlier_by : (t : Bool) → (fix.call.lane == spot.lane) ≡ t → IsTrue (if t then nat_lt fix.call.index index else nat_le fix.call.index (slice_index spot.counts (fix.call.lane - 1)))
    earlier_by t same = subst (λ b. IsTrue (cond b (nat_lt fix.call.index index) (nat_le fix.call.index (slice_index spot.counts (fix.call.lane - 1))))) same is.earlier

    by : (((fix.call.lane == spot.lane) ≡ true) × (fix.call.lane ≡ spot.lane)) ⊎ (((fix.call.lane == spot.lane) ≡ false) × (fix.call.lane ≢ spot.lane))
        → (x : X) × (numbered (row_of table fix.call.lane) fix.call.index ≡ Some x)
    by (inl its) =
        let before : fix.call.index < index = grind (arith, nat_tests, earlier_by true its.0) in
        let size_of : length (row_of table fix.call.lane) ≡ length (row_of table spot.lane) = ap (λ n. length (row_of table n)) its.1 in
        numbered-within (row_of table fix.call.lane) fix.call.index is.call (omega (arith, before, next, size_of))
    by (inr far) =
        let within : fix.call.index ≤ slice_index spot.counts (fix.call.lane - 1) = leb-true fix.call.index (slice_index spot.counts (fix.call.lane - 1)) (earlier_by false far.0) in
        let counted = counted_lane front rest fix.call.lane fix.call.index is.lane is.call (subst (λ cs. fix.call.index ≤ slice_index cs (fix.call.lane - 1)) counts within) in
        let there : fix.call.lane < spot.lane = omega (arith, counted.0, earlier) in
        let row : length (row_of table fix.call.lane) ≡ length (calls_by (lane_at phases fix.call.lane)) = whole fix.call.lane there in
        let its : length (calls_by (lane_at phases fix.call.lane)) ≡ length (calls_by (numbered (front ++ rest) fix.call.lane)) = ap (λ ls. length (calls_by (numbered ls fix.call.lane))) split in
        numbered-within (row_of table fix.call.lane) fix.call.index is.call (omega (arith, row, its, counted.1))
