-- Tables with a row for each lane: one row more, and one more in the last row.
use Rattle.std.proofs.Common.{◌≡◌, ◌≢◌, ◌<◌, ◌≤◌, ℕ, zero, suc, ◌+◌, true, false, Bool, List, [], ◌∷◌, ◌++◌, length, map, slice_get, Option, Some, None, unwrap_or, find, refl, sym, ap, subst, ◌∙◌, ◌⊎◌, inl, inr, cond, arith}
use Rattle.std.specs.Prelude.{◌==◌, ◌&&◌, option_map}
use Rattle.std.specs.Option.{option_or}
use Rattle.std.proofs.lemmas.Bool.Decides.{eqb_tells}
use Rattle.std.proofs.lemmas.List.Folds.{find-append}
use Rattle.std.proofs.lemmas.Option.{slice_get_past}
use Rattle.fuse_replies.specs.declared.reply.Reply.{Reply}
use Rattle.history_spec.proofs.Lanes.{other_lane, same_lane}
use Rattle.legal_spec.specs.Frames.{Replies, is_call, reply_of}
use Rattle.legal_spec.specs.Schedules.{numbered}
use Rattle.mount_model.specs.declared.gate.CallId.{CallId}
use Rattle.play_lanes.specs.Tables.{AreGiven, Table, given_at, given_by, next_call, row_of, with_last}
use Rattle.play_lanes.specs.declared.given.Given.{Given}

-- ---- lists by number
pub numbered-past : {X : Type 0} (xs : List X) (i : ℕ) → length xs < i → numbered xs i ≡ None
numbered-past xs zero past = refl
numbered-past xs (suc k) past = slice_get_past xs k (omega (arith, past))

slice_get-last : {X : Type 0} (xs : List X) (x : X) (k : ℕ) → k ≡ length xs → slice_get (xs ++ x ∷ []) k ≡ Some x
slice_get-last [] x zero same = refl
slice_get-last [] x (suc k) same = absurd (omega (arith, same))
slice_get-last (y ∷ xs) x zero same = absurd (omega (arith, same))
slice_get-last (y ∷ xs) x (suc k) same = slice_get-last xs x k (omega (arith, same))

slice_get-other : {X : Type 0} (xs : List X) (x : X) (k : ℕ) → k ≢ length xs → slice_get (xs ++ x ∷ []) k ≡ slice_get xs k
slice_get-other [] x zero differ = absurd (differ refl)
slice_get-other [] x (suc k) differ = refl
slice_get-other (y ∷ xs) x zero differ = refl
slice_get-other (y ∷ xs) x (suc k) differ = slice_get-other xs x k (λ same. differ (omega (arith, same)))

pub numbered-last : {X : Type 0} (xs : List X) (x : X) (i : ℕ) → i ≡ length xs + 1 → numbered (xs ++ x ∷ []) i ≡ Some x
numbered-last xs x zero same = absurd (omega (arith, same))
numbered-last xs x (suc k) same = slice_get-last xs x k (omega (arith, same))

pub numbered-other : {X : Type 0} (xs : List X) (x : X) (i : ℕ) → i ≢ length xs + 1 → numbered (xs ++ x ∷ []) i ≡ numbered xs i
numbered-other xs x zero differ = refl
numbered-other xs x (suc k) differ = slice_get-other xs x k (λ same. differ (omega (arith, same)))

pub numbered-within : {X : Type 0} (xs : List X) (i : ℕ) → 1 ≤ i → i ≤ length xs → (x : X) × (numbered xs i ≡ Some x)
numbered-within xs zero some within = absurd (omega (arith, some))
numbered-within [] (suc k) some within = absurd (omega (arith, within))
numbered-within (x ∷ xs) (suc zero) some within = (x, refl)
numbered-within (x ∷ xs) (suc (suc k)) some within = numbered-within xs (suc k) (omega arith) (omega (arith, within))

-- ---- one more in the last row
pub with_last-length : {X : Type 0} (table : List (List X)) (x : X) → length (with_last table x) ≡ length table
with_last-length [] x = refl
with_last-length (row ∷ []) x = refl
with_last-length (row ∷ next ∷ rows) x = ap suc (with_last-length (next ∷ rows) x)

last_at : {X : Type 0} (table : List (List X)) (x : X) (k : ℕ) → k + 1 ≡ length table
    → unwrap_or (slice_get (with_last table x) k) [] ≡ unwrap_or (slice_get table k) [] ++ x ∷ []
last_at [] x k last = absurd (omega (arith, last))
last_at (row ∷ []) x zero last = refl
last_at (row ∷ []) x (suc k) last = absurd (omega (arith, last))
last_at (row ∷ next ∷ rows) x zero last = absurd (omega (arith, last))
last_at (row ∷ next ∷ rows) x (suc k) last = last_at (next ∷ rows) x k (omega (arith, last))

other_at : {X : Type 0} (table : List (List X)) (x : X) (k : ℕ) → k + 1 ≢ length table → slice_get (with_last table x) k ≡ slice_get table k
other_at [] x k other = refl
other_at (row ∷ []) x zero other = absurd (other refl)
other_at (row ∷ []) x (suc k) other = refl
other_at (row ∷ next ∷ rows) x zero other = refl
other_at (row ∷ next ∷ rows) x (suc k) other = other_at (next ∷ rows) x k (λ same. other (omega (arith, same)))

pub row_of-last : {X : Type 0} (table : List (List X)) (x : X) (lane : ℕ) → 1 ≤ lane → lane ≡ length table → row_of (with_last table x) lane ≡ row_of table lane ++ x ∷ []
row_of-last table x zero some last = absurd (omega (arith, some))
row_of-last table x (suc k) some last = last_at table x k (omega (arith, last))

pub row_of-other : {X : Type 0} (table : List (List X)) (x : X) (lane : ℕ) → lane ≢ length table → row_of (with_last table x) lane ≡ row_of table lane
row_of-other table x zero other = refl
row_of-other {X} table x (suc k) other = ap (λ (found : Option (List X)). unwrap_or found []) (other_at table x k (λ same. other (omega (arith, same))))

-- ---- one more row, which is empty
empty_at : {X : Type 0} (table : List (List X)) (k : ℕ) → unwrap_or (slice_get (table ++ [] ∷ []) k) [] ≡ unwrap_or (slice_get table k) []
empty_at [] zero = refl
empty_at [] (suc k) = refl
empty_at (row ∷ table) zero = refl
empty_at (row ∷ table) (suc k) = empty_at table k

pub row_of-begun : {X : Type 0} (table : List (List X)) (lane : ℕ) → row_of (table ++ [] ∷ []) lane ≡ row_of table lane
row_of-begun table zero = refl
row_of-begun table (suc k) = empty_at table k

pub row_of-past : {X : Type 0} (table : List (List X)) (lane : ℕ) → length table < lane → row_of table lane ≡ []
row_of-past {X} table lane past = ap (λ (found : Option (List X)). unwrap_or found []) (numbered-past table lane past)

-- ---- what replies give
pub is_call-same : (one other : CallId) → one.lane ≡ other.lane → one.index ≡ other.index → is_call one other ≡ true
is_call-same one other lane index = ap (λ t. t && one.index == other.index) (same_lane one.lane other.lane lane) ∙ same_lane one.index other.index index

pub is_call-lane : (one other : CallId) → one.lane ≢ other.lane → is_call one other ≡ false
is_call-lane one other lane = ap (λ t. t && one.index == other.index) (other_lane one.lane other.lane lane)

pub is_call-index : (one other : CallId) → one.index ≢ other.index → is_call one other ≡ false
is_call-index one other index = ap (λ t. one.lane == other.lane && t) (other_lane one.index other.index index) ∙ by (one.lane == other.lane)
  where
    by : (t : Bool) → (t && false) ≡ false
    by true = refl
    by false = refl

abbrev pub with_reply : Replies → CallId → Reply → Replies
with_reply replies call reply = replies ++ (call, reply) ∷ []

module _ (replies : Replies) (call : CallId) (reply : Reply) (asked : CallId) where
  abbrev reply_in : Option (CallId × Reply) → Option Reply
  reply_in found = option_map (λ (r : CallId × Reply). r.1) found

  split : reply_of (with_reply replies call reply) asked
      ≡ reply_in (option_or (find (λ (r : CallId × Reply). is_call r.0 asked) replies) (cond (is_call call asked) (Some (call, reply)) None))
  split = ap reply_in (find-append (λ (r : CallId × Reply). is_call r.0 asked) replies ((call, reply) ∷ []))

  -- another call has the reply that it had
  pub reply_of-other : is_call call asked ≡ false → reply_of (with_reply replies call reply) asked ≡ reply_of replies asked
  reply_of-other differ = split ∙ ap (λ t. reply_in (option_or (find (λ (r : CallId × Reply). is_call r.0 asked) replies) (cond t (Some (call, reply)) None))) differ
      ∙ by (find (λ (r : CallId × Reply). is_call r.0 asked) replies)
    where
      by : (found : Option (CallId × Reply)) → reply_in (option_or found None) ≡ reply_in found
      by None = refl
      by (Some r) = refl

  -- the call itself has this one, if it had none
  pub reply_of-new : is_call call asked ≡ true → reply_of replies asked ≡ None → reply_of (with_reply replies call reply) asked ≡ Some reply
  reply_of-new same none =
      split ∙ ap (λ t. reply_in (option_or (find (λ (r : CallId × Reply). is_call r.0 asked) replies) (cond t (Some (call, reply)) None))) same
      ∙ by (find (λ (r : CallId × Reply). is_call r.0 asked) replies) none
    where
      by : (found : Option (CallId × Reply)) → reply_in found ≡ None → reply_in (option_or found (Some (call, reply))) ≡ Some reply
      by None is = refl
      by (Some r) is = absurd (let never : Some r.1 ≡ None = is in cc)

none_given : (found : Option Reply) → option_map given_by found ≡ None → found ≡ None
none_given None is = refl
none_given (Some reply) is = absurd (let never : Some (given_by reply) ≡ None = is in cc)

module _ (table : Table) (replies : Replies) (are : AreGiven table replies) (begun : 1 ≤ length table) where
  -- the next call has no reply yet
  pub none_yet : reply_of replies (next_call table) ≡ None
  none_yet = none_given (reply_of replies (next_call table)) (sym (are (next_call table)) ∙ numbered-past (row_of table (length table)) (length (row_of table (length table)) + 1) (omega arith))

  pub given_more : (reply : Reply) → AreGiven (with_last table (given_by reply)) (with_reply replies (next_call table) reply)
  given_more reply asked = by_lane (eqb_tells asked.lane (length table))
    where
      row : List Given
      row = row_of table (length table)

      other : is_call (next_call table) asked ≡ false → given_at (with_last table (given_by reply)) asked ≡ given_at table asked
          → given_at (with_last table (given_by reply)) asked ≡ option_map given_by (reply_of (with_reply replies (next_call table) reply) asked)
      other differ stays = stays ∙ are asked ∙ ap (option_map given_by) (sym (reply_of-other replies (next_call table) reply asked differ))

      in_lane : asked.lane ≡ length table → given_at (with_last table (given_by reply)) asked ≡ numbered (row ++ given_by reply ∷ []) asked.index
      in_lane same = ap (λ (r : List Given). numbered r asked.index) (row_of-last table (given_by reply) asked.lane (omega (arith, same, begun)) same
          ∙ ap (λ n. row_of table n ++ given_by reply ∷ []) same)

      at_lane : asked.lane ≡ length table → given_at table asked ≡ numbered row asked.index
      at_lane same = ap (λ n. numbered (row_of table n) asked.index) same

      by_index : asked.lane ≡ length table → (((asked.index == length row + 1) ≡ true) × (asked.index ≡ length row + 1)) ⊎ (((asked.index == length row + 1) ≡ false) × (asked.index ≢ length row + 1))
          → given_at (with_last table (given_by reply)) asked ≡ option_map given_by (reply_of (with_reply replies (next_call table) reply) asked)
      by_index same (inl its) =
          in_lane same ∙ numbered-last row (given_by reply) asked.index its.1
          ∙ ap (option_map given_by) (sym (reply_of-new replies (next_call table) reply asked (is_call-same (next_call table) asked (sym same) (sym its.1))
          (none_given (reply_of replies asked) (sym (are asked) ∙ at_lane same ∙ numbered-past row asked.index (let index = its.1 in omega (arith, index))))))
      by_index same (inr far) = other (is_call-index (next_call table) asked (λ index. far.1 (sym index)))
          (in_lane same ∙ numbered-other row (given_by reply) asked.index far.1 ∙ sym (at_lane same))

      by_lane : (((asked.lane == length table) ≡ true) × (asked.lane ≡ length table)) ⊎ (((asked.lane == length table) ≡ false) × (asked.lane ≢ length table))
          → given_at (with_last table (given_by reply)) asked ≡ option_map given_by (reply_of (with_reply replies (next_call table) reply) asked)
      by_lane (inl its) = by_index its.1 (eqb_tells asked.index (length row + 1))
      by_lane (inr far) = other (is_call-lane (next_call table) asked (λ lane. far.1 (sym lane)))
          (ap (λ (r : List Given). numbered r asked.index) (row_of-other table (given_by reply) asked.lane far.1))

  -- a row more gives nothing
  pub given_begun : AreGiven (table ++ [] ∷ []) replies
  given_begun asked = ap (λ (r : List Given). numbered r asked.index) (row_of-begun table asked.lane) ∙ are asked
