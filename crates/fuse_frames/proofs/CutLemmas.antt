-- Laws of cutting, for callers: a stream has one cut, the cut of a longer stream goes on from that of a shorter one, and
-- every stream has a cut.
use Rattle.std.proofs.Common.{◌≡◌, ◌≤◌, ℕ, zero, suc, List, [], ◌∷◌, ◌++◌, length, take, drop, refl, sym, ap, ◌∙◌, subst, inl, inr, arith}
use Rattle.std.specs.List.{concat}
use Rattle.std.specs.Prelude.{All}
use Rattle.std.proofs.lemmas.Bool.{cases_lt}
use Rattle.std.proofs.lemmas.List.{append_assoc, append_cancel_left, length-drop, take-append-drop, take_at}
use Rattle.std.proofs.lemmas.List.Elements.{All-append, All-cons, All-head, All-nil, All-tail}
use Rattle.fuse_head.specs.Head.{IsWholeFrame}
use Rattle.fuse_head.specs.Little.{u32_at}
use Rattle.fuse_head.proofs.LittleLemmas.{u32_at-append}
use Rattle.fuse_frames.specs.Cut.{Cuts, IsUnfinished}
use Rattle.fuse_frames.specs.Front.{TellsLen}
use Rattle.fuse_frames.proofs.FrontLemmas.{unfinished_bad, unfinished_short, unfinished_untold, whole_take}

-- the frames of two lists of frames, joined
pub concat-append : (front back : List (List ℕ)) → concat (front ++ back) ≡ concat front ++ concat back
concat-append [] back = refl
concat-append (frame ∷ front) back =
    ap (λ (b : List ℕ). frame ++ b) (concat-append front back) ∙ sym (append_assoc frame (concat front) (concat back))

-- a whole frame tells its own length, so two at one front are the same
pub same_first : (x y behind_x behind_y : List ℕ) → IsWholeFrame x → IsWholeFrame y → x ++ behind_x ≡ y ++ behind_y → x ≡ y
same_first x y behind_x behind_y whole_x whole_y same =
    let told_x = u32_at-append x behind_x 0 (omega (arith, whole_x.headed)) in
    let told_y = u32_at-append y behind_y 0 (omega (arith, whole_y.headed)) in
    let told = ap (λ (b : List ℕ). u32_at b 0) same in
    let long : length y ≡ length x = sym whole_y.told ∙ sym told_y ∙ sym told ∙ told_x ∙ whole_x.told in
    sym (take_at x behind_x (length x) refl) ∙ ap (take (length x)) same ∙ take_at y behind_y (length x) long

-- no frame is the front of a rest that begins with none
no_front : (rest frame behind : List ℕ) → IsUnfinished rest → IsWholeFrame frame → rest ≡ frame ++ behind → ⊥
no_front rest frame behind unfinished whole same =
    let P : List ℕ → Type 0 = λ b. IsWholeFrame b in
    unfinished (length frame) (subst P (sym (ap (take (length frame)) same ∙ take_at frame behind (length frame) refl)) whole)

-- what stands behind the first of two equal lists of frames is equal too
same_behind : (x y : List ℕ) (frames others : List (List ℕ)) (rest other : List ℕ) → x ≡ y → x ++ concat frames ++ rest ≡ y ++ concat others ++ other
    → concat frames ++ rest ≡ concat others ++ other
same_behind x y frames others rest other first same =
    append_cancel_left x (concat frames ++ rest) (concat others ++ other)
    (sym (append_assoc x (concat frames) rest) ∙ same ∙ append_assoc y (concat others) other ∙ ap (λ (b : List ℕ). b ++ (concat others ++ other)) (sym first))

unique : (frames others : List (List ℕ)) (rest other : List ℕ) → concat frames ++ rest ≡ concat others ++ other → All IsWholeFrame frames → All IsWholeFrame others
    → IsUnfinished rest → IsUnfinished other → (frames ≡ others) × (rest ≡ other)
unique [] [] rest other same whole whole' early late = (refl, same)
unique [] (y ∷ others) rest other same whole whole' early late =
    absurd (no_front rest y (concat others ++ other) early (All-head IsWholeFrame y others whole') (same ∙ append_assoc y (concat others) other))
unique (x ∷ frames) [] rest other same whole whole' early late =
    absurd (no_front other x (concat frames ++ rest) late (All-head IsWholeFrame x frames whole) (sym same ∙ append_assoc x (concat frames) rest))
unique (x ∷ frames) (y ∷ others) rest other same whole whole' early late =
    let first : x ≡ y =
    same_first x y (concat frames ++ rest) (concat others ++ other) (All-head IsWholeFrame x frames whole) (All-head IsWholeFrame y others whole')
    (sym (append_assoc x (concat frames) rest) ∙ same ∙ append_assoc y (concat others) other) in
    let behind = unique frames others rest other (same_behind x y frames others rest other first same) (All-tail IsWholeFrame x frames whole) (All-tail IsWholeFrame y others whole') early late in
    (ap (λ (f : List ℕ). f ∷ frames) first ∙ ap (λ (fs : List (List ℕ)). y ∷ fs) behind.0, behind.1)

-- a stream has one cut
pub cuts_unique : {stream : List ℕ} {frames others : List (List ℕ)} {rest other : List ℕ} → Cuts stream frames rest → Cuts stream others other
    → (frames ≡ others) × (rest ≡ other)
cuts_unique {stream} {frames} {others} {rest} {other} a b =
    unique frames others rest other (sym a.joined ∙ b.joined) a.whole b.whole a.unfinished b.unfinished

-- the cut of a stream and then of what was left with more behind it is the cut of both
pub cuts_append : {stream : List ℕ} {frames others : List (List ℕ)} {rest other : List ℕ} (more : List ℕ) → Cuts stream frames rest → Cuts (rest ++ more) others other
    → Cuts (stream ++ more) (frames ++ others) other
cuts_append {stream} {frames} {others} {rest} {other} more first second =
    record {
      joined =
          ap (λ (b : List ℕ). b ++ more) first.joined
          ∙ append_assoc (concat frames) rest more
          ∙ ap (λ (b : List ℕ). concat frames ++ b) second.joined
          ∙ sym (append_assoc (concat frames) (concat others) other)
          ∙ ap (λ (b : List ℕ). b ++ other) (sym (concat-append frames others));
      whole = All-append IsWholeFrame frames others first.whole second.whole;
      unfinished = second.unfinished;
    }

-- the frames that a list of frames has before others, and what these are
record GoesOn (bytes : List ℕ) (frames others : List (List ℕ)) (other : List ℕ) : Type 0 where
  pub more : List (List ℕ)
  pub longer : others ≡ frames ++ more
  pub behind : Cuts bytes more other

goes_on : (bytes : List ℕ) (frames others : List (List ℕ)) (other : List ℕ) → concat frames ++ bytes ≡ concat others ++ other → All IsWholeFrame frames → All IsWholeFrame others
    → IsUnfinished other → GoesOn bytes frames others other
goes_on bytes [] others other same whole whole' late = record { more = others; longer = refl; behind = record { joined = same; whole = whole'; unfinished = late } }
goes_on bytes (x ∷ frames) [] other same whole whole' late =
    absurd (no_front other x (concat frames ++ bytes) late (All-head IsWholeFrame x frames whole) (sym same ∙ append_assoc x (concat frames) bytes))
goes_on bytes (x ∷ frames) (y ∷ others) other same whole whole' late =
    let first : x ≡ y =
    same_first x y (concat frames ++ bytes) (concat others ++ other) (All-head IsWholeFrame x frames whole) (All-head IsWholeFrame y others whole')
    (sym (append_assoc x (concat frames) bytes) ∙ same ∙ append_assoc y (concat others) other) in
    let behind = goes_on bytes frames others other (same_behind x y frames others bytes other first same) (All-tail IsWholeFrame x frames whole) (All-tail IsWholeFrame y others whole') late in
    record {
      more = behind.more;
      longer = ap (λ (fs : List (List ℕ)). y ∷ fs) behind.longer ∙ ap (λ (f : List ℕ). f ∷ (frames ++ behind.more)) (sym first);
      behind = behind.behind;
    }

-- the frames of a stream are the first of those of a longer one, and the others are cut from what was left
pub cuts_prefix : {stream : List ℕ} {frames others : List (List ℕ)} {rest other : List ℕ} (more : List ℕ) → Cuts stream frames rest → Cuts (stream ++ more) others other
    → (behind : List (List ℕ)) × (others ≡ frames ++ behind) × Cuts (rest ++ more) behind other
cuts_prefix {stream} {frames} {others} {rest} {other} more first whole =
    let on = goes_on (rest ++ more) frames others other
    (sym (append_assoc (concat frames) rest more) ∙ ap (λ (b : List ℕ). b ++ more) (sym first.joined) ∙ whole.joined)
    first.whole whole.whole whole.unfinished in
    (on.more, on.longer, on.behind)

-- every stream has a cut; n bounds its bytes
record HasCut (stream : List ℕ) : Type 0 where
  pub frames : List (List ℕ)
  pub rest : List ℕ
  pub cut : Cuts stream frames rest

uncut : (stream : List ℕ) → IsUnfinished stream → HasCut stream
uncut stream unfinished = record { frames = []; rest = stream; cut = record { joined = refl; whole = All-nil IsWholeFrame; unfinished = unfinished } }

first_cut : (stream : List ℕ) (len : ℕ) → TellsLen stream len → len ≤ length stream → HasCut (drop len stream) → HasCut stream
first_cut stream len tells there behind =
    record {
      frames = take len stream ∷ behind.frames;
      rest = behind.rest;
      cut = record {
        joined = sym (take-append-drop len stream) ∙ ap (λ (b : List ℕ). take len stream ++ b) behind.cut.joined ∙ sym (append_assoc (take len stream) (concat behind.frames) behind.rest);
        whole = All-cons IsWholeFrame (take len stream) behind.frames (whole_take stream len tells there) behind.cut.whole;
        unfinished = behind.cut.unfinished;
      };
    }

cut_below : (n : ℕ) (stream : List ℕ) → length stream ≤ n → HasCut stream
cut_below zero stream short = uncut stream (unfinished_untold stream (omega arith))
cut_below (suc n) stream short =
    elim (cases_lt (length stream) 4) [
      | inl untold ↦ uncut stream (unfinished_untold stream untold)
      | inr told ↦ elim (cases_lt (u32_at stream 0) 40) [
        | inl below ↦ uncut stream (unfinished_bad stream (inl (record { told = told; below = below })))
        | inr least ↦ elim (cases_lt 135168 (u32_at stream 0)) [
          | inl over ↦ uncut stream (unfinished_bad stream (inr (record { told = told; over = over })))
          | inr most ↦ elim (cases_lt (length stream) (u32_at stream 0)) [
            | inl wants ↦ uncut stream (unfinished_short stream wants)
            | inr there ↦
                first_cut stream (u32_at stream 0) (record { told = told; is = refl; least = least; most = most }) there
                (cut_below n (drop (u32_at stream 0) stream) (omega (arith, length-drop (u32_at stream 0) stream)))
          ]
        ]
      ]
    ]

pub cuts_exist : (stream : List ℕ) → (frames : List (List ℕ)) × (rest : List ℕ) × Cuts stream frames rest
cuts_exist stream = let has = cut_below (length stream) stream (omega arith) in (has.frames, has.rest, has.cut)
