-- What stands at the front of bytes: a whole frame, the beginning of one, or a bad len.
use Rattle.std.proofs.Common.{◌≡◌, ◌<◌, ◌≤◌, ◌⊎◌, ℕ, List, [], ◌∷◌, ◌++◌, length, take, drop, refl, sym, ap, ◌∙◌, subst, inl, inr, arith}
use Rattle.std.specs.List.{concat}
use Rattle.std.proofs.lemmas.List.{append-nil, append_assoc, length-append, length-take, take-append-drop, take-take, take_all}
use Rattle.std.proofs.lemmas.Bool.{cases_lt}
use Rattle.fuse_head.specs.Head.{IsWholeFrame}
use Rattle.fuse_head.specs.Little.{u32_at}
use Rattle.fuse_head.proofs.LittleLemmas.{u32_at-append}
use Rattle.fuse_frames.specs.Cut.{IsBad, IsBelow40, IsOver, HasNoBadLen, IsUnfinished}
use Rattle.fuse_frames.specs.Front.{BeginsWithFrame, Fills, GrowsTo, TellsLen}

-- the len at the front of bytes is that of any front that holds its four bytes
pub len-take : (n : ℕ) (bytes : List ℕ) → 4 ≤ length (take n bytes) → u32_at (take n bytes) 0 ≡ u32_at bytes 0
len-take n bytes told =
    sym (u32_at-append (take n bytes) (drop n bytes) 0 (omega arith)) ∙ ap (λ (b : List ℕ). u32_at b 0) (take-append-drop n bytes)

-- where a whole frame stands at the front, the len is told and as many bytes are there
record HasFrame (bytes : List ℕ) : Type 0 where
  told : 4 ≤ length bytes
  least : 40 ≤ u32_at bytes 0
  most : u32_at bytes 0 ≤ 135168
  there : u32_at bytes 0 ≤ length bytes

has_frame : (n : ℕ) (bytes : List ℕ) → IsWholeFrame (take n bytes) → HasFrame bytes
has_frame n bytes whole =
    let long = length-take n bytes in
    let len = len-take n bytes (omega (arith, whole.headed)) in
    record {
      told = omega (arith, whole.headed);
      least = omega (arith, whole.headed, whole.told);
      most = omega (arith, whole.fits, whole.told);
      there = omega (arith, whole.told);
    }

-- no frame stands at the front where the len isn't told, or is bad, or more bytes are wanted
pub unfinished_untold : (bytes : List ℕ) → length bytes < 4 → IsUnfinished bytes
unfinished_untold bytes short n whole = let has = has_frame n bytes whole in absurd (omega arith)

pub unfinished_bad : (bytes : List ℕ) → IsBad bytes → IsUnfinished bytes
unfinished_bad bytes (inl bad) n whole = let has = has_frame n bytes whole in absurd (omega arith)
unfinished_bad bytes (inr bad) n whole = let has = has_frame n bytes whole in absurd (omega arith)

pub unfinished_short : (bytes : List ℕ) → length bytes < u32_at bytes 0 → IsUnfinished bytes
unfinished_short bytes short n whole = let has = has_frame n bytes whole in absurd (omega arith)

-- as many bytes as the len tells are a whole frame
pub whole_take : (bytes : List ℕ) (len : ℕ) → TellsLen bytes len → len ≤ length bytes → IsWholeFrame (take len bytes)
whole_take bytes len tells there =
    let long = length-take len bytes in
    let same = len-take len bytes (omega (arith, tells.least)) in
    record {
      headed = omega (arith, tells.least);
      fits = omega (arith, tells.most);
      told = omega (arith, tells.is);
    }

-- one more frame at the end of those that were cut
pub concat-push : (frames : List (List ℕ)) (frame : List ℕ) → concat (frames ++ frame ∷ []) ≡ concat frames ++ frame
concat-push [] frame = append-nil frame
concat-push (first ∷ frames) frame = ap (λ (b : List ℕ). first ++ b) (concat-push frames frame) ∙ sym (append_assoc first (concat frames) frame)

pub unfinished_none : (bytes : List ℕ) → (length bytes < 4) ⊎ IsBad bytes → IsUnfinished bytes
unfinished_none bytes (inl short) = unfinished_untold bytes short
unfinished_none bytes (inr bad) = unfinished_bad bytes bad

-- the frame at the front goes to the frames that were cut
pub joined_push : {left frame behind : List ℕ} (bytes : List ℕ) (frames : List (List ℕ)) → bytes ≡ concat frames ++ left → BeginsWithFrame left frame behind
    → bytes ≡ concat (frames ++ frame ∷ []) ++ behind
joined_push {left} {frame} {behind} bytes frames joined begins =
    rw (joined, begins.joined, concat-push frames frame, append_assoc) refl

-- the front that holds the four bytes of a len tells the same len
told_in_old : (old mid : List ℕ) (len : ℕ) → TellsLen mid len → length old ≤ length mid → take (length old) mid ≡ old → len ≤ length old → TellsLen old len
told_in_old old mid len tells shorter kept there =
    let same : u32_at old 0 ≡ len =
    ap (λ (b : List ℕ). u32_at b 0) (sym kept) ∙ len-take (length old) mid (rw kept (omega (arith, tells.least))) ∙ tells.is in
    record { told = omega (arith, tells.least); is = same; least = tells.least; most = tells.most }

-- a rest of as many bytes as its good len tells is a frame
grown_whole : (new : List ℕ) (len : ℕ) → TellsLen new len → length new ≤ len → len ≤ length new → IsWholeFrame new
grown_whole new len tells fits enough =
    let P : List ℕ → Type 0 = λ b. IsWholeFrame b in subst P (take_all len new fits) (whole_take new len tells enough)

-- a rest of at most as many bytes as its good len tells is whole, or it isn't and nothing was left over
grown_front : (new left : List ℕ) (len : ℕ) → TellsLen new len → length new ≤ len → (len ≤ length new) ⊎ (left ≡ [])
    → IsWholeFrame new ⊎ ((HasNoBadLen new × IsUnfinished new × (left ≡ [])) ⊎ (IsBad new × (length new ≡ 4)))
grown_front new left len tells fits (inl enough) = inl (grown_whole new len tells fits enough)
grown_front new left len tells fits (inr none) =
    elim (cases_lt (length new) len) [
      | inl less ↦ inr (inl (
        record { least = λ _. omega (arith, tells.is, tells.least); most = λ _. omega (arith, tells.is, tells.most) },
        unfinished_short new (omega (arith, tells.is)),
        none,
      ))
      | inr enough ↦ inl (grown_whole new len tells fits enough)
    ]

-- a rest that grew to the four bytes of a good len, and then by the bytes that the len wants
pub grows_to_len : (old bytes mid behind new left : List ℕ) (len : ℕ) → IsUnfinished old → Fills old 4 bytes mid behind → TellsLen mid len → Fills mid len behind new left
    → GrowsTo old bytes new left
grows_to_len old bytes mid behind new left len unfinished head tells body =
    let old_in_mid = ap length head.kept in
    let mid_in_new = ap length body.kept in
    let old_le_mid : length old ≤ length mid = omega (arith, length-take (length old) mid, old_in_mid) in
    let mid_le_new : length mid ≤ length new = omega (arith, length-take (length mid) new, mid_in_new) in
    let kept : take (length old) new ≡ old =
    sym (take-take (length old) (length mid) new old_le_mid) ∙ ap (take (length old)) body.kept ∙ head.kept in
    let len_new : u32_at new 0 ≡ len =
    sym (len-take (length mid) new (omega (arith, tells.told, mid_in_new))) ∙ ap (λ (b : List ℕ). u32_at b 0) body.kept ∙ tells.is in
    let short : length old < len = elim (cases_lt (length old) len) [
      | inl less ↦ less
      | inr there ↦ absurd (unfinished len (whole_take old len (told_in_old old mid len tells old_le_mid head.kept there) there))
    ] in
    record {
      joined = head.joined ∙ body.joined;
      kept = kept;
      front = grown_front new left len (record { told = omega (arith, tells.told); is = len_new; least = tells.least; most = tells.most })
          (omega (arith, head.most, body.most, tells.least)) body.enough;
    }

-- a bad len stays bad, whatever stands behind it
pub below_append : (rest more : List ℕ) → IsBelow40 rest → IsBelow40 (rest ++ more)
below_append rest more bad =
    record { told = omega (arith, bad.told, length-append rest more); below = rw (u32_at-append rest more 0 bad.told) bad.below }

pub over_append : (rest more : List ℕ) → IsOver rest → IsOver (rest ++ more)
over_append rest more bad =
    record { told = omega (arith, bad.told, length-append rest more); over = rw (u32_at-append rest more 0 bad.told) bad.over }

pub bad_append : (rest more : List ℕ) → IsBad rest → IsBad (rest ++ more)
bad_append rest more (inl bad) = inl (below_append rest more bad)
bad_append rest more (inr bad) = inr (over_append rest more bad)

-- a len isn't good and bad at once
pub sound_not_bad : (rest : List ℕ) → HasNoBadLen rest → IsBad rest → ⊥
sound_not_bad rest sound (inl bad) = omega (arith, sound.least bad.told, bad.below)
sound_not_bad rest sound (inr bad) = omega (arith, sound.most bad.told, bad.over)

-- four bytes tell as much of a len as all bytes
pub below_take : (rest : List ℕ) → IsBelow40 (take 4 rest) → IsBelow40 rest
below_take rest bad =
    record { told = omega (arith, bad.told, length-take 4 rest); below = rw (len-take 4 rest bad.told) at bad.below }

pub over_take : (rest : List ℕ) → IsOver (take 4 rest) → IsOver rest
over_take rest bad =
    record { told = omega (arith, bad.told, length-take 4 rest); over = rw (len-take 4 rest bad.told) at bad.over }

pub take_bad : (rest : List ℕ) → IsBad rest → IsBad (take 4 rest)
take_bad rest (inl bad) =
    let told : 4 ≤ length (take 4 rest) = omega (arith, bad.told, length-take 4 rest) in
    inl (record { told = told; below = rw (len-take 4 rest told) bad.below })
take_bad rest (inr bad) =
    let told : 4 ≤ length (take 4 rest) = omega (arith, bad.told, length-take 4 rest) in
    inr (record { told = told; over = rw (len-take 4 rest told) bad.over })

pub bad_told : (rest : List ℕ) → IsBad rest → 4 ≤ length rest
bad_told rest (inl bad) = bad.told
bad_told rest (inr bad) = bad.told
