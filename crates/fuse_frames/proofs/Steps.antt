-- What the steps of the cutter make of its fields.
use Rattle.std.proofs.Common.{◌≡◌, ◌≤◌, ◌+◌, ℕ, List, [], ◌∷◌, ◌++◌, Result, Ok, Err, length, take, refl, sym, ap, ◌∙◌, subst, inl, inr, arith}
use Rattle.std.specs.List.{concat}
use Rattle.std.specs.Prelude.{All}
use Rattle.std.proofs.lemmas.List.{append-nil, append_assoc, length-append, length-take, take_at}
use Rattle.std.proofs.lemmas.List.Elements.{All-append, All-head, All-push, All-rest, All-same}
use Rattle.fuse_head.specs.Head.{IsWholeFrame}
use Rattle.fuse_frames.specs.Cut.{Cuts, IsBad, HasNoBadLen, IsUnfinished, IsKeptOf}
use Rattle.fuse_frames.specs.Cutter.{Cutter, Fed, HasStopped, pending}
use Rattle.fuse_frames.specs.Front.{GrowsTo}
use Rattle.fuse_frames.specs.Kept.{Ends, IsCutter, Says, TakesIn, Waits}
use Rattle.fuse_frames.proofs.CutLemmas.{concat-append}
use Rattle.fuse_frames.proofs.FrontLemmas.{bad_append, bad_told, below_append, below_take, concat-push, over_append, over_take, sound_not_bad, take_bad, unfinished_bad}
use Rattle.fuse_frames.specs.declared.fault.CutFault.{CutFault}
use Rattle.fuse_frames.specs.declared.fault.CutFault.TheVariants.{LenBelow40, LenOver, NoMemory, Truncated}

-- a frame that isn't whole yet waits, or its len is bad
pub waits : (old bytes new left : List ℕ) → GrowsTo old bytes new left → (IsWholeFrame new → ⊥) → Waits old bytes new
waits old bytes new left grows not_whole =
    elim grows.front [
      | inl whole ↦ absurd (not_whole whole)
      | inr rest ↦ elim rest [
        | inl partly ↦
            let same : old ++ bytes ≡ new = grows.joined ∙ ap (λ (b : List ℕ). new ++ b) partly.2 ∙ append-nil new in
            record { unfinished = rw same partly.1; keeps = inl (rw same partly.0, sym same) }
        | inr bad ↦
            record {
              unfinished = rw grows.joined (unfinished_bad (new ++ left) (bad_append new left bad.0));
              keeps = inr (rw grows.joined (bad_append new left bad.0), rw grows.joined (sym (take_at new left 4 bad.1)));
            }
      ]
    ]

-- what is kept of a rest begins with no frame, and of a bad len it has four bytes
pub keeps_unfinished : (rest kept : List ℕ) → IsKeptOf rest kept → IsUnfinished rest → IsUnfinished kept
keeps_unfinished rest kept (inl sound) unfinished = rw sound.1 unfinished
keeps_unfinished rest kept (inr bad) unfinished = rw bad.1 (unfinished_bad (take 4 rest) (take_bad rest bad.0))

pub keeps_four : (rest kept : List ℕ) → IsKeptOf rest kept → IsBad kept → length kept ≡ 4
keeps_four rest kept (inl sound) bad = absurd (sound_not_bad rest sound.0 (rw sound.1 at bad))
keeps_four rest kept (inr kept_bad) bad = ap length kept_bad.1 ∙ length-take 4 rest ∙ omega (arith, bad_told rest kept_bad.0)

-- what was told of the cutter's rest, once bytes were taken in, is what `feed` answers
pub says_fed : {U : Type 0} (old : Cutter) (bytes : List ℕ) (result : Result U CutFault) (new : Cutter) → TakesIn old bytes new → Says new result → Fed old bytes result new
says_fed old bytes (Ok u) new takes sound =
    let P : List ℕ → Type 0 = λ rest. Cuts (pending old ++ bytes) new.held rest in
    record { given = takes.given; cut = elim takes.keeps [ inl kept ↦ subst P (sym kept.1) takes.cut | inr kept ↦ absurd (sound_not_bad new.rest sound (rw kept.1 (take_bad takes.rest kept.0))) ]; sound = sound }
says_fed old bytes (Err NoMemory) new takes says = absurd says
says_fed old bytes (Err (LenBelow40 at)) new takes says =
    elim takes.keeps [
      | inl kept ↦ absurd (sound_not_bad new.rest (rw kept.1 kept.0) (inl says.0))
      | inr kept ↦ record { rest = takes.rest; given = takes.given; cut = takes.cut; bad = below_take takes.rest (rw kept.1 at says.0); kept = kept.1; at = says.1 }
    ]
says_fed old bytes (Err (LenOver at)) new takes says =
    elim takes.keeps [
      | inl kept ↦ absurd (sound_not_bad new.rest (rw kept.1 kept.0) (inr says.0))
      | inr kept ↦ record { rest = takes.rest; given = takes.given; cut = takes.cut; bad = over_take takes.rest (rw kept.1 at says.0); kept = kept.1; at = says.1 }
    ]
says_fed old bytes (Err (Truncated at)) new takes says = absurd says

-- a cutter that has come upon a bad len stays as it is and answers the same again
stays_cut : (cutter : Cutter) (bytes : List ℕ) → IsCutter cutter → IsBad (cutter.rest ++ bytes) → Cuts (pending cutter ++ bytes) cutter.held (cutter.rest ++ bytes)
stays_cut cutter bytes kept bad =
    record { joined = append_assoc (concat cutter.held) cutter.rest bytes; whole = kept.whole; unfinished = unfinished_bad (cutter.rest ++ bytes) bad }

pub says_stays : (U : Type 0) (cutter : Cutter) (bytes : List ℕ) (fault : CutFault) → IsCutter cutter → Says {U = U} cutter (Err fault) → Fed {U = U} cutter bytes (Err fault) cutter
says_stays U cutter bytes NoMemory kept says = absurd says
says_stays U cutter bytes (LenBelow40 at) kept says =
    let bad = below_append cutter.rest bytes says.0 in
    record {
      rest = cutter.rest ++ bytes;
      given = refl;
      cut = stays_cut cutter bytes kept (inl bad);
      bad = bad;
      kept = sym (take_at cutter.rest bytes 4 (kept.four (inl says.0)));
      at = says.1;
    }
says_stays U cutter bytes (LenOver at) kept says =
    let bad = over_append cutter.rest bytes says.0 in
    record {
      rest = cutter.rest ++ bytes;
      given = refl;
      cut = stays_cut cutter bytes kept (inr bad);
      bad = bad;
      kept = sym (take_at cutter.rest bytes 4 (kept.four (inr says.0)));
      at = says.1;
    }
says_stays U cutter bytes (Truncated at) kept says = absurd says

-- the frame that has waited longest is whole
pub first_whole : (held left : List (List ℕ)) (frame : List ℕ) → All IsWholeFrame held → held ≡ frame ∷ left → IsWholeFrame frame
first_whole held left frame whole first = All-head IsWholeFrame frame left (All-same IsWholeFrame (frame ∷ left) held (sym first) whole)

-- the frame that has waited longest is given
pub gives_kept : (given place_now : ℕ) (held left : List (List ℕ)) (rest frame : List ℕ) → IsCutter (record { given = given; held = held; rest = rest })
    → place_now ≡ given + length (concat held) → held ≡ frame ∷ left
    → IsCutter (record { given = given + length frame; held = left; rest = rest }) × (place_now ≡ given + length frame + length (concat left))
gives_kept given place_now held left rest frame kept counted first =
    let size : length (concat held) ≡ length frame + length (concat left) = ap (λ (h : List (List ℕ)). length (concat h)) first ∙ length-append frame (concat left) in
    (record { whole = All-rest IsWholeFrame frame left held first kept.whole; unfinished = kept.unfinished; four = kept.four }, omega (arith, counted, size))

-- the frames held, the one that became whole, and those behind it
concat_all : (held : List (List ℕ)) (frame : List ℕ) (frames : List (List ℕ)) → concat (held ++ frame ∷ [] ++ frames) ≡ concat held ++ (frame ++ concat frames)
concat_all held frame frames =
    concat-append (held ++ frame ∷ []) frames ∙ ap (λ (b : List ℕ). b ++ concat frames) (concat-push held frame) ∙ append_assoc (concat held) frame (concat frames)

-- the frame that a rest began has become whole, and what stands behind it was cut
pub ends_takes : (old new : Cutter) (bytes frame : List ℕ) (frames : List (List ℕ)) (kept : List ℕ) (size : ℕ) → Ends old.rest bytes frame frames kept size → IsCutter old
    → new.given ≡ old.given → new.held ≡ old.held ++ frame ∷ [] ++ frames → new.rest ≡ kept → TakesIn old bytes new
ends_takes old new bytes frame frames kept size ends is_kept given held rest =
    let behind = ends.behind in
    let regrouped : concat old.held ++ (frame ++ (concat frames ++ behind.rest)) ≡ concat old.held ++ (frame ++ concat frames) ++ behind.rest =
    simp append_assoc in
    let joined : pending old ++ bytes ≡ concat (old.held ++ frame ∷ [] ++ frames) ++ behind.rest =
    append_assoc (concat old.held) old.rest bytes
    ∙ ap (λ (b : List ℕ). concat old.held ++ b) (ends.joined ∙ ap (λ (b : List ℕ). frame ++ b) behind.cut.joined)
    ∙ regrouped
    ∙ ap (λ (b : List ℕ). b ++ behind.rest) (sym (concat_all old.held frame frames)) in
    record {
      rest = behind.rest;
      given = given;
      cut = record {
        joined = rw held joined;
        whole = rw held (All-append IsWholeFrame (old.held ++ frame ∷ []) frames (All-push IsWholeFrame old.held frame is_kept.whole ends.whole) behind.cut.whole);
        unfinished = behind.cut.unfinished;
      };
      keeps = rw rest behind.keeps;
    }

-- what was taken in leaves a cutter's fields as they must be
pub takes_kept : (old : Cutter) (bytes : List ℕ) (new : Cutter) → TakesIn old bytes new → IsCutter new
takes_kept old bytes new takes =
    record {
      whole = takes.cut.whole;
      unfinished = keeps_unfinished takes.rest new.rest takes.keeps takes.cut.unfinished;
      four = keeps_four takes.rest new.rest takes.keeps;
    }

-- the place of the rest moves on by the bytes of the new frames
pub ends_place : (given size place_now : ℕ) (frame : List ℕ) (old frames new : List (List ℕ)) → size ≡ length (concat frames) → place_now ≡ given + length (concat old)
    → new ≡ old ++ frame ∷ [] ++ frames → place_now + (length frame + size) ≡ given + length (concat new)
ends_place given size place_now frame old frames new sized counted held =
    let all : length (concat new) ≡ length (concat old) + (length frame + length (concat frames)) =
    ap (λ (h : List (List ℕ)). length (concat h)) held ∙ ap length (concat_all old frame frames)
    ∙ length-append (concat old) (frame ++ concat frames)
    ∙ ap (λ (n : ℕ). length (concat old) + n) (length-append frame (concat frames)) in
    omega (arith, counted, all, sized)

-- the new frames have no more bytes than stood behind the frames held and were fed
pub ends_fits : (rest bytes frame : List ℕ) (frames : List (List ℕ)) (kept : List ℕ) (size : ℕ) → Ends rest bytes frame frames kept size
    → length frame + size ≤ length rest + length bytes
ends_fits rest bytes frame frames kept size ends =
    let behind = ends.behind in
    let whole : length rest + length bytes ≡ length frame + length ends.left =
    sym (length-append rest bytes) ∙ ap length ends.joined ∙ length-append frame ends.left in
    let left : length ends.left ≡ length (concat frames) + length behind.rest =
    ap length behind.cut.joined ∙ length-append (concat frames) behind.rest in
    omega (arith, whole, left, behind.sized)

-- a cutter whose len isn't bad has come upon none
pub sound_not_stopped : (cutter : Cutter) (fault : CutFault) → HasNoBadLen cutter.rest → HasStopped fault cutter → ⊥
sound_not_stopped cutter NoMemory sound stopped = stopped
sound_not_stopped cutter (LenBelow40 at) sound stopped = sound_not_bad cutter.rest sound (inl stopped.0)
sound_not_stopped cutter (LenOver at) sound stopped = sound_not_bad cutter.rest sound (inr stopped.0)
sound_not_stopped cutter (Truncated at) sound stopped = stopped

-- a cutter has come upon one bad len
pub same_stop : (cutter : Cutter) (fault other : CutFault) → HasStopped fault cutter → HasStopped other cutter → fault ≡ other
same_stop cutter NoMemory other a b = absurd a
same_stop cutter (LenBelow40 at) NoMemory a b = absurd b
same_stop cutter (LenBelow40 at) (LenBelow40 there) a b = ap (λ (n : ℕ). LenBelow40 n) (a.1 ∙ sym b.1)
same_stop cutter (LenBelow40 at) (LenOver there) a b = absurd (omega (arith, a.0.below, b.0.over))
same_stop cutter (LenBelow40 at) (Truncated there) a b = absurd b
same_stop cutter (LenOver at) NoMemory a b = absurd b
same_stop cutter (LenOver at) (LenBelow40 there) a b = absurd (omega (arith, a.0.over, b.0.below))
same_stop cutter (LenOver at) (LenOver there) a b = ap (λ (n : ℕ). LenOver n) (a.1 ∙ sym b.1)
same_stop cutter (LenOver at) (Truncated there) a b = absurd b
same_stop cutter (Truncated at) other a b = absurd a
