-- Laws of the cutter, for callers: feeding piece after piece means feeding them joined, and what a cutter that was fed a
-- stream has given and holds are the frames of that stream.
use Rattle.std.proofs.Common.{◌≡◌, ◌≤◌, ◌+◌, ℕ, List, [], ◌∷◌, ◌++◌, Option, None, Some, Result, Ok, Err, length, drop, take, refl, sym, ap, ◌∙◌, subst, inl, inr, arith}
use Rattle.std.specs.List.{concat}
use Rattle.std.specs.Prelude.{All}
use Rattle.std.proofs.lemmas.List.{append-nil, append_assoc, drop_at, length-append, length-take, length-take-le, take-append-le, take_at}
use Rattle.std.proofs.lemmas.List.Elements.{All-append, All-drop, All-nil, All-same, All-take}
use Rattle.fuse_head.specs.Head.{IsWholeFrame}
use Rattle.fuse_frames.specs.Cut.{Cuts, IsBad, IsBelow40, IsOver, HasNoBadLen, IsKeptOf}
use Rattle.fuse_frames.specs.Cutter.{Cutter, Fed, Feeds, fed, fresh, gave_after, GivesNext, GivesFrame, HasRead, HasStopped, pending, place, StopsAt, stream_after}
use Rattle.fuse_frames.proofs.CutLemmas.{concat-append, cuts_unique}
use Rattle.fuse_frames.proofs.FrontLemmas.{bad_append, bad_told, below_take, concat-push, len-take, over_take, sound_not_bad, take_bad, unfinished_bad, unfinished_untold}
use Rattle.fuse_frames.specs.declared.fault.CutFault.{CutFault}
use Rattle.fuse_frames.specs.declared.fault.CutFault.TheVariants.{LenBelow40, LenOver, NoMemory, Truncated}

-- one piece and then another mean both joined
pub feeds_append : {old mid new : Cutter} {front back : List ℕ} → Feeds old front mid → Feeds mid back new → Feeds old (front ++ back) new
feeds_append {old} {mid} {new} {front} {back} first second =
    let joined : pending mid ++ back ≡ pending old ++ (front ++ back) =
    ap (λ (b : List ℕ). b ++ back) (sym first.cut.joined) ∙ append_assoc (pending old) front back in
    let P : List ℕ → Type 0 = λ b. Cuts b new.held new.rest in
    record { given = second.given ∙ first.given; cut = subst P joined second.cut; sound = second.sound }

pub stops_append : {Bad : List ℕ → Type 0} {old mid new : Cutter} {front back : List ℕ} {told : ℕ} → Feeds old front mid → StopsAt Bad mid back told new
    → StopsAt Bad old (front ++ back) told new
stops_append {old = old} {mid = mid} {new = new} {front = front} {back = back} first second =
    let joined : pending mid ++ back ≡ pending old ++ (front ++ back) =
    ap (λ (b : List ℕ). b ++ back) (sym first.cut.joined) ∙ append_assoc (pending old) front back in
    let P : List ℕ → Type 0 = λ b. Cuts b new.held second.rest in
    record { rest = second.rest; given = second.given ∙ first.given; cut = subst P joined second.cut; bad = second.bad; kept = second.kept; at = second.at }

-- a cutter that comes upon a bad len has stopped there
pub stopped_below : {old new : Cutter} {bytes : List ℕ} {told : ℕ} → StopsAt IsBelow40 old bytes told new → HasStopped (LenBelow40 told) new
stopped_below {old} {new} {bytes} {told} stops =
    let four : 4 ≤ length (take 4 stops.rest) = omega (arith, stops.bad.told, length-take 4 stops.rest) in
    (rw stops.kept (record { told = four; below = rw (len-take 4 stops.rest four) stops.bad.below }), stops.at)

pub stopped_over : {old new : Cutter} {bytes : List ℕ} {told : ℕ} → StopsAt IsOver old bytes told new → HasStopped (LenOver told) new
stopped_over {old} {new} {bytes} {told} stops =
    let four : 4 ≤ length (take 4 stops.rest) = omega (arith, stops.bad.told, length-take 4 stops.rest) in
    (rw stops.kept (record { told = four; over = rw (len-take 4 stops.rest four) stops.bad.over }), stops.at)

-- a cutter is its parts
same_cutter : (a b : Cutter) → a.given ≡ b.given → a.held ≡ b.held → a.rest ≡ b.rest → a ≡ b
same_cutter a b given held rest =
    let make : ℕ → List (List ℕ) → List ℕ → Cutter = λ g h r. record { given = g; held = h; rest = r } in
    ap (λ (g : ℕ). make g a.held a.rest) given ∙ ap (λ (h : List (List ℕ)). make b.given h a.rest) held ∙ ap (λ (r : List ℕ). make b.given b.held r) rest

-- what a cutter makes of bytes is one
pub feeds_unique : {old new other : Cutter} {bytes : List ℕ} → Feeds old bytes new → Feeds old bytes other → new ≡ other
feeds_unique {old} {new} {other} a b =
    let same = cuts_unique a.cut b.cut in
    let given : new.given ≡ other.given = a.given ∙ sym b.given in
    same_cutter new other given same.0 same.1

-- the bytes fed rise by the bytes of a feed
pub fed-feeds : {old new : Cutter} {bytes : List ℕ} → Feeds old bytes new → fed new ≡ fed old + length bytes
fed-feeds {old} {new} {bytes} feeds =
    let all = sym (length-append (pending old) bytes) ∙ ap length feeds.cut.joined ∙ length-append (concat new.held) new.rest in
    let before = length-append (concat old.held) old.rest in
    omega (arith, all, before, feeds.given)

-- the bytes behind a bad len aren't counted
fed-stops : {Bad : List ℕ → Type 0} {old new : Cutter} {bytes : List ℕ} {told : ℕ} → StopsAt Bad old bytes told new → fed new ≤ fed old + length bytes
fed-stops {old = old} {new = new} {bytes = bytes} stops =
    let all = sym (length-append (pending old) bytes) ∙ ap length stops.cut.joined ∙ length-append (concat new.held) stops.rest in
    let before = length-append (concat old.held) old.rest in
    let kept = ap length stops.kept ∙ length-take 4 stops.rest in
    omega (arith, all, before, kept, stops.given)

-- of the bytes of a feed at most all are counted
pub fed-fed : {U : Type 0} (old : Cutter) (bytes : List ℕ) (result : Result U CutFault) (new : Cutter) → Fed old bytes result new → fed new ≤ fed old + length bytes
fed-fed old bytes (Ok u) new feeds = let all = fed-feeds feeds in omega arith
fed-fed old bytes (Err NoMemory) new same = rw same.0 (omega arith)
fed-fed old bytes (Err (LenBelow40 at)) new stops = fed-stops stops
fed-fed old bytes (Err (LenOver at)) new stops = fed-stops stops
fed-fed old bytes (Err (Truncated at)) new never = absurd never

-- the bytes that it was fed first are none
pub has_read_fresh : HasRead [] [] fresh
has_read_fresh =
    record {
      rest = [];
      cut = record { joined = refl; whole = All-nil IsWholeFrame; unfinished = unfinished_untold [] (omega arith) };
      given = refl;
      kept = inl (record { least = λ told. absurd (omega arith); most = λ told. absurd (omega arith) }, refl);
    }

-- the parts of a list of whole frames are whole frames
all_front : (front back : List (List ℕ)) → All IsWholeFrame (front ++ back) → All IsWholeFrame front
all_front front back whole =
    All-same IsWholeFrame front (take (length front) (front ++ back)) (sym (take_at front back (length front) refl)) (All-take IsWholeFrame (length front) (front ++ back) whole)

all_back : (front back : List (List ℕ)) → All IsWholeFrame (front ++ back) → All IsWholeFrame back
all_back front back whole =
    All-same IsWholeFrame back (drop (length front) (front ++ back)) (sym (drop_at front back (length front) refl)) (All-drop IsWholeFrame (length front) (front ++ back) whole)

-- a stream is the frames given and what is pending, where all of the rest is kept
pending_stream : {stream : List ℕ} {rest : List ℕ} (gave : List (List ℕ)) (old : Cutter) → Cuts stream (gave ++ old.held) rest → old.rest ≡ rest
    → stream ≡ concat gave ++ pending old
pending_stream {stream} {rest} gave old cut kept =
    cut.joined
    ∙ ap (λ (b : List ℕ). b ++ rest) (concat-append gave old.held)
    ∙ append_assoc (concat gave) (concat old.held) rest
    ∙ ap (λ (b : List ℕ). concat gave ++ (concat old.held ++ b)) (sym kept)

-- so what becomes of the pending bytes becomes of the stream
moves : {stream : List ℕ} {held : List (List ℕ)} {rest left : List ℕ} (bytes : List ℕ) (gave : List (List ℕ)) (old : Cutter) → Cuts stream (gave ++ old.held) rest → old.rest ≡ rest
    → Cuts (pending old ++ bytes) held left → Cuts (stream ++ bytes) (gave ++ held) left
moves {stream} {held} {rest} {left} bytes gave old cut kept on =
    record {
      joined =
          ap (λ (b : List ℕ). b ++ bytes) (pending_stream gave old cut kept)
          ∙ append_assoc (concat gave) (pending old) bytes
          ∙ ap (λ (b : List ℕ). concat gave ++ b) on.joined
          ∙ sym (append_assoc (concat gave) (concat held) left)
          ∙ ap (λ (b : List ℕ). b ++ left) (sym (concat-append gave held));
      whole = All-append IsWholeFrame gave held (all_front gave old.held cut.whole) on.whole;
      unfinished = on.unfinished;
    }

-- behind a bad len nothing is cut any more
stays : (held : List (List ℕ)) (rest bytes : List ℕ) → All IsWholeFrame held → IsBad rest → Cuts (concat held ++ rest ++ bytes) held (rest ++ bytes)
stays held rest bytes whole bad =
    record { joined = append_assoc (concat held) rest bytes; whole = whole; unfinished = unfinished_bad (rest ++ bytes) (bad_append rest bytes bad) }

pub has_read_feeds : {stream bytes : List ℕ} {gave : List (List ℕ)} {old new : Cutter} → HasRead stream gave old → Feeds old bytes new → HasRead (stream ++ bytes) gave new
has_read_feeds {stream} {bytes} {gave} {old} {new} read feeds =
    elim read.kept [
      | inl kept ↦ record {
        rest = new.rest;
        cut = moves bytes gave old read.cut kept.1 feeds.cut;
        given = feeds.given ∙ read.given;
        kept = inl (feeds.sound, refl);
      }
      | inr kept ↦
          let bad : IsBad old.rest = rw kept.1 (take_bad read.rest kept.0) in
          let same = cuts_unique feeds.cut (stays old.held old.rest bytes (all_back gave old.held read.cut.whole) bad) in
          absurd (sound_not_bad new.rest feeds.sound (rw same.1 (bad_append old.rest bytes bad)))
    ]

pub has_read_stops : {Bad : List ℕ → Type 0} {stream bytes : List ℕ} {gave : List (List ℕ)} {old new : Cutter} {told : ℕ} → ((rest : List ℕ) → Bad rest → IsBad rest)
    → HasRead stream gave old → StopsAt Bad old bytes told new → HasRead (stream ++ bytes) gave new
has_read_stops {stream = stream} {bytes = bytes} {gave = gave} {old = old} {new = new} is_bad read stops =
    elim read.kept [
      | inl kept ↦ record {
        rest = stops.rest;
        cut = moves bytes gave old read.cut kept.1 stops.cut;
        given = stops.given ∙ read.given;
        kept = inr (is_bad stops.rest stops.bad, stops.kept);
      }
      | inr kept ↦
          let bad : IsBad old.rest = rw kept.1 (take_bad read.rest kept.0) in
          let same = cuts_unique stops.cut (stays old.held old.rest bytes (all_back gave old.held read.cut.whole) bad) in
          let told : 4 ≤ length read.rest = bad_told read.rest kept.0 in
          let four : new.rest ≡ take 4 (read.rest ++ bytes) =
          stops.kept ∙ ap (take 4) (same.1 ∙ ap (λ (b : List ℕ). b ++ bytes) kept.1)
          ∙ take_at (take 4 read.rest) bytes 4 (length-take-le 4 read.rest told)
          ∙ sym (take-append-le 4 read.rest bytes told) in
          let P : List (List ℕ) → Type 0 = λ held. Cuts (stream ++ bytes) (gave ++ held) (read.rest ++ bytes) in
          record {
            rest = read.rest ++ bytes;
            cut = subst P (sym same.0) (record {
              joined = ap (λ (b : List ℕ). b ++ bytes) read.cut.joined ∙ append_assoc (concat (gave ++ old.held)) read.rest bytes;
              whole = read.cut.whole;
              unfinished = unfinished_bad (read.rest ++ bytes) (bad_append read.rest bytes kept.0);
            });
            given = stops.given ∙ read.given;
            kept = inr (bad_append read.rest bytes kept.0, four);
          }
    ]

-- after each `feed` the frames given and held are those of all bytes fed
pub has_read_fed : {U : Type 0} {stream : List ℕ} {gave : List (List ℕ)} {old new : Cutter} (bytes : List ℕ) (result : Result U CutFault) → HasRead stream gave old → Fed old bytes result new
    → HasRead (stream_after stream bytes result) gave new
has_read_fed bytes (Ok u) read feeds = has_read_feeds read feeds
has_read_fed {stream = stream} {gave = gave} bytes (Err NoMemory) read same = let P : Cutter → Type 0 = λ c. HasRead stream gave c in subst P (sym same.0) read
has_read_fed bytes (Err (LenBelow40 at)) read stops = has_read_stops (λ rest bad. inl bad) read stops
has_read_fed bytes (Err (LenOver at)) read stops = has_read_stops (λ rest bad. inr bad) read stops
has_read_fed bytes (Err (Truncated at)) read never = absurd never

-- after each `next` they are, too
pub has_read_frame : {stream : List ℕ} {gave : List (List ℕ)} {old new : Cutter} {frame : List ℕ} → HasRead stream gave old → GivesFrame old frame new
    → HasRead stream (gave ++ frame ∷ []) new
has_read_frame {stream} {gave} {old} {new} {frame} read gives =
    let frames : gave ++ old.held ≡ gave ++ frame ∷ [] ++ new.held =
    ap (λ (fs : List (List ℕ)). gave ++ fs) gives.first ∙ sym (append_assoc gave (frame ∷ []) new.held) in
    let P : List (List ℕ) → Type 0 = λ fs. Cuts stream fs read.rest in
    let size : length (concat (gave ++ frame ∷ [])) ≡ length (concat gave) + length frame =
    ap length (concat-push gave frame) ∙ length-append (concat gave) frame in
    let Q : List ℕ → Type 0 = λ b. IsKeptOf read.rest b in
    record {
      rest = read.rest;
      cut = subst P frames read.cut;
      given = omega (arith, gives.given, read.given, size);
      kept = subst Q (sym gives.rest) read.kept;
    }

pub has_read_gives : {stream : List ℕ} {gave : List (List ℕ)} {old new : Cutter} (result : Option (List ℕ)) → HasRead stream gave old → GivesNext old result new
    → HasRead stream (gave_after gave result) new
has_read_gives {stream} {gave} None read none = let P : Cutter → Type 0 = λ c. HasRead stream gave c in subst P (sym none.1) read
has_read_gives (Some frame) read gives = has_read_frame read gives

-- the place that is told is that of the first byte behind all whole frames of the stream
pub has_read_place : {stream : List ℕ} {gave : List (List ℕ)} {cutter : Cutter} → HasRead stream gave cutter → place cutter ≡ length (concat (gave ++ cutter.held))
has_read_place {stream} {gave} {cutter} read =
    omega (arith, read.given, ap length (concat-append gave cutter.held), length-append (concat gave) (concat cutter.held))

-- where nothing is left, the stream is the frames
pub has_read_whole : {stream : List ℕ} {gave : List (List ℕ)} {cutter : Cutter} → HasRead stream gave cutter → cutter.rest ≡ [] → stream ≡ concat (gave ++ cutter.held)
has_read_whole {stream} {gave} {cutter} read none =
    elim read.kept [
      | inl kept ↦ read.cut.joined ∙ ap (λ (b : List ℕ). concat (gave ++ cutter.held) ++ b) (sym kept.1 ∙ none) ∙ append-nil (concat (gave ++ cutter.held))
      | inr kept ↦ absurd (omega (arith, bad_told read.rest kept.0, length-take-le 4 read.rest (bad_told read.rest kept.0), ap length (sym kept.1 ∙ none)))
    ]

-- where no bad len was met, the cutter's own rest is that of the stream
pub has_read_cut : {stream : List ℕ} {gave : List (List ℕ)} {cutter : Cutter} → HasRead stream gave cutter → HasNoBadLen cutter.rest
    → Cuts stream (gave ++ cutter.held) cutter.rest
has_read_cut {stream} {gave} {cutter} read sound =
    elim read.kept [
      | inl kept ↦ let P : List ℕ → Type 0 = λ rest. Cuts stream (gave ++ cutter.held) rest in subst P (sym kept.1) read.cut
      | inr kept ↦ absurd (sound_not_bad cutter.rest sound (rw kept.1 (take_bad read.rest kept.0)))
    ]

-- where one was met, the rest of the stream begins with it
pub has_read_below : {stream : List ℕ} {gave : List (List ℕ)} {cutter : Cutter} → HasRead stream gave cutter → IsBelow40 cutter.rest
    → (rest : List ℕ) × Cuts stream (gave ++ cutter.held) rest × IsBelow40 rest
has_read_below {stream} {gave} {cutter} read below =
    elim read.kept [
      | inl kept ↦ absurd (sound_not_bad read.rest kept.0 (inl (rw kept.1 at below)))
      | inr kept ↦ (read.rest, read.cut, below_take read.rest (rw kept.1 at below))
    ]

pub has_read_over : {stream : List ℕ} {gave : List (List ℕ)} {cutter : Cutter} → HasRead stream gave cutter → IsOver cutter.rest
    → (rest : List ℕ) × Cuts stream (gave ++ cutter.held) rest × IsOver rest
has_read_over {stream} {gave} {cutter} read over =
    elim read.kept [
      | inl kept ↦ absurd (sound_not_bad read.rest kept.0 (inr (rw kept.1 at over)))
      | inr kept ↦ (read.rest, read.cut, over_take read.rest (rw kept.1 at over))
    ]
