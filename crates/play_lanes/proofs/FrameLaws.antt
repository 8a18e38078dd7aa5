-- The frame of a call: its fixups take what the table has, and leave it whole.
use Rattle.std.proofs.Common.{◌≡◌, ◌≤◌, ℕ, ◌+◌, Bool, true, false, List, [], ◌∷◌, ◌++◌, length, take, drop, fold, Option, Some, None, refl, sym, ap, subst, ◌∙◌, arith, append_assoc, length-append}
use Rattle.std.specs.List.{All, AllByRecursion}
use Rattle.std.specs.Option.{option_map_or}
use Rattle.std.specs.Prelude.{if◌then◌else◌, option_map, IsSome}
use Rattle.std.proofs.lemmas.List.{length-drop, length-take, take-append-drop}
use Rattle.std.proofs.lemmas.List.Elements.{All-head, All-tail}
use Rattle.fuse_head.proofs.LittleLemmas.{length-u64_bytes, u32_at-append}
use Rattle.fuse_head.specs.Head.{IsWholeFrame}
use Rattle.fuse_head.specs.Little.{u32_at, u64_bytes}
use Rattle.fuse_replies.specs.declared.reply.Reply.{Reply}
use Rattle.legal_spec.specs.Frames.{Replies, frame_by, handle_given, node_given, number_taken, reply_of, written_at}
use Rattle.play_lanes.specs.Tables.{AreGiven, Table, frame_in, given_by, number_in}
use Rattle.play_lanes.specs.declared.given.Given.{Given}
use Rattle.scenario.specs.Parts.{Call}
use Rattle.scenario.specs.declared.call.Fix.{Fix}

-- ---- what the fixups take
module _ (table : Table) (replies : Replies) (are : AreGiven table replies) where
  number_same : (fix : Fix) → number_in table fix ≡ number_taken replies fix
  number_same fix = ap (λ (found : Option Given). option_map_or (λ (g : Given). if fix.handle then g.handle else g.node) found 0) (are fix.call) ∙ by fix.handle (reply_of replies fix.call)
    where
      by : (handle : Bool) (found : Option Reply)
          → option_map_or (λ (g : Given). if handle then g.handle else g.node) (option_map given_by found) 0 ≡ option_map_or (if handle then handle_given else node_given) found 0
      by true None = refl
      by false None = refl
      by true (Some reply) = refl
      by false (Some reply) = refl

  fixes_same : (fixes : List Fix) (frame : List ℕ)
      → fold (λ text (fix : Fix). written_at text fix.at (number_in table fix)) frame fixes ≡ fold (λ text (fix : Fix). written_at text fix.at (number_taken replies fix)) frame fixes
  fixes_same [] frame = refl
  fixes_same (fix ∷ fixes) frame =
      ap (λ n. fold (λ text (f : Fix). written_at text f.at (number_in table f)) (written_at frame fix.at n) fixes) (number_same fix)
      ∙ fixes_same fixes (written_at frame fix.at (number_taken replies fix))

  pub frame_same : (call : Call) → frame_in table call ≡ frame_by replies call
  frame_same call = fixes_same call.fixes call.frame

-- ---- whole frames
-- the eight bytes of a fixup lie in a frame of this size, behind the length that it tells
pub record IsPlace (size : ℕ) (fix : Fix) : Type 0 where
  pub behind : 4 ≤ fix.at
  pub room : fix.at + 8 ≤ size

pub written-length : (frame : List ℕ) (at number : ℕ) → at + 8 ≤ length frame → length (written_at frame at number) ≡ length frame
written-length frame at number room =
    length-append (take at frame ++ u64_bytes number) (drop (at + 8) frame)
    ∙ ap (λ n. n + length (drop (at + 8) frame)) (length-append (take at frame) (u64_bytes number))
    ∙ omega (arith, room, length-take at frame, length-u64_bytes number, length-drop (at + 8) frame)

written-told : (frame : List ℕ) (at number : ℕ) → 4 ≤ at → at ≤ length frame → u32_at (written_at frame at number) 0 ≡ u32_at frame 0
written-told frame at number behind within =
    let front : 0 + 4 ≤ length (take at frame) = omega (arith, behind, within, length-take at frame) in
    ap (λ text. u32_at text 0) (append_assoc (take at frame) (u64_bytes number) (drop (at + 8) frame))
    ∙ u32_at-append (take at frame) (u64_bytes number ++ drop (at + 8) frame) 0 front
    ∙ sym (u32_at-append (take at frame) (drop at frame) 0 front)
    ∙ ap (λ text. u32_at text 0) (take-append-drop at frame)

written-whole : (frame : List ℕ) (at number : ℕ) → 4 ≤ at → at + 8 ≤ length frame → IsWholeFrame frame → IsWholeFrame (written_at frame at number)
written-whole frame at number behind room whole =
    let same : length (written_at frame at number) ≡ length frame = written-length frame at number room in
    let headed : 40 ≤ length frame = whole.headed in
    let fits = whole.fits in
    record {
      headed = omega (arith, same, headed);
      fits = subst (λ n. n ≤ 135168) (sym same) fits;
      told = written-told frame at number behind (omega (arith, room)) ∙ whole.told ∙ sym same;
    }

module _ (number : Fix → ℕ) (size : ℕ) where
  whole_after : (fixes : List Fix) (frame : List ℕ) → length frame ≡ size → IsWholeFrame frame → All (IsPlace size) fixes
      → IsWholeFrame (fold (λ text (fix : Fix). written_at text fix.at (number fix)) frame fixes)
  whole_after [] frame is whole places = whole
  whole_after (fix ∷ fixes) frame is whole places =
      let place : IsPlace size fix = All-head (IsPlace size) fix fixes places in
      let at : fix.at + 8 ≤ size = place.room in
      let room : fix.at + 8 ≤ length frame = omega (arith, at, is) in
      whole_after fixes (written_at frame fix.at (number fix)) (written-length frame fix.at (number fix) room ∙ is)
      (written-whole frame fix.at (number fix) place.behind room whole) (All-tail (IsPlace size) fix fixes places)

pub frame_whole : (table : Table) (call : Call) → IsWholeFrame call.frame → All (IsPlace (length call.frame)) call.fixes → IsWholeFrame (frame_in table call)
frame_whole table call whole places = whole_after (number_in table) (length call.frame) call.fixes call.frame refl whole places
