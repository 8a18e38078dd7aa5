-- Each line of a history is made of words.
use Rattle.std.proofs.Common.{◌≡◌, ℕ, zero, suc, Bool, true, false, List, [], ◌∷◌, ◌++◌, map, length, Option, Some, None, refl, ap, ◌∙◌, ◌+◌, codes, arith}
use Rattle.std.specs.Prelude.{◌&&◌, ◌==◌, ◌/◌, ◌%◌, if◌then◌else◌, get_or}
use Rattle.std.specs.List.{flat_map, list_all}
use Rattle.std.proofs.lemmas.Bool.Decides.{nat_tests}
use Rattle.std.proofs.lemmas.List.{map-append}
use Rattle.std.proofs.lemmas.List.Folds.{list_all-append}
use Rattle.hex.specs.Hex.{encode_lower, encode_with, lower_digits}
use Rattle.std.specs.Fmt.{decimal, digits, digits_onto, digit_glyph}
use Rattle.bucket_api.specs.declared.events.Mode.{Mode}
use Rattle.bucket_api.specs.declared.events.Mode.TheVariants.{Done as mode_done, Failed, Lost}
use Rattle.bucket_api.specs.declared.objects.Object.{Object}
use Rattle.bucket_api.specs.declared.objects.Pair.{Pair}
use Rattle.bucket_api.specs.LogEvent.{LogEvent}
use Rattle.bucket_api.specs.Operation.{Operation, stat, read, insert, update, delete, copy, list}
use Rattle.mount_model.specs.declared.gate.CallId.{CallId}
use Rattle.mount_model.specs.declared.journal.Fill.{Fill}
use Rattle.mount_model.specs.declared.journal.Fill.TheVariants.{Nothing, Kept, NoMemory}
use Rattle.mount_model.specs.declared.journal.How.{How}
use Rattle.mount_model.specs.declared.journal.How.TheVariants.{Ok as how_ok, NoMemory as how_short}
use Rattle.mount_model.specs.declared.journal.Use.{Use}
use Rattle.mount_model.specs.Journal.{Entry, taken, done, ticked}
use Rattle.history_text.specs.Words.{bytes_word, pair_text, pairs_word, only_word, after_word, frame_word, call_word, use_word}
use Rattle.history_text.specs.Lines.{object_line, mode_word, operation_words, event_line, how_word, fill_words, entry_line}
use Rattle.history_text.specs.HistoryText.{History, IsLineByLine, reply_lines, object_lines, log_lines, journal_lines, history_lines}
use Rattle.history_text.proofs.ReadingLaws.{is_inner, IsWord, AreWords, IsLine, AreLines, word_rest, text_tells}

-- words that stand one behind the other are a word
word_append : (v w : List ℕ) → IsWord v → IsWord w → IsWord (v ++ w)
word_append v w is is' = list_all-append is_inner v w ∙ ap (λ b. b && list_all is_inner w) is ∙ is'

-- a digit in front of a word
word_more : (n : ℕ) (bs : List ℕ) → is_inner n ≡ true → IsWord bs → IsWord (n ∷ bs)
word_more n bs is is' = ap (λ b. b && list_all is_inner bs) is ∙ is'

-- one of two words
word_if : (b : Bool) (v w : List ℕ) → IsWord v → IsWord w → IsWord (if b then v else w)
word_if true v w is is' = is
word_if false v w is is' = is'

-- decimal digits are a word
inner_glyph : (d : ℕ) → is_inner (digit_glyph false d) ≡ true
inner_glyph d = grind (arith, nat_tests)

inner_onto : (k n : ℕ) (acc : List ℕ) → IsWord acc → IsWord (digits_onto k 10 false n acc)
inner_onto zero n acc is = is
inner_onto (suc k) n acc is =
    let next = word_more (digit_glyph false (n % 10)) acc (inner_glyph (n % 10)) is in
    word_if (n / 10 == 0) (digit_glyph false (n % 10) ∷ acc) (digits_onto k 10 false (n / 10) (digit_glyph false (n % 10) ∷ acc)) next
    (inner_onto k (n / 10) (digit_glyph false (n % 10) ∷ acc) next)

decimal_word : (n : ℕ) → IsWord (decimal n)
unfolding digits
decimal_word n = inner_onto 64 n [] refl

-- hexadecimal digits are a word
inner_at : (xs : List ℕ) (i : ℕ) → IsWord xs → is_inner (get_or xs i 0) ≡ true
inner_at [] i is = refl
inner_at (x ∷ xs) zero is = grind (arith, nat_tests)
inner_at (x ∷ xs) (suc i) is = inner_at xs i (word_rest x xs is)

hex_word : (bytes : List ℕ) → IsWord (encode_lower bytes)
unfolding encode_with
hex_word [] = refl
hex_word (b ∷ bytes) =
    word_more (get_or lower_digits (b / 16) 0) (get_or lower_digits (b % 16) 0 ∷ encode_lower bytes) (inner_at lower_digits (b / 16) refl)
    (word_more (get_or lower_digits (b % 16) 0) (encode_lower bytes) (inner_at lower_digits (b % 16) refl) (hex_word bytes))

bytes_one : (bytes : List ℕ) → IsWord (bytes_word bytes)
bytes_one [] = refl
bytes_one (b ∷ bytes) = hex_word (b ∷ bytes)

frame_one : (frame : List ℕ) → IsWord (frame_word frame)
frame_one [] = refl
frame_one (b ∷ frame) = hex_word (b ∷ frame)

pair_one : (p : Pair) → IsWord (pair_text p)
pair_one p =
    word_append (encode_lower p.key ++ codes "=") (encode_lower p.value) (word_append (encode_lower p.key) (codes "=") (hex_word p.key) refl) (hex_word p.value)

later_pairs : (ps : List Pair) → IsWord (flat_map (λ q. codes "," ++ pair_text q) ps)
later_pairs [] = refl
later_pairs (p ∷ ps) =
    word_append (codes "," ++ pair_text p) (flat_map (λ q. codes "," ++ pair_text q) ps) (word_append (codes ",") (pair_text p) refl (pair_one p)) (later_pairs ps)

pairs_one : (ps : List Pair) → IsWord (pairs_word ps)
pairs_one [] = refl
pairs_one (p ∷ ps) = word_append (pair_text p) (flat_map (λ q. codes "," ++ pair_text q) ps) (pair_one p) (later_pairs ps)

only_one : (only : Option ℕ) → IsWord (only_word only)
only_one None = refl
only_one (Some n) = decimal_word n

after_one : (after : Option (List ℕ)) → IsWord (after_word after)
after_one None = refl
after_one (Some key) = bytes_one key

call_one : (call : CallId) → IsWord (call_word call)
call_one call =
    word_append (decimal call.lane ++ codes ".") (decimal call.index) (word_append (decimal call.lane) (codes ".") (decimal_word call.lane) refl)
    (decimal_word call.index)

use_one : (u : Use) → IsWord (use_word u)
use_one u =
    word_if u.own (codes "o" ++ decimal u.moment ++ (if u.kept then codes "k" else codes "d")) (codes "r" ++ decimal u.moment)
    (word_append (codes "o" ++ decimal u.moment) (if u.kept then codes "k" else codes "d")
    (word_append (codes "o") (decimal u.moment) refl (decimal_word u.moment))
    (word_if u.kept (codes "k") (codes "d") refl refl))
    (word_append (codes "r") (decimal u.moment) refl (decimal_word u.moment))

-- the words of operations and entries
mode_one : (mode : Mode) → IsWord (mode_word mode)
mode_one mode_done = refl
mode_one Failed = refl
mode_one Lost = refl

operation_all : (op : Operation) → AreWords (operation_words op)
operation_all (stat name) = (refl, (bytes_one name, tt))
operation_all (read name generation first count) = (refl, (bytes_one name, (decimal_word generation, (decimal_word first, (decimal_word count, tt)))))
operation_all (insert name content pairs only stamp) =
    (refl, (bytes_one name, (only_one only, (decimal_word stamp, (pairs_one pairs, (bytes_one content, tt))))))
operation_all (update name pairs only only_meta stamp) =
    (refl, (bytes_one name, (only_one only, (only_one only_meta, (decimal_word stamp, (pairs_one pairs, tt))))))
operation_all (delete name only) = (refl, (bytes_one name, (only_one only, tt)))
operation_all (copy from generation to stamp) = (refl, (bytes_one from, (decimal_word generation, (bytes_one to, (decimal_word stamp, tt)))))
operation_all (list prefix slash max after) =
    (refl, (bytes_one prefix, (word_if slash (codes "slash") (codes "flat") refl refl, (decimal_word max, (after_one after, tt)))))

how_one : (how : How) → IsWord (how_word how)
how_one how_ok = refl
how_one how_short = refl

fill_all : (fill : Fill) → AreWords (fill_words fill)
fill_all Nothing = tt
fill_all Kept = (refl, tt)
fill_all NoMemory = (refl, tt)

uses_all : (uses : List Use) (words : List (List ℕ)) → AreWords words → AreWords (map use_word uses ++ words)
uses_all [] words all = all
uses_all (u ∷ uses) words all = (use_one u, uses_all uses words all)

-- the lines
entry_is : (e : Entry) → IsLine (entry_line e)
entry_is (taken call front request) = (refl, (call_one call, (decimal_word front, tt)))
entry_is (done call front how uses fill) =
    (refl, (call_one call, (decimal_word front, (how_one how, uses_all uses (fill_words fill) (fill_all fill)))))
entry_is (ticked front seconds) = (refl, (decimal_word front, (decimal_word seconds, tt)))

object_is : (name : List ℕ) (o : Object) → IsLine (object_line name o)
object_is name o = (
  refl,
  (
    bytes_one name,
    (
      decimal_word o.meta.generation,
      (
        decimal_word o.meta.metageneration,
        (decimal_word o.meta.updated, (decimal_word o.meta.size, (bytes_one o.content, (pairs_one o.meta.pairs, tt)))),
      ),
    ),
  ),
)

replies_are : (calls : List CallId) (frames : List (List ℕ)) → AreLines (reply_lines calls frames)
replies_are [] frames = tt
replies_are (call ∷ calls) [] = tt
replies_are (call ∷ calls) (frame ∷ frames) = ((refl, (call_one call, (frame_one frame, tt))), replies_are calls frames)

objects_are : (es : List (List ℕ × Object)) → AreLines (map (λ e. object_line e.0 e.1) es)
objects_are [] = tt
objects_are (e ∷ es) = (object_is e.0 e.1, objects_are es)

log_is : (moment : ℕ) (log : List LogEvent) → AreLines (log_lines moment log)
log_is moment [] = tt
log_is moment (e ∷ log) = ((refl, (decimal_word moment, (decimal_word e.lane, (mode_one e.mode, operation_all e.op)))), log_is (moment + 1) log)

journal_is : (journal : List Entry) → AreLines (journal_lines journal)
journal_is [] = tt
journal_is (e ∷ journal) = (entry_is e, journal_is journal)

lines_append : (xs ys : List (List (List ℕ))) → AreLines xs → AreLines ys → AreLines (xs ++ ys)
lines_append [] ys are are' = are'
lines_append (x ∷ xs) ys are are' = (are.0, lines_append xs ys are.1 are')

history_is : (h : History) → AreLines (history_lines h)
history_is h =
    let replies = reply_lines h.calls h.replies in
    let objects = object_lines h.bucket in
    let log = log_lines 1 h.log in
    let journal = journal_lines h.journal in
    lines_append (replies ++ objects ++ log ++ journal) ((codes "end" ∷ []) ∷ [])
    (lines_append (replies ++ objects ++ log) journal
    (lines_append (replies ++ objects) log (lines_append replies objects (replies_are h.calls h.replies) (objects_are h.bucket.entries)) (log_is 1 h.log))
    (journal_is h.journal))
    ((refl, tt), tt)

log_goes_on : (moment : ℕ) (log more : List LogEvent) → log_lines moment (log ++ more) ≡ log_lines moment log ++ log_lines (moment + length log) more
log_goes_on moment [] more = ap (λ m. log_lines m more) (omega arith)
log_goes_on moment (e ∷ log) more =
    ap (λ lines. event_line moment e ∷ lines)
    (log_goes_on (moment + 1) log more ∙ ap (λ m. log_lines (moment + 1) log ++ log_lines m more) (omega arith))

-- the law of the text
pub is_line_by_line : IsLineByLine
is_line_by_line = record {
  told = λ h other same. text_tells (history_lines h) (history_lines other) (history_is h) (history_is other) same;
  log = log_goes_on;
  journal = map-append entry_line;
}
