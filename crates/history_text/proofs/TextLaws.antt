-- Laws of texts and lines.
use Rattle.std.proofs.Common.{◌≡◌, ℕ, ◌*◌, ◌/◌, ◌%◌, slice_index, List, [], ◌∷◌, ◌++◌, length, map, codes, true, false, if◌then◌else◌, refl, sym, ap, ◌∙◌, append_assoc, arith}
use Rattle.std.specs.List.{flat_map}
use Rattle.std.proofs.lemmas.Grind.{flat_map-append}
use Rattle.hex.specs.Hex.{encode_lower, encode_with, lower_digits}
use Rattle.std.specs.Fmt.{decimal}
use Rattle.mount_model.specs.declared.journal.Use.{Use}
use Rattle.history_text.specs.Words.{line, spaced, use_word}
use Rattle.history_text.specs.HistoryText.{History, history_text, text_of, reply_lines, object_lines, log_lines, journal_lines}

-- the digits of bytes that stand one behind the other
pub digits_append : (xs ys : List ℕ) → encode_lower (xs ++ ys) ≡ encode_lower xs ++ encode_lower ys
unfolding encode_with
digits_append [] ys = refl
digits_append (x ∷ xs) ys = ap (λ t. slice_index lower_digits (x / 16) ∷ slice_index lower_digits (x % 16) ∷ t) (digits_append xs ys)

pub digits_none : encode_lower [] ≡ []
unfolding encode_with
digits_none = refl

pub length-digits : (xs : List ℕ) → length (encode_lower xs) ≡ 2 * length xs
unfolding encode_with
length-digits [] = refl
length-digits (x ∷ xs) = omega (arith, length-digits xs)

-- a use of the call's own operation, and one of a record
pub use_own : (u : Use) → u.own ≡ true → use_word u ≡ codes "o" ++ decimal u.moment ++ (if u.kept then codes "k" else codes "d")
use_own u own = ap (λ b. if b then codes "o" ++ decimal u.moment ++ (if u.kept then codes "k" else codes "d") else codes "r" ++ decimal u.moment) own

pub use_record : (u : Use) → u.own ≡ false → use_word u ≡ codes "r" ++ decimal u.moment
use_record u own = ap (λ b. if b then codes "o" ++ decimal u.moment ++ (if u.kept then codes "k" else codes "d") else codes "r" ++ decimal u.moment) own

-- words that are made of items
pub spaced_map : {X : Type 0} (f : X → List ℕ) (xs : List X) → spaced (map f xs) ≡ flat_map (λ x. codes " " ++ f x) xs
spaced_map f [] = refl
spaced_map f (x ∷ xs) = ap (λ t. (codes " " ++ f x) ++ t) (spaced_map f xs)

-- a line whose words come in two parts, and one whose words come in three
pub line_in_two : (first : List ℕ) (ws vs : List (List ℕ)) → line (first ∷ (ws ++ vs)) ≡ first ++ spaced ws ++ spaced vs ++ 10 ∷ []
line_in_two first ws vs =
    ap (λ t. first ++ t ++ 10 ∷ []) (flat_map-append (λ w. codes " " ++ w) ws vs) ∙ ap (λ t. t ++ 10 ∷ []) (sym (append_assoc first (spaced ws) (spaced vs)))

pub line_in_three : (first : List ℕ) (ws vs us : List (List ℕ)) → line (first ∷ (ws ++ (vs ++ us))) ≡ first ++ spaced ws ++ spaced vs ++ spaced us ++ 10 ∷ []
line_in_three first ws vs us =
    line_in_two first ws (vs ++ us) ∙ ap (λ t. first ++ spaced ws ++ t ++ 10 ∷ []) (flat_map-append (λ w. codes " " ++ w) vs us)
    ∙ ap (λ t. t ++ 10 ∷ []) (sym (append_assoc (first ++ spaced ws) (spaced vs) (spaced us)))

-- the whole text, in the parts in which it is printed
pub text_of_parts : (h whole : History) → h ≡ whole
    → text_of (reply_lines h.calls h.replies) ++ text_of (object_lines h.bucket) ++ text_of (log_lines 1 h.log) ++ text_of (journal_lines h.journal)
    ++ line (codes "end" ∷ [])
    ≡ history_text whole
text_of_parts h whole is =
    let replies = reply_lines h.calls h.replies in
    let objects = object_lines h.bucket in
    let log = log_lines 1 h.log in
    let journal = journal_lines h.journal in
    sym
    (flat_map-append line (replies ++ objects ++ log ++ journal) ((codes "end" ∷ []) ∷ [])
    ∙ ap (λ t. t ++ line (codes "end" ∷ []))
    (flat_map-append line (replies ++ objects ++ log) journal
    ∙ ap (λ t. t ++ text_of journal) (flat_map-append line (replies ++ objects) log ∙ ap (λ t. t ++ text_of log) (flat_map-append line replies objects))))
    ∙ ap history_text is
