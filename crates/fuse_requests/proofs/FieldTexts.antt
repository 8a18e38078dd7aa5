-- Laws of the text of a fixed part: its length, and its fields read back.
use Rattle.std.proofs.Common.{◌≡◌, ◌+◌, ◌<◌, ◌≤◌, ◌^◌, ℕ, List, [], ◌∷◌, ◌++◌, Ok, length, suc, take, drop, refl, ap, ◌∙◌, append_assoc, arith, nat_lt, false}
use Rattle.std.proofs.lemmas.List.{drop_at, length-append}
use Rattle.std.proofs.lemmas.Bool.{le-ltb}
use Rattle.std.proofs.lemmas.Grind.{flat_map-append}
use Rattle.fuse_head.specs.Little.{u32_at, u64_at}
use Rattle.fuse_head.proofs.LittleLemmas.{length-u32_bytes, length-u64_bytes, u32_at-field, u64_at-field}
use Rattle.fuse_requests.specs.Parts.{after_fixed}
use Rattle.fuse_requests.specs.Layout.{Field, w32, w64, field_bytes, fields_text}

abbrev pub field_len : Field → ℕ
field_len (w32 n) = 4
field_len (w64 n) = 8

-- how many bytes the fields have
abbrev pub fields_len : List Field → ℕ
fields_len [] = 0
fields_len (field ∷ fields) = field_len field + fields_len fields

length-field_bytes : (field : Field) → length (field_bytes field) ≡ field_len field
length-field_bytes (w32 n) = length-u32_bytes n
length-field_bytes (w64 n) = length-u64_bytes n

pub length-fields_text : (fields : List Field) → length (fields_text fields) ≡ fields_len fields
length-fields_text [] = refl
length-fields_text (field ∷ fields) = omega (arith, length-append (field_bytes field) (fields_text fields), length-field_bytes field, length-fields_text fields)

-- a field stands between those before it and those after it
split_at : (before : List Field) (field : Field) (after : List Field) (rest : List ℕ)
    → fields_text (before ++ field ∷ after) ++ rest ≡ fields_text before ++ (field_bytes field ++ (fields_text after ++ rest))
split_at before field after rest =
    ap (λ (bytes : List ℕ). bytes ++ rest) (flat_map-append field_bytes before (field ∷ after))
    ∙ append_assoc (fields_text before) (field_bytes field ++ fields_text after) rest
    ∙ ap (λ (bytes : List ℕ). fields_text before ++ bytes) (append_assoc (field_bytes field) (fields_text after) rest)

-- a field is read back at its offset
word_at : (before after : List Field) (n : ℕ) (rest : List ℕ) → n < 2 ^ 32
    → u32_at (fields_text (before ++ w32 n ∷ after) ++ rest) (fields_len before) ≡ n
word_at before after n rest fits =
    ap (λ (bytes : List ℕ). u32_at bytes (fields_len before)) (split_at before (w32 n) after rest)
    ∙ u32_at-field (fields_text before) (fields_text after ++ rest) n (fields_len before) (length-fields_text before) fits

long_at : (before after : List Field) (n : ℕ) (rest : List ℕ) → n < 2 ^ 64
    → u64_at (fields_text (before ++ w64 n ∷ after) ++ rest) (fields_len before) ≡ n
long_at before after n rest fits =
    ap (λ (bytes : List ℕ). u64_at bytes (fields_len before)) (split_at before (w64 n) after rest)
    ∙ u64_at-field (fields_text before) (fields_text after ++ rest) n (fields_len before) (length-fields_text before) fits

-- the same by the field's number, from 0, among all fields
pub word_of : (fields : List Field) (k n : ℕ) (rest : List ℕ) → fields ≡ take k fields ++ w32 n ∷ drop (suc k) fields → n < 2 ^ 32
    → u32_at (fields_text fields ++ rest) (fields_len (take k fields)) ≡ n
word_of fields k n rest is fits =
    ap (λ (all : List Field). u32_at (fields_text all ++ rest) (fields_len (take k fields))) is ∙ word_at (take k fields) (drop (suc k) fields) n rest fits

pub long_of : (fields : List Field) (k n : ℕ) (rest : List ℕ) → fields ≡ take k fields ++ w64 n ∷ drop (suc k) fields → n < 2 ^ 64
    → u64_at (fields_text fields ++ rest) (fields_len (take k fields)) ≡ n
long_of fields k n rest is fits =
    ap (λ (all : List Field). u64_at (fields_text all ++ rest) (fields_len (take k fields))) is ∙ long_at (take k fields) (drop (suc k) fields) n rest fits

-- a value of equal numbers is equal
pub two : {R : Type 0} {a b c d : ℕ} (make : ℕ → ℕ → R) → a ≡ b → c ≡ d → make a c ≡ make b d
two make p q = cc

pub three : {R : Type 0} {a b c d e f : ℕ} (make : ℕ → ℕ → ℕ → R) → a ≡ b → c ≡ d → e ≡ f → make a c e ≡ make b d f
three make p q r = cc

pub four : {R : Type 0} {a b c d e f g h : ℕ} (make : ℕ → ℕ → ℕ → ℕ → R) → a ≡ b → c ≡ d → e ≡ f → g ≡ h → make a c e g ≡ make b d f h
four make p q r s = cc

-- what stands behind a fixed part is read on
pub after_fixed-text : (fields : List Field) (tail : List ℕ) → after_fixed (fields_len fields) (fields_text fields ++ tail) ≡ Ok tail
after_fixed-text fields tail =
    let long = length-fields_text fields in
    let within : fields_len fields ≤ length (fields_text fields ++ tail) = omega (arith, long, length-append (fields_text fields) tail) in
    let enough : nat_lt (length (fields_text fields ++ tail)) (fields_len fields) ≡ false = le-ltb (length (fields_text fields ++ tail)) (fields_len fields) within in
    rw (enough, drop_at (fields_text fields) tail (fields_len fields) long) refl
