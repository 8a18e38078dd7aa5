-- Texts read back: a word holds no space and no line feed, so that equal texts have equal lines.
use Rattle.std.proofs.Common.{◌≡◌, ℕ, ◌⊎◌, inl, inr, ◌≢◌, Bool, true, false, List, [], ◌∷◌, ◌++◌, refl, sym, ◌∙◌, append_assoc, arith}
use Rattle.std.specs.Prelude.{◌==◌, if◌then◌else◌}
use Rattle.std.specs.List.{list_all}
use Rattle.std.proofs.lemmas.Bool.Decides.{nat_tests}
use Rattle.history_text.specs.Words.{line, spaced}
use Rattle.history_text.specs.HistoryText.{text_of}

-- the byte is neither a line feed nor a space
abbrev pub is_inner : ℕ → Bool
is_inner b = if b == 10 then false else (if b == 32 then false else true)

-- the word has neither
abbrev pub IsWord : List ℕ → Type 0
IsWord word = list_all is_inner word ≡ true

abbrev pub AreWords : List (List ℕ) → Type 0
AreWords [] = Unit {0}
AreWords (word ∷ words) = IsWord word × AreWords words

-- the line has a word, and words alone
abbrev pub IsLine : List (List ℕ) → Type 0
IsLine [] = ⊥
IsLine (word ∷ words) = IsWord word × AreWords words

abbrev pub AreLines : List (List (List ℕ)) → Type 0
AreLines [] = Unit {0}
AreLines (words ∷ lines) = IsLine words × AreLines lines

-- a word's first byte is no break, and its rest is a word
word_head : (b : ℕ) (bs : List ℕ) → IsWord (b ∷ bs) → (b ≢ 10) × (b ≢ 32)
word_head b bs is = (grind (arith, nat_tests), grind (arith, nat_tests))

pub word_rest : (b : ℕ) (bs : List ℕ) → IsWord (b ∷ bs) → IsWord bs
word_rest b bs is = grind (arith, nat_tests)

-- what stands behind a word: a space or a line feed first
abbrev IsBreak : List ℕ → Type 0
IsBreak [] = ⊥
IsBreak (b ∷ bs) = (b ≡ 10) ⊎ (b ≡ 32)

no_break : (x y : ℕ) (bs : List ℕ) → x ≡ y → (x ≡ 10) ⊎ (x ≡ 32) → IsWord (y ∷ bs) → ⊥
no_break x y bs same (inl feed) is = (word_head y bs is).0 (sym same ∙ feed)
no_break x y bs same (inr space) is = (word_head y bs is).1 (sym same ∙ space)

-- a word ends where a space or a line feed stands
word_ends : (v w t u : List ℕ) → IsWord v → IsWord w → IsBreak t → IsBreak u → v ++ t ≡ w ++ u → (v ≡ w) × (t ≡ u)
word_ends [] [] t u is is' ends ends' same = (refl, same)
word_ends [] (y ∷ w) [] u is is' ends ends' same = absurd ends
word_ends [] (y ∷ w) (x ∷ t) u is is' ends ends' same = absurd (no_break x y w (cc) ends is')
word_ends (x ∷ v) [] t [] is is' ends ends' same = absurd ends'
word_ends (x ∷ v) [] t (y ∷ u) is is' ends ends' same = absurd (no_break y x v (cc) ends' is)
word_ends (x ∷ v) (y ∷ w) t u is is' ends ends' same =
    let head : x ≡ y = cc in
    let tails : v ++ t ≡ w ++ u = cc in
    let rest = word_ends v w t u (word_rest x v is) (word_rest y w is') ends ends' tails in
    ((λ k. head k ∷ rest.0 k), rest.1)

-- further words, and the line's end, begin with a break
breaks : (words : List (List ℕ)) (t : List ℕ) → IsBreak (spaced words ++ (10 ∷ t))
breaks [] t = inl refl
breaks (word ∷ words) t = inr refl

heads : (a b : ℕ) (t u : List ℕ) → a ∷ t ≡ b ∷ u → a ≡ b
heads a b t u same = cc

-- the words of a line end where its line feed stands
words_end : (vs ws : List (List ℕ)) (t u : List ℕ) → AreWords vs → AreWords ws → spaced vs ++ (10 ∷ t) ≡ spaced ws ++ (10 ∷ u) → (vs ≡ ws) × (t ≡ u)
words_end [] [] t u are are' same = (refl, cc)
words_end [] (w ∷ ws) t u are are' same = absurd (omega (arith, heads 10 32 t ((w ++ spaced ws) ++ (10 ∷ u)) same))
words_end (v ∷ vs) [] t u are are' same = absurd (omega (arith, heads 32 10 ((v ++ spaced vs) ++ (10 ∷ t)) u same))
words_end (v ∷ vs) (w ∷ ws) t u are are' same =
    let tails : (v ++ spaced vs) ++ (10 ∷ t) ≡ (w ++ spaced ws) ++ (10 ∷ u) = cc in
    let split = sym (append_assoc v (spaced vs) (10 ∷ t)) ∙ tails ∙ append_assoc w (spaced ws) (10 ∷ u) in
    let first = word_ends v w (spaced vs ++ (10 ∷ t)) (spaced ws ++ (10 ∷ u)) are.0 are'.0 (breaks vs t) (breaks ws u) split in
    let rest = words_end vs ws t u are.1 are'.1 first.1 in
    ((λ k. first.0 k ∷ rest.0 k), rest.1)

-- a line and what stands behind it, in the parts that tell it
line_parts : (w : List ℕ) (ws : List (List ℕ)) (t : List ℕ) → line (w ∷ ws) ++ t ≡ w ++ (spaced ws ++ (10 ∷ t))
line_parts w ws t = simp append_assoc

-- where a line ends there is a byte
some_byte : (t u : List ℕ) → [] ≡ t ++ (10 ∷ u) → ⊥
some_byte [] u e = cc
some_byte (x ∷ t) u e = cc

-- equal texts have equal lines
pub text_tells : (xs ys : List (List (List ℕ))) → AreLines xs → AreLines ys → text_of xs ≡ text_of ys → xs ≡ ys
text_tells [] [] are are' same = refl
text_tells [] ([] ∷ ys) are are' same = absurd are'.0
text_tells [] ((w ∷ ws) ∷ ys) are are' same =
    absurd (some_byte (w ++ spaced ws) (text_of ys) (same ∙ append_assoc (w ++ spaced ws) (10 ∷ []) (text_of ys)))
text_tells ([] ∷ xs) ys are are' same = absurd are.0
text_tells ((v ∷ vs) ∷ xs) [] are are' same =
    absurd (some_byte (v ++ spaced vs) (text_of xs) (sym same ∙ append_assoc (v ++ spaced vs) (10 ∷ []) (text_of xs)))
text_tells ((v ∷ vs) ∷ xs) ([] ∷ ys) are are' same = absurd are'.0
text_tells ((v ∷ vs) ∷ xs) ((w ∷ ws) ∷ ys) are are' same =
    let t = spaced vs ++ (10 ∷ text_of xs) in
    let u = spaced ws ++ (10 ∷ text_of ys) in
    let parts : v ++ t ≡ w ++ u = sym (line_parts v vs (text_of xs)) ∙ same ∙ line_parts w ws (text_of ys) in
    let first = word_ends v w t u are.0.0 are'.0.0 (breaks vs (text_of xs)) (breaks ws (text_of ys)) parts in
    let words = words_end vs ws (text_of xs) (text_of ys) are.0.1 are'.0.1 first.1 in
    let rest = text_tells xs ys are.1 are'.1 words.1 in
    λ k. (first.0 k ∷ words.0 k) ∷ rest k
