-- Laws of the forms of command lines: words have one reading.
use Rattle.std.proofs.Common.{◌≡◌, ◌≢◌, ℕ, zero, suc, ◌^◌, ◌<◌, ◌≤◌, ◌⊎◌, List, [], ◌∷◌, ◌++◌, length, get_or, refl, sym, ap, ◌∙◌, subst, arith, inl, inr, codes, length-append, Result, Ok, Err, IsErr, IfOk, MatchResult}
use Rattle.std.specs.Fmt.{decimal}
use Rattle.std.proofs.lemmas.Fmt.{decimal_digit, first_decimal, decimal_injective}
use Rattle.std.proofs.lemmas.List.{append_cancel_left}
use Rattle.cli_words.specs.declared.command.Command.{Command}
use Rattle.cli_words.specs.declared.command.Command.TheVariants.{Serve, Play, Drill}
use Rattle.cli_words.specs.Forms.{SetsWorkers, IsForm}

-- digits don't begin with a dash
not_dash : (n : ℕ) (rest : List ℕ) → n < 2 ^ 64 → decimal n ≢ 45 ∷ rest
not_dash zero rest small e =
    let zero_digit : get_or (decimal 0) 0 0 ≡ 48 = ap (λ t. get_or t 0 0) (decimal_digit 0 (omega arith)) in
    let dash : get_or (decimal 0) 0 0 ≡ 45 = ap (λ t. get_or t 0 0) e in
    absurd (omega arith)
not_dash (suc n) rest small e =
    let first = first_decimal (suc n) (omega arith) small in
    let same : get_or (decimal (suc n)) 0 0 ≡ 45 = ap (λ t. get_or t 0 0) e in
    absurd (omega arith)

same_number : (m n : ℕ) → m ≤ 64 → n ≤ 64 → decimal m ≡ decimal n → m ≡ n
same_number m n p q e = decimal_injective m n (omega arith) (omega arith) e

-- words set one number of workers
pub sets_one : (words : List (List ℕ)) (m n : ℕ) → SetsWorkers words m → SetsWorkers words n → m ≡ n
sets_one words m n (p, q, inl (e, is)) (p', q', inl (e', is')) = is ∙ sym is'
sets_one words m n (p, q, inl (e, is)) (p', q', inr (inl e')) = absurd (omega (arith, ap length (sym e ∙ e')))
sets_one words m n (p, q, inl (e, is)) (p', q', inr (inr e')) = absurd (omega (arith, ap length (sym e ∙ e')))
sets_one words m n (p, q, inr (inl e)) (p', q', inl (e', is')) = absurd (omega (arith, ap length (sym e ∙ e')))
sets_one words m n (p, q, inr (inl e)) (p', q', inr (inl e')) = same_number m n q q' (let both = sym e ∙ e' in cc)
sets_one words m n (p, q, inr (inl e)) (p', q', inr (inr e')) = absurd (omega (arith, ap length (sym e ∙ e')))
sets_one words m n (p, q, inr (inr e)) (p', q', inl (e', is')) = absurd (omega (arith, ap length (sym e ∙ e')))
sets_one words m n (p, q, inr (inr e)) (p', q', inr (inl e')) = absurd (omega (arith, ap length (sym e ∙ e')))
sets_one words m n (p, q, inr (inr e)) (p', q', inr (inr e')) =
    same_number m n q q' (append_cancel_left (codes "--workers=") (decimal m) (decimal n) (let both = sym e ∙ e' in cc))

-- the seed stands before the option or behind it
abbrev pub IsDrill : List (List ℕ) → ℕ → List (List ℕ) → Type 0
IsDrill rest seed option = (rest ≡ decimal seed ∷ option) ⊎ (rest ≡ option ++ decimal seed ∷ [])

-- where a number stands first, it is the seed, and the option is what follows
pub seed_first : (rest : List (List ℕ)) (s : ℕ) (later : List (List ℕ)) → rest ≡ decimal s ∷ later → s < 2 ^ 64
    → (t : ℕ) (option : List (List ℕ)) (n : ℕ) → t < 2 ^ 64 → SetsWorkers option n → IsDrill rest t option → (t ≡ s) × (option ≡ later)
seed_first rest s later is small t option n small' sets (inl e) =
    let both : decimal t ∷ option ≡ decimal s ∷ later = sym e ∙ is in (decimal_injective t s small' small (cc), cc)
seed_first rest s later is small t option n small' (p, q, inl (none, _)) (inr e) =
    let both : decimal t ∷ [] ≡ decimal s ∷ later = ap (λ o. o ++ decimal t ∷ []) (sym none) ∙ sym e ∙ is in
    (decimal_injective t s small' small (cc), none ∙ (let later_none : [] ≡ later = cc in later_none))
seed_first rest s later is small t option n small' (p, q, inr (inl two)) (inr e) =
    let both : codes "--workers" ∷ decimal n ∷ decimal t ∷ [] ≡ decimal s ∷ later = ap (λ o. o ++ decimal t ∷ []) (sym two) ∙ sym e ∙ is in
    absurd (not_dash s (codes "-workers") small (let front : decimal s ≡ codes "--workers" = cc in front))
seed_first rest s later is small t option n small' (p, q, inr (inr one)) (inr e) =
    let both : (codes "--workers=" ++ decimal n) ∷ decimal t ∷ [] ≡ decimal s ∷ later = ap (λ o. o ++ decimal t ∷ []) (sym one) ∙ sym e ∙ is in
    absurd (not_dash s (codes "-workers=" ++ decimal n) small (let front : decimal s ≡ codes "--workers=" ++ decimal n = cc in front))

snoc_parts : (xs ys : List (List ℕ)) (a b : List ℕ) → xs ++ a ∷ [] ≡ ys ++ b ∷ [] → (xs ≡ ys) × (a ≡ b)
snoc_parts [] [] a b e = (refl, cc)
snoc_parts [] (y ∷ ys) a b e = absurd (omega (arith, ap length e, length-append ys (b ∷ [])))
snoc_parts (x ∷ xs) [] a b e = absurd (omega (arith, ap length e, length-append xs (a ∷ [])))
snoc_parts (x ∷ xs) (y ∷ ys) a b e = let parts = snoc_parts xs ys a b (cc) in let head : x ≡ y = cc in (cc (head, parts.0), parts.1)

-- where no number stands first, the seed is the last word, and the option is what stands before it
pub seed_last : (rest : List (List ℕ)) (first last : List ℕ) (later earlier : List (List ℕ)) → rest ≡ first ∷ later → rest ≡ earlier ++ last ∷ []
    → ((n : ℕ) → n < 2 ^ 64 → first ≢ decimal n)
    → (t : ℕ) (option : List (List ℕ)) → t < 2 ^ 64 → IsDrill rest t option → (last ≡ decimal t) × (option ≡ earlier)
seed_last rest first last later earlier front back none t option small (inl e) = absurd (none t small (let both = sym front ∙ e in cc))
seed_last rest first last later earlier front back none t option small (inr e) =
    let parts = snoc_parts earlier option last (decimal t) (sym back ∙ e) in (parts.1, sym parts.0)

one_drill : (rest : List (List ℕ)) (s t : ℕ) (o p : List (List ℕ)) (m n : ℕ) → s < 2 ^ 64 → t < 2 ^ 64 → IsDrill rest s o → IsDrill rest t p
    → SetsWorkers o m → SetsWorkers p n → (s ≡ t) × (o ≡ p)
one_drill rest s t o p m n small small' (inl e) d sets sets' =
    let same = seed_first rest s o e small t p n small' sets' d in (sym same.0, sym same.1)
one_drill rest s t o p m n small small' (inr e) (inl e') sets sets' = seed_first rest t p e' small' s o m small sets (inr e)
one_drill rest s t o p m n small small' (inr e) (inr e') sets sets' =
    let parts = snoc_parts o p (decimal s) (decimal t) (sym e ∙ e') in (decimal_injective s t small small' parts.1, parts.0)

-- the first byte of the first word, which tells the commands apart
first_byte : List (List ℕ) → ℕ
first_byte [] = 0
first_byte (w ∷ ws) = get_or w 0 0

further : List (List ℕ) → List (List ℕ)
further [] = []
further (w ∷ ws) = ws

drill_of : (words : List (List ℕ)) (s : ℕ) (o : List (List ℕ))
    → (words ≡ codes "drill" ∷ decimal s ∷ o) ⊎ (words ≡ codes "drill" ∷ (o ++ decimal s ∷ [])) → (first_byte words ≡ 100) × IsDrill (further words) s o
unfolding first_byte further
drill_of words s o (inl e) = (ap first_byte e, inl (ap further e))
drill_of words s o (inr e) = (ap first_byte e, inr (ap further e))

-- words are a form of one command
pub one_form : (words : List (List ℕ)) (a b : Command) → IsForm words a → IsForm words b → a ≡ b
unfolding first_byte further
one_form words Serve Serve e e' = refl
one_form words Serve (Play n) e (o, e', sets) = absurd (omega (arith, ap first_byte e, ap first_byte e'))
one_form words Serve (Drill t n) e (o, small, d, sets) = absurd (omega (arith, ap first_byte e, (drill_of words t o d).0))
one_form words (Play m) Serve (o, e, sets) e' = absurd (omega (arith, ap first_byte e, ap first_byte e'))
one_form words (Play m) (Play n) (o, e, sets) (p, e', sets') =
    ap Play (sets_one p m n (subst (λ x. SetsWorkers x m) (sym (ap further e) ∙ ap further e') sets) sets')
one_form words (Play m) (Drill t n) (o, e, sets) (p, small, d, sets') = absurd (omega (arith, ap first_byte e, (drill_of words t p d).0))
one_form words (Drill s m) Serve (o, small, d, sets) e' = absurd (omega (arith, ap first_byte e', (drill_of words s o d).0))
one_form words (Drill s m) (Play n) (o, small, d, sets) (p, e', sets') = absurd (omega (arith, ap first_byte e', (drill_of words s o d).0))
one_form words (Drill s m) (Drill t n) (o, small, d, sets) (p, small', d', sets') =
    let same = one_drill (further words) s t o p m n small small' (drill_of words s o d).1 (drill_of words t p d').1 sets sets' in
    let workers = sets_one p m n (subst (λ x. SetsWorkers x m) same.1 sets) sets' in
    λ i. Drill (same.0 i) (workers i)

two_items : (words : List (List ℕ)) (a b : List ℕ) → 2 ≤ length words → length words < 3 → a ≡ get_or words 0 a → b ≡ get_or words 1 b → words ≡ a ∷ b ∷ []
two_items [] a b many few is is' = absurd (omega arith)
two_items (x ∷ []) a b many few is is' = absurd (omega arith)
two_items (x ∷ y ∷ []) a b many few is is' = cc
two_items (x ∷ y ∷ z ∷ zs) a b many few is is' = absurd (omega arith)

-- two words, of which the first names the option, set what number the second one is
pub two_words : {E : Type 0} (r : Result ℕ E) (words : List (List ℕ)) (name digits : List ℕ)
    → 2 ≤ length words → length words < 3 → name ≡ get_or words 0 name → digits ≡ get_or words 1 digits → name ≡ codes "--workers"
    → MatchResult r (λ n. (1 ≤ n) × (n ≤ 64) × (digits ≡ decimal n)) (λ _. (n : ℕ) → 1 ≤ n → n ≤ 64 → digits ≢ decimal n)
    → MatchResult r (SetsWorkers words) (λ _. (n : ℕ) → ¬ (SetsWorkers words n))
two_words (Ok n) words name digits many few is is' named (low, high, number) =
    let two = two_items words name digits many few is is' in (low, high, inr (inl (let shown : words ≡ codes "--workers" ∷ decimal n ∷ [] = cc in shown)))
two_words (Err e) words name digits many few is is' named none =
    let two = two_items words name digits many few is is' in λ n sets. no_other words name digits two none n sets
  where
    no_other : (words : List (List ℕ)) (name digits : List ℕ) → words ≡ name ∷ digits ∷ [] → ((n : ℕ) → 1 ≤ n → n ≤ 64 → digits ≢ decimal n)
        → (n : ℕ) → ¬ (SetsWorkers words n)
    no_other words name digits two none n (low, high, inl (e, _)) = absurd (omega (arith, ap length (sym two ∙ e)))
    no_other words name digits two none n (low, high, inr (inl e)) = none n low high (let both = sym two ∙ e in cc)
    no_other words name digits two none n (low, high, inr (inr e)) = absurd (omega (arith, ap length (sym two ∙ e)))

-- an error, with what holds of any
pub on_err : {T E : Type 0} (P : T → Type 0) {Q : Type 0} (r : Result T E) → IsErr r → Q → MatchResult r P (λ _. Q)
on_err P (Ok x) err q = cc
on_err P (Err e) err q = q

-- no command is `play` with words that set no number of workers
pub refused_play : (rest : List (List ℕ)) → ((n : ℕ) → ¬ (SetsWorkers rest n)) → (command : Command) → ¬ (IsForm (codes "play" ∷ rest) command)
unfolding first_byte further
refused_play rest none Serve e = absurd (omega (arith, ap first_byte e))
refused_play rest none (Play n) (o, e, sets) = none n (subst (λ x. SetsWorkers x n) (sym (ap further e)) sets)
refused_play rest none (Drill t n) (o, small, d, sets) = absurd (omega (arith, (drill_of (codes "play" ∷ rest) t o d).0))

refused_drill : (rest : List (List ℕ)) → ((t : ℕ) (option : List (List ℕ)) (n : ℕ) → t < 2 ^ 64 → SetsWorkers option n → ¬ (IsDrill rest t option))
    → (command : Command) → ¬ (IsForm (codes "drill" ∷ rest) command)
unfolding first_byte further
refused_drill rest none Serve e = absurd (omega (arith, ap first_byte e))
refused_drill rest none (Play n) (o, e, sets) = absurd (omega (arith, ap first_byte e))
refused_drill rest none (Drill t n) (o, small, d, sets) = none t o n small sets (drill_of (codes "drill" ∷ rest) t o d).1

-- nor is one `drill` with a number first and such words behind it
pub refused_behind : (rest : List (List ℕ)) (s : ℕ) (later : List (List ℕ)) → rest ≡ decimal s ∷ later → s < 2 ^ 64
    → ((n : ℕ) → ¬ (SetsWorkers later n)) → (command : Command) → ¬ (IsForm (codes "drill" ∷ rest) command)
refused_behind rest s later is small none = refused_drill rest (λ t option n small' sets d.
    none n (subst (λ x. SetsWorkers x n) (seed_first rest s later is small t option n small' sets d).1 sets))

-- nor with no number first, and such words before the last one
pub refused_before : (rest : List (List ℕ)) (first last : List ℕ) (later earlier : List (List ℕ)) → rest ≡ first ∷ later → rest ≡ earlier ++ last ∷ []
    → ((n : ℕ) → n < 2 ^ 64 → first ≢ decimal n) → ((n : ℕ) → ¬ (SetsWorkers earlier n)) → (command : Command) → ¬ (IsForm (codes "drill" ∷ rest) command)
refused_before rest first last later earlier front back no_seed none = refused_drill rest (λ t option n small sets d.
    none n (subst (λ x. SetsWorkers x n) (seed_last rest first last later earlier front back no_seed t option small d).1 sets))

-- what one command's words say, they alone say
pub only_form : {E : Type 0} (Q : E → Type 0) (words : List (List ℕ)) (r : Result Command E) → MatchResult r (IsForm words) Q
    → IfOk r (λ command. (other : Command) → IsForm words other → other ≡ command)
only_form Q words (Ok command) is = λ other form. one_form words other command form is
only_form Q words (Err e) is = tt
