-- What a base shows of a source.
use Rattle.std.proofs.Common.{◌≡◌, ℕ, ◌+◌, ◌-◌, ◌≤◌, List, length, take, drop, sym, ap, ◌∙◌, arith}
use Rattle.std.proofs.lemmas.List.{drop-take, drop-drop, take-take}
use Rattle.staging_spec.specs.Slices.{Covers, Holds}
use Rattle.staging_spec.specs.Wanted.{Range}

-- a base that covers a range of the source shows the bytes of the source there
pub shows_source : (source : List ℕ) (first : ℕ) (bytes : List ℕ) (range : Range) → 1 ≤ range.count → Holds source first bytes → Covers first (length bytes) range
    → take range.count (drop (range.first - first) bytes) ≡ take range.count (drop range.first source)
shows_source source first bytes range some holds covers =
    ap (λ b. take range.count (drop skip b)) (sym holds)
    ∙ ap (λ n. take range.count (drop skip (take n (drop first source)))) whole
    ∙ ap (take range.count) (drop-take skip rest (drop first source))
    ∙ take-take range.count rest (drop skip (drop first source)) (let a = (covers some).0 in let b = (covers some).1 in omega (arith, a, b))
    ∙ ap (take range.count) (drop-drop skip first source)
    ∙ ap (λ n. take range.count (drop n source)) (let a = (covers some).0 in omega (arith, a))
  where
    skip : ℕ
    skip = range.first - first

    rest : ℕ
    rest = length bytes - skip

    whole : length bytes ≡ skip + rest
    whole = let a = (covers some).0 in let b = (covers some).1 in omega (arith, a, b)
