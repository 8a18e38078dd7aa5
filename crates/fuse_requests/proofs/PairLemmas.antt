-- Laws of the pairs of BATCH_FORGET, one pair at a time.
use Rattle.std.proofs.Common.{◌≡◌, ◌+◌, ◌-◌, ◌<◌, ℕ, suc, List, [], ◌∷◌, ◌++◌, drop, ap, ◌∙◌, sym, append_assoc, arith}
use Rattle.std.proofs.lemmas.List.{append-nil}
use Rattle.fuse_head.specs.Little.{u64_at}
use Rattle.fuse_requests.specs.declared.request.Forgotten.{Forgotten}
use Rattle.fuse_requests.specs.Parts.{pairs_of}

-- where there is one to come, it stands at the front
next : (n m : ℕ) (bytes : List ℕ) → n ≡ suc m → pairs_of n bytes ≡ record { node = u64_at bytes 0; count = u64_at bytes 8 } ∷ pairs_of m (drop 16 bytes)
next n m bytes is = ap (λ (k : ℕ). pairs_of k bytes) is

-- the next pair goes to those that were read
pub pairs_of-step : (front : List Forgotten) (count counter : ℕ) (rest : List ℕ) (whole : List Forgotten) → counter < count
    → front ++ pairs_of (count - counter) rest ≡ whole
    → (front ++ record { node = u64_at rest 0; count = u64_at rest 8 } ∷ []) ++ pairs_of (count - (counter + 1)) (drop 16 rest) ≡ whole
pairs_of-step front count counter rest whole below so_far =
    append_assoc front (record { node = u64_at rest 0; count = u64_at rest 8 } ∷ []) (pairs_of (count - (counter + 1)) (drop 16 rest))
    ∙ ap (λ (pairs : List Forgotten). front ++ pairs) (sym (next (count - counter) (count - (counter + 1)) rest (omega arith)))
    ∙ so_far

-- after the last there are none to come
pub pairs_of-end : (front : List Forgotten) (count counter : ℕ) (rest : List ℕ) (whole : List Forgotten) → counter ≡ count
    → front ++ pairs_of (count - counter) rest ≡ whole → front ≡ whole
pairs_of-end front count counter rest whole here so_far =
    let none : count - counter ≡ 0 = omega arith in
    sym (append-nil front) ∙ ap (λ (k : ℕ). front ++ pairs_of k rest) (sym none) ∙ so_far
