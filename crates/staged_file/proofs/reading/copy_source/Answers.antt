use Rattle.std.proofs.Common.{◌≡◌, ℕ, ◌+◌, ◌-◌, ◌++◌, List, min, length, take, drop, replicate, get_or, ap, ◌∙◌, arith}
use Rattle.staged_file.proofs.PartsRead.{part-source}
use Rattle.staged_file.proofs.reading.copy_source.Goals as goal

pub returns : goal.returns
returns c source holds k lt =
    let at = c.args.low - c.args.base_first in
    let kept = c.min-kept.result in
    let zeros : ℕ → List ℕ = λ n. replicate n 0 in
    let front : c.copy_from_slice.new.self ≡ take kept (drop at c.args.base.now) =
    c.copy_from_slice.ensures.after ∙ ap (λ n. take n (drop at c.args.base.now)) (let e : at + kept - at ≡ kept = omega arith in e) in
    let back : c.fill.new.self ≡ zeros (length c.args.part.now - kept) = c.fill.ensures.after (λ y e. e) ∙ ap zeros (let l = c.split_at_mut-front.ensures.back_len in omega arith) in
    ap (λ xs. get_or (xs ++ c.fill.new.self) k 0) front ∙ ap (λ ys. get_or (take kept (drop at c.args.base.now) ++ ys) k 0) back
    ∙ part-source c.args.limit c.args.low c.args.base_first kept source c.args.base.now c.args.part.now holds c.requires
    (c.min-kept.ensures ∙ ap (λ n. min n (length c.args.part.now)) c.saturating_sub.ensures) k lt
