use Rattle.std.proofs.Common.{◌≡◌, ℕ, min, length, take, ap, ◌∙◌, arith}
use Rattle.std.proofs.lemmas.List.{take_min}
use Rattle.file_cache.proofs.blocks.part_at.Goals as goal

pub returns : goal.returns
returns c =
    c.split_at-2.ensures.front ∙ ap (λ (n : ℕ). take n c.split_at.result.1.now) c.min.ensures
    ∙ ap (λ n. take n c.split_at.result.1.now) (let e : min (length c.split_at.result.1.now) 65536 ≡ min 65536 (length c.split_at.result.1.now) = omega arith in e)
    ∙ take_min 65536 c.split_at.result.1.now ∙ ap (take 65536) c.split_at.ensures.back
