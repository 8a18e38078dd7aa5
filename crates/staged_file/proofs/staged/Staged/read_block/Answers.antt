use Rattle.std.proofs.Common.{◌≡◌, ◌+◌, ◌-◌, ◌*◌, ◌++◌, max, min, subst, ◌∙◌, length, take, drop, arith, length-take-le, length-drop}
use Rattle.staged_file.specs.Staged.{byte_at}
use Rattle.staged_file.specs.Steps.{Reads}
use Rattle.staged_file.proofs.PartsRead.{Reads-mid}
use Rattle.staged_file.proofs.staged.Staged.read_block.Goals as goal

pub returns : goal.returns
returns c source holds =
    let first = c.args.first in
    let out = c.args.out.now in
    let part = c.read_part.new.part in
    let low = c.max-low.result in
    let high = c.min-high.result in
    let low_is : low ≡ max first (c.args.block * 65536) = c.max-low.ensures in
    let high_is : high ≡ min (first + length out) ((c.args.block + 1) * 65536) = omega (arith, c.min-high.ensures) in
    let some = c.requires.some in
    let meets = c.requires.meets in
    let d = length-drop (low - first) out in
    let taken : length (take (high - first - (low - first)) (drop (low - first) out)) ≡ high - first - (low - first) =
    length-take-le (high - first - (low - first)) (drop (low - first) out) (omega arith) in
    let len : length part ≡ high - first - (low - first) = c.read_part.auto.part ∙ taken in
    let shown = byte_at c.args.pool.now.chains c.args.self.now source in
    let now = take (low - first) out ++ (part ++ drop (high - first - (low - first)) (drop (low - first) out)) in
    subst (λ n. Reads shown first out now n (min (first + length out) ((c.args.block + 1) * 65536))) low_is
    (subst (λ n. Reads shown first out now low n) high_is
    (Reads-mid shown first out part low high (omega arith) (omega (arith, meets.0, meets.1)) (omega arith) len (λ k lt. c.read_part.ensures source holds k (omega arith))))
