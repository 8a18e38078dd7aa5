-- The bytes given are the first ones left, and none are given only where none are left.
use Rattle.std.proofs.Common.{◌≡◌, ◌+◌, ◌++◌, length, min, take, drop, List, ℕ, sym, ap, ◌∙◌, arith}
use Rattle.io_ports.specs.MemStreams.{MemLeft}
use Rattle.io_ports.proofs.StreamLemmas.{drop-next, drop-given}
use Rattle.io_ports.proofs.mem_source.MemSourceSource.take.Goals as goal

pub returns-clause-bytes : goal.returns-clause-bytes
returns-clause-bytes c =
    let bytes : List ℕ = c.self.inside.bytes.items in
    let at : ℕ = c.self.inside.at in
    let count : ℕ = c.min-count.result in
    let here : c.args.self.now.left ≡ drop at bytes = ap (λ (s : MemLeft). s.left) (sym c.self.view_is) in
    let rest : c.split_at.result.1.now ≡ drop at bytes = c.split_at.ensures.back ∙ ap (drop at) c.as_slice.ensures.value in
    let given : take count (drop at bytes) ≡ take count c.copy_front.new.buf = sym (c.copy_front.ensures.front ∙ ap (take count) rest) in (
      here ∙ drop-next at count bytes ∙ ap (λ front. front ++ drop (at + count) bytes) given,
      λ none roomy.
          let given_all : count ≡ min (min (length (drop at bytes)) (length c.copy_front.new.buf)) c.self.inside.piece = omega (arith, ap length rest) in
          drop-given at count _ _ bytes given_all c.self.invariant.1 none roomy,
    )
