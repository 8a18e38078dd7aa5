-- The first item of the name tells the kind.
use Rattle.std.proofs.Common.{sym, ◌∙◌, arith}
use Rattle.object_names.proofs.SlowLemmas.{first_kind-found, first_kind-passed}
use Rattle.object_names.proofs.slow.first_kind.Goals as goal

pub returns-then-eq : goal.returns-then-eq
returns-then-eq c =
    sym (first_kind-found c.args.name.now c.args.items.now c.loop-item.item-index c.item-item.result c.as_bytes.result.now (omega arith) c.item-item.is (c.as_bytes.ensures.value ∙ c.as_str.ensures.bytes) (sym c.eq.ensures ∙ c.if-eq.true))
    ∙ c.loop-item.invariant

pub loop-item-preserved : goal.loop-item-preserved
loop-item-preserved c =
    sym (first_kind-passed c.args.name.now c.args.items.now c.loop-item.item-index c.item-item.result c.as_bytes.result.now (omega arith) c.item-item.is (c.as_bytes.ensures.value ∙ c.as_str.ensures.bytes) (sym c.eq.ensures ∙ c.if-eq.false))
    ∙ c.loop-item.invariant
