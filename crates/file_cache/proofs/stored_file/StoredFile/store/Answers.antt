use Rattle.std.proofs.Common.{◌≡◌, ◌+◌, ◌*◌, ◌≤◌, ◌++◌, length, take, sym, ap, subst, ◌∙◌, arith}
use Rattle.std.proofs.lemmas.List.{length-take-le, take_all}
use Rattle.std.proofs.Math.Seq.{take-add}
use Rattle.file_cache.proofs.Storing.{IsStoring, IsStoring-none, IsStoring-more, stored_as, part_fits}
use Rattle.file_cache.proofs.stored_file.StoredFile.store.Goals as goal

pub loop-position-init : goal.loop-position-init
loop-position-init c =
    let taken = rw c.unwrap-chain.ensures at c.take.ensures.ok in
    IsStoring-none c.args.region.now c.take.new.self c.unwrap-chain.result taken.0 taken.1 (rw c.unwrap-chain.ensures at c.take.ensures.head)

pub append-requires-clause-fits : goal.append-requires-clause-fits
append-requires-clause-fits c = part_fits c.part_at.result.now c.args.bytes.now (c.loop-position.position * 65536) c.part_at.ensures

pub loop-position-preserved : goal.loop-position-preserved
loop-position-preserved c =
    let before = c.loop-position.position * 65536 in
    let within : before ≤ length c.args.bytes.now = omega (arith, c.loop-position-test.true, c.blocks_for-position-end.ensures) in
    subst (λ xs. IsStoring c.args.region.now c.append.new.region c.append.new.chain xs (c.loop-position.position + 1))
    (ap (λ xs. take before c.args.bytes.now ++ xs) c.part_at.ensures ∙ sym (take-add before 65536 c.args.bytes.now)
    ∙ ap (λ n. take n c.args.bytes.now) (let e : before + 65536 ≡ (c.loop-position.position + 1) * 65536 = omega arith in e))
    (IsStoring-more c.args.region.now c.loop-position.region c.append.new.region c.loop-position.chain c.append.new.chain (take before c.args.bytes.now) c.part_at.result.now
    c.loop-position.position c.loop-position.invariant c.append.ensures (length-take-le before c.args.bytes.now within)
    (part_fits c.part_at.result.now c.args.bytes.now before c.part_at.ensures))

pub returns : goal.returns
returns c =
    let all : length c.args.bytes.now ≤ c.loop-position.position * 65536 = omega (arith, c.loop-position-test.false, c.blocks_for-position-end.ensures) in
    stored_as c.args.region.now c.loop-position.region c.loop-position.chain c.args.bytes.now
    (subst (IsStoring c.args.region.now c.loop-position.region c.loop-position.chain c.args.bytes.now) (omega (arith, c.loop-position-test.false, c.loop-position.auto.position-end, c.blocks_for-position-end.ensures))
    (subst (λ xs. IsStoring c.args.region.now c.loop-position.region c.loop-position.chain xs c.loop-position.position) (take_all (c.loop-position.position * 65536) c.args.bytes.now all) c.loop-position.invariant))
    c.requires.some
