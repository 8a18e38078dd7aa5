-- The bytes stand in the buffer.
use Rattle.std.proofs.Common.{◌≡◌, length, take, drop, sym, ap, subst, ◌∙◌, arith}
use Rattle.std.proofs.lemmas.List.{take_at}
use Rattle.mount_rules.specs.View.{sight_at}
use Rattle.staging_spec.specs.Overlays.{staging_over}
use Rattle.staging_spec.specs.Slices.{Holds}
use Rattle.staging_spec.specs.StagedFiles.{overlay_at}
use Rattle.mount_state.proofs.StagedReads.{bytes_read, range_at, staged_read}
use Rattle.mount_state.proofs.tables.Tables.staged_bytes.Goals as goal

pub returns-clause-bytes : goal.returns-clause-bytes
returns-clause-bytes c = λ contents holds.
    let files = c.args.self.now.staging.files in
    let size = c.source_len-len.result in
    let all : c.args.out.len ≡ length c.args.out.items = c.args.out.ok.0 in
    let count : c.len-count.result ≡ length c.args.out.items = let told = c.len-count.ensures in omega (arith, told, all) in
    let long : length c.read.new.out ≡ c.args.out.len = let kept = c.read.auto.out in let was = ap length c.as_mut_slice.ensures.value in omega (arith, kept, was, all) in
    c.from_vec-2.ensures.bytes
    ∙ take_at c.read.new.out (drop (length c.read.new.out) c.args.out.items) c.args.out.len long
    ∙ bytes_read files c.args.node c.args.first c.args.size (length c.args.out.items) size c.args.base.now.first c.args.base.now.bytes c.wanted_by_read-wanted.result
    (staged_read files c.args.node c.args.first c.args.size (length c.args.out.items) c.requires.buffer)
    contents (sight_at c.args.self.now.nodes.table c.args.node) c.read.new.out c.requires.there
    (c.wanted_by_read-wanted.ensures.ok ∙ ap (range_at files c.args.node size c.args.first) count) holds
    (λ source held. c.read.ensures.ok source (subst (Holds source c.args.base.now.first) (sym c.bytes_for-bytes.ensures) held)
    ∙ ap (λ out. take (length out) (drop c.args.first (staging_over (overlay_at files c.args.node size) source).content)) c.as_mut_slice.ensures.value)
