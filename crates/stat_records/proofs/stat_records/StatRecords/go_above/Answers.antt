-- Each slash makes the record of one more cut go.
use Rattle.std.proofs.Common.{◌≡◌, ◌+◌, ◌<◌, length, get_or, take, sym, ap, subst, ◌∙◌, arith}
use Rattle.std.proofs.lemmas.Str.{IsCharBoundary-after_ascii}
use Rattle.record_spec.specs.Steps.{gone}
use Rattle.stat_records.proofs.Inside.{cut_before, cut_after}
use Rattle.stat_records.proofs.stat_records.StatRecords.go_above.Goals as goal
use Rattle.stat_records.proofs.stat_records.StatRecords.go_above.Goals.{then-byte-eq47, else-byte-eq47}

-- a slash is a character of one byte
pub split_at-requires : goal.split_at-requires
split_at-requires c =
    let slash : get_or c.args.name.now c.loop-at.at 0 ≡ 47 = subst (λ b. get_or b c.loop-at.at 0 ≡ 47) c.as_bytes-byte-items.ensures.value c.if-byte-eq47.true in
    IsCharBoundary-after_ascii c.args.name.now c.loop-at.at c.utf8.name (omega arith) (omega arith)

pub loop-at-preserved : goal.loop-at-preserved
loop-at-preserved c =
    let within : c.loop-at.at < length c.args.name.now = omega arith in
    elim c.if-byte-eq47.branch [
      | then-byte-eq47 w ↦
          w.self-is ∙ w.go.ensures ∙ ap (gone c.loop-at.self) w.split_at.ensures.front
          ∙ ap (λ l. gone l (take (c.loop-at.at + 1) c.args.name.now)) c.loop-at.invariant
          ∙ cut_after c.args.self.now c.args.name.now c.loop-at.at within (subst (λ b. get_or b c.loop-at.at 0 ≡ 47) c.as_bytes-byte-items.ensures.value w.if-byte-eq47.true)
      | else-byte-eq47 w ↦
          w.self-is ∙ c.loop-at.invariant
          ∙ cut_before c.args.self.now c.args.name.now c.loop-at.at within (λ e. w.if-byte-eq47.false (subst (λ b. get_or b c.loop-at.at 0 ≡ 47) (sym c.as_bytes-byte-items.ensures.value) e))
    ]
