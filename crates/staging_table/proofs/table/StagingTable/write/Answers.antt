-- Bytes are written into a file, or do not fit.
use Rattle.std.proofs.Common.{◌≡◌, ◌-◌, false, Result, Ok, Err, None, refl, sym, ap, subst, ◌∙◌, length, arith}
use Rattle.std.proofs.lemmas.Bool.{false≢true}
use Rattle.std.proofs.lemmas.Result.{err_from_is_err_and}
use Rattle.std.specs.FinMap as fin
use Rattle.std.specs.Result.{IsErr, OnErr, is_ok}
use Rattle.spare_maps.specs.SpareMaps.{Numbered}
use Rattle.staging_spec.proofs.FileLaws.{put_back}
use Rattle.staging_spec.specs.Slices.{Covers}
use Rattle.staging_spec.specs.StagedFiles.{touched_by}
use Rattle.staging_spec.specs.Staging.{written}
use Rattle.staging_spec.specs.Wanted.{wanted_by_write}
use Rattle.staging_table.specs.Tables.{stagings_of, HoldsStagings}
use Rattle.staging_table.specs.declared.held.Held.{Held}
use Rattle.staging_table.proofs.Changed.{Changes, absent, owns-held, owns-none, changed-as, changed-holds, holds-of}
use Rattle.staging_table.proofs.Served.{IsServed, served-held, served-bare, fits_is, lack_is}
use Rattle.staging_table.proofs.table.StagingTable.write.Goals as goal
use Rattle.staging_table.proofs.table.StagingTable.write.Goals.{After-value_mut-held, After-from_residual, After-free, After-bare-staged, After-free-2}

failed : {T E : Type 0} (r : Result T E) → IsErr r → is_ok r ≡ false
failed (Ok v) e = absurd (false≢true e)
failed (Err f) e = refl

told : {T E P : Type 0} (r : Result T E) → P → OnErr r P
told (Ok v) p = tt
told (Err f) p = p

-- ---- what was held
held_at : (c : After-value_mut-held) → IsServed c.self.inside.pool.chains c.args.self.now c.args.node c.args.size c.value_mut-held.result.now.staged
held_at c = served-held _ _ _ _ c.self.invariant c.self.view_is c.args.node c.args.size c.value_mut-held.result.now c.value_mut-held.ensures.value

pub write-requires-clause-staged : goal.write-requires-clause-staged
write-requires-clause-staged c = (held_at (goal.at.write-requires-clause-staged c).After-value_mut-held).staged

pub write-requires-clause-wanted : goal.write-requires-clause-wanted
write-requires-clause-wanted c =
    subst (λ o. Covers c.args.base_first (length c.args.base.now) (wanted_by_write (touched_by o) o.limit c.args.first (length c.args.from.now)))
    (sym (held_at (goal.at.write-requires-clause-wanted c).After-value_mut-held).overlay) c.requires.wanted

-- it did not fit: what was held is put back
abbrev kept : After-from_residual → Held
kept c = record { staged = c.write.new.self; seconds = c.value_mut-held.result.now.seconds; nanos = c.value_mut-held.result.now.nanos }

same : (c : After-from_residual) → fin.insert c.self.inside.held.map c.args.node (kept c) ≡ c.self.inside.held.map
same c =
    ap (λ s. fin.insert c.self.inside.held.map c.args.node (record { staged = s; seconds = c.value_mut-held.result.now.seconds; nanos = c.value_mut-held.result.now.nanos }))
    c.in_err-write.ensures.err.2
    ∙ sym (put_back c.self.inside.held.map c.args.node c.value_mut-held.result.now c.value_mut-held.ensures.value)

pub invariant_of-self : goal.invariant_of-self
invariant_of-self c =
    let left : Numbered Held = record { map = fin.insert c.self.inside.held.map c.args.node (kept c); spare = c.self.inside.held.spare } in
    subst (λ p. HoldsStagings p left c.self.inside.room) (sym c.in_err-write.ensures.err.1) (holds-of _ _ _ c.self.invariant left (same c) c.self.inside.room c.self.invariant.room)

pub returns-in_err-write-clause-full : goal.returns-in_err-write-clause-full
returns-in_err-write-clause-full c =
    failed c.from_residual.result c.from_residual.ensures.0
    ∙ c.in_err-write.ensures.full
    ∙ fits_is _ _ _ _ c.self.invariant c.self.view_is _ _ _ (held_at (goal.at.returns-in_err-write-clause-full c).After-value_mut-held) c.args.first (length c.args.from.now)

pub returns-in_err-write-clause-err : goal.returns-in_err-write-clause-err
returns-in_err-write-clause-err c = told c.from_residual.result ((λ i. stagings_of (c.in_err-write.ensures.err.1 i) (same c i) c.self.inside.room) ∙ c.self.view_is)

pub returns-in_err-write-clause-lacks : goal.returns-in_err-write-clause-lacks
returns-in_err-write-clause-lacks c =
    let p = err_from_is_err_and c.from_residual.result c.from_residual.ensures.1 in
    let seen = held_at (goal.at.returns-in_err-write-clause-lacks c).After-value_mut-held in
    rw (p.1, p.2) (c.in_err-write.ensures.err.0 ∙ lack_is _ _ _ _ c.self.invariant c.self.view_is _ _ _ seen c.args.first (length c.args.from.now))

-- it did
abbrev file : After-free → Held
file c = record { staged = c.write.new.self; seconds = c.args.second; nanos = 0 }

abbrev left : After-free → Numbered Held
left c = record { map = fin.insert c.self.inside.held.map c.args.node (file c); spare = c.self.inside.held.spare }

changes : (c : After-free) → Changes c.self.inside.pool c.self.inside.held c.args.node c.value_mut-held.result.now.staged c.write.new.pool (left c) (file c)
changes c = record {
  own = owns-held _ _ _ c.self.invariant c.args.node c.value_mut-held.result.now c.value_mut-held.ensures.value;
  leaves = c.write.ensures.kept;
  staged = c.write.ensures.staged;
  valid = c.free.ensures.valid;
  put = refl;
}

pub invariant_of-self-then-is_some : goal.invariant_of-self-then-is_some
invariant_of-self-then-is_some c = changed-holds _ _ _ c.self.invariant _ _ _ (left c) (file c) (changes c) c.self.inside.room c.self.invariant.room

pub returns-then-is_some-clause-full : goal.returns-then-is_some-clause-full
returns-then-is_some-clause-full c =
    c.in_ok-write.ensures.full
    ∙ fits_is _ _ _ _ c.self.invariant c.self.view_is _ _ _ (held_at (goal.at.returns-then-is_some-clause-full c).After-value_mut-held) c.args.first (length c.args.from.now)

pub returns-then-is_some-clause-ok : goal.returns-then-is_some-clause-ok
returns-then-is_some-clause-ok c source holds =
    changed-as _ _ _ c.self.invariant _ _ _ (left c) (file c) (changes c) c.args.self.now c.self.view_is c.args.size (held_at (goal.at.returns-then-is_some-clause-ok c).After-value_mut-held)
    (λ staging. written staging c.args.first c.args.from.now) source (c.in_ok-write.ensures.ok source holds)

-- ---- what was bare
none : (c : After-bare-staged) → fin.get c.self.inside.held.map c.args.node ≡ None
none c = absent c.get.result (fin.get c.self.inside.held.map c.args.node) c.get.ensures (sym c.if-is_some.ensures)

bare_at : (c : After-bare-staged) → IsServed c.self.inside.pool.chains c.args.self.now c.args.node c.args.size c.bare-staged.result
bare_at c = served-bare _ _ _ _ c.self.invariant c.self.view_is c.args.node c.args.size c.bare-staged.result
    c.bare-staged.ensures.value (c.bare-staged.ensures.staged c.self.inside.pool.chains) (none c)

pub write-requires-2-clause-wanted : goal.write-requires-2-clause-wanted
write-requires-2-clause-wanted c =
    subst (λ o. Covers c.args.base_first (length c.args.base.now) (wanted_by_write (touched_by o) o.limit c.args.first (length c.args.from.now)))
    (sym (bare_at (goal.at.write-requires-2-clause-wanted c).After-bare-staged).overlay) c.requires.wanted

pub returns-in_err-write-2-clause-full : goal.returns-in_err-write-2-clause-full
returns-in_err-write-2-clause-full c =
    failed c.from_residual-in_err-write-2.result c.from_residual-in_err-write-2.ensures.0
    ∙ c.in_err-write-2.ensures.full
    ∙ fits_is _ _ _ _ c.self.invariant c.self.view_is _ _ _ (bare_at (goal.at.returns-in_err-write-2-clause-full c).After-bare-staged) c.args.first (length c.args.from.now)

pub returns-in_err-write-2-clause-lacks : goal.returns-in_err-write-2-clause-lacks
returns-in_err-write-2-clause-lacks c =
    let p = err_from_is_err_and c.from_residual-in_err-write-2.result c.from_residual-in_err-write-2.ensures.1 in
    let seen = bare_at (goal.at.returns-in_err-write-2-clause-lacks c).After-bare-staged in
    rw (p.1, p.2) (c.in_err-write-2.ensures.err.0 ∙ lack_is _ _ _ _ c.self.invariant c.self.view_is _ _ _ seen c.args.first (length c.args.from.now))

abbrev first : After-free-2 → Held
first c = record { staged = c.write-2.new.self; seconds = c.args.second; nanos = 0 }

begins : (c : After-free-2) → Changes c.self.inside.pool c.self.inside.held c.args.node c.bare-staged.result c.write-2.new.pool c.put.new.self (first c)
begins c = record {
  own = owns-none _ _ _ c.self.invariant c.args.node c.bare-staged.result (ap (λ f. f.chain) c.bare-staged.ensures.value) (ap (λ f. f.touched) c.bare-staged.ensures.value)
      (absent c.get.result (fin.get c.self.inside.held.map c.args.node) c.get.ensures (sym c.if-is_some.ensures));
  leaves = c.write-2.ensures.kept;
  staged = c.write-2.ensures.staged;
  valid = c.free-2.ensures.valid;
  put = c.put.ensures.map ∙ ap (fin.insert c.self.inside.held.map c.args.node) c.since.ensures;
}

pub invariant_of-self-2 : goal.invariant_of-self-2
invariant_of-self-2 c =
    changed-holds _ _ _ c.self.invariant _ _ _ c.put.new.self (first c) (begins c) (c.self.inside.room - 1) (let spare = c.put.ensures.spare in let room = c.self.invariant.room in omega arith)

pub returns-clause-full : goal.returns-clause-full
returns-clause-full c =
    c.in_ok-write-2.ensures.full
    ∙ fits_is _ _ _ _ c.self.invariant c.self.view_is _ _ _ (bare_at (goal.at.returns-clause-full c).After-bare-staged) c.args.first (length c.args.from.now)

pub returns-clause-ok : goal.returns-clause-ok
returns-clause-ok c source holds =
    changed-as _ _ _ c.self.invariant _ _ _ c.put.new.self (first c) (begins c) c.args.self.now c.self.view_is c.args.size (bare_at (goal.at.returns-clause-ok c).After-bare-staged)
    (λ staging. written staging c.args.first c.args.from.now) source (c.in_ok-write-2.ensures.ok source holds)
