-- A file has another length.
use Rattle.std.proofs.Common.{◌≡◌, ◌-◌, None, refl, sym, ap, ◌∙◌, arith}
use Rattle.std.specs.FinMap as fin
use Rattle.spare_maps.specs.SpareMaps.{Numbered}
use Rattle.staging_spec.specs.Staging.{resized}
use Rattle.staging_table.specs.declared.held.Held.{Held}
use Rattle.staging_table.proofs.Changed.{Changes, absent, owns-held, owns-none, changed-as, changed-holds}
use Rattle.staging_table.proofs.Served.{served-held, served-bare}
use Rattle.staging_table.proofs.table.StagingTable.resize.Goals as goal
use Rattle.staging_table.proofs.table.StagingTable.resize.Goals.{After-free, After-free-2}

pub set_len-requires-clause-staged : goal.set_len-requires-clause-staged
set_len-requires-clause-staged c = c.self.invariant.staged c.args.node c.value_mut-held.result.now c.value_mut-held.ensures.value

-- ---- what was held
abbrev file : After-free → Held
file c = record { staged = c.set_len.new.self; seconds = c.args.second; nanos = 0 }

abbrev left : After-free → Numbered Held
left c = record { map = fin.insert c.self.inside.held.map c.args.node (file c); spare = c.self.inside.held.spare }

changes : (c : After-free) → Changes c.self.inside.pool c.self.inside.held c.args.node c.value_mut-held.result.now.staged c.set_len.new.pool (left c) (file c)
changes c = record {
  own = owns-held _ _ _ c.self.invariant c.args.node c.value_mut-held.result.now c.value_mut-held.ensures.value;
  leaves = c.set_len.ensures.kept;
  staged = c.set_len.ensures.staged;
  valid = c.free.ensures.valid;
  put = refl;
}

pub invariant_of-self : goal.invariant_of-self
invariant_of-self c =
    changed-holds _ _ _ c.self.invariant _ _ _ (left c) (file c) (changes c) c.self.inside.room c.self.invariant.room

pub returns-then-is_some-clause-ok : goal.returns-then-is_some-clause-ok
returns-then-is_some-clause-ok c source =
    changed-as _ _ _ c.self.invariant _ _ _ (left c) (file c) (changes c)
    c.args.self.now c.self.view_is c.args.size
    (served-held _ _ _ _ c.self.invariant c.self.view_is c.args.node c.args.size c.value_mut-held.result.now c.value_mut-held.ensures.value)
    (λ staging. resized staging c.args.len) source (c.set_len.ensures.ok source)

-- ---- what was bare
none : (c : After-free-2) → fin.get c.self.inside.held.map c.args.node ≡ None
none c = absent c.get.result (fin.get c.self.inside.held.map c.args.node) c.get.ensures (sym c.if-is_some.ensures)

abbrev first : After-free-2 → Held
first c = record { staged = c.set_len-2.new.self; seconds = c.args.second; nanos = 0 }

begins : (c : After-free-2) → Changes c.self.inside.pool c.self.inside.held c.args.node c.bare-bare.result c.set_len-2.new.pool c.put.new.self (first c)
begins c = record {
  own = owns-none _ _ _ c.self.invariant c.args.node c.bare-bare.result
      (ap (λ f. f.chain) c.bare-bare.ensures.value) (ap (λ f. f.touched) c.bare-bare.ensures.value) (none c);
  leaves = c.set_len-2.ensures.kept;
  staged = c.set_len-2.ensures.staged;
  valid = c.free-2.ensures.valid;
  put = c.put.ensures.map ∙ ap (fin.insert c.self.inside.held.map c.args.node) c.since.ensures;
}

pub invariant_of-self-2 : goal.invariant_of-self-2
invariant_of-self-2 c =
    changed-holds _ _ _ c.self.invariant _ _ _ c.put.new.self (first c) (begins c)
    (c.self.inside.room - 1) (let spare = c.put.ensures.spare in let room = c.self.invariant.room in omega arith)

pub returns-clause-ok : goal.returns-clause-ok
returns-clause-ok c source =
    changed-as _ _ _ c.self.invariant _ _ _ c.put.new.self (first c) (begins c)
    c.args.self.now c.self.view_is c.args.size
    (served-bare _ _ _ _ c.self.invariant c.self.view_is c.args.node c.args.size c.bare-bare.result
    c.bare-bare.ensures.value (c.bare-bare.ensures.staged c.self.inside.pool.chains) (none c))
    (λ staging. resized staging c.args.len) source (c.set_len-2.ensures.ok source)
