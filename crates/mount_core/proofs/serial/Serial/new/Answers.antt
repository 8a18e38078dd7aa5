-- What any run from a first mount comes to; and a run without calls came to the mount.
use Rattle.std.proofs.Common.{sym, ap, subst}
use Rattle.mount_core.proofs.FirstLemmas.{came_first}
use Rattle.mount_core.specs.Serials.{CameTo}
use Rattle.mount_core.specs.Stores.{Counted}
use Rattle.mount_laws.proofs.Guarded.{flushes_are_guarded}
use Rattle.mount_laws.proofs.Readings.{reads_are_of_content}
use Rattle.mount_laws.proofs.Removals.{rmdirs_empty}
use Rattle.mount_laws.proofs.Renamed.{renames_move, renames_stop}
use Rattle.mount_laws.proofs.RunLaws.{counts_decide, numbers_rise, short_are_out_of_memory}
use Rattle.mount_laws.proofs.Settled.{staging_is_bounded}
use Rattle.mount_laws.proofs.Writings.{writes_patch}
use Rattle.mount_rules.specs.Mount.{MountModel}
use Rattle.mount_rules.specs.OneThread.{first_state}
use Rattle.mount_state.specs.Mounts.{MountState}
use Rattle.mount_core.proofs.serial.Serial.new.Goals as goal

pub invariant_of-result : goal.invariant_of-result
invariant_of-result c =
    let run = first_state c.args.bucket in
    let made = c.in_ok-new.ensures.ok in
    record {
      settings = c.requires.config;
      same = ap (λ (m : MountState). m.config) made;
      idle = ap (λ (m : MountState). m.promised) made;
      run = run;
      came = subst (λ (s : Counted). CameTo run (record { config = c.args.config.now; mount = c.in_ok-new.field-0.mount; store = s })) (sym c.new-2.ensures.store)
          (subst (λ (m : MountModel). CameTo run (record { config = c.args.config.now; mount = m; store = record { bucket = c.args.bucket; made = 0 } })) (sym (ap (λ (m : MountState). m.mount) made))
          (came_first c.args.config.now c.args.bucket c.new-2.ensures.valid));
    }

pub returns-clause-counts : goal.returns-clause-counts
returns-clause-counts c = counts_decide

pub returns-clause-numbers : goal.returns-clause-numbers
returns-clause-numbers c = numbers_rise

pub returns-clause-short : goal.returns-clause-short
returns-clause-short c = short_are_out_of_memory

pub returns-clause-reads : goal.returns-clause-reads
returns-clause-reads c = reads_are_of_content

pub returns-clause-writes : goal.returns-clause-writes
returns-clause-writes c = writes_patch

pub returns-clause-bounded : goal.returns-clause-bounded
returns-clause-bounded c = staging_is_bounded

pub returns-clause-flushes : goal.returns-clause-flushes
returns-clause-flushes c = flushes_are_guarded

pub returns-clause-renames : goal.returns-clause-renames
returns-clause-renames c = renames_move

pub returns-clause-stops : goal.returns-clause-stops
returns-clause-stops c = renames_stop

pub returns-clause-removals : goal.returns-clause-removals
returns-clause-removals c = rmdirs_empty
