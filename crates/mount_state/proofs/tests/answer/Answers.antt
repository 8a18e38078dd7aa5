-- The mount is prepared, and goes on with short files.
use Rattle.std.proofs.Common.{Option, refl, sym, ap, subst, ◌∙◌}
use Rattle.fuse_requests.specs.Grammar.{without_spare}
use Rattle.mount_rules.specs.Dispatch.{early}
use Rattle.mount_rules.specs.Files.{FilesAreShort}
use Rattle.mount_rules.specs.Mount.{IsMount, MountModel}
use Rattle.mount_rules.specs.Plans.{HoldsWanted, Wanted}
use Rattle.mount_rules.specs.Rules.{AtTake}
use Rattle.mount_state.specs.Mounts.{MountState}
use Rattle.mount_state.specs.Serving.{IsServedAt}
use Rattle.mount_state.proofs.ShortLaws.{not_refused, of_nothing}
use Rattle.mount_state.proofs.tests.answer.Goals as goal

pub prepare-requires : goal.prepare-requires
prepare-requires c = record { free = not_refused c.args.mount.now.config c.args.mount.now.mount (without_spare c.args.request.now) c.in_default.ensures.errno }

pub finish-requires-clause-free : goal.finish-requires-clause-free
finish-requires-clause-free c =
    ap (λ (s : MountState). early s.mount (without_spare c.args.request.now)) c.in_ok-spare.ensures.room
    ∙ not_refused c.args.mount.now.config c.args.mount.now.mount (without_spare c.args.request.now) c.in_default.ensures.errno

pub returns : goal.returns
returns c =
    let was = ap (λ (s : MountState). s.mount) c.in_ok-spare.ensures.room in
    let prepared = c.prepare.new.self in
    let request = without_spare c.args.request.now in
    let at : AtTake = record { config = prepared.config; second = 40; contents = of_nothing } in
    let served : IsServedAt prepared.config 40 prepared.mount request c.empty.result at = record {
      settings = refl;
      second_is = refl;
      holds = subst (λ (w : Option Wanted). HoldsWanted of_nothing w c.empty.result.first c.empty.result.bytes) (sym (c.requires.quiet prepared.config prepared.mount)) tt;
    } in
    record {
      short = subst (λ (s : MountState). FilesAreShort s.mount) (sym (c.finish.ensures.mount at served))
          (c.requires.stays at prepared.mount (subst IsMount (sym was) c.early.ensures.valid) (subst (λ (m : MountModel). FilesAreShort m) (sym was) c.requires.short));
    }
