-- The table is the act's.
use Rattle.std.proofs.Common.{◌≡◌, subst, IfErr, Some, None}
use Rattle.serde_json.specs.View.{view}
use Rattle.scenario.specs.declared.remote.Act.TheVariants.{Write, Update}
use Rattle.scenario.specs.Format.{act_in, members_for}
use Rattle.scenario.specs.Told.{TellsFault}
use Rattle.scenario.specs.Walks as walk
use Rattle.scenario.proofs.remote.test_members.Goals as goal

pub returns-in-Some-Update-clause-err : goal.returns-in-Some-Update-clause-err
returns-in-Some-Update-clause-err c =
    let is : Some Update ≡ act_in (view c.args.value.now) = cc in
    subst (λ a. IfErr c.object.result (λ e. TellsFault e (walk.object (members_for a) (view c.args.value.now)))) is c.object.ensures.err

pub returns-in-Some-Write-clause-err : goal.returns-in-Some-Write-clause-err
returns-in-Some-Write-clause-err c =
    let is : Some Write ≡ act_in (view c.args.value.now) = cc in
    subst (λ a. IfErr c.object-in-Some-Write.result (λ e. TellsFault e (walk.object (members_for a) (view c.args.value.now)))) is c.object-in-Some-Write.ensures.err

pub returns-in-None-clause-err : goal.returns-in-None-clause-err
returns-in-None-clause-err c =
    let is : None ≡ act_in (view c.args.value.now) = cc in
    subst (λ a. IfErr c.object-in-None.result (λ e. TellsFault e (walk.object (members_for a) (view c.args.value.now)))) is c.object-in-None.ensures.err
