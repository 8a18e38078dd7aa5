-- What is found of an errand's keys, case by case.
use Rattle.std.proofs.Common.{◌≡◌, ap, subst, sym, false, [], rules, ◌∙◌}
use Rattle.mount_core.specs.LoneCalls.{Finds}
use Rattle.mount_core.specs.declared.errand.Errand.{Errand}
use Rattle.mount_core.specs.declared.errand.Errand.TheVariants.{Names}
use Rattle.mount_kept.specs.declared.kept.Kept.{Kept}
use Rattle.plan_names.specs.declared.errand.NameErrand.TheVariants.{Lookup, Rename}
use Rattle.mount_core.proofs.lone.find.Goals as goal

pub returns-in_ok-found-in-Names-Lookup-clause-ok : goal.returns-in_ok-found-in-Names-Lookup-clause-ok
returns-in_ok-found-in-Names-Lookup-clause-ok c =
    let same : c.args.errand.now ≡ Names (Lookup c.in-Names-Lookup.path c.in-Names-Lookup.suffix c.in-Names-Lookup.field-0-2) = first_of (search rules, cc) in
    subst (λ (errand : Errand). Finds c.args.config.now c.args.clock errand c.args.kept.now.records c.in_ok-found-in-Names-Lookup.found c.find_both.new.kept.records) (sym same)
    (c.in_ok-found-in-Names-Lookup.ensures.ok, λ other name. ap (λ (k : Kept). k.records) (c.in_ok-found-in-Names-Lookup.ensures.list other name))

pub returns-in_ok-found-in-Names-Lookup-clause-kept : goal.returns-in_ok-found-in-Names-Lookup-clause-kept
returns-in_ok-found-in-Names-Lookup-clause-kept c = ap (λ (k : Kept). k.files) (c.in_ok-found-in-Names-Lookup.ensures.list false [])

pub returns-in_ok-found-in-Names-Rename-clause-ok : goal.returns-in_ok-found-in-Names-Rename-clause-ok
returns-in_ok-found-in-Names-Rename-clause-ok c =
    let same : c.args.errand.now ≡ Names (Rename c.in-Names-Rename.from c.in-Names-Rename.field-0-1 c.in-Names-Rename.field-0-2 c.in-Names-Rename.field-0-3) = first_of (search rules, cc) in
    subst (λ (errand : Errand). Finds c.args.config.now c.args.clock errand c.args.kept.now.records c.in_ok-found-in-Names-Rename.found c.find_directory.new.kept.records) (sym same)
    (c.in_ok-found-in-Names-Rename.ensures.ok, ap (λ (k : Kept). k.records) c.in_ok-found-in-Names-Rename.ensures.list)
