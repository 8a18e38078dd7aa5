-- A path names an object, and no pairs rise.
use Rattle.std.proofs.Common.{List, sym, subst}
use Rattle.std.specs.List.Sorted.{IsStrictlySortedBy}
use Rattle.bucket_api.specs.Metadata.{KeysRise}
use Rattle.bucket_api.specs.declared.objects.Pair.{Pair}
use Rattle.mount_rules.specs.Making as making
use Rattle.plan_names.specs.Errands.{Asked}
use Rattle.plan_names.proofs.NameLemmas.{path_named}
use Rattle.plan_names.proofs.tests.makes.Goals as goal

pub asks-requires-clause-errand : goal.asks-requires-clause-errand
unfolding IsStrictlySortedBy
asks-requires-clause-errand c = (path_named c.in_ok-name.name c.in_ok-name.ensures, subst KeysRise (sym c.new.ensures.items) tt)

pub asks-requires-clause-asked : goal.asks-requires-clause-asked
asks-requires-clause-asked c =
    subst (λ (pairs : List Pair). Asked (making.plan c.in_ok-name.name pairs 7) c.args.told.now) (sym c.new.ensures.items) (c.requires c.in_ok-name.name)
