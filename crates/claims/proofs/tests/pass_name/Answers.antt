use Rattle.std.proofs.Common.{ap, ◌∙◌, is_some}
use Rattle.std.specs.FinMap as fin
use Rattle.spare_maps.proofs.FinMaps.{number_put_same}
use Rattle.claims.proofs.tests.pass_name.Goals as goal

pub drop_claim-requires : goal.drop_claim-requires
drop_claim-requires c =
    ap (λ m. is_some (fin.get m c.in-Ok.number)) c.in-Ok.ensures.ok.1.held
    ∙ ap (λ n. is_some (fin.get (fin.insert c.reserve.new.self.held c.reserve.new.self.next c.in_ok-wanted.wanted.items) n)) c.in-Ok.ensures.ok.0
    ∙ ap is_some (number_put_same c.reserve.new.self.held c.reserve.new.self.next c.in_ok-wanted.wanted.items)
