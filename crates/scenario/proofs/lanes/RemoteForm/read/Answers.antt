-- Each operation that was read may be asked, and they are as many as were counted.
use Rattle.std.proofs.Common.{◌≡◌, sym, ap, ◌∙◌, subst, length}
use Rattle.std.specs.Prelude.{map, All}
use Rattle.std.proofs.lemmas.List.Elements.{All-map}
use Rattle.bucket_api.specs.Operation.{operation, IsAllowed}
use Rattle.scenario.specs.Lawful.{StaysCounted}
use Rattle.scenario.proofs.Counts.{length_mapped}
use Rattle.scenario.proofs.lanes.RemoteForm.read.Goals as goal

pub returns-clause-good : goal.returns-clause-good
returns-clause-good c =
    let parts = c.take_all.new.all.parts.items in
    let spot = c.args.self.now.spot.now in
    let allowed : All IsAllowed (map operation c.from_vec.result.items) = All-map IsAllowed operation c.from_vec.result.items (subst (All (λ op. IsAllowed (operation op))) (sym c.from_vec.ensures.items) c.in_ok-take_all.ensures.fits.0) in
    let counted : StaysCounted spot (length parts) = subst (λ k. StaysCounted k.0 (length parts)) c.in_ok-take_all.ensures.kept c.in_ok-take_all.ensures.fits.1 in
    let many : length (map operation c.from_vec.result.items) ≡ length parts = length_mapped operation c.from_vec.result.items ∙ ap length c.from_vec.ensures.items in
    (allowed, subst (StaysCounted spot) (sym many) counted)
