-- One prefix more is kept.
use Rattle.std.proofs.Common.{map, ap, ◌∙◌, arith}
use Rattle.dir_listing.specs.Names.{kept_name}
use Rattle.dir_listing.proofs.KeptLemmas.{prefixes_more, fits_more}
use Rattle.dir_listing.proofs.kept.kept_prefixes.Goals as goal

pub loop-name-preserved : goal.loop-name-preserved
loop-name-preserved c = (
  ap (map (kept_name c.args.prefix.now)) c.in_ok-push.ensures.items
      ∙ prefixes_more c.args.prefix.now c.loop-name.prefixes.items c.in_ok-keep.field-0 c.args.names.now c.loop-name.name-index c.name-item.result (omega arith) c.name-item.is c.loop-name.invariant.0 (ap (λ item. item.0) c.in_ok-keep.ensures.ok.tells),
  fits_more c.args.prefix.now c.loop-name.prefixes.items c.push.new.self.items c.in_ok-keep.field-0 c.in_ok-push.ensures.items c.loop-name.invariant.1 c.in_ok-keep.ensures.ok.fits,
)
