-- One item more is kept.
use Rattle.std.proofs.Common.{map, ap, ◌∙◌, arith}
use Rattle.dir_listing.specs.Names.{told}
use Rattle.dir_listing.proofs.KeptLemmas.{items_more, fits_more}
use Rattle.dir_listing.proofs.kept.kept_items.Goals as goal

pub loop-meta-preserved : goal.loop-meta-preserved
loop-meta-preserved c = (
  ap (map (told c.args.prefix.now)) c.in_ok-push.ensures.items
      ∙ items_more c.args.prefix.now c.loop-meta.items.items c.in_ok-keep_item.field-0 c.args.metas.now c.loop-meta.meta-index c.meta-item.result (omega arith) c.meta-item.is c.loop-meta.invariant.0 c.in_ok-keep_item.ensures.ok.tells,
  fits_more c.args.prefix.now c.loop-meta.items.items c.push.new.self.items c.in_ok-keep_item.field-0 c.in_ok-push.ensures.items c.loop-meta.invariant.1 c.in_ok-keep_item.ensures.ok.fits,
)
