-- The path fits.
use Rattle.std.proofs.Common.{length, ap, arith}
use Rattle.std.proofs.lemmas.List.{length-append}
use Rattle.mount_state.proofs.moving.short_path.Goals as goal

pub push_str-requires-2 : goal.push_str-requires-2
push_str-requires-2 c =
    let text = c.in_ok-part.part.now in
    let empty = ap length c.new-path.ensures in
    let len = c.push_str.ensures.len in
    let fits = c.in_ok-part.ensures.fits in
    let both = length-append c.args.prefix.now text in
    (omega arith, omega (arith, empty, len, fits, both))
