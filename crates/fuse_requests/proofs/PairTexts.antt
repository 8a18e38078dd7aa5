-- How long the text of pairs is.
use Rattle.std.proofs.Common.{◌≡◌, ◌*◌, List, [], ◌∷◌, length, refl, arith}
use Rattle.std.proofs.lemmas.List.{length-append}
use Rattle.fuse_head.specs.Little.{u64_bytes}
use Rattle.fuse_head.proofs.LittleLemmas.{length-u64_bytes}
use Rattle.fuse_requests.specs.declared.request.Forgotten.{Forgotten}
use Rattle.fuse_requests.specs.Text.{pair_text, pairs_text}

pub length-pairs_text : (pairs : List Forgotten) → length (pairs_text pairs) ≡ 16 * length pairs
length-pairs_text [] = refl
length-pairs_text (pair ∷ pairs) =
    omega (arith, length-pairs_text pairs, length-append (pair_text pair) (pairs_text pairs), length-append (u64_bytes pair.node) (u64_bytes pair.count), length-u64_bytes pair.node, length-u64_bytes pair.count)
