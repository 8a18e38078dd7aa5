-- One dirent with a short name has a short text.
use Rattle.std.proofs.Common.{◌≡◌, ◌≤◌, ◌+◌, ◌++◌, ◌∷◌, ◌∙◌, List, [], ap, length, arith}
use Rattle.std.proofs.lemmas.List.{length-append}
use Rattle.fuse_replies.specs.declared.reply.Dirent.{Dirent}
use Rattle.fuse_replies.specs.Layouts.{dirent_text, dirents_text}
use Rattle.fuse_replies.proofs.TextLemmas.{length-dirent_text}
use Rattle.fuse_replies.proofs.tests.a_dirent_ends_at_a_multiple_of_8.Goals as goal

one_short : (d : Dirent) → length d.name ≤ 5 → 16 + length (dirents_text (d ∷ [])) ≤ 4294967295
unfolding dirents_text
one_short d short = omega (arith, length-append (dirent_text d) [], length-dirent_text d, short)

pub both_ways-requires : goal.both_ways-requires
both_ways-requires g c =
    let d : Dirent = record { off = 1; kind = 8; name = c.in_ok-name.name } in
    let items : c.from_vec.result.items ≡ d ∷ [] = c.from_vec.ensures.items ∙ c.in_ok-push.ensures.items ∙ ap (λ (ds : List Dirent). ds ++ d ∷ []) c.new-dirents.ensures.items in
    rw items (one_short d (omega (arith, ap length c.in_ok-name.ensures.ok)))
