-- The body is the text of the dirents so far, and the rest.
use Rattle.std.proofs.Common.{◌≢◌, ◌<◌, ◌++◌, ℕ, List, All, ap, length, refl, rules, arith}
use Rattle.std.proofs.lemmas.List.{length-append}
use Rattle.std.proofs.lemmas.List.Elements.{All-nil, All-push}
use Rattle.std.proofs.lemmas.Result.{err_from_is_err_and}
use Rattle.fuse_replies.specs.declared.reply.Dirent.{Dirent}
use Rattle.fuse_replies.specs.Layouts.{dirent_text, dirents_text}
use Rattle.fuse_replies.specs.Replies.{IsDirent}
use Rattle.fuse_replies.proofs.DirentLemmas.{dirents_on, none_next, refuses}
use Rattle.fuse_replies.proofs.TextLemmas.{length-dirent_text}
use Rattle.fuse_replies.proofs.dirents.dirents_of.Goals as goal

pub loop-rest-init : goal.loop-rest-init
unfolding dirents_text
loop-rest-init c = rw c.new-dirents.ensures.items (refl, All-nil IsDirent)

pub returns-in_err-dirent : goal.returns-in_err-dirent
returns-in_err-dirent c =
    let p = err_from_is_err_and c.from_residual.result c.from_residual.ensures.1 in
    let more : 0 < length c.loop-rest.rest.now = search rules in
    rw (p.1, p.2) (refuses c.in_err-dirent.field-0.0 ((d : Dirent) (rest : List ℕ) → IsDirent d → c.loop-rest.rest.now ≢ dirent_text d ++ rest) ((ds : List Dirent) → All IsDirent ds → c.args.body.now ≢ dirents_text ds)
    (none_next c.loop-rest.dirents.items c.args.body.now c.loop-rest.rest.now more c.loop-rest.invariant.0 c.loop-rest.invariant.1)
    c.in_err-dirent.ensures)

pub loop-rest-smaller : goal.loop-rest-smaller
loop-rest-smaller c =
    omega (arith, ap length c.in_ok-dirent.ensures.0, length-append (dirent_text c.in_ok-dirent.dirent) c.in_ok-dirent.after.now, length-dirent_text c.in_ok-dirent.dirent)

pub loop-rest-preserved : goal.loop-rest-preserved
loop-rest-preserved c =
    rw c.in_ok-push.ensures.items (
      dirents_on c.loop-rest.dirents.items c.in_ok-dirent.dirent c.args.body.now c.loop-rest.rest.now c.in_ok-dirent.after.now c.loop-rest.invariant.0 c.in_ok-dirent.ensures.0,
      All-push IsDirent c.loop-rest.dirents.items c.in_ok-dirent.dirent c.loop-rest.invariant.1 c.in_ok-dirent.ensures.1,
    )
