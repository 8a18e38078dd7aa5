-- What is at the front of the bytes.
use Rattle.std.proofs.Common.{◌≡◌, ◌≢◌, ◌++◌, ℕ, List, ap, length, replicate, subst, sym, ◌∙◌, arith}
use Rattle.std.specs.Str.{IsUtf8}
use Rattle.std.proofs.lemmas.List.{length-append}
use Rattle.std.proofs.lemmas.Result.{err_from_is_err_and}
use Rattle.fuse_replies.specs.declared.dirents.DirentFront.{DirentFront}
use Rattle.fuse_replies.specs.declared.reply.Dirent.{Dirent}
use Rattle.fuse_replies.specs.Layouts.{dirent_text, padding_of}
use Rattle.fuse_replies.specs.Replies.{IsDirent}
use Rattle.fuse_replies.proofs.DirentLemmas.{dirent_made, front_again, front_fits, front_value, left_behind, name_again, refuses, taken_front}
use Rattle.fuse_replies.proofs.TextLemmas.{length-dirent_text}
use Rattle.fuse_replies.proofs.dirents.next_dirent.Goals as goal

pub returns-then-bytes-lt24 : goal.returns-then-bytes-lt24
returns-then-bytes-lt24 c = λ d rest fits is. omega (arith, ap length is, length-append (dirent_text d) rest, length-dirent_text d, c.if-bytes-lt24.true)

pub returns-in_default : goal.returns-in_default
returns-in_default c = λ d rest fits is. absurd (let again = c.in_default.ensures.again (front_value d) (front_fits d fits) (c.split_at.ensures.front ∙ taken_front d rest c.args.bytes.now is) in cc)

pub returns-in_default-split_name : goal.returns-in_default-split_name
returns-in_default-split_name c = λ d rest fits is.
    let f-is : c.in-Some.front ≡ front_value d = front_again c.in-Some.front d rest c.args.bytes.now c.split_at.result.0.now c.split_at.ensures.front c.in-Some.ensures fits is in
    let len : length d.name ≡ c.in-Some.front.namelen = sym (ap (λ (f : DirentFront). f.namelen) f-is) in
    c.in_default-split_name.ensures d.name rest len
    (c.split_at.ensures.back ∙ left_behind d rest c.args.bytes.now is ∙ ap (λ (n : ℕ). d.name ++ (replicate (padding_of n) 0 ++ rest)) len)

pub returns : goal.returns
returns c =
    let front = c.in-Some.ensures.found in
    let named = c.in-Some-split_name.ensures in (
      dirent_made c.in-Some.front c.in-Some-split_name.name.now c.in_ok-name.name c.in-Some-split_name.rest.now c.args.bytes.now c.in_ok-name.ensures.0 named.0 (sym c.split_at.ensures.front ∙ front.0) (sym c.split_at.ensures.back ∙ named.1),
      record {
        off = front.1.off;
        namelen = omega (arith, ap length c.in_ok-name.ensures.0, named.0, front.1.namelen);
        kind = front.1.kind;
        name = subst IsUtf8 (sym c.in_ok-name.ensures.0) c.in_ok-name.ensures.1;
      },
    )

pub returns-in_err-name : goal.returns-in_err-name
returns-in_err-name c =
    let p = err_from_is_err_and c.from_residual.result c.from_residual.ensures.1 in
    let named = c.in-Some-split_name.ensures in
    rw (p.1, p.2) (refuses c.in_err-name.field-0.0 (IsUtf8 c.in-Some-split_name.name.now → ⊥) ((d : Dirent) (rest : List ℕ) → IsDirent d → c.args.bytes.now ≢ dirent_text d ++ rest)
    (λ other d rest fits is.
    let f-is : c.in-Some.front ≡ front_value d = front_again c.in-Some.front d rest c.args.bytes.now c.split_at.result.0.now c.split_at.ensures.front c.in-Some.ensures fits is in
    other (subst IsUtf8 (name_again c.in-Some.front d rest c.args.bytes.now c.split_at.result.1.now c.in-Some-split_name.name.now (replicate (padding_of c.in-Some.front.namelen) 0 ++ c.in-Some-split_name.rest.now) f-is c.split_at.ensures.back is named.0 named.1) fits.name))
    c.in_err-name.ensures)
