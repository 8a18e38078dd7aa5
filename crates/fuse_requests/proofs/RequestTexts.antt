-- A request that can be written is read back from its text.
use Rattle.std.proofs.Common.{◌≡◌, ◌+◌, ◌<◌, ◌≤◌, ◌^◌, ℕ, List, ◌++◌, Ok, length, refl, ◌∙◌, arith}
use Rattle.std.proofs.lemmas.List.{length-append}
use Rattle.fuse_requests.specs.declared.request.Request.{Request}
use Rattle.fuse_requests.specs.declared.request.Request.TheVariants.{Lookup, Forget, Getattr, Setattr, Readlink, Symlink, Mknod, Mkdir, Unlink, Rmdir, Rename, Opening, Read, Write, Statfs, Release, Fsync, Flush, Init, Opendir, Readdir, Releasedir, Fsyncdir, Create, Interrupt, Destroy, BatchForget, Rename2, Unknown}
use Rattle.fuse_requests.specs.Layout.{fields_text}
use Rattle.fuse_requests.specs.Nodes.{read_in}
use Rattle.fuse_requests.specs.Mounts.{batch_forget_in}
use Rattle.fuse_requests.specs.Grammar.{layout_of, without_spare, read_as, read_frame}
use Rattle.fuse_requests.specs.Text.{body_text, pairs_text, request_text, spelling, FieldsFit, HasNames, InRange, IsWritable, PairsFit}
use Rattle.fuse_requests.proofs.FrameTexts.{read_frame-text}
use Rattle.fuse_requests.proofs.PairTexts.{length-pairs_text}
use Rattle.fuse_requests.proofs.NamingTexts.{lookup-text, symlink-text, mknod-text, mkdir-text, unlink-text, rmdir-text, rename-text, create-text, rename2-text}
use Rattle.fuse_requests.proofs.NodeTexts.{getattr-text, setattr-text, readlink-text, opening-text, opendir-text, reading-text, readdir-text, writing-text, release-text, releasedir-text, fsync-text, fsyncdir-text, flush-text}
use Rattle.fuse_requests.proofs.MountTexts.{forget-text, statfs-text, init-text, interrupt-text, destroy-text, batch_forget-text}

-- a content and a number of pairs lie in 32 bits, since the frame isn't longer than the longest
content_fits : (fixed content : List ℕ) → 40 + length (fixed ++ content) ≤ 135168 → length content < 2 ^ 32
content_fits fixed content fits = omega (arith, length-append fixed content)

body_read : (request : Request) → HasNames request → 40 + length (body_text request) ≤ 135168 → FieldsFit request → PairsFit request
    → read_as (spelling request).opcode (layout_of (spelling request).opcode (spelling request).node) (body_text request) ≡ Ok (without_spare request)
body_read (Lookup node name) is long fit pairs = lookup-text node name is
body_read (Forget node count) is long fit pairs = forget-text node count fit
body_read (Getattr node) is long fit pairs = getattr-text node
body_read (Setattr node valid size mtime nanos) is long fit pairs = setattr-text node valid size mtime nanos fit
body_read (Readlink node) is long fit pairs = readlink-text node
body_read (Symlink node name target) is long fit pairs = symlink-text node name target is.0 is.1
body_read (Mknod node mode name) is long fit pairs = mknod-text node mode name is fit
body_read (Mkdir node name) is long fit pairs = mkdir-text node name is
body_read (Unlink node name) is long fit pairs = unlink-text node name is
body_read (Rmdir node name) is long fit pairs = rmdir-text node name is
body_read (Rename node newdir name newname) is long fit pairs = rename-text node newdir name newname is.0 is.1 fit
body_read (Opening node flags) is long fit pairs = opening-text node flags fit
body_read (Read node fh first size) is long fit pairs = reading-text node fh first size fit
body_read (Write node fh first content) is long fit pairs =
    writing-text node fh first content fit (content_fits (fields_text (read_in fh first (length content))) content long)
body_read Statfs is long fit pairs = statfs-text
body_read (Release node fh) is long fit pairs = release-text node fh fit
body_read (Fsync node fh) is long fit pairs = fsync-text node fh fit
body_read (Flush node fh) is long fit pairs = flush-text node fh fit
body_read (Init major minor readahead flags) is long fit pairs = init-text major minor readahead flags fit
body_read (Opendir node) is long fit pairs = opendir-text node
body_read (Readdir node fh first size) is long fit pairs = readdir-text node fh first size fit
body_read (Releasedir node fh) is long fit pairs = releasedir-text node fh fit
body_read (Fsyncdir node fh) is long fit pairs = fsyncdir-text node fh fit
body_read (Create node name) is long fit pairs = create-text node name is
body_read Interrupt is long fit pairs = interrupt-text
body_read Destroy is long fit pairs = destroy-text
body_read (BatchForget row) is long fit pairs =
    let room = content_fits (fields_text (batch_forget_in (length row.items))) (pairs_text row.items) long in
    batch_forget-text row pairs (omega (arith, room, length-pairs_text row.items))
body_read (Rename2 node newdir flags name newname) is long fit pairs = rename2-text node newdir flags name newname is.0 is.1 fit.0 fit.1
body_read (Unknown opcode) is long fit pairs = rw is refl

pub read-request_text : (unique : ℕ) (request : Request) → unique < 2 ^ 64 → IsWritable request → InRange request
    → read_frame (request_text unique request) ≡ Ok (without_spare request)
read-request_text unique request unique_fits is range =
    read_frame-text unique request unique_fits is range ∙ body_read request is.names is.fits range.fields range.pairs
