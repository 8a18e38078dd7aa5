-- When a request can be written, for whoever makes one.
use Rattle.std.proofs.Common.{◌≤◌, length, arith, lit≤}
use Rattle.std.proofs.lemmas.List.{length-append}
use Rattle.fuse_requests.specs.declared.request.Request.{Request}
use Rattle.fuse_requests.specs.declared.request.Request.TheVariants.{Lookup, Forget, Getattr, Setattr, Readlink, Symlink, Mknod, Mkdir, Unlink, Rmdir, Rename, Opening, Read, Write, Statfs, Release, Fsync, Flush, Init, Opendir, Readdir, Releasedir, Fsyncdir, Create, Interrupt, Destroy, BatchForget, Rename2, Unknown}
use Rattle.fuse_requests.specs.Layout.{fields_text}
use Rattle.fuse_requests.specs.Text.{spelling, HasNames, IsWritable}
use Rattle.fuse_requests.proofs.FieldTexts.{fields_len, length-fields_text}

-- the longest fixed part is SETATTR's
fixed-le : (request : Request) → fields_len (spelling request).fixed ≤ 88
fixed-le (Lookup node name) = lit≤ tt
fixed-le (Forget node count) = lit≤ tt
fixed-le (Getattr node) = lit≤ tt
fixed-le (Setattr node valid size mtime nanos) = lit≤ tt
fixed-le (Readlink node) = lit≤ tt
fixed-le (Symlink node name target) = lit≤ tt
fixed-le (Mknod node mode name) = lit≤ tt
fixed-le (Mkdir node name) = lit≤ tt
fixed-le (Unlink node name) = lit≤ tt
fixed-le (Rmdir node name) = lit≤ tt
fixed-le (Rename node newdir name newname) = lit≤ tt
fixed-le (Opening node flags) = lit≤ tt
fixed-le (Read node fh first size) = lit≤ tt
fixed-le (Write node fh first content) = lit≤ tt
fixed-le Statfs = lit≤ tt
fixed-le (Release node fh) = lit≤ tt
fixed-le (Fsync node fh) = lit≤ tt
fixed-le (Flush node fh) = lit≤ tt
fixed-le (Init major minor readahead flags) = lit≤ tt
fixed-le (Opendir node) = lit≤ tt
fixed-le (Readdir node fh first size) = lit≤ tt
fixed-le (Releasedir node fh) = lit≤ tt
fixed-le (Fsyncdir node fh) = lit≤ tt
fixed-le (Create node name) = lit≤ tt
fixed-le Interrupt = lit≤ tt
fixed-le Destroy = lit≤ tt
fixed-le (BatchForget pairs) = lit≤ tt
fixed-le (Rename2 node newdir flags name newname) = lit≤ tt
fixed-le (Unknown opcode) = lit≤ tt

-- a request with such names, where at most 135,040 bytes stand behind its fixed part
pub writable : (request : Request) → HasNames request → length (spelling request).tail ≤ 135040 → IsWritable request
writable request named short = record {
  names = named;
  fits = omega (arith, fixed-le request, length-fields_text (spelling request).fixed, length-append (fields_text (spelling request).fixed) (spelling request).tail);
}
