-- The opcodes of enum fuse_opcode in Linux fuse.h 7.31 whose bodies are read.
use Rattle.std.specs.Prelude.{ℕ}

abbrev pub lookup : ℕ
lookup = 1

abbrev pub forget : ℕ
forget = 2

abbrev pub getattr : ℕ
getattr = 3

abbrev pub setattr : ℕ
setattr = 4

abbrev pub readlink : ℕ
readlink = 5

abbrev pub symlink : ℕ
symlink = 6

abbrev pub mknod : ℕ
mknod = 8

abbrev pub mkdir : ℕ
mkdir = 9

abbrev pub unlink : ℕ
unlink = 10

abbrev pub rmdir : ℕ
rmdir = 11

abbrev pub rename : ℕ
rename = 12

abbrev pub opening : ℕ
opening = 14

abbrev pub reading : ℕ
reading = 15

abbrev pub writing : ℕ
writing = 16

abbrev pub statfs : ℕ
statfs = 17

abbrev pub release : ℕ
release = 18

abbrev pub fsync : ℕ
fsync = 20

abbrev pub flush : ℕ
flush = 25

abbrev pub init : ℕ
init = 26

abbrev pub opendir : ℕ
opendir = 27

abbrev pub readdir : ℕ
readdir = 28

abbrev pub releasedir : ℕ
releasedir = 29

abbrev pub fsyncdir : ℕ
fsyncdir = 30

abbrev pub create : ℕ
create = 35

abbrev pub interrupt : ℕ
interrupt = 36

abbrev pub destroy : ℕ
destroy = 38

abbrev pub batch_forget : ℕ
batch_forget = 42

abbrev pub rename2 : ℕ
rename2 = 45
