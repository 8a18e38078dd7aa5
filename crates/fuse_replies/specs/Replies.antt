-- What replies are, and the one text of each.
use Rattle.std.specs.Prelude.{◌≡◌, ◌≤◌, ◌<◌, ◌+◌, ◌^◌, ℕ, true, false, IsTrue, List, [], ◌++◌, length, All, Result, Ok, Err}
use Rattle.std.specs.Str.{IsUtf8}
use Rattle.fuse_head.specs.Head.{out_head}
use Rattle.fuse_replies.specs.declared.fault.ReplyFault.{ReplyFault}
use Rattle.fuse_replies.specs.declared.fault.ReplyFault.TheVariants as faults
use Rattle.fuse_replies.specs.declared.reply.AttrOut.{AttrOut}
use Rattle.fuse_replies.specs.declared.reply.EntryOut.{EntryOut}
use Rattle.fuse_replies.specs.declared.reply.Dirent.{Dirent}
use Rattle.fuse_replies.specs.declared.reply.Reply.{Reply}
use Rattle.fuse_replies.specs.declared.reply.Reply.TheVariants.{Error, Entry, Attr, Created, Opened, Content, Target, Written, Stat, Dirents, InitDone, Empty, Silent}
use Rattle.fuse_replies.specs.declared.reply.ReplyKind.{ReplyKind}
use Rattle.fuse_replies.specs.declared.reply.ReplyKind.TheVariants as kinds
use Rattle.fuse_replies.specs.Layouts.{attr_out_text, dirents_text, entry_text, init_text, open_text, statfs_text, waits_text, written_text}

-- a reply without the room that its row has beyond its items
abbrev pub without_spare : Reply → Reply
without_spare (Dirents row) = Dirents (record { items = row.items; spare = 0 })
without_spare reply = reply

-- the bytes after the head
unfoldable pub body_of : Reply → List ℕ
body_of (Error errno) = []
body_of (Entry entry) = entry_text entry
body_of (Attr attr) = attr_out_text attr
body_of (Created entry fh) = entry_text entry ++ open_text fh
body_of (Opened fh) = open_text fh
body_of (Content bytes) = bytes
body_of (Target bytes) = bytes
body_of (Written size) = written_text size
body_of Stat = statfs_text
body_of (Dirents row) = dirents_text row.items
body_of (InitDone readahead flags true) = waits_text
body_of (InitDone readahead flags false) = init_text readahead flags
body_of Empty = []
body_of Silent = []

-- the error in the head: the errno, or 0
abbrev pub errno_of : Reply → ℕ
errno_of (Error errno) = errno
errno_of reply = 0

-- The text of a reply: the head with the length of the whole, the error and the request's unique, and the body;
-- nothing for `Silent`
unfoldable pub frame_of : ℕ → Reply → List ℕ
frame_of unique Silent = []
frame_of unique reply = out_head (16 + length (body_of reply)) (errno_of reply) unique ++ body_of reply

-- A reply can be sent: an errno is one of Linux's, 1 to 511; an `InitDone` that waits has no numbers; and the
-- length of the frame fits its 32 bits, which only a payload can pass.
abbrev pub IsSendable : Reply → Type 0
IsSendable (Error errno) = (1 ≤ errno) × (errno ≤ 511)
IsSendable (Content bytes) = 16 + length bytes ≤ 4294967295
IsSendable (Target bytes) = 16 + length bytes ≤ 4294967295
IsSendable (Dirents row) = 16 + length (dirents_text row.items) ≤ 4294967295
IsSendable (InitDone readahead flags waits) = IsTrue waits → (readahead ≡ 0) × (flags ≡ 0)
IsSendable reply = Unit {0}

-- the fields of an attr lie in the ranges of their types
pub record IsAttr (a : AttrOut) : Type 0 where
  pub ino : a.ino < 2 ^ 64
  pub size : a.size < 2 ^ 64
  pub mtime : a.mtime < 2 ^ 64
  pub nanos : a.nanos < 2 ^ 32
  pub mode : a.mode < 2 ^ 32
  pub nlink : a.nlink < 2 ^ 32

pub record IsEntry (e : EntryOut) : Type 0 where
  pub node : e.node < 2 ^ 64
  pub attr : IsAttr e.attr

-- the same of a dirent and of its name's length, and the name is UTF-8
pub record IsDirent (d : Dirent) : Type 0 where
  pub off : d.off < 2 ^ 64
  pub namelen : length d.name < 2 ^ 32
  pub kind : d.kind < 2 ^ 32
  pub name : IsUtf8 d.name

-- all numbers of a reply lie in the ranges of their types, and names of dirents are UTF-8
abbrev pub IsInRange : Reply → Type 0
IsInRange (Entry entry) = IsEntry entry
IsInRange (Attr attr) = IsAttr attr
IsInRange (Created entry fh) = IsEntry entry × (fh < 2 ^ 64)
IsInRange (Opened fh) = fh < 2 ^ 64
IsInRange (Written size) = size < 2 ^ 32
IsInRange (Dirents row) = All IsDirent row.items
IsInRange (InitDone readahead flags waits) = (readahead < 2 ^ 32) × (flags < 2 ^ 32)
IsInRange reply = Unit {0}

-- a well-formed reply
pub record IsReply (reply : Reply) : Type 0 where
  pub sendable : IsSendable reply
  pub in_range : IsInRange reply

-- the reply answers a request whose replies are of this kind: an error answers every request
abbrev pub IsOfKind : ReplyKind → Reply → Type 0
IsOfKind kind (Error errno) = Unit {0}
IsOfKind kind (Entry entry) = kind ≡ kinds.Entry
IsOfKind kind (Attr attr) = kind ≡ kinds.Attr
IsOfKind kind (Created entry fh) = kind ≡ kinds.Created
IsOfKind kind (Opened fh) = kind ≡ kinds.Opened
IsOfKind kind (Content bytes) = kind ≡ kinds.Content
IsOfKind kind (Target bytes) = kind ≡ kinds.Target
IsOfKind kind (Written size) = kind ≡ kinds.Written
IsOfKind kind Stat = kind ≡ kinds.Stat
IsOfKind kind (Dirents row) = kind ≡ kinds.Dirents
IsOfKind kind (InitDone readahead flags waits) = kind ≡ kinds.InitDone
IsOfKind kind Empty = kind ≡ kinds.Empty
IsOfKind kind Silent = ⊥

-- the replies of this kind hold bytes or entries, which are values of their own
abbrev pub HasPayload : ReplyKind → Type 0
HasPayload kinds.Content = Unit {0}
HasPayload kinds.Target = Unit {0}
HasPayload kinds.Dirents = Unit {0}
HasPayload kind = ⊥

-- the bytes are the frame of a well-formed reply, with this unique, to a request of this kind
pub record IsFrame (kind : ReplyKind) (unique : ℕ) (reply : Reply) (bytes : List ℕ) : Type 0 where
  pub unique_fits : unique < 2 ^ 64
  pub reply_fits : IsReply reply
  pub answers : IsOfKind kind reply
  pub text : bytes ≡ frame_of unique reply

-- what was read is this unique and this reply, unless memory was refused
abbrev pub ReadsBack : ℕ → Reply → Result (ℕ × Reply) ReplyFault → Type 0
ReadsBack unique reply (Ok read) = (read.0 ≡ unique) × (without_spare read.1 ≡ without_spare reply)
ReadsBack unique reply (Err fault) = fault ≡ faults.NoMemory
