-- READDIR: entries of an open directory, from a position on, as many whole ones as fit (fuse.h: `struct fuse_dirent`). A
-- position is an entry's place among the handle's entries, from 0, and an entry's `off` is the position behind it.
use Rattle.std.specs.Prelude.{ℕ, ◌+◌, ◌-◌, [], ◌∷◌, drop, option_and_then, List, Option, None, nat_le, if◌then◌else◌}
use Rattle.std.specs.Option.{option_map_or}
use Rattle.fuse_replies.specs.declared.reply.Dirent.{Dirent}
use Rattle.fuse_replies.specs.declared.reply.Reply.{Reply}
use Rattle.fuse_replies.specs.declared.reply.Reply.TheVariants.{Dirents}
use Rattle.fuse_replies.specs.Layouts.{dirent_len}
use Rattle.object_names.specs.declared.shown.DirItem.{DirItem}
use Rattle.object_names.specs.declared.shown.NodeKind.{NodeKind}
use Rattle.object_names.specs.declared.shown.NodeKind.TheVariants.{Dir, File, Symlink}
use Rattle.mount_rules.specs.Claiming.{shares_node}
use Rattle.mount_rules.specs.Guards.{entries_opened, on_open_directory, size_refusal}
use Rattle.mount_rules.specs.Plans.{done}
use Rattle.mount_rules.specs.Rules.{Rules, at_handle}
use Rattle.mount_rules.specs.View.{View}

abbrev pub refusal : ℕ → ℕ → View → Option ℕ
refusal node size view = on_open_directory node view.handle (λ entries. size_refusal size)

-- the type of a directory entry: DT_DIR, DT_REG and DT_LNK of dirent.h
abbrev pub type_of : NodeKind → ℕ
type_of Dir = 4
type_of File = 8
type_of Symlink = 10

abbrev pub dirent_at : ℕ → DirItem → Dirent
dirent_at position entry = record { off = position + 1; kind = type_of entry.kind; name = entry.shown }

-- entries from a position on, as many whole ones as fit into so many bytes
abbrev pub fitting : ℕ → ℕ → List DirItem → List Dirent
fitting position room [] = []
fitting position room (entry ∷ more) =
    if nat_le (dirent_len entry.shown) room
    then dirent_at position entry ∷ fitting (position + 1) (room - dirent_len entry.shown) more
    else []

-- the entries of a handle; none where it is not an open directory
abbrev pub entries_of : ℕ → View → List DirItem
entries_of node view = option_map_or (λ items. items) (option_and_then (entries_opened node) view.handle) []

abbrev pub reply : ℕ → ℕ → List DirItem → Reply
reply first size entries = Dirents (record { items = fitting first size (drop first entries); spare = 0 })

abbrev pub rules : ℕ → ℕ → ℕ → ℕ → Rules
rules node fh first size = record {
  looks = at_handle node fh;
  refusal = refusal node size;
  plan = λ taken answers. done;
  wants = λ view. None;
  claims = λ view. shares_node node ∷ [];
  keys = λ view. [];
  reply = λ taken mount seen. reply first size (entries_of node taken.view);
  after = λ taken mount seen. mount;
}
