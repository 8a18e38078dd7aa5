-- How long the texts are.
use Rattle.std.proofs.Common.{◌≡◌, ◌≤◌, ◌<◌, ◌+◌, ◌*◌, ℕ, List, [], ◌∷◌, length, take, drop, get_or, ap, sym, ◌∙◌, arith}
use Rattle.std.specs.List.{flat_map}
use Rattle.std.proofs.lemmas.List.{length-append, length-replicate, take-append-drop, take_more}
use Rattle.std.proofs.lemmas.List.Concat.{flat_map-append, flat_map-cons}
use Rattle.fuse_head.specs.Little.{u16_bytes, u32_bytes, u64_bytes}
use Rattle.fuse_head.proofs.LittleLemmas.{length-u16_bytes, length-u32_bytes, length-u64_bytes}
use Rattle.fuse_replies.specs.declared.reply.AttrOut.{AttrOut}
use Rattle.fuse_replies.specs.declared.reply.EntryOut.{EntryOut}
use Rattle.fuse_replies.specs.declared.reply.Dirent.{Dirent}
use Rattle.fuse_replies.specs.Layouts.{attr_out_text, attr_text, dirent_text, dirents_text, entry_text, init_text, open_text, padding_of, statfs_text, u16s, u32s, u64s, waits_text, written_text}

-- pieces of one length, one after the other
length-pieces : (f : ℕ → List ℕ) (n : ℕ) → ((x : ℕ) → length (f x) ≡ n) → (xs : List ℕ) → length (flat_map f xs) ≡ n * length xs
length-pieces f n long [] = omega arith
length-pieces f n long (x ∷ xs) =
    let rest : length (flat_map f xs) ≡ n * length xs = length-pieces f n long xs in
    let more : n * length (x ∷ xs) ≡ n + n * length xs = grind arith in
    omega (arith, length-append (f x) (flat_map f xs), long x, rest, more)

pub length-u16s : (fields : List ℕ) → length (u16s fields) ≡ 2 * length fields
unfolding u16s
length-u16s fields = length-pieces u16_bytes 2 length-u16_bytes fields

pub length-u32s : (fields : List ℕ) → length (u32s fields) ≡ 4 * length fields
unfolding u32s
length-u32s fields = length-pieces u32_bytes 4 length-u32_bytes fields

pub length-u64s : (fields : List ℕ) → length (u64s fields) ≡ 8 * length fields
unfolding u64s
length-u64s fields = length-pieces u64_bytes 8 length-u64_bytes fields

-- the lengths of texts that are made of fields
ruleset long = (length-append, length-u16s, length-u32s, length-u64s, length-replicate)

pub length-attr_text : (a : AttrOut) → length (attr_text a) ≡ 88
unfolding attr_text
length-attr_text a = simp long

pub length-entry_text : (e : EntryOut) → length (entry_text e) ≡ 128
unfolding entry_text
length-entry_text e = simp (long, length-attr_text)

pub length-attr_out_text : (a : AttrOut) → length (attr_out_text a) ≡ 104
unfolding attr_out_text
length-attr_out_text a = simp (long, length-attr_text)

pub length-open_text : (fh : ℕ) → length (open_text fh) ≡ 16
unfolding open_text
length-open_text fh = simp long

pub length-written_text : (size : ℕ) → length (written_text size) ≡ 8
unfolding written_text
length-written_text size = simp long

pub length-statfs_text : length statfs_text ≡ 80
unfolding statfs_text
length-statfs_text = simp long

pub length-init_text : (readahead flags : ℕ) → length (init_text readahead flags) ≡ 64
unfolding init_text
length-init_text readahead flags = simp long

pub length-waits_text : length waits_text ≡ 64
unfolding waits_text
length-waits_text = simp long

pub length-dirent_text : (d : Dirent) → length (dirent_text d) ≡ 24 + length d.name + padding_of (length d.name)
unfolding dirent_text
length-dirent_text d = simp long

-- one dirent more
pub length-dirents_more : (ds : List Dirent) (i : ℕ) (d : Dirent) → i < length ds → length (dirents_text (take (i + 1) ds)) ≡ length (dirents_text (take i ds)) + length (dirent_text (get_or ds i d))
unfolding dirents_text
length-dirents_more ds i d here =
    rw (take_more ds i d here, flat_map-append dirent_text (take i ds) (get_or ds i d ∷ []), length-append, flat_map-cons, length-append) (omega arith)

-- a dirent, with those before it, is no longer than all of them
pub dirent_within : (ds : List Dirent) (i : ℕ) (d : Dirent) → i < length ds → length (dirents_text (take i ds)) + length (dirent_text (get_or ds i d)) ≤ length (dirents_text ds)
unfolding dirents_text
dirent_within ds i d here =
    let f = dirent_text in
    let whole : length (flat_map f ds) ≡ length (flat_map f (take (i + 1) ds)) + length (flat_map f (drop (i + 1) ds)) =
    ap (λ (xs : List Dirent). length (flat_map f xs)) (sym (take-append-drop (i + 1) ds)) ∙ ap length (flat_map-append f (take (i + 1) ds) (drop (i + 1) ds)) ∙ length-append (flat_map f (take (i + 1) ds)) (flat_map f (drop (i + 1) ds)) in
    omega (arith, length-dirents_more ds i d here, whole)

pub ruleset dirent_lengths = (length-dirent_text)
