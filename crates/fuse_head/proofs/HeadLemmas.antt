-- Laws of the heads, for callers: how long their texts are, and what is read back from them.
use Rattle.std.proofs.Common.{◌≡◌, ◌<◌, ◌^◌, ◌-◌, ℕ, List, [], ◌++◌, length, refl, ap, ◌∙◌, lit<}
use Rattle.std.proofs.Math.Nat.{mod-lt}
use Rattle.std.proofs.lemmas.List.{append_assoc, length-append}
use Rattle.fuse_head.specs.declared.in_head.InHead.{InHead}
use Rattle.fuse_head.specs.Head.{in_head, in_head_text, IsHead, negated, out_head}
use Rattle.fuse_head.specs.Little.{u32_at, u32_bytes, u64_at, u64_bytes}
use Rattle.fuse_head.proofs.LittleLemmas.{length-u32_bytes, length-u64_bytes, u32_at-bytes, u32_at-field, u64_at-field}

-- the lengths of texts that are made of fields
ruleset long = (length-append, length-u32_bytes, length-u64_bytes)

pub length-out_head : (len errno unique : ℕ) → length (out_head len errno unique) ≡ 16
length-out_head len errno unique =
    simp long

pub length-in_head_text : (head : InHead) → length (in_head_text head) ≡ 40
length-in_head_text head =
    simp long

-- a reply's head is read back field by field
pub len-out_head : (len errno unique : ℕ) (rest : List ℕ) → len < 2 ^ 32 → u32_at (out_head len errno unique ++ rest) 0 ≡ len
len-out_head len errno unique rest fits =
    let split : out_head len errno unique ++ rest ≡ u32_bytes len ++ (u32_bytes (negated errno) ++ u64_bytes unique ++ rest) = simp append_assoc in
    ap (λ (bytes : List ℕ). u32_at bytes 0) split ∙ u32_at-bytes len (u32_bytes (negated errno) ++ u64_bytes unique ++ rest) fits

pub error-out_head : (len errno unique : ℕ) (rest : List ℕ) → u32_at (out_head len errno unique ++ rest) 4 ≡ negated errno
error-out_head len errno unique rest =
    let split : out_head len errno unique ++ rest ≡ u32_bytes len ++ (u32_bytes (negated errno) ++ (u64_bytes unique ++ rest)) = simp append_assoc in
    ap (λ (bytes : List ℕ). u32_at bytes 4) split
    ∙ u32_at-field (u32_bytes len) (u64_bytes unique ++ rest) (negated errno) 4 (length-u32_bytes len) (mod-lt (2 ^ 32 - errno) (lit< tt))

pub unique-out_head : (len errno unique : ℕ) (rest : List ℕ) → unique < 2 ^ 64 → u64_at (out_head len errno unique ++ rest) 8 ≡ unique
unique-out_head len errno unique rest fits =
    let split : out_head len errno unique ++ rest ≡ u32_bytes len ++ u32_bytes (negated errno) ++ (u64_bytes unique ++ rest) = simp append_assoc in
    ap (λ (bytes : List ℕ). u64_at bytes 8) split
    ∙ u64_at-field (u32_bytes len ++ u32_bytes (negated errno)) rest unique 8 (simp long) fits

-- a field of a request's head is read back: the fields before it, it, and what follows
u32_read : (head : InHead) (rest before after : List ℕ) (n place : ℕ) → in_head_text head ++ rest ≡ before ++ (u32_bytes n ++ after) → length before ≡ place
    → n < 2 ^ 32 → u32_at (in_head_text head ++ rest) place ≡ n
u32_read head rest before after n place split here fits =
    ap (λ (bytes : List ℕ). u32_at bytes place) split ∙ u32_at-field before after n place here fits

u64_read : (head : InHead) (rest before after : List ℕ) (n place : ℕ) → in_head_text head ++ rest ≡ before ++ (u64_bytes n ++ after) → length before ≡ place
    → n < 2 ^ 64 → u64_at (in_head_text head ++ rest) place ≡ n
u64_read head rest before after n place split here fits =
    ap (λ (bytes : List ℕ). u64_at bytes place) split ∙ u64_at-field before after n place here fits

-- a request's head is read back from its text
pub in_head-text : (head : InHead) (rest : List ℕ) → IsHead head → in_head (in_head_text head ++ rest) ≡ head
in_head-text head rest fits =
    let a = u32_bytes head.len in
    let b = u32_bytes head.opcode in
    let c = u64_bytes head.unique in
    let d = u64_bytes head.node in
    let e = u32_bytes head.uid in
    let f = u32_bytes head.gid in
    let g = u32_bytes head.pid in
    let z = u32_bytes 0 ++ rest in
    let len = u32_read head rest [] (b ++ c ++ d ++ e ++ f ++ g ++ z) head.len 0 (simp append_assoc) refl fits.len in
    let opcode = u32_read head rest a (c ++ d ++ e ++ f ++ g ++ z) head.opcode 4 (simp append_assoc) (simp long) fits.opcode in
    let unique = u64_read head rest (a ++ b) (d ++ e ++ f ++ g ++ z) head.unique 8 (simp append_assoc) (simp long) fits.unique in
    let node = u64_read head rest (a ++ b ++ c) (e ++ f ++ g ++ z) head.node 16 (simp append_assoc) (simp long) fits.node in
    let uid = u32_read head rest (a ++ b ++ c ++ d) (f ++ g ++ z) head.uid 24 (simp append_assoc) (simp long) fits.uid in
    let gid = u32_read head rest (a ++ b ++ c ++ d ++ e) (g ++ z) head.gid 28 (simp append_assoc) (simp long) fits.gid in
    let pid = u32_read head rest (a ++ b ++ c ++ d ++ e ++ f) z head.pid 32 (simp append_assoc) (simp long) fits.pid in
    rw (len, opcode, unique, node, uid, gid, pid) refl
