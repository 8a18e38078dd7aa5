-- What is read back from texts.
use Rattle.std.proofs.Common.{◌≡◌, ◌≢◌, ◌<◌, ◌+◌, ◌*◌, ◌^◌, ℕ, zero, suc, List, [], ◌∷◌, ◌++◌, length, take, drop, get_or, Option, Some, None, false, refl, ap, sym, ◌∙◌, arith}
use Rattle.std.specs.Int.{div_ceil}
use Rattle.std.specs.Prelude.{IsTrue}
use Rattle.std.proofs.lemmas.List.{append-nil, append_assoc, length-append, drop_at, take-append-drop, take_at}
use Rattle.fuse_head.specs.Little.{u32_at, u32_bytes, u64_at, u64_bytes}
use Rattle.fuse_head.proofs.LittleLemmas.{length-u32_bytes, length-u64_bytes, u32_at-append_past, u32_at-bytes, u64_at-append_past, u64_at-bytes}
use Rattle.fuse_replies.specs.declared.reply.AttrOut.{AttrOut}
use Rattle.fuse_replies.specs.Layouts.{attr_text, entry_text, init_text, open_text, u16s, u32s, u64s, written_text}
use Rattle.fuse_replies.specs.Reading.{attr_at, created_text, node_text, IsCreated, Reads}
use Rattle.fuse_replies.specs.Replies.{IsAttr, IsEntry}
use Rattle.fuse_replies.proofs.TextLemmas.{length-entry_text, length-u32s, length-u64s}

-- one of several fields
pub u64_at-u64s : (fields rest : List ℕ) (k : ℕ) → k < length fields → get_or fields k 0 < 2 ^ 64 → u64_at (u64s fields ++ rest) (8 * k) ≡ get_or fields k 0
unfolding u64s
u64_at-u64s [] rest k here fits = absurd (omega arith)
u64_at-u64s (x ∷ xs) rest zero here fits =
    ap (λ (bytes : List ℕ). u64_at bytes 0) (append_assoc (u64_bytes x) (u64s xs) rest) ∙ u64_at-bytes x (u64s xs ++ rest) fits
u64_at-u64s (x ∷ xs) rest (suc k) here fits =
    let place : 8 * suc k ≡ length (u64_bytes x) + 8 * k = omega (arith, length-u64_bytes x) in
    ap (λ (bytes : List ℕ). u64_at bytes (8 * suc k)) (append_assoc (u64_bytes x) (u64s xs) rest)
    ∙ ap (u64_at (u64_bytes x ++ (u64s xs ++ rest))) place
    ∙ u64_at-append_past (u64_bytes x) (u64s xs ++ rest) (8 * k)
    ∙ u64_at-u64s xs rest k (omega arith) fits

pub u32_at-u32s : (fields rest : List ℕ) (k : ℕ) → k < length fields → get_or fields k 0 < 2 ^ 32 → u32_at (u32s fields ++ rest) (4 * k) ≡ get_or fields k 0
unfolding u32s
u32_at-u32s [] rest k here fits = absurd (omega arith)
u32_at-u32s (x ∷ xs) rest zero here fits =
    ap (λ (bytes : List ℕ). u32_at bytes 0) (append_assoc (u32_bytes x) (u32s xs) rest) ∙ u32_at-bytes x (u32s xs ++ rest) fits
u32_at-u32s (x ∷ xs) rest (suc k) here fits =
    let place : 4 * suc k ≡ length (u32_bytes x) + 4 * k = omega (arith, length-u32_bytes x) in
    ap (λ (bytes : List ℕ). u32_at bytes (4 * suc k)) (append_assoc (u32_bytes x) (u32s xs) rest)
    ∙ ap (u32_at (u32_bytes x ++ (u32s xs ++ rest))) place
    ∙ u32_at-append_past (u32_bytes x) (u32s xs ++ rest) (4 * k)
    ∙ u32_at-u32s xs rest k (omega arith) fits

-- the same where nothing follows
pub u32_at-all : (fields : List ℕ) (k : ℕ) → k < length fields → get_or fields k 0 < 2 ^ 32 → u32_at (u32s fields) (4 * k) ≡ get_or fields k 0
u32_at-all fields k here fits = ap (λ (bytes : List ℕ). u32_at bytes (4 * k)) (sym (append-nil (u32s fields))) ∙ u32_at-u32s fields [] k here fits

-- a field of four bytes behind fields of eight
pub u32_at-behind : (wide narrow : List ℕ) (place k : ℕ) → place ≡ 8 * length wide + 4 * k → k < length narrow → get_or narrow k 0 < 2 ^ 32
    → u32_at (u64s wide ++ u32s narrow) place ≡ get_or narrow k 0
u32_at-behind wide narrow place k at here fits =
    let behind : place ≡ length (u64s wide) + 4 * k = omega (arith, length-u64s wide) in
    ap (u32_at (u64s wide ++ u32s narrow)) behind ∙ u32_at-append_past (u64s wide) (u32s narrow) (4 * k) ∙ u32_at-all narrow k here fits

-- the two parts of a text
pub front_is : (bytes front back : List ℕ) (n : ℕ) → length front ≡ n → bytes ≡ front ++ back → take n bytes ≡ front
front_is bytes front back n long is = ap (take n) is ∙ take_at front back n long

pub back_is : (bytes front back : List ℕ) (n : ℕ) → length front ≡ n → bytes ≡ front ++ back → drop n bytes ≡ back
back_is bytes front back n long is = ap (drop n) is ∙ drop_at front back n long

-- the fields of an attr are read back from its text
pub attr_at-text : (a : AttrOut) → IsAttr a → attr_at (attr_text a) ≡ a
unfolding attr_text
attr_at-text a fits =
    let wide = a.ino ∷ a.size ∷ div_ceil a.size 512 ∷ a.mtime ∷ a.mtime ∷ a.mtime ∷ [] in
    let narrow = a.nanos ∷ a.nanos ∷ a.nanos ∷ a.mode ∷ a.nlink ∷ 0 ∷ 0 ∷ 0 ∷ 4096 ∷ 0 ∷ [] in
    let ino : u64_at (attr_text a) 0 ≡ a.ino = u64_at-u64s wide (u32s narrow) 0 (omega arith) fits.ino in
    let size : u64_at (attr_text a) 8 ≡ a.size = u64_at-u64s wide (u32s narrow) 1 (omega arith) fits.size in
    let mtime : u64_at (attr_text a) 32 ≡ a.mtime = u64_at-u64s wide (u32s narrow) 4 (omega arith) fits.mtime in
    let nanos : u32_at (attr_text a) 52 ≡ a.nanos = u32_at-behind wide narrow 52 1 (omega arith) (omega arith) fits.nanos in
    let mode : u32_at (attr_text a) 60 ≡ a.mode = u32_at-behind wide narrow 60 3 (omega arith) (omega arith) fits.mode in
    let nlink : u32_at (attr_text a) 64 ≡ a.nlink = u32_at-behind wide narrow 64 4 (omega arith) (omega arith) fits.nlink in
    rw (ino, size, mtime, nanos, mode, nlink) refl

-- what a reader answers where no value's text are the bytes
pub reads_none : {A : Type 0} (text : A → List ℕ) (fits : A → Type 0) (bytes : List ℕ) → ((x : A) → fits x → bytes ≢ text x) → Reads text fits bytes None
reads_none text fits bytes none = record { found = tt; again = λ x x_fits is. absurd (none x x_fits is) }

-- what a reader answers that reads the fields and tests whether the bytes are the text of what they tell
pub reads_some : {A : Type 0} (text : A → List ℕ) (fits : A → Type 0) (at : List ℕ → A) (bytes : List ℕ) (x : A)
    → ((y : A) → fits y → at (text y) ≡ y) → x ≡ at bytes → fits x → bytes ≡ text x → Reads text fits bytes (Some x)
reads_some text fits at bytes x back x-is x_fits is = record {
  found = (is, x_fits);
  again = λ y y_fits y_is. ap Some (x-is ∙ ap at y_is ∙ back y y_fits);
}

pub reads_other : {A : Type 0} (text : A → List ℕ) (fits : A → Type 0) (at : List ℕ → A) (bytes : List ℕ) (x : A)
    → ((y : A) → fits y → at (text y) ≡ y) → x ≡ at bytes → bytes ≢ text x → Reads text fits bytes None
reads_other text fits at bytes x back x-is other =
    reads_none text fits bytes (λ y y_fits y_is. other (y_is ∙ ap text (sym (x-is ∙ ap at y_is ∙ back y y_fits))))

pub untrue : IsTrue false → ⊥
untrue wrong = absurd cc

-- the handle of an open file
pub fh_at-text : (fh : ℕ) → fh < 2 ^ 64 → u64_at (open_text fh) 0 ≡ fh
unfolding open_text
fh_at-text fh fits = u64_at-u64s (fh ∷ []) (u32s (0 ∷ 0 ∷ [])) 0 (omega arith) fits

-- the size of a write
pub size_at-text : (size : ℕ) → size < 2 ^ 32 → u32_at (written_text size) 0 ≡ size
unfolding written_text
size_at-text size fits = u32_at-all (size ∷ 0 ∷ []) 0 (omega arith) fits

-- the numbers of an init
pub init_at-text : (x : ℕ × ℕ) → (x.0 < 2 ^ 32) × (x.1 < 2 ^ 32) → (u32_at (init_text x.0 x.1) 8, u32_at (init_text x.0 x.1) 12) ≡ x
unfolding init_text
init_at-text x fits =
    let fields = 7 ∷ 31 ∷ x.0 ∷ x.1 ∷ [] in
    let rest = u16s (12 ∷ 9 ∷ []) ++ (u32s (131072 ∷ 1 ∷ []) ++ (u16s (0 ∷ 0 ∷ []) ++ u32s (0 ∷ 0 ∷ 0 ∷ 0 ∷ 0 ∷ 0 ∷ 0 ∷ 0 ∷ []))) in
    let split : init_text x.0 x.1 ≡ u32s fields ++ rest = simp append_assoc in
    let readahead : u32_at (init_text x.0 x.1) 8 ≡ x.0 = ap (λ (bytes : List ℕ). u32_at bytes 8) split ∙ u32_at-u32s fields rest 2 (omega arith) fits.0 in
    let flags : u32_at (init_text x.0 x.1) 12 ≡ x.1 = ap (λ (bytes : List ℕ). u32_at bytes 12) split ∙ u32_at-u32s fields rest 3 (omega arith) fits.1 in
    rw (readahead, flags) refl

-- the node at the front of an entry
pub node_at-text : (node : ℕ) → node < 2 ^ 64 → u64_at (node_text node) 0 ≡ node
node_at-text node fits = u64_at-u64s (node ∷ 0 ∷ 0 ∷ 0 ∷ []) (u32s (0 ∷ 0 ∷ [])) 0 (omega arith) fits

pub length-node_text : (node : ℕ) → length (node_text node) ≡ 40
length-node_text node = simp (length-append, length-u32s, length-u64s)

-- a text of two parts, the first of one length
pub record IsJoined {A B C : Type 0} (text : C → List ℕ) (fits : C → Type 0) (first : A → List ℕ) (first_fits : A → Type 0) (second : B → List ℕ) (second_fits : B → Type 0) (left : C → A) (right : C → B) (n : ℕ) : Type 0 where
  pub split : (z : C) → text z ≡ first (left z) ++ second (right z)
  pub long : (x : A) → length (first x) ≡ n
  pub left_fits : (z : C) → fits z → first_fits (left z)
  pub right_fits : (z : C) → fits z → second_fits (right z)
  pub fit : (z : C) → first_fits (left z) → second_fits (right z) → fits z
  pub same : (w z : C) → left w ≡ left z → right w ≡ right z → w ≡ z

pub reads_first_none : {A B C : Type 0} (text : C → List ℕ) (fits : C → Type 0) (first : A → List ℕ) (first_fits : A → Type 0) (second : B → List ℕ) (second_fits : B → Type 0) (left : C → A) (right : C → B) (n : ℕ)
    → IsJoined text fits first first_fits second second_fits left right n → (bytes front : List ℕ) → front ≡ take n bytes → Reads first first_fits front None → Reads text fits bytes None
reads_first_none text fits first first_fits second second_fits left right n joined bytes front front-is none =
    reads_none text fits bytes (λ z z_fits z_is. absurd (let back = none.again (left z) (joined.left_fits z z_fits) (front-is ∙ front_is bytes (first (left z)) (second (right z)) n (joined.long (left z)) (z_is ∙ joined.split z)) in cc))

pub reads_second_none : {A B C : Type 0} (text : C → List ℕ) (fits : C → Type 0) (first : A → List ℕ) (first_fits : A → Type 0) (second : B → List ℕ) (second_fits : B → Type 0) (left : C → A) (right : C → B) (n : ℕ)
    → IsJoined text fits first first_fits second second_fits left right n → (bytes back : List ℕ) → back ≡ drop n bytes → Reads second second_fits back None → Reads text fits bytes None
reads_second_none text fits first first_fits second second_fits left right n joined bytes back back-is none =
    reads_none text fits bytes (λ z z_fits z_is. absurd (let again = none.again (right z) (joined.right_fits z z_fits) (back-is ∙ back_is bytes (first (left z)) (second (right z)) n (joined.long (left z)) (z_is ∙ joined.split z)) in cc))

pub reads_both : {A B C : Type 0} (text : C → List ℕ) (fits : C → Type 0) (first : A → List ℕ) (first_fits : A → Type 0) (second : B → List ℕ) (second_fits : B → Type 0) (left : C → A) (right : C → B) (n : ℕ)
    → IsJoined text fits first first_fits second second_fits left right n → (bytes front back : List ℕ) → front ≡ take n bytes → back ≡ drop n bytes
    → (z : C) → Reads first first_fits front (Some (left z)) → Reads second second_fits back (Some (right z)) → Reads text fits bytes (Some z)
reads_both text fits first first_fits second second_fits left right n joined bytes front back front-is back-is z one two = record {
  found = (sym (take-append-drop n bytes) ∙ ap (λ (xs : List ℕ). xs ++ drop n bytes) (sym front-is ∙ one.found.0) ∙ ap (λ (xs : List ℕ). first (left z) ++ xs) (sym back-is ∙ two.found.0) ∙ sym (joined.split z), joined.fit z one.found.1 two.found.1);
  again = λ w w_fits w_is.
      let whole : bytes ≡ first (left w) ++ second (right w) = w_is ∙ joined.split w in
      let l : Some (left z) ≡ Some (left w) = one.again (left w) (joined.left_fits w w_fits) (front-is ∙ front_is bytes (first (left w)) (second (right w)) n (joined.long (left w)) whole) in
      let r : Some (right z) ≡ Some (right w) = two.again (right w) (joined.right_fits w w_fits) (back-is ∙ back_is bytes (first (left w)) (second (right w)) n (joined.long (left w)) whole) in
      let l_is : left z ≡ left w = cc in
      let r_is : right z ≡ right w = cc in
      ap Some (joined.same z w l_is r_is);
}

pub entry_joined : IsJoined entry_text IsEntry node_text (λ node. node < 2 ^ 64) attr_text IsAttr (λ e. e.node) (λ e. e.attr) 40
unfolding entry_text
entry_joined = record {
  split = λ e. refl;
  long = length-node_text;
  left_fits = λ e fits. fits.node;
  right_fits = λ e fits. fits.attr;
  fit = λ e node attr. record { node = node; attr = attr };
  same = λ w z l r. rw (l, r) refl;
}

pub created_joined : IsJoined created_text IsCreated entry_text IsEntry open_text (λ fh. fh < 2 ^ 64) (λ x. x.0) (λ x. x.1) 128
created_joined = record {
  split = λ x. refl;
  long = length-entry_text;
  left_fits = λ x fits. fits.0;
  right_fits = λ x fits. fits.1;
  fit = λ x entry fh. (entry, fh);
  same = λ w z l r. rw (l, r) refl;
}

-- a text behind the same bytes for all
pub reads_not_behind : {A : Type 0} (text second : A → List ℕ) (fits : A → Type 0) (fixed : List ℕ) → ((x : A) → text x ≡ fixed ++ second x)
    → (bytes front : List ℕ) → front ≡ take (length fixed) bytes → front ≢ fixed → Reads text fits bytes None
reads_not_behind text second fits fixed split bytes front front-is other =
    reads_none text fits bytes (λ x x_fits x_is. other (front-is ∙ front_is bytes fixed (second x) (length fixed) refl (x_is ∙ split x)))

pub reads_behind : {A : Type 0} (text second : A → List ℕ) (fits : A → Type 0) (fixed : List ℕ) → ((x : A) → text x ≡ fixed ++ second x)
    → (bytes front back : List ℕ) → front ≡ take (length fixed) bytes → back ≡ drop (length fixed) bytes → front ≡ fixed
    → (result : Option A) → Reads second fits back result → Reads text fits bytes result
reads_behind text second fits fixed split bytes front back front-is back-is is None none =
    reads_none text fits bytes (λ x x_fits x_is. absurd (let again = none.again x x_fits (back-is ∙ back_is bytes fixed (second x) (length fixed) refl (x_is ∙ split x)) in cc))
reads_behind text second fits fixed split bytes front back front-is back-is is (Some x) found = record {
  found = (sym (take-append-drop (length fixed) bytes) ∙ ap (λ (xs : List ℕ). xs ++ drop (length fixed) bytes) (sym front-is ∙ is) ∙ ap (λ (xs : List ℕ). fixed ++ xs) (sym back-is ∙ found.found.0) ∙ sym (split x), found.found.1);
  again = λ y y_fits y_is. found.again y y_fits (back-is ∙ back_is bytes fixed (second y) (length fixed) refl (y_is ∙ split y));
}
