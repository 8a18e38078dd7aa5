-- Laws of the text of a whole frame: its length is told at its front, and its head is read back.
use Rattle.std.proofs.Common.{◌≡◌, ◌+◌, ◌<◌, ◌^◌, ℕ, List, ◌++◌, length, drop, ap, sym, ◌∙◌, append_assoc, arith, lit<}
use Rattle.std.proofs.lemmas.List.{drop_at, length-append}
use Rattle.fuse_head.specs.declared.in_head.InHead.{InHead}
use Rattle.fuse_head.specs.Head.{in_head, in_head_text, IsHead, IsWholeFrame}
use Rattle.fuse_head.specs.Little.{u32_at, u32_bytes, u64_at, u64_bytes}
use Rattle.fuse_head.proofs.LittleLemmas.{length-u32_bytes, u32_at-bytes}
use Rattle.fuse_head.proofs.HeadLemmas.{in_head-text, length-in_head_text}
use Rattle.fuse_requests.specs.declared.request.Request.{Request}
use Rattle.fuse_requests.specs.Grammar.{layout_of, read_as, read_frame}
use Rattle.fuse_requests.specs.Text.{body_text, head_of, request_text, spelling, InRange, IsWritable}

-- what stands behind the length
after_len : ℕ → Request → List ℕ
after_len unique request =
    u32_bytes (spelling request).opcode ++ (u64_bytes unique ++ (u64_bytes (spelling request).node ++ (u32_bytes 0 ++ (u32_bytes 0 ++ (u32_bytes 0 ++ (u32_bytes 0 ++ body_text request))))))

-- the length stands at the front
len_first : (len unique : ℕ) (request : Request) → in_head_text (head_of len unique request) ++ body_text request ≡ u32_bytes len ++ after_len unique request
unfolding after_len
len_first len unique request =
    regroup (u32_bytes len) (u32_bytes (spelling request).opcode) (u64_bytes unique) (u64_bytes (spelling request).node) (u32_bytes 0) (u32_bytes 0) (u32_bytes 0) (u32_bytes 0) (body_text request)
  where
    regroup : (a b c d e f g h body : List ℕ) → ((((((((a ++ b) ++ c) ++ d) ++ e) ++ f) ++ g) ++ h) ++ body) ≡ a ++ (b ++ (c ++ (d ++ (e ++ (f ++ (g ++ (h ++ body)))))))
    regroup a b c d e f g h body = simp append_assoc

pub length-parts : (unique : ℕ) (request : Request) (frame : List ℕ) → frame ≡ in_head_text (head_of 0 unique request) ++ body_text request
    → length frame ≡ 40 + length (body_text request)
length-parts unique request frame is =
    ap length is ∙ length-append (in_head_text (head_of 0 unique request)) (body_text request) ∙ ap (λ (n : ℕ). n + length (body_text request)) (length-in_head_text (head_of 0 unique request))

-- a frame whose length was written last has the request's text
pub told_len : (unique : ℕ) (request : Request) (frame : List ℕ) → frame ≡ in_head_text (head_of 0 unique request) ++ body_text request
    → u32_bytes (length frame) ++ drop 4 frame ≡ request_text unique request
unfolding request_text
told_len unique request frame is =
    let long = length-parts unique request frame is in
    let behind : drop 4 frame ≡ after_len unique request =
    ap (drop 4) (is ∙ len_first 0 unique request) ∙ drop_at (u32_bytes 0) (after_len unique request) 4 (length-u32_bytes 0) in
    rw (long, behind) (sym (len_first (40 + length (body_text request)) unique request))

pub length-request_text : (unique : ℕ) (request : Request) → length (request_text unique request) ≡ 40 + length (body_text request)
unfolding request_text
length-request_text unique request =
    length-append (in_head_text (head_of (40 + length (body_text request)) unique request)) (body_text request)
    ∙ ap (λ (n : ℕ). n + length (body_text request)) (length-in_head_text (head_of (40 + length (body_text request)) unique request))

-- the text of a request is a whole frame
pub whole-request_text : (unique : ℕ) (request : Request) → IsWritable request → IsWholeFrame (request_text unique request)
unfolding request_text
whole-request_text unique request is =
    let len = 40 + length (body_text request) in
    let long = length-request_text unique request in
    let fits : len < 2 ^ 32 = omega (arith, is.fits) in
    let told : u32_at (request_text unique request) 0 ≡ len =
    ap (λ (bytes : List ℕ). u32_at bytes 0) (len_first len unique request) ∙ u32_at-bytes len (after_len unique request) fits in
    record { headed = omega (arith, long); fits = omega (arith, long, is.fits); told = told ∙ sym long }

is_head : (unique : ℕ) (request : Request) → unique < 2 ^ 64 → IsWritable request → InRange request → IsHead (head_of (40 + length (body_text request)) unique request)
is_head unique request unique_fits is range = record {
  len = omega (arith, is.fits);
  opcode = range.opcode;
  unique = unique_fits;
  node = range.node;
  uid = lit< tt;
  gid = lit< tt;
  pid = lit< tt;
}

head_read : (unique : ℕ) (request : Request) → unique < 2 ^ 64 → IsWritable request → InRange request
    → in_head (request_text unique request) ≡ head_of (40 + length (body_text request)) unique request
unfolding request_text
head_read unique request unique_fits is range =
    in_head-text (head_of (40 + length (body_text request)) unique request) (body_text request) (is_head unique request unique_fits is range)

pub unique-request_text : (unique : ℕ) (request : Request) → unique < 2 ^ 64 → IsWritable request → InRange request → u64_at (request_text unique request) 8 ≡ unique
unique-request_text unique request unique_fits is range = ap (λ (head : InHead). head.unique) (head_read unique request unique_fits is range)

-- a frame is read by its opcode and its node
pub read_frame-text : (unique : ℕ) (request : Request) → unique < 2 ^ 64 → IsWritable request → InRange request
    → read_frame (request_text unique request) ≡ read_as (spelling request).opcode (layout_of (spelling request).opcode (spelling request).node) (body_text request)
unfolding read_frame request_text
read_frame-text unique request unique_fits is range =
    let head = head_read unique request unique_fits is range in
    let opcode : u32_at (request_text unique request) 4 ≡ (spelling request).opcode = ap (λ (head : InHead). head.opcode) head in
    let node : u64_at (request_text unique request) 16 ≡ (spelling request).node = ap (λ (head : InHead). head.node) head in
    let body : drop 40 (request_text unique request) ≡ body_text request =
    drop_at (in_head_text (head_of (40 + length (body_text request)) unique request)) (body_text request) 40 (length-in_head_text (head_of (40 + length (body_text request)) unique request)) in
    ap (λ (opcode : ℕ). read_as opcode (layout_of opcode (u64_at (request_text unique request) 16)) (drop 40 (request_text unique request))) opcode
    ∙ ap (λ (node : ℕ). read_as (spelling request).opcode (layout_of (spelling request).opcode node) (drop 40 (request_text unique request))) node
    ∙ ap (λ (bytes : List ℕ). read_as (spelling request).opcode (layout_of (spelling request).opcode (spelling request).node) bytes) body
