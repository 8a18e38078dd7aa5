-- From the text of a frame to its head and body, and back.
use Rattle.std.proofs.Common.{◌≡◌, ◌≢◌, ◌≤◌, ◌<◌, ◌+◌, ◌^◌, ℕ, List, [], ◌++◌, length, drop, refl, ap, sym, ◌∙◌, subst, arith}
use Rattle.std.proofs.lemmas.List.{drop_at, length-append}
use Rattle.fuse_head.specs.Head.{negated, out_head}
use Rattle.fuse_head.specs.Little.{u32_at, u64_at}
use Rattle.fuse_head.proofs.HeadLemmas.{error-out_head, length-out_head, unique-out_head}
use Rattle.fuse_replies.specs.declared.reply.Reply.{Reply}
use Rattle.fuse_replies.specs.declared.reply.Reply.TheVariants.{Error, Entry, Attr, Created, Opened, Content, Target, Written, Stat, Dirents, InitDone, Empty, Silent}
use Rattle.fuse_replies.specs.declared.reply.ReplyKind.{ReplyKind}
use Rattle.fuse_replies.specs.Reading.{IsBody}
use Rattle.fuse_replies.specs.Replies.{body_of, errno_of, IsFrame, IsOfKind, IsSendable}
use Rattle.fuse_replies.proofs.ReplyLemmas.{frame_of-sent, length-body_of}

-- an errno that was negated twice
pub negated-negated : (errno : ℕ) → errno < 2 ^ 32 → negated (negated errno) ≡ errno
negated-negated errno fits = omega arith

-- how long a frame is
pub length-frame : (len errno unique : ℕ) (body bytes : List ℕ) → bytes ≡ out_head len errno unique ++ body → length bytes ≡ 16 + length body
length-frame len errno unique body bytes is = omega (arith, ap length is, length-append (out_head len errno unique) body, length-out_head len errno unique)

-- the errno, the unique and the body of a frame are read back
pub errno_read : (len errno unique : ℕ) (body bytes : List ℕ) → errno < 2 ^ 32 → bytes ≡ out_head len errno unique ++ body → negated (u32_at bytes 4) ≡ errno
errno_read len errno unique body bytes fits is =
    ap negated (ap (λ (xs : List ℕ). u32_at xs 4) is ∙ error-out_head len errno unique body) ∙ negated-negated errno fits

pub unique_read : (len errno unique : ℕ) (body bytes : List ℕ) → unique < 2 ^ 64 → bytes ≡ out_head len errno unique ++ body → u64_at bytes 8 ≡ unique
unique_read len errno unique body bytes fits is = ap (λ (xs : List ℕ). u64_at xs 8) is ∙ unique-out_head len errno unique body fits

pub body_read : (len errno unique : ℕ) (body bytes : List ℕ) → bytes ≡ out_head len errno unique ++ body → drop 16 bytes ≡ body
body_read len errno unique body bytes is = ap (drop 16) is ∙ drop_at (out_head len errno unique) body 16 (length-out_head len errno unique)

-- a reply of some kind is sent
kind_sent : (kind : ReplyKind) (reply : Reply) → IsOfKind kind reply → reply ≢ Silent
kind_sent kind reply answers is = subst (IsOfKind kind) is answers

-- the frame of a reply is its head and its body
pub frame_parts : (kind : ReplyKind) (unique : ℕ) (reply : Reply) (bytes : List ℕ) → IsFrame kind unique reply bytes
    → bytes ≡ out_head (16 + length (body_of reply)) (errno_of reply) unique ++ body_of reply
frame_parts kind unique reply bytes frame = frame.text ∙ frame_of-sent unique reply (kind_sent kind reply frame.answers)

pub errno_small : (reply : Reply) → IsSendable reply → errno_of reply ≤ 511
errno_small (Error errno) fits = fits.1
errno_small reply fits = omega arith

pub body_small : (reply : Reply) → IsSendable reply → 16 + length (body_of reply) < 2 ^ 32
body_small reply fits = omega (arith, length-body_of reply fits)

-- a reply with an errno is an error, and has no body
pub is_error : (reply : Reply) → 0 < errno_of reply → reply ≡ Error (errno_of reply)
is_error (Error errno) some = refl
is_error (Entry x) some = absurd (omega arith)
is_error (Attr x) some = absurd (omega arith)
is_error (Created x fh) some = absurd (omega arith)
is_error (Opened x) some = absurd (omega arith)
is_error (Content x) some = absurd (omega arith)
is_error (Target x) some = absurd (omega arith)
is_error (Written x) some = absurd (omega arith)
is_error Stat some = absurd (omega arith)
is_error (Dirents x) some = absurd (omega arith)
is_error (InitDone x y z) some = absurd (omega arith)
is_error Empty some = absurd (omega arith)
is_error Silent some = absurd (omega arith)

pub error_body : (errno : ℕ) → body_of (Error errno) ≡ []
unfolding body_of
error_body errno = refl

-- where a frame is read, whatever it is the frame of is what was read
pub record SameHead (errno unique : ℕ) (body : List ℕ) (unique' : ℕ) (reply : Reply) : Type 0 where
  pub errno_is : errno ≡ errno_of reply
  pub unique_is : unique ≡ unique'
  pub body_is : body ≡ body_of reply

pub same_head : (kind : ReplyKind) (errno unique unique' : ℕ) (body bytes : List ℕ) (reply : Reply) → errno < 2 ^ 32 → unique < 2 ^ 64
    → bytes ≡ out_head (16 + length body) errno unique ++ body → IsFrame kind unique' reply bytes → SameHead errno unique body unique' reply
same_head kind errno unique unique' body bytes reply errno_fits unique_fits is frame =
    let parts = frame_parts kind unique' reply bytes frame in
    let small : errno_of reply < 2 ^ 32 = omega (arith, errno_small reply frame.reply_fits.sendable) in
    record {
      errno_is = sym (errno_read (16 + length body) errno unique body bytes errno_fits is) ∙ errno_read (16 + length (body_of reply)) (errno_of reply) unique' (body_of reply) bytes small parts;
      unique_is = sym (unique_read (16 + length body) errno unique body bytes unique_fits is) ∙ unique_read (16 + length (body_of reply)) (errno_of reply) unique' (body_of reply) bytes frame.unique_fits parts;
      body_is = sym (body_read (16 + length body) errno unique body bytes is) ∙ body_read (16 + length (body_of reply)) (errno_of reply) unique' (body_of reply) bytes parts;
    }

-- a frame without an errno has the body of its reply
pub body_of_frame : (kind : ReplyKind) (unique unique' : ℕ) (body bytes : List ℕ) (reply : Reply) → unique < 2 ^ 64
    → bytes ≡ out_head (16 + length body) 0 unique ++ body → IsFrame kind unique' reply bytes → IsBody kind reply body
body_of_frame kind unique unique' body bytes reply unique_fits is frame =
    let same = same_head kind 0 unique unique' body bytes reply (omega arith) unique_fits is frame in
    record { reply_fits = frame.reply_fits; answers = frame.answers; done = sym same.errno_is; text = same.body_is }

-- a body gives a frame
pub frame_of_body : (kind : ReplyKind) (unique : ℕ) (body bytes : List ℕ) (reply : Reply) → unique < 2 ^ 64
    → bytes ≡ out_head (16 + length body) 0 unique ++ body → IsBody kind reply body → IsFrame kind unique reply bytes
frame_of_body kind unique body bytes reply unique_fits is of = record {
  unique_fits = unique_fits;
  reply_fits = of.reply_fits;
  answers = of.answers;
  text = is ∙ ap (λ (xs : List ℕ). out_head (16 + length xs) 0 unique ++ xs) of.text ∙ ap (λ (errno : ℕ). out_head (16 + length (body_of reply)) errno unique ++ body_of reply) (sym of.done) ∙ sym (frame_of-sent unique reply (kind_sent kind reply of.answers));
}

-- bytes that don't begin with a head of their length are no frame
pub no_frame : (kind : ReplyKind) (unique : ℕ) (reply : Reply) (bytes : List ℕ)
    → ((errno unique : ℕ) (body : List ℕ) → errno < 2 ^ 32 → unique < 2 ^ 64 → 16 + length body < 2 ^ 32 → bytes ≢ out_head (16 + length body) errno unique ++ body)
    → IsFrame kind unique reply bytes → ⊥
no_frame kind unique reply bytes none frame =
    none (errno_of reply) unique (body_of reply) (omega (arith, errno_small reply frame.reply_fits.sendable)) frame.unique_fits (body_small reply frame.reply_fits.sendable) (frame_parts kind unique reply bytes frame)

-- the head that is written from what was read is that of the frame
pub head_again : (len errno unique errno_read' unique_read' : ℕ) (body bytes head : List ℕ) → errno < 2 ^ 32 → unique < 2 ^ 64
    → bytes ≡ out_head (16 + length body) errno unique ++ body → len ≡ length bytes → errno_read' ≡ negated (u32_at bytes 4) → unique_read' ≡ u64_at bytes 8
    → head ≡ out_head len errno_read' unique_read' → bytes ≡ head ++ body
head_again len errno unique errno_read' unique_read' body bytes head errno_fits unique_fits is len-is errno-is unique-is head-is =
    let l : len ≡ 16 + length body = len-is ∙ length-frame (16 + length body) errno unique body bytes is in
    let e : errno_read' ≡ errno = errno-is ∙ errno_read (16 + length body) errno unique body bytes errno_fits is in
    let u : unique_read' ≡ unique = unique-is ∙ unique_read (16 + length body) errno unique body bytes unique_fits is in
    is ∙ ap (λ (xs : List ℕ). xs ++ body) (ap (λ (n : ℕ). out_head n errno unique) (sym l) ∙ ap (λ (n : ℕ). out_head len n unique) (sym e) ∙ ap (out_head len errno_read') (sym u) ∙ sym head-is)

-- an error is read from a frame with its errno and no body
pub error_frame : (kind : ReplyKind) (errno unique : ℕ) (body bytes : List ℕ) → 0 < errno → errno ≤ 511 → unique < 2 ^ 64 → body ≡ []
    → bytes ≡ out_head (16 + length body) errno unique ++ body → IsFrame kind unique (Error errno) bytes
error_frame kind errno unique body bytes some small unique_fits none is = record {
  unique_fits = unique_fits;
  reply_fits = record { sendable = (omega arith, small); in_range = tt };
  answers = tt;
  text = is ∙ ap (λ (xs : List ℕ). out_head (16 + length xs) errno unique ++ xs) (none ∙ sym (error_body errno)) ∙ sym (frame_of-sent unique (Error errno) (λ e. cc));
}

pub error_again : (kind : ReplyKind) (errno unique unique' : ℕ) (body bytes : List ℕ) (reply : Reply) → 0 < errno → errno < 2 ^ 32 → unique < 2 ^ 64
    → bytes ≡ out_head (16 + length body) errno unique ++ body → IsFrame kind unique' reply bytes
    → (reply ≡ Error errno) × (errno ≤ 511) × (body ≡ []) × (unique ≡ unique')
error_again kind errno unique unique' body bytes reply some errno_fits unique_fits is frame =
    let same = same_head kind errno unique unique' body bytes reply errno_fits unique_fits is frame in
    let error : reply ≡ Error (errno_of reply) = is_error reply (omega (arith, same.errno_is, some)) in
    (error ∙ ap Error (sym same.errno_is), omega (arith, same.errno_is, errno_small reply frame.reply_fits.sendable), same.body_is ∙ ap body_of error ∙ error_body (errno_of reply), same.unique_is)

pub pos_from : (n : ℕ) → n ≢ 0 → 0 < n
pos_from n other = omega arith
