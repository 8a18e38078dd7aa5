-- Laws of the texts of replies, for callers.
use Rattle.std.proofs.Common.{◌≡◌, ◌≤◌, ◌<◌, ◌+◌, ℕ, Bool, true, false, List, [], ◌∷◌, ◌++◌, length, refl, arith}
use Rattle.std.proofs.lemmas.List.{length-append}
use Rattle.fuse_head.specs.Head.{out_head}
use Rattle.fuse_replies.specs.declared.reply.Reply.{Reply}
use Rattle.fuse_replies.specs.declared.reply.Reply.TheVariants.{Error, Entry, Attr, Created, Opened, Content, Target, Written, Stat, Dirents, InitDone, Empty, Silent}
use Rattle.fuse_replies.specs.Layouts.{entry_text, open_text}
use Rattle.fuse_replies.specs.Replies.{body_of, errno_of, frame_of, without_spare, IsSendable}
use Rattle.fuse_replies.proofs.TextLemmas.{length-attr_out_text, length-entry_text, length-init_text, length-open_text, length-statfs_text, length-waits_text, length-written_text}

-- a request that gets no reply has no frame
pub frame_of-silent : (unique : ℕ) → frame_of unique Silent ≡ []
unfolding frame_of
frame_of-silent unique = refl

-- every other reply has its head and its body
pub frame_of-sent : (unique : ℕ) (reply : Reply) → (reply ≡ Silent → ⊥) → frame_of unique reply ≡ out_head (16 + length (body_of reply)) (errno_of reply) unique ++ body_of reply
unfolding frame_of
frame_of-sent unique (Error errno) sent = refl
frame_of-sent unique (Entry entry) sent = refl
frame_of-sent unique (Attr attr) sent = refl
frame_of-sent unique (Created entry fh) sent = refl
frame_of-sent unique (Opened fh) sent = refl
frame_of-sent unique (Content bytes) sent = refl
frame_of-sent unique (Target bytes) sent = refl
frame_of-sent unique (Written size) sent = refl
frame_of-sent unique Stat sent = refl
frame_of-sent unique (Dirents row) sent = refl
frame_of-sent unique (InitDone readahead flags waits) sent = refl
frame_of-sent unique Empty sent = refl
frame_of-sent unique Silent sent = absurd (sent refl)

-- the length of a reply that can be sent fits its field
pub length-body_of : (reply : Reply) → IsSendable reply → 16 + length (body_of reply) ≤ 4294967295
unfolding body_of
length-body_of (Error errno) fits = omega arith
length-body_of (Entry entry) fits = omega (arith, length-entry_text entry)
length-body_of (Attr attr) fits = omega (arith, length-attr_out_text attr)
length-body_of (Created entry fh) fits = omega (arith, length-append (entry_text entry) (open_text fh), length-entry_text entry, length-open_text fh)
length-body_of (Opened fh) fits = omega (arith, length-open_text fh)
length-body_of (Content bytes) fits = fits
length-body_of (Target bytes) fits = fits
length-body_of (Written size) fits = omega (arith, length-written_text size)
length-body_of Stat fits = omega (arith, length-statfs_text)
length-body_of (Dirents row) fits = fits
length-body_of (InitDone readahead flags true) fits = omega (arith, length-waits_text)
length-body_of (InitDone readahead flags false) fits = omega (arith, length-init_text readahead flags)
length-body_of Empty fits = omega arith
length-body_of Silent fits = omega arith

-- a reply that is plainly silent is silent
pub without_spare-silent : (reply : Reply) → (reply ≡ Silent → ⊥) → without_spare reply ≡ Silent → ⊥
without_spare-silent (Error errno) sent = λ e. absurd cc
without_spare-silent (Entry entry) sent = λ e. absurd cc
without_spare-silent (Attr attr) sent = λ e. absurd cc
without_spare-silent (Created entry fh) sent = λ e. absurd cc
without_spare-silent (Opened fh) sent = λ e. absurd cc
without_spare-silent (Content bytes) sent = λ e. absurd cc
without_spare-silent (Target bytes) sent = λ e. absurd cc
without_spare-silent (Written size) sent = λ e. absurd cc
without_spare-silent Stat sent = λ e. absurd cc
without_spare-silent (Dirents row) sent = λ e. absurd cc
without_spare-silent (InitDone readahead flags waits) sent = λ e. absurd cc
without_spare-silent Empty sent = λ e. absurd cc
without_spare-silent Silent sent = λ e. absurd (sent refl)

pub ruleset body_lengths = (length-append, length-attr_out_text, length-entry_text, length-init_text, length-open_text, length-statfs_text, length-waits_text, length-written_text)

pub ruleset silent_frames = (frame_of-silent)
