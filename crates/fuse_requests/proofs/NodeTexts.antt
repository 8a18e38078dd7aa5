-- Each request that speaks of a node or a handle is read back from the text of its body.
use Rattle.std.proofs.Common.{◌≡◌, ◌<◌, ◌^◌, ℕ, List, [], Ok, length, refl, ap, ◌∙◌}
use Rattle.fuse_head.specs.Little.{u32_at, u64_at}
use Rattle.fuse_requests.specs.declared.request.Request.TheVariants.{Getattr, Setattr, Readlink, Opening, Read, Write, Release, Fsync, Flush, Opendir, Readdir, Releasedir, Fsyncdir}
use Rattle.fuse_requests.specs.Layout.{read_body}
use Rattle.fuse_requests.specs.Nodes.{getattr, getattr_in, setattr, setattr_in, readlink, opening, opendir, open_in, reading, readdir, writing, read_in, release, releasedir, release_in, fsync, fsyncdir, fsync_in, flush, flush_in}
use Rattle.fuse_requests.specs.Text.{body_text}
use Rattle.fuse_requests.proofs.FieldTexts.{word_of, long_of, two, three, four}
use Rattle.fuse_requests.proofs.BodyTexts.{alone-text, filled-text}

pub getattr-text : (node : ℕ) → read_body (getattr node) (body_text (Getattr node)) ≡ Ok (Getattr node)
getattr-text node = alone-text getattr_in (λ (body : List ℕ). Getattr node)

pub setattr-text : (node valid size mtime nanos : ℕ) → (valid < 2 ^ 32) × (size < 2 ^ 64) × (mtime < 2 ^ 64) × (nanos < 2 ^ 32)
    → read_body (setattr node) (body_text (Setattr node valid size mtime nanos)) ≡ Ok (Setattr node valid size mtime nanos)
setattr-text node valid size mtime nanos fits =
    let fields = setattr_in valid size mtime nanos in
    alone-text fields (λ (body : List ℕ). Setattr node (u32_at body 0) (u64_at body 16) (u64_at body 40) (u32_at body 60))
    ∙ four (λ (valid size mtime nanos : ℕ). Ok (Setattr node valid size mtime nanos))
    (word_of fields 0 valid [] refl fits.0) (long_of fields 3 size [] refl fits.1) (long_of fields 6 mtime [] refl fits.2) (word_of fields 9 nanos [] refl fits.3)

pub readlink-text : (node : ℕ) → read_body (readlink node) (body_text (Readlink node)) ≡ Ok (Readlink node)
readlink-text node = alone-text [] (λ (body : List ℕ). Readlink node)

pub opening-text : (node flags : ℕ) → flags < 2 ^ 32 → read_body (opening node) (body_text (Opening node flags)) ≡ Ok (Opening node flags)
opening-text node flags fits =
    let fields = open_in flags in
    alone-text fields (λ (body : List ℕ). Opening node (u32_at body 0)) ∙ ap (λ (flags : ℕ). Ok (Opening node flags)) (word_of fields 0 flags [] refl fits)

pub opendir-text : (node : ℕ) → read_body (opendir node) (body_text (Opendir node)) ≡ Ok (Opendir node)
opendir-text node = alone-text (open_in 0) (λ (body : List ℕ). Opendir node)

pub reading-text : (node fh first size : ℕ) → (fh < 2 ^ 64) × (first < 2 ^ 64) × (size < 2 ^ 32) → read_body (reading node) (body_text (Read node fh first size)) ≡ Ok (Read node fh first size)
reading-text node fh first size fits =
    let fields = read_in fh first size in
    alone-text fields (λ (body : List ℕ). Read node (u64_at body 0) (u64_at body 8) (u32_at body 16))
    ∙ three (λ (fh first size : ℕ). Ok (Read node fh first size)) (long_of fields 0 fh [] refl fits.0) (long_of fields 1 first [] refl fits.1) (word_of fields 2 size [] refl fits.2)

pub readdir-text : (node fh first size : ℕ) → (fh < 2 ^ 64) × (first < 2 ^ 64) × (size < 2 ^ 32) → read_body (readdir node) (body_text (Readdir node fh first size)) ≡ Ok (Readdir node fh first size)
readdir-text node fh first size fits =
    let fields = read_in fh first size in
    alone-text fields (λ (body : List ℕ). Readdir node (u64_at body 0) (u64_at body 8) (u32_at body 16))
    ∙ three (λ (fh first size : ℕ). Ok (Readdir node fh first size)) (long_of fields 0 fh [] refl fits.0) (long_of fields 1 first [] refl fits.1) (word_of fields 2 size [] refl fits.2)

pub writing-text : (node fh first : ℕ) (content : List ℕ) → (fh < 2 ^ 64) × (first < 2 ^ 64) → length content < 2 ^ 32
    → read_body (writing node) (body_text (Write node fh first content)) ≡ Ok (Write node fh first content)
writing-text node fh first content fits size_fits =
    let fields = read_in fh first (length content) in
    filled-text fields 16 content (λ (body content : List ℕ). Write node (u64_at body 0) (u64_at body 8) content) (word_of fields 2 (length content) content refl size_fits)
    ∙ two (λ (fh first : ℕ). Ok (Write node fh first content)) (long_of fields 0 fh content refl fits.0) (long_of fields 1 first content refl fits.1)

pub release-text : (node fh : ℕ) → fh < 2 ^ 64 → read_body (release node) (body_text (Release node fh)) ≡ Ok (Release node fh)
release-text node fh fits =
    let fields = release_in fh in
    alone-text fields (λ (body : List ℕ). Release node (u64_at body 0)) ∙ ap (λ (fh : ℕ). Ok (Release node fh)) (long_of fields 0 fh [] refl fits)

pub releasedir-text : (node fh : ℕ) → fh < 2 ^ 64 → read_body (releasedir node) (body_text (Releasedir node fh)) ≡ Ok (Releasedir node fh)
releasedir-text node fh fits =
    let fields = release_in fh in
    alone-text fields (λ (body : List ℕ). Releasedir node (u64_at body 0)) ∙ ap (λ (fh : ℕ). Ok (Releasedir node fh)) (long_of fields 0 fh [] refl fits)

pub fsync-text : (node fh : ℕ) → fh < 2 ^ 64 → read_body (fsync node) (body_text (Fsync node fh)) ≡ Ok (Fsync node fh)
fsync-text node fh fits =
    let fields = fsync_in fh in
    alone-text fields (λ (body : List ℕ). Fsync node (u64_at body 0)) ∙ ap (λ (fh : ℕ). Ok (Fsync node fh)) (long_of fields 0 fh [] refl fits)

pub fsyncdir-text : (node fh : ℕ) → fh < 2 ^ 64 → read_body (fsyncdir node) (body_text (Fsyncdir node fh)) ≡ Ok (Fsyncdir node fh)
fsyncdir-text node fh fits =
    let fields = fsync_in fh in
    alone-text fields (λ (body : List ℕ). Fsyncdir node (u64_at body 0)) ∙ ap (λ (fh : ℕ). Ok (Fsyncdir node fh)) (long_of fields 0 fh [] refl fits)

pub flush-text : (node fh : ℕ) → fh < 2 ^ 64 → read_body (flush node) (body_text (Flush node fh)) ≡ Ok (Flush node fh)
flush-text node fh fits =
    let fields = flush_in fh in
    alone-text fields (λ (body : List ℕ). Flush node (u64_at body 0)) ∙ ap (λ (fh : ℕ). Ok (Flush node fh)) (long_of fields 0 fh [] refl fits)
