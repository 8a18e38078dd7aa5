-- Each request that speaks of the whole mount, or takes look-ups back, is read back from the text of its body.
use Rattle.std.proofs.Common.{◌≡◌, ◌<◌, ◌^◌, ℕ, List, [], Ok, length, refl, ap, ◌∙◌}
use Rattle.fuse_head.specs.Little.{u32_at, u64_at}
use Rattle.std.specs.List.{AllByRecursion}
use Rattle.io_ports.specs.RowItems.{RowItems}
use Rattle.fuse_requests.specs.declared.request.Forgotten.{Forgotten}
use Rattle.fuse_requests.specs.declared.request.Request.TheVariants.{Forget, Statfs, Init, Interrupt, Destroy, BatchForget}
use Rattle.fuse_requests.specs.Layout.{read_body}
use Rattle.fuse_requests.specs.Mounts.{forget, forget_in, statfs, init, init_in, interrupt, interrupt_in, destroy, batch_forget, batch_forget_in}
use Rattle.fuse_requests.specs.Text.{body_text, pairs_text, PairFits}
use Rattle.fuse_requests.proofs.FieldTexts.{word_of, long_of, four}
use Rattle.fuse_requests.proofs.BodyTexts.{alone-text, open_ended-text, paired-text}

pub forget-text : (node count : ℕ) → count < 2 ^ 64 → read_body (forget node) (body_text (Forget node count)) ≡ Ok (Forget node count)
forget-text node count fits =
    let fields = forget_in count in
    alone-text fields (λ (body : List ℕ). Forget node (u64_at body 0)) ∙ ap (λ (count : ℕ). Ok (Forget node count)) (long_of fields 0 count [] refl fits)

pub statfs-text : read_body statfs (body_text Statfs) ≡ Ok Statfs
statfs-text = alone-text [] (λ (body : List ℕ). Statfs)

pub init-text : (major minor readahead flags : ℕ) → (major < 2 ^ 32) × (minor < 2 ^ 32) × (readahead < 2 ^ 32) × (flags < 2 ^ 32)
    → read_body init (body_text (Init major minor readahead flags)) ≡ Ok (Init major minor readahead flags)
init-text major minor readahead flags fits =
    let fields = init_in major minor readahead flags in
    open_ended-text fields (λ (body : List ℕ). Init (u32_at body 0) (u32_at body 4) (u32_at body 8) (u32_at body 12))
    ∙ four (λ (major minor readahead flags : ℕ). Ok (Init major minor readahead flags))
    (word_of fields 0 major [] refl fits.0) (word_of fields 1 minor [] refl fits.1) (word_of fields 2 readahead [] refl fits.2) (word_of fields 3 flags [] refl fits.3)

pub interrupt-text : read_body interrupt (body_text Interrupt) ≡ Ok Interrupt
interrupt-text = alone-text interrupt_in (λ (body : List ℕ). Interrupt)

pub destroy-text : read_body destroy (body_text Destroy) ≡ Ok Destroy
destroy-text = alone-text [] (λ (body : List ℕ). Destroy)

pub batch_forget-text : (pairs : RowItems Forgotten) → AllByRecursion PairFits pairs.items → length pairs.items < 2 ^ 32
    → read_body batch_forget (body_text (BatchForget pairs)) ≡ Ok (BatchForget (record pairs { spare = 0 }))
batch_forget-text pairs fit count_fits =
    let fields = batch_forget_in (length pairs.items) in
    paired-text fields 0 pairs.items (λ (items : List Forgotten). BatchForget (record { items = items; spare = 0 })) fit
    (word_of fields 0 (length pairs.items) (pairs_text pairs.items) refl count_fits)
