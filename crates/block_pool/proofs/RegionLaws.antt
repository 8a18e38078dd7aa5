-- What each call of the region leaves, for bytes that show as blocks.
use Rattle.std.proofs.Common.{◌≡◌, ◌≢◌, ℕ, suc, ◌+◌, ◌*◌, ◌<◌, ◌≤◌, List, [], ◌∷◌, ◌++◌, sym, ap, subst, ◌∙◌, cond, length, take, drop, get_or, set, arith}
use Rattle.std.proofs.lemmas.Bool.{eq-eqb, ne_eqb}
use Rattle.std.proofs.lemmas.List.{append-nil, drop_all, length-take-le, length-drop}
use Rattle.std.proofs.Math.Nat.{mul-le-mul_right}
use Rattle.staging_spec.specs.Content.{zeros}
use Rattle.block_pool.specs.Blocks.{RegionBytes, parts, overwritten, readied}
use Rattle.block_pool.proofs.Parts.{length-parts, parts_more, part_at, parts_overwritten, length-zeros, read_part}

pub in_part : (n b size first count : ℕ) → b < n → first + count ≤ size → (b * size + first) + count ≤ n * size
in_part n b size first count lt fits = let le : (b + 1) * size ≤ n * size = mul-le-mul_right size (omega arith) in let p : (b + 1) * size ≡ b * size + size = omega arith in omega arith

-- all of a block
whole_overwritten : (block ys : List ℕ) → length block ≡ length ys → overwritten block 0 ys ≡ ys
whole_overwritten block ys e = ap (λ zs. ys ++ zs) (drop_all (0 + length ys) block (omega arith)) ∙ append-nil ys

length-part : (size n b : ℕ) (xs : List ℕ) → b < n → length xs ≡ n * size → length (get_or (parts size n xs) b []) ≡ size
length-part size n b xs lt e = ap length (part_at size n b xs lt)
    ∙ length-take-le size (drop (b * size) xs) (let h = in_part n b size 0 size lt (omega arith) in omega (arith, length-drop (b * size) xs))

module _ (size used limit : ℕ) (bytes : List ℕ) (full : length bytes ≡ used * size) (v : RegionBytes) (is : ◌≡◌ {A = RegionBytes} (record { blocks = parts size used bytes; limit = limit }) v) where
  pub used_is : length v.blocks ≡ used
  used_is = ap (λ w. length w.blocks) (sym is) ∙ length-parts size used bytes

  pub is_used : (block : ℕ) → block < length v.blocks → block < used
  is_used block lt = omega (arith, used_is)

  pub fits_in : (block first count : ℕ) → block < length v.blocks → first + count ≤ size → (block * size + first) + count ≤ length bytes
  fits_in block first count lt fits = let h = in_part used block size first count (is_used block lt) fits in omega arith

  pub part_is : (block : ℕ) → block < length v.blocks → take size (drop (block * size) bytes) ≡ get_or v.blocks block []
  part_is block lt = sym (part_at size used block bytes (is_used block lt)) ∙ ap (λ w. get_or w.blocks block []) is

  pub part_read : (block first count : ℕ) → block < length v.blocks → first + count ≤ size → take count (drop (block * size + first) bytes) ≡ take count (drop first (get_or v.blocks block []))
  part_read block first count lt fits = read_part size used block first count bytes (is_used block lt) full fits ∙ ap (λ w. take count (drop first (get_or w.blocks block []))) is

  pub part_written : (block first : ℕ) (ys result : List ℕ) → block < length v.blocks → first + length ys ≤ size → result ≡ overwritten bytes (block * size + first) ys
      → ◌≡◌ {A = RegionBytes} (record { blocks = parts size used result; limit = limit }) (record v { blocks = set v.blocks block (overwritten (get_or v.blocks block []) first ys) })
  part_written block first ys result lt fits e =
      subst (λ w. ◌≡◌ {A = RegionBytes} (record { blocks = parts size used result; limit = limit }) (record w { blocks = set w.blocks block (overwritten (get_or w.blocks block []) first ys) })) is
      (ap (λ bs. record { blocks = bs; limit = limit }) (ap (parts size used) e ∙ parts_overwritten size used block first bytes ys (is_used block lt) full fits))

  -- a block of zeros more
  pub part_added : (block : ℕ) (result : List ℕ) → block ≡ used → result ≡ bytes ++ zeros size
      → ◌≡◌ {A = RegionBytes} (record { blocks = parts size (used + 1) result; limit = limit }) (record v { blocks = readied size v.blocks block })
  part_added block result e f =
      subst (λ w. ◌≡◌ {A = RegionBytes} (record { blocks = parts size (used + 1) result; limit = limit }) (record w { blocks = readied size w.blocks block })) is
      (ap (λ bs. record { blocks = bs; limit = limit })
      (ap (λ n. parts size n result) (let s : used + 1 ≡ suc used = omega arith in s) ∙ ap (parts size (suc used)) f ∙ parts_more size used bytes (zeros size) full (length-zeros size)
      ∙ sym (ap (λ t. cond t (parts size used bytes ++ zeros size ∷ []) (set (parts size used bytes) block (zeros size)))
      (eq-eqb block (length (parts size used bytes)) (e ∙ sym (length-parts size used bytes))))))

  -- a block of zeros in place of one that was used
  pub part_cleared : (block : ℕ) (result : List ℕ) → block ≤ length v.blocks → block ≢ used → result ≡ overwritten bytes (block * size) (zeros size)
      → ◌≡◌ {A = RegionBytes} (record { blocks = parts size used result; limit = limit }) (record v { blocks = readied size v.blocks block })
  part_cleared block result le apart e =
      let lt : block < used = omega (arith, used_is) in
      let zero_len = length-zeros size in
      subst (λ w. ◌≡◌ {A = RegionBytes} (record { blocks = parts size used result; limit = limit }) (record w { blocks = readied size w.blocks block })) is
      (ap (λ bs. record { blocks = bs; limit = limit })
      (ap (parts size used) (e ∙ ap (λ k. overwritten bytes k (zeros size)) (let z : block * size ≡ block * size + 0 = omega arith in z))
      ∙ parts_overwritten size used block 0 bytes (zeros size) lt full (omega arith)
      ∙ ap (set (parts size used bytes) block) (whole_overwritten (get_or (parts size used bytes) block []) (zeros size) (length-part size used block bytes lt full ∙ sym zero_len))
      ∙ sym (ap (λ t. cond t (parts size used bytes ++ zeros size ∷ []) (set (parts size used bytes) block (zeros size)))
      (ne_eqb block (length (parts size used bytes)) (λ p. apart (p ∙ length-parts size used bytes))))))
