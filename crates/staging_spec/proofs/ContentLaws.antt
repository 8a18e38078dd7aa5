-- Laws of patching and resizing.
use Rattle.std.proofs.Common.{◌≡◌, ℕ, ◌+◌, ◌-◌, ◌≤◌, max, List, [], ◌∷◌, ◌++◌, refl, sym, ap, ◌∙◌, length, take, drop, replicate, arith, append_assoc, length-append}
use Rattle.std.proofs.Common.{length-drop}
use Rattle.std.proofs.lemmas.List.{append-nil, take_all, take_at, drop_at, drop-drop, length-take, length-take-le, length-replicate}
use Rattle.staging_spec.specs.Content.{zeros, patch, resize}

pub length-zeros : (count : ℕ) → length (zeros count) ≡ count
unfolding zeros
length-zeros count = length-replicate count 0

pub zeros_none : (count : ℕ) → count ≡ 0 → zeros count ≡ []
unfolding zeros
zeros_none count e = ap (λ n. replicate n 0) e

-- a resized content has its length
pub length-resize : (content : List ℕ) (size : ℕ) → length (resize content size) ≡ size
length-resize content size =
    length-append (take size content) (zeros (size - length content))
    ∙ (let a = length-take size content in let b = length-zeros (size - length content) in omega arith)

-- a shrink keeps the first bytes
pub resize_down : (content : List ℕ) (size : ℕ) → size ≤ length content → resize content size ≡ take size content
resize_down content size le = ap (λ zs. take size content ++ zs) (zeros_none (size - length content) (omega arith)) ∙ append-nil (take size content)

-- bytes cut off never come back: a shrink and then a growth shows zeros
pub shrink_then_grow : (content : List ℕ) (small large : ℕ) → small ≤ length content → small ≤ large → resize (resize content small) large ≡ take small content ++ zeros (large - small)
shrink_then_grow content small large le more =
    let len : length (take small content) ≡ small = length-take-le small content le in
    ap (λ c. resize c large) (resize_down content small le)
    ∙ ap (λ c. c ++ zeros (large - length (take small content))) (take_all large (take small content) (omega arith))
    ∙ ap (λ n. take small content ++ zeros (large - n)) len

-- a patched content reaches to the end of the bytes written
pub length-patch : (content : List ℕ) (offset byte : ℕ) (bytes : List ℕ) → length (patch content offset (byte ∷ bytes)) ≡ max (length content) (offset + length (byte ∷ bytes))
length-patch content offset byte bytes =
    let all = byte ∷ bytes in
    length-append (take offset content ++ zeros (offset - length content) ++ all) (drop (offset + length all) content)
    ∙ (let a = length-append (take offset content ++ zeros (offset - length content)) all in
    let b = length-append (take offset content) (zeros (offset - length content)) in
    let d = length-take offset content in
    let e = length-zeros (offset - length content) in
    let f = length-drop (offset + length all) content in
    omega arith)

-- what stands before an offset, with zeros up to it
front : List ℕ → ℕ → List ℕ
front content offset = take offset content ++ zeros (offset - length content)

length-front : (content : List ℕ) (offset : ℕ) → length (front content offset) ≡ offset
unfolding front
length-front content offset = length-append (take offset content) (zeros (offset - length content))
    ∙ (let a = length-take offset content in let b = length-zeros (offset - length content) in omega arith)

-- bytes written one behind the other are as if they were written at once
pub patch_then_patch : (content : List ℕ) (offset x y : ℕ) (xs ys : List ℕ)
    → patch (patch content offset (x ∷ xs)) (offset + length (x ∷ xs)) (y ∷ ys) ≡ patch content offset ((x ∷ xs) ++ (y ∷ ys))
unfolding front
patch_then_patch content offset x y xs ys =
    let one = x ∷ xs in
    let two = y ∷ ys in
    let at = offset + length one in
    let head = front content offset ++ one in
    let head_len : length head ≡ at = length-append (front content offset) one ∙ ap (λ n. n + length one) (length-front content offset) in
    let tail = drop at content in
    let patched : patch content offset one ≡ head ++ tail = refl in
    let reach : length (patch content offset one) ≡ max (length content) at = length-patch content offset x xs in
    let joined : length (one ++ two) ≡ length one + length two = length-append one two in
    ap (λ c. c ++ zeros (at - length (patch content offset one)) ++ two ++ drop (at + length two) (patch content offset one)) (take_at head tail at head_len)
    ∙ ap (λ zs. head ++ zs ++ two ++ drop (at + length two) (patch content offset one)) (zeros_none (at - length (patch content offset one)) (omega arith))
    ∙ ap (λ c. c ++ two ++ drop (at + length two) (patch content offset one)) (append-nil head)
    ∙ ap (λ c. c ++ drop (at + length two) (patch content offset one)) (append_assoc (front content offset) one two)
    ∙ ap (λ c. front content offset ++ (one ++ two) ++ c)
    (sym (drop-drop (length two) at (head ++ tail)) ∙ ap (drop (length two)) (drop_at head tail at head_len) ∙ drop-drop (length two) at content)
    ∙ ap (λ n. front content offset ++ (one ++ two) ++ drop n content) (let e : at + length two ≡ offset + length (one ++ two) = omega arith in e)
