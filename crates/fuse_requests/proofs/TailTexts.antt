-- Laws of what stands behind a fixed part: names, a content and pairs, read back from their texts.
use Rattle.std.proofs.Common.{◌≡◌, ◌+◌, ◌*◌, ◌<◌, ℕ, List, [], ◌∷◌, ◌++◌, true, false, Ok, Some, length, take, drop, refl, ap, sym, ◌∙◌, append_assoc, arith, nat_lt, nat_eq}
use Rattle.std.proofs.lemmas.List.{drop_at, drop_all, take_at, take_all, length-append}
use Rattle.std.proofs.lemmas.Bool.{le-ltb, lt-ltb, eq-eqb}
use Rattle.std.specs.List.{position, position_or_len, AllByRecursion}
use Rattle.fuse_head.specs.Little.{u64_at, u64_bytes}
use Rattle.fuse_head.proofs.LittleLemmas.{length-u64_bytes, u64_at-bytes, u64_at-field}
use Rattle.fuse_requests.specs.declared.request.Forgotten.{Forgotten}
use Rattle.fuse_requests.specs.Parts.{is_zero, name_at, last_name, last_two_names, last_bytes, last_pairs, pairs_of}
use Rattle.fuse_requests.specs.Text.{IsName, name_text, pair_text, pairs_text, PairFits}
use Rattle.fuse_requests.proofs.PairTexts.{length-pairs_text}

-- the first zero byte behind a name is the one at its end
zero_place : (name rest : List ℕ) → IsName name → position_or_len is_zero (name ++ 0 ∷ rest) ≡ length name
zero_place [] rest is = refl
zero_place (byte ∷ name) rest is = grind (arith, zero_place name rest)

zero_found : (name rest : List ℕ) → IsName name → position is_zero (name ++ 0 ∷ rest) ≡ Some (length name)
zero_found name rest is =
    let place = zero_place name rest is in
    let within : length name < length (name ++ 0 ∷ rest) = omega (arith, length-append name (0 ∷ rest)) in
    let found : nat_lt (length name) (length (name ++ 0 ∷ rest)) ≡ true = lt-ltb (length name) (length (name ++ 0 ∷ rest)) within in
    rw (place, found) refl

pub name_at-text : (name rest : List ℕ) → IsName name → name_at (name ++ 0 ∷ rest) ≡ Ok (name, rest)
unfolding name_at
name_at-text name rest is =
    let front = take_at name (0 ∷ rest) (length name) refl in
    let back : drop (length name + 1) (name ++ 0 ∷ rest) ≡ rest =
    ap (drop (length name + 1)) (sym (append_assoc name (0 ∷ []) rest)) ∙ drop_at (name ++ 0 ∷ []) rest (length name + 1) (omega (arith, length-append name (0 ∷ []))) in
    rw (zero_found name rest is, front, back) refl

pub last_name-text : (name : List ℕ) → IsName name → last_name (name_text name) ≡ Ok name
last_name-text name is = rw (name_at-text name [] is) refl

pub last_two_names-text : (name other : List ℕ) → IsName name → IsName other → last_two_names (name_text name ++ name_text other) ≡ Ok (name, other)
last_two_names-text name other is other_is =
    ap last_two_names (append_assoc name (0 ∷ []) (name_text other)) ∙ rw (name_at-text name (name_text other) is, name_at-text other [] other_is) refl

pub last_bytes-text : (content : List ℕ) → last_bytes (length content) content ≡ Ok content
last_bytes-text content =
    let enough : nat_lt (length content) (length content) ≡ false = le-ltb (length content) (length content) (omega arith) in
    let none : drop (length content) content ≡ [] = drop_all (length content) content (omega arith) in
    let all : take (length content) content ≡ content = take_all (length content) content (omega arith) in
    rw (enough, none, all) refl

-- a pair is read back, and the others follow
node_read : (pair : Forgotten) (rest : List ℕ) → PairFits pair → u64_at (pair_text pair ++ rest) 0 ≡ pair.node
node_read pair rest fits = ap (λ (bytes : List ℕ). u64_at bytes 0) (append_assoc (u64_bytes pair.node) (u64_bytes pair.count) rest) ∙ u64_at-bytes pair.node (u64_bytes pair.count ++ rest) fits.0

count_read : (pair : Forgotten) (rest : List ℕ) → PairFits pair → u64_at (pair_text pair ++ rest) 8 ≡ pair.count
count_read pair rest fits =
    ap (λ (bytes : List ℕ). u64_at bytes 8) (append_assoc (u64_bytes pair.node) (u64_bytes pair.count) rest)
    ∙ u64_at-field (u64_bytes pair.node) rest pair.count 8 (length-u64_bytes pair.node) fits.1

rest_left : (pair : Forgotten) (rest : List ℕ) → drop 16 (pair_text pair ++ rest) ≡ rest
rest_left pair rest =
    drop_at (pair_text pair) rest 16 (omega (arith, length-append (u64_bytes pair.node) (u64_bytes pair.count), length-u64_bytes pair.node, length-u64_bytes pair.count))

pub pairs_of-text : (pairs : List Forgotten) → AllByRecursion PairFits pairs → pairs_of (length pairs) (pairs_text pairs) ≡ pairs
pairs_of-text [] fit = refl
pairs_of-text (pair ∷ pairs) fit =
    rw (node_read pair (pairs_text pairs) fit.0, count_read pair (pairs_text pairs) fit.0, rest_left pair (pairs_text pairs), pairs_of-text pairs fit.1) refl

pub last_pairs-text : (pairs : List Forgotten) → AllByRecursion PairFits pairs → last_pairs (length pairs) (pairs_text pairs) ≡ Ok pairs
last_pairs-text pairs fit =
    let counted : nat_eq (length (pairs_text pairs)) (16 * length pairs) ≡ true = eq-eqb (length (pairs_text pairs)) (16 * length pairs) (length-pairs_text pairs) in
    rw (counted, pairs_of-text pairs fit) refl
