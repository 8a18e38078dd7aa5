-- Touched blocks of a content are at most its blocks.
use Rattle.std.proofs.Common.{ℕ, ◌+◌, ◌*◌, ◌<◌, List, [], ◌∷◌, IsTrue, refl, length, nat_eq, arith}
use Rattle.std.proofs.lemmas.Bool.{eq-eqb, or_left, or_right}
use Rattle.staging_spec.specs.Blocks.{is_among, AllOver, Rise}
use Rattle.staging_spec.specs.Laws.{TouchedAreFew}

first_inside : (n : ℕ) (ns : List ℕ) (size : ℕ) → ((b : ℕ) → IsTrue (is_among (n ∷ ns) b) → b * 65536 < size) → n * 65536 < size
first_inside n ns size inside = inside n (or_left (nat_eq n n) (is_among ns n) (eq-eqb n n refl))

few_over : (ns : List ℕ) (low size : ℕ) → AllOver low ns → Rise ns → ((b : ℕ) → IsTrue (is_among ns b) → b * 65536 < size) → low * 65536 < size → (length ns + low) * 65536 < size
few_over [] low size over rise inside lt = omega arith
few_over (n ∷ ns) low size over rise inside lt =
    let more = few_over ns n size rise.0 rise.1 (λ b t. inside b (or_right (nat_eq n b) (is_among ns b) t)) (first_inside n ns size inside) in
    let a = over.0 in
    omega arith

pub touched_few : TouchedAreFew
touched_few [] size rise inside = omega arith
touched_few (n ∷ ns) size rise inside =
    let more = few_over ns n size rise.0 rise.1 (λ b t. inside b (or_right (nat_eq n b) (is_among ns b) t)) (first_inside n ns size inside) in
    omega arith
