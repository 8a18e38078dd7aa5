-- The names of a drill hold no zero byte, and are short.
use Rattle.std.proofs.Common.{◌≡◌, refl, ap, ◌∙◌, ℕ, zero, suc, List, [], ◌∷◌, arith}
use Rattle.std.specs.Prelude.{Bool, true, false, ◌||◌, ◌==◌, ◌/◌, ◌%◌, if◌then◌else◌}
use Rattle.std.specs.Fmt.{decimal, digits, digits_onto, digit_glyph}
use Rattle.std.specs.List.{list_any}
use Rattle.std.proofs.lemmas.Bool.Decides.{nat_tests}
use Rattle.fuse_requests.specs.Parts.{is_zero}
use Rattle.fuse_requests.specs.Text.{IsName}

glyph : (d : ℕ) → is_zero (digit_glyph false d) ≡ false
glyph d = grind (arith, nat_tests)

name_more : (b : ℕ) (name : List ℕ) → is_zero b ≡ false → IsName name → IsName (b ∷ name)
name_more b name is later = ap (λ (t : Bool). t || list_any is_zero name) is ∙ later

name_if : (t : Bool) (v w : List ℕ) → IsName v → IsName w → IsName (if t then v else w)
name_if true v w is is' = is
name_if false v w is is' = is'

digits_onto-IsName : (k n : ℕ) (acc : List ℕ) → IsName acc → IsName (digits_onto k 10 false n acc)
digits_onto-IsName zero n acc is = is
digits_onto-IsName (suc k) n acc is =
    let next = name_more (digit_glyph false (n % 10)) acc (glyph (n % 10)) is in
    name_if (n / 10 == 0) (digit_glyph false (n % 10) ∷ acc) (digits_onto k 10 false (n / 10) (digit_glyph false (n % 10) ∷ acc)) next
    (digits_onto-IsName k (n / 10) (digit_glyph false (n % 10) ∷ acc) next)

-- a number is a name
pub decimal-IsName : (n : ℕ) → IsName (decimal n)
unfolding digits
decimal-IsName n = digits_onto-IsName 64 n [] refl

-- behind a letter it is one too
pub letter-IsName : (letter n : ℕ) → is_zero letter ≡ false → IsName (letter ∷ decimal n)
letter-IsName letter n is = name_more letter (decimal n) is (decimal-IsName n)
