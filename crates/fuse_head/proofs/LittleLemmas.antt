-- Laws of the little-endian words, for callers: a field of lists that are joined or cut, and a field read
-- back from the bytes of its number.
use Rattle.std.proofs.Common.{◌≡◌, ◌≤◌, ◌<◌, ◌+◌, ◌^◌, ℕ, List, ◌++◌, ◌∙◌, length, drop, ap, arith}
use Rattle.std.proofs.lemmas.List.{drop_at, drop-append-le, length-drop}
use Rattle.std.proofs.Math.Seq.{drop-append-add}
use Rattle.byteorder.specs.Endian.{little_number}
use Rattle.byteorder.specs.Numbers.{length-bytes_low_first, little_from-append, little_number-reads_back}
use Rattle.fuse_head.specs.Little.{u16_at, u16_bytes, u32_at, u32_bytes, u64_at, u64_bytes}

-- a number that lies in the first list isn't changed by what is joined behind
number-append : (n : ℕ) (xs ys : List ℕ) (place : ℕ) → place + n ≤ length xs → little_number n (drop place (xs ++ ys)) ≡ little_number n (drop place xs)
number-append n xs ys place within =
    rw (drop-append-le place xs ys (omega arith)) (little_from-append n (drop place xs) ys (omega (arith, length-drop place xs)))

-- a number in the second of two lists
number-append_past : (n : ℕ) (xs ys : List ℕ) (place : ℕ) → little_number n (drop (length xs + place) (xs ++ ys)) ≡ little_number n (drop place ys)
number-append_past n xs ys place = ap (little_number n) (drop-append-add xs ys place)

pub u16_at-append : (xs ys : List ℕ) (place : ℕ) → place + 2 ≤ length xs → u16_at (xs ++ ys) place ≡ u16_at xs place
unfolding u16_at
u16_at-append xs ys place within = number-append 2 xs ys place within

pub u32_at-append : (xs ys : List ℕ) (place : ℕ) → place + 4 ≤ length xs → u32_at (xs ++ ys) place ≡ u32_at xs place
unfolding u32_at
u32_at-append xs ys place within = number-append 4 xs ys place within

pub u64_at-append : (xs ys : List ℕ) (place : ℕ) → place + 8 ≤ length xs → u64_at (xs ++ ys) place ≡ u64_at xs place
unfolding u64_at
u64_at-append xs ys place within = number-append 8 xs ys place within

pub u16_at-append_past : (xs ys : List ℕ) (place : ℕ) → u16_at (xs ++ ys) (length xs + place) ≡ u16_at ys place
unfolding u16_at
u16_at-append_past xs ys place = number-append_past 2 xs ys place

pub u32_at-append_past : (xs ys : List ℕ) (place : ℕ) → u32_at (xs ++ ys) (length xs + place) ≡ u32_at ys place
unfolding u32_at
u32_at-append_past xs ys place = number-append_past 4 xs ys place

pub u64_at-append_past : (xs ys : List ℕ) (place : ℕ) → u64_at (xs ++ ys) (length xs + place) ≡ u64_at ys place
unfolding u64_at
u64_at-append_past xs ys place = number-append_past 8 xs ys place

pub length-u16_bytes : (n : ℕ) → length (u16_bytes n) ≡ 2
unfolding u16_bytes
length-u16_bytes n = length-bytes_low_first 0 2 n

pub length-u32_bytes : (n : ℕ) → length (u32_bytes n) ≡ 4
unfolding u32_bytes
length-u32_bytes n = length-bytes_low_first 0 4 n

pub length-u64_bytes : (n : ℕ) → length (u64_bytes n) ≡ 8
unfolding u64_bytes
length-u64_bytes n = length-bytes_low_first 0 8 n

-- the field that begins with the bytes of a number is that number
pub u16_at-bytes : (n : ℕ) (rest : List ℕ) → n < 2 ^ 16 → u16_at (u16_bytes n ++ rest) 0 ≡ n
unfolding u16_at u16_bytes
u16_at-bytes n rest fits = little_number-reads_back 2 n rest fits

pub u32_at-bytes : (n : ℕ) (rest : List ℕ) → n < 2 ^ 32 → u32_at (u32_bytes n ++ rest) 0 ≡ n
unfolding u32_at u32_bytes
u32_at-bytes n rest fits = little_number-reads_back 4 n rest fits

pub u64_at-bytes : (n : ℕ) (rest : List ℕ) → n < 2 ^ 64 → u64_at (u64_bytes n ++ rest) 0 ≡ n
unfolding u64_at u64_bytes
u64_at-bytes n rest fits = little_number-reads_back 8 n rest fits

-- the same behind other bytes
pub u32_at-field : (xs rest : List ℕ) (n place : ℕ) → length xs ≡ place → n < 2 ^ 32 → u32_at (xs ++ (u32_bytes n ++ rest)) place ≡ n
unfolding u32_at
u32_at-field xs rest n place here fits =
    ap (little_number 4) (drop_at xs (u32_bytes n ++ rest) place here) ∙ u32_at-bytes n rest fits

pub u64_at-field : (xs rest : List ℕ) (n place : ℕ) → length xs ≡ place → n < 2 ^ 64 → u64_at (xs ++ (u64_bytes n ++ rest)) place ≡ n
unfolding u64_at
u64_at-field xs rest n place here fits =
    ap (little_number 8) (drop_at xs (u64_bytes n ++ rest) place here) ∙ u64_at-bytes n rest fits
