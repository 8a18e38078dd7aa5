-- What a bucket tells of one object, as plain data.
use Rattle.std.specs.Prelude.{ℕ, List, map}
use Rattle.std.specs.Ordering.{nat_cmp}
use Rattle.std.specs.declared.cmp.Ordering.{Ordering}
use Rattle.std.specs.Cmp.Lexicographic.{slice_cmp}
use Rattle.std.specs.List.Sorted.{IsStrictlySortedBy}
use Rattle.bucket_api.specs.declared.objects.Pair.{Pair}

-- the order of texts, by their bytes
abbrev pub text_cmp : List ℕ → List ℕ → Ordering
text_cmp = slice_cmp nat_cmp

-- the fields of Cloud Storage's object resource that this bucket has
pub record Metadata : Type 0 where
  pub name : List ℕ
  pub generation : ℕ
  pub metageneration : ℕ
  pub size : ℕ
  pub updated : ℕ
  pub pairs : List Pair

-- the keys of the pairs rise, so none stands twice
abbrev pub KeysRise : List Pair → Type 0
KeysRise pairs = IsStrictlySortedBy text_cmp (map (λ p. p.key) pairs)
