-- The first and the last number along a range that pass a test, while they are found.
use Rattle.std.specs.Prelude.{◌≡◌, ℕ, ◌-◌, ◌<◌, ◌≤◌, Bool, true, false}

-- All numbers from low up to high that pass a test lie from the first up to the end, and both ends pass; 0 and 0 where none does.
pub record Spans (test : ℕ → Bool) (low high first end : ℕ) : Type 0 where
  pub outside : (i : ℕ) → low ≤ i → i < high → test i ≡ true → (first ≤ i) × (i < end)
  pub least : first < end → (low ≤ first) × (test first ≡ true)
  pub most : first < end → (end ≤ high) × (test (end - 1) ≡ true)
  pub none : end ≤ first → (first ≡ 0) × (end ≡ 0)

-- From mid up to high exactly a run of numbers passes.
pub record IsRun (test : ℕ → Bool) (low mid high from upto : ℕ) : Type 0 where
  pub ordered : (low ≤ mid) × (mid ≤ high)
  pub inside : from < upto → (mid ≤ from) × (upto ≤ high)
  pub all : (i : ℕ) → from ≤ i → i < upto → test i ≡ true
  pub passes : (i : ℕ) → mid ≤ i → i < high → test i ≡ true → (from ≤ i) × (i < upto)

-- The numbers from mid up to high are the rest of a block: where it is held none passes, else exactly a run of them.
pub record IsRest (held : Bool) (test : ℕ → Bool) (low mid high from upto : ℕ) : Type 0 where
  pub ordered : (low ≤ mid) × (mid ≤ high)
  pub run : held ≡ false → IsRun test low mid high from upto
  pub nothing : held ≡ true → (i : ℕ) → mid ≤ i → i < high → test i ≡ true → ⊥
