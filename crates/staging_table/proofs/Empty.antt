-- A table in which nothing is staged.
use Rattle.std.proofs.Common.{◌≡◌, ℕ, zero, suc, List, [], None, Some, refl, sym, ap, ◌∙◌, length, nat_cmp, IsSome, is_some, arith}
use Rattle.std.proofs.lemmas.Bool.{false≢true}
use Rattle.std.specs.Cmp.{nat_cmp_total}
use Rattle.std.specs.FinMap as fin
use Rattle.std.specs.Option.{option_map, unwrap_or}
use Rattle.block_pool.specs.Chains.{ChainMap}
use Rattle.block_pool.specs.Pool.{Pool, total}
use Rattle.spare_maps.specs.SpareMaps.{Numbered}
use Rattle.staging_spec.proofs.FileLaws.{blocks-empty}
use Rattle.staging_spec.specs.StagedFiles.{blocks_in}
use Rattle.staging_table.specs.Tables.{content_of, files_of, HoldsStagings}
use Rattle.staging_table.specs.declared.held.Held.{Held}
use Rattle.staging_table.proofs.Mapped.{get-files}

-- nothing is found in it
nothing : {X : Type 0} (m : fin.FinMap nat_cmp X) → m ≡ fin.empty → (q : ℕ) (x : X) → fin.get m q ≡ Some x → ⊥
nothing {X = X} m e q x there = let never : None ≡ Some x = sym (fin.get-empty nat_cmp q) ∙ ap (λ n. fin.get n q) (sym e) ∙ there in cc

pub files-empty : (chains : ChainMap (List ℕ)) (held : fin.FinMap nat_cmp Held) → held ≡ fin.empty → files_of chains held ≡ fin.empty
files-empty chains held e = fin.same_map nat_cmp_total fin.nat_cmp-IsAntisymmetric _ _ (λ q.
    get-files chains held q ∙ ap (λ m. option_map (content_of chains) (fin.get m q)) e ∙ ap (option_map (content_of chains)) (fin.get-empty nat_cmp q) ∙ sym (fin.get-empty nat_cmp q))

total-empty : (chains : ChainMap (List ℕ)) → chains ≡ fin.empty → (n : ℕ) → total chains n ≡ 0
total-empty chains e zero = refl
total-empty chains e (suc n) =
    let none : fin.get chains n ≡ None = ap (λ m. fin.get m n) e ∙ fin.get-empty nat_cmp n in
    let more = total-empty chains e n in
    let here : length (unwrap_or (fin.get chains n) []) ≡ 0 = ap (λ o. length (unwrap_or o [])) none in
    omega arith

pub empty-holds : (pool : Pool) (held : Numbered Held) (blocks : ℕ) → pool ≡ record { chains = fin.empty; free = blocks; blocks = blocks } → held.map ≡ fin.empty → HoldsStagings pool held 0
empty-holds pool held blocks is none = record {
  valid = record {
    rising = λ head es e. absurd (nothing pool.chains chains head es e);
    sized = λ head es e. absurd (nothing pool.chains chains head es e);
    some = λ head es e. absurd (nothing pool.chains chains head es e);
    heads = λ head some. absurd (no_head head some);
    all = (let t = total-empty pool.chains chains pool.blocks in let f = free in let b = all in omega arith);
  };
  staged = λ node file e. absurd (nothing held.map none node file e);
  apart = λ node other file its head e. absurd (nothing held.map none node file e);
  blocks = (let n = ap blocks_in (files-empty pool.chains held.map none) ∙ blocks-empty in let f = free in let b = all in omega arith);
  room = omega arith;
}
  where
    chains : pool.chains ≡ fin.empty
    chains = ap (λ p. p.chains) is

    free : pool.free ≡ blocks
    free = ap (λ p. p.free) is

    all : pool.blocks ≡ blocks
    all = ap (λ p. p.blocks) is

    no_head : (head : ℕ) → IsSome (fin.get pool.chains head) → ⊥
    no_head head some = false≢true (sym (ap is_some (ap (λ m. fin.get m head) chains ∙ fin.get-empty nat_cmp head)) ∙ some)
