-- What is found among the files of a table, and as one map after a change.
use Rattle.std.proofs.Common.{◌≡◌, ◌≢◌, ℕ, Bool, true, false, cond, List, [], ◌∷◌, ◌⊎◌, inl, inr, Option, None, Some, refl, sym, ap, ◌∙◌, map, nat_cmp}
use Rattle.std.proofs.lemmas.Bool.{cases_eq}
use Rattle.std.specs.Cmp.{nat_cmp_total}
use Rattle.std.specs.FinMap as fin
use Rattle.std.specs.Option.{option_map}
use Rattle.std.specs.Ordering.{eq_by_cmp}
use Rattle.block_pool.specs.Chains.{ChainMap}
use Rattle.spare_maps.proofs.FinMaps.{number_put_same, number_put_other, number_taken_same, number_taken_other}
use Rattle.staging_table.specs.Tables.{content_of, files_of}
use Rattle.staging_table.specs.declared.held.Held.{Held}

module _ (chains : ChainMap (List ℕ)) where
  find-files : (es : List (ℕ × Held)) (q : ℕ) → fin.find nat_cmp q (map (λ e. (e.0, content_of chains e.1)) es) ≡ option_map (content_of chains) (fin.find nat_cmp q es)
  find-files [] q = refl
  find-files (e ∷ es) q = step (eq_by_cmp nat_cmp q e.0) (find-files es q)
    where
      step : (t : Bool) → fin.find nat_cmp q (map (λ (e : ℕ × Held). (e.0, content_of chains e.1)) es) ≡ option_map (content_of chains) (fin.find nat_cmp q es)
          → cond t (Some (content_of chains e.1)) (fin.find nat_cmp q (map (λ (e : ℕ × Held). (e.0, content_of chains e.1)) es))
          ≡ option_map (content_of chains) (cond t (Some e.1) (fin.find nat_cmp q es))
      step true more = refl
      step false more = more

  -- a file is found by what is held of it
  pub get-files : (held : fin.FinMap nat_cmp Held) (q : ℕ) → fin.get (files_of chains held) q ≡ option_map (content_of chains) (fin.get held q)
  get-files held q = fin.get-from_entries nat_cmp_total (map (λ e. (e.0, content_of chains e.1)) (fin.entries held)) q
      ∙ find-files (fin.entries held) q ∙ ap (option_map (content_of chains)) (sym (fin.get-entries held q))

-- The files of two tables, over two pools, are the same but for one.
pub record SameBut (was now : ChainMap (List ℕ)) (held left : fin.FinMap nat_cmp Held) (node : ℕ) : Type 0 where
  pub others : (q : ℕ) → q ≢ node → fin.get left q ≡ fin.get held q
  pub shown : (q : ℕ) (file : Held) → q ≢ node → fin.get held q ≡ Some file → content_of now file ≡ content_of was file

module _ (was now : ChainMap (List ℕ)) (held left : fin.FinMap nat_cmp Held) (node : ℕ) (same : SameBut was now held left node) where
  other : (q : ℕ) → q ≢ node → fin.get (files_of now left) q ≡ fin.get (files_of was held) q
  other q n = get-files now left q ∙ ap (option_map (content_of now)) (same.others q n) ∙ given (fin.get held q) refl ∙ sym (get-files was held q)
    where
      given : (o : Option Held) → fin.get held q ≡ o → option_map (content_of now) (fin.get held q) ≡ option_map (content_of was) (fin.get held q)
      given None e = ap (option_map (content_of now)) e ∙ sym (ap (option_map (content_of was)) e)
      given (Some file) e = ap (option_map (content_of now)) e ∙ ap Some (same.shown q file n e) ∙ sym (ap (option_map (content_of was)) e)

  -- the one is put in
  pub files-put : (file : Held) → fin.get left node ≡ Some file → files_of now left ≡ fin.insert (files_of was held) node (content_of now file)
  files-put file here = fin.same_map nat_cmp_total fin.nat_cmp-IsAntisymmetric _ _ (λ q. pick q (cases_eq q node))
    where
      pick : (q : ℕ) → (q ≡ node) ⊎ (q ≡ node → ⊥) → fin.get (files_of now left) q ≡ fin.get (fin.insert (files_of was held) node (content_of now file)) q
      pick q (inl e) = ap (fin.get (files_of now left)) e ∙ get-files now left node ∙ ap (option_map (content_of now)) here
          ∙ sym (ap (fin.get (fin.insert (files_of was held) node (content_of now file))) e ∙ number_put_same (files_of was held) node (content_of now file))
      pick q (inr n) = other q n ∙ sym (number_put_other (files_of was held) node (content_of now file) q n)

  -- the one is let go
  pub files-taken : fin.get left node ≡ None → files_of now left ≡ fin.remove (files_of was held) node
  files-taken none = fin.same_map nat_cmp_total fin.nat_cmp-IsAntisymmetric _ _ (λ q. pick q (cases_eq q node))
    where
      pick : (q : ℕ) → (q ≡ node) ⊎ (q ≡ node → ⊥) → fin.get (files_of now left) q ≡ fin.get (fin.remove (files_of was held) node) q
      pick q (inl e) = ap (fin.get (files_of now left)) e ∙ get-files now left node ∙ ap (option_map (content_of now)) none
          ∙ sym (ap (fin.get (fin.remove (files_of was held) node)) e ∙ number_taken_same (files_of was held) node)
      pick q (inr n) = other q n ∙ sym (number_taken_other (files_of was held) node q n)
