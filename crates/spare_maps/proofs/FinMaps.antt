-- What is found in a finite map from numbers, or from bytes, after one change.
use Rattle.std.proofs.Common.{◌≡◌, ◌≢◌, ℕ, Bool, true, false, cond, List, Option, Some, None, refl, sym, ap, ◌∙◌, ◌⊎◌, inl, inr, nat_eq, nat_cmp}
use Rattle.std.proofs.lemmas.Bool.{false≢true}
use Rattle.std.proofs.lemmas.Bool.Decides.{Decides-eqb}
use Rattle.std.proofs.lemmas.Map.Text.{is_eq-slice_cmp}
use Rattle.std.proofs.lemmas.Slice.Eq.{bytes_eq-Decides}
use Rattle.std.specs.Bool.{Decides}
use Rattle.std.specs.Cmp.{nat_cmp_total}
use Rattle.std.specs.Cmp.Lexicographic.{slice_cmp, nat_list_cmp_total}
use Rattle.std.specs.FinMap as fin
use Rattle.std.specs.Str.{bytes_eq}
use Rattle.std.proofs.lemmas.Option.{none-some}
use Rattle.base_laws.proofs.Options.{same_some}
use Rattle.base_laws.proofs.Tests.{is_eq-nat_cmp}

-- ---- a choice by a test that decides
module _ {X P : Type 0} (b : Bool) (decides : Decides b P) where
  put_at : (v x : X) (o : Option X) → cond b (Some v) o ≡ Some x → (P × (v ≡ x)) ⊎ (o ≡ Some x)
  put_at v x o = elim b as (λ t. b ≡ t → cond t (Some v) o ≡ Some x → (P × (v ≡ x)) ⊎ (o ≡ Some x)) [
    | true ↦ λ t e. inl (decides.0 t, same_some v x e)
    | false ↦ λ t e. inr e
  ] refl

  taken_at : (x : X) (o : Option X) → cond b None o ≡ Some x → (¬ P) × (o ≡ Some x)
  taken_at x o = elim b as (λ t. b ≡ t → cond t None o ≡ Some x → (¬ P) × (o ≡ Some x)) [
    | true ↦ λ t e. absurd (none-some x e)
    | false ↦ λ t e. (λ p. false≢true (sym t ∙ decides.1 p), e)
  ] refl

  holds_at : (y n : Option X) → P → cond b y n ≡ y
  holds_at y n p = ap (λ t. cond t y n) (decides.1 p)

  fails_at : (y n : Option X) → ¬ P → cond b y n ≡ n
  fails_at y n not_p = elim b as (λ t. b ≡ t → cond t y n ≡ n) [ true ↦ λ t. absurd (not_p (decides.0 t)) | false ↦ λ t. refl ] refl

-- ---- from numbers
module _ {X : Type 0} (m : fin.FinMap nat_cmp X) (k : ℕ) where
  pub get-insert_number : (v : X) (q : ℕ) → fin.get (fin.insert m k v) q ≡ cond (nat_eq q k) (Some v) (fin.get m q)
  get-insert_number v q = fin.get-insert nat_cmp_total m k v q ∙ ap (λ b. cond b (Some v) (fin.get m q)) (is_eq-nat_cmp q k)

  pub get-remove_number : (q : ℕ) → fin.get (fin.remove m k) q ≡ cond (nat_eq q k) None (fin.get m q)
  get-remove_number q = fin.get-remove nat_cmp_total m k q ∙ ap (λ b. cond b None (fin.get m q)) (is_eq-nat_cmp q k)

  -- what is found after a value was put is that value, or was there
  pub number_put : (v x : X) (q : ℕ) → fin.get (fin.insert m k v) q ≡ Some x → ((q ≡ k) × (v ≡ x)) ⊎ (fin.get m q ≡ Some x)
  number_put v x q e = put_at (nat_eq q k) (Decides-eqb q k) v x (fin.get m q) (sym (get-insert_number v q) ∙ e)

  pub number_put_same : (v : X) → fin.get (fin.insert m k v) k ≡ Some v
  number_put_same v = get-insert_number v k ∙ holds_at (nat_eq k k) (Decides-eqb k k) (Some v) (fin.get m k) refl

  pub number_put_other : (v : X) (q : ℕ) → q ≢ k → fin.get (fin.insert m k v) q ≡ fin.get m q
  number_put_other v q n = get-insert_number v q ∙ fails_at (nat_eq q k) (Decides-eqb q k) (Some v) (fin.get m q) n

  -- what is found after a number was taken away was there, under another number
  pub number_taken : (x : X) (q : ℕ) → fin.get (fin.remove m k) q ≡ Some x → (q ≢ k) × (fin.get m q ≡ Some x)
  number_taken x q e = taken_at (nat_eq q k) (Decides-eqb q k) x (fin.get m q) (sym (get-remove_number q) ∙ e)

  pub number_taken_same : fin.get (fin.remove m k) k ≡ None
  number_taken_same = get-remove_number k ∙ holds_at (nat_eq k k) (Decides-eqb k k) None (fin.get m k) refl

  pub number_taken_other : (q : ℕ) → q ≢ k → fin.get (fin.remove m k) q ≡ fin.get m q
  number_taken_other q n = get-remove_number q ∙ fails_at (nat_eq q k) (Decides-eqb q k) None (fin.get m q) n

-- ---- from bytes
module _ {X : Type 0} (m : fin.FinMap (slice_cmp nat_cmp) X) (k : List ℕ) where
  pub get-insert_name : (v : X) (q : List ℕ) → fin.get (fin.insert m k v) q ≡ cond (bytes_eq q k) (Some v) (fin.get m q)
  get-insert_name v q = fin.get-insert nat_list_cmp_total m k v q ∙ ap (λ b. cond b (Some v) (fin.get m q)) (is_eq-slice_cmp q k)

  pub get-remove_name : (q : List ℕ) → fin.get (fin.remove m k) q ≡ cond (bytes_eq q k) None (fin.get m q)
  get-remove_name q = fin.get-remove nat_list_cmp_total m k q ∙ ap (λ b. cond b None (fin.get m q)) (is_eq-slice_cmp q k)

  pub name_put : (v x : X) (q : List ℕ) → fin.get (fin.insert m k v) q ≡ Some x → ((q ≡ k) × (v ≡ x)) ⊎ (fin.get m q ≡ Some x)
  name_put v x q e = put_at (bytes_eq q k) (bytes_eq-Decides q k) v x (fin.get m q) (sym (get-insert_name v q) ∙ e)

  pub name_taken : (x : X) (q : List ℕ) → fin.get (fin.remove m k) q ≡ Some x → (q ≢ k) × (fin.get m q ≡ Some x)
  name_taken x q e = taken_at (bytes_eq q k) (bytes_eq-Decides q k) x (fin.get m q) (sym (get-remove_name q) ∙ e)
