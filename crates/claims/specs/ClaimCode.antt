-- How claims are told apart.
use Rattle.std.specs.Prelude.{◌≡◌, ℕ, Bool, List, ◌⊎◌, refl}
use Rattle.std.proofs.Common.{inl, inr}
use Rattle.std.specs.Coded.{Coded, code_by, coded×, coded⊎, coded_ℕ, coded_bool, coded_list}
use Rattle.claim_spec.specs.declared.claim.Claim.{Claim}
use Rattle.claim_spec.specs.declared.claim.ClaimKey.{ClaimKey}
use Rattle.claim_spec.specs.declared.claim.ClaimKey.TheVariants.{Node, Name}

abbrev pub one_of : ClaimKey → ℕ ⊎ List ℕ
one_of (Node n) = inl n
one_of (Name p) = inr p

abbrev pub key_of : ℕ ⊎ List ℕ → ClaimKey
key_of (inl n) = Node n
key_of (inr p) = Name p

pub same_one : (key : ClaimKey) → key_of (one_of key) ≡ key
same_one (Node n) = refl
same_one (Name p) = refl

abbrev pub claim_key_code : Coded ClaimKey
claim_key_code = code_by (ℕ ⊎ List ℕ) (coded⊎ coded_ℕ (coded_list coded_ℕ)) one_of key_of same_one

abbrev pub claim_code : Coded Claim
claim_code = code_by (ClaimKey × Bool) (coded× claim_key_code coded_bool) (λ c. (c.key, c.exclusive)) (λ p. record { key = p.0; exclusive = p.1 }) (λ _. refl)
