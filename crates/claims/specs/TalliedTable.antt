-- What holds of the fields of the table of claims.
use Rattle.std.specs.Prelude.{◌≡◌, ℕ, ◌≤◌, ◌^◌, List}
use Rattle.std.specs.Cmp.Lexicographic.{slice_cmp}
use Rattle.std.specs.FinMap as fin
use Rattle.std.specs.Ordering.{nat_cmp}
use Rattle.claim_spec.specs.declared.claim.Claim.{Claim}
use Rattle.claim_spec.specs.declared.claim.ClaimKey.{ClaimKey}
use Rattle.claims.specs.declared.tally.Tally.{Tally}
use Rattle.claims.specs.HeldClaims.{IsTable}
use Rattle.claims.specs.Tallies.{tally_at, tally_of_all, size_of_all}

-- the calls' claims are a table, and each key's tally is that of the claims that are held
pub record IsTallied (held : fin.FinMap nat_cmp (List Claim)) (nodes : fin.FinMap nat_cmp Tally) (names : fin.FinMap (slice_cmp nat_cmp) Tally) (next : ℕ) : Type 0 where
  pub table : IsTable held next
  pub tallies : (key : ClaimKey) → tally_at nodes names key ≡ tally_of_all key (fin.values held)
  pub size : size_of_all (fin.values held) ≤ next
  pub bound : next ≤ 2 ^ 62
