-- How many claims are on a key, and how many of them are exclusive: what the table keeps for each key that is claimed.
use Rattle.std.specs.Prelude.{ℕ, ◌+◌, ◌-◌, Bool, nat_lt, if◌then◌else◌, refl}
use Rattle.std.specs.Coded.{Coded, code_by, coded×, coded_ℕ}
use Rattle.claims.specs.declared.tally.Tally.{Tally}

abbrev pub tally_code : Coded Tally
tally_code = code_by (ℕ × ℕ) (coded× coded_ℕ coded_ℕ) (λ t. (t.claims, t.exclusive)) (λ p. record { claims = p.0; exclusive = p.1 }) (λ _. refl)

abbrev pub no_tally : Tally
no_tally = record { claims = 0; exclusive = 0 }

-- one claim
abbrev pub one_tally : Bool → Tally
one_tally exclusive = record { claims = 1; exclusive = if exclusive then 1 else 0 }

-- the claims of both
abbrev pub plus : Tally → Tally → Tally
plus t u = record { claims = t.claims + u.claims; exclusive = t.exclusive + u.exclusive }

-- the claims of one without those of the other
abbrev pub less : Tally → Tally → Tally
less t u = record { claims = t.claims - u.claims; exclusive = t.exclusive - u.exclusive }

-- whether one more claim conflicts with those that are tallied on its key
abbrev pub tally_conflict : Tally → Bool → Bool
tally_conflict tally exclusive = if exclusive then nat_lt 0 tally.claims else nat_lt 0 tally.exclusive
