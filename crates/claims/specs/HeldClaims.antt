-- What contracts see of the claims that calls hold, and what each call of the table makes of them.
use Rattle.std.specs.Prelude.{◌≡◌, ◌≢◌, ℕ, ◌+◌, ◌-◌, ◌<◌, ◌≤◌, ◌^◌, min, Bool, true, false, List, Some, length, count_by, All, refl}
use Rattle.std.specs.Coded.{Coded, code_by, coded×, coded_ℕ, coded_list}
use Rattle.std.specs.FinMap as fin
use Rattle.std.specs.List.{list_any}
use Rattle.std.specs.Ordering.{nat_cmp}
use Rattle.claim_spec.specs.declared.claim.Claim.{Claim}
use Rattle.claim_spec.specs.declared.claim.ClaimKey.{ClaimKey}
use Rattle.claim_spec.specs.declared.claim.ClaimKey.TheVariants.{Node, Name}
use Rattle.claim_spec.specs.Conflicts.{any_conflict, AreApart}
use Rattle.claims.specs.ClaimCode.{claim_code}

-- the claims of each call that holds some, by the call's number; the number that the next call gets; and for how many
-- more calls, claims on nodes and claims on names there is room
pub record HeldClaims : Type 0 where
  pub held : fin.FinMap nat_cmp (List Claim)
  pub next : ℕ
  pub calls : ℕ
  pub nodes : ℕ
  pub names : ℕ

abbrev pub held_claims_code : Coded HeldClaims
held_claims_code =
    code_by
    (fin.FinMap nat_cmp (List Claim) × (ℕ × (ℕ × (ℕ × ℕ))))
    (coded× (fin.code coded_ℕ (coded_list claim_code)) (coded× coded_ℕ (coded× coded_ℕ (coded× coded_ℕ coded_ℕ))))
    (λ t. (t.held, (t.next, (t.calls, (t.nodes, t.names)))))
    (λ p. record { held = p.0; next = p.1.0; calls = p.1.1.0; nodes = p.1.1.1.0; names = p.1.1.1.1 })
    (λ _. refl)

-- ---- what is asked
-- a claim on a name
abbrev pub is_name : ClaimKey → Bool
is_name (Node n) = false
is_name (Name p) = true

abbrev pub is_named : Claim → Bool
is_named claim = is_name claim.key

-- a name is at most 1,024 bytes, as every object name of Cloud Storage is
abbrev pub Fits : ClaimKey → Type 0
Fits (Node n) = Unit {0}
Fits (Name p) = length p ≤ 1024

-- a call's claims find room
pub record HasRoom (table : HeldClaims) (wanted : List Claim) : Type 0 where
  pub calls : 1 ≤ table.calls
  pub nodes : length wanted ≤ table.nodes
  pub names : count_by is_named wanted ≤ table.names
  pub texts : All (λ claim. Fits claim.key) wanted
  pub numbers : table.next + length wanted < 2 ^ 62

-- there is room for so many more calls and claims, 64 of the claims at least on names where they are as many
pub record IsReserved (table : HeldClaims) (more : ℕ) : Type 0 where
  pub calls : more ≤ table.calls
  pub nodes : more ≤ table.nodes
  pub names : min more 64 ≤ table.names

-- there is room for no fewer calls and claims than before
pub record HasAsMuchRoom (old new : HeldClaims) : Type 0 where
  pub calls : old.calls ≤ new.calls
  pub nodes : old.nodes ≤ new.nodes
  pub names : old.names ≤ new.names

-- ---- what calls of the table make of it
-- nothing is held, and there is no room
abbrev pub no_claims : HeldClaims
no_claims = record { held = fin.empty; next = 0; calls = 0; nodes = 0; names = 0 }

-- a call holds what it wanted, under the next number; numbers rise by the claims that are made, and by one for the call
pub record Adds (old new : HeldClaims) (wanted : List Claim) : Type 0 where
  pub held : new.held ≡ fin.insert old.held old.next wanted
  pub next : new.next ≡ old.next + length wanted + 1
  pub calls : new.calls ≡ old.calls - 1
  pub nodes : old.nodes ≤ new.nodes + length wanted
  pub names : old.names ≤ new.names + count_by is_named wanted

-- a call holds nothing more
abbrev pub dropped : HeldClaims → ℕ → HeldClaims
dropped table number = record table { held = fin.remove table.held number }

-- whether one of the wanted claims conflicts with one that is held
abbrev pub any_conflict_held : HeldClaims → List Claim → Bool
any_conflict_held table wanted = list_any (any_conflict wanted) (fin.values table.held)

-- ---- what holds of every table
pub record IsTable (held : fin.FinMap nat_cmp (List Claim)) (next : ℕ) : Type 0 where
  -- numbers are given once, and rise
  pub given : (number : ℕ) (claims : List Claim) → fin.get held number ≡ Some claims → number < next
  -- no two held claims of different numbers conflict
  pub apart : (m n : ℕ) (mine others : List Claim) → m ≢ n → fin.get held m ≡ Some mine → fin.get held n ≡ Some others → AreApart mine others
