-- The claims of a request: a node or a name, shared with other calls that only look at it, or alone.
use Rattle.std.specs.Prelude.{ℕ, true, false, List}
use Rattle.claim_spec.specs.declared.claim.Claim.{Claim}
use Rattle.claim_spec.specs.declared.claim.ClaimKey.TheVariants.{Node, Name}

abbrev pub shares_node : ℕ → Claim
shares_node node = record { key = Node node; exclusive = false }

abbrev pub owns_node : ℕ → Claim
owns_node node = record { key = Node node; exclusive = true }

abbrev pub shares_name : List ℕ → Claim
shares_name name = record { key = Name name; exclusive = false }

abbrev pub owns_name : List ℕ → Claim
owns_name name = record { key = Name name; exclusive = true }
