-- What `read_workers` leaves: the option as two words.
use Rattle.std.proofs.Common.{◌≡◌, ◌≢◌, ℕ, ◌≤◌, List, codes, rules, subst, MatchResult}
use Rattle.std.specs.Fmt.{decimal}
use Rattle.cli_words.proofs.FormLaws.{two_words}
use Rattle.cli_words.proofs.option.read_workers.Goals as goal

pub returns-in-len2 : goal.returns-in-len2
returns-in-len2 c = record {
  cases = two_words c.workers_of-in-len2.result c.args.words.now c.name-item.result c.digits-item.result c.in-len2.len_at_least c.in-len2.len_below
      c.name-item.is c.digits-item.is (let named : c.name-item.result ≡ codes "--workers" = search rules in named)
      (subst (λ (d : List ℕ). MatchResult c.workers_of-in-len2.result (λ n. (1 ≤ n) × (n ≤ 64) × (d ≡ decimal n)) (λ _. (n : ℕ) → 1 ≤ n → n ≤ 64 → d ≢ decimal n))
      c.as_str-in-len2.ensures.bytes c.workers_of-in-len2.ensures.cases);
}
