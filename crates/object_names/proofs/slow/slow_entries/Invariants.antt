-- What is shown under the names so far.
use Rattle.std.proofs.Common.{◌≡◌, ℕ, List, None, take, cond}
use Rattle.std.specs.BTreeMap.{get_by_text}
use Rattle.std.specs.List.{list_any}
use Rattle.std.specs.Str.{bytes_eq}
use Rattle.object_names.specs.ShownNames.{kind_shown}
use Rattle.object_names.specs.Slow.{listed_of}
use Rattle.object_names.proofs.slow.slow_entries.Given as goal

abbrev pub invariant-loop-name : goal.invariant-loop-name
invariant-loop-name l = (q : List ℕ) → get_by_text l.entries q ≡ cond (list_any (bytes_eq q) (take l.name-index l.name-items)) (kind_shown (listed_of l.source) q) None
