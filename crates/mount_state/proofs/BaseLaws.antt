-- A base that covers what is wanted has bytes of some source.
use Rattle.std.proofs.Common.{ℕ, List, ◌++◌, Option, Some, None, length, take, drop, replicate, sym, ap, ◌∙◌}
use Rattle.std.proofs.Math.Seq.{drop-append_seam, take-length}
use Rattle.std.proofs.lemmas.List.{length-replicate}
use Rattle.mount_rules.specs.Plans.{Contents, HoldsWanted, Wanted}

-- zeros before the bytes, whatever the name and the generation
abbrev pub padded : ℕ → List ℕ → Contents
padded first bytes name generation = replicate first 0 ++ bytes

pub padded_holds : (first : ℕ) (bytes : List ℕ) (found : Option Wanted) → HoldsWanted (padded first bytes) found first bytes
padded_holds first bytes None = tt
padded_holds first bytes (Some wanted) =
    ap (take (length bytes)) (ap (λ n. drop n (replicate first 0 ++ bytes)) (sym (length-replicate first 0)) ∙ drop-append_seam (replicate first 0) bytes)
    ∙ take-length bytes
