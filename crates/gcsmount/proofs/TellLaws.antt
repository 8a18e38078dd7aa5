-- A line that is told in two parts.
use Rattle.std.proofs.Common.{◌≡◌, ◌<◌, ◌≤◌, ◌+◌, ◌++◌, List, ℕ, length, take, inl, inr, sym, ap, subst, ◌∙◌, ◌⊎◌, arith}
use Rattle.std.specs.Io.KnownBytes.{Appends}
use Rattle.std.proofs.KnownBytes.{Appends-trans}
use Rattle.std.proofs.lemmas.Bool.{cases_lt}
use Rattle.std.proofs.Math.Seq.{take-append-add, take-append_seam}
use Rattle.std.proofs.lemmas.List.{take-append-le}
use Rattle.io_ports.specs.Faults.{Rose}
use Rattle.io_ports.specs.Ports.{Port}
use Rattle.io_ports.specs.Streams.{AppendsPrefix}
use Rattle.gcsmount.specs.Tool.{Tells}
use Rattle.gcsmount.proofs.ServeLaws.{take_all}

pub tells_both : (told : ℕ) (first last : List ℕ) (notes between notes' : Port) (status : ℕ) → Appends notes.bytes between.bytes first → between.faults ≡ notes.faults
    → Tells told last between notes' status → Tells told (first ++ last) notes notes' status
tells_both told first last notes between notes' status put held (inl (is, appended, same)) =
    inl (is, Appends-trans notes.bytes between.bytes notes'.bytes first last put appended, same ∙ held)
tells_both told first last notes between notes' status put held (inr (is, rose, (count, appended))) = inr (
  is,
  subst (λ n. Rose n notes'.faults) held rose,
  (
    length first + count,
    subst (Appends notes.bytes notes'.bytes) (sym (take-append-add first last count)) (Appends-trans notes.bytes between.bytes notes'.bytes first (take count last) put appended),
  ),
)

-- a prefix of the first part is one of the whole
pub prefix_of_both : (first last : List ℕ) (notes notes' : Port) → AppendsPrefix notes.bytes notes'.bytes first → AppendsPrefix notes.bytes notes'.bytes (first ++ last)
prefix_of_both first last notes notes' (count, appended) = by (cases_lt count (length first))
  where
    by : (count < length first) ⊎ (length first ≤ count) → AppendsPrefix notes.bytes notes'.bytes (first ++ last)
    by (inl inside) = (count, subst (Appends notes.bytes notes'.bytes) (sym (take-append-le count first last (omega (arith, inside)))) appended)
    by (inr past) = (length first, subst (Appends notes.bytes notes'.bytes) (take_all count first past ∙ sym (take-append_seam first last)) appended)
