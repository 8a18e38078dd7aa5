-- The input that was taken, with one more piece.
use Rattle.std.proofs.Common.{◌≡◌, ◌≤◌, ◌++◌, List, ℕ, ◌∙◌}
use Rattle.std.specs.Io.KnownBytes.{Consumes}
use Rattle.std.proofs.KnownBytes.{Consumes-trans}
use Rattle.io_ports.specs.Ports.{Port}
use Rattle.gcsmount.specs.Inputs.{Takes}

pub takes_more : (start source source' : Port) (input piece : List ℕ) → Takes start source input → Consumes source.bytes source'.bytes piece → source'.faults ≡ source.faults
    → Takes start source' (input ++ piece)
takes_more start source source' input piece takes consumed held = record {
  consumed = Consumes-trans start.bytes source.bytes source'.bytes input piece takes.consumed consumed;
  held = held ∙ takes.held;
}
