-- What a call that prints does to its sink and to the text that waits for it.
use Rattle.std.specs.Prelude.{◌≡◌, ℕ, List, ◌++◌, Result, Ok, Err}
use Rattle.std.specs.Io.KnownBytes.{Appends}
use Rattle.io_ports.specs.Faults.{Rose}
use Rattle.io_ports.specs.Ports.{Port}

-- All that waited and the text were put, but what waits now, and no call of the sink failed
pub record Takes (before after : Port) (waited waits text : List ℕ) : Type 0 where
  pub put : List ℕ
  pub appends : Appends before.bytes after.bytes put
  pub kept : put ++ waits ≡ waited ++ text
  pub faults : after.faults ≡ before.faults

-- A prefix of what waited and the text was put, and then a call of the sink failed
pub record Stops (before after : Port) (waited text : List ℕ) : Type 0 where
  pub put : List ℕ
  pub unput : List ℕ
  pub appends : Appends before.bytes after.bytes put
  pub owed : waited ++ text ≡ put ++ unput
  pub rose : Rose before.faults after.faults

-- The text goes to the sink, or waits, or the sink fails on the way
abbrev pub Prints : {U E : Type 0} → Port → Port → List ℕ → List ℕ → List ℕ → Result U E → Type 0
Prints before after waited waits text (Ok _) = Takes before after waited waits text
Prints before after waited waits text (Err _) = Stops before after waited text
