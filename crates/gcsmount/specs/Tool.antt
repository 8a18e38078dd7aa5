-- The words of the program, and what a run of it comes to.
use Rattle.std.specs.Prelude.{◌≡◌, ◌++◌, ◌∷◌, ◌⊎◌, ℕ, List, [], Some, codes}
use Rattle.std.specs.Fmt.{decimal}
use Rattle.std.specs.Io.KnownBytes.{Appends}
use Rattle.io_ports.specs.Faults.{Rose}
use Rattle.io_ports.specs.Streams.{AppendsPrefix}
use Rattle.mount_model.specs.Configs.{default_config}
use Rattle.io_ports.specs.Ports.{Port}
use Rattle.cli_words.specs.Forms.{IsForm}
use Rattle.cli_words.specs.declared.command.Command.{Command}
use Rattle.cli_words.specs.declared.command.Command.TheVariants.{Serve, Play, Drill}
use Rattle.gcsmount.specs.Drills.{RunsDrill}
use Rattle.gcsmount.specs.Plays.{IsPlayable, IsPlayedFrom, PlaysStream}
use Rattle.gcsmount.specs.Serve.{IsGood, Streams}
use Rattle.gcsmount.specs.declared.play_end.PlayEnd.{PlayEnd}
use Rattle.gcsmount.specs.declared.play_end.PlayEnd.TheVariants as play
use Rattle.gcsmount.specs.declared.serve_end.ServeEnd.{ServeEnd}
use Rattle.gcsmount.specs.declared.serve_end.ServeEnd.TheVariants.{Ended, Refused, ReadFault, WriteFault, NoMemory, TooLong}

-- the words of a served stream
abbrev pub serve_words : List (List ℕ)
serve_words = codes "serve" ∷ []

-- the words say no command
abbrev pub HasNoForm : List (List ℕ) → Type 0
HasNoForm words = (command : Command) → ¬ IsForm words command

-- what is told of words of no form, with its line end
abbrev pub usage_line : List ℕ
usage_line = codes "usage: gcsmount serve / play [--workers N] / drill S [--workers N]" ++ 10 ∷ []

-- what is told of a refused input: why, and at which byte, with its line end
abbrev pub refused_line : ℕ → ℕ → List ℕ
refused_line number place = codes "refused " ++ (decimal number ++ (codes " at " ++ (decimal place ++ 10 ∷ [])))

-- A line was put, or the notes failed, having taken a prefix of it.
abbrev pub Tells : ℕ → List ℕ → Port → Port → ℕ → Type 0
Tells told text notes notes' status =
    ((status ≡ told) × Appends notes.bytes notes'.bytes text × (notes'.faults ≡ notes.faults))
    ⊎ ((status ≡ 4) × Rose notes.faults notes'.faults × AppendsPrefix notes.bytes notes'.bytes text)

-- The status of an end, and what is told of it. Memory for the line of a refusal may be refused.
abbrev pub EndsWith : ServeEnd → Port → Port → ℕ → Type 0
EndsWith Ended notes notes' status = (status ≡ 0) × (notes' ≡ notes)
EndsWith (Refused number place) notes notes' status =
    Tells 1 (refused_line number place) notes notes' status ⊎ ((status ≡ 5) × (notes' ≡ notes))
EndsWith ReadFault notes notes' status = (status ≡ 3) × (notes' ≡ notes)
EndsWith WriteFault notes notes' status = (status ≡ 4) × (notes' ≡ notes)
EndsWith NoMemory notes notes' status = (status ≡ 5) × (notes' ≡ notes)
EndsWith TooLong notes notes' status = (status ≡ 6) × (notes' ≡ notes)

-- A stream was served, on a mount that nothing is set of, and its end was told.
pub record RunsServe (source source' sink sink' notes notes' : Port) (status : ℕ) : Type 0 where
  pub end : ServeEnd
  pub streams : Streams default_config end source source' sink sink'
  pub told : EndsWith end notes notes' status

-- A good input, with no count of faults that rose, has status 0, or 5 for want of memory.
abbrev pub IsServedWhole : ℕ → Port → Port → Port → Port → Type 0
IsServedWhole status source source' sink sink' =
    (input : List ℕ) → source.bytes ≡ Some input → IsGood input → ¬ Rose source.faults source'.faults → ¬ Rose sink.faults sink'.faults
    → (status ≡ 0) ⊎ (status ≡ 5)

-- ---- play
-- what is told of an input that is no scenario: why, and where, with its line end
abbrev pub refused_at : ℕ → List ℕ → List ℕ
refused_at number place = codes "refused " ++ (decimal number ++ (codes " at " ++ (place ++ 10 ∷ [])))

-- The status of an end, and what is told of it. Memory for the line of a refusal may be refused.
abbrev pub EndsPlay : PlayEnd → Port → Port → ℕ → Type 0
EndsPlay play.Played notes notes' status = (status ≡ 0) × (notes' ≡ notes)
EndsPlay (play.Refused number place) notes notes' status =
    Tells 1 (refused_at number place) notes notes' status ⊎ ((status ≡ 5) × (notes' ≡ notes))
EndsPlay play.ReadFault notes notes' status = (status ≡ 3) × (notes' ≡ notes)
EndsPlay play.WriteFault notes notes' status = (status ≡ 4) × (notes' ≡ notes)
EndsPlay play.NoMemory notes notes' status = (status ≡ 5) × (notes' ≡ notes)
EndsPlay play.TooLong notes notes' status = (status ≡ 6) × (notes' ≡ notes)

-- A scenario was played from a stream, and its end was told.
pub record RunsPlay (source source' sink sink' notes notes' : Port) (status : ℕ) : Type 0 where
  pub end : PlayEnd
  pub streams : PlaysStream end source source' sink sink'
  pub told : EndsPlay end notes notes' status

-- Where the source tells its bytes and the status is 0, the whole input was taken, it is a scenario, and the bytes that
-- were put are the text of a legal history of it.
abbrev pub PrintsHistory : ℕ → Port → Port → Port → Port → Type 0
PrintsHistory status source source' sink sink' = (input : List ℕ) → source.bytes ≡ Some input → status ≡ 0 → IsPlayedFrom input source' sink sink'

-- An input that can be played, with no count of faults that rose, has status 0, or 5 for want of memory.
abbrev pub IsPlayedWhole : ℕ → Port → Port → Port → Port → Type 0
IsPlayedWhole status source source' sink sink' =
    (input : List ℕ) → source.bytes ≡ Some input → IsPlayable input → ¬ Rose source.faults source'.faults → ¬ Rose sink.faults sink'.faults
    → (status ≡ 0) ⊎ (status ≡ 5)

-- ---- commands
abbrev pub IsDrill : Command → Type 0
IsDrill (Drill seed workers) = Unit {0}
IsDrill command = ⊥

-- what a run of a command comes to
abbrev pub Runs : Command → Port → Port → Port → Port → Port → Port → ℕ → Type 0
Runs Serve source source' sink sink' notes notes' status =
    RunsServe source source' sink sink' notes notes' status × IsServedWhole status source source' sink sink'
Runs (Play workers) source source' sink sink' notes notes' status = RunsPlay source source' sink sink' notes notes' status
Runs (Drill seed workers) source source' sink sink' notes notes' status = RunsDrill seed sink sink' status × (notes' ≡ notes)
