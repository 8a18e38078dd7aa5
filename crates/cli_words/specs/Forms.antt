-- The forms of the program's command lines, as the usage line has them: what words say which command.
use Rattle.std.specs.Prelude.{◌≡◌, ℕ, ◌^◌, ◌<◌, ◌≤◌, List, [], ◌∷◌, ◌++◌, ◌⊎◌, codes}
use Rattle.std.specs.Fmt.{decimal}
use Rattle.cli_words.specs.declared.command.Command.{Command}
use Rattle.cli_words.specs.declared.command.Command.TheVariants.{Serve, Play, Drill}

-- the number of workers where no word sets it
abbrev pub default_workers : ℕ
default_workers = 4

-- Words that set how many workers there are, 1 to 64: none, the option and the number, or both as one word.
abbrev pub SetsWorkers : List (List ℕ) → ℕ → Type 0
SetsWorkers words n =
    (1 ≤ n) × (n ≤ 64)
    × (((words ≡ []) × (n ≡ default_workers))
    ⊎ ((words ≡ codes "--workers" ∷ decimal n ∷ [])
    ⊎ (words ≡ (codes "--workers=" ++ decimal n) ∷ [])))

-- A command and the words that say it. A number has decimal digits alone, with no leading zero; the seed is any number
-- of 64 bits, before the option or behind it.
abbrev pub IsForm : List (List ℕ) → Command → Type 0
IsForm words Serve = words ≡ codes "serve" ∷ []
IsForm words (Play workers) = (option : List (List ℕ)) × (words ≡ codes "play" ∷ option) × SetsWorkers option workers
IsForm words (Drill seed workers) =
    (option : List (List ℕ)) × (seed < 2 ^ 64)
    × ((words ≡ codes "drill" ∷ decimal seed ∷ option) ⊎ (words ≡ codes "drill" ∷ (option ++ decimal seed ∷ [])))
    × SetsWorkers option workers
