-- The scenario of a drill: INIT alone, and then eight lanes that each fill a directory of their own, beside a remote
-- writer. The seed tells how long the contents are.
use Rattle.std.specs.Prelude.{ℕ, ◌+◌, ◌-◌, ◌*◌, ◌%◌, List, [], ◌∷◌, ◌++◌, map, replicate, codes, None}
use Rattle.std.specs.Fmt.{decimal}
use Rattle.std.specs.List.{flat_map, range_with_len}
use Rattle.bucket_api.specs.BucketState.{empty_bucket}
use Rattle.bucket_api.specs.Operation.{Operation, insert}
use Rattle.fuse_requests.specs.declared.request.Request.{Request}
use Rattle.fuse_requests.specs.declared.request.Request.TheVariants.{Init, Mkdir, Create, Write, Flush, Release, Unlink}
use Rattle.mount_model.specs.Configs.{default_config}
use Rattle.mount_model.specs.declared.gate.CallId.{CallId}
use Rattle.scenario.specs.Parts.{Lane, calls, remote, ScenarioData}
use Rattle.drill_maker.specs.Steps.{Step, numbered, node_of, handle_of}

-- ---- a directory and its files, by their numbers

abbrev pub directory_name : ℕ → List ℕ
directory_name directory = codes "d" ++ decimal directory

abbrev pub file_name : ℕ → List ℕ
file_name file = codes "f" ++ decimal file

-- the size of a file's content, 1 to 131,072 bytes
abbrev pub size_of : ℕ → ℕ → ℕ → ℕ
size_of seed directory file = 1 + (seed % 1000 * 31 + 977 * directory + 4099 * file) % 131072

-- one byte, again and again
unfoldable pub content_of : ℕ → ℕ → ℕ → List ℕ
content_of seed directory file = replicate (size_of seed directory file) (directory + file)

-- a call of the directory's lane; lane 1 is that of INIT
abbrev pub call_in : ℕ → ℕ → CallId
call_in directory index = record { lane = directory + 1; index = index }

-- the lane's first call makes the directory
abbrev pub made : ℕ → CallId
made directory = call_in directory 1

-- then each file has four calls, the first of which creates it
abbrev pub created : ℕ → ℕ → CallId
created directory file = call_in directory (4 * file - 2)

-- ---- the steps of a directory's lane

abbrev pub in_directory : ℕ → Request → Step
in_directory directory request = record { request = request; fixes = node_of (made directory) ∷ [] }

abbrev pub on_file : ℕ → ℕ → Request → Step
on_file directory file request = record { request = request; fixes = node_of (created directory file) ∷ handle_of (created directory file) ∷ [] }

abbrev pub making : ℕ → Step
making directory = record { request = Mkdir 1 (directory_name directory); fixes = [] }

abbrev pub filling : ℕ → ℕ → ℕ → List Step
filling seed directory file =
    in_directory directory (Create 0 (file_name file))
    ∷ on_file directory file (Write 0 0 0 (content_of seed directory file))
    ∷ on_file directory file (Flush 0 0)
    ∷ on_file directory file (Release 0 0)
    ∷ []

abbrev pub removing : ℕ → ℕ → Step
removing directory file = in_directory directory (Unlink 0 (file_name file))

-- the directory is made, sixteen files are filled, and every fourth is taken away
unfoldable pub directory_steps : ℕ → ℕ → List Step
directory_steps seed directory =
    (making directory ∷ flat_map (filling seed directory) (range_with_len 1 16)) ++ map (removing directory) (4 ∷ 8 ∷ 12 ∷ 16 ∷ [])

-- ---- the lanes

-- the kernel's version 7.31, 131,072 bytes of readahead, and all that it may offer
abbrev pub starting : Step
starting = record { request = Init 7 31 131072 4294967295; fixes = [] }

unfoldable pub lane_doing : List Step → Lane
lane_doing steps = calls (numbered 1 steps)

abbrev pub directory_lane : ℕ → ℕ → Lane
directory_lane seed directory = lane_doing (directory_steps seed directory)

-- a new object of ten zero bytes
abbrev pub remote_write : ℕ → Operation
remote_write number = insert (codes "r/" ++ decimal number) (replicate 10 0) [] None 0

abbrev pub remote_lane : Lane
remote_lane = remote (map remote_write (range_with_len 1 4))

abbrev pub first_phase : List Lane
first_phase = lane_doing (starting ∷ []) ∷ []

unfoldable pub second_phase : ℕ → List Lane
second_phase seed = map (directory_lane seed) (range_with_len 1 8) ++ remote_lane ∷ []

abbrev pub both_phases : ℕ → List (List Lane)
both_phases seed = first_phase ∷ second_phase seed ∷ []

abbrev pub drill : ℕ → ScenarioData
drill seed = record { config = default_config; start = empty_bucket; script = []; phases = both_phases seed }
