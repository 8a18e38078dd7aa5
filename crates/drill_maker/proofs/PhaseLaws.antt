-- What the lanes of a drill come to.
use Rattle.std.proofs.Common.{◌≡◌, ap, ◌∙◌, ℕ, List, [], ◌∷◌, ◌++◌, map}
use Rattle.std.specs.List.{flat_map, range_with_len}
use Rattle.std.proofs.lemmas.List.{map-append}
use Rattle.scenario.specs.declared.lane.LaneWork.{LaneWork}
use Rattle.scenario.specs.Parts.{Call, Lane, calls}
use Rattle.scenario.specs.Works.{lane_of}
use Rattle.drill_maker.specs.Drill.{making, filling, removing, directory_steps, lane_doing, directory_lane, remote_lane, second_phase}
use Rattle.drill_maker.specs.Steps.{with_steps}
use Rattle.drill_maker.proofs.StepLaws.{with_steps-append, numbered_first}

-- the directory is made, filled, and every fourth file taken away
pub lane_is : (seed directory : ℕ) (none made filled emptied : List Call) (lane : Lane) → none ≡ [] → made ≡ with_steps none (making directory ∷ [])
    → filled ≡ with_steps made (flat_map (filling seed directory) (range_with_len 1 16)) → emptied ≡ with_steps filled (map (removing directory) (4 ∷ 8 ∷ 12 ∷ 16 ∷ []))
    → lane ≡ calls emptied → lane ≡ directory_lane seed directory
unfolding directory_steps lane_doing
lane_is seed directory none made filled emptied lane before make fill remove is =
    let files = flat_map (filling seed directory) (range_with_len 1 16) in
    let removed = map (removing directory) (4 ∷ 8 ∷ 12 ∷ 16 ∷ []) in
    let first : made ≡ with_steps [] (making directory ∷ []) = make ∙ ap (λ (cs : List Call). with_steps cs (making directory ∷ [])) before in
    let second : filled ≡ with_steps [] (making directory ∷ files) = fill ∙ ap (λ (cs : List Call). with_steps cs files) first ∙ with_steps-append [] (making directory ∷ []) files in
    let third : emptied ≡ with_steps [] (directory_steps seed directory) = remove ∙ ap (λ (cs : List Call). with_steps cs removed) second ∙ with_steps-append [] (making directory ∷ files) removed in
    is ∙ ap calls (third ∙ numbered_first (directory_steps seed directory))

-- the remote writer stands behind the directories
pub phase_is : (seed : ℕ) (none some all : List LaneWork) (last : LaneWork) → none ≡ [] → map lane_of some ≡ map lane_of none ++ map (directory_lane seed) (range_with_len 1 8)
    → lane_of last ≡ remote_lane → all ≡ some ++ last ∷ [] → map lane_of all ≡ second_phase seed
unfolding second_phase
phase_is seed none some all last before directories writer is =
    ap (map lane_of) is
    ∙ map-append lane_of some (last ∷ [])
    ∙ ap (λ (lanes : List Lane). lanes ++ lane_of last ∷ []) (directories ∙ ap (λ (works : List LaneWork). map lane_of works ++ map (directory_lane seed) (range_with_len 1 8)) before)
    ∙ ap (λ (lane : Lane). map (directory_lane seed) (range_with_len 1 8) ++ lane ∷ []) writer
