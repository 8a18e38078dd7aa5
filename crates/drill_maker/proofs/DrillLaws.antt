-- The drill's scenario is lawful.
use Rattle.std.proofs.Common.{◌≡◌, refl, sym, ap, subst, ℕ, zero, suc, ◌+◌, ◌≤◌, List, [], ◌∷◌, ◌++◌, length, length-append, arith, lit≤}
use Rattle.std.specs.Prelude.{◌≢◌, ◌<◌, All, map, codes}
use Rattle.std.specs.Fmt.{decimal}
use Rattle.std.specs.List.Sorted.{IsStrictlySortedBy}
use Rattle.std.proofs.lemmas.Fmt.{decimal_digit}
use Rattle.std.specs.List.{range_with_len}
use Rattle.std.proofs.lemmas.List.Elements.{All-nil, All-cons}
use Rattle.bucket_api.specs.declared.events.Mode.{Mode}
use Rattle.bucket_api.specs.declared.events.Scripted.{Scripted}
use Rattle.bucket_api.specs.declared.events.Mode.TheVariants.{Done}
use Rattle.bucket_api.specs.BucketState.{BucketState, empty_bucket}
use Rattle.bucket_api.specs.Names.{IsNameByte, IsObjectName}
use Rattle.bucket_api.specs.Operation.{IsAllowed}
use Rattle.fuse_requests.specs.Text.{request_text}
use Rattle.mount_model.specs.declared.config.Config.{Config}
use Rattle.mount_model.specs.Configs.{default_config}
use Rattle.scenario.specs.Checks.{Spot, spot_after, items_in}
use Rattle.scenario.specs.Lawful.{EachAfter, IsFix, IsLane, IsPhase, IsLawful}
use Rattle.scenario.specs.Parts.{Lane}
use Rattle.drill_maker.specs.Drill.{directory_steps, lane_doing, directory_lane, remote_write, remote_lane, starting, first_phase, second_phase, both_phases, drill}
use Rattle.drill_maker.proofs.LaneLaws.{directory_lane-IsLane}
use Rattle.drill_maker.proofs.StandLaws.{stand_in}
use Rattle.drill_maker.proofs.WritableLaws.{init_writable}

-- the remote writer's names are names of objects
remote_name : (number : ℕ) → number < 10 → IsObjectName (codes "r/" ++ decimal number)
remote_name number small = subst (λ (digits : List ℕ). IsObjectName (codes "r/" ++ digits)) (sym (decimal_digit number small)) (record {
  some = lit≤ tt;
  bounded = lit≤ tt;
  bytes =
      All-cons IsNameByte 114 (47 ∷ (48 + number) ∷ []) ((λ e. omega (arith, e)), (λ e. omega (arith, e)))
      (All-cons IsNameByte 47 ((48 + number) ∷ []) ((λ e. omega (arith, e)), (λ e. omega (arith, e)))
      (All-cons IsNameByte (48 + number) [] ((λ e. omega (arith, e)), (λ e. omega (arith, e))) (All-nil IsNameByte)));
  not_dot = λ e. let three : 3 ≡ 1 = ap length e in absurd (omega (arith, three));
  not_dots = λ e. let three : 3 ≡ 2 = ap length e in absurd (omega (arith, three));
})

-- and what it writes may be asked of a bucket
remote_writes : (n number : ℕ) → number + n ≤ 10 → All IsAllowed (map remote_write (range_with_len number n))
unfolding IsStrictlySortedBy
remote_writes zero number last = All-nil IsAllowed
remote_writes (suc n) number last =
    All-cons IsAllowed (remote_write number) (map remote_write (range_with_len (number + 1) n)) (remote_name number (omega (arith, last)), lit≤ tt, tt)
    (remote_writes n (number + 1) (omega (arith, last)))

remote_lane-IsLane : (spot : Spot) → IsLane spot remote_lane
remote_lane-IsLane spot = remote_writes 4 1 (lit≤ tt)

-- from this directory on the lanes are lawful, behind those of the directories before
directories : (seed : ℕ) (counts : List ℕ) (items n directory : ℕ) (beside : List Lane) → directory ≡ length counts + length beside → directory + n ≤ 9
    → EachAfter (λ b. IsLane (spot_after counts items b)) beside (map (directory_lane seed) (range_with_len directory n) ++ remote_lane ∷ [])
directories seed counts items zero directory beside here last = (remote_lane-IsLane (spot_after counts items beside), tt)
directories seed counts items (suc n) directory beside here last =
    let one = length-append beside (directory_lane seed directory ∷ []) in
    let lane : directory + 1 ≡ (spot_after counts items beside).lane = omega (arith, here) in (
      directory_lane-IsLane (spot_after counts items beside) directory lane seed (omega (arith, last)),
      directories seed counts items n (directory + 1) (beside ++ directory_lane seed directory ∷ []) (omega (arith, here, one)) (omega (arith, last)),
    )

first_phase-IsPhase : IsPhase [] first_phase
unfolding lane_doing
first_phase-IsPhase = record {
  some = lit≤ tt;
  few = lit≤ tt;
  each = (stand_in (spot_after [] 0 []) (starting ∷ []) (record { writable = init_writable; fixes = All-nil (IsFix (spot_after [] 0 []) 1 (length (request_text 1 starting.request))) }, tt), tt);
}

second_phase-IsPhase : (seed : ℕ) → IsPhase (first_phase ∷ []) (second_phase seed)
unfolding second_phase lane_doing
second_phase-IsPhase seed = record { some = lit≤ tt; few = lit≤ tt; each = directories seed (1 ∷ []) 1 8 1 [] refl (lit≤ tt) }

-- 557 items, which the checker counts
few_items : (seed : ℕ) → items_in (both_phases seed) ≤ 65536
unfolding second_phase lane_doing directory_steps
few_items seed = lit≤ tt

drill-IsLawful : (seed : ℕ) → IsLawful (drill seed)
drill-IsLawful seed = record {
  config = record {
    stat_lifetime = lit≤ tt;
    type_lifetime = lit≤ tt;
    some_record = lit≤ tt;
    record_capacity = lit≤ tt;
    some_staging = lit≤ tt;
    staging_blocks = lit≤ tt;
    cache_blocks = lit≤ tt;
    some_key = lit≤ tt;
    list_page = lit≤ tt;
    start = lit≤ tt;
  };
  start = record { last = lit≤ tt; metageneration = λ name. lit≤ tt };
  script = record { rises = tt; faults = All-nil {X = ℕ × Mode} (λ f. f.1 ≢ Done) };
  phases = (first_phase-IsPhase, (second_phase-IsPhase seed, tt));
  items = few_items seed;
}

-- a scenario of these parts is lawful
pub drill_lawful : (seed : ℕ) (config : Config) (start : BucketState) (script : List Scripted) (phases : List (List Lane)) → config ≡ default_config → start ≡ empty_bucket
    → script ≡ [] → phases ≡ both_phases seed → IsLawful (record { config = config; start = start; script = script; phases = phases })
drill_lawful seed config start script phases config_is start_is script_is phases_is =
    subst IsLawful (λ i. record { config = sym config_is i; start = sym start_is i; script = sym script_is i; phases = sym phases_is i }) (drill-IsLawful seed)
