-- Lanes: what stands before the first, what the next one begins with, and what its end leaves.
use Rattle.std.proofs.Common.{◌≡◌, ◌≢◌, ◌<◌, ◌≤◌, ℕ, zero, suc, ◌+◌, true, false, List, [], ◌∷◌, ◌++◌, length, map, Option, Some, None, refl, sym, ap, subst, ◌∙◌, ◌⊎◌, inl, inr, arith, append_assoc, append-nil, length-append}
use Rattle.std.proofs.lemmas.Bool.Decides.{eqb_tells}
use Rattle.std.specs.Prelude.{◌==◌, option_map}
use Rattle.bucket_api.specs.BucketState.{BucketState}
use Rattle.bucket_api.specs.Scripts.{script_of}
use Rattle.bucket_api.specs.declared.events.Scripted.{Scripted}
use Rattle.history_spec.specs.Fits.{ended_in}
use Rattle.history_spec.specs.JournalState.{JournalState, replies_of}
use Rattle.legal_spec.specs.Frames.{reply_of}
use Rattle.legal_spec.specs.Schedules.{calls_by, lane_at, numbered}
use Rattle.mount_core.specs.Lones.{LoneState, Tells, come_to, first_lone}
use Rattle.mount_model.specs.declared.config.Config.{Config}
use Rattle.play_lanes.proofs.BroughtLaws.{joined_nothing, of_lanes-next}
use Rattle.play_lanes.proofs.CallLaws.{lane_is, numbered-between}
use Rattle.play_lanes.proofs.TableLaws.{row_of-begun, row_of-past}
use Rattle.play_lanes.specs.Playing.{IsAmid, IsBetween, IsPlaying, IsScripted, PlayState, brought_by, joined, lanes_in, nothing, of_lane, of_lanes}
use Rattle.play_lanes.specs.Tables.{Table, given_by, row_of}
use Rattle.play_lanes.specs.declared.given.Given.{Given}
use Rattle.scenario.specs.Lawful.{IsLawful}
use Rattle.scenario.specs.Parts.{Call, Lane, ScenarioData, calls, clock, remote}

-- ---- before the first lane
abbrev pub first_play : ScenarioData → PlayState
first_play scenario = record { lone = first_lone scenario.config scenario.start (script_of scenario.script); calls = []; frames = []; given = [] }

no_row : (lane : ℕ) → 0 ≡ length (row_of {X = Given} [] lane)
no_row zero = refl
no_row (suc k) = refl

pub first_between : (scenario : ScenarioData) → IsLawful scenario → Tells (first_lone scenario.config scenario.start (script_of scenario.script)) []
    → IsBetween scenario (first_play scenario) (lanes_in scenario.phases)
first_between scenario lawful tells = record {
  playing = record {
    lawful = lawful;
    mount = refl;
    account = [];
    tells = tells;
    scripted = record {
      asked = tt;
      covered = λ lane not_one. refl;
      counted = no_row;
      given = λ call. none call.lane call.index;
      answered = tt;
      framed = refl;
      whole = λ number before. absurd (omega (arith, before));
    };
  };
  done = [];
  lanes = refl;
  begun = refl;
  whole = refl;
  brought = refl;
}
  where
    none : (lane index : ℕ) → numbered (row_of {X = Given} [] lane) index ≡ None
    none zero zero = refl
    none zero (suc i) = refl
    none (suc k) zero = refl
    none (suc k) (suc i) = refl

-- ---- the next lane begins
abbrev pub with_lane : PlayState → PlayState
with_lane p = record p { given = p.given ++ [] ∷ [] }

module _ {X : Type 0} (kind : List X → Lane) (none : length (calls_by (Some (kind []))) ≡ 0) (brings : (number : ℕ) → of_lane number (kind []) ≡ nothing)
    (scenario : ScenarioData) (p : PlayState) (items : List X) (more : List Lane) (between : IsBetween scenario p (kind items ∷ more)) where
  size : length (p.given ++ [] ∷ []) ≡ length p.given + 1
  size = length-append p.given ([] ∷ [])

  whole_begun : (number : ℕ) → number < length (p.given ++ [] ∷ []) → length (row_of (p.given ++ [] ∷ []) number) ≡ length (calls_by (lane_at scenario.phases number))
  whole_begun number before = ap (λ (r : List Given). length r) (row_of-begun p.given number) ∙ by (eqb_tells number (length p.given))
    where
      by : (((number == length p.given) ≡ true) × (number ≡ length p.given)) ⊎ (((number == length p.given) ≡ false) × (number ≢ length p.given))
          → length (row_of p.given number) ≡ length (calls_by (lane_at scenario.phases number))
      by (inl its) = subst (λ n. length (row_of p.given n) ≡ length (calls_by (lane_at scenario.phases n))) (sym its.1) between.whole
      by (inr far) = between.playing.scripted.whole number (omega (arith, before, size, far.1))

  playing_begun : IsPlaying scenario (with_lane p)
  playing_begun = record {
    lawful = between.playing.lawful;
    mount = between.playing.mount;
    account = between.playing.account;
    tells = between.playing.tells;
    scripted = record {
      asked = between.playing.scripted.asked;
      covered = between.playing.scripted.covered;
      counted = λ lane. between.playing.scripted.counted lane ∙ sym (ap (λ (r : List Given). length r) (row_of-begun p.given lane));
      given = λ call. ap (λ (r : List Given). numbered r call.index) (row_of-begun p.given call.lane) ∙ between.playing.scripted.given call;
      answered = between.playing.scripted.answered;
      framed = between.playing.scripted.framed;
      whole = whole_begun;
    };
  }

  pub lane_begun : IsAmid kind scenario (with_lane p) items more
  lane_begun = record {
    playing = playing_begun;
    before = between.done;
    done = [];
    lanes = between.lanes;
    begun = size ∙ ap (λ n. n + 1) between.begun;
    answered = ap (λ (r : List Given). length r) (row_of-begun p.given (length (p.given ++ [] ∷ []))
        ∙ row_of-past p.given (length (p.given ++ [] ∷ [])) (omega (arith, size))) ∙ sym none;
    brought = between.brought ∙ sym (joined_nothing (of_lanes 1 between.done)) ∙ ap (joined (of_lanes 1 between.done)) (sym (brings (length (p.given ++ [] ∷ []))));
  }

-- ---- a lane ends
pub lane_ended : {X : Type 0} (kind : List X → Lane) (scenario : ScenarioData) (p : PlayState) (more : List Lane) → IsAmid kind scenario p [] more → IsBetween scenario p more
lane_ended {X} kind scenario p more amid = record {
  playing = amid.playing;
  done = amid.before ++ kind amid.done ∷ [];
  lanes = amid.lanes ∙ ap (λ items. amid.before ++ kind items ∷ more) (append-nil amid.done) ∙ sym (append_assoc amid.before (kind amid.done ∷ []) more);
  begun = amid.begun ∙ sym (length-append amid.before (kind amid.done ∷ []));
  whole = amid.answered ∙ ap (λ items. length (calls_by (Some (kind items)))) (sym (append-nil amid.done)) ∙ sym (ap (λ found. length (calls_by found)) (lane_is kind scenario p [] more amid));
  brought = amid.brought ∙ sym (of_lanes-next amid.before (kind amid.done) (length p.given) amid.begun);
}

-- a lane of work of this kind begins, with the table that has a row more
pub lane_begins : {X : Type 0} (kind : List X → Lane) → length (calls_by (Some (kind []))) ≡ 0 → ((number : ℕ) → of_lane number (kind []) ≡ nothing)
    → (scenario : ScenarioData) (before p : PlayState) (table : Table) (work : Lane) (items : List X) (more : List Lane)
    → p ≡ before → table ≡ p.given ++ [] ∷ [] → work ≡ kind items → IsBetween scenario before (work ∷ more)
    → IsAmid kind scenario (record p { given = table }) items more
lane_begins kind none brings scenario before p table work items more same begun is between =
    subst (λ (t : Table). IsAmid kind scenario (record p { given = t }) items more) (sym begun)
    (lane_begun kind none brings scenario p items more (subst (λ q. IsBetween scenario q (kind items ∷ more)) (sym same) (subst (λ lane. IsBetween scenario before (lane ∷ more)) is between)))

-- a player of the scenario's own settings, bucket and script stands before the first lane
pub starts : (scenario : ScenarioData) (p : PlayState) (config : Config) (bucket : BucketState) (script : List Scripted) → IsLawful scenario
    → p.lone ≡ first_lone config bucket (script_of script) → config ≡ scenario.config → bucket ≡ scenario.start → script ≡ scenario.script
    → p.calls ≡ [] → p.frames ≡ [] → p.given ≡ [] → Tells p.lone [] → IsBetween scenario p (lanes_in scenario.phases)
starts scenario p config bucket script lawful is settings start faults made frames given tells =
    subst (λ (q : PlayState). IsBetween scenario q (lanes_in scenario.phases)) (sym same) (first_between scenario lawful (subst (λ (l : LoneState). Tells l []) lone tells))
  where
    lone : p.lone ≡ first_lone scenario.config scenario.start (script_of scenario.script)
    lone = is ∙ (λ i. first_lone (settings i) (start i) (script_of (faults i)))

    same : p ≡ first_play scenario
    same = λ i. record { lone = lone i; calls = made i; frames = frames i; given = given i }
