-- The walk over a phase's lanes, with what is kept of the phases before.
use Rattle.std.proofs.Common.{◌≡◌, sym, ap, ◌∙◌, subst, ℕ, ◌≤◌, List, [], ◌∷◌, ◌++◌, length, Ok}
use Rattle.serde_json.specs.Data.{Data, Items}
use Rattle.serde_json.specs.declared.value.Value.{Value}
use Rattle.serde_json.specs.View.{items_view}
use Rattle.scenario.specs.declared.fault.ScenarioFault.{ScenarioFault}
use Rattle.scenario.specs.declared.fault.ScenarioFault.TheVariants.{NoMemory, Bad}
use Rattle.scenario.specs.Told.{TellsFault}
use Rattle.scenario.specs.Walks.{Walk, ◌>>=◌, through, put_last, each}
use Rattle.scenario.specs.Parts.{Lane}
use Rattle.scenario.specs.Checks.{counts_of, items_in, spot_of, spot_after}
use Rattle.scenario.specs.Format.{few_items, lane, phase}
use Rattle.scenario.proofs.Counts.{each_length}

-- a fault ends what was to follow
fault_ends : {A B : Type 0} (e : ScenarioFault) (w : Walk A) (f : A → Walk B) → TellsFault e w → TellsFault e (w >>= f)
fault_ends NoMemory w f h = tt
fault_ends (Bad number place) w f h = ap (λ v. v >>= f) h

-- the lanes, read with these counts and so many items before them
abbrev pub lanes_read : List ℕ → ℕ → List Lane → Items → Walk (List Lane)
lanes_read counts first made ds = through (λ b d. put_last b (lane (spot_after counts first b) d)) 0 made ds

module _ (before : List (List Lane)) (d : Data) (ds : Items) (counts : List ℕ) (first : ℕ) (made : List Lane) (found : few_items d ≡ Ok ds) (none : made ≡ []) (counts_is : counts ≡ counts_of before) (first_is : first ≡ items_in before) where
  phase_is : phase before d ≡ lanes_read counts first made ds
  phase_is =
      ap (λ w. w >>= each (λ lanes. lane (spot_of before lanes))) found
      ∙ sym (ap (λ m. lanes_read counts first m ds) none ∙ (ap (λ cs. lanes_read cs first [] ds) counts_is ∙ ap (λ n. lanes_read (counts_of before) n [] ds) first_is))

  pub phase_found : {lanes : List Lane} {later : List (List Lane)} → lanes_read counts first made ds ≡ Ok lanes → later ≡ before ++ lanes ∷ [] → put_last before (phase before d) ≡ Ok later
  phase_found read is = ap (put_last before) (phase_is ∙ read) ∙ ap Ok (sym is)

  pub phase_fault : (e : ScenarioFault) → TellsFault e (lanes_read counts first made ds) → TellsFault e (put_last before (phase before d))
  phase_fault e told = fault_ends e (phase before d) (λ x. Ok (before ++ x ∷ [])) (subst (TellsFault e) (sym phase_is) told)

-- as many lanes are read as there are items
pub lanes_few : (counts : List ℕ) (first : ℕ) (made : List Lane) (vs : List Value) (lanes : List Lane) → made ≡ [] → lanes_read counts first made (items_view vs) ≡ Ok lanes → (1 ≤ length vs) × (length vs ≤ 64) → (1 ≤ length lanes) × (length lanes ≤ 64)
lanes_few counts first made vs lanes none read few =
    let many = each_length (λ b d. lane (spot_after counts first b) d) vs lanes (sym (ap (λ m. lanes_read counts first m (items_view vs)) none) ∙ read) in
    subst (λ n. (1 ≤ n) × (n ≤ 64)) (sym many) few
