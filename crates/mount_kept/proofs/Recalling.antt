-- What is recalled of a directory's key, and of an object's behind it.
use Rattle.std.proofs.Common.{◌≡◌, ℕ, Bool, [], Option, Some, None, refl, sym, ap, ◌∙◌, is_some, option_map, if◌then◌else◌}
use Rattle.history_spec.specs.Pasts.{lifetime_of}
use Rattle.mount_kept.specs.Recalls.{answers_recalled, both_found, recall_of, recalled}
use Rattle.mount_kept.specs.declared.recall.Found.{Found}
use Rattle.mount_kept.specs.declared.recall.Recall.{Recall}
use Rattle.mount_model.specs.declared.config.Config.{Config}
use Rattle.mount_rules.specs.Plans.{Plan, asked_by}
use Rattle.record_spec.specs.RecordList.{Key, RecordList}
use Rattle.record_spec.specs.Steps.{live_record}
use Rattle.record_spec.specs.declared.records.Record.{Record}
use Rattle.thrift_spec.specs.Records.{plan_found}

-- what a plan asks behind a record is what it asks behind the answer for which the record stands
pub asks_more : (plan : Plan) (found : Option Record) → is_some (asked_by (plan_found plan found [])) ≡ is_some (asked_by (plan (answers_recalled (option_map recalled found))))
asks_more plan (Some r) = refl
asks_more plan None = refl

module _ (config : Config) (now : ℕ) (plan : Plan) (list : RecordList) (directory object : Key) (probe : Option Recall) where
  abbrev pub Asks : Bool → Type 0
  Asks more = is_some (asked_by (plan_found plan (live_record list directory now (lifetime_of config directory)) [])) ≡ more

  pub asks_when : (more : Bool) → probe ≡ recall_of config now list directory → more ≡ is_some (asked_by (plan (answers_recalled probe))) → Asks more
  asks_when more is asks =
      asks_more plan (live_record list directory now (lifetime_of config directory)) ∙ ap (λ p. is_some (asked_by (plan (answers_recalled p)))) (sym is) ∙ sym asks

  pub both_when : (more : Bool) (stat : Option Recall) → probe ≡ recall_of config now list directory → Asks more
      → stat ≡ (if more then recall_of config now list object else None)
      → ◌≡◌ {A = Found} (record { probe = probe; stat = stat }) (both_found config now plan list directory object)
  both_when more stat is asks found =
      ap (λ p. record { probe = p; stat = stat }) is
      ∙ ap (λ s. record { probe = recall_of config now list directory; stat = s }) found
      ∙ ap (λ b. record { probe = recall_of config now list directory; stat = if b then recall_of config now list object else None }) (sym asks)
