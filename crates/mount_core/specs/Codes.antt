-- How the mounts that contracts see are told apart.
use Rattle.std.specs.Prelude.{ℕ, List, refl}
use Rattle.std.specs.Coded.{Coded, code_by, coded×, coded_ℕ, coded_list}
use Rattle.bucket_api.specs.BucketState.{BucketState}
use Rattle.bucket_api.specs.Metadata.{Metadata}
use Rattle.bucket_api.specs.declared.objects.Object.{Object}
use Rattle.bucket_api.specs.declared.objects.Pair.{Pair}
use Rattle.mount_core.specs.Serials.{SerialState}
use Rattle.mount_core.specs.Stores.{Counted}
use Rattle.mount_model.specs.declared.config.Config.{Config}
use Rattle.mount_rules.specs.Mount.{MountModel}
use Rattle.mount_state.specs.Codes.{config_code}
use Rattle.mount_state.specs.Mounts.{mount_code}

abbrev text_code : Coded (List ℕ)
text_code = coded_list coded_ℕ

abbrev pair_code : Coded Pair
pair_code = code_by (List ℕ × List ℕ) (coded× text_code text_code) (λ p. (p.key, p.value)) (λ p. record { key = p.0; value = p.1 }) (λ _. refl)

abbrev metadata_code : Coded Metadata
metadata_code =
    code_by
    (List ℕ × (ℕ × (ℕ × (ℕ × (ℕ × List Pair)))))
    (coded× text_code (coded× coded_ℕ (coded× coded_ℕ (coded× coded_ℕ (coded× coded_ℕ (coded_list pair_code))))))
    (λ m. (m.name, (m.generation, (m.metageneration, (m.size, (m.updated, m.pairs))))))
    (λ p. record { name = p.0; generation = p.1.0; metageneration = p.1.1.0; size = p.1.1.1.0; updated = p.1.1.1.1.0; pairs = p.1.1.1.1.1 })
    (λ _. refl)

abbrev object_code : Coded Object
object_code = code_by (Metadata × List ℕ) (coded× metadata_code text_code) (λ o. (o.meta, o.content)) (λ p. record { meta = p.0; content = p.1 }) (λ _. refl)

abbrev bucket_code : Coded BucketState
bucket_code =
    code_by (List (List ℕ × Object) × ℕ) (coded× (coded_list (coded× text_code object_code)) coded_ℕ)
    (λ b. (b.entries, b.last)) (λ p. record { entries = p.0; last = p.1 }) (λ _. refl)

abbrev counted_code : Coded Counted
counted_code = code_by (BucketState × ℕ) (coded× bucket_code coded_ℕ) (λ s. (s.bucket, s.made)) (λ p. record { bucket = p.0; made = p.1 }) (λ _. refl)

abbrev pub serial_code : Coded SerialState
serial_code =
    code_by (Config × (MountModel × Counted)) (coded× config_code (coded× mount_code counted_code))
    (λ s. (s.config, (s.mount, s.store))) (λ p. record { config = p.0; mount = p.1.0; store = p.1.1 }) (λ _. refl)
