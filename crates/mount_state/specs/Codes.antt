-- How what a mount keeps, and a mount itself, are told apart.
use Rattle.std.specs.Prelude.{ℕ, Bool, List, refl}
use Rattle.std.specs.Coded.{Coded, code_by, coded×, coded_ℕ, coded_bool, coded_list}
use Rattle.bucket_api.specs.Metadata.{Metadata}
use Rattle.bucket_api.specs.declared.objects.Pair.{Pair}
use Rattle.mount_model.specs.declared.config.Config.{Config}
use Rattle.mount_rules.specs.Mount.{File, Kept}

abbrev text_code : Coded (List ℕ)
text_code = coded_list coded_ℕ

abbrev pair_code : Coded Pair
pair_code = code_by (List ℕ × List ℕ) (coded× text_code text_code) (λ p. (p.key, p.value)) (λ p. record { key = p.0; value = p.1 }) (λ _. refl)

abbrev metadata_code : Coded Metadata
metadata_code =
    code_by
    (List ℕ × (ℕ × (ℕ × (ℕ × (ℕ × List Pair)))))
    (coded× text_code (coded× coded_ℕ (coded× coded_ℕ (coded× coded_ℕ (coded× coded_ℕ (coded_list pair_code))))))
    (λ m. (m.name, (m.generation, (m.metageneration, (m.size, (m.updated, m.pairs))))))
    (λ p. record { name = p.0; generation = p.1.0; metageneration = p.1.1.0; size = p.1.1.1.0; updated = p.1.1.1.1.0; pairs = p.1.1.1.1.1 })
    (λ _. refl)

abbrev pub kept_code : Coded Kept
kept_code = code_by (Metadata × ℕ) (coded× metadata_code coded_ℕ) (λ k. (k.meta, k.known)) (λ p. record { meta = p.0; known = p.1 }) (λ _. refl)

abbrev pub file_code : Coded File
file_code = code_by (ℕ × (ℕ × Kept)) (coded× coded_ℕ (coded× coded_ℕ kept_code)) (λ f. (f.source, (f.size, f.kept))) (λ p. record { source = p.0; size = p.1.0; kept = p.1.1 }) (λ _. refl)

abbrev pub config_code : Coded Config
config_code =
    code_by
    (Bool × (ℕ × (ℕ × (ℕ × (ℕ × (ℕ × (ℕ × ℕ)))))))
    (coded× coded_bool (coded× coded_ℕ (coded× coded_ℕ (coded× coded_ℕ (coded× coded_ℕ (coded× coded_ℕ (coded× coded_ℕ coded_ℕ)))))))
    (λ c. (c.implicit_dirs, (c.stat_lifetime, (c.type_lifetime, (c.record_capacity, (c.staging_blocks, (c.cache_blocks, (c.list_page, c.start))))))))
    (λ p. record {
      implicit_dirs = p.0;
      stat_lifetime = p.1.0;
      type_lifetime = p.1.1.0;
      record_capacity = p.1.1.1.0;
      staging_blocks = p.1.1.1.1.0;
      cache_blocks = p.1.1.1.1.1.0;
      list_page = p.1.1.1.1.1.1.0;
      start = p.1.1.1.1.1.1.1;
    })
    (λ _. refl)
