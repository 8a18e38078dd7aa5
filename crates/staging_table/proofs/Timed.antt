-- The time of a file's staged content is another one.
use Rattle.std.proofs.Common.{◌≡◌, ℕ, None, Some, refl, sym, ap, ◌∙◌}
use Rattle.std.specs.FinMap as fin
use Rattle.std.specs.Option.{option_map, option_map_or}
use Rattle.block_pool.specs.Pool.{Pool}
use Rattle.spare_maps.specs.SpareMaps.{Numbered}
use Rattle.staging_table.specs.Stagings.{Stagings, with_mtime}
use Rattle.staging_table.specs.Tables.{content_of, stagings_of, HoldsStagings}
use Rattle.staging_table.specs.declared.held.Held.{Held}
use Rattle.staging_table.proofs.Changed.{Changes, owns-held, changed-files, changed-holds}
use Rattle.staging_table.proofs.Served.{found}

module _ (pool : Pool) (held : Numbered Held) (room : ℕ) (table : Stagings) (holds : HoldsStagings pool held room) (is : stagings_of pool held.map room ≡ table) (node seconds nanos : ℕ) where
  -- nothing is staged
  pub none-timed : fin.get held.map node ≡ None → table ≡ record table { files = with_mtime table.files node seconds nanos }
  none-timed none = λ i. record table {
    files = sym (ap (λ o. option_map_or (λ staged. fin.insert table.files node (record { overlay = staged.overlay; seconds = seconds; nanos = nanos })) o table.files)
        (found pool held room table holds is node ∙ ap (option_map (content_of pool.chains)) none)) i;
  }

  module _ (file : Held) (there : fin.get held.map node ≡ Some file) where
    abbrev pub timed : Held
    timed = record { staged = file.staged; seconds = seconds; nanos = nanos }

    abbrev pub left : Numbered Held
    left = record { map = fin.insert held.map node timed; spare = held.spare }

    pub times : Changes pool held node file.staged pool left timed
    times = record {
      own = owns-held pool held room holds node file there;
      leaves = record {
        kept = record { others = λ other some n. refl; apart = λ other some n. n; chain = (holds.staged node file there).chain };
        free = refl;
        blocks = refl;
        base = refl;
      };
      staged = holds.staged node file there;
      valid = holds.valid;
      put = refl;
    }

    pub timed-holds : HoldsStagings pool left room
    timed-holds = changed-holds pool held room holds node file.staged pool left timed times room holds.room

    pub timed-shows : stagings_of pool left.map room ≡ record table { files = with_mtime table.files node seconds nanos }
    timed-shows = λ i. record {
      files = (changed-files pool held room holds node file.staged pool left timed times
          ∙ ap (λ t. fin.insert t.files node (content_of pool.chains timed)) is
          ∙ sym (ap (λ o. option_map_or (λ staged. fin.insert table.files node (record { overlay = staged.overlay; seconds = seconds; nanos = nanos })) o table.files)
          (found pool held room table holds is node ∙ ap (option_map (content_of pool.chains)) there))) i;
      blocks = ap (λ t. t.blocks) is i;
      spare = ap (λ t. t.spare) is i;
    }
