-- A WRITE that isn't full is covered.
use Rattle.std.proofs.Common.{refl, sym, ◌∙◌}
use Rattle.mount_model.specs.Configs.{default_config}
use Rattle.mount_model.specs.declared.config.Config.{Config}
use Rattle.mount_state.proofs.tables.Tables.write_given.Goals as goal

pub stage-requires-clause-covers : goal.stage-requires-clause-covers
stage-requires-clause-covers c =
    let config : Config = record default_config { staging_blocks = c.args.self.now.staging.blocks } in
    c.requires.covers config refl (sym (c.is_full.ensures config refl) ∙ c.if-is_full.false)
