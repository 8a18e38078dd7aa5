-- The bytes are written, since there is room.
use Rattle.std.proofs.Common.{◌<◌, length, refl, sym, subst, ◌∙◌, arith}
use Rattle.std.proofs.lemmas.Bool.Decides.{nat_tests}
use Rattle.mount_model.specs.Configs.{default_config}
use Rattle.mount_model.specs.declared.config.Config.{Config}
use Rattle.mount_rules.specs.Rules.{at_file}
use Rattle.mount_rules.specs.View.{sight_at, view_of}
use Rattle.staging_spec.specs.Slices.{Holds}
use Rattle.mount_state.specs.Tables.{mount_of}
use Rattle.mount_state.proofs.WriteLaws.{fits_unless_full, on_ok, written_by_rules, written_so}
use Rattle.mount_state.proofs.tables.Tables.stage.Goals as goal

pub unwrap-requires : goal.unwrap-requires
unwrap-requires c =
    let config : Config = record default_config { staging_blocks = c.args.self.now.staging.blocks } in
    let some : 0 < length c.args.content.now = grind (arith, nat_tests, c.if-is_empty.false, c.is_empty.ensures) in
    c.write.ensures.full
    ∙ fits_unless_full config (mount_of c.args.self.now) c.args.node c.args.first c.args.self.now.staging.blocks c.args.content.now c.source_len-size.result some c.requires.there
    c.source_len-size.ensures.size refl (c.requires.fits config refl)

pub returns-clause-mount : goal.returns-clause-mount
returns-clause-mount c = λ at now holds.
    let mount = mount_of c.args.self.now in
    let some : 0 < length c.args.content.now = grind (arith, nat_tests, c.if-is_empty.false, c.is_empty.ensures) in
    written_so mount c.args.node c.args.first c.args.content.now c.args.base.now.first c.args.base.now.bytes c.wanted_by_write-wanted.result c.source_len-size.result
    at c.args.second c.write.new.self.files (sight_at mount.table c.args.node) now some c.requires.there c.source_len-size.ensures.size
    c.wanted_by_write-wanted.ensures.ok holds
    (λ source held. on_ok c.write.result c.unwrap.result c.unwrap.ensures c.write.ensures.ok source (subst (Holds source c.args.base.now.first) (sym c.bytes_for-bytes.ensures) held))
    ∙ written_by_rules at (view_of mount (at_file c.args.node)) mount c.args.node c.args.first c.args.content.now some
