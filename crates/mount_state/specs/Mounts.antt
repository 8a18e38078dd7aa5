-- What contracts see of a mount in tables.
use Rattle.std.specs.Prelude.{ℕ, Bool, refl}
use Rattle.std.specs.Coded.{Coded, code_by, coded×, coded_ℕ, coded_bool}
use Rattle.std.specs.FinMap as fin
use Rattle.handle_table.specs.Handles.{opened_code}
use Rattle.inode_table.specs.Codes.{inodes_code}
use Rattle.mount_model.specs.declared.config.Config.{Config}
use Rattle.mount_rules.specs.Mount.{MountModel, NodeTable, OpenHandles}
use Rattle.mount_state.specs.Codes.{config_code, file_code}
use Rattle.staging_spec.specs.StagedFiles.{StagedFiles, files_code}

-- a mount, its settings, and how much room it has promised to the spares that are out
pub record MountState : Type 0 where
  pub mount : MountModel
  pub config : Config
  pub promised : ℕ

abbrev pub mount_code : Coded MountModel
mount_code =
    code_by
    (NodeTable × (OpenHandles × (ℕ × (StagedFiles × Bool))))
    (coded× (inodes_code file_code) (coded× (fin.code coded_ℕ opened_code) (coded× coded_ℕ (coded× files_code coded_bool))))
    (λ m. (m.table, (m.handles, (m.next_handle, (m.staged, m.negotiated)))))
    (λ p. record { table = p.0; handles = p.1.0; next_handle = p.1.1.0; staged = p.1.1.1.0; negotiated = p.1.1.1.1 })
    (λ _. refl)

abbrev pub state_code : Coded MountState
state_code = code_by (MountModel × (Config × ℕ)) (coded× mount_code (coded× config_code coded_ℕ)) (λ s. (s.mount, (s.config, s.promised))) (λ p. record { mount = p.0; config = p.1.0; promised = p.1.1 }) (λ _. refl)
