-- The rules of RELEASEDIR are sound.
use Rattle.std.proofs.Common.{ℕ, [], ◌∷◌, Some, refl, sym, subst, arith, inl}
use Rattle.claim_spec.specs.Conflicts.{IsOwned}
use Rattle.claim_spec.specs.declared.claim.ClaimKey.TheVariants as key
use Rattle.mount_rules.specs.Claiming.{owns_node}
use Rattle.mount_rules.specs.Plans.{done}
use Rattle.mount_rules.specs.Requests.Releasedir as releasedir
use Rattle.mount_laws.proofs.Guarding.{on_open_directory-memory, on_open_directory-none}
use Rattle.mount_laws.proofs.Asking.{asks_none, at_most_none}
use Rattle.mount_laws.proofs.Keeping.{no_Some}
use Rattle.mount_laws.proofs.Leaving.{Keeps-released}
use Rattle.mount_laws.proofs.Memory.{empty_answered, no_error}
use Rattle.mount_laws.proofs.Mounts.{GivesLater-released}
use Rattle.mount_laws.proofs.Sound.{IsSound}
use Rattle.mount_laws.proofs.Sources.{NodesFrom-same}

pub releasedir_sound : (node fh : ℕ) → IsSound (releasedir.rules node fh) (λ number. 0) (Some 0)
releasedir_sound node fh = record {
  later = λ at mount seen goes. GivesLater-released mount goes.is fh;
  leaves = λ at mount seen goes.
      let open_ = on_open_directory-none node _ _ goes.free in
      Keeps-released _ mount fh open_.handle open_.is (subst (λ n. IsOwned (owns_node node ∷ []) (key.Node n)) (sym open_.node_is) (inl (refl, refl)));
  sees = λ at mount goes asks. absurd (asks refl);
  covers = λ taken told op allows. absurd allows;
  harmless = λ taken seen planned fits asks. absurd (asks refl);
  bounded = λ taken seen n is planned. at_most_none seen n is (asks_none (λ answers. done) refl seen planned);
  reads = λ taken wanted wants_it. absurd (no_Some wants_it);
  of_files = λ mount wanted is wants_it. absurd (no_Some wants_it);
  agrees = λ taken mount seen agreed. agreed;
  refuses = λ view. on_open_directory-memory node view.handle _ (λ items. no_error);
  keeps_staged = λ at mount seen errno free error. refl;
  answers = λ taken mount seen. empty_answered;
  counts = λ at mount seen number other goes. omega arith;
  nodes = λ Shown at mount seen goes tells. NodesFrom-same Shown mount.table;
}
