-- The rules of INIT are sound.
use Rattle.std.proofs.Common.{◌≡◌, ℕ, Bool, true, false, List, [], refl, arith, Some}
use Rattle.std.specs.Prelude.{if◌then◌else◌, bit_and}
use Rattle.fuse_replies.specs.declared.reply.Reply.TheVariants.{Error, InitDone}
use Rattle.inode_spec.specs.Inodes.{lookups_of}
use Rattle.fuse_replies.specs.Errno.{enomem, eproto}
use Rattle.mount_rules.specs.Laws.{GivesLater, Keeps, given}
use Rattle.mount_rules.specs.Mount.{IsMount, MountModel}
use Rattle.mount_rules.specs.Plans.{done}
use Rattle.mount_rules.specs.Requests.Init as init
use Rattle.mount_laws.proofs.Asking.{asks_none, at_most_none}
use Rattle.mount_laws.proofs.Keeping.{no_Some}
use Rattle.mount_laws.proofs.Leaving.{Keeps-same}
use Rattle.mount_laws.proofs.Memory.{no_error}
use Rattle.mount_laws.proofs.Mounts.{GivesLater-negotiated, GivesLater-same}
use Rattle.mount_laws.proofs.Sound.{IsSound}
use Rattle.mount_laws.proofs.Sources.{NodesFrom, NodesFrom-same}

module _ (major minor readahead flags : ℕ) where
  later : (mount : MountModel) → IsMount mount → (taken : Bool) → GivesLater mount (if taken then record mount { negotiated = true } else mount)
  later mount is true = GivesLater-negotiated mount is true
  later mount is false = GivesLater-same mount is

  leaves : (mount : MountModel) (taken : Bool) → Keeps [] mount (if taken then record mount { negotiated = true } else mount)
  leaves mount true = record {
    sights = λ number sight is mine. is;
    handles = λ fh handle is mine. is;
    kept = λ number sight is mine named. refl;
    current = λ name mine owned. refl;
    staged = λ number mine. refl;
  }
  leaves mount false = Keeps-same [] mount

  counts : (mount : MountModel) (number : ℕ) (taken : Bool) → lookups_of (if taken then record mount { negotiated = true } else mount).table number ≡ lookups_of mount.table number
  counts mount number true = refl
  counts mount number false = refl

  agrees : (mount : MountModel) → mount.negotiated ≡ true → (taken : Bool) → (if taken then record mount { negotiated = true } else mount).negotiated ≡ true
  agrees mount agreed true = refl
  agrees mount agreed false = agreed

  keeps_staged : (mount : MountModel) (taken : Bool) → (if taken then record mount { negotiated = true } else mount).staged ≡ mount.staged
  keeps_staged mount true = refl
  keeps_staged mount false = refl

  nodes : (mount : MountModel) (Shown : List ℕ → ℕ → ℕ → Type 0) (taken : Bool) → NodesFrom Shown mount.table (if taken then record mount { negotiated = true } else mount).table
  nodes mount Shown true = NodesFrom-same Shown mount.table
  nodes mount Shown false = NodesFrom-same Shown mount.table

  answers : (newer taken : Bool) → (if newer then InitDone 0 0 true else if taken then InitDone readahead (bit_and flags init.granted_flags) false else Error eproto) ≡ Error enomem → ⊥
  answers true taken e = cc
  answers false true e = cc
  answers false false e = let same : eproto ≡ enomem = cc in absurd (omega (arith, same))

  gives : (number : ℕ) (newer taken : Bool) → given (if newer then InitDone 0 0 true else if taken then InitDone readahead (bit_and flags init.granted_flags) false else Error eproto) number ≡ 0
  gives number true taken = refl
  gives number false true = refl
  gives number false false = refl

  pub init_sound : IsSound (init.rules major minor readahead flags) (λ number. 0) (Some 0)
  init_sound = record {
    later = λ at mount seen goes. later mount goes.is (init.is_taken major minor);
    leaves = λ at mount seen goes. leaves mount (init.is_taken major minor);
    sees = λ at mount goes asks. absurd (asks refl);
    covers = λ taken answers op allows. absurd allows;
    harmless = λ taken seen planned fits asks. absurd (asks refl);
    bounded = λ taken seen n is planned. at_most_none seen n is (asks_none (λ answers. done) refl seen planned);
    reads = λ taken wanted wants_it. absurd (no_Some wants_it);
    of_files = λ mount wanted is wants_it. absurd (no_Some wants_it);
    agrees = λ taken mount seen agreed. agrees mount agreed (init.is_taken major minor);
    refuses = λ view. no_error;
    keeps_staged = λ at mount seen errno free error. keeps_staged mount (init.is_taken major minor);
    answers = λ taken mount seen. answers (init.is_newer major) (init.is_taken major minor);
    counts = λ at mount seen number other goes.
        let none : given (init.reply major minor readahead flags) number ≡ 0 = gives number (init.is_newer major) (init.is_taken major minor) in
        let same = counts mount number (init.is_taken major minor) in
        omega (arith, none, same);
    nodes = λ Shown at mount seen goes tells. nodes mount Shown (init.is_taken major minor);
  }
