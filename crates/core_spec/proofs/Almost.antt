-- An account that tells all of a mount, but for what its calls claim.
use Rattle.std.proofs.Common.{◌≡◌, ℕ, true}
use Rattle.std.specs.Prelude.{◌&&◌, not, is_some}
use Rattle.bucket_api.specs.Passes.{PassState}
use Rattle.core_spec.specs.Cores.{AreHome, CoreState, Tells, come_to}
use Rattle.history_spec.specs.Account.{Account, journal_of}
use Rattle.history_spec.specs.Claims.{StandApart}
use Rattle.history_spec.specs.Fits.{IsAccount}
use Rattle.history_spec.specs.JournalState.{first_journal, open_of}
use Rattle.history_spec.specs.Lanes.{IsCovered}
use Rattle.lane_spec.specs.Numbers.{has}
use Rattle.thrift_spec.specs.Thrift.{IsThriftyAccount}

module _ {I : Type 0} where
  pub record AlmostTells (core : CoreState (PassState I)) (told : Account) : Type 0 where
    pub is : IsAccount core.config core.pass.origin.start core.pass.seen told
    pub printed : journal_of told ≡ core.journal
    pub thrifty : IsThriftyAccount core.config core.pass.origin.start core.pass.seen told
    pub covered : (lane : ℕ) → has core.home lane ≡ true → IsCovered core.pass.seen (come_to core told) lane
    pub lanes : AreHome core.home (come_to core told)
    pub held : (lane : ℕ) → has core.pass.held lane ≡ has core.home lane && not (is_some (open_of (come_to core told).opened lane))

  pub almost : (core : CoreState (PassState I)) (told : Account) → Tells core told → AlmostTells core told
  almost core told tells = record { is = tells.is; printed = tells.printed; thrifty = tells.thrifty; covered = tells.covered; lanes = tells.lanes; held = tells.held }

  pub whole : (core : CoreState (PassState I)) (told : Account) → AlmostTells core told → StandApart core.config core.pass.origin.start core.pass.seen first_journal told → Tells core told
  whole core told tells apart =
      record { is = tells.is; printed = tells.printed; apart = apart; thrifty = tells.thrifty; covered = tells.covered; lanes = tells.lanes; held = tells.held }
