-- Seconds pass: what told all of the mount goes on by a tick.
use Rattle.std.proofs.Common.{◌≡◌, ℕ, List, [], ◌∷◌, ◌++◌, refl, sym, ap, subst, ◌∙◌, arith}
use Rattle.std.specs.Prelude.{◌&&◌, not, is_some}
use Rattle.std.proofs.lemmas.List.{map-append}
use Rattle.bucket_api.specs.Passes.{PassState}
use Rattle.core_spec.proofs.Apart.{StandApart-append}
use Rattle.core_spec.specs.Beside.{AreBeside}
use Rattle.core_spec.specs.Laws.{TicksGoOn}
use Rattle.core_spec.specs.Cores.{AreHome, CoreState, Tells, come_to, tick_at, with_tick}
use Rattle.history_spec.proofs.JournalLaws.{entry_is_added}
use Rattle.history_spec.proofs.LaneLaws.{turn_keeps_covered}
use Rattle.history_spec.specs.Account.{Account, printed}
use Rattle.history_spec.specs.Fits.{MayFollow}
use Rattle.history_spec.specs.JournalState.{JournalState, first_journal, open_of}
use Rattle.history_spec.specs.Lanes.{IsCovered}
use Rattle.history_spec.specs.Laws.{GoesOn}
use Rattle.lane_spec.specs.Numbers.{has}
use Rattle.mount_model.specs.Journal.{Entry}
use Rattle.thrift_spec.proofs.InParts.{IsThriftyAccount-append}

module _ {I : Type 0} (core : CoreState (PassState I)) (told : Account) (tells : Tells core told) (seconds : ℕ) where
  may_tick : MayFollow core.pass.origin.start core.pass.seen (come_to core told) (tick_at core seconds)
  may_tick = record { onward = tells.is.within; next = tt }

  ticked : GoesOn core.config core.pass.origin.start core.pass.seen told (tick_at core seconds)
  ticked = entry_is_added core.config core.pass.origin.start core.pass.seen told (tick_at core seconds) tells.is may_tick (omega arith)

  pub tick_told : Tells (with_tick core seconds) (told ++ tick_at core seconds ∷ [])
  tick_told = record {
    is = ticked.is;
    printed = map-append printed told (tick_at core seconds ∷ []) ∙ ap (λ (es : List Entry). es ++ printed (tick_at core seconds) ∷ []) tells.printed;
    apart = StandApart-append core.config core.pass.origin.start core.pass.seen first_journal told (tick_at core seconds ∷ []) tells.apart tt;
    thrifty = IsThriftyAccount-append core.config core.pass.origin.start core.pass.seen told (tick_at core seconds ∷ []) tells.thrifty (tt, tt, tt);
    covered = λ lane home. subst (λ s. IsCovered core.pass.seen s lane) (sym ticked.reaches)
        (turn_keeps_covered core.config core.pass.origin.start core.pass.seen (come_to core told) (tick_at core seconds) lane may_tick refl (tells.covered lane home));
    lanes = subst (AreHome core.home) (sym ticked.reaches) (record { opened = tells.lanes.opened; ended = tells.lanes.ended });
    held = subst (λ (s : JournalState). (lane : ℕ) → has core.pass.held lane ≡ has core.home lane && not (is_some (open_of s.opened lane))) (sym ticked.reaches) tells.held;
  }

pub ticks_go_on : (I : Type 0) → TicksGoOn I
ticks_go_on I core told seconds by = record {
  tells = tick_told core told by.tells seconds;
  beside = subst (λ (s : JournalState). AreBeside core.pass.seen s.opened s.ended) (sym (ticked core told by.tells seconds).reaches)
      (record { open_calls = by.beside.open_calls; done_calls = by.beside.done_calls });
}
