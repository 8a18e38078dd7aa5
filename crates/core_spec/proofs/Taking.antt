-- A call is taken: what told all of the mount goes on by its take.
use Rattle.std.proofs.Common.{◌≡◌, ◌≢◌, ℕ, ◌+◌, Bool, true, false, List, [], ◌∷◌, ◌++◌, length, Some, None, refl, sym, ap, subst, ◌∙◌, arith, inl, inr}
use Rattle.std.specs.Prelude.{◌&&◌, ◌==◌, ◌⊎◌, not, Option, is_some}
use Rattle.std.proofs.lemmas.Bool.Decides.{eqb_tells}
use Rattle.std.proofs.lemmas.List.{map-append}
use Rattle.bucket_api.specs.Passes.{PassState}
use Rattle.core_spec.proofs.Almost.{AlmostTells, whole}
use Rattle.core_spec.proofs.Apart.{StandApart-append}
use Rattle.core_spec.proofs.Beside.{beside_taken}
use Rattle.core_spec.specs.Beside.{AreBeside}
use Rattle.core_spec.specs.Laws.{TakesGoOn}
use Rattle.core_spec.specs.Cores.{AreHome, CoreState, Tells, come_to, take_at, with_take}
use Rattle.fuse_requests.specs.declared.request.Request.{Request}
use Rattle.history_spec.proofs.JournalLaws.{entry_is_added}
use Rattle.history_spec.proofs.LaneLaws.{turn_keeps_covered}
use Rattle.history_spec.proofs.Lanes.{open_of-first, open_of-later, other_lane, same_lane}
use Rattle.history_spec.specs.Account.{Account, journal_of, printed}
use Rattle.history_spec.specs.Claims.{shared_of}
use Rattle.history_spec.specs.Fits.{MayFollow, ended_in}
use Rattle.history_spec.specs.JournalState.{JournalState, OpenCall, first_journal, open_of}
use Rattle.history_spec.specs.Lanes.{IsCovered}
use Rattle.history_spec.specs.Laws.{GoesOn}
use Rattle.lane_spec.proofs.Held.{has-without}
use Rattle.lane_spec.specs.Numbers.{has, without}
use Rattle.mount_model.specs.Journal.{Entry}
use Rattle.mount_model.specs.declared.gate.CallId.{CallId}
use Rattle.mount_rules.specs.Dispatch.{claims, plan}
use Rattle.mount_rules.specs.Overlap.{ApartFromAll}
use Rattle.mount_rules.specs.Plans.{done}
use Rattle.thrift_spec.specs.Laws.{call_at}
use Rattle.thrift_spec.proofs.InParts.{IsThriftyAccount-append}

-- ---- truth
pub and_false : (b : Bool) → b && false ≡ false
and_false true = refl
and_false false = refl

pub and_true : (b : Bool) → b && true ≡ b
and_true true = refl
and_true false = refl

-- ---- the lane is free
-- a lane that the pass holds is its own, and has no call under way
pub is_home : (home held : Bool) (found : Option OpenCall) → held ≡ home && not (is_some found) → held ≡ true → (home ≡ true) × (found ≡ None)
is_home true held None is its = (refl, refl)
is_home true held (Some o) is its = absurd (let never : true ≡ false = sym its ∙ is in cc)
is_home false held found is its = absurd (let never : true ≡ false = sym its ∙ is in cc)

module _ {I : Type 0} (core : CoreState (PassState I)) (told : Account) (tells : Tells core told) (call : CallId) (request : Request)
    (held : has core.pass.held call.lane ≡ true) (next : call.index ≡ ended_in (come_to core told) call.lane + 1) where
  abbrev pub taken_call : OpenCall
  taken_call = call_at core.config core.pass.origin.start core.pass.seen (come_to core told) call (length core.pass.seen) request

  pub free : open_of (come_to core told).opened call.lane ≡ None
  free = (is_home (has core.home call.lane) (has core.pass.held call.lane) (open_of (come_to core told).opened call.lane) (tells.held call.lane) held).1

  pub home : has core.home call.lane ≡ true
  home = (is_home (has core.home call.lane) (has core.pass.held call.lane) (open_of (come_to core told).opened call.lane) (tells.held call.lane) held).0

  pub may_take : MayFollow core.pass.origin.start core.pass.seen (come_to core told) (take_at core call request)
  may_take = record { onward = tells.is.within; next = (free, next) }

  pub took : GoesOn core.config core.pass.origin.start core.pass.seen told (take_at core call request)
  took = entry_is_added core.config core.pass.origin.start core.pass.seen told (take_at core call request) tells.is may_take (omega arith)

  pub took_printed : journal_of (told ++ take_at core call request ∷ []) ≡ (with_take core call request).journal
  took_printed = map-append printed told (take_at core call request ∷ []) ∙ ap (λ (es : List Entry). es ++ printed (take_at core call request) ∷ []) tells.printed

  -- the lane is lent, and no other one
  took_held : (lane : ℕ) → has (without core.pass.held call.lane) lane ≡ has core.home lane && not (is_some (open_of (taken_call ∷ (come_to core told).opened) lane))
  took_held lane = has-without core.pass.held call.lane lane ∙ by (eqb_tells call.lane lane)
    where
      by : (((call.lane == lane) ≡ true) × (call.lane ≡ lane)) ⊎ (((call.lane == lane) ≡ false) × (call.lane ≢ lane))
          → has core.pass.held lane && not (lane == call.lane) ≡ has core.home lane && not (is_some (open_of (taken_call ∷ (come_to core told).opened) lane))
      by (inl its) =
          ap (λ t. has core.pass.held lane && not t) (same_lane lane call.lane (sym its.1))
          ∙ (and_false (has core.pass.held lane)
          ∙ (sym (and_false (has core.home lane))
          ∙ sym (ap (λ (found : Option OpenCall). has core.home lane && not (is_some found)) (open_of-first taken_call (come_to core told).opened lane its.1))))
      by (inr far) =
          ap (λ t. has core.pass.held lane && not t) (other_lane lane call.lane (λ same. far.1 (sym same)))
          ∙ (and_true (has core.pass.held lane)
          ∙ (tells.held lane
          ∙ sym (ap (λ (found : Option OpenCall). has core.home lane && not (is_some found)) (open_of-later taken_call (come_to core told).opened lane far.1))))

  -- all is told by the account with the take, but for claims
  pub took_almost : AlmostTells (with_take core call request) (told ++ take_at core call request ∷ [])
  took_almost = record {
    is = took.is;
    printed = took_printed;
    thrifty = IsThriftyAccount-append core.config core.pass.origin.start core.pass.seen told (take_at core call request ∷ []) tells.thrifty (tt, tt, tt);
    covered = λ lane home. subst (λ s. IsCovered core.pass.seen s lane) (sym took.reaches)
        (turn_keeps_covered core.config core.pass.origin.start core.pass.seen (come_to core told) (take_at core call request) lane may_take refl (tells.covered lane home));
    lanes = subst (AreHome core.home) (sym took.reaches) (record { opened = (home, tells.lanes.opened); ended = tells.lanes.ended });
    held = subst (λ (s : JournalState). (lane : ℕ) → has (without core.pass.held call.lane) lane ≡ has core.home lane && not (is_some (open_of s.opened lane))) (sym took.reaches) took_held;
  }

  -- and whole, where it claims nothing that conflicts, and asks something
  pub took_told : ApartFromAll (claims (come_to core told).mount request) (shared_of (come_to core told)).open_calls
      → plan taken_call.taken.at (come_to core told).mount request [] ≢ done → Tells (with_take core call request) (told ++ take_at core call request ∷ [])
  took_told apart asks = whole (with_take core call request) (told ++ take_at core call request ∷ []) took_almost
      (StandApart-append core.config core.pass.origin.start core.pass.seen first_journal told (take_at core call request ∷ []) tells.apart (apart, inl asks, tt))

pub takes_go_on : (I : Type 0) → TakesGoOn I
takes_go_on I core told call request by held next apart asks = record {
  tells = took_told core told by.tells call request held next apart asks;
  beside = subst (λ (s : JournalState). AreBeside core.pass.seen s.opened s.ended) (sym (took core told by.tells call request held next).reaches)
      (beside_taken core.pass.seen (come_to core told).opened (come_to core told).ended (taken_call core told by.tells call request held next) refl apart by.beside);
}
