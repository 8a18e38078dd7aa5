-- A call is taken and done at once: what told all of the mount goes on by both turns, side by side.
use Rattle.std.proofs.Common.{◌≡◌, ◌+◌, true, List, [], ◌∷◌, ◌++◌, append_assoc, cond, length, Some, refl, sym, ap, subst, ◌∙◌, inl, inr}
use Rattle.bucket_api.specs.Operation.{Operation}
use Rattle.bucket_api.specs.Passes.{PassState}
use Rattle.core_spec.proofs.Almost.{AlmostTells}
use Rattle.core_spec.proofs.Apart.{StandApart-append}
use Rattle.core_spec.proofs.Beside.{beside_taken}
use Rattle.core_spec.proofs.Finishing.{finish_almost, finish_beside, finish_reached}
use Rattle.core_spec.proofs.Taking.{took, took_almost}
use Rattle.core_spec.specs.Beside.{AreBeside}
use Rattle.core_spec.specs.Cores.{CoreState, Tells, come_to, done_at, kept_by, take_at, with_both, with_done, with_lane, with_take}
use Rattle.core_spec.specs.Laws.{BothGoOn}
use Rattle.fuse_requests.specs.declared.request.Request.{Request}
use Rattle.history_spec.proofs.Lanes.{open_of-first, same_lane}
use Rattle.history_spec.specs.Account.{Account, Item, Turn, printed, uses_of}
use Rattle.history_spec.specs.Claims.{InOneTurn, shared_of}
use Rattle.history_spec.specs.Fits.{EndsBy, HasWalked, ended_in, plan_of}
use Rattle.history_spec.specs.JournalState.{JournalState, OpenCall, after_done, first_journal, open_of, reached, with_taken}
use Rattle.history_spec.specs.Observing.{seen_by}
use Rattle.lane_spec.proofs.Held.{has-met_again}
use Rattle.lane_spec.specs.Numbers.{has}
use Rattle.mount_laws.proofs.RequestLaws.{claims_cover}
use Rattle.mount_model.specs.Observing.{Observed}
use Rattle.mount_model.specs.declared.gate.CallId.{CallId}
use Rattle.mount_model.specs.declared.journal.Fill.{Fill}
use Rattle.mount_model.specs.declared.journal.How.{How}
use Rattle.mount_model.specs.declared.journal.How.TheVariants as how
use Rattle.mount_rules.specs.Dispatch.{claims, plan, wants}
use Rattle.mount_rules.specs.Laws as rules
use Rattle.mount_rules.specs.Overlap.{ApartFromAll}
use Rattle.mount_rules.specs.Plans.{Allows, Plan, Step, answers_of, ask, done, may_read}
use Rattle.thrift_spec.proofs.InParts.{kept_at-append}
use Rattle.thrift_spec.specs.Files.{wholes_read}
use Rattle.thrift_spec.specs.Laws.{call_at}
use Rattle.thrift_spec.specs.Records.{AreTold}
use Rattle.thrift_spec.specs.Thrift.{AllThrifty, EndsThrifty, IsFillOf, Kept, ReadsAre, fit, kept_after_turn, reads_of}

module _ {I : Type 0} (core : CoreState (PassState I)) (told : Account) (tells : Tells core told)
    (beside : AreBeside core.pass.seen (come_to core told).opened (come_to core told).ended) (call : CallId) (request : Request)
    (held : has core.pass.held call.lane ≡ true) (next : call.index ≡ ended_in (come_to core told) call.lane + 1)
    (apart : ApartFromAll (claims (come_to core told).mount request) (shared_of (come_to core told)).open_calls) where
  abbrev pub o : OpenCall
  o = call_at core.config core.pass.origin.start core.pass.seen (come_to core told) call (length core.pass.seen) request

  abbrev its_take : Turn
  its_take = take_at core call request

  abbrev middle : CoreState (PassState I)
  middle = with_take core call request

  abbrev told_taken : Account
  told_taken = told ++ take_at core call request ∷ []

  came : come_to (with_take core call request) (told ++ take_at core call request ∷ []) ≡ with_taken (come_to core told) o
  came = (took core told tells call request held next).reaches

  found : open_of (come_to (with_take core call request) (told ++ take_at core call request ∷ [])).opened call.lane ≡ Some o
  found = ap (λ (s : JournalState). open_of s.opened call.lane) came ∙ open_of-first o (come_to core told).opened call.lane refl

  beside_then : AreBeside core.pass.seen (come_to (with_take core call request) (told ++ take_at core call request ∷ [])).opened (come_to (with_take core call request) (told ++ take_at core call request ∷ [])).ended
  beside_then = subst (λ (s : JournalState). AreBeside core.pass.seen s.opened s.ended) (sym came)
      (beside_taken core.pass.seen (come_to core told).opened (come_to core told).ended o refl apart beside)

  kept_then : kept_by (with_take core call request) (told ++ take_at core call request ∷ [])
      ≡ kept_after_turn core.config core.pass.origin.start core.pass.seen (come_to core told) (kept_by core told) (take_at core call request)
  kept_then = kept_at-append core.config core.pass.origin.start core.pass.seen told (take_at core call request ∷ [])

  module _ (h : How) (items : List Item) (fill : Fill)
      (walk : HasWalked core.pass.origin.start core.pass.seen (plan o.taken.at (come_to core told).mount request) o (length core.pass.seen) items)
      (ends : EndsBy h (plan o.taken.at (come_to core told).mount request) (seen_by core.pass.origin.start core.pass.seen items))
      (looks : AllThrifty core.pass.origin.start core.pass.seen o (kept_by core told).records items)
      (reads : ReadsAre h (reads_of core.config.cache_blocks (kept_by core told).files o.taken.at.contents (wants core.config (come_to core told).mount request)) (seen_by core.pass.origin.start core.pass.seen items))
      (filled : IsFillOf h (fit core.config.cache_blocks (wholes_read o.taken.at.contents (seen_by core.pass.origin.start core.pass.seen items))) fill)
      (learned : AreTold core.config.implicit_dirs core.pass.origin.start core.pass.seen o.clock
      (kept_after_turn core.config core.pass.origin.start core.pass.seen (come_to core told) (kept_by core told) (take_at core call request)).records items) where
    plan_then : plan o.taken.at (come_to core told).mount request ≡ plan_of (come_to middle told_taken) o
    plan_then = sym (ap (λ (s : JournalState). plan o.taken.at s.mount request) came)

    walk_then : HasWalked core.pass.origin.start core.pass.seen (plan_of (come_to middle told_taken) o) o (length core.pass.seen) items
    walk_then = subst (λ (p : Plan). HasWalked core.pass.origin.start core.pass.seen p o (length core.pass.seen) items) plan_then walk

    ends_then : EndsBy h (plan_of (come_to middle told_taken) o) (seen_by core.pass.origin.start core.pass.seen items)
    ends_then = subst (λ (p : Plan). EndsBy h p (seen_by core.pass.origin.start core.pass.seen items)) plan_then ends

    covers : (seen : List Observed) (op : Operation) → Allows (plan_of (come_to middle told_taken) o (answers_of seen)) op → rules.IsCovered o.taken.claimed op
    covers seen op allows = claims_cover o.taken.at (come_to core told).mount request seen op
        (subst (λ (p : Plan). Allows (p (answers_of seen)) op) (sym plan_then) allows)

    thrifty : EndsThrifty core.config core.pass.origin.start core.pass.seen (kept_by middle told_taken) o h items fill
    thrifty = subst (λ (k : Kept). EndsThrifty core.config core.pass.origin.start core.pass.seen k o h items fill) (sym kept_then) (record {
      looks = subst (λ t. AllThrifty core.pass.origin.start core.pass.seen o (cond t (kept_by core told).records ((kept_by core told).found call.lane)) items) (sym (same_lane call.lane call.lane refl)) looks;
      reads = subst (λ t. ReadsAre h (cond t (reads_of core.config.cache_blocks (kept_by core told).files o.taken.at.contents (wants core.config (come_to core told).mount request)) ((kept_by core told).reads call.lane))
          (seen_by core.pass.origin.start core.pass.seen items)) (sym (same_lane call.lane call.lane refl)) reads;
      fills = filled;
    })

    learned_then : AreTold core.config.implicit_dirs core.pass.origin.start core.pass.seen o.clock (kept_by middle told_taken).records items
    learned_then = subst (λ (k : Kept). AreTold core.config.implicit_dirs core.pass.origin.start core.pass.seen o.clock k.records items) (sym kept_then) learned

    abbrev its_end : Turn
    its_end = done_at core call h items fill

    both_is : (told ++ take_at core call request ∷ []) ++ done_at core call h items fill ∷ [] ≡ told ++ take_at core call request ∷ done_at core call h items fill ∷ []
    both_is = append_assoc told (take_at core call request ∷ []) (done_at core call h items fill ∷ [])

    ended : AlmostTells (with_done (with_lane middle call.lane core.pass.faults) call h (uses_of items) fill) (told ++ take_at core call request ∷ done_at core call h items fill ∷ [])
    ended = subst (AlmostTells (with_done (with_lane middle call.lane core.pass.faults) call h (uses_of items) fill)) both_is
        (finish_almost middle told_taken (took_almost core told tells call request held next) o found h items fill walk_then ends_then covers beside_then thrifty learned_then core.pass.faults)

    one_turn : (step : Step) → InOneTurn step call (done_at core call h items fill ∷ [])
    one_turn done = inr (refl, refl)
    one_turn (ask op) = inl (λ is. absurd (let never : ask op ≡ done = is in cc))
    one_turn (may_read source step) = inl (λ is. absurd (let never : may_read source step ≡ done = is in cc))

    journal_is : (core.journal ++ printed (take_at core call request) ∷ []) ++ printed (done_at core call h items fill) ∷ []
        ≡ (with_both core call request h (uses_of items) fill).journal
    journal_is = append_assoc core.journal (printed (take_at core call request) ∷ []) (printed (done_at core call h items fill) ∷ [])

    -- all is told by the account with both
    pub both_told : Tells (with_both core call request h (uses_of items) fill) (told ++ take_at core call request ∷ done_at core call h items fill ∷ [])
    both_told = record {
      is = ended.is;
      printed = ended.printed ∙ journal_is;
      apart = StandApart-append core.config core.pass.origin.start core.pass.seen first_journal told (its_take ∷ its_end ∷ []) tells.apart (apart, one_turn _, tt);
      thrifty = ended.thrifty;
      covered = ended.covered;
      lanes = ended.lanes;
      held = λ lane. sym (has-met_again core.pass.held call.lane held lane) ∙ ended.held lane;
    }

    pub both_reached : come_to core (told ++ take_at core call request ∷ done_at core call h items fill ∷ [])
        ≡ after_done core.pass.origin.start core.pass.seen (with_taken (come_to core told) o) (length core.pass.seen) h items o
    both_reached = sym (ap (reached core.config core.pass.origin.start core.pass.seen) both_is)
        ∙ (finish_reached middle told_taken (took_almost core told tells call request held next) o found h items fill walk_then ends_then covers beside_then thrifty learned_then
        ∙ ap (λ (s : JournalState). after_done core.pass.origin.start core.pass.seen s (length core.pass.seen) h items o) came)

    pub both_beside : AreBeside core.pass.seen (come_to core (told ++ take_at core call request ∷ done_at core call h items fill ∷ [])).opened
        (come_to core (told ++ take_at core call request ∷ done_at core call h items fill ∷ [])).ended
    both_beside = subst (λ (a : Account). AreBeside core.pass.seen (come_to core a).opened (come_to core a).ended) both_is
        (finish_beside middle told_taken (took_almost core told tells call request held next) o found h items fill walk_then ends_then covers beside_then thrifty learned_then)

pub both_go_on : (I : Type 0) → BothGoOn I
both_go_on I core told call request items fill is held next apart may = record {
  tells = both_told core told is.tells is.beside call request held next apart how.Ok items fill may.walk may.ends may.looks may.reads may.filled may.learned;
  beside = both_beside core told is.tells is.beside call request held next apart how.Ok items fill may.walk may.ends may.looks may.reads may.filled may.learned;
}
