-- What a take, an end and a tick make of a mount that many calls share.
use Rattle.std.specs.Prelude.{◌≡◌, ℕ, Bool, List, [], ◌∷◌, ◌++◌, length}
use Rattle.bucket_api.specs.Passes.{LogGoesOn, PassState, both_faults}
use Rattle.fuse_replies.specs.declared.reply.Reply.{Reply}
use Rattle.fuse_requests.specs.declared.request.Request.{Request}
use Rattle.history_spec.specs.Account.{Account, Item, uses_of}
use Rattle.history_spec.specs.Claims.{shared_of}
use Rattle.history_spec.specs.Fits.{EndsBy, HasWalked}
use Rattle.history_spec.specs.JournalState.{EndedCall, OpenCall}
use Rattle.history_spec.specs.Observing.{seen_by}
use Rattle.lane_spec.specs.Numbers.{together}
use Rattle.mount_model.specs.declared.gate.CallId.{CallId}
use Rattle.mount_model.specs.declared.journal.Fill.{Fill}
use Rattle.mount_model.specs.declared.journal.How.TheVariants as how
use Rattle.mount_rules.specs.Dispatch.{claims, plan, wants}
use Rattle.mount_rules.specs.Overlap.{ApartFromAll}
use Rattle.thrift_spec.specs.Files.{wholes_read}
use Rattle.thrift_spec.specs.Records.{AreTold}
use Rattle.thrift_spec.specs.Thrift.{AllThrifty, IsFillOf, ReadsAre, fit, kept_after_turn, reads_of}
use Rattle.thrift_spec.specs.Laws.{call_at}
use Rattle.core_spec.specs.Cores.{CoreState, Looks, Tells, come_to, done_at, kept_by, take_at, tick_at, with_both, with_done, with_take, with_tick}
use Rattle.core_spec.specs.Tickets.{TicketState, first_ticket, how_of}

module _ {I : Type 0} where
  -- the account tells all, and its latest call that ended is this one, answered so
  pub record Answers (before after : CoreState (PassState I)) (told longer : Account) (call : CallId) (reply : Reply) : Type 0 where
    pub tells : Tells after longer
    pub ended : EndedCall
    pub ends : (come_to after longer).ended ≡ ended ∷ (come_to before told).ended
    pub is_call : ended.call ≡ call
    pub answered : ended.reply ≡ reply

  -- the account tells all, and no more calls have ended
  pub record GoesOn (before after : CoreState (PassState I)) (told longer : Account) : Type 0 where
    pub tells : Tells after longer
    pub ended : (come_to after longer).ended ≡ (come_to before told).ended

  -- ---- a take
  -- the call as it is taken now
  abbrev pub call_now : CoreState (PassState I) → Account → CallId → Request → OpenCall
  call_now core told call request = call_at core.config core.pass.origin.start core.pass.seen (come_to core told) call (length core.pass.seen) request

  -- A call may be taken and done at once with these items, of which none is its own: what was found kept served its looks and its
  -- reads, and so it ends.
  pub record MayEndAtOnce (core : CoreState (PassState I)) (told : Account) (call : CallId) (request : Request) (items : List Item) (fill : Fill) : Type 0 where
    pub walk : HasWalked core.pass.origin.start core.pass.seen (plan (call_now core told call request).taken.at (come_to core told).mount request) (call_now core told call request) (length core.pass.seen) items
    pub ends : EndsBy how.Ok (plan (call_now core told call request).taken.at (come_to core told).mount request) (seen_by core.pass.origin.start core.pass.seen items)
    pub looks : AllThrifty core.pass.origin.start core.pass.seen (call_now core told call request) (kept_by core told).records items
    pub reads : ReadsAre how.Ok
        (reads_of core.config.cache_blocks (kept_by core told).files (call_now core told call request).taken.at.contents (wants core.config (come_to core told).mount request))
        (seen_by core.pass.origin.start core.pass.seen items)
    pub filled : IsFillOf how.Ok (fit core.config.cache_blocks (wholes_read (call_now core told call request).taken.at.contents (seen_by core.pass.origin.start core.pass.seen items))) fill
    pub learned : AreTold core.config.implicit_dirs core.pass.origin.start core.pass.seen (call_now core told call request).clock
        (kept_after_turn core.config core.pass.origin.start core.pass.seen (come_to core told) (kept_by core told) (take_at core call request)).records items

  -- The call was taken and done at once: by what is kept, nothing was asked of the bucket.
  pub record EndsAtOnce (before after : CoreState (PassState I)) (call : CallId) (request : Request) (reply : Reply) : Type 0 where
    pub looked : CoreState (PassState I)
    pub looks : Looks before looked
    pub items : List Item
    pub fill : Fill
    pub left : after ≡ with_both looked call request how.Ok (uses_of items) fill
    pub tells : (told : Account) → Tells looked told → Answers looked after told (told ++ take_at looked call request ∷ done_at looked call how.Ok items fill ∷ []) call reply

  -- The call is held back: its claims conflict with what a call under way holds.
  pub record IsHeldBack (before after : CoreState (PassState I)) (request : Request) : Type 0 where
    pub looks : Looks before after
    pub conflicts : (told : Account) → Tells after told → ApartFromAll (claims (come_to after told).mount request) (shared_of (come_to after told)).open_calls → ⊥

  -- The call was taken, and is under way: it can't be done at once.
  pub record IsTakenOn (before after : CoreState (PassState I)) (call : CallId) (request : Request) (ticket : TicketState (PassState I)) : Type 0 where
    pub looks : Looks before ticket.core
    pub left : after ≡ with_take ticket.core call request
    pub is : ticket ≡ first_ticket ticket.core call request
    pub tells : (told : Account) → Tells ticket.core told → GoesOn ticket.core after told (told ++ take_at ticket.core call request ∷ [])
    pub asks : (told : Account) (items : List Item) (fill : Fill) → Tells ticket.core told
        → Tells (with_both ticket.core call request how.Ok (uses_of items) fill) (told ++ take_at ticket.core call request ∷ done_at ticket.core call how.Ok items fill ∷ []) → ⊥

  -- ---- an end
  -- the pass of the ticket is met, and its lane is back
  pub record Meets (before : CoreState (PassState I)) (ticket : TicketState (PassState I)) (met : CoreState (PassState I)) : Type 0 where
    pub kept : met ≡ record before { pass = record before.pass { held = together before.pass.held ticket.pass.held; seen = met.pass.seen; faults = both_faults before.pass.faults ticket.pass.faults } }
    pub mine : LogGoesOn before.pass.held before.pass.seen met.pass.seen
    pub its : LogGoesOn ticket.pass.held ticket.pass.seen met.pass.seen

  -- what the end of a call learns and keeps, by what the mount has kept
  pub record Learns (met : CoreState (PassState I)) (told : Account) (o : OpenCall) (short : Bool) (items : List Item) (fill : Fill) : Type 0 where
    pub filled : IsFillOf (how_of short) (fit met.config.cache_blocks (wholes_read o.taken.at.contents (seen_by met.pass.origin.start met.pass.seen items))) fill
    pub learned : AreTold met.config.implicit_dirs met.pass.origin.start met.pass.seen o.clock (kept_by met told).records items

  -- The call is done, as it went: performed, or short where memory was refused to it.
  pub record IsDone (before after : CoreState (PassState I)) (ticket : TicketState (PassState I)) (reply : Reply) : Type 0 where
    pub met : CoreState (PassState I)
    pub meets : Meets before ticket met
    pub items : List Item
    pub fill : Fill
    pub left : after ≡ with_done met ticket.call (how_of ticket.short) (uses_of items) fill
    pub tells : (told : Account) → Tells before told → Answers before after told (told ++ done_at met ticket.call (how_of ticket.short) items fill ∷ []) ticket.call reply

  -- ---- the clock
  pub record TicksOn (before after : CoreState (PassState I)) (seconds : ℕ) : Type 0 where
    pub looked : CoreState (PassState I)
    pub looks : Looks before looked
    pub left : after ≡ with_tick looked seconds
    pub tells : (told : Account) → Tells looked told → GoesOn looked after told (told ++ tick_at looked seconds ∷ [])
