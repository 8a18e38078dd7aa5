-- A ticket whose call has nothing left to do: its call may be done on the mount that it was taken on, which has gone on meanwhile.
use Rattle.std.proofs.Common.{◌≡◌, ◌≢◌, ℕ, ◌+◌, ◌≤◌, Bool, true, false, All, List, [], ◌∷◌, ◌++◌, length, map, take, Some, sym, ap, subst, ◌∙◌, arith, length-append, append_assoc}
use Rattle.std.specs.Prelude.{◌==◌, ◌||◌}
use lib.ListN.{get_or}
use Rattle.std.proofs.lemmas.List.{take-append-le}
use Rattle.bucket_api.specs.BucketState.{BucketState}
use Rattle.bucket_api.specs.LogEvent.{LogEvent}
use Rattle.bucket_api.specs.Operation.{Operation}
use Rattle.bucket_api.specs.Passes.{PassState}
use Rattle.core_spec.proofs.Ending.{end_beside, end_reached, end_told, walk_along}
use Rattle.core_spec.proofs.Flags.{seen_by_flags, walk_by_flags}
use Rattle.core_spec.proofs.Thrifts.{thrifty_by_flags}
use Rattle.core_spec.proofs.UnderWay.{SplitAt, split_at, still_found, still_open, still_to_read, take_printed}
use Rattle.core_spec.specs.Beside.{AreBeside}
use Rattle.core_spec.specs.Cores.{CoreState, Tells, come_to, done_at, kept_by, with_done, with_lane}
use Rattle.core_spec.specs.Tickets.{IsOf, IsUnderWay, NotEnded, TicketState, entry_of, how_of, unflagged}
use Rattle.fuse_requests.specs.declared.request.Request.{Request}
use Rattle.history_spec.proofs.Agreeing.{seen_same}
use Rattle.history_spec.proofs.Following.{Follows-first}
use Rattle.history_spec.proofs.JournalLaws.{log_grows}
use Rattle.history_spec.proofs.Lanes.{same_lane}
use Rattle.history_spec.proofs.OneAccount.{accounts_are_one}
use Rattle.history_spec.specs.Account as account
use Rattle.history_spec.specs.Account.{Account, Item, Turn, journal_of, moment_of, uses_of}
use Rattle.history_spec.specs.Claims.{plan_taken}
use Rattle.history_spec.specs.Fits.{EndsBy, Follows, HasWalked, IsAccount}
use Rattle.history_spec.specs.JournalState.{OpenCall, after_done, first_journal, open_of, reached}
use Rattle.history_spec.specs.Observing.{seen_by}
use Rattle.lane_spec.specs.Numbers.{has}
use Rattle.lane_spec.specs.declared.Numbers.TheVariants.{Only}
use Rattle.mount_model.specs.declared.config.Config.{Config}
use Rattle.mount_model.specs.declared.gate.CallId.{CallId}
use Rattle.mount_model.specs.declared.journal.Fill.{Fill}
use Rattle.mount_rules.specs.Dispatch.{wants}
use Rattle.record_spec.specs.RecordList.{RecordList}
use Rattle.thrift_spec.specs.Files.{wholes_read}
use Rattle.thrift_spec.specs.Laws.{call_at}
use Rattle.thrift_spec.specs.Records.{AreTold}
use Rattle.thrift_spec.specs.Thrift.{AllThrifty, EndsThrifty, IsFillOf, Kept, ReadsAre, fit, kept_at, reads_of}

-- ---- what a ticket tells, by the settings and the start of its mount
module _ (config : Config) (start : BucketState) (early seen : List LogEvent) (told : Account) (call : CallId) (request : Request) (short : Bool) (items : List Item) where
  abbrev its_call : OpenCall
  its_call = call_at config start early (reached config start early told) call (length early) request

  record Went : Type 0 where
    is : IsAccount config start early told
    walk : HasWalked start seen (plan_taken its_call.taken) its_call (length seen) items
    ends : EndsBy (how_of short) (plan_taken its_call.taken) (seen_by start seen items)
    looks : AllThrifty start seen its_call (kept_at config start early told).records items
    reads : ReadsAre (how_of short) (reads_of config.cache_blocks (kept_at config start early told).files its_call.taken.at.contents (wants config (reached config start early told).mount request))
        (seen_by start seen items)

-- an event of another lane
pub other_than : (lane other : ℕ) → has (Only (lane ∷ [])) other ≡ false → other ≢ lane
other_than lane other free same = by (lane == other) free (same_lane lane other (sym same))
  where
    by : (t : Bool) → t || false ≡ false → t ≡ true → ⊥
    by true free is = cc
    by false free is = cc

module _ {I : Type 0} (core : CoreState (PassState I)) (told : Account) (tells : Tells core told)
    (beside : AreBeside core.pass.seen (come_to core told).opened (come_to core told).ended)
    (t : TicketState (PassState I)) (way : IsUnderWay t) (its : IsOf core t) (over : t.ended ≡ true)
    (more : List LogEvent) (seen : core.pass.seen ≡ t.pass.seen ++ more) (others : All (λ (e : LogEvent). has t.pass.held e.lane ≡ false) more) where
  went : Went core.config core.pass.origin.start t.core.pass.seen t.pass.seen way.told t.call t.request t.short way.items
  went = subst (λ s. Went core.config s t.core.pass.seen t.pass.seen way.told t.call t.request t.short way.items) (ap (λ o. o.start) its.origin)
      (subst (λ c. Went c t.core.pass.origin.start t.core.pass.seen t.pass.seen way.told t.call t.request t.short way.items) its.config
      (record { is = way.tells.is; walk = way.walk; ends = way.ends over; looks = way.looks; reads = way.reads over }))

  -- the call as it was taken
  abbrev pub o : OpenCall
  o = call_at core.config core.pass.origin.start t.core.pass.seen (reached core.config core.pass.origin.start t.core.pass.seen way.told) t.call (length t.core.pass.seen) t.request

  abbrev its_take : Turn
  its_take = account.take t.call (length t.core.pass.seen) t.request

  whole_is : core.pass.seen ≡ t.core.pass.seen ++ (way.pass.more ++ more)
  whole_is = seen ∙ (ap (λ log. log ++ more) way.pass.seen ∙ append_assoc t.core.pass.seen way.pass.more more)

  split : SplitAt told t.core.journal (entry_of t) its.rest
  split = split_at told t.core.journal (entry_of t) its.rest (tells.printed ∙ its.journal)

  first_is : split.before ≡ way.told
  first_is = accounts_are_one core.config core.pass.origin.start core.pass.seen split.before way.told
      (Follows-first core.config core.pass.origin.start core.pass.seen first_journal split.before (split.turn ∷ split.after)
      (subst (Follows core.config core.pass.origin.start core.pass.seen first_journal) split.whole tells.is.follows))
      (subst (λ log. Follows core.config core.pass.origin.start log first_journal way.told) (sym whole_is)
      (log_grows core.config core.pass.origin.start t.core.pass.seen (way.pass.more ++ more) way.told went.is).is.follows)
      (split.first ∙ sym way.tells.printed)

  told_is : told ≡ way.told ++ its_take ∷ split.after
  told_is = split.whole ∙ (ap (λ (a : Account). a ++ split.turn ∷ split.after) first_is
      ∙ ap (λ (turn : Turn). way.told ++ turn ∷ split.after) (take_printed split.turn t.call (length t.core.pass.seen) t.request split.here))

  unended : All (NotEnded t.call.lane) (journal_of split.after)
  unended = subst (All (NotEnded t.call.lane)) (sym split.last) its.unended

  follows : Follows core.config core.pass.origin.start (t.core.pass.seen ++ (way.pass.more ++ more)) first_journal (way.told ++ its_take ∷ split.after)
  follows = subst (λ log. Follows core.config core.pass.origin.start log first_journal (way.told ++ its_take ∷ split.after)) whole_is
      (subst (Follows core.config core.pass.origin.start core.pass.seen first_journal) told_is tells.is.follows)

  -- it is the one under way in its lane
  pub found : open_of (come_to core told).opened t.call.lane ≡ Some o
  found = ap (λ (a : Account). open_of (reached core.config core.pass.origin.start core.pass.seen a).opened t.call.lane) told_is
      ∙ (ap (λ log. open_of (reached core.config core.pass.origin.start log (way.told ++ its_take ∷ split.after)).opened t.call.lane) whole_is
      ∙ still_open core.config core.pass.origin.start t.core.pass.seen (way.pass.more ++ more) way.told went.is t.call t.request split.after unended follows)

  kept_is : kept_by core told ≡ kept_at core.config core.pass.origin.start (t.core.pass.seen ++ (way.pass.more ++ more)) (way.told ++ its_take ∷ split.after)
  kept_is = ap (λ (a : Account). kept_at core.config core.pass.origin.start core.pass.seen a) told_is
      ∙ ap (λ log. kept_at core.config core.pass.origin.start log (way.told ++ its_take ∷ split.after)) whole_is

  found_is : (kept_by core told).found t.call.lane ≡ (kept_at core.config core.pass.origin.start t.core.pass.seen way.told).records
  found_is = ap (λ (k : Kept). k.found t.call.lane) kept_is
      ∙ still_found core.config core.pass.origin.start t.core.pass.seen (way.pass.more ++ more) way.told went.is t.call t.request split.after unended follows

  reads_are : (kept_by core told).reads t.call.lane
      ≡ reads_of core.config.cache_blocks (kept_at core.config core.pass.origin.start t.core.pass.seen way.told).files o.taken.at.contents
      (wants core.config (reached core.config core.pass.origin.start t.core.pass.seen way.told).mount t.request)
  reads_are = ap (λ (k : Kept). k.reads t.call.lane) kept_is
      ∙ still_to_read core.config core.pass.origin.start t.core.pass.seen (way.pass.more ++ more) way.told went.is t.call t.request split.after unended follows

  differ : All (λ (e : LogEvent). e.lane ≢ t.call.lane) more
  differ k first within = other_than t.call.lane (get_or more k first).lane (subst (λ held. has held (get_or more k first).lane ≡ false) way.pass.held (others k first within))

  front : o.front ≤ length t.pass.seen
  front =
      let long : length t.pass.seen ≡ length t.core.pass.seen + length way.pass.more = ap length way.pass.seen ∙ length-append t.core.pass.seen way.pass.more in
      omega (arith, long)

  same : take (length t.pass.seen) t.pass.seen ≡ take (length t.pass.seen) core.pass.seen
  same = sym (ap (take (length t.pass.seen)) seen ∙ take-append-le (length t.pass.seen) t.pass.seen more (omega arith))

  -- ---- with the flags that the end decides
  module _ (flagged : List Item) (flags : map unflagged flagged ≡ map unflagged way.items) where
    walk : HasWalked core.pass.origin.start core.pass.seen (plan_taken o.taken) o (length core.pass.seen) flagged
    walk = walk_by_flags core.pass.origin.start core.pass.seen o (plan_taken o.taken) (length core.pass.seen) way.items flagged flags
        (subst (λ log. HasWalked core.pass.origin.start log (plan_taken o.taken) o (length log) way.items) (sym seen)
        (walk_along core.pass.origin.start t.pass.seen more (plan_taken o.taken) o way.items front differ went.walk))

    seen_is : seen_by core.pass.origin.start t.pass.seen way.items ≡ seen_by core.pass.origin.start core.pass.seen flagged
    seen_is = seen_same core.pass.origin.start t.pass.seen core.pass.seen (length t.pass.seen) same way.items went.walk.within
        ∙ sym (seen_by_flags core.pass.origin.start core.pass.seen way.items flagged flags)

    ends : EndsBy (how_of t.short) (plan_taken o.taken) (seen_by core.pass.origin.start core.pass.seen flagged)
    ends = subst (EndsBy (how_of t.short) (plan_taken o.taken)) seen_is went.ends

    looks : AllThrifty core.pass.origin.start core.pass.seen o ((kept_by core told).found t.call.lane) flagged
    looks = subst (λ (list : RecordList). AllThrifty core.pass.origin.start core.pass.seen o list flagged) (sym found_is)
        (thrifty_by_flags core.pass.origin.start t.pass.seen core.pass.seen o (kept_at core.config core.pass.origin.start t.core.pass.seen way.told).records
        (length t.pass.seen) same way.items flagged flags went.walk.within went.looks)

    reads : ReadsAre (how_of t.short) ((kept_by core told).reads t.call.lane) (seen_by core.pass.origin.start core.pass.seen flagged)
    reads = subst (λ (to_read : List Operation). ReadsAre (how_of t.short) to_read (seen_by core.pass.origin.start core.pass.seen flagged)) (sym reads_are)
        (subst (ReadsAre (how_of t.short) (reads_of core.config.cache_blocks (kept_at core.config core.pass.origin.start t.core.pass.seen way.told).files o.taken.at.contents
        (wants core.config (reached core.config core.pass.origin.start t.core.pass.seen way.told).mount t.request))) seen_is went.reads)

    module _ (fill : Fill)
        (filled : IsFillOf (how_of t.short) (fit core.config.cache_blocks (wholes_read o.taken.at.contents (seen_by core.pass.origin.start core.pass.seen flagged))) fill)
        (learned : AreTold core.config.implicit_dirs core.pass.origin.start core.pass.seen o.clock (kept_by core told).records flagged) where
      thrifty : EndsThrifty core.config core.pass.origin.start core.pass.seen (kept_by core told) o (how_of t.short) flagged fill
      thrifty = record { looks = looks; reads = reads; fills = filled }

      -- the account goes on by the end of the call
      pub ticket_told : (faults : ℕ) → Tells (with_done (with_lane core t.call.lane faults) t.call (how_of t.short) (uses_of flagged) fill) (told ++ done_at core t.call (how_of t.short) flagged fill ∷ [])
      ticket_told faults = end_told core told tells o found (how_of t.short) flagged fill walk ends beside thrifty learned faults

      -- which comes to this
      pub ticket_reached : reached core.config core.pass.origin.start core.pass.seen (told ++ done_at core t.call (how_of t.short) flagged fill ∷ [])
          ≡ after_done core.pass.origin.start core.pass.seen (come_to core told) (length core.pass.seen) (how_of t.short) flagged o
      ticket_reached = end_reached core told tells o found (how_of t.short) flagged fill walk ends beside thrifty learned

      pub ticket_beside : AreBeside core.pass.seen (reached core.config core.pass.origin.start core.pass.seen (told ++ done_at core t.call (how_of t.short) flagged fill ∷ [])).opened
          (reached core.config core.pass.origin.start core.pass.seen (told ++ done_at core t.call (how_of t.short) flagged fill ∷ [])).ended
      ticket_beside = end_beside core told tells o found (how_of t.short) flagged fill walk ends beside thrifty learned
