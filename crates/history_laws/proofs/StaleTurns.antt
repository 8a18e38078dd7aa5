-- READs and WRITEs of an account that are answered ESTALE, turn by turn.
use Rattle.std.proofs.Common.{◌≡◌, List, [], ◌∷◌, ◌++◌, append_assoc, Some, sym, ap, subst, ◌∙◌}
use Rattle.std.specs.Prelude.{IsSome}
use Rattle.bucket_api.specs.BucketState.{BucketState}
use Rattle.bucket_api.specs.LogEvent.{LogEvent}
use Rattle.fuse_replies.specs.Errno.{estale}
use Rattle.fuse_replies.specs.declared.reply.Reply.TheVariants.{Error}
use Rattle.history_laws.specs.Agreements.{IsReadOrWrite, StaleWantBytes}
use Rattle.history_spec.proofs.Following.{after_turns-append}
use Rattle.history_spec.specs.Account as account
use Rattle.history_spec.specs.Account.{Account, Turn}
use Rattle.history_spec.specs.JournalState.{JournalState, OpenCall, after_turn, first_journal, open_of, reached, reply_by}
use Rattle.mount_model.specs.declared.config.Config.{Config}
use Rattle.mount_model.specs.declared.gate.CallId.{CallId}
use Rattle.mount_rules.specs.Dispatch.{wants}

module _ (config : Config) (start : BucketState) (log : List LogEvent) where
  -- such a call wants a byte
  abbrev pub StaleWants : JournalState → Turn → Type 0
  StaleWants state (account.done call front h items fill) =
      (o : OpenCall) → open_of state.opened call.lane ≡ Some o → o.call ≡ call → IsReadOrWrite o.taken.request
      → reply_by start log state.mount o h items ≡ Error estale → IsSome (wants config state.mount o.taken.request)
  StaleWants state turn = Unit {0}

  abbrev pub StaleAlong : JournalState → Account → Type 0
  StaleAlong state [] = Unit {0}
  StaleAlong state (turn ∷ turns) = StaleWants state turn × StaleAlong (after_turn config start log state turn) turns

  stale_at : (whole before after : Account) (turn : Turn) → whole ≡ before ++ turn ∷ after → StaleWantBytes config start log whole → StaleWants (reached config start log before) turn
  stale_at whole before after (account.take call front request) cut stale_wants = tt
  stale_at whole before after (account.done call front h items fill) cut stale_wants = λ o found same content answered.
      stale_wants before after (record { call = o; front = front; how = h; items = items; fill = fill })
      (cut ∙ ap (λ c. before ++ account.done c front h items fill ∷ after) (sym same))
      (ap (λ (c : CallId). open_of (reached config start log before).opened c.lane) same ∙ found) content answered
  stale_at whole before after (account.tick front seconds) cut stale_wants = tt

  pub stale_along : (whole before turns : Account) → whole ≡ before ++ turns → StaleWantBytes config start log whole → StaleAlong (reached config start log before) turns
  stale_along whole before [] cut stale_wants = tt
  stale_along whole before (turn ∷ turns) cut stale_wants = (
    stale_at whole before turns turn cut stale_wants,
    subst (λ s. StaleAlong s turns) (after_turns-append config start log first_journal before (turn ∷ []))
        (stale_along whole (before ++ turn ∷ []) turns (cut ∙ sym (append_assoc before (turn ∷ []) turns)) stale_wants),
  )
