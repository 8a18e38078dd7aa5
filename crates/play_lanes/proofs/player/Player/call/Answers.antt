-- The next call of the lane has a whole frame, may be made, and is made.
use Rattle.std.proofs.Common.{◌≡◌, ◌≤◌, ◌∷◌, ◌++◌, [], List, length, sym, ap, subst, ◌∙◌}
use Rattle.fuse_head.specs.Head.{IsWholeFrame, in_head}
use Rattle.fuse_replies.specs.Replies.{frame_of, without_spare as reply_without_spare}
use Rattle.fuse_requests.specs.Grammar.{request_of, without_spare}
use Rattle.mount_core.specs.Lones.{CallsOne, HasNext}
use Rattle.play_lanes.proofs.CallLaws.{call_done, has_next, room, whole}
use Rattle.play_lanes.proofs.player.Player.call.Goals as goal
use Rattle.play_lanes.specs.Playing.{IsAmid}
use Rattle.play_lanes.specs.Tables.{frame_in, given_by, next_call, with_last}
use Rattle.scenario.specs.Parts.{Call, Lane, ScenarioData, calls}

pub frame-requires : goal.frame-requires
frame-requires c =
    let amid = subst (λ p. IsAmid calls c.requires.next.0 p (c.args.scripted.now ∷ c.requires.next.1) c.requires.next.2) (sym c.self.view_is) c.requires.next.3 in
    record { room = room c.requires.next.0 _ c.args.scripted.now c.requires.next.1 c.requires.next.2 amid }

pub request_in-requires : goal.request_in-requires
request_in-requires c =
    let amid = subst (λ p. IsAmid calls c.requires.next.0 p (c.args.scripted.now ∷ c.requires.next.1) c.requires.next.2) (sym c.self.view_is) c.requires.next.3 in
    subst IsWholeFrame (sym (c.as_slice.ensures.value ∙ c.in_ok-frame.ensures.ok)) (whole c.requires.next.0 _ c.args.scripted.now c.requires.next.1 c.requires.next.2 amid)

pub call-requires : goal.call-requires
call-requires c =
    let amid = subst (λ p. IsAmid calls c.requires.next.0 p (c.args.scripted.now ∷ c.requires.next.1) c.requires.next.2) (sym c.self.view_is) c.requires.next.3 in
    record { next = subst (HasNext c.self.inside.lone) (sym c.next_call-call.ensures) (has_next c.requires.next.0 _ c.args.scripted.now c.requires.next.1 c.requires.next.2 amid) }

pub head_of-requires : goal.head_of-requires
head_of-requires c =
    let amid = subst (λ p. IsAmid calls c.requires.next.0 p (c.args.scripted.now ∷ c.requires.next.1) c.requires.next.2) (sym c.self.view_is) c.requires.next.3 in
    subst (λ frame. 40 ≤ length frame) (sym (c.as_slice-2.ensures.value ∙ c.in_ok-frame.ensures.ok))
    (whole c.requires.next.0 _ c.args.scripted.now c.requires.next.1 c.requires.next.2 amid).headed

pub returns : goal.returns
returns c = record {
  ok = λ (scenario : ScenarioData) (left : List Call) (more : List Lane) amid.
      let its = subst (λ p. IsAmid calls scenario p (c.args.scripted.now ∷ left) more) (sym c.self.view_is) amid in
      let made = subst (λ call. CallsOne c.self.inside.lone call (without_spare c.in_ok-request.request) (reply_without_spare c.in_ok-reply.reply) c.call.new.self) c.next_call-call.ensures c.in_ok-reply.ensures.ok in
      let asked = c.in_ok-request.ensures.ok ∙ ap request_of (c.as_slice.ensures.value ∙ c.in_ok-frame.ensures.ok) in
      let calls_are : c.push-2.new.self.items ≡ c.self.inside.calls.items ++ next_call c.self.inside.given ∷ [] =
      c.push-2.ensures.items ∙ ap (λ list. list ++ c.next_call-call.result ∷ []) c.in_ok-reserve.ensures.kept
      ∙ ap (λ call. c.self.inside.calls.items ++ call ∷ []) c.next_call-call.ensures in
      let text : c.in_ok-text.text ≡ frame_of (in_head (frame_in c.self.inside.given c.args.scripted.now)).unique (reply_without_spare c.in_ok-reply.reply) =
      c.in_ok-text.ensures.ok ∙ ap (λ head. frame_of head.unique (reply_without_spare c.in_ok-reply.reply)) c.head_of.ensures
      ∙ ap (λ frame. frame_of (in_head frame).unique (reply_without_spare c.in_ok-reply.reply)) (c.as_slice-2.ensures.value ∙ c.in_ok-frame.ensures.ok) in
      let frames_are : c.push-3.new.self.items ≡ c.self.inside.replies.items ++ frame_of (in_head (frame_in c.self.inside.given c.args.scripted.now)).unique (reply_without_spare c.in_ok-reply.reply) ∷ [] =
      c.push-3.ensures.items ∙ ap (λ frame. c.reserve-2.new.self.items ++ frame ∷ []) text
      ∙ ap (λ list. list ++ frame_of (in_head (frame_in c.self.inside.given c.args.scripted.now)).unique (reply_without_spare c.in_ok-reply.reply) ∷ []) c.reserve-2.ensures.kept in
      let given_is : c.push.new.self ≡ with_last c.self.inside.given (given_by (reply_without_spare c.in_ok-reply.reply)) =
      c.in_ok-push.ensures.ok ∙ ap (with_last c.self.inside.given) c.by.ensures in
      subst (λ p. IsAmid calls scenario p left more)
      (λ i. record { lone = c.call.new.self; calls = sym calls_are i; frames = sym frames_are i; given = sym given_is i })
      (call_done scenario _ c.args.scripted.now left more its (without_spare c.in_ok-request.request) (reply_without_spare c.in_ok-reply.reply) c.call.new.self made asked);
}
