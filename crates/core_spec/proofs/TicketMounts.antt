-- A ticket is of the mount that its take left, and stays so while no call of its lane is done.
use Rattle.std.proofs.Common.{List, [], ◌∷◌, ◌++◌, append_assoc, length, sym, ap, ◌∙◌}
use Rattle.std.proofs.lemmas.List.Elements.{All-append, All-nil}
use Rattle.bucket_api.specs.Passes.{PassState}
use Rattle.core_spec.specs.Cores.{CoreState}
use Rattle.core_spec.specs.TicketLaws.{TicketsAreOf, TicketsStayOf}
use Rattle.core_spec.specs.Tickets.{NotEnded, TicketState, entry_of}
use Rattle.fuse_requests.specs.declared.request.Request.{Request}
use Rattle.mount_model.specs.Journal as journal
use Rattle.mount_model.specs.Journal.{Entry}
use Rattle.mount_model.specs.declared.gate.CallId.{CallId}

pub tickets_are_of : (I : Type 0) → TicketsAreOf I
tickets_are_of I before after call request t taken = record {
  origin = sym (ap (λ (c : CoreState (PassState I)). c.pass.origin) taken.left);
  config = sym (ap (λ (c : CoreState (PassState I)). c.config) taken.left);
  rest = [];
  journal = ap (λ (c : CoreState (PassState I)). c.journal) taken.left
      ∙ (ap (λ (c : CallId). t.core.journal ++ journal.taken c (length t.core.pass.seen) request ∷ []) (sym (ap (λ (x : TicketState (PassState I)). x.call) taken.is))
      ∙ ap (λ (r : Request). t.core.journal ++ journal.taken t.call (length t.core.pass.seen) r ∷ []) (sym (ap (λ (x : TicketState (PassState I)). x.request) taken.is)));
  unended = All-nil (NotEnded t.call.lane);
}

pub tickets_stay_of : (I : Type 0) → TicketsStayOf I
tickets_stay_of I before after more t its origin config is unended = record {
  origin = its.origin ∙ origin;
  config = its.config ∙ config;
  rest = its.rest ++ more;
  journal = is ∙ (ap (λ (es : List Entry). es ++ more) its.journal ∙ append_assoc t.core.journal (entry_of t ∷ its.rest) more);
  unended = All-append (NotEnded t.call.lane) its.rest more its.unended unended;
}
