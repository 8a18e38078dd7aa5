-- What is asked is made as the next event, and noted.
use Rattle.std.proofs.Common.{ap, sym, ◌++◌, ◌∙◌, List}
use Rattle.bucket_api.specs.Operation.{operation}
use Rattle.mount_core.proofs.CountedLemmas.{draft_look, draft_note, draft_other}
use Rattle.mount_core.proofs.LoggedEvents.{of_bucket_on}
use Rattle.mount_kept.specs.Drafts.{looks}
use Rattle.mount_kept.specs.declared.notes.Note.{Note}
use Rattle.mount_core.proofs.logged.make.Goals as goal

pub returns-clause-ok : goal.returns-clause-ok
returns-clause-ok c =
    let op = operation c.args.op in
    let draft = c.in_ok-draft.draft in
    record {
      moment = c.in_ok-moment.moment;
      answer = c.in_ok-moment.answer;
      looks = looks draft;
      event = c.in_ok-moment.ensures.ok;
      saw = c.saw.ensures.after;
      look = draft_look op draft c.in_ok-draft.ensures.ok;
      other = draft_other op draft c.in_ok-draft.ensures.ok;
      adds = c.note-2.ensures
          ∙ ap (λ (more : List Note). c.args.notes.now.items ++ more)
          (draft_note op draft c.in_ok-moment.moment c.in-Ok.shown c.in_ok-moment.answer c.in_ok-draft.ensures.ok c.in-Ok.ensures.ok);
    }

pub returns-clause-bucket : goal.returns-clause-bucket
returns-clause-bucket c =
    of_bucket_on c.args.lane (operation c.args.op) c.args.bucket.now c.act.new.self c.in_ok-moment.moment c.in_ok-moment.answer c.requires.allowed c.in_ok-moment.ensures.ok c.requires.bucket
