-- What plans allow: the operation that a step asks, or a read of a source before it. READ and WRITE alone read a source
-- before nothing.
use Rattle.std.proofs.Common.{◌≡◌, Bool, true, false, List, [], ◌∷◌, Option, Some, None, refl, ◌⊎◌, inl, inr}
use Rattle.std.specs.Prelude.{if◌then◌else◌}
use Rattle.std.specs.Option.{option_map_or}
use Rattle.bucket_api.specs.Operation.{Operation}
use Rattle.bucket_api.specs.declared.answers.Answer.{Answer}
use Rattle.bucket_api.specs.declared.answers.Answer.TheVariants as answers
use Rattle.fuse_requests.specs.declared.request.Request.{Request}
use Rattle.fuse_requests.specs.declared.request.Request.TheVariants.{Flush, Fsync, Read, Write}
use Rattle.history_laws.specs.Agreements.{IsReadOrWrite}
use Rattle.history_spec.proofs.PlanSteps.{is_read, plan_steps}
use Rattle.mount_rules.specs.Dispatch.{goes_on, plan, taken_at}
use Rattle.mount_rules.specs.Laws.{IsRead}
use Rattle.mount_rules.specs.Mount.{MountModel}
use Rattle.mount_rules.specs.Plans.{Allows, Source, Step, ask, asked_by, done, may_read}
use Rattle.mount_rules.specs.Reading.{source_of}
use Rattle.mount_rules.specs.Requests.Flush as flush
use Rattle.mount_rules.specs.Rules.{AtTake, Taken}
use Rattle.mount_rules.specs.View.{Sight}
use Rattle.staging_spec.specs.StagedFiles.{StagedContent}

-- the operation is the one that the step asks, or a read before it
pub record IsAsked (step : Step) (op : Operation) : Type 0 where
  pub asked : Operation
  pub is : asked_by step ≡ Some asked
  pub so : (op ≡ asked) ⊎ IsRead op

-- so is each that the step allows
abbrev pub AsksAll : Step → Type 0
AsksAll step = (op : Operation) → Allows step op → IsAsked step op

done_asks : AsksAll done
done_asks op allowed = absurd allowed

ask_asks : (asked : Operation) → AsksAll (ask asked)
ask_asks asked op allowed = record { asked = asked; is = refl; so = inl allowed }

read_asks : (source : Source) (asked : Operation) → AsksAll (may_read source (ask asked))
read_asks source asked op (inl its) = record { asked = asked; is = refl; so = inr (is_read source op its) }
read_asks source asked op (inr allowed) = record { asked = asked; is = refl; so = inl allowed }

after_reads_asks : (source : Source) (op : Operation) (told : List Answer) → AsksAll (flush.after_reads source op told)
after_reads_asks source op [] = read_asks source op
after_reads_asks source op (answers.Bytes bytes ∷ more) = after_reads_asks source op more
after_reads_asks source op (_ ∷ more) = done_asks

flush_asks : (taken : Taken) (told : List Answer) → AsksAll (flush.plan taken told)
flush_asks taken told = staged_asks taken.view.staged taken.view.node
  where
    staged_asks : (held : Option StagedContent) (seen : Option Sight)
        → AsksAll (option_map_or (λ staged. option_map_or (λ file. flush.after_reads (source_of file) (flush.insert_of taken.at.contents taken.at.second taken.view.kept staged file) told) seen done)
        held done)
    staged_asks None seen = done_asks
    staged_asks (Some staged) None = done_asks
    staged_asks (Some staged) (Some file) = after_reads_asks (source_of file) _ told

pub plan_asks : (at : AtTake) (mount : MountModel) (request : Request) → (IsReadOrWrite request → ⊥) → (told : List Answer) → AsksAll (plan at mount request told)
plan_asks at mount (Read node fh first size) other told = absurd (other tt)
plan_asks at mount (Write node fh first content) other told = absurd (other tt)
plan_asks at mount (Flush node fh) other told = by (goes_on mount (Flush node fh))
  where
    by : (on : Bool) → AsksAll ((if on then flush.plan (taken_at at mount (Flush node fh)) else (λ answers. done)) told)
    by true = flush_asks (taken_at at mount (Flush node fh)) told
    by false = done_asks
plan_asks at mount (Fsync node fh) other told = by (goes_on mount (Fsync node fh))
  where
    by : (on : Bool) → AsksAll ((if on then flush.plan (taken_at at mount (Fsync node fh)) else (λ answers. done)) told)
    by true = flush_asks (taken_at at mount (Fsync node fh)) told
    by false = done_asks
plan_asks at mount request other told = plan_steps AsksAll done_asks (λ asked none. ask_asks asked) at mount request (λ may. absurd may) told
