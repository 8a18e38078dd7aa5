-- What is proved of the rules of each request, where nothing refuses it: a predicate on the rules, which each request's
-- own file shows, and of which all laws over requests are made.
use Rattle.std.specs.Prelude.{◌≡◌, ◌≢◌, ℕ, ◌+◌, ◌-◌, ◌≤◌, List, true, length, Option, Some, None, []}
use Rattle.std.specs.List.{AllByRecursion}
use Rattle.bucket_api.specs.declared.answers.Answer.{Answer}
use Rattle.bucket_api.specs.Operation.{Operation}
use Rattle.fuse_replies.specs.declared.reply.Reply.TheVariants.{Error}
use Rattle.inode_spec.specs.Inodes.{lookups_of}
use Rattle.fuse_replies.specs.Errno.{enomem}
use Rattle.mount_rules.specs.Laws.{GivesLater, IsAnswerTo, IsCovered, IsOfFile, Keeps, Planned, given}
use Rattle.mount_rules.specs.Mount.{IsMount, MountModel}
use Rattle.mount_model.specs.Observing.{Observed}
use Rattle.mount_rules.specs.Plans.{Allows, IsHarmless, Source, Step, Wanted, answers_of, done, may_read}
use Rattle.mount_rules.specs.Rules.{AtTake, Rules, Taken}
use Rattle.mount_rules.specs.View.{View, view_of}
use Rattle.mount_laws.proofs.Sights.{LooksClaimed}
use Rattle.mount_laws.proofs.Sources.{NodesFrom}
use Rattle.mount_laws.proofs.Telling.{TellsAlong}

-- what the request has from a take at this mount
abbrev pub taken_by : Rules → AtTake → MountModel → Taken
taken_by rules at mount = record { at = at; view = view_of mount rules.looks }

-- nothing refuses the request at this mount
pub record GoesOn (rules : Rules) (mount : MountModel) : Type 0 where
  pub is : IsMount mount
  pub free : rules.refusal (view_of mount rules.looks) ≡ None

-- `back` is how many look-ups of a node the request gives back, and `most` the most operations that it asks, where that
-- is a number
pub record IsSound (rules : Rules) (back : ℕ → ℕ) (most : Option ℕ) : Type 1 where
  pub later : (at : AtTake) (mount : MountModel) (seen : List Observed) → GoesOn rules mount
      → GivesLater mount (rules.after (taken_by rules at mount) mount seen)
  pub leaves : (at : AtTake) (mount : MountModel) (seen : List Observed) → GoesOn rules mount
      → Keeps (rules.claims (view_of mount rules.looks)) mount (rules.after (taken_by rules at mount) mount seen)
  pub sees : (at : AtTake) (mount : MountModel) → GoesOn rules mount → rules.plan (taken_by rules at mount) [] ≢ done
      → LooksClaimed (rules.claims (view_of mount rules.looks)) mount rules.looks
  pub covers : (taken : Taken) (answers : List Answer) (op : Operation) → Allows (rules.plan taken answers) op → IsCovered (rules.claims taken.view) op
  pub harmless : (taken : Taken) (seen : List Observed) → Planned (rules.plan taken) seen → AllByRecursion (λ (o : Observed). IsAnswerTo o.op o.answer) seen
      → rules.plan taken (answers_of seen) ≢ done → AllByRecursion (λ (o : Observed). IsHarmless o.op) seen
  pub bounded : (taken : Taken) (seen : List Observed) (n : ℕ) → most ≡ Some n → Planned (rules.plan taken) seen → length seen ≤ n
  pub reads : (taken : Taken) (wanted : Wanted) → rules.wants taken.view ≡ Some wanted → (source : Source) × (next : Step) × (rules.plan taken [] ≡ may_read source next)
  pub of_files : (mount : MountModel) (wanted : Wanted) → IsMount mount → rules.wants (view_of mount rules.looks) ≡ Some wanted → IsOfFile mount wanted
  pub agrees : (taken : Taken) (mount : MountModel) (seen : List Observed) → mount.negotiated ≡ true → (rules.after taken mount seen).negotiated ≡ true
  pub refuses : (view : View) → rules.refusal view ≢ Some enomem
  pub keeps_staged : (at : AtTake) (mount : MountModel) (seen : List Observed) (errno : ℕ) → rules.refusal (view_of mount rules.looks) ≡ None
      → rules.reply (taken_by rules at mount) mount seen ≡ Error errno → (rules.after (taken_by rules at mount) mount seen).staged ≡ mount.staged
  pub answers : (taken : Taken) (mount : MountModel) (seen : List Observed) → rules.reply taken mount seen ≢ Error enomem
  pub counts : (at : AtTake) (mount : MountModel) (seen : List Observed) (number : ℕ) → number ≢ 1 → GoesOn rules mount
      → lookups_of (rules.after (taken_by rules at mount) mount seen).table number
      ≡ (lookups_of mount.table number + given (rules.reply (taken_by rules at mount) mount seen) number) - back number
  pub nodes : (Shown : List ℕ → ℕ → ℕ → Type 0) (at : AtTake) (mount : MountModel) (seen : List Observed) → GoesOn rules mount
      → TellsAlong Shown (rules.plan (taken_by rules at mount)) seen → NodesFrom Shown mount.table (rules.after (taken_by rules at mount) mount seen).table
