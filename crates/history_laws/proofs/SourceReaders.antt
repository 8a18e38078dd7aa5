-- The requests that may read a source: their plans do so before anything else, and what they come to is told by what was
-- answered behind the reads that were given bytes.
use Rattle.std.proofs.Common.{◌≡◌, ℕ, Bool, true, false, List, [], ◌∷◌, Option, Some, None, refl, sym, ap, subst, ◌∙◌, ◌⊎◌, inl, inr, length, nat_lt}
use Rattle.std.specs.Option.{option_map_or}
use Rattle.std.specs.Prelude.{if◌then◌else◌}
use Rattle.bucket_api.specs.Operation.{Operation, insert}
use Rattle.bucket_api.specs.declared.answers.Answer.{Answer}
use Rattle.bucket_api.specs.declared.answers.Answer.TheVariants as answers
use Rattle.bucket_api.specs.declared.objects.Pair.{Pair}
use Rattle.fuse_replies.specs.Errno.{estale}
use Rattle.fuse_replies.specs.declared.reply.Reply.TheVariants.{Error}
use Rattle.fuse_requests.specs.declared.request.Request.{Request}
use Rattle.fuse_requests.specs.declared.request.Request.TheVariants.{Flush, Fsync, Read, Write}
use Rattle.history_laws.proofs.Alike.{ToldAlike}
use Rattle.history_spec.proofs.PlanSteps.{AsksNoRead, MayReadSource, plan_reads_nothing}
use Rattle.history_laws.proofs.BareEnds.{bare_after, bare_reply}
use Rattle.history_laws.proofs.ReadingPlans.{IsLast, behind_reads, reading}
use Rattle.history_laws.specs.Agreements.{IsReadOrWrite}
use Rattle.mount_laws.proofs.Keeping.{no_Some, same_Some}
use Rattle.mount_laws.proofs.RequestLaws.{wanted_where}
use Rattle.mount_model.specs.declared.config.Config.{Config}
use Rattle.mount_rules.specs.Dispatch.{goes_on, is_full, plan, rules_of, taken_at, view_in, wants}
use Rattle.mount_rules.specs.Mount.{MountModel}
use Rattle.mount_rules.specs.Files.{content_in}
use Rattle.mount_rules.specs.Plans.{Allows, Plan, Source, Step, Wanted, ask, done}
use Rattle.mount_rules.specs.Reading.{reads, source_of, wanting, while_given}
use Rattle.mount_rules.specs.Requests.Flush as flush
use Rattle.mount_rules.specs.Requests.Read as read
use Rattle.mount_rules.specs.Requests.Write as write
use Rattle.mount_rules.specs.Rules.{AtTake, Taken}
use Rattle.mount_rules.specs.View.{Sight, View}
use Rattle.staging_spec.specs.StagedFiles.{StagedContent}
use Rattle.staging_spec.specs.Wanted.{Range}

-- ---- what is told
reads_behind : (told : List Answer) → reads told ≡ reads (behind_reads told)
reads_behind [] = refl
reads_behind (answers.Bytes bytes ∷ more) = reads_behind more
reads_behind (_ ∷ more) = refl

came_behind : (told : List Answer) → flush.came_of told ≡ flush.came_of (behind_reads told)
came_behind [] = refl
came_behind (answers.Bytes bytes ∷ more) = came_behind more
came_behind (_ ∷ more) = refl

-- reads that were given bytes are passed over
pub told_behind : (request : Request) → MayReadSource request → (told : List Answer) → ToldAlike request told (behind_reads told)
told_behind (Read node fh first size) may told = record {
  reply = λ taken bare. ap (read.reply_to (read.bytes taken.at.contents first size taken.view.staged taken.view.node)) (reads_behind told);
  after = λ taken bare. refl;
}
told_behind (Write node fh first content) may told = record {
  reply = λ taken bare. ap (λ r. write.reply_to (length content) (write.came_of (write.is_full taken.at.config bare.staged first content taken.view) r)) (reads_behind told);
  after = λ taken bare. ap (λ r. write.mount_after taken bare node first content (write.came_of (write.is_full taken.at.config bare.staged first content taken.view) r)) (reads_behind told);
}
told_behind (Flush node fh) may told = record {
  reply = λ taken bare. ap (flush.reply_by taken.view.staged) (came_behind told);
  after = λ taken bare. ap (flush.mount_by taken.view.staged bare node 0) (came_behind told);
}
told_behind (Fsync node fh) may told = record {
  reply = λ taken bare. ap (flush.reply_by taken.view.staged) (came_behind told);
  after = λ taken bare. ap (flush.mount_by taken.view.staged bare node 0) (came_behind told);
}
told_behind _ may told = absurd may

-- ---- plans
-- the request is a FLUSH or an FSYNC, which inserts where the source is live
abbrev pub IsFlushing : Request → Type 0
IsFlushing (Flush node fh) = Unit {0}
IsFlushing (Fsync node fh) = Unit {0}
IsFlushing request = ⊥

pub record Flushes (request : Request) (file : Sight) (last : Step) : Type 0 where
  pub flushing : IsFlushing request
  pub content : List ℕ
  pub pairs : List Pair
  pub second : ℕ
  pub asks : last ≡ ask (insert file.name content pairs (Some file.source) second)

-- The request reads the source of a file that it sees, before a last step: a READ or WRITE nothing more, a flush its insert.
pub record ReadsFirst (at : AtTake) (mount : MountModel) (request : Request) : Type 0 where
  pub may : MayReadSource request
  pub goes : goes_on mount request ≡ true
  pub file : Sight
  pub seen : (view_in mount request).node ≡ Some file
  pub last : Step
  pub ends : IsLast last
  pub is : plan at mount request ≡ reading (source_of file) last
  pub which : IsReadOrWrite request ⊎ Flushes request file last

-- it makes no read
abbrev pub ReadsNothing : AtTake → MountModel → Request → Type 0
ReadsNothing at mount request = (told : List Answer) → AsksNoRead (plan at mount request told)

while_reading : (file : Sight) (told : List Answer) → while_given (source_of file) (reads told) ≡ reading (source_of file) done told
while_reading file [] = refl
while_reading file (answers.Bytes bytes ∷ more) = while_reading file more
while_reading file (answers.NotFound ∷ more) = refl
while_reading file (_ ∷ more) = refl

after_reading : (file : Sight) (op : Operation) (told : List Answer) → flush.after_reads (source_of file) op told ≡ reading (source_of file) (ask op) told
after_reading file op [] = refl
after_reading file op (answers.Bytes bytes ∷ more) = after_reading file op more
after_reading file op (_ ∷ more) = refl

abbrev Kind : AtTake → MountModel → Request → Type 0
Kind at mount request = ReadsFirst at mount request ⊎ ReadsNothing at mount request

-- a plan that is done at once
done_at_once : (at : AtTake) (mount : MountModel) (request : Request) → plan at mount request ≡ (λ (told : List Answer). done) → Kind at mount request
done_at_once at mount request is = inr (λ told op reads allowed. absurd (subst (λ (p : Plan). Allows (p told) op) is allowed))

abbrev by_going : AtTake → MountModel → Request → Bool → Plan
by_going at mount request on = if on then (rules_of request).plan (taken_at at mount request) else (λ told. done)

-- a READ or a WRITE
content_kind : (at : AtTake) (mount : MountModel) (request : Request) → MayReadSource request → IsReadOrWrite request
    → (rules_of request).plan (taken_at at mount request) ≡ (λ told. option_map_or (λ file. while_given (source_of file) (reads told)) (view_in mount request).node done)
    → Kind at mount request
content_kind at mount request may content is_plan = by (goes_on mount request) refl (view_in mount request).node refl
  where
    of_node : Option Sight → Plan
    of_node seen told = option_map_or (λ file. while_given (source_of file) (reads told)) seen done

    by : (on : Bool) → goes_on mount request ≡ on → (seen : Option Sight) → (view_in mount request).node ≡ seen → Kind at mount request
    by false goes seen there = done_at_once at mount request (ap (by_going at mount request) goes)
    by true goes None there = done_at_once at mount request
        (ap (by_going at mount request) goes ∙ is_plan ∙ ap (λ found. λ (told : List Answer). option_map_or (λ (file : Sight). while_given (source_of file) (reads told)) found done) there)
    by true goes (Some file) there = inl (record {
      may = may;
      goes = goes;
      file = file;
      seen = there;
      last = done;
      ends = tt;
      is = ap (by_going at mount request) goes ∙ is_plan ∙ ap (λ found. λ (told : List Answer). option_map_or (λ (file : Sight). while_given (source_of file) (reads told)) found done) there
          ∙ (λ i told. while_reading file told i);
      which = inl content;
    })

-- a FLUSH or an FSYNC
flush_kind : (at : AtTake) (mount : MountModel) (request : Request) → MayReadSource request → IsFlushing request
    → (rules_of request).plan (taken_at at mount request) ≡ flush.plan (taken_at at mount request) → Kind at mount request
flush_kind at mount request may flushing is_plan = by (goes_on mount request) refl taken.view.staged refl taken.view.node refl
  where
    taken : Taken
    taken = taken_at at mount request

    by : (on : Bool) → goes_on mount request ≡ on → (held : Option StagedContent) → taken.view.staged ≡ held → (seen : Option Sight) → taken.view.node ≡ seen → Kind at mount request
    by false goes held there seen is = done_at_once at mount request (ap (by_going at mount request) goes)
    by true goes None there seen is = done_at_once at mount request (ap (by_going at mount request) goes ∙ is_plan
        ∙ ap (λ held. λ (told : List Answer). option_map_or
        (λ (s : StagedContent). option_map_or (λ (file : Sight). flush.after_reads (source_of file) (flush.insert_of at.contents at.second taken.view.kept s file) told) taken.view.node done)
        held done) there)
    by true goes (Some s) there None is = done_at_once at mount request (ap (by_going at mount request) goes ∙ is_plan
        ∙ ap (λ held. λ (told : List Answer). option_map_or
        (λ (s : StagedContent). option_map_or (λ (file : Sight). flush.after_reads (source_of file) (flush.insert_of at.contents at.second taken.view.kept s file) told) taken.view.node done)
        held done) there
        ∙ ap (λ seen. λ (told : List Answer). option_map_or (λ (file : Sight). flush.after_reads (source_of file) (flush.insert_of at.contents at.second taken.view.kept s file) told) seen done) is)
    by true goes (Some s) there (Some file) is = inl (record {
      may = may;
      goes = goes;
      file = file;
      seen = is;
      last = ask (flush.insert_of at.contents at.second taken.view.kept s file);
      ends = tt;
      is = ap (by_going at mount request) goes ∙ is_plan
          ∙ ap (λ held. λ (told : List Answer). option_map_or
          (λ (s : StagedContent). option_map_or (λ (file : Sight). flush.after_reads (source_of file) (flush.insert_of at.contents at.second taken.view.kept s file) told) taken.view.node done)
          held done) there
          ∙ ap (λ seen. λ (told : List Answer). option_map_or (λ (file : Sight). flush.after_reads (source_of file) (flush.insert_of at.contents at.second taken.view.kept s file) told) seen done) is
          ∙ (λ i told. after_reading file (flush.insert_of at.contents at.second taken.view.kept s file) told i);
      which = inr (record {
        flushing = flushing;
        content = content_in at.contents (Some s) file;
        pairs = flush.pairs_of taken.view.kept s;
        second = at.second;
        asks = refl;
      });
    })

pub kind_of : (at : AtTake) (mount : MountModel) (request : Request) → Kind at mount request
kind_of at mount (Read node fh first size) = content_kind at mount (Read node fh first size) tt tt refl
kind_of at mount (Write node fh first content) = content_kind at mount (Write node fh first content) tt tt refl
kind_of at mount (Flush node fh) = flush_kind at mount (Flush node fh) tt tt refl
kind_of at mount (Fsync node fh) = flush_kind at mount (Fsync node fh) tt tt refl
kind_of at mount request = inr (plan_reads_nothing at mount request (λ may. may))

-- ---- a plan that reads, by what was answered behind the reads
pub plan_behind : (source : Source) (last : Step) (told : List Answer) → reading source last told ≡ reading source last (behind_reads told)
plan_behind source last [] = refl
plan_behind source last (answers.Bytes bytes ∷ more) = plan_behind source last more
plan_behind source last (_ ∷ more) = refl

-- a flush is answered the same where its source was gone at a read as where its insert was refused
pub flush_refused : (request : Request) → IsFlushing request → (generation metageneration : ℕ)
    → ToldAlike request (answers.NotFound ∷ []) (answers.Precondition generation metageneration ∷ [])
flush_refused (Flush node fh) flushing generation metageneration = record { reply = λ taken bare. refl; after = λ taken bare. refl }
flush_refused (Fsync node fh) flushing generation metageneration = record { reply = λ taken bare. refl; after = λ taken bare. refl }
flush_refused _ flushing generation metageneration = absurd flushing

-- a READ or a WRITE whose source was gone is answered ESTALE, and changes nothing
pub record FoundGone (request : Request) : Type 0 where
  pub reply : (taken : Taken) (bare : MountModel) → bare_reply request taken bare (answers.NotFound ∷ []) ≡ Error estale
  pub after : (taken : Taken) (bare : MountModel) → bare_after request taken bare (answers.NotFound ∷ []) ≡ bare

pub content_gone : (request : Request) → IsReadOrWrite request → FoundGone request
content_gone (Read node fh first size) is = record { reply = λ taken bare. refl; after = λ taken bare. refl }
content_gone (Write node fh first content) is = record { reply = λ taken bare. refl; after = λ taken bare. refl }
content_gone _ is = absurd is

-- what it wants is of the source of the file that it sees
pub record IsOfSource (file : Sight) (wanted : Wanted) : Type 0 where
  pub name : wanted.name ≡ file.name
  pub generation : wanted.generation ≡ file.source

wanting_of : (file : Sight) (range : Range) (wanted : Wanted) → wanting file.name file.source range ≡ Some wanted → IsOfSource file wanted
wanting_of file range wanted = by (nat_lt 0 range.count)
  where
    by : (some : Bool) → (if some then Some (record { name = file.name; generation = file.source; range = range }) else None) ≡ Some wanted → IsOfSource file wanted
    by true is = let same : record { name = file.name; generation = file.source; range = range } ≡ wanted = same_Some is in
        record { name = sym (ap (λ (w : Wanted). w.name) same); generation = sym (ap (λ (w : Wanted). w.generation) same) }
    by false is = absurd (no_Some is)

wanted_by_rules : (request : Request) (view : View) (file : Sight) (wanted : Wanted) → IsReadOrWrite request → view.node ≡ Some file →
    (rules_of request).wants view ≡ Some wanted → IsOfSource file wanted
wanted_by_rules (Read node fh first size) view file wanted is seen wants_it =
    wanting_of file (read.wanted_range view.staged first size file) wanted (sym (ap (read.wanted first size view.staged) seen) ∙ wants_it)
wanted_by_rules (Write node fh first content) view file wanted is seen wants_it =
    wanting_of file (write.wanted_range view.staged first (length content) file) wanted (sym (ap (write.wanted first content view.staged) seen) ∙ wants_it)
wanted_by_rules _ view file wanted is seen wants_it = absurd is

pub wanted_of : (config : Config) (mount : MountModel) (request : Request) (file : Sight) (wanted : Wanted) → IsReadOrWrite request → (view_in mount request).node ≡ Some file
    → wants config mount request ≡ Some wanted → IsOfSource file wanted
wanted_of config mount request file wanted is seen = by (goes_on mount request)
  where
    by : (on : Bool) → (if on then (if is_full config mount request then None else (rules_of request).wants (view_in mount request)) else None) ≡ Some wanted → IsOfSource file wanted
    by true wants_it = wanted_by_rules request (view_in mount request) file wanted is seen (wanted_where (is_full config mount request) _ wanted wants_it)
    by false wants_it = absurd (no_Some wants_it)
