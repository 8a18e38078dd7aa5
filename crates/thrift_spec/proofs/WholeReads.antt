-- A source that was read whole has the content of its generation, as the log tells of it.
use Rattle.std.proofs.Common.{◌≡◌, ◌≤◌, ℕ, Bool, true, false, cond, ◌&&◌, All, IfSome, List, [], ◌∷◌, drop, length, nat_eq, Option, Some, None, take, refl, sym, ap, subst, ◌∙◌, arith}
use Rattle.std.proofs.Math.Seq.{take-length}
use Rattle.std.proofs.lemmas.Bool.Decides.{nat_tests}
use Rattle.std.proofs.lemmas.List.{take-append-drop}
use Rattle.std.specs.List.{AllByRecursion, cons_option}
use Rattle.std.specs.Option.{option_map_or}
use Rattle.std.specs.Prelude.{option_and_then, option_map, unwrap_or}
use Rattle.bucket_api.proofs.ContentLaws.{content_of-grown, content_of-live}
use Rattle.bucket_api.specs.BucketState.{BucketState, IsBucket, object_of}
use Rattle.bucket_api.specs.Log as bucket_log
use Rattle.bucket_api.specs.Log.{answer_by, event_at, state_at}
use Rattle.bucket_api.specs.LogEvent.{LogEvent}
use Rattle.bucket_api.specs.Moments.{position_of}
use Rattle.bucket_api.specs.Operation.{IsAllowed, Operation, copy, delete, insert, list, read, stat, update}
use Rattle.bucket_api.specs.declared.answers.Answer.{Answer}
use Rattle.bucket_api.specs.declared.answers.Answer.TheVariants as answers
use Rattle.bucket_api.specs.declared.events.Mode.{Mode}
use Rattle.bucket_api.specs.declared.events.Mode.TheVariants as modes
use Rattle.bucket_api.specs.declared.objects.Object.{Object}
use Rattle.cache_spec.specs.declared.file_key.FileKey.{FileKey}
use Rattle.history_spec.specs.Account.{Item, moment_of}
use Rattle.history_spec.specs.Observing.{seen_by}
use Rattle.mount_model.specs.Observing.{Observed}
use Rattle.mount_rules.specs.OneThread.{contents_of}
use Rattle.mount_rules.specs.Plans.{Contents}
use Rattle.thrift_spec.specs.Files.{bytes_told, whole_by, wholes_read}
use Rattle.thrift_spec.specs.Contents.{IsContent}

pub both_true : (a b : Bool) → (a && b) ≡ true → (a ≡ true) × (b ≡ true)
both_true true true is = (refl, refl)
both_true true false is = absurd (cc)
both_true false b is = absurd (cc)

-- what was read so has the content of its generation, where that isn't empty
abbrev pub ReadsContent : BucketState → List LogEvent → FileKey × List ℕ → Type 0
ReadsContent start log whole = 1 ≤ length whole.1 → IsContent start log whole

module _ (start : BucketState) (log : List LogEvent) (bucket : IsBucket start) (asked : All (λ e. IsAllowed e.op) log) (front : ℕ) where
  -- what a take at this front knows of generations
  abbrev known : Contents
  known = contents_of (record { start = start; log = take front log })

  -- the bytes that were read of a live object are its content, where so many were wanted as were known
  bytes_whole : (name : List ℕ) (generation : ℕ) (o : Object) → bucket_log.content_of start log name generation ≡ Some o.content
      → 1 ≤ length (take (length (known name generation)) o.content) → take (length (known name generation)) o.content ≡ o.content
  bytes_whole name generation o is some = by (bucket_log.content_of start (take front log) name generation) refl some
    where
      by : (found : Option (List ℕ)) → bucket_log.content_of start (take front log) name generation ≡ found
          → 1 ≤ length (take (length (unwrap_or found [])) o.content) → take (length (unwrap_or found [])) o.content ≡ o.content
      by None was some = absurd (omega (arith, some))
      by (Some content) was some =
          let grown : bucket_log.content_of start log name generation ≡ Some content = subst (λ whole. bucket_log.content_of start whole name generation ≡ Some content) (take-append-drop front log)
          (content_of-grown start (take front log) (drop front log) name generation content was) in
          let one : Some content ≡ Some o.content = sym grown ∙ is in
          let same : content ≡ o.content = cc in
          ap (λ c. take (length c) o.content) same ∙ take-length o.content

  -- a read of the log was answered bytes by a live object
  read_live : (moment : ℕ) (e : LogEvent) (name : List ℕ) (generation first count : ℕ) (bytes : List ℕ) → answer_by e.mode (read name generation first count) (state_at start log (position_of moment)) ≡ answers.Bytes bytes
      → (o : Object) × (object_of (state_at start log (position_of moment)) name generation ≡ Some o) × (bytes ≡ take count (drop first o.content))
  read_live moment e name generation first count bytes is = by e.mode is
    where
      live : (found : Option Object) → object_of (state_at start log (position_of moment)) name generation ≡ found
          → option_map_or (λ (o : Object). answers.Bytes (take count (drop first o.content))) found answers.NotFound ≡ answers.Bytes bytes
          → (o : Object) × (object_of (state_at start log (position_of moment)) name generation ≡ Some o) × (bytes ≡ take count (drop first o.content))
      live None there answered = absurd (cc)
      live (Some o) there answered = (o, there, cc)

      by : (mode : Mode) → answer_by mode (read name generation first count) (state_at start log (position_of moment)) ≡ answers.Bytes bytes
          → (o : Object) × (object_of (state_at start log (position_of moment)) name generation ≡ Some o) × (bytes ≡ take count (drop first o.content))
      by modes.Done answered = live (object_of (state_at start log (position_of moment)) name generation) refl answered
      by modes.Failed answered = absurd (cc)
      by modes.Lost answered = absurd (cc)

  -- what the whole read of a known source was told
  told_whole : (moment : ℕ) (e : LogEvent) (name : List ℕ) (generation first count : ℕ) (answer : Answer) → answer_by e.mode (read name generation first count) (state_at start log (position_of moment)) ≡ answer
      → IfSome (whole_by known (read name generation first count) answer) (ReadsContent start log)
  told_whole moment e name generation first count answer is = by (nat_eq first 0 && nat_eq count (length (known name generation))) refl answer is
    where
      its : (bytes : List ℕ) → (nat_eq first 0 && nat_eq count (length (known name generation))) ≡ true
          → answer_by e.mode (read name generation first count) (state_at start log (position_of moment)) ≡ answers.Bytes bytes → ReadsContent start log (record { name = name; generation = generation }, bytes)
      its bytes whole answered some =
          let parts = both_true (nat_eq first 0) (nat_eq count (length (known name generation))) whole in
          let zero_test : nat_eq first 0 ≡ true = parts.0 in
          let count_test : nat_eq count (length (known name generation)) ≡ true = parts.1 in
          let at_start : first ≡ 0 = grind (arith, nat_tests) in
          let so_many : count ≡ length (known name generation) = grind (arith, nat_tests) in
          let found = read_live moment e name generation first count bytes answered in
          let told : bucket_log.content_of start log name generation ≡ Some found.0.content = content_of-live start log (position_of moment) name generation found.0 bucket asked found.1 in
          let read_so : bytes ≡ take (length (known name generation)) found.0.content = found.2 ∙ (ap (λ n. take count (drop n found.0.content)) at_start ∙ ap (λ n. take n found.0.content) so_many) in
          let all_of_it : take (length (known name generation)) found.0.content ≡ found.0.content = bytes_whole name generation found.0 told (subst (λ bs. 1 ≤ length bs) read_so some) in
          told ∙ ap Some (sym (read_so ∙ all_of_it))

      by : (b : Bool) → (nat_eq first 0 && nat_eq count (length (known name generation))) ≡ b → (a : Answer) → answer_by e.mode (read name generation first count) (state_at start log (position_of moment)) ≡ a
          → IfSome (cond b (option_and_then (λ bytes. Some (record { name = name; generation = generation }, bytes)) (bytes_told a)) None) (ReadsContent start log)
      by false test a answered = tt
      by true test (answers.Bytes bytes) answered = its bytes test answered
      by true test answers.NotFound answered = tt
      by true test answers.Done answered = tt
      by true test answers.Fault answered = tt
      by true test (answers.Meta meta) answered = tt
      by true test (answers.Page page) answered = tt
      by true test (answers.Precondition generation metageneration) answered = tt

  op_whole : (moment : ℕ) (e : LogEvent) (op : Operation) → IfSome (whole_by known op (answer_by e.mode op (state_at start log (position_of moment)))) (ReadsContent start log)
  op_whole moment e (read name generation first count) = told_whole moment e name generation first count (answer_by e.mode (read name generation first count) (state_at start log (position_of moment))) refl
  op_whole moment e (stat name) = tt
  op_whole moment e (insert name content pairs only stamp) = tt
  op_whole moment e (update name pairs only only_meta stamp) = tt
  op_whole moment e (delete name only) = tt
  op_whole moment e (copy from generation to stamp) = tt
  op_whole moment e (list prefix slash max after) = tt

  all_option : {X : Type 0} (P : X → Type 0) (found : Option X) (xs : List X) → IfSome found P → AllByRecursion P xs → AllByRecursion P (cons_option found xs)
  all_option P None xs first rest = rest
  all_option P (Some x) xs first rest = (first, rest)

  -- what is observed at a moment, by its event
  abbrev shown : ℕ → Option LogEvent → Option Observed
  shown moment found =
      option_and_then (λ (e : LogEvent). option_map (λ answer. record { op = e.op; moment = moment; answer = answer })
      (option_map (λ (x : LogEvent). answer_by x.mode x.op (state_at start log (position_of moment))) found)) found

  -- the whole sources that a call read are what the log tells of them
  pub wholes_are_contents : (items : List Item) → AllByRecursion (ReadsContent start log) (wholes_read known (seen_by start log items))
  wholes_are_contents [] = tt
  wholes_are_contents (item ∷ items) = by (event_at log (moment_of item)) (wholes_are_contents items)
    where
      by : (found : Option LogEvent) → AllByRecursion (ReadsContent start log) (wholes_read known (seen_by start log items))
          → AllByRecursion (ReadsContent start log) (wholes_read known (cons_option (shown (moment_of item) found) (seen_by start log items)))
      by None rest = rest
      by (Some e) rest = all_option (ReadsContent start log) (whole_by known e.op (answer_by e.mode e.op (state_at start log (position_of (moment_of item)))))
          (wholes_read known (seen_by start log items)) (op_whole (moment_of item) e e.op) rest
