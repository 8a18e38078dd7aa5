-- What is known of each generation that was live at some time: it is no 0, and its content has at most as many bytes as a
-- content may have. So no file is longer.
use Rattle.std.proofs.Common.{◌≡◌, ◌≤◌, ℕ, Bool, true, false, List, [], ◌∷◌, All, Option, Some, None, refl, subst, length, eqb-true}
use Rattle.std.proofs.lemmas.List.Elements.{All-head, All-tail}
use Rattle.std.specs.FinMap as fin
use Rattle.std.specs.Option.{option_and_then}
use Rattle.std.specs.Prelude.{IfSome, if◌then◌else◌, ◌==◌}
use Rattle.bucket_api.proofs.BucketLaws.{stored_at}
use Rattle.bucket_api.proofs.LogLaws.{IsBucket-state_by}
use Rattle.bucket_api.specs.BucketState.{BucketState, IsBucket, IsStored, object_at, object_of}
use Rattle.bucket_api.specs.Log.{content_of, content_or, state_by}
use Rattle.bucket_api.specs.LogEvent.{LogEvent}
use Rattle.bucket_api.specs.Operation.{IsAllowed, max_content}
use Rattle.bucket_api.specs.declared.objects.Object.{Object}
use Rattle.mount_rules.specs.Laws.{ContentsAreShort}
use Rattle.mount_rules.specs.Mount.{Node}
use Rattle.mount_laws.proofs.Keeping.{no_Some, same_Some}

-- a generation that was live, with its content
pub record WasLive (generation : ℕ) (content : List ℕ) : Type 0 where
  pub numbered : 1 ≤ generation
  pub bounded : length content ≤ max_content

-- one that is live
live_one : (b : BucketState) (name : List ℕ) (generation : ℕ) → IsBucket b → IfSome (object_of b name generation) (λ o. WasLive generation o.content)
live_one b name generation is = by (object_at b name) (stored_at b is name)
  where
    chosen : (o : Object) (same : Bool) → (o.meta.generation == generation) ≡ same → IsStored b.last name o → IfSome (if same then Some o else None) (λ x. WasLive generation x.content)
    chosen o true e stored = record { numbered = subst (λ n. 1 ≤ n) (eqb-true o.meta.generation generation e) stored.numbered; bounded = stored.bounded }
    chosen o false e stored = tt

    by : (found : Option Object) → IfSome found (IsStored b.last name)
        → IfSome (option_and_then (λ (o : Object). if o.meta.generation == generation then Some o else None) found) (λ o. WasLive generation o.content)
    by None stored = tt
    by (Some o) stored = chosen o (o.meta.generation == generation) refl stored

-- each with a content
pub was_live : (start : BucketState) (log : List LogEvent) (name : List ℕ) (generation : ℕ) (content : List ℕ) → IsBucket start → All (λ e. IsAllowed e.op) log
    → content_of start log name generation ≡ Some content → WasLive generation content
was_live start [] name generation content is allowed known = by (object_of start name generation) (live_one start name generation is) known
  where
    by : (found : Option Object) → IfSome found (λ o. WasLive generation o.content) → content_or found None ≡ Some content → WasLive generation content
    by None live known = absurd (no_Some known)
    by (Some o) live known = subst (WasLive generation) (same_Some known) live
was_live start (e ∷ log) name generation content is allowed known =
    let Asked : LogEvent → Type 0 = λ e. IsAllowed e.op in
    by (object_of start name generation) (live_one start name generation is) known
    (was_live (state_by e.mode e.op start) log name generation content (IsBucket-state_by e.mode e.op start (All-head Asked e log allowed) is) (All-tail Asked e log allowed))
  where
    by : (found : Option Object) → IfSome found (λ o. WasLive generation o.content) → content_or found (content_of (state_by e.mode e.op start) log name generation) ≡ Some content
        → (content_of (state_by e.mode e.op start) log name generation ≡ Some content → WasLive generation content) → WasLive generation content
    by None live known later = later known
    by (Some o) live known later = subst (WasLive generation) (same_Some known) live

pub files_are_short : ContentsAreShort
files_are_short state bucket allowed files number file is = by (fin.get state.mount.table.nodes number) refl is
  where
    by : (found : Option Node) → fin.get state.mount.table.nodes number ≡ found → option_and_then (λ (node : Node). node.file) found ≡ Some file → file.size ≤ max_content
    by None there e = absurd (no_Some e)
    by (Some node) there e =
        let has = files number node file there e in
        subst (λ n. n ≤ max_content) has.2 (was_live state.store.start state.store.log node.name file.source has.0 bucket allowed has.1).bounded
