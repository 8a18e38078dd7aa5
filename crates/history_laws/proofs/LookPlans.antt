-- The plans of requests that look for records: each look that they ask for is one at a name or at a directory's key, and comes
-- before whatever they change.
use Rattle.std.proofs.Common.{◌≡◌, ◌≤◌, ℕ, ◌+◌, Bool, true, false, Contains, List, [], ◌∷◌, ◌++◌, length, length-append, Option, Some, None, refl, sym, subst, arith}
use Rattle.std.specs.Option.{option_map_or}
use Rattle.std.specs.Prelude.{IsTrue, if◌then◌else◌, ◌&&◌, ◌==◌}
use Rattle.bucket_api.specs.BucketState.{BucketState}
use Rattle.bucket_api.specs.BucketStep.{state_after}
use Rattle.bucket_api.specs.Listing.{ends_in_slash}
use Rattle.bucket_api.specs.Operation.{Operation, stat, read, insert, update, delete, copy, list}
use Rattle.bucket_api.specs.declared.answers.Answer.{Answer}
use Rattle.bucket_api.specs.declared.answers.Answer.TheVariants as answers
use Rattle.bucket_list.proofs.Texts.{ends_at}
use Rattle.fuse_replies.specs.Errno.{einval, enotdir}
use Rattle.fuse_requests.specs.declared.request.Request.{Request}
use Rattle.fuse_requests.specs.declared.request.Request.TheVariants.{Getattr, Lookup, Opening, Rename, Rename2, Setattr}
use Rattle.history_laws.proofs.Untouched.{LooksAt}
use Rattle.history_spec.specs.Looks.{IsLook}
use Rattle.mount_laws.proofs.Guarding.{in_directory-none, on_live-none, part_refusal-none}
use Rattle.mount_laws.proofs.Keeping.{no_Some}
use Rattle.mount_laws.proofs.RequestLaws.{unrefused}
use Rattle.mount_rules.specs.Dispatch.{goes_on, plan, rules_of, taken_at, view_in}
use Rattle.mount_rules.specs.Guards.{is_directory, part_refusal, path_in}
use Rattle.mount_rules.specs.Mount.{MountModel}
use Rattle.mount_rules.specs.Plans.{Allows, Plan, Step, ask, done, plan_after}
use Rattle.mount_rules.specs.Requests.Lookup as lookup
use Rattle.mount_rules.specs.Requests.Rename as rename
use Rattle.mount_rules.specs.Requests.Rename2 as rename2
use Rattle.mount_rules.specs.Requests.Setattr as setattr
use Rattle.mount_rules.specs.Rules.{AtTake, Taken}
use Rattle.mount_rules.specs.Standing as standing
use Rattle.mount_rules.specs.View.{Sight, View}
use Rattle.object_names.specs.Paths.{bare_name, dir_prefix_of, has_suffix}

-- a look leaves the bucket as it was
pub look_idle : (op : Operation) (b : BucketState) → IsLook op → state_after op b ≡ b
look_idle (stat name) b is = refl
look_idle (list prefix slash max after) b is = refl
look_idle (read name generation first count) b is = absurd is
look_idle (insert name content pairs only stamp) b is = absurd is
look_idle (update name pairs only only_meta stamp) b is = absurd is
look_idle (delete name only) b is = absurd is
look_idle (copy from generation to stamp) b is = absurd is

-- ---- which looks a plan asks for
-- none
abbrev pub NoLooks : Plan → Type 0
NoLooks plan = (told : List Answer) (op : Operation) → Allows (plan told) op → IsLook op → ⊥

-- Each is a look at a name or at a directory's key; and behind an operation that is no look there is none.
pub record AsksLooks (implicit : Bool) (plan : Plan) : Type 0 where
  pub at : (told : List Answer) (op : Operation) → Allows (plan told) op → IsLook op → LooksAt implicit op
  pub first : (told : List Answer) (op : Operation) → Allows (plan told) op → (IsLook op → ⊥) → (answer : Answer) → NoLooks (λ more. plan (told ++ answer ∷ more))

pub asks_after : (implicit : Bool) (plan : Plan) (answer : Answer) → AsksLooks implicit plan → AsksLooks implicit (plan_after plan answer)
asks_after implicit plan answer asks = record {
  at = λ told. asks.at (answer ∷ told);
  first = λ told. asks.first (answer ∷ told);
}

-- ---- steps
-- the step asks for nothing, or for a look at a name or a directory's key
abbrev AsksLook : Bool → Step → Type 0
AsksLook implicit step = (op : Operation) → Allows step op → IsLook op × LooksAt implicit op

-- a plan that asks for nothing else
only_looks : (implicit : Bool) (plan : Plan) → ((told : List Answer) → AsksLook implicit (plan told)) → AsksLooks implicit plan
only_looks implicit plan each = record {
  at = λ told op allowed look. (each told op allowed).1;
  first = λ told op allowed other. absurd (other (each told op allowed).0);
}

module _ (implicit : Bool) where
  asks_done : AsksLook implicit done
  asks_done op allowed = absurd allowed

  asks_stat : (name : List ℕ) → AsksLook implicit (ask (stat name))
  asks_stat name op allowed = subst (λ (x : Operation). IsLook x × LooksAt implicit x) (sym allowed) (tt, tt)

  asks_probe : (path : List ℕ) → IsTrue (ends_in_slash (dir_prefix_of path)) → AsksLook implicit (ask (lookup.probe implicit path))
  asks_probe path ends op allowed = subst (λ (x : Operation). IsLook x × LooksAt implicit x) (sym allowed) (by implicit refl)
    where
      by : (b : Bool) → implicit ≡ b → IsLook (lookup.probe b path) × LooksAt implicit (lookup.probe b path)
      by true is = ((refl, refl, refl), (is, ends, refl, refl, refl))
      by false is = (tt, tt)

  either_asks : (b : Bool) (one other : Step) → AsksLook implicit one → AsksLook implicit other → AsksLook implicit (if b then one else other)
  either_asks true one other first second = first
  either_asks false one other first second = second

  asks_after_probe : (path : List ℕ) (suffixed : Bool) (found : lookup.Probed) → AsksLook implicit (lookup.after_probe path suffixed found)
  asks_after_probe path suffixed lookup.present = either_asks suffixed _ _ (asks_stat path) asks_done
  asks_after_probe path suffixed lookup.absent = either_asks suffixed _ _ asks_done (asks_stat path)
  asks_after_probe path suffixed lookup.failed = asks_done

  -- ---- plans
  asks_standing : (name : Option (List ℕ)) (told : List Answer) → AsksLook implicit (standing.plan name told)
  asks_standing None told = asks_done
  asks_standing (Some name) [] = asks_stat name
  asks_standing (Some name) (a ∷ more) = asks_done

  asks_lookup : (path : List ℕ) (suffixed : Bool) → IsTrue (ends_in_slash (dir_prefix_of path)) → (told : List Answer) → AsksLook implicit (lookup.plan implicit path suffixed told)
  asks_lookup path suffixed ends [] = asks_probe path ends
  asks_lookup path suffixed ends (a ∷ []) = asks_after_probe path suffixed (lookup.probed a)
  asks_lookup path suffixed ends (a ∷ b ∷ more) = asks_done

  -- a RENAME looks before it copies and deletes
  module _ (from to : List ℕ) (suffixed : Bool) (second : ℕ) (ends : IsTrue (ends_in_slash (dir_prefix_of from))) where
    abbrev moving : Plan
    moving = rename.moving_plan implicit from to suffixed second

    copies : (b : Answer) (op : Operation) → Allows (rename.after_stat from to second b) op → IsLook op → ⊥
    copies (answers.Meta meta) op allowed look = subst IsLook allowed look
    copies _ op allowed look = absurd allowed

    deletes : (b c : Answer) (op : Operation) → Allows (rename.after_copy from b c) op → IsLook op → ⊥
    deletes (answers.Meta meta) (answers.Meta copied) op allowed look = subst IsLook allowed look
    deletes b c op allowed look = absurd allowed

    asks_moving : AsksLooks implicit moving
    asks_moving = record { at = at; first = first }
      where
        at : (told : List Answer) (op : Operation) → Allows (moving told) op → IsLook op → LooksAt implicit op
        at [] op allowed look = (asks_probe from ends op allowed).1
        at (a ∷ []) op allowed look = (asks_after_probe from suffixed (lookup.probed a) op allowed).1
        at (a ∷ b ∷ []) op allowed look = absurd (copies b op allowed look)
        at (a ∷ b ∷ c ∷ []) op allowed look = absurd (deletes b c op allowed look)
        at (a ∷ b ∷ c ∷ d ∷ more) op allowed look = absurd allowed

        first : (told : List Answer) (op : Operation) → Allows (moving told) op → (IsLook op → ⊥) → (answer : Answer) → NoLooks (λ more. moving (told ++ answer ∷ more))
        first [] op allowed other answer = absurd (other (asks_probe from ends op allowed).0)
        first (a ∷ []) op allowed other answer = absurd (other (asks_after_probe from suffixed (lookup.probed a) op allowed).0)
        first (a ∷ b ∷ []) op allowed other answer = behind
          where
            behind : NoLooks (λ more. moving (a ∷ b ∷ answer ∷ more))
            behind [] x may look = deletes b answer x may look
            behind (d ∷ more) x may look = absurd may
        first (a ∷ b ∷ c ∷ []) op allowed other answer = λ more x may look. absurd may
        first (a ∷ b ∷ c ∷ d ∷ more) op allowed other answer = absurd allowed

-- ---- paths
-- the key of a directory ends in a slash
prefix_ends : (path : List ℕ) → 1 ≤ length path → IsTrue (ends_in_slash (dir_prefix_of path))
prefix_ends [] named = absurd (omega (arith, named))
prefix_ends (byte ∷ path) named = ends_at (byte ∷ path)

path_named : (directory : Sight) (seen : Option Sight) (part : List ℕ) → seen ≡ Some directory → part_refusal part directory ≡ None → 1 ≤ length (path_in seen part)
path_named directory seen part is free =
    let named : 1 ≤ length part = (part_refusal-none part directory free).component.named in
    let whole : length (directory.name ++ part) ≡ length directory.name + length part = length-append directory.name part in
    subst (λ s. 1 ≤ length (path_in s part)) (sym is) (omega (arith, whole, named))

first_none : (refused next : Option ℕ) → option_map_or Some refused next ≡ None → refused ≡ None
first_none None next none = refl
first_none (Some errno) next none = absurd (no_Some (sym none))

-- a RENAME that nothing refuses renames a name
rename_named : (names : rename.Names) (view : View) → rename.refusal names view ≡ None → 1 ≤ length (rename.from_of names view)
rename_named names view free =
    let old = on_live-none view.node _ free in
    let new = on_live-none view.directory _ old.next_none in
    path_named old.sight view.node (bare_name names.name) old.is (kinds old.sight new.sight (is_directory old.sight.kind && is_directory new.sight.kind) new.next_none)
  where
    kinds : (old new : Sight) (both : Bool) → (if both then rename.names_refusal names view old new else Some enotdir) ≡ None → part_refusal (bare_name names.name) old ≡ None
    kinds old new true none = first_none (part_refusal (bare_name names.name) old) _ none
    kinds old new false none = absurd (no_Some (sym none))

rename2_free : (flags : ℕ) (names : rename.Names) (view : View) → rename2.refusal flags names view ≡ None → rename.refusal names view ≡ None
rename2_free flags names view free = by (flags == 0) free
  where
    by : (b : Bool) → (if b then rename.refusal names view else Some einval) ≡ None → rename.refusal names view ≡ None
    by true none = none
    by false none = absurd (no_Some (sym none))

-- ---- each request
module _ (at : AtTake) (view : View) where
  abbrev taken : Taken
  taken = record { at = at; view = view }

  rename_asks : (names : rename.Names) → rename.refusal names view ≡ None → AsksLooks at.config.implicit_dirs (rename.plan names taken)
  rename_asks names free = by (rename.is_same names view)
    where
      by : (same : Bool) → AsksLooks at.config.implicit_dirs (λ told. if same then done
          else rename.moving_plan at.config.implicit_dirs (rename.from_of names view) (rename.to_of names view) (has_suffix names.name) at.second told)
      by true = only_looks at.config.implicit_dirs _ (λ told. asks_done at.config.implicit_dirs)
      by false = asks_moving at.config.implicit_dirs (rename.from_of names view) (rename.to_of names view) (has_suffix names.name) at.second
          (prefix_ends (rename.from_of names view) (rename_named names view free))

  setattr_asks : (asked : setattr.Asked) (change : setattr.Change) (key : List ℕ) → Contains (setattr.keys_by view change) key
      → AsksLooks at.config.implicit_dirs (setattr.plan_by asked at.second view change)
  setattr_asks asked setattr.look key there = only_looks at.config.implicit_dirs _ (λ told. asks_standing at.config.implicit_dirs (standing.asked_name view) told)
  setattr_asks asked setattr.resize key there = only_looks at.config.implicit_dirs _ (λ told. asks_done at.config.implicit_dirs)
  setattr_asks asked setattr.stage_time key there = only_looks at.config.implicit_dirs _ (λ told. asks_done at.config.implicit_dirs)
  setattr_asks asked setattr.set_time key (k, within, is) = absurd (omega (arith, within))

  rules_ask : (request : Request) → (rules_of request).refusal view ≡ None → (key : List ℕ) → Contains ((rules_of request).keys view) key
      → AsksLooks at.config.implicit_dirs ((rules_of request).plan taken)
  rules_ask (Lookup node name) free key there =
      let d = in_directory-none view.node _ free in
      only_looks at.config.implicit_dirs _ (λ told. asks_lookup at.config.implicit_dirs (lookup.path_of name view) (has_suffix name)
      (prefix_ends (lookup.path_of name view) (path_named d.sight view.node (bare_name name) d.is d.next_none)) told)
  rules_ask (Getattr node) free key there = only_looks at.config.implicit_dirs _ (λ told. asks_standing at.config.implicit_dirs (standing.asked_name view) told)
  rules_ask (Opening node flags) free key there = only_looks at.config.implicit_dirs _ (λ told. asks_standing at.config.implicit_dirs (standing.asked_name view) told)
  rules_ask (Setattr node valid size mtime nanos) free key there =
      setattr_asks (record { valid = valid; size = size; seconds = mtime; nanos = nanos })
      (setattr.change_in (record { valid = valid; size = size; seconds = mtime; nanos = nanos }) view) key there
  rules_ask (Rename node newdir name newname) free key there = rename_asks (record { name = name; newdir = newdir; newname = newname }) free
  rules_ask (Rename2 node newdir flags name newname) free key there =
      rename_asks (record { name = name; newdir = newdir; newname = newname }) (rename2_free flags (record { name = name; newdir = newdir; newname = newname }) view free)
  rules_ask _ free key (k, within, is) = absurd (omega (arith, within))

-- a request that looks for a record asks for looks so
pub plan_asks_looks : (at : AtTake) (mount : MountModel) (request : Request) (key : List ℕ) → Contains ((rules_of request).keys (view_in mount request)) key
    → AsksLooks at.config.implicit_dirs (plan at mount request)
plan_asks_looks at mount request key there = by (goes_on mount request) refl
  where
    by : (on : Bool) → goes_on mount request ≡ on
        → AsksLooks at.config.implicit_dirs (if on then (rules_of request).plan (taken_at at mount request) else (λ (told : List Answer). done))
    by true is = rules_ask at (view_in mount request) request (unrefused mount request is) key there
    by false is = only_looks at.config.implicit_dirs _ (λ told. asks_done at.config.implicit_dirs)
