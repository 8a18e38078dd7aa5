-- The rules of RENAME are sound, and with other refusals beside its own, those of RENAME2.
use Rattle.std.proofs.Common.{◌≡◌, ◌≢◌, ◌≤◌, ◌+◌, ◌-◌, ℕ, Bool, true, false, List, [], ◌∷◌, Option, Some, None, refl, sym, ap, subst, ◌∙◌, arith, inl, inr, length, option_map}
use Rattle.std.specs.Prelude.{if◌then◌else◌, ◌&&◌, not, option_and_then}
use Rattle.std.specs.FinMap as fin
use Rattle.std.specs.List.{AllByRecursion}
use Rattle.std.specs.Option.{option_map_or}
use Rattle.bucket_api.specs.Operation.{Operation}
use Rattle.bucket_api.specs.declared.answers.Answer.{Answer}
use Rattle.bucket_api.specs.declared.answers.Answer.TheVariants as answers
use Rattle.claim_spec.specs.Conflicts.{IsClaimed, IsOwned}
use Rattle.claim_spec.specs.declared.claim.Claim.{Claim}
use Rattle.claim_spec.specs.declared.claim.ClaimKey.TheVariants as key
use Rattle.fuse_replies.specs.Errno.{ebusy, eio, enoent, enomem, enosys, enotdir, estale}
use Rattle.fuse_replies.specs.declared.reply.Reply.TheVariants.{Error}
use Rattle.inode_spec.specs.Inodes.{lookups_of}
use Rattle.mount_model.specs.Observing.{Observed}
use Rattle.mount_rules.specs.Claiming.{shares_node}
use Rattle.mount_rules.specs.Guards.{is_directory, on_live, part_refusal, path_in}
use Rattle.mount_rules.specs.Laws.{GivesLater, IsCovered, Keeps, Planned, given}
use Rattle.mount_rules.specs.Mount.{IsMount, MountModel}
use Rattle.mount_rules.specs.Plans.{Allows, IsHarmless, Plan, answers_of, done}
use Rattle.mount_rules.specs.Removing.{without_name}
use Rattle.mount_rules.specs.Requests.Rename as rename
use Rattle.mount_rules.specs.Requests.Rename.{Came, Names, directory, fault, moved, nothing, stale}
use Rattle.mount_rules.specs.Rules.{Taken}
use Rattle.mount_rules.specs.View.{Named, Sight, View, child_of, old_at, sight_at, sight_of, view_of}
use Rattle.object_names.specs.Paths.{bare_name, dir_prefix_of, has_suffix}
use Rattle.mount_laws.proofs.Guarding.{SeesLive, on_live-memory, on_live-none, part_refusal-memory}
use Rattle.mount_laws.proofs.Keeping.{no_Some}
use Rattle.mount_laws.proofs.Leaving.{Keeps-same, Keeps-then}
use Rattle.mount_laws.proofs.Memory.{empty_answered, errors_differ, no_error}
use Rattle.mount_laws.proofs.Mounts.{GivesLater-same, GivesLater-then}
use Rattle.mount_laws.proofs.Removing.{GivesLater-unnamed, Keeps-unnamed}
use Rattle.mount_laws.proofs.Requests.Lookup.{asks_harmless, asks_path}
use Rattle.mount_laws.proofs.Sights.{CurrentClaimed, LooksClaimed, LooksClaimed-node}
use Rattle.mount_laws.proofs.Sound.{IsSound}
use Rattle.mount_laws.proofs.Sources.{NodesFrom, NodesFrom-same, NodesStay, NodesStay-same}

-- ---- what it asks: the probe, the stat, the copy and the delete
module _ (implicit : Bool) (from to : List ℕ) (suffixed : Bool) (second : ℕ) where
  abbrev moving : Plan
  moving = rename.moving_plan implicit from to suffixed second

  module _ (claimed : List Claim) (op : Operation) (dir : IsClaimed claimed (key.Name (dir_prefix_of from)))
      (old : IsOwned claimed (key.Name from)) (named : IsClaimed claimed (key.Name from)) (new : IsOwned claimed (key.Name to)) where
    covers_copy : (told : Answer) → Allows (rename.after_stat from to second told) op → IsCovered claimed op
    covers_copy (answers.Meta meta) allows = subst (IsCovered claimed) (sym allows) (named, new)
    covers_copy _ allows = absurd allows

    covers_delete : (told copied : Answer) → Allows (rename.after_copy from told copied) op → IsCovered claimed op
    covers_delete (answers.Meta meta) (answers.Meta copied) allows = subst (IsCovered claimed) (sym allows) old
    covers_delete told copied allows = absurd allows

    covers_moving : (told : List Answer) → Allows (moving told) op → IsCovered claimed op
    covers_moving [] allows = asks_path implicit from suffixed [] claimed op dir named allows
    covers_moving (a ∷ []) allows = asks_path implicit from suffixed (a ∷ []) claimed op dir named allows
    covers_moving (a ∷ b ∷ []) allows = covers_copy b allows
    covers_moving (a ∷ b ∷ c ∷ []) allows = covers_delete b c allows
    covers_moving (a ∷ b ∷ c ∷ d ∷ more) allows = absurd allows

  -- a copy may stand
  harmless_copy : (told : Answer) (op : Operation) → Allows (rename.after_stat from to second told) op → IsHarmless op
  harmless_copy (answers.Meta meta) op allows = subst IsHarmless (sym allows) tt
  harmless_copy _ op allows = absurd allows

  -- once the object is deleted, nothing is asked
  pub harmless_moving : (seen : List Observed) → Planned moving seen → moving (answers_of seen) ≢ done → AllByRecursion (λ (o : Observed). IsHarmless o.op) seen
  harmless_moving [] planned asks = tt
  harmless_moving (o ∷ []) planned asks = (asks_harmless implicit from suffixed [] o.op planned.0, tt)
  harmless_moving (o ∷ p ∷ []) planned asks =
      (asks_harmless implicit from suffixed [] o.op planned.0, (asks_harmless implicit from suffixed (o.answer ∷ []) p.op planned.1.0, tt))
  harmless_moving (o ∷ p ∷ q ∷ []) planned asks = (
    asks_harmless implicit from suffixed [] o.op planned.0,
    (asks_harmless implicit from suffixed (o.answer ∷ []) p.op planned.1.0, (harmless_copy p.answer q.op planned.1.1.0, tt)),
  )
  harmless_moving (o ∷ p ∷ q ∷ r ∷ more) planned asks = absurd (asks refl)

  asks_four : (seen : List Observed) → Planned moving seen → length seen ≤ 4
  asks_four [] planned = omega arith
  asks_four (o ∷ []) planned = omega arith
  asks_four (o ∷ p ∷ []) planned = omega arith
  asks_four (o ∷ p ∷ q ∷ []) planned = omega arith
  asks_four (o ∷ p ∷ q ∷ r ∷ []) planned = omega arith
  asks_four (o ∷ p ∷ q ∷ r ∷ s ∷ more) planned = absurd planned.1.1.1.1.0

-- the same where both paths are one, and nothing is asked
covers : (same : Bool) (plan : Plan) (told : List Answer) (claimed : List Claim) (op : Operation) → (Allows (plan told) op → IsCovered claimed op)
    → Allows (if same then done else plan told) op → IsCovered claimed op
covers true plan told claimed op other allows = absurd allows
covers false plan told claimed op other allows = other allows

harmless : (same : Bool) (plan : Plan) (seen : List Observed) → (Planned plan seen → plan (answers_of seen) ≢ done → AllByRecursion (λ (o : Observed). IsHarmless o.op) seen)
    → Planned (λ told. if same then done else plan told) seen → ((if same then done else plan (answers_of seen)) ≢ done)
    → AllByRecursion (λ (o : Observed). IsHarmless o.op) seen
harmless true plan seen other planned asks = absurd (asks refl)
harmless false plan seen other planned asks = other planned asks

at_most : (same : Bool) (plan : Plan) (seen : List Observed) → (Planned plan seen → length seen ≤ 4) → Planned (λ told. if same then done else plan told) seen → length seen ≤ 4
at_most true plan [] other planned = omega arith
at_most true plan (o ∷ more) other planned = absurd planned.0
at_most false plan seen other planned = other planned

-- ---- what it leaves
module _ (names : Names) (view : View) (mount : MountModel) where
  -- what holds of the mount, and of the mount without current nodes of the two names, holds afterwards
  pub on_moved : (P : MountModel → Type 0) → P mount → P (without_name (without_name mount (rename.from_of names view)) (rename.to_of names view))
      → (came : Came) → P (rename.mount_after names view mount came)
  on_moved P same unnamed moved = by (rename.is_same names view)
    where
      by : (one : Bool) → P (if one then mount else without_name (without_name mount (rename.from_of names view)) (rename.to_of names view))
      by true = same
      by false = unnamed
  on_moved P same unnamed directory = same
  on_moved P same unnamed nothing = same
  on_moved P same unnamed stale = same
  on_moved P same unnamed fault = same

  later : IsMount mount → (came : Came) → GivesLater mount (rename.mount_after names view mount came)
  later is = on_moved (GivesLater mount) (GivesLater-same mount is)
      (let one = GivesLater-unnamed mount is (rename.from_of names view) in GivesLater-then one (GivesLater-unnamed _ one.is (rename.to_of names view)))

  leaves : (claimed : List Claim) → IsClaimed claimed (key.Name (rename.from_of names view)) → IsClaimed claimed (key.Name (rename.to_of names view))
      → (came : Came) → Keeps claimed mount (rename.mount_after names view mount came)
  leaves claimed old new = on_moved (Keeps claimed mount) (Keeps-same claimed mount)
      (Keeps-then claimed mount _ _ (Keeps-unnamed claimed mount (rename.from_of names view) old) (Keeps-unnamed claimed _ (rename.to_of names view) new))

  agrees : mount.negotiated ≡ true → (came : Came) → (rename.mount_after names view mount came).negotiated ≡ true
  agrees agreed = on_moved (λ (m : MountModel). m.negotiated ≡ true) agreed agreed

  keeps_staged : (came : Came) → (rename.mount_after names view mount came).staged ≡ mount.staged
  keeps_staged = on_moved (λ (m : MountModel). m.staged ≡ mount.staged) refl refl

  counts : (number : ℕ) (came : Came) → lookups_of (rename.mount_after names view mount came).table number ≡ (lookups_of mount.table number + given (rename.reply_to came) number) - 0
  counts number came =
      let same : lookups_of (rename.mount_after names view mount came).table number ≡ lookups_of mount.table number =
      on_moved (λ (m : MountModel). lookups_of m.table number ≡ lookups_of mount.table number) refl refl came in
      let none : given (rename.reply_to came) number ≡ 0 = gives_none came in
      omega (arith, same, none)
    where
      gives_none : (came : Came) → given (rename.reply_to came) number ≡ 0
      gives_none moved = refl
      gives_none directory = refl
      gives_none nothing = refl
      gives_none stale = refl
      gives_none fault = refl

  nodes : (Shown : List ℕ → ℕ → ℕ → Type 0) (came : Came) → NodesFrom Shown mount.table (rename.mount_after names view mount came).table
  nodes Shown = on_moved (λ (m : MountModel). NodesFrom Shown mount.table m.table) (NodesFrom-same Shown mount.table) (NodesFrom-same Shown mount.table)

  pub renamed_stay : (came : Came) → NodesStay mount.table (rename.mount_after names view mount came).table
  renamed_stay = on_moved (λ (m : MountModel). NodesStay mount.table m.table) (NodesStay-same mount.table) (NodesStay-same mount.table)

answered : (came : Came) → rename.reply_to came ≢ Error enomem
answered moved e = empty_answered e
answered directory e = let same : enosys ≡ enomem = cc in absurd (omega (arith, same))
answered nothing e = let same : enoent ≡ enomem = cc in absurd (omega (arith, same))
answered stale e = let same : estale ≡ enomem = cc in absurd (omega (arith, same))
answered fault e = let same : eio ≡ enomem = cc in absurd (omega (arith, same))

-- ---- what it refuses
pub rename_memory : (names : Names) (view : View) → rename.refusal names view ≢ Some enomem
rename_memory names view = on_live-memory view.node _ (λ old. on_live-memory view.directory _ (λ new. kinds old new (is_directory old.kind && is_directory new.kind)))
  where
    busy : (b : Bool) → (if b then Some ebusy else None) ≢ Some enomem
    busy true e = errors_differ (λ same. absurd (omega (arith, same))) e
    busy false e = no_error e

    first : (refused next : Option ℕ) → refused ≢ Some enomem → next ≢ Some enomem → option_map_or Some refused next ≢ Some enomem
    first None next mine other e = other e
    first (Some errno) next mine other e = mine e

    kinds : (old new : Sight) (both : Bool) → (if both then rename.names_refusal names view old new else Some enotdir) ≢ Some enomem
    kinds old new false e = errors_differ (λ same. absurd (omega (arith, same))) e
    kinds old new true e =
        first (part_refusal (bare_name names.name) old) (option_map_or Some (part_refusal names.newname new) (rename.busy_refusal names view)) (part_refusal-memory (bare_name names.name) old)
        (first (part_refusal names.newname new) (rename.busy_refusal names view) (part_refusal-memory names.newname new) (busy (rename.is_staged view && not (rename.is_same names view)))) e

-- ---- what it sees
module _ (node : ℕ) (names : Names) (mount : MountModel) (is : IsMount mount) (free : rename.refusal names (view_of mount (rename.looks node names)) ≡ None) where
  abbrev view : View
  view = view_of mount (rename.looks node names)

  old_one : SeesLive view.node (λ old. on_live view.directory (rename.kinds_refusal names view old))
  old_one = on_live-none view.node _ free

  new_one : SeesLive view.directory (rename.kinds_refusal names view old_one.sight)
  new_one = on_live-none view.directory _ old_one.next_none

  -- by claims on both directories and on the old name's current node, where the old name is owned
  module _ (claimed : List Claim) (directory_claimed : IsClaimed claimed (key.Node node)) (other_claimed : IsClaimed claimed (key.Node names.newdir))
      (named : IsOwned claimed (key.Name (rename.from_of names view))) (others : (number : ℕ) → IsClaimed (rename.old_claims view) (key.Node number) → IsClaimed claimed (key.Node number)) where
    -- the old name's current node is claimed
    current_claimed : (d : Sight) → sight_at mount.table node ≡ Some d → CurrentClaimed claimed mount (child_of d (bare_name names.name))
    current_claimed d seen = record {
      owned = subst (λ name. IsOwned claimed (key.Name name)) (ap (λ s. path_in s (bare_name names.name)) seen) named;
      node = λ number current.
          let c = is.current (child_of d (bare_name names.name)) number current in
          let there : sight_at mount.table number ≡ Some (sight_of number c.inode) = ap (option_map (sight_of number)) c.there in
          (sight_of number c.inode, there, others number (among number (sight_of number c.inode) current there));
    }
      where
        among : (number : ℕ) (sight : Sight) → fin.get mount.table.current (child_of d (bare_name names.name)) ≡ Some number → sight_at mount.table number ≡ Some sight
            → IsClaimed (rename.old_claims view) (key.Node number)
        among number sight current there = subst (λ o. IsClaimed (option_map_or (λ (old : Named). shares_node old.number ∷ []) o []) (key.Node number)) (sym old_is) (inl refl)
          where
            old_is : view.old ≡ Some (record { number = number; sight = sight; staged = fin.get mount.staged number })
            old_is = ap (λ s. old_at mount s (bare_name names.name)) seen
                ∙ ap (option_and_then (λ n. option_map (λ s. record { number = n; sight = s; staged = fin.get mount.staged n }) (sight_at mount.table n))) current
                ∙ ap (option_map (λ s. record { number = number; sight = s; staged = fin.get mount.staged number })) there

    pub LooksClaimed-rename : LooksClaimed claimed mount (rename.looks node names)
    LooksClaimed-rename =
        let first = LooksClaimed-node claimed mount node old_one.sight old_one.is directory_claimed in
        record {
          node = first.node;
          directory = λ number same. (
            new_one.sight,
            ap (λ looked. option_and_then (sight_at mount.table) looked) (sym same) ∙ new_one.is,
            subst (λ looked. IsClaimed claimed (key.Node looked)) (let one : names.newdir ≡ number = cc in one) other_claimed,
          );
          handle = first.handle;
          kept = first.kept;
          staged = first.staged;
          old = λ part d same seen. subst (λ p. CurrentClaimed claimed mount (child_of d p)) (let one : bare_name names.name ≡ part = cc in one) (current_claimed d seen);
          listed = refl;
        }

-- RENAME2 refuses more
module _ (node : ℕ) (names : Names) (refusal : View → Option ℕ)
    (as_rename : (view : View) → refusal view ≡ None → rename.refusal names view ≡ None) (other : (view : View) → refusal view ≢ Some enomem) where
  abbrev seen_in : MountModel → View
  seen_in mount = view_of mount (rename.looks node names)

  module _ (taken : Taken) where
    abbrev from : List ℕ
    from = rename.from_of names taken.view

    abbrev to : List ℕ
    to = rename.to_of names taken.view

    abbrev moving_then : Plan
    moving_then = moving taken.at.config.implicit_dirs from to (has_suffix names.name) taken.at.second

    covers_all : (told : List Answer) (op : Operation) → Allows (rename.plan names taken told) op → IsCovered (rename.claims node names taken.view) op
    covers_all told op = covers (rename.is_same names taken.view) moving_then told (rename.claims node names taken.view) op
        (covers_moving taken.at.config.implicit_dirs from to (has_suffix names.name) taken.at.second
        (rename.claims node names taken.view) op (inr (inr (inr (inr (inl refl))))) (inr (inr (inl (refl, refl)))) (inr (inr (inl refl))) (inr (inr (inr (inl (refl, refl))))) told)

    harmless_all : (seen : List Observed) → Planned (rename.plan names taken) seen → rename.plan names taken (answers_of seen) ≢ done
        → AllByRecursion (λ (o : Observed). IsHarmless o.op) seen
    harmless_all seen = harmless (rename.is_same names taken.view) moving_then seen
        (harmless_moving taken.at.config.implicit_dirs from to (has_suffix names.name) taken.at.second seen)

    four_at_most : (seen : List Observed) (n : ℕ) → Some 4 ≡ Some n → Planned (rename.plan names taken) seen → length seen ≤ n
    four_at_most seen n is planned = let four : 4 ≡ n = cc in subst (λ m. length seen ≤ m) four
        (at_most (rename.is_same names taken.view) moving_then seen
        (asks_four taken.at.config.implicit_dirs from to (has_suffix names.name) taken.at.second seen) planned)

  pub renaming_sound : IsSound (record (rename.rules node names) { refusal = refusal }) (λ number. 0) (Some 4)
  renaming_sound = record {
    later = λ at mount seen goes. later names (seen_in mount) mount goes.is (rename.came names (seen_in mount) (answers_of seen));
    leaves = λ at mount seen goes. leaves names (seen_in mount) mount (rename.claims node names (seen_in mount)) (inr (inr (inl refl))) (inr (inr (inr (inl refl)))) (rename.came names (seen_in mount) (answers_of seen));
    sees = λ at mount goes asks. LooksClaimed-rename node names mount goes.is (as_rename _ goes.free) (rename.claims node names (seen_in mount))
        (inl refl) (inr (inl refl)) (inr (inr (inl (refl, refl)))) (λ number claimed. inr (inr (inr (inr (inr claimed)))));
    covers = covers_all;
    harmless = λ taken seen planned fits asks. harmless_all taken seen planned asks;
    bounded = four_at_most;
    reads = λ taken wanted wants_it. absurd (no_Some wants_it);
    of_files = λ mount wanted is wants_it. absurd (no_Some wants_it);
    agrees = λ taken mount seen agreed. agrees names taken.view mount agreed (rename.came names taken.view (answers_of seen));
    refuses = other;
    keeps_staged = λ at mount seen errno free error. keeps_staged names (seen_in mount) mount (rename.came names (seen_in mount) (answers_of seen));
    answers = λ taken mount seen. answered (rename.came names taken.view (answers_of seen));
    counts = λ at mount seen number other goes. counts names (seen_in mount) mount number (rename.came names (seen_in mount) (answers_of seen));
    nodes = λ Shown at mount seen goes tells. nodes names (seen_in mount) mount Shown (rename.came names (seen_in mount) (answers_of seen));
  }

pub rename_sound : (node : ℕ) (names : Names) → IsSound (rename.rules node names) (λ number. 0) (Some 4)
rename_sound node names = renaming_sound node names (rename.refusal names) (λ view free. free) (rename_memory names)
