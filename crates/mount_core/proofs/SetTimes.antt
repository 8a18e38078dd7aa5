-- The times of staged contents, and those that a SETATTR sets, are times that a file can have.
use Rattle.std.proofs.Common.{◌≡◌, ◌≤◌, ℕ, Bool, true, false, Option, Some, None, refl, sym, ap, subst, ◌∙◌, ◌⊎◌, inl, inr, arith, nat_le}
use Rattle.std.proofs.lemmas.Bool.{false≢true}
use Rattle.std.proofs.lemmas.Bool.Decides.{nat_tests}
use Rattle.std.specs.Prelude.{if◌then◌else◌, not, ◌&&◌, ◌||◌, ◌==◌, is_some}
use Rattle.std.specs.FinMap as fin
use Rattle.std.specs.Option.{option_map_or}
use Rattle.file_metadata.specs.FileMetadata.{last_second}
use Rattle.fuse_replies.specs.Errno.{einval, eisdir, estale}
use Rattle.inode_spec.proofs.Cases.{on_test}
use Rattle.mount_laws.proofs.Keeping.{no_Some, same_Some}
use Rattle.mount_rules.specs.Files.{length_of}
use Rattle.mount_rules.specs.Guards.{on_live}
use Rattle.mount_rules.specs.Mount.{NodeTable}
use Rattle.mount_rules.specs.Requests.Forget as forget
use Rattle.mount_rules.specs.Requests.Setattr as setattr
use Rattle.mount_rules.specs.Requests.Setattr.{Asked, Change}
use Rattle.mount_rules.specs.View.{Sight, View}
use Rattle.object_names.specs.declared.shown.NodeKind.{NodeKind}
use Rattle.object_names.specs.declared.shown.NodeKind.TheVariants as kind
use Rattle.plan_files.specs.Errands.{IsTime}
use Rattle.spare_maps.proofs.FinMaps.{number_put, number_taken}
use Rattle.staging_spec.specs.StagedFiles.{StagedContent, StagedFiles}

abbrev pub TimesOf : StagedFiles → Type 0
TimesOf files = (number : ℕ) (staged : StagedContent) → fin.get files number ≡ Some staged → IsTime staged.seconds staged.nanos

pub times_put : (files : StagedFiles) (k : ℕ) (new : StagedContent) → TimesOf files → IsTime new.seconds new.nanos → TimesOf (fin.insert files k new)
times_put files k new all time number staged found = by (number_put files k new staged number found)
  where
    by : ((number ≡ k) × (new ≡ staged)) ⊎ (fin.get files number ≡ Some staged) → IsTime staged.seconds staged.nanos
    by (inl (at, one)) = subst (λ (s : StagedContent). IsTime s.seconds s.nanos) one time
    by (inr was) = all number staged was

pub times_taken : (files : StagedFiles) (k : ℕ) → TimesOf files → TimesOf (fin.remove files k)
times_taken files k all number staged found = all number staged (number_taken files k staged number found).1

pub times_beside : (table : NodeTable) (k : ℕ) (files : StagedFiles) → TimesOf files → TimesOf (forget.staged_beside table k files)
times_beside table k files all = on_test TimesOf (is_some (fin.get table.nodes k)) files (fin.remove files k) (λ there. all) (λ gone. times_taken files k all)

-- of seconds and nanoseconds
abbrev pub AreTime : ℕ × ℕ → Type 0
AreTime time = IsTime time.0 time.1

-- the second of a call is a time
pub second_is : (second : ℕ) → second ≤ last_second → IsTime second 0
second_is second early = record { printable = early; fraction = omega arith }

-- a time that a SETATTR of a file may set
in_range : (seconds nanos : ℕ) → (nat_le seconds last_second && nat_le nanos 999999999) ≡ true → IsTime seconds nanos
in_range seconds nanos is = record { printable = grind (arith, nat_tests, is); fraction = grind (arith, nat_tests, is) }

time_is : (asked : Asked) (second : ℕ) → second ≤ last_second → setattr.time_refusal asked kind.File ≡ None → (setattr.sets_time asked || setattr.sets_now asked) ≡ true
    → AreTime (setattr.time_set asked second)
time_is asked second early free sets = by (setattr.sets_now asked) (setattr.sets_time asked) sets free
  where
    by : (now told : Bool) → (told || now) ≡ true → (if told && not now && setattr.is_out_of_range asked then Some einval else None) ≡ None
        → AreTime (if now then (second, 0) else (asked.seconds, asked.nanos))
    by true told some free = second_is second early
    by false true some free = in_range asked.seconds asked.nanos (in_ (nat_le asked.seconds last_second && nat_le asked.nanos 999999999) free)
      where
        in_ : (b : Bool) → (if not b then Some einval else None) ≡ None → b ≡ true
        in_ true e = refl
        in_ false e = cc
    by false false some free = absurd (false≢true some)

-- nothing but its own kind refuses a time or a length of a node that is seen
sight_free : (seen : Option Sight) (next : Sight → Option ℕ) (sight : Sight) → seen ≡ Some sight → on_live seen next ≡ None → next sight ≡ None
sight_free None next sight is free = absurd (no_Some is)
sight_free (Some other) next sight is free = subst (λ (s : Sight). next s ≡ None) (same_Some is) (by other.live free)
  where
    by : (live : Bool) → (if live then next other else Some estale) ≡ None → next other ≡ None
    by true e = e
    by false e = cc

limits_free : (asked : Asked) (k : NodeKind) → setattr.limits_refusal asked k ≡ None → setattr.time_refusal asked k ≡ None
limits_free asked k free = by (setattr.time_refusal asked k) free
  where
    by : (errno : Option ℕ) → option_map_or Some errno (setattr.size_refusal asked) ≡ None → errno ≡ None
    by None e = refl
    by (Some errno) e = cc

file_free : (asked : Asked) (k : NodeKind) → setattr.kind_refusal asked k ≡ None → setattr.is_file k ≡ true → setattr.time_refusal asked kind.File ≡ None
file_free asked kind.File free is = limits_free asked kind.File (by (setattr.sets_size asked) free)
  where
    by : (sets : Bool) → (if sets then setattr.limits_refusal asked kind.File else setattr.limits_refusal asked kind.File) ≡ None → setattr.limits_refusal asked kind.File ≡ None
    by true e = e
    by false e = e
file_free asked kind.Dir free is = absurd (false≢true is)
file_free asked kind.Symlink free is = absurd (false≢true is)

-- a length is set of a file alone
sized_is_file : (asked : Asked) (k : NodeKind) → setattr.kind_refusal asked k ≡ None → setattr.sets_size asked ≡ true → setattr.is_file k ≡ true
sized_is_file asked kind.File free sets = refl
sized_is_file asked kind.Dir free sets = let never : Some eisdir ≡ None = sym (ap (λ (b : Bool). if b then Some eisdir else setattr.limits_refusal asked kind.Dir) sets) ∙ free in cc
sized_is_file asked kind.Symlink free sets = let never : Some einval ≡ None = sym (ap (λ (b : Bool). if b then Some einval else setattr.limits_refusal asked kind.Symlink) sets) ∙ free in cc

-- ---- what a SETATTR changes, by what it asks
left_true : (a b : Bool) → (a && b) ≡ true → a ≡ true
left_true true b e = refl
left_true false b e = e

right_true : (a b : Bool) → (a && b) ≡ true → b ≡ true
right_true true b e = e
right_true false b e = absurd (false≢true e)

no_resize : (staged : Option StagedContent) (timed : Bool) → (if timed then setattr.time_change staged else setattr.look) ≡ setattr.resize → ⊥
no_resize None true e = cc
no_resize (Some s) true e = cc
no_resize staged false e = cc

sets_so : (asked : Asked) (staged : Option StagedContent) (file : Sight) → setattr.change_of asked staged file ≡ setattr.resize → setattr.sets_size asked ≡ true
sets_so asked staged file is = by (setattr.sets_size asked && not (asked.size == length_of staged file)) refl is
  where
    by : (b : Bool) → (setattr.sets_size asked && not (asked.size == length_of staged file)) ≡ b
        → (if b then setattr.resize else if setattr.is_file file.kind && (setattr.sets_time asked || setattr.sets_now asked) then setattr.time_change staged else setattr.look) ≡ setattr.resize
        → setattr.sets_size asked ≡ true
    by true e is = left_true (setattr.sets_size asked) (not (asked.size == length_of staged file)) e
    by false e is = absurd (no_resize staged (setattr.is_file file.kind && (setattr.sets_time asked || setattr.sets_now asked)) is)

pub stages_so : (asked : Asked) (staged : Option StagedContent) (file : Sight) → setattr.change_of asked staged file ≡ setattr.stage_time
    → (setattr.is_file file.kind && (setattr.sets_time asked || setattr.sets_now asked)) ≡ true
stages_so asked staged file is = by (setattr.sets_size asked && not (asked.size == length_of staged file)) (setattr.is_file file.kind && (setattr.sets_time asked || setattr.sets_now asked)) is
  where
    by : (resizes timed : Bool) → (if resizes then setattr.resize else if timed then setattr.time_change staged else setattr.look) ≡ setattr.stage_time → timed ≡ true
    by true timed e = cc
    by false true e = refl
    by false false e = cc

touches_so : (asked : Asked) (staged : Option StagedContent) (file : Sight) → setattr.change_of asked staged file ≡ setattr.set_time
    → (setattr.is_file file.kind && (setattr.sets_time asked || setattr.sets_now asked)) ≡ true
touches_so asked staged file is = by (setattr.sets_size asked && not (asked.size == length_of staged file)) (setattr.is_file file.kind && (setattr.sets_time asked || setattr.sets_now asked)) is
  where
    by : (resizes timed : Bool) → (if resizes then setattr.resize else if timed then setattr.time_change staged else setattr.look) ≡ setattr.set_time → timed ≡ true
    by true timed e = cc
    by false true e = refl
    by false false e = cc

-- the time of a SETATTR that isn't refused
module _ (asked : Asked) (view : View) (free : setattr.refusal asked view ≡ None) (second : ℕ) (early : second ≤ last_second) (file : Sight) (there : view.node ≡ Some file) where
  kind_free : setattr.kind_refusal asked file.kind ≡ None
  kind_free = sight_free view.node (λ sight. setattr.kind_refusal asked sight.kind) file there free

  change_is : (change : Change) → setattr.change_in asked view ≡ change → setattr.change_of asked view.staged file ≡ change
  change_is change is = sym (ap (λ (seen : Option Sight). option_map_or (setattr.change_of asked view.staged) seen setattr.look) there) ∙ is

  pub then_is : setattr.change_in asked view ≡ setattr.resize → AreTime (setattr.time_then asked second)
  then_is is = by (setattr.sets_time asked || setattr.sets_now asked) refl
    where
      free_file : setattr.time_refusal asked kind.File ≡ None
      free_file = file_free asked file.kind kind_free (sized_is_file asked file.kind kind_free (sets_so asked view.staged file (change_is setattr.resize is)))

      by : (sets : Bool) → (setattr.sets_time asked || setattr.sets_now asked) ≡ sets
          → AreTime (if sets then setattr.time_set asked second else (second, 0))
      by true e = time_is asked second early free_file e
      by false e = second_is second early

  pub set_is : (setattr.is_file file.kind && (setattr.sets_time asked || setattr.sets_now asked)) ≡ true → AreTime (setattr.time_set asked second)
  set_is timed =
      time_is asked second early (file_free asked file.kind kind_free (left_true (setattr.is_file file.kind) (setattr.sets_time asked || setattr.sets_now asked) timed))
      (right_true (setattr.is_file file.kind) (setattr.sets_time asked || setattr.sets_now asked) timed)

-- a time that is set on an object is one, and the node is a file
pub touches_file : (asked : Asked) (view : View) → setattr.refusal asked view ≡ None → (second : ℕ) → second ≤ last_second → (file : Sight) → view.node ≡ Some file
    → setattr.change_in asked view ≡ setattr.set_time → (setattr.is_file file.kind ≡ true) × AreTime (setattr.time_set asked second)
touches_file asked view free second early file there is =
    let timed = touches_so asked view.staged file (change_is asked view free second early file there setattr.set_time is) in
    (left_true (setattr.is_file file.kind) (setattr.sets_time asked || setattr.sets_now asked) timed, set_is asked view free second early file there timed)
