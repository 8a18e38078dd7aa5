-- What an errand on names is: the plan that it carries out, and what is asked of its parts.
use Rattle.std.specs.Prelude.{◌≢◌, ◌≤◌, ℕ, List, [], ◌∷◌, None, IfSome}
use Rattle.bucket_api.specs.declared.answers.Answer.{Answer}
use Rattle.bucket_api.specs.declared.answers.Answer.TheVariants as answers
use Rattle.bucket_api.specs.Metadata.{KeysRise}
use Rattle.bucket_api.specs.Names.{IsObjectName}
use Rattle.bucket_api.specs.Operation.{IsAllowed}
use Rattle.mount_model.specs.Observing.{NextStep, finish, insert_staged, make}
use Rattle.object_names.specs.Paths.{IsPath, dir_prefix_of}
use Rattle.mount_rules.specs.Making as making
use Rattle.mount_rules.specs.Plans.{Plan, Step, done, ask, may_read, plan_after}
use Rattle.mount_rules.specs.Requests.Lookup as lookup
use Rattle.mount_rules.specs.Removing as removing
use Rattle.mount_rules.specs.Requests.Opendir as opendir
use Rattle.mount_rules.specs.Requests.Rename as rename
use Rattle.mount_rules.specs.Requests.Rmdir as rmdir
use Rattle.mount_rules.specs.Requests.Unlink as unlink
use Rattle.plan_names.specs.declared.errand.NameErrand.{NameErrand}
use Rattle.plan_names.specs.declared.errand.NameErrand.TheVariants.{Lookup, Make, Opendir, Rename, Rmdir, Unlink}

-- the plan that the errand carries out, at a second
abbrev pub plan_of : NameErrand → ℕ → Plan
plan_of (Lookup path suffix implicit) second answers = lookup.plan implicit path suffix answers
plan_of (Make name pairs) second answers = making.plan name pairs.items second answers
plan_of (Unlink path) second answers = unlink.plan path answers
plan_of (Rmdir path) second answers = rmdir.plan (dir_prefix_of path) answers
plan_of (Rename from to suffix implicit) second answers = rename.moving_plan implicit from to suffix second answers
plan_of (Opendir prefix page) second answers = opendir.plan prefix page None answers

-- the error that it ends in, 0 where it ends well
abbrev pub errno_of : NameErrand → List Answer → ℕ
errno_of (Lookup path suffix implicit) answers = lookup.errno_of (lookup.found answers)
errno_of (Make name pairs) answers = making.errno_of (making.made answers)
errno_of (Unlink path) answers = removing.errno_of (unlink.removed answers)
errno_of (Rmdir path) answers = rmdir.errno_of (rmdir.came_of (dir_prefix_of path) answers)
errno_of (Rename from to suffix implicit) answers = rename.errno_of (rename.came_of answers)
errno_of (Opendir prefix page) answers = opendir.errno_of answers

-- what the step asks next; a plan of names has no reads
abbrev pub next_of : Step → NextStep
next_of done = finish
next_of (ask op) = make op
next_of (may_read source next) = next_of next

-- the parts of an errand: paths, the name of an object and pairs whose keys rise, a page of at least one key
abbrev pub IsErrand : NameErrand → Type 0
IsErrand (Lookup path suffix implicit) = IsPath path
IsErrand (Make name pairs) = IsObjectName name × KeysRise pairs.items
IsErrand (Unlink path) = IsPath path
IsErrand (Rmdir path) = IsPath path
IsErrand (Rename from to suffix implicit) = IsPath from × IsPath to
IsErrand (Opendir prefix page) = 1 ≤ page

-- the answer may be a bucket's: a page goes on after a key
abbrev pub IsTold : Answer → Type 0
IsTold (answers.Page page) = IfSome page.next (λ key. key ≢ [])
IsTold answer = Unit {0}

-- the plan asked for each of these answers
abbrev pub Asked : Plan → List Answer → Type 0
Asked plan [] = Unit {0}
Asked plan (a ∷ more) = (plan [] ≢ done) × IsTold a × Asked (plan_after plan a) more

-- the operation that is to be made next may be asked
abbrev pub MayMake : NextStep → Type 0
MayMake finish = Unit {0}
MayMake insert_staged = ⊥
MayMake (make op) = IsAllowed op
