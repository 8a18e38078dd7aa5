-- Every request's rules are sound, one line each; and the laws over all requests that follow.
use Rattle.std.proofs.Common.{◌≡◌, ◌≢◌, ◌+◌, ◌-◌, ℕ, Bool, true, false, List, [], Option, Some, None, refl, sym, ap, ◌∙◌, arith, ◌≤◌, length}
use Rattle.std.proofs.lemmas.Bool.{false≢true}
use Rattle.std.specs.Prelude.{if◌then◌else◌, not, ◌&&◌, is_some}
use Rattle.std.specs.List.{AllByRecursion}
use Rattle.std.specs.Option.{option_map_or}
use Rattle.claim_spec.specs.Conflicts.{AreApart}
use Rattle.fuse_replies.specs.declared.reply.Reply.{Reply}
use Rattle.fuse_replies.specs.declared.reply.Reply.TheVariants.{Error, Silent}
use Rattle.fuse_requests.specs.declared.request.Request.{Request}
use Rattle.fuse_requests.specs.declared.request.Request.TheVariants.{Lookup, Forget, BatchForget, Interrupt, Getattr, Setattr, Init, Opening, Read, Write, Flush, Fsync}
use Rattle.fuse_requests.specs.declared.request.Request.TheVariants.{Release, Statfs, Opendir, Readdir, Releasedir, Fsyncdir, Create, Destroy, Unknown}
use Rattle.fuse_requests.specs.declared.request.Request.TheVariants.{Mkdir, Mknod, Readlink, Rename, Rename2, Rmdir, Symlink, Unlink}
use Rattle.inode_spec.specs.Inodes.{lookups_of}
use Rattle.mount_rules.specs.Dispatch.{early, goes_on, is_among, is_full, is_idle, is_init, is_silent, mount_after, plan, claims}
use Rattle.mount_rules.specs.Dispatch.{reply_to, rules_of, served_opcodes, silent_opcodes, taken_at, unread, view_in, wants}
use Rattle.fuse_replies.specs.Errno.{einval, enomem, enosys, eproto}
use Rattle.mount_rules.specs.Laws.{AsksAtMost, ClaimsCover, ClaimsProtect, GivesLater, HarmlessWhileAsking, IsAnswerTo, IsCovered, IsOfFile, Keeps, LeavesOthers, MayReadWanted}
use Rattle.mount_rules.specs.Laws.{NeverOutOfMemory, Planned, StaysMount, WantsOfFiles, back_by, given, given_back, most_asked}
use Rattle.mount_rules.specs.Mount.{IsMount, MountModel}
use Rattle.mount_model.specs.Observing.{Observed}
use Rattle.mount_model.specs.declared.config.Config.{Config}
use Rattle.mount_rules.specs.Plans.{Allows, IsHarmless, Plan, Source, Step, Wanted, answers_of, done, may_read}
use Rattle.mount_rules.specs.Rules.{AtTake, Taken}
use Rattle.mount_laws.proofs.Asking.{asks_none}
use Rattle.mount_laws.proofs.Keeping.{no_Some}
use Rattle.mount_laws.proofs.Leaving.{Keeps-same}
use Rattle.mount_laws.proofs.Memory.{errors_differ, no_error}
use Rattle.mount_laws.proofs.Mounts.{GivesLater-same}
use Rattle.mount_laws.proofs.Requests.BatchForget.{batch_forget_sound}
use Rattle.mount_laws.proofs.Requests.Create.{create_sound}
use Rattle.mount_laws.proofs.Requests.Flush.{flush_sound}
use Rattle.mount_laws.proofs.Requests.Forget.{forget_sound}
use Rattle.mount_laws.proofs.Requests.Fsync.{fsync_sound}
use Rattle.mount_laws.proofs.Requests.Fsyncdir.{fsyncdir_sound}
use Rattle.mount_laws.proofs.Requests.Getattr.{getattr_sound}
use Rattle.mount_laws.proofs.Requests.Init.{init_sound}
use Rattle.mount_laws.proofs.Requests.Lookup.{lookup_sound}
use Rattle.mount_laws.proofs.Requests.Mkdir.{mkdir_sound}
use Rattle.mount_laws.proofs.Requests.Mknod.{mknod_sound}
use Rattle.mount_laws.proofs.Requests.Open.{open_sound}
use Rattle.mount_laws.proofs.Requests.Opendir.{opendir_sound}
use Rattle.mount_laws.proofs.Requests.Read.{read_sound}
use Rattle.mount_laws.proofs.Requests.Readdir.{readdir_sound}
use Rattle.mount_laws.proofs.Requests.Readlink.{readlink_sound}
use Rattle.mount_laws.proofs.Requests.Release.{release_sound}
use Rattle.mount_laws.proofs.Requests.Releasedir.{releasedir_sound}
use Rattle.mount_laws.proofs.Requests.Rename.{rename_sound}
use Rattle.mount_laws.proofs.Requests.Rename2.{rename2_sound}
use Rattle.mount_laws.proofs.Requests.Rmdir.{rmdir_sound}
use Rattle.mount_laws.proofs.Requests.Setattr.{setattr_sound}
use Rattle.mount_laws.proofs.Requests.Statfs.{destroy_sound, statfs_sound}
use Rattle.mount_laws.proofs.Requests.Symlink.{symlink_sound}
use Rattle.mount_laws.proofs.Requests.Unlink.{unlink_sound}
use Rattle.mount_laws.proofs.Requests.Unserved.{unserved_sound}
use Rattle.mount_laws.proofs.Requests.Write.{write_sound}
use Rattle.mount_laws.proofs.Sights.{view_stays}
use Rattle.mount_laws.proofs.Sound.{GoesOn, IsSound}
use Rattle.mount_laws.proofs.Sources.{NodesFrom, NodesFrom-same}
use Rattle.mount_laws.proofs.Telling.{TellsAlong}

unread-other : (opcode : ℕ) → unread opcode ≢ Some enomem
unread-other opcode = by (is_among silent_opcodes opcode) (is_among served_opcodes opcode)
  where
    by : (silent served : Bool) → (if silent then None else if served then Some einval else Some enosys) ≡ Some enomem → ⊥
    by true served e = cc
    by false true e = errors_differ (λ same. absurd (omega (arith, same))) e
    by false false e = errors_differ (λ same. absurd (omega (arith, same))) e

pub sound : (request : Request) → IsSound (rules_of request) (back_by request) (most_asked request)
sound (Lookup node name) = lookup_sound node name
sound (Forget node count) = forget_sound node count
sound (BatchForget pairs) = batch_forget_sound pairs.items
sound (Getattr node) = getattr_sound node
sound (Setattr node valid size mtime nanos) = setattr_sound node (record { valid = valid; size = size; seconds = mtime; nanos = nanos })
sound (Opening node flags) = open_sound node
sound (Read node fh first size) = read_sound node fh first size
sound (Write node fh first content) = write_sound node fh first content
sound (Flush node fh) = flush_sound node fh
sound (Fsync node fh) = fsync_sound node fh
sound (Release node fh) = release_sound node fh
sound Statfs = statfs_sound
sound (Init major minor readahead flags) = init_sound major minor readahead flags
sound (Opendir node) = opendir_sound node
sound (Readdir node fh first size) = readdir_sound node fh first size
sound (Releasedir node fh) = releasedir_sound node fh
sound (Fsyncdir node fh) = fsyncdir_sound node fh
sound (Create node name) = create_sound node name
sound Destroy = destroy_sound
sound (Readlink node) = readlink_sound node
sound (Symlink node name target) = symlink_sound node name target
sound (Mknod node mode name) = mknod_sound node mode name
sound (Mkdir node name) = mkdir_sound node name
sound (Unlink node name) = unlink_sound node name
sound (Rmdir node name) = rmdir_sound node name
sound (Rename node newdir name newname) = rename_sound node (record { name = name; newdir = newdir; newname = newname })
sound (Rename2 node newdir flags name newname) = rename2_sound node flags (record { name = name; newdir = newdir; newname = newname })
sound Interrupt = unserved_sound None no_error
sound (Unknown opcode) = unserved_sound (unread opcode) (unread-other opcode)

-- ---- the dispatcher
-- a request goes on where it has an effect and nothing refuses it
pub goes_by : (mount : MountModel) (request : Request) (idle : Bool) (errno : Option ℕ) → is_idle mount request ≡ idle → early mount request ≡ errno
    → goes_on mount request ≡ (not idle && not (is_some errno))
goes_by mount request idle errno i e = ap (λ b. not b && not (is_some (early mount request))) i ∙ ap (λ o. not idle && not (is_some o)) e

-- its own rules refuse nothing then
pub unrefused : (mount : MountModel) (request : Request) → goes_on mount request ≡ true → (rules_of request).refusal (view_in mount request) ≡ None
unrefused mount request on = inner (not mount.negotiated && not (is_silent request) && not (is_init request)) _ (none (is_idle mount request) (early mount request) on)
  where
    none : (idle : Bool) (errno : Option ℕ) → (not idle && not (is_some errno)) ≡ true → errno ≡ None
    none true errno e = absurd (false≢true e)
    none false None e = refl
    none false (Some errno) e = absurd (false≢true e)

    inner : (unheard : Bool) (refusal : Option ℕ) → (if unheard then Some eproto else refusal) ≡ None → refusal ≡ None
    inner true refusal e = absurd (let never : Some eproto ≡ None = e in cc)
    inner false refusal e = e

pub goes : (mount : MountModel) (request : Request) → IsMount mount → goes_on mount request ≡ true → GoesOn (rules_of request) mount
goes mount request is on = record { is = is; free = unrefused mount request on }

module _ (at : AtTake) (mount : MountModel) (request : Request) (seen : List Observed) (is : IsMount mount) where
  abbrev after : MountModel
  after = (rules_of request).after (taken_at at mount request) mount seen

  pub later : GivesLater mount (mount_after at mount request seen)
  later = by (goes_on mount request) refl
    where
      by : (on : Bool) → goes_on mount request ≡ on → GivesLater mount (if on then after else mount)
      by true e = (sound request).later at mount seen (goes mount request is e)
      by false e = GivesLater-same mount is

  pub leaves : Keeps (claims mount request) mount (mount_after at mount request seen)
  leaves = by (goes_on mount request) refl
    where
      by : (on : Bool) → goes_on mount request ≡ on → Keeps (if on then (rules_of request).claims (view_in mount request) else []) mount (if on then after else mount)
      by true e = (sound request).leaves at mount seen (goes mount request is e)
      by false e = Keeps-same [] mount

-- an agreement on a version stays
pub agreement_stays : (at : AtTake) (mount : MountModel) (request : Request) (seen : List Observed) → mount.negotiated ≡ true
    → (mount_after at mount request seen).negotiated ≡ true
agreement_stays at mount request seen agreed = by (goes_on mount request)
  where
    by : (on : Bool) → (if on then (rules_of request).after (taken_at at mount request) mount seen else mount).negotiated ≡ true
    by true = (sound request).agrees (taken_at at mount request) mount seen agreed
    by false = agreed

pub stays_mount : StaysMount
stays_mount at mount request seen is = (later at mount request seen is).is

pub leaves_others : LeavesOthers
leaves_others at mount request seen is = leaves at mount request seen is

-- the law of claims
pub claims_protect : ClaimsProtect
claims_protect mine at mount request other seen is asks apart = by (goes_on mount request) refl asks apart
  where
    by : (on : Bool) → goes_on mount request ≡ on
        → ((if on then (rules_of request).plan (taken_at mine mount request) else (λ answers. done)) [] ≢ done)
        → AreApart (if on then (rules_of request).claims (view_in mount request) else []) (claims mount other)
        → view_in (mount_after at mount other seen) request ≡ view_in mount request
    by true e asks apart =
        view_stays ((rules_of request).claims (view_in mount request)) (claims mount other) mount (mount_after at mount other seen) apart
        (leaves at mount other seen is) (rules_of request).looks
        ((sound request).sees mine mount (goes mount request is e) asks)
    by false e asks apart = absurd (asks refl)

pub claims_cover : ClaimsCover
claims_cover at mount request seen op allows = by (goes_on mount request) allows
  where
    by : (on : Bool) → Allows ((if on then (rules_of request).plan (taken_at at mount request) else (λ answers. done)) (answers_of seen)) op
        → IsCovered (if on then (rules_of request).claims (view_in mount request) else []) op
    by true allows = (sound request).covers (taken_at at mount request) (answers_of seen) op allows
    by false allows = absurd allows

pub harmless_while_asking : HarmlessWhileAsking
harmless_while_asking at mount request seen = by (goes_on mount request)
  where
    by : (on : Bool) → Planned (if on then (rules_of request).plan (taken_at at mount request) else (λ answers. done)) seen
        → AllByRecursion (λ (o : Observed). IsAnswerTo o.op o.answer) seen
        → ((if on then (rules_of request).plan (taken_at at mount request) else (λ answers. done)) (answers_of seen) ≢ done)
        → AllByRecursion (λ (o : Observed). IsHarmless o.op) seen
    by true planned fits asks = (sound request).harmless (taken_at at mount request) seen planned fits asks
    by false planned fits asks = absurd (asks refl)

pub asks_at_most : AsksAtMost
asks_at_most at mount request seen most is = by (goes_on mount request)
  where
    by : (on : Bool) → Planned (if on then (rules_of request).plan (taken_at at mount request) else (λ answers. done)) seen → length seen ≤ most
    by true planned = (sound request).bounded (taken_at at mount request) seen most is planned
    by false planned = let few : length seen ≤ 0 = asks_none (λ answers. done) refl seen planned in omega (arith, few)

-- ---- what is wanted of sources
-- a WRITE that is refused for want of blocks wants nothing
pub wanted_where : (full : Bool) (found : Option Wanted) (wanted : Wanted) → (if full then None else found) ≡ Some wanted → found ≡ Some wanted
wanted_where true found wanted e = absurd (no_Some e)
wanted_where false found wanted e = e

pub may_read_wanted : MayReadWanted
may_read_wanted config at mount request wanted = by (goes_on mount request)
  where
    by : (on : Bool) → (if on then (if is_full config mount request then None else (rules_of request).wants (view_in mount request)) else None) ≡ Some wanted
        → (source : Source) × (next : Step) × ((if on then (rules_of request).plan (taken_at at mount request) else (λ answers. done)) [] ≡ may_read source next)
    by true wants_it = (sound request).reads (taken_at at mount request) wanted (wanted_where (is_full config mount request) _ wanted wants_it)
    by false wants_it = absurd (no_Some wants_it)

pub wants_of_files : WantsOfFiles
wants_of_files config mount request wanted is = by (goes_on mount request)
  where
    by : (on : Bool) → (if on then (if is_full config mount request then None else (rules_of request).wants (view_in mount request)) else None) ≡ Some wanted → IsOfFile mount wanted
    by true wants_it = (sound request).of_files mount wanted is (wanted_where (is_full config mount request) _ wanted wants_it)
    by false wants_it = absurd (no_Some wants_it)

-- ---- where nodes come from
pub nodes_from : (Shown : List ℕ → ℕ → ℕ → Type 0) (at : AtTake) (mount : MountModel) (request : Request) (seen : List Observed) → IsMount mount
    → TellsAlong Shown (plan at mount request) seen → NodesFrom Shown mount.table (mount_after at mount request seen).table
nodes_from Shown at mount request seen is = by (goes_on mount request) refl
  where
    by : (on : Bool) → goes_on mount request ≡ on → TellsAlong Shown (if on then (rules_of request).plan (taken_at at mount request) else (λ answers. done)) seen
        → NodesFrom Shown mount.table (if on then (rules_of request).after (taken_at at mount request) mount seen else mount).table
    by true e tells = (sound request).nodes Shown at mount seen (goes mount request is e) tells
    by false e tells = NodesFrom-same Shown mount.table

-- ---- replies
-- no request that is performed to its end is answered ENOMEM
pub never_out_of_memory : NeverOutOfMemory
never_out_of_memory at mount request seen = by (is_idle mount request) (early mount request) refl
  where
    silent : Silent ≡ Error enomem → ⊥
    silent e = cc

    refused : (unheard : Bool) (errno : ℕ) → (if unheard then Some eproto else (rules_of request).refusal (view_in mount request)) ≡ Some errno → errno ≡ enomem → ⊥
    refused true errno e same = errors_differ (λ one. absurd (omega (arith, one))) (e ∙ ap Some same)
    refused false errno e same = (sound request).refuses (view_in mount request) (e ∙ ap Some same)

    by : (idle : Bool) (errno : Option ℕ) → early mount request ≡ errno
        → (if idle then Silent else option_map_or Error errno ((rules_of request).reply (taken_at at mount request) mount seen)) ≡ Error enomem → ⊥
    by true errno is e = silent e
    by false None is e = (sound request).answers (taken_at at mount request) mount seen e
    by false (Some errno) is e = refused (not mount.negotiated && not (is_silent request) && not (is_init request)) errno is (let one : errno ≡ enomem = cc in one)

-- ---- counts of look-ups
-- where a request goes on, the look-ups that it gives back are those of its rules
same_either : {X : Type 0} (b : Bool) (x : X) → (if b then x else x) ≡ x
same_either true x = refl
same_either false x = refl

-- a request that gets no reply goes on exactly where a version is agreed on
silent_goes : (agreed : Bool) → (not (not agreed) && not (is_some (if not agreed && not true && not false then Some eproto else None))) ≡ agreed
silent_goes true = refl
silent_goes false = refl

given_where : (agreed : Bool) (count other : ℕ) → agreed ≡ true → (if agreed then count else other) ≡ count
given_where true count other e = refl
given_where false count other e = absurd (false≢true e)

none_where : (agreed : Bool) (count other : ℕ) → agreed ≡ false → (if agreed then count else other) ≡ other
none_where true count other e = absurd (false≢true (sym e))
none_where false count other e = refl

back_on : (mount : MountModel) (request : Request) (number : ℕ) → goes_on mount request ≡ true → given_back mount request number ≡ back_by request number
back_on mount (Forget node count) number on = given_where mount.negotiated (back_by (Forget node count) number) 0 (sym (silent_goes mount.negotiated) ∙ on)
back_on mount (BatchForget pairs) number on = given_where mount.negotiated (back_by (BatchForget pairs) number) 0 (sym (silent_goes mount.negotiated) ∙ on)
back_on mount _ number on = same_either mount.negotiated 0

-- where it doesn't, there are none
back_off : (mount : MountModel) (request : Request) (number : ℕ) → goes_on mount request ≡ false → given_back mount request number ≡ 0
back_off mount (Forget node count) number off = none_where mount.negotiated (back_by (Forget node count) number) 0 (sym (silent_goes mount.negotiated) ∙ off)
back_off mount (BatchForget pairs) number off = none_where mount.negotiated (back_by (BatchForget pairs) number) 0 (sym (silent_goes mount.negotiated) ∙ off)
back_off mount _ number off = same_either mount.negotiated 0

pub counts : (at : AtTake) (mount : MountModel) (request : Request) (seen : List Observed) (number : ℕ) → IsMount mount → number ≢ 1
    → lookups_of (mount_after at mount request seen).table number
    ≡ (lookups_of mount.table number + given (reply_to at mount request seen) number) - given_back mount request number
counts at mount request seen number is other = by (is_idle mount request) (early mount request) refl refl
  where
    taken : Taken
    taken = taken_at at mount request

    stays : (reply : Reply) → given reply number ≡ 0 → given_back mount request number ≡ 0
        → lookups_of mount.table number ≡ (lookups_of mount.table number + given reply number) - given_back mount request number
    stays reply none kept = omega (arith, none, kept)

    by : (idle : Bool) (errno : Option ℕ) → is_idle mount request ≡ idle → early mount request ≡ errno
        → lookups_of (if not idle && not (is_some errno) then (rules_of request).after taken mount seen else mount).table number
        ≡ (lookups_of mount.table number + given (if idle then Silent else option_map_or Error errno ((rules_of request).reply taken mount seen)) number) - given_back mount request number
    by true errno i e = stays Silent refl (back_off mount request number (goes_by mount request true errno i e))
    by false (Some errno) i e = stays (Error errno) refl (back_off mount request number (goes_by mount request false (Some errno) i e))
    by false None i e =
        let on = goes_by mount request false None i e in
        let same = back_on mount request number on in
        let one = (sound request).counts at mount seen number other (goes mount request is on) in
        one ∙ ap (λ n. (lookups_of mount.table number + given ((rules_of request).reply taken mount seen) number) - n) (sym same)

-- a request that asks something, or wants a byte of a source, gives nothing back
abbrev quiet : Plan
quiet = λ answers. done

pub back_asks : (at : AtTake) (mount : MountModel) (request : Request) (number : ℕ) → plan at mount request [] ≢ done → given_back mount request number ≡ 0
back_asks at mount (Forget node count) number asks = absurd (asks (ap (λ (p : Plan). p []) (same_either (goes_on mount (Forget node count)) quiet)))
back_asks at mount (BatchForget pairs) number asks = absurd (asks (ap (λ (p : Plan). p []) (same_either (goes_on mount (BatchForget pairs)) quiet)))
back_asks at mount _ number asks = same_either mount.negotiated 0

pub back_wants : (config : Config) (mount : MountModel) (request : Request) (wanted : Wanted) (number : ℕ) → wants config mount request ≡ Some wanted
    → given_back mount request number ≡ 0
back_wants config mount (Forget node count) wanted number wants_it = absurd (no_Some (sym (same_either (goes_on mount (Forget node count)) None) ∙ wants_it))
back_wants config mount (BatchForget pairs) wanted number wants_it = absurd (no_Some (sym (same_either (goes_on mount (BatchForget pairs)) None) ∙ wants_it))
back_wants config mount _ wanted number wants_it = same_either mount.negotiated 0
