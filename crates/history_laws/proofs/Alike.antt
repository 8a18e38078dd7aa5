-- Two mounts that are the same but for the moments that are kept of nodes: they see the same, ask the same and come to the
-- same.
use Rattle.std.proofs.Common.{◌≡◌, ℕ, Bool, true, false, List, Option, None, Some, refl, sym, ap, subst, ◌∙◌}
use Rattle.std.proofs.lemmas.Bool.{false≢true}
use Rattle.std.specs.FinMap as fin
use Rattle.std.specs.Option.{option_map, option_map_or}
use Rattle.std.specs.Prelude.{if◌then◌else◌, not, ◌&&◌, is_some}
use Rattle.fuse_replies.specs.Errno.{eproto}
use Rattle.fuse_replies.specs.declared.reply.Reply.{Reply}
use Rattle.fuse_replies.specs.declared.reply.Reply.TheVariants.{Error, Silent}
use Rattle.fuse_requests.specs.declared.request.Request.{Request}
use Rattle.fuse_requests.specs.declared.request.Request.TheVariants.{Write}
use Rattle.bucket_api.specs.declared.answers.Answer.{Answer}
use Rattle.history_laws.proofs.Bare.{IsWithin, bare_node, current_same, found_bare}
use Rattle.history_laws.proofs.BareEnds.{EndsBare, IsLate, bare_after, bare_reply}
use Rattle.history_laws.proofs.BareRequests.{ends_bare}
use Rattle.history_laws.proofs.BareMounts.{IsBareMount, agreed_same, bare_mount_later, staged_same, view_same}
use Rattle.history_laws.proofs.ShownAgain.{AreNamed}
use Rattle.inode_spec.specs.Inodes.{Names}
use Rattle.mount_laws.proofs.Keeping.{no_Some, same_Some}
use Rattle.mount_model.specs.Observing.{Observed}
use Rattle.mount_model.specs.declared.config.Config.{Config}
use Rattle.mount_rules.specs.Dispatch.{early, goes_on, is_full, is_idle, is_init, is_silent, mount_after, plan, reply_to, rules_of, taken_at, view_in, wants}
use Rattle.mount_rules.specs.Mount.{MountModel, Node}
use Rattle.mount_rules.specs.Plans.{answers_of, done, last_moment}
use Rattle.mount_rules.specs.Requests.Write as write
use Rattle.mount_rules.specs.Rules.{AtTake, Taken}
use Rattle.mount_rules.specs.View.{View}
use Rattle.staging_spec.specs.StagedFiles.{StagedFiles}

-- This is known of the moments that the one keeps, and that of those that the other keeps.
pub record Alike (Known Other : List ℕ → ℕ → ℕ → Type 0) (one other : MountModel) : Type 0 where
  pub bare : MountModel
  pub one_is : IsBareMount Known one bare
  pub other_is : IsBareMount Other other bare

pub alike_later : (Known Other Then After : List ℕ → ℕ → ℕ → Type 0) (one other : MountModel) → IsWithin Known Then → IsWithin Other After → Alike Known Other one other → Alike Then After one other
alike_later Known Other Then After one other first second alike = record {
  bare = alike.bare;
  one_is = bare_mount_later Known Then first one alike.bare alike.one_is;
  other_is = bare_mount_later Other After second other alike.bare alike.other_is;
}

-- current nodes have their names in the one as in the other
named_bare : (Known : List ℕ → ℕ → ℕ → Type 0) (mount bare : MountModel) → IsBareMount Known mount bare → AreNamed mount.table → AreNamed bare.table
named_bare Known mount bare so named name number node current = by (fin.get mount.table.nodes number) refl (sym (found_bare Known mount.table bare.table so.table number) ∙ current.1)
  where
    by : (found : Option Node) → fin.get mount.table.nodes number ≡ found → option_map bare_node found ≡ Some node → node.name ≡ name
    by None there is = absurd (no_Some is)
    by (Some n) there is = ap (λ (x : Node). x.name) (sym (same_Some is))
        ∙ named name number n (ap (λ (c : Names). fin.get c name) (current_same Known mount.table bare.table so.table) ∙ current.0, there)

bare_named : (Known : List ℕ → ℕ → ℕ → Type 0) (mount bare : MountModel) → IsBareMount Known mount bare → AreNamed bare.table → AreNamed mount.table
bare_named Known mount bare so named name number node current =
    named name number (bare_node node) (
      sym (ap (λ (c : Names). fin.get c name) (current_same Known mount.table bare.table so.table)) ∙ current.0,
      found_bare Known mount.table bare.table so.table number ∙ ap (option_map bare_node) current.1,
    )

-- these answers tell a request the same as those
pub record ToldAlike (request : Request) (seen told : List Answer) : Type 0 where
  pub reply : (taken : Taken) (bare : MountModel) → bare_reply request taken bare seen ≡ bare_reply request taken bare told
  pub after : (taken : Taken) (bare : MountModel) → bare_after request taken bare seen ≡ bare_after request taken bare told

pub told_equal : (request : Request) (seen told : List Answer) → seen ≡ told → ToldAlike request seen told
told_equal request seen told same = record { reply = λ taken bare. ap (bare_reply request taken bare) same; after = λ taken bare. ap (bare_after request taken bare) same }

pub told_then : (request : Request) (first second third : List Answer) → ToldAlike request first second → ToldAlike request second third → ToldAlike request first third
told_then request first second third one other = record {
  reply = λ taken bare. one.reply taken bare ∙ other.reply taken bare;
  after = λ taken bare. one.after taken bare ∙ other.after taken bare;
}

-- ---- what a request goes by, beside what it sees
abbrev early_by : Request → Bool → View → Option ℕ
early_by request agreed view = if not agreed && not (is_silent request) && not (is_init request) then Some eproto else (rules_of request).refusal view

abbrev goes_by : Request → Bool → View → Bool
goes_by request agreed view = not (is_silent request && not agreed) && not (is_some (early_by request agreed view))

abbrev full_by : Config → Request → StagedFiles → View → Bool
full_by config (Write node fh first content) staged view = write.is_full config staged first content view
full_by config request staged view = false

module _ (Known Other : List ℕ → ℕ → ℕ → Type 0) (one other : MountModel) (alike : Alike Known Other one other) (request : Request) where
  pub sees_alike : view_in one request ≡ view_in other request
  sees_alike = sym (view_same Known one alike.bare alike.one_is (rules_of request).looks) ∙ view_same Other other alike.bare alike.other_is (rules_of request).looks

  agreed_alike : one.negotiated ≡ other.negotiated
  agreed_alike = agreed_same Known one alike.bare alike.one_is ∙ sym (agreed_same Other other alike.bare alike.other_is)

  staged_alike : one.staged ≡ other.staged
  staged_alike = staged_same Known one alike.bare alike.one_is ∙ sym (staged_same Other other alike.bare alike.other_is)

  idle_alike : is_idle one request ≡ is_idle other request
  idle_alike = ap (λ agreed. is_silent request && not agreed) agreed_alike

  early_alike : early one request ≡ early other request
  early_alike = ap (λ agreed. early_by request agreed (view_in one request)) agreed_alike ∙ ap (early_by request other.negotiated) sees_alike

  goes_alike : goes_on one request ≡ goes_on other request
  goes_alike = ap (λ agreed. goes_by request agreed (view_in one request)) agreed_alike ∙ ap (goes_by request other.negotiated) sees_alike

  pub plan_alike : (at : AtTake) → plan at one request ≡ plan at other request
  plan_alike at =
      ap (λ (on : Bool). if on then (rules_of request).plan (taken_at at one request) else (λ (answers : List Answer). done)) goes_alike
      ∙ ap (λ view. if goes_on other request then (rules_of request).plan (record { at = at; view = view }) else (λ (answers : List Answer). done)) sees_alike

  full_alike : (config : Config) → is_full config one request ≡ is_full config other request
  full_alike config = is_by request one ∙ ap (λ staged. full_by config request staged (view_in one request)) staged_alike
      ∙ ap (full_by config request other.staged) sees_alike ∙ sym (is_by request other)
    where
      is_by : (r : Request) (mount : MountModel) → is_full config mount r ≡ full_by config r mount.staged (view_in mount r)
      is_by (Write node fh first content) mount = refl
      is_by _ mount = refl

  pub wants_alike : (config : Config) → wants config one request ≡ wants config other request
  wants_alike config =
      ap (λ (on : Bool). if on then (if is_full config one request then None else (rules_of request).wants (view_in one request)) else None) goes_alike
      ∙ ap (λ (full : Bool). if goes_on other request then (if full then None else (rules_of request).wants (view_in one request)) else None) (full_alike config)
      ∙ ap (λ view. if goes_on other request then (if is_full config other request then None else (rules_of request).wants view) else None) sees_alike

  -- ---- what it comes to
  -- both lists of answers tell the request the same, but for the moment
  module _ (at : AtTake) (seen told : List Observed) (same : ToldAlike request (answers_of seen) (answers_of told)) (Then After : List ℕ → ℕ → ℕ → Type 0)
      (first : IsWithin Known Then) (second : IsWithin Other After) (named : AreNamed one.table) (late : IsLate Known Then (last_moment seen) (taken_at at one request) one request (answers_of seen))
      (late_too : IsLate Other After (last_moment told) (taken_at at other request) other request (answers_of told)) where
    one_ends : EndsBare Then ((rules_of request).reply (taken_at at one request) one seen) (bare_reply request (taken_at at one request) alike.bare (answers_of seen))
        ((rules_of request).after (taken_at at one request) one seen) (bare_after request (taken_at at one request) alike.bare (answers_of seen))
    one_ends = ends_bare (taken_at at one request) Known Then first one alike.bare alike.one_is named seen request late

    other_ends : EndsBare After ((rules_of request).reply (taken_at at other request) other told) (bare_reply request (taken_at at one request) alike.bare (answers_of seen))
        ((rules_of request).after (taken_at at other request) other told) (bare_after request (taken_at at one request) alike.bare (answers_of seen))
    other_ends = subst (λ view. EndsBare After ((rules_of request).reply (taken_at at other request) other told) (bare_reply request (record { at = at; view = view }) alike.bare (answers_of seen))
        ((rules_of request).after (taken_at at other request) other told) (bare_after request (record { at = at; view = view }) alike.bare (answers_of seen))) (sym sees_alike)
        (as_seen (ends_bare (taken_at at other request) Other After second other alike.bare alike.other_is
        (bare_named Other other alike.bare alike.other_is (named_bare Known one alike.bare alike.one_is named)) told request late_too))
      where
        as_seen : {answer : Reply} {mount : MountModel} → EndsBare After answer (bare_reply request (taken_at at other request) alike.bare (answers_of told))
            mount (bare_after request (taken_at at other request) alike.bare (answers_of told))
            → EndsBare After answer (bare_reply request (taken_at at other request) alike.bare (answers_of seen)) mount (bare_after request (taken_at at other request) alike.bare (answers_of seen))
        as_seen {answer} {mount} ends = record {
          reply = ends.reply ∙ sym (same.reply (taken_at at other request) alike.bare);
          after = subst (IsBareMount After mount) (sym (same.after (taken_at at other request) alike.bare)) ends.after;
        }

    pub reply_alike : reply_to at one request seen ≡ reply_to at other request told
    reply_alike =
        ap (λ (idle : Bool). if idle then Silent else option_map_or Error (early one request) ((rules_of request).reply (taken_at at one request) one seen)) idle_alike
        ∙ ap (λ (errno : Option ℕ). if is_idle other request then Silent else option_map_or Error errno ((rules_of request).reply (taken_at at one request) one seen)) early_alike
        ∙ ap (λ (reply : Reply). if is_idle other request then Silent else option_map_or Error (early other request) reply) (one_ends.reply ∙ sym other_ends.reply)

    pub after_alike : Alike Then After (mount_after at one request seen) (mount_after at other request told)
    after_alike = subst (λ (on : Bool). Alike Then After (mount_after at one request seen) (if on then (rules_of request).after (taken_at at other request) other told else other)) goes_alike
        (by (goes_on one request))
      where
        by : (on : Bool) → Alike Then After (if on then (rules_of request).after (taken_at at one request) one seen else one)
            (if on then (rules_of request).after (taken_at at other request) other told else other)
        by true = record { bare = bare_after request (taken_at at one request) alike.bare (answers_of seen); one_is = one_ends.after; other_is = other_ends.after }
        by false = alike_later Known Other Then After one other first second alike

  -- a request that nothing refuses, and that ends with an error and leaves the mount, by what it was told
  module _ (goes : goes_on one request ≡ true) (at : AtTake) (seen : List Observed) (Then : List ℕ → ℕ → ℕ → Type 0) (first : IsWithin Known Then) (named : AreNamed one.table)
      (late : IsLate Known Then (last_moment seen) (taken_at at one request) one request (answers_of seen)) where
    ends : EndsBare Then ((rules_of request).reply (taken_at at one request) one seen) (bare_reply request (taken_at at one request) alike.bare (answers_of seen))
        ((rules_of request).after (taken_at at one request) one seen) (bare_after request (taken_at at one request) alike.bare (answers_of seen))
    ends = ends_bare (taken_at at one request) Known Then first one alike.bare alike.one_is named seen request late

    pub failed_reply : (errno : ℕ) → bare_reply request (taken_at at one request) alike.bare (answers_of seen) ≡ Error errno → reply_to at one request seen ≡ Error errno
    failed_reply errno told = by (is_idle one request) (early one request) goes
      where
        by : (idle : Bool) (refused : Option ℕ) → (not idle && not (is_some refused)) ≡ true
            → (if idle then Silent else option_map_or Error refused ((rules_of request).reply (taken_at at one request) one seen)) ≡ Error errno
        by true refused e = absurd (false≢true e)
        by false (Some n) e = absurd (false≢true e)
        by false None e = ends.reply ∙ told

    pub failed_after : bare_after request (taken_at at one request) alike.bare (answers_of seen) ≡ alike.bare → Alike Then Other (mount_after at one request seen) other
    failed_after left = record {
      bare = alike.bare;
      one_is = subst (λ (on : Bool). IsBareMount Then (if on then (rules_of request).after (taken_at at one request) one seen else one) alike.bare) (sym goes)
          (subst (IsBareMount Then ((rules_of request).after (taken_at at one request) one seen)) left ends.after);
      other_is = alike.other_is;
    }
