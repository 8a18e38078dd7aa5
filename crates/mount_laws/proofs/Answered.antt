-- Each request looks at its answers and the last moment alone.
use Rattle.std.proofs.Common.{◌≡◌, List, refl, ap}
use Rattle.std.specs.Prelude.{if◌then◌else◌}
use Rattle.std.specs.Option.{option_map_or}
use Rattle.fuse_replies.specs.declared.reply.Reply.{Reply}
use Rattle.fuse_replies.specs.declared.reply.Reply.TheVariants.{Error, Silent}
use Rattle.fuse_requests.specs.declared.request.Request.{Request}
use Rattle.fuse_requests.specs.declared.request.Request.TheVariants.{Create, Flush, Fsync, Getattr, Lookup, Mkdir, Mknod, Opendir, Opening, Read, Rename, Rename2, Rmdir, Setattr, Symlink, Unlink, Write}
use Rattle.mount_laws.specs.Observations.{AnswersTell, TellSame}
use Rattle.mount_model.specs.Observing.{Observed}
use Rattle.mount_rules.specs.Dispatch.{early, goes_on, is_idle, rules_of, taken_at}
use Rattle.mount_rules.specs.Mount.{MountModel}
use Rattle.mount_rules.specs.Rules.{Rules, Taken}

-- what its rules say is the same, whichever was observed
pub record RulesTell (rules : Rules) (seen other : List Observed) : Type 0 where
  pub reply : (taken : Taken) (mount : MountModel) → rules.reply taken mount seen ≡ rules.reply taken mount other
  pub after : (taken : Taken) (mount : MountModel) → rules.after taken mount seen ≡ rules.after taken mount other

module _ (seen other : List Observed) (same : TellSame seen other) where
  rules_tell : (request : Request) → RulesTell (rules_of request) seen other
  rules_tell (Lookup node name) = record { reply = λ taken mount. rw (same.answers, same.moment) refl; after = λ taken mount. rw (same.answers, same.moment) refl }
  rules_tell (Create node name) = record { reply = λ taken mount. rw (same.answers, same.moment) refl; after = λ taken mount. rw (same.answers, same.moment) refl }
  rules_tell (Mknod node mode name) = record { reply = λ taken mount. rw (same.answers, same.moment) refl; after = λ taken mount. rw (same.answers, same.moment) refl }
  rules_tell (Symlink node name target) = record { reply = λ taken mount. rw (same.answers, same.moment) refl; after = λ taken mount. rw (same.answers, same.moment) refl }
  rules_tell (Getattr node) = record { reply = λ taken mount. rw (same.answers, same.moment) refl; after = λ taken mount. rw (same.answers, same.moment) refl }
  rules_tell (Setattr node valid size mtime nanos) = record { reply = λ taken mount. rw (same.answers, same.moment) refl; after = λ taken mount. rw (same.answers, same.moment) refl }
  rules_tell (Opening node flags) = record { reply = λ taken mount. rw same.answers refl; after = λ taken mount. rw (same.answers, same.moment) refl }
  rules_tell (Flush node fh) = record { reply = λ taken mount. rw same.answers refl; after = λ taken mount. rw (same.answers, same.moment) refl }
  rules_tell (Fsync node fh) = record { reply = λ taken mount. rw same.answers refl; after = λ taken mount. rw (same.answers, same.moment) refl }
  rules_tell (Mkdir node name) = record { reply = λ taken mount. rw same.answers refl; after = λ taken mount. rw same.answers refl }
  rules_tell (Unlink node name) = record { reply = λ taken mount. rw same.answers refl; after = λ taken mount. rw same.answers refl }
  rules_tell (Rmdir node name) = record { reply = λ taken mount. rw same.answers refl; after = λ taken mount. rw same.answers refl }
  rules_tell (Rename node newdir name newname) = record { reply = λ taken mount. rw same.answers refl; after = λ taken mount. rw same.answers refl }
  rules_tell (Rename2 node newdir flags name newname) = record { reply = λ taken mount. rw same.answers refl; after = λ taken mount. rw same.answers refl }
  rules_tell (Opendir node) = record { reply = λ taken mount. rw same.answers refl; after = λ taken mount. rw same.answers refl }
  rules_tell (Write node fh first content) = record { reply = λ taken mount. rw same.answers refl; after = λ taken mount. rw same.answers refl }
  rules_tell (Read node fh first size) = record { reply = λ taken mount. rw same.answers refl; after = λ taken mount. refl }
  rules_tell _ = record { reply = λ taken mount. refl; after = λ taken mount. refl }

pub answers_tell : AnswersTell
answers_tell at mount request seen other same =
    let rules = rules_tell seen other same request in
    record {
      reply = ap (λ (r : Reply). if is_idle mount request then Silent else option_map_or Error (early mount request) r) (rules.reply (taken_at at mount request) mount);
      after = ap (λ (m : MountModel). if goes_on mount request then m else mount) (rules.after (taken_at at mount request) mount);
    }
