-- The rules of OPENDIR are sound.
use Rattle.std.proofs.Common.{◌≡◌, ◌+◌, ◌-◌, ℕ, true, List, [], ◌∷◌, Option, Some, None, refl, sym, subst, arith, inl}
use Rattle.std.specs.Option.{option_map_or}
use Rattle.bucket_api.specs.declared.answers.Answer.{Answer}
use Rattle.bucket_api.specs.declared.answers.Answer.TheVariants as answers
use Rattle.bucket_api.specs.Operation.{Operation}
use Rattle.claim_spec.specs.declared.claim.Claim.{Claim}
use Rattle.fuse_replies.specs.declared.reply.Reply.TheVariants.{Error}
use Rattle.inode_spec.specs.Inodes.{lookups_of}
use Rattle.object_names.specs.declared.shown.DirItem.{DirItem}
use Rattle.mount_rules.specs.Claiming.{shares_node}
use Rattle.fuse_replies.specs.Errno.{eio, enomem}
use Rattle.mount_rules.specs.Laws.{GivesLater, IsCovered, Keeps, given}
use Rattle.mount_rules.specs.Mount.{IsMount, MountModel}
use Rattle.mount_rules.specs.Plans.{Allows, IsHarmless, done}
use Rattle.mount_rules.specs.Requests.Opendir as opendir
use Rattle.mount_rules.specs.View.{Sight}
use Rattle.mount_laws.proofs.Guarding.{in_directory-memory, in_directory-none}
use Rattle.mount_laws.proofs.Asking.{harmless_all}
use Rattle.mount_laws.proofs.Keeping.{TableKeeps-same, no_Some}
use Rattle.mount_laws.proofs.Leaving.{Keeps-opened, Keeps-same}
use Rattle.mount_laws.proofs.Memory.{no_error}
use Rattle.mount_laws.proofs.Mounts.{GivesLater-opened, GivesLater-same}
use Rattle.mount_laws.proofs.Sights.{LooksClaimed-node}
use Rattle.mount_laws.proofs.Sound.{IsSound}
use Rattle.mount_laws.proofs.Sources.{NodesFrom, NodesFrom-same}

-- every operation is a list
covers : (prefix : List ℕ) (max : ℕ) (after : Option (List ℕ)) (told : List Answer) (claimed : List Claim) (op : Operation)
    → Allows (opendir.plan prefix max after told) op → IsCovered claimed op
covers prefix max after [] claimed op allows = subst (IsCovered claimed) (sym allows) tt
covers prefix max after (answers.Page page ∷ more) claimed op allows = by (λ key. covers prefix max (Some key) more claimed op) page.next allows
  where
    by : ((key : List ℕ) → Allows (opendir.plan prefix max (Some key) more) op → IsCovered claimed op)
        → (next : Option (List ℕ)) → Allows (option_map_or (λ key. opendir.plan prefix max (Some key) more) next done) op → IsCovered claimed op
    by further None allows = absurd allows
    by further (Some key) allows = further key allows
covers prefix max after (answers.Meta meta ∷ more) claimed op allows = absurd allows
covers prefix max after (answers.Bytes bytes ∷ more) claimed op allows = absurd allows
covers prefix max after (answers.Done ∷ more) claimed op allows = absurd allows
covers prefix max after (answers.NotFound ∷ more) claimed op allows = absurd allows
covers prefix max after (answers.Precondition generation metageneration ∷ more) claimed op allows = absurd allows
covers prefix max after (answers.Fault ∷ more) claimed op allows = absurd allows

pub asks_lists : (prefix : List ℕ) (max : ℕ) (after : Option (List ℕ)) (told : List Answer) (op : Operation) → Allows (opendir.plan prefix max after told) op → IsHarmless op
asks_lists prefix max after [] op allows = subst IsHarmless (sym allows) tt
asks_lists prefix max after (answers.Page page ∷ more) op allows = by (λ key. asks_lists prefix max (Some key) more op) page.next allows
  where
    by : ((key : List ℕ) → Allows (opendir.plan prefix max (Some key) more) op → IsHarmless op)
        → (next : Option (List ℕ)) → Allows (option_map_or (λ key. opendir.plan prefix max (Some key) more) next done) op → IsHarmless op
    by further None allows = absurd allows
    by further (Some key) allows = further key allows
asks_lists prefix max after (answers.Meta meta ∷ more) op allows = absurd allows
asks_lists prefix max after (answers.Bytes bytes ∷ more) op allows = absurd allows
asks_lists prefix max after (answers.Done ∷ more) op allows = absurd allows
asks_lists prefix max after (answers.NotFound ∷ more) op allows = absurd allows
asks_lists prefix max after (answers.Precondition generation metageneration ∷ more) op allows = absurd allows
asks_lists prefix max after (answers.Fault ∷ more) op allows = absurd allows

module _ (mount : MountModel) (is : IsMount mount) (node : ℕ) where
  later : (items : Option (List DirItem)) → GivesLater mount (opendir.mount_after node mount items)
  later None = GivesLater-same mount is
  later (Some items) = GivesLater-opened mount is (record { node = node; items = Some items })

  leaves : (claimed : List Claim) (items : Option (List DirItem)) → Keeps claimed mount (opendir.mount_after node mount items)
  leaves claimed None = Keeps-same claimed mount
  leaves claimed (Some items) = Keeps-opened claimed mount is mount.table (TableKeeps-same claimed mount.table) (record { node = node; items = Some items })

  nodes : (Shown : List ℕ → ℕ → ℕ → Type 0) (items : Option (List DirItem)) → NodesFrom Shown mount.table (opendir.mount_after node mount items).table
  nodes Shown None = NodesFrom-same Shown mount.table
  nodes Shown (Some items) = NodesFrom-same Shown mount.table

  counts : (number : ℕ) (items : Option (List DirItem))
      → lookups_of (opendir.mount_after node mount items).table number ≡ (lookups_of mount.table number + given (opendir.reply_to mount items) number) - 0
  counts number None = omega arith
  counts number (Some items) = omega arith

keeps_staged : (node : ℕ) (mount : MountModel) (items : Option (List DirItem)) → (opendir.mount_after node mount items).staged ≡ mount.staged
keeps_staged node mount None = refl
keeps_staged node mount (Some items) = refl

agrees : (node : ℕ) (mount : MountModel) → mount.negotiated ≡ true → (items : Option (List DirItem)) → (opendir.mount_after node mount items).negotiated ≡ true
agrees node mount agreed None = agreed
agrees node mount agreed (Some items) = agreed

reply_answers : (mount : MountModel) (items : Option (List DirItem)) → opendir.reply_to mount items ≡ Error enomem → ⊥
reply_answers mount None e = let same : eio ≡ enomem = cc in absurd (omega (arith, same))
reply_answers mount (Some items) e = cc

pub opendir_sound : (node : ℕ) → IsSound (opendir.rules node) (λ number. 0) None
opendir_sound node = record {
  later = λ at mount seen goes. later mount goes.is node _;
  leaves = λ at mount seen goes. leaves mount goes.is node _ _;
  sees = λ at mount goes asks. let d = in_directory-none _ (λ (sight : Sight). None) goes.free in LooksClaimed-node _ mount node d.sight d.is (inl refl);
  covers = λ taken told op allows. covers (opendir.prefix_of taken.view) taken.at.config.list_page None told (shares_node node ∷ []) op allows;
  harmless = λ taken seen planned fits asks. harmless_all _ (asks_lists (opendir.prefix_of taken.view) taken.at.config.list_page None) seen planned;
  bounded = λ taken seen n is planned. absurd (no_Some is);
  reads = λ taken wanted wants_it. absurd (no_Some wants_it);
  of_files = λ mount wanted is wants_it. absurd (no_Some wants_it);
  agrees = λ taken mount seen agreed. agrees node mount agreed _;
  refuses = λ view. in_directory-memory view.node (λ sight. None) (λ sight. no_error);
  keeps_staged = λ at mount seen errno free error. keeps_staged node mount _;
  answers = λ taken mount seen. reply_answers mount _;
  counts = λ at mount seen number other goes. counts mount goes.is node number _;
  nodes = λ Shown at mount seen goes tells. nodes mount goes.is node Shown _;
}
