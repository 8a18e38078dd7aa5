-- The steps of plans that look names up: a stat of an object's name, and the probe of a directory's.
use Rattle.std.proofs.Common.{◌≡◌, ◌≢◌, ◌≤◌, ℕ, Bool, true, false, ◌&&◌, All, List, [], ◌∷◌, ◌++◌, length, Option, Some, None, refl, sym, ap, subst, ◌∙◌, inl, inr, arith, eqb-true}
use Rattle.std.proofs.lemmas.List.{length-append}
use Rattle.std.proofs.lemmas.List.Elements.{All-head, All-tail}
use Rattle.std.specs.FinMap as fin
use Rattle.std.specs.Option.{option_map_or}
use Rattle.std.specs.Prelude.{if◌then◌else◌, ◌==◌, option_and_then, option_map}
use Rattle.bucket_api.specs.Listing.{ends_in_slash}
use Rattle.bucket_api.specs.Operation.{Operation, copy, delete, insert, list, read, stat, update}
use Rattle.bucket_api.specs.declared.answers.Answer.{Answer}
use Rattle.bucket_api.specs.declared.answers.Answer.TheVariants as answers
use Rattle.bucket_api.specs.declared.objects.Pair.{Pair}
use Rattle.bucket_list.proofs.Texts.{ends_at}
use Rattle.fuse_requests.specs.declared.request.Request.TheVariants.{Symlink}
use Rattle.history_spec.specs.Looks.{IsLook}
use Rattle.mount_rules.specs.Guards.{is_directory}
use Rattle.mount_rules.specs.Making as making
use Rattle.mount_rules.specs.Mount.{IsMount, IsNameOf, MountModel, Node}
use Rattle.mount_rules.specs.Plans.{Allows, IsReadOf, Source, Step, ask, done, may_read}
use Rattle.mount_rules.specs.Reading as reading
use Rattle.mount_rules.specs.Requests.Flush as flush
use Rattle.mount_rules.specs.Requests.Lookup as lookup
use Rattle.mount_rules.specs.Requests.Opendir as opendir
use Rattle.mount_rules.specs.Requests.Rename as rename
use Rattle.mount_rules.specs.Requests.Rmdir as rmdir
use Rattle.mount_rules.specs.Requests.Setattr as setattr
use Rattle.mount_rules.specs.Requests.Unlink as unlink
use Rattle.mount_rules.specs.Standing as standing
use Rattle.mount_rules.specs.View.{Sight, sight_at, sight_of}
use Rattle.object_names.specs.Components.{IsComponent}
use Rattle.object_names.specs.Paths.{IsPath, dir_prefix_of}
use Rattle.object_names.specs.declared.shown.NodeKind.{NodeKind}
use Rattle.object_names.specs.declared.shown.NodeKind.TheVariants.{Dir, File, Symlink}
use Rattle.staging_spec.specs.StagedFiles.{StagedContent}
use Rattle.thrift_spec.specs.Recalls.{IsLookOfKey}

-- ---- names of objects
-- the name has a last byte, which is no slash
pub record NamesObject (name : List ℕ) : Type 0 where
  pub some : 1 ≤ length name
  pub ends : ends_in_slash name ≡ false

ends_behind : (first part : List ℕ) → 1 ≤ length part → ends_in_slash (first ++ part) ≡ ends_in_slash part
ends_behind [] part some = refl
ends_behind (a ∷ first) [] some = absurd (omega (arith, some))
ends_behind (a ∷ []) (b ∷ part) some = refl
ends_behind (a ∷ c ∷ first) (b ∷ part) some = ends_behind (c ∷ first) (b ∷ part) some

no_slash_ends : (part : List ℕ) → All (λ byte. byte ≢ 47) part → ends_in_slash part ≡ false
no_slash_ends [] none = refl
no_slash_ends (b ∷ []) none = by (b == 47) refl
  where
    by : (is : Bool) → (b == 47) ≡ is → is ≡ false
    by false e = refl
    by true e = let same : b ≡ 47 = eqb-true b 47 e in absurd (All-head (λ byte. byte ≢ 47) b [] none same)
no_slash_ends (b ∷ c ∷ part) none = no_slash_ends (c ∷ part) (All-tail (λ byte. byte ≢ 47) b (c ∷ part) none)

pub names_child : (first part : List ℕ) → IsComponent part → NamesObject (first ++ part)
names_child first part is = record {
  some = let named : 1 ≤ length part = is.named in omega (arith, named, length-append first part);
  ends = ends_behind first part is.named ∙ no_slash_ends part is.no_slash;
}

pub names_path : (path : List ℕ) → IsPath path → NamesObject path
names_path path is = subst NamesObject (sym is.is) (names_child is.prefix is.part is.child)

-- ---- the looks at an object's name
module _ (implicit : Bool) where
  stat_is : (path : List ℕ) → NamesObject path → IsLookOfKey implicit (stat path)
  stat_is path named look = sym (ap (λ b. if implicit && b then list path false 1 None else stat path) named.ends ∙ by implicit)
    where
      by : (b : Bool) → (if b && false then list path false 1 None else stat path) ≡ stat path
      by true = refl
      by false = refl

  pub dir_ends : (path : List ℕ) → 1 ≤ length path → ends_in_slash (dir_prefix_of path) ≡ true
  dir_ends [] some = absurd (omega (arith, some))
  dir_ends (b ∷ path) some = ends_at (b ∷ path)

  probe_is : (path : List ℕ) → NamesObject path → IsLookOfKey implicit (lookup.probe implicit path)
  probe_is path named = by implicit
    where
      by : (b : Bool) → IsLookOfKey b (lookup.probe b path)
      by true look = sym (ap (λ e. if e then list (dir_prefix_of path) false 1 None else stat (dir_prefix_of path)) (dir_ends path named.some))
      by false look = refl

  -- ---- the steps of plans
  abbrev pub KeyLooks : Step → Type 0
  KeyLooks step = (op : Operation) → Allows step op → IsLookOfKey implicit op

  pub done_looks : KeyLooks done
  done_looks op allowed = absurd allowed

  asks : (asked : Operation) → IsLookOfKey implicit asked → KeyLooks (ask asked)
  asks asked is op allowed = subst (IsLookOfKey implicit) (sym allowed) is

  no_read : (source : Source) (op : Operation) → IsReadOf source op → IsLook op → ⊥
  no_read source (read name generation first count) reads look = look
  no_read source (stat name) reads look = reads
  no_read source (insert name content pairs only stamp) reads look = reads
  no_read source (update name pairs only only_meta stamp) reads look = reads
  no_read source (delete name only) reads look = reads
  no_read source (copy from generation to stamp) reads look = reads
  no_read source (list prefix slash max after) reads look = reads

  reads_then : (source : Source) (next : Step) → KeyLooks next → KeyLooks (may_read source next)
  reads_then source next is op (inl reads) look = absurd (no_read source op reads look)
  reads_then source next is op (inr allowed) look = is op allowed look

  pub either : (b : Bool) (one other : Step) → KeyLooks one → KeyLooks other → KeyLooks (if b then one else other)
  either true one other first second = first
  either false one other first second = second

  pub for_found : {X : Type 0} (f : X → Step) (found : Option X) → ((x : X) → KeyLooks (f x)) → KeyLooks (option_map_or f found done)
  for_found f None each = done_looks
  for_found f (Some x) each = each x

  pub making_looks : (name : List ℕ) (pairs : List Pair) (second : ℕ) (told : List Answer) → KeyLooks (making.plan name pairs second told)
  making_looks name pairs second [] = asks _ (λ look. absurd look)
  making_looks name pairs second (a ∷ more) = done_looks

  after_probe_looks : (path : List ℕ) → NamesObject path → (suffixed : Bool) (found : lookup.Probed) → KeyLooks (lookup.after_probe path suffixed found)
  after_probe_looks path named suffixed lookup.present = either suffixed _ _ (asks _ (stat_is path named)) done_looks
  after_probe_looks path named suffixed lookup.absent = either suffixed _ _ done_looks (asks _ (stat_is path named))
  after_probe_looks path named suffixed lookup.failed = done_looks

  pub lookup_looks : (path : List ℕ) → NamesObject path → (suffixed : Bool) (told : List Answer) → KeyLooks (lookup.plan implicit path suffixed told)
  lookup_looks path named suffixed [] = asks _ (probe_is path named)
  lookup_looks path named suffixed (a ∷ []) = after_probe_looks path named suffixed (lookup.probed a)
  lookup_looks path named suffixed (a ∷ b ∷ more) = done_looks

  pub opendir_looks : (prefix : List ℕ) (max : ℕ) (after : Option (List ℕ)) (told : List Answer) → KeyLooks (opendir.plan prefix max after told)
  opendir_looks prefix max after [] = asks _ (λ look. absurd (let never : true ≡ false = look.0 in cc))
  opendir_looks prefix max after (answers.Page page ∷ more) = for_found (λ key. opendir.plan prefix max (Some key) more) page.next (λ key. opendir_looks prefix max (Some key) more)
  opendir_looks prefix max after (_ ∷ more) = done_looks

  after_page_looks : (prefix : List ℕ) (found : rmdir.Inside) → KeyLooks (rmdir.after_page prefix found)
  after_page_looks prefix rmdir.empty = asks _ (λ look. absurd look)
  after_page_looks prefix rmdir.absent = done_looks
  after_page_looks prefix rmdir.filled = done_looks

  after_list_looks : (prefix : List ℕ) (a : Answer) → KeyLooks (rmdir.after_list prefix a)
  after_list_looks prefix (answers.Page page) = after_page_looks prefix (rmdir.inside prefix page.items)
  after_list_looks prefix _ = done_looks

  pub rmdir_looks : (prefix : List ℕ) (told : List Answer) → KeyLooks (rmdir.plan prefix told)
  rmdir_looks prefix [] = asks _ (λ look. absurd (let never : 2 ≡ 1 = look.1 in omega (arith, never)))
  rmdir_looks prefix (a ∷ []) = after_list_looks prefix a
  rmdir_looks prefix (a ∷ b ∷ more) = done_looks

  pub unlink_looks : (path : List ℕ) (told : List Answer) → KeyLooks (unlink.plan path told)
  unlink_looks path [] = asks _ (λ look. absurd look)
  unlink_looks path (a ∷ more) = done_looks

  after_stat_looks : (from to : List ℕ) (second : ℕ) (a : Answer) → KeyLooks (rename.after_stat from to second a)
  after_stat_looks from to second (answers.Meta meta) = asks _ (λ look. absurd look)
  after_stat_looks from to second _ = done_looks

  after_copy_looks : (from : List ℕ) (told a : Answer) → KeyLooks (rename.after_copy from told a)
  after_copy_looks from (answers.Meta meta) (answers.Meta copied) = asks _ (λ look. absurd look)
  after_copy_looks from told a = done_looks

  pub moving_looks : (from to : List ℕ) → NamesObject from → (suffixed : Bool) (second : ℕ) (told : List Answer) → KeyLooks (rename.moving_plan implicit from to suffixed second told)
  moving_looks from to named suffixed second [] = asks _ (probe_is from named)
  moving_looks from to named suffixed second (a ∷ []) = after_probe_looks from named suffixed (lookup.probed a)
  moving_looks from to named suffixed second (a ∷ b ∷ []) = after_stat_looks from to second b
  moving_looks from to named suffixed second (a ∷ b ∷ c ∷ []) = after_copy_looks from b c
  moving_looks from to named suffixed second (a ∷ b ∷ c ∷ d ∷ more) = done_looks

  pub update_looks : (asked : setattr.Asked) (second : ℕ) (file : Sight) (told : List Answer) → KeyLooks (setattr.update_plan asked second file told)
  update_looks asked second file [] = asks _ (λ look. absurd look)
  update_looks asked second file (a ∷ more) = done_looks

  pub while_looks : (source : Source) (given : reading.Reads) → KeyLooks (reading.while_given source given)
  while_looks source reading.given = reads_then source done done_looks
  while_looks source reading.gone = done_looks
  while_looks source reading.failed = done_looks

  pub flush_looks : (source : Source) (op : Operation) → IsLookOfKey implicit op → (told : List Answer) → KeyLooks (flush.after_reads source op told)
  flush_looks source op is [] = reads_then source (ask op) (asks op is)
  flush_looks source op is (answers.Bytes bytes ∷ more) = flush_looks source op is more
  flush_looks source op is (_ ∷ more) = done_looks

  -- a node of which something is kept is named by a path
  abbrev pub AsksObject : Option (List ℕ) → Type 0
  AsksObject None = Unit {0}
  AsksObject (Some name) = NamesObject name

  pub standing_looks : (name : Option (List ℕ)) → AsksObject name → (told : List Answer) → KeyLooks (standing.plan name told)
  standing_looks None named told = done_looks
  standing_looks (Some name) named [] = asks _ (stat_is name named)
  standing_looks (Some name) named (a ∷ more) = done_looks

  module _ (mount : MountModel) (is : IsMount mount) where
    pub asked_object : (staged : Option StagedContent) (number : ℕ) → AsksObject (option_and_then (standing.name_of staged) (sight_at mount.table number))
    asked_object staged number = by (fin.get mount.table.nodes number) (is.names number)
      where
        named : (kind : NodeKind) (name : List ℕ) → IsNameOf kind name → AsksObject (if is_directory kind then None else Some name)
        named Dir name its = tt
        named File name its = names_path name its
        named Symlink name its = names_path name its

        seen : (s : Option StagedContent) (node : Node) → IsNameOf node.kind node.name → AsksObject (standing.name_of s (sight_of number node))
        seen None node its = named node.kind node.name its
        seen (Some s) node its = tt

        by : (found : Option Node) → ((node : Node) → found ≡ Some node → IsNameOf node.kind node.name)
            → AsksObject (option_and_then (standing.name_of staged) (option_map (sight_of number) found))
        by None its = tt
        by (Some node) its = seen staged node (its node refl)
