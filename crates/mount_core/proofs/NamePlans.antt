-- The errand of a request that looks a name up, or makes, removes or moves an object, asks what its plan asks.
use Rattle.std.proofs.Common.{◌≡◌, inl, inr, ℕ, Bool, true, false, List, [], ◌∷◌, None, Result, Ok, Err, IfOk, refl, sym, ap, subst, ◌∙◌, nat_eq}
use Rattle.std.proofs.lemmas.Slice.Eq.{bytes_eq-Decides}
use Rattle.std.specs.Cmp.Lexicographic.{other_text, pointwise, same_text}
use Rattle.std.specs.Prelude.{if◌then◌else◌}
use Rattle.bucket_api.specs.declared.answers.Answer.{Answer}
use Rattle.bucket_api.specs.declared.answers.Answer.TheVariants as answers
use Rattle.fuse_requests.specs.Grammar.{without_spare}
use Rattle.fuse_requests.specs.declared.request.Request.{Request}
use Rattle.fuse_requests.specs.declared.request.Request.TheVariants.{Create, Lookup, Mkdir, Mknod, Rename, Rename2, Rmdir, Symlink, Unlink}
use Rattle.mount_core.proofs.ErrandLemmas.{after_probe_reads, asks_so, lookup_reads, making_reads, plans_so}
use Rattle.mount_core.proofs.NameLemmas.{MakesFile, Renames}
use Rattle.mount_core.specs.Errands.{AsksAs, content_of, plan_of, plan_over}
use Rattle.mount_core.specs.declared.errand.Errand.{Errand}
use Rattle.mount_laws.specs.Renames.{renamed}
use Rattle.mount_model.specs.declared.config.Config.{Config}
use Rattle.mount_rules.specs.Dispatch.{early, plan}
use Rattle.mount_rules.specs.Making as making
use Rattle.mount_rules.specs.Mount.{MountModel}
use Rattle.mount_rules.specs.Plans.{Plan, Step, done, without_reads}
use Rattle.mount_rules.specs.Requests.Create as create
use Rattle.mount_rules.specs.Requests.Lookup as lookup
use Rattle.mount_rules.specs.Requests.Mkdir as mkdir
use Rattle.mount_rules.specs.Requests.Rename as rename
use Rattle.mount_rules.specs.Requests.Rename.{Names}
use Rattle.mount_rules.specs.Requests.Rmdir as rmdir
use Rattle.mount_rules.specs.Requests.Rmdir.{Inside, absent, empty, filled}
use Rattle.mount_rules.specs.Requests.Symlink as symlink
use Rattle.mount_rules.specs.Requests.Unlink as unlink
use Rattle.mount_rules.specs.Rules.{AtTake, at_node}
use Rattle.mount_rules.specs.View.{View, view_of}
use Rattle.object_names.specs.Paths.{has_suffix}

-- ---- their plans have no reads
unlink_reads : (path : List ℕ) (told : List Answer) → unlink.plan path told ≡ without_reads (unlink.plan path told)
unlink_reads path [] = refl
unlink_reads path (a ∷ more) = refl

rmdir_reads : (prefix : List ℕ) (told : List Answer) → rmdir.plan prefix told ≡ without_reads (rmdir.plan prefix told)
rmdir_reads prefix [] = refl
rmdir_reads prefix (a ∷ []) = by a
  where
    on : (found : Inside) → rmdir.after_page prefix found ≡ without_reads (rmdir.after_page prefix found)
    on absent = refl
    on empty = refl
    on filled = refl

    by : (answer : Answer) → rmdir.after_list prefix answer ≡ without_reads (rmdir.after_list prefix answer)
    by (answers.Page page) = on (rmdir.inside prefix page.items)
    by _ = refl
rmdir_reads prefix (a ∷ b ∷ more) = refl

module _ (implicit : Bool) (from to : List ℕ) (suffixed : Bool) (second : ℕ) where
  after_stat_reads : (told : Answer) → rename.after_stat from to second told ≡ without_reads (rename.after_stat from to second told)
  after_stat_reads (answers.Meta meta) = refl
  after_stat_reads _ = refl

  after_copy_reads : (told copied : Answer) → rename.after_copy from told copied ≡ without_reads (rename.after_copy from told copied)
  after_copy_reads (answers.Meta meta) (answers.Meta copied) = refl
  after_copy_reads _ _ = refl

  moving_reads : (told : List Answer) → rename.moving_plan implicit from to suffixed second told ≡ without_reads (rename.moving_plan implicit from to suffixed second told)
  moving_reads [] = refl
  moving_reads (a ∷ []) = after_probe_reads from suffixed (lookup.probed a)
  moving_reads (a ∷ b ∷ []) = after_stat_reads b
  moving_reads (a ∷ b ∷ c ∷ []) = after_copy_reads b c
  moving_reads (a ∷ b ∷ c ∷ d ∷ more) = refl

  rename_reads : (same : Bool) (told : List Answer) → (if same then done else rename.moving_plan implicit from to suffixed second told)
      ≡ without_reads (if same then done else rename.moving_plan implicit from to suffixed second told)
  rename_reads true told = refl
  rename_reads false told = moving_reads told

-- a RENAME whose errand carries out its plan, at each take with its settings
pub renames_so : {E : Type 0} (r : Result Errand E) (config : Config) (second : ℕ) (names : Names) (view : View)
    → IfOk r (λ errand. (at : AtTake) → at.config ≡ config → (content : List ℕ) → plan_of errand content at.second ≡ rename.plan names (record { at = at; view = view }))
    → IfOk r (λ errand. (at : AtTake) → at.config ≡ config → at.second ≡ second → AsksAs (plan_over errand at.contents at.second) (rename.plan names (record { at = at; view = view })))
renames_so (Ok errand) config second names view is = λ at same stamped told.
    ap (λ (p : Plan). p told) (is at same (content_of errand at.contents))
    ∙ rename_reads at.config.implicit_dirs (rename.from_of names view) (rename.to_of names view) (has_suffix names.name) at.second (rename.is_same names view) told
renames_so (Err e) config second names view is = tt

-- ---- what the code makes of the two paths
module _ (names : Names) (view : View) (from to : List ℕ) (from_is : from ≡ rename.from_of names view) (to_is : to ≡ rename.to_of names view) where
  same_paths : true ≡ pointwise nat_eq from to → rename.is_same names view ≡ true
  same_paths e = (bytes_eq-Decides (rename.from_of names view) (rename.to_of names view)).1 (sym from_is ∙ same_text from to e ∙ to_is)

  other_paths : false ≡ pointwise nat_eq from to → rename.is_same names view ≡ false
  other_paths e = by (rename.is_same names view) (bytes_eq-Decides (rename.from_of names view) (rename.to_of names view)).0
    where
      by : (b : Bool) → (b ≡ true → rename.from_of names view ≡ rename.to_of names view) → b ≡ false
      by true same = absurd (other_text from to e (from_is ∙ same refl ∙ sym to_is))
      by false same = refl

  -- nothing is asked where they are one
  pub asks_nothing : (at : AtTake) → true ≡ pointwise nat_eq from to → (λ (told : List Answer). done) ≡ rename.plan names (record { at = at; view = view })
  asks_nothing at e = ap
      (λ s told. if◌then◌else◌ {A = Step} s done (rename.moving_plan at.config.implicit_dirs (rename.from_of names view) (rename.to_of names view) (has_suffix names.name) at.second told))
      (sym (same_paths e))

  -- and else the object is moved
  pub moves_object : (at : AtTake) (implicit suffix : Bool) → false ≡ pointwise nat_eq from to → implicit ≡ at.config.implicit_dirs → suffix ≡ has_suffix names.name
      → rename.moving_plan implicit from to suffix at.second ≡ rename.plan names (record { at = at; view = view })
  moves_object at implicit suffix e implicit_is suffix_is =
      ap (λ (i : Bool). rename.moving_plan i from to suffix at.second) implicit_is
      ∙ ap (λ (f : List ℕ). rename.moving_plan at.config.implicit_dirs f to suffix at.second) from_is
      ∙ ap (λ (t : List ℕ). rename.moving_plan at.config.implicit_dirs (rename.from_of names view) t suffix at.second) to_is
      ∙ ap (λ (s : Bool). rename.moving_plan at.config.implicit_dirs (rename.from_of names view) (rename.to_of names view) s at.second) suffix_is
      ∙ ap
      (λ s told. if◌then◌else◌ {A = Step} s done (rename.moving_plan at.config.implicit_dirs (rename.from_of names view) (rename.to_of names view) (has_suffix names.name) at.second told))
      (sym (other_paths e))

-- ---- each request
module _ {E : Type 0} (r : Result Errand E) (config : Config) (mount : MountModel) (second : ℕ) (request : Request) where
  -- the errand asks what this request's plan asks
  abbrev Asks : Request → Type 0
  Asks asked = IfOk r (λ errand. (at : AtTake) → at.config ≡ config → at.second ≡ second → AsksAs (plan_over errand at.contents at.second) (plan at mount (without_spare asked)))

  abbrev IsFree : Request → Type 0
  IsFree asked = early mount (without_spare asked) ≡ None

  module _ (node : ℕ) (name : List ℕ) where
    abbrev view : View
    view = view_of mount (at_node node)

    pub lookup_plan : request ≡ Lookup node name → IsFree request
        → IfOk r (λ errand. (content : List ℕ) (stamp : ℕ) → plan_of errand content stamp ≡ lookup.plan config.implicit_dirs (lookup.path_of name view) (has_suffix name)) → Asks request
    lookup_plan is free asks =
        subst Asks (sym is) (plans_so r config second mount (Lookup node name) refl (subst IsFree is free)
        (asks_so r config second (λ (c : Config) stamp. lookup.plan c.implicit_dirs (lookup.path_of name view) (has_suffix name))
        (λ c stamp. lookup_reads c.implicit_dirs (lookup.path_of name view) (has_suffix name)) asks))

    pub file_plan : MakesFile request node name → IsFree request
        → IfOk r (λ errand. (content : List ℕ) (stamp : ℕ) → plan_of errand content stamp ≡ making.plan (create.path_of name view) [] stamp) → Asks request
    file_plan (inl is) free asks =
        subst Asks (sym is) (plans_so r config second mount (Create node name) refl (subst IsFree is free)
        (asks_so r config second (λ c. making.plan (create.path_of name view) []) (λ c. making_reads (create.path_of name view) []) asks))
    file_plan (inr (mode, is)) free asks =
        subst Asks (sym is) (plans_so r config second mount (Mknod node mode name) refl (subst IsFree is free)
        (asks_so r config second (λ c. making.plan (create.path_of name view) []) (λ c. making_reads (create.path_of name view) []) asks))

    pub link_plan : (target : List ℕ) → request ≡ Symlink node name target → IsFree request
        → IfOk r (λ errand. (content : List ℕ) (stamp : ℕ) → plan_of errand content stamp ≡ making.plan (create.path_of name view) (symlink.target_pair target ∷ []) stamp) → Asks request
    link_plan target is free asks =
        subst Asks (sym is) (plans_so r config second mount (Symlink node name target) refl (subst IsFree is free)
        (asks_so r config second (λ c. making.plan (create.path_of name view) (symlink.target_pair target ∷ []))
        (λ c. making_reads (create.path_of name view) (symlink.target_pair target ∷ [])) asks))

    pub mkdir_plan : request ≡ Mkdir node name → IsFree request
        → IfOk r (λ errand. (content : List ℕ) (stamp : ℕ) → plan_of errand content stamp ≡ making.plan (mkdir.prefix_of name view) [] stamp) → Asks request
    mkdir_plan is free asks =
        subst Asks (sym is) (plans_so r config second mount (Mkdir node name) refl (subst IsFree is free)
        (asks_so r config second (λ c. making.plan (mkdir.prefix_of name view) []) (λ c. making_reads (mkdir.prefix_of name view) []) asks))

    pub unlink_plan : request ≡ Unlink node name → IsFree request
        → IfOk r (λ errand. (content : List ℕ) (stamp : ℕ) → plan_of errand content stamp ≡ unlink.plan (unlink.path_of name view)) → Asks request
    unlink_plan is free asks =
        subst Asks (sym is) (plans_so r config second mount (Unlink node name) refl (subst IsFree is free)
        (asks_so r config second (λ c stamp. unlink.plan (unlink.path_of name view)) (λ c stamp. unlink_reads (unlink.path_of name view)) asks))

    pub rmdir_plan : request ≡ Rmdir node name → IsFree request
        → IfOk r (λ errand. (content : List ℕ) (stamp : ℕ) → plan_of errand content stamp ≡ rmdir.plan (mkdir.prefix_of name view)) → Asks request
    rmdir_plan is free asks =
        subst Asks (sym is) (plans_so r config second mount (Rmdir node name) refl (subst IsFree is free)
        (asks_so r config second (λ c stamp. rmdir.plan (mkdir.prefix_of name view)) (λ c stamp. rmdir_reads (mkdir.prefix_of name view)) asks))

    module _ (newdir : ℕ) (newname : List ℕ) where
      abbrev names : Names
      names = renamed newdir name newname

      abbrev both : View
      both = view_of mount (rename.looks node names)

      pub rename_plan : Renames request node newdir name newname → IsFree request
          → IfOk r (λ errand. (at : AtTake) → at.config ≡ config → (content : List ℕ) → plan_of errand content at.second ≡ rename.plan names (record { at = at; view = both })) → Asks request
      rename_plan (inl is) free asks =
          subst Asks (sym is) (plans_so r config second mount (Rename node newdir name newname) refl (subst IsFree is free) (renames_so r config second names both asks))
      rename_plan (inr (flags, is)) free asks =
          subst Asks (sym is) (plans_so r config second mount (Rename2 node newdir flags name newname) refl (subst IsFree is free) (renames_so r config second names both asks))
