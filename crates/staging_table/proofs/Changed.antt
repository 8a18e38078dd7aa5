-- A file's staged content changes, or is let go: those of all others stay, and the table holds what it should.
use Rattle.std.proofs.Common.{◌≡◌, ◌≢◌, ℕ, ◌+◌, ◌≤◌, List, [], ◌⊎◌, inl, inr, Option, None, Some, IsSome, IsTrue, refl, sym, ap, subst, ◌∙◌, length, nat_cmp, Bor, is_some, false, arith}
use Rattle.std.proofs.lemmas.Bool.{cases_eq, false≢true}
use Rattle.std.specs.FinMap as fin
use Rattle.std.specs.Option.{unwrap_or, option_map, option_map_or, option_copied}
use Rattle.block_pool.specs.Chains.{ChainMap, entries_of, IsChain}
use Rattle.block_pool.specs.Pool.{Pool, IsPool, Keeps, give_chain}
use Rattle.spare_maps.proofs.FinMaps.{number_put_same, number_put_other, number_taken_same, number_taken_other}
use Rattle.spare_maps.specs.SpareMaps.{Numbered}
use Rattle.staging_spec.proofs.FileLaws.{puts_count, ends_count, none_taken}
use Rattle.staging_spec.specs.Blocks.{is_among}
use Rattle.staging_spec.specs.StagedFiles.{blocks_in, blocks_at, blocks_of, overlay_at}
use Rattle.staging_spec.specs.Overlays.{held_of, staging_over}
use Rattle.staging_spec.specs.Staging.{Staging}
use Rattle.staged_file.proofs.Overlay.{held_is}
use Rattle.staged_file.specs.Staged.{StagedFile, IsStaged, shown_byte, positions, staging_of}
use Rattle.staged_file.specs.Steps.{Leaves}
use Rattle.staging_table.specs.Stagings.{Stagings}
use Rattle.staging_table.specs.Tables.{content_of, files_of, stagings_of, HoldsStagings}
use Rattle.staging_table.specs.declared.held.Held.{Held}
use Rattle.staging_table.proofs.Served.{IsServed}
use Rattle.staging_table.proofs.Mapped.{get-files, files-put, files-taken}

-- What is staged of a file, or bare where nothing is: no other file has its chain, and its touched blocks are counted.
pub record Owns (chains : ChainMap (List ℕ)) (held : fin.FinMap nat_cmp Held) (node : ℕ) (file : StagedFile) : Type 0 where
  pub alone : (q : ℕ) (its : Held) (head : ℕ) → q ≢ node → fin.get held q ≡ Some its → its.staged.chain ≡ Some head → file.chain ≡ Some head → ⊥
  pub touched : file.touched ≡ blocks_at (files_of chains held) node

-- A file's staged content, or what was bare, is another one, which is put in.
pub record Changes (was : Pool) (held : Numbered Held) (node : ℕ) (old : StagedFile) (now : Pool) (left : Numbered Held) (file : Held) : Type 0 where
  pub own : Owns was.chains held.map node old
  pub leaves : Leaves was old now file.staged
  pub staged : IsStaged now.chains file.staged
  pub valid : IsPool now
  pub put : left.map ≡ fin.insert held.map node file

-- a chain that is there as it was leaves what is staged on it
staged-kept : (was now : ChainMap (List ℕ)) (file : StagedFile) → IsStaged was file → IsChain now file.chain → entries_of now file.chain ≡ entries_of was file.chain → IsStaged now file
staged-kept was now file is chain e = record {
  chain = chain;
  count = is.count ∙ sym (ap length e);
  inside = λ b t. is.inside b (subst (λ es. IsTrue (is_among (positions es) b)) e t);
  behind = λ source i ge. ap (λ es. shown_byte es file.limit source i) e ∙ is.behind source i ge;
  limits = is.limits;
  most = is.most;
}

-- what is not found is not there
pub absent : (found : Option (Bor Held)) (there : Option Held) → option_copied found ≡ there → is_some found ≡ false → there ≡ None
absent None there e f = sym e
absent (Some file) there e f = absurd (false≢true (sym f))

-- the same files, with other room
pub holds-of : (pool : Pool) (held : Numbered Held) (room : ℕ) → HoldsStagings pool held room
    → (left : Numbered Held) → left.map ≡ held.map → (spare : ℕ) → spare ≤ left.spare → HoldsStagings pool left spare
holds-of pool held room holds left same spare enough = record {
  valid = holds.valid;
  staged = λ q its e. holds.staged q its (ap (λ m. fin.get m q) (sym same) ∙ e);
  apart = λ q p its other head e f. holds.apart q p its other head (ap (λ m. fin.get m q) (sym same) ∙ e) (ap (λ m. fin.get m p) (sym same) ∙ f);
  blocks = ap (λ m. pool.free + blocks_in (files_of pool.chains m)) same ∙ holds.blocks;
  room = enough;
}

module _ (was : Pool) (held : Numbered Held) (room : ℕ) (holds : HoldsStagings was held room) (node : ℕ) where
  -- what is staged owns its chain
  pub owns-held : (file : Held) → fin.get held.map node ≡ Some file → Owns was.chains held.map node file.staged
  owns-held file there = record {
    alone = λ q its head n e f g. n (holds.apart q node its file head e there f g);
    touched = (holds.staged node file there).count ∙ sym (ap (λ o. option_map_or blocks_of o 0) (get-files was.chains held.map node ∙ ap (option_map (content_of was.chains)) there));
  }

  -- what is bare owns no block
  pub owns-none : (file : StagedFile) → file.chain ≡ None → file.touched ≡ 0 → fin.get held.map node ≡ None → Owns was.chains held.map node file
  owns-none file bare zero none = record {
    alone = λ q its head n e f g. let never : None ≡ Some head = sym bare ∙ g in cc;
    touched = zero ∙ sym (ap (λ o. option_map_or blocks_of o 0) (get-files was.chains held.map node ∙ ap (option_map (content_of was.chains)) none));
  }

  module _ (old : StagedFile) (own : Owns was.chains held.map node old) (now : Pool) (new : Option ℕ) (keeps : Keeps was.chains now.chains old.chain new) where
    kept_chain : (c : Option ℕ) → IsChain was.chains c → ((head : ℕ) → c ≡ Some head → old.chain ≡ Some head → ⊥)
        → IsChain now.chains c × (entries_of now.chains c ≡ entries_of was.chains c)
    kept_chain None is ne = (tt, refl)
    kept_chain (Some head) is ne = let e = keeps.others head is (λ q. ne head refl (sym q)) in (subst IsSome (sym e) is, ap (λ o. unwrap_or o []) e)

    module _ (q : ℕ) (file : Held) (n : q ≢ node) (there : fin.get held.map q ≡ Some file) where
      kept_one : IsChain now.chains file.staged.chain × (entries_of now.chains file.staged.chain ≡ entries_of was.chains file.staged.chain)
      kept_one = kept_chain file.staged.chain (holds.staged q file there).chain (λ head f g. own.alone q file head n there f g)

      other_staged : IsStaged now.chains file.staged
      other_staged = staged-kept was.chains now.chains file.staged (holds.staged q file there) kept_one.0 kept_one.1

      other_content : content_of now.chains file ≡ content_of was.chains file
      other_content = ap (λ es. record { overlay = record { blocks = es; size = file.staged.size; limit = file.staged.limit }; seconds = file.seconds; nanos = file.nanos }) kept_one.1

      other_chain : (head : ℕ) → file.staged.chain ≡ Some head → new ≡ Some head → ⊥
      other_chain head f g = keeps.apart head (subst (IsChain was.chains) f (holds.staged q file there).chain) (λ e. own.alone q file head n there f (sym e)) (sym g)

  -- ---- it changes
  module _ (old : StagedFile) (now : Pool) (left : Numbered Held) (file : Held) (changes : Changes was held node old now left file) where
    here : fin.get left.map node ≡ Some file
    here = ap (λ m. fin.get m node) changes.put ∙ number_put_same held.map node file

    there_too : (q : ℕ) → q ≢ node → fin.get left.map q ≡ fin.get held.map q
    there_too q n = ap (λ m. fin.get m q) changes.put ∙ number_put_other held.map node file q n

    pub changed-files : files_of now.chains left.map ≡ fin.insert (files_of was.chains held.map) node (content_of now.chains file)
    changed-files = files-put was.chains now.chains held.map left.map node
        (record { others = there_too; shown = λ q its n e. other_content old changes.own now file.staged.chain changes.leaves.kept q its n e }) file here

    -- what contracts see of the files: the content is what became of the one that was seen
    pub changed-as : (table : Stagings) → stagings_of was held.map room ≡ table → (size : ℕ) → IsServed was.chains table node size old
        → (change : Staging → Staging) (source : List ℕ) → staging_of now.chains file.staged source ≡ change (staging_of was.chains old source)
        → files_of now.chains left.map
        ≡ fin.insert table.files node (record { overlay = held_of (change (staging_over (overlay_at table.files node size) source)); seconds = file.seconds; nanos = file.nanos })
    changed-as table is size served change source e =
        changed-files
        ∙ ap (λ o. fin.insert (files_of was.chains held.map) node (record { overlay = o; seconds = file.seconds; nanos = file.nanos }))
        (sym (held_is now file.staged source changes.valid changes.staged) ∙ ap held_of e ∙ ap (λ o. held_of (change (staging_over o source))) served.overlay)
        ∙ ap (λ t. fin.insert t.files node (record { overlay = held_of (change (staging_over (overlay_at table.files node size) source)); seconds = file.seconds; nanos = file.nanos })) is

    is_file : (its : Held) → fin.get left.map node ≡ Some its → its ≡ file
    is_file its e = let f : Some its ≡ Some file = sym e ∙ here in cc

    pub changed-holds : (spare : ℕ) → spare ≤ left.spare → HoldsStagings now left spare
    changed-holds spare enough = record {
      valid = changes.valid;
      staged = λ q its e. each q its e (cases_eq q node);
      apart = λ q p its other head e f g h. two q p its other head e f g h (cases_eq q node) (cases_eq p node);
      blocks = total;
      room = enough;
    }
      where
        each : (q : ℕ) (its : Held) → fin.get left.map q ≡ Some its → (q ≡ node) ⊎ (q ≡ node → ⊥) → IsStaged now.chains its.staged
        each q its e (inl p) = subst (λ f. IsStaged now.chains f.staged) (sym (is_file its (ap (fin.get left.map) (sym p) ∙ e))) changes.staged
        each q its e (inr n) = other_staged old changes.own now file.staged.chain changes.leaves.kept q its n (sym (there_too q n) ∙ e)

        chain_here : (q : ℕ) (its : Held) (head : ℕ) → fin.get left.map q ≡ Some its → its.staged.chain ≡ Some head → q ≡ node → file.staged.chain ≡ Some head
        chain_here q its head e g p = sym (ap (λ f. f.staged.chain) (is_file its (ap (fin.get left.map) (sym p) ∙ e))) ∙ g

        two : (q p : ℕ) (its other : Held) (head : ℕ) → fin.get left.map q ≡ Some its → fin.get left.map p ≡ Some other → its.staged.chain ≡ Some head → other.staged.chain ≡ Some head
            → (q ≡ node) ⊎ (q ≡ node → ⊥) → (p ≡ node) ⊎ (p ≡ node → ⊥) → q ≡ p
        two q p its other head e f g h (inl a) (inl b) = a ∙ sym b
        two q p its other head e f g h (inl a) (inr b) =
            absurd (other_chain old changes.own now file.staged.chain changes.leaves.kept p other b (sym (there_too p b) ∙ f) head h (chain_here q its head e g a))
        two q p its other head e f g h (inr a) (inl b) =
            absurd (other_chain old changes.own now file.staged.chain changes.leaves.kept q its a (sym (there_too q a) ∙ e) head g (chain_here p other head f h b))
        two q p its other head e f g h (inr a) (inr b) = holds.apart q p its other head (sym (there_too q a) ∙ e) (sym (there_too p b) ∙ f) g h

        total : now.free + blocks_in (files_of now.chains left.map) ≡ now.blocks
        total =
            let counted = ap blocks_in changed-files in
            let puts = puts_count (files_of was.chains held.map) node (content_of now.chains file) in
            let its = changes.staged.count in
            let before = holds.blocks in
            let own_blocks = changes.own.touched in
            let free = changes.leaves.free in
            let blocks = changes.leaves.blocks in
            omega arith

  -- ---- it is let go
  module _ (file : Held) (there : fin.get held.map node ≡ Some file) (now : Pool)
      (given : now ≡ give_chain was file.staged.chain) (keeps : Keeps was.chains now.chains file.staged.chain None) (valid : IsPool now)
      (left : Numbered Held) (taken : left.map ≡ fin.remove held.map node) where
    none_here : fin.get left.map node ≡ None
    none_here = ap (λ m. fin.get m node) taken ∙ number_taken_same held.map node

    those_left : (q : ℕ) → q ≢ node → fin.get left.map q ≡ fin.get held.map q
    those_left q n = ap (λ m. fin.get m q) taken ∙ number_taken_other held.map node q n

    pub ended-files : files_of now.chains left.map ≡ fin.remove (files_of was.chains held.map) node
    ended-files = files-taken was.chains now.chains held.map left.map node
        (record { others = those_left; shown = λ q its n e. other_content file.staged (owns-held file there) now None keeps q its n e }) none_here

    pub ended-holds : (spare : ℕ) → spare ≤ left.spare → HoldsStagings now left spare
    ended-holds spare enough = record {
      valid = valid;
      staged = λ q its e. other_staged file.staged (owns-held file there) now None keeps q its (not_here q its e) (was_there q its e);
      apart = λ q p its other head e f g h. holds.apart q p its other head (was_there q its e) (was_there p other f) g h;
      blocks = total;
      room = enough;
    }
      where
        not_here : (q : ℕ) (its : Held) → fin.get left.map q ≡ Some its → q ≢ node
        not_here q its e p = let never : None ≡ Some its = sym none_here ∙ ap (fin.get left.map) (sym p) ∙ e in cc

        was_there : (q : ℕ) (its : Held) → fin.get left.map q ≡ Some its → fin.get held.map q ≡ Some its
        was_there q its e = sym (those_left q (not_here q its e)) ∙ e

        total : now.free + blocks_in (files_of now.chains left.map) ≡ now.blocks
        total =
            let counted = ap blocks_in ended-files in
            let ends = ends_count (files_of was.chains held.map) node in
            let own = (owns-held file there).touched in
            let its = (holds.staged node file there).count in
            let before = holds.blocks in
            let free = ap (λ p. p.free) given in
            let blocks = ap (λ p. p.blocks) given in
            omega arith

  -- ---- nothing is let go where nothing is
  module _ (none : fin.get held.map node ≡ None) (left : Numbered Held) (taken : left.map ≡ fin.remove held.map node) where
    pub none-files : files_of was.chains left.map ≡ fin.remove (files_of was.chains held.map) node
    none-files = files-taken was.chains was.chains held.map left.map node
        (record { others = λ q n. ap (λ m. fin.get m q) taken ∙ number_taken_other held.map node q n; shown = λ q its n e. refl }) (ap (λ m. fin.get m node) taken ∙ number_taken_same held.map node)

    pub none-holds : (spare : ℕ) → spare ≤ left.spare → HoldsStagings was left spare
    none-holds spare enough = holds-of was held room holds left (taken ∙ none_taken held.map node none) spare enough
