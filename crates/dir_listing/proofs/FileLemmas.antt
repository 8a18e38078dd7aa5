-- The files and symlinks, one by one, behind the directories.
use Rattle.std.proofs.Common.{◌≡◌, ◌≢◌, ℕ, Bool, true, false, cond, List, [], ◌∷◌, ◌++◌, map, Option, Some, None, is_some, is_none, ◌&&◌, refl, sym, ap, ◌∙◌, All, String}
use Rattle.std.proofs.lemmas.Bool.{false≢true}
use Rattle.std.proofs.lemmas.List.{map-append}
use Rattle.std.proofs.lemmas.List.Elements.{All-nil, All-cons, All-head, All-tail}
use Rattle.std.proofs.lemmas.Slice.Eq.{bytes_eq-Decides}
use Rattle.std.specs.BTreeMap.{BTreeMap, get_by_text}
use Rattle.std.specs.Str.{bytes_eq}
use Rattle.object_names.specs.Components.{IsComponent}
use Rattle.object_names.specs.Paths.{has_suffix, bare_name, shown_of}
use Rattle.object_names.specs.ShownNames.{first_kind}
use Rattle.object_names.specs.declared.shown.DirItem.{DirItem}
use Rattle.object_names.specs.declared.shown.NodeKind.{NodeKind}
use Rattle.object_names.specs.declared.shown.NodeKind.TheVariants.{Dir}
use Rattle.object_names.proofs.EndLemmas.{ends_in-push, without_end-push, no_suffix, shown_of-bare_name}
use Rattle.object_names.proofs.ShownLemmas.{find-front, cond_same}
use Rattle.dir_listing.specs.Steps.{is_dir_kind, IsFile, kind_with, first_of, with_file, file_in, Has, Puts, PutsFirst, PutsFile, PutsFiles}

-- ---- what is shown, for files that agree
kind_with-same : (is_dir : List ℕ → Bool) (f g : List ℕ → Option NodeKind) → ((part : List ℕ) → f part ≡ g part) → (q : List ℕ) → kind_with is_dir f q ≡ kind_with is_dir g q
kind_with-same is_dir f g same q = λ i. cond (has_suffix q) (cond (is_dir (bare_name q)) (same (bare_name q) i) None) (cond (is_dir q) (Some Dir) (same q i))

-- under a part stands its directory, or else its file
kind_with-part : (is_dir : List ℕ → Bool) (f : List ℕ → Option NodeKind) (part : List ℕ) → IsComponent part → kind_with is_dir f part ≡ cond (is_dir part) (Some Dir) (f part)
kind_with-part is_dir f part p = ap (λ t. cond t (cond (is_dir (bare_name part)) (f (bare_name part)) None) (cond (is_dir part) (Some Dir) (f part))) (no_suffix part p)

-- under a part's shown name, with the suffix where there is a directory, stands its file
kind_with-shown : (is_dir : List ℕ → Bool) (f : List ℕ → Option NodeKind) (part : List ℕ) → IsComponent part → kind_with is_dir f (shown_of part (is_dir part)) ≡ f part
kind_with-shown is_dir f part p =
    elim (is_dir part) as (λ d. is_dir part ≡ d → kind_with is_dir f (shown_of part d) ≡ f part) [
      | true ↦ λ d. ap (λ t. cond t (cond (is_dir (bare_name (part ++ 10 ∷ []))) (f (bare_name (part ++ 10 ∷ []))) None) (cond (is_dir (part ++ 10 ∷ [])) (Some Dir) (f (part ++ 10 ∷ [])))) (ends_in-push 10 part)
          ∙ ap (λ b. cond (is_dir b) (f b) None) (without_end-push 10 part)
          ∙ ap (λ t. cond t (f part) None) d
      | false ↦ λ d. kind_with-part is_dir f part p ∙ ap (λ t. cond t (Some Dir) (f part)) d
    ] refl

not_dir : (d : Bool) (o : Option NodeKind) → is_dir_kind o ≡ false → is_dir_kind (cond d (Some Dir) o) ≡ d
not_dir true o e = refl
not_dir false o e = e

-- the entries tell whether there is a directory of a part
dir_told : (is_dir : List ℕ → Bool) (f : List ℕ → Option NodeKind) (part : List ℕ) (found : Option NodeKind) → IsComponent part → is_dir_kind (f part) ≡ false
    → found ≡ kind_with is_dir f part → is_dir_kind found ≡ is_dir part
dir_told is_dir f part found p no_dir is =
    ap is_dir_kind (is ∙ kind_with-part is_dir f part p)
    ∙ not_dir (is_dir part) (f part) no_dir

-- ---- a file of which the name is taken
first_stays : (o : Option NodeKind) (kind : NodeKind) → is_some o ≡ true → o ≡ Some (first_of o kind)
first_stays None kind e = absurd (false≢true e)
first_stays (Some k) kind e = refl

file_kept : (part : List ℕ) (kind : NodeKind) (is_dir : List ℕ → Bool) (f : List ℕ → Option NodeKind) (shown : List ℕ) (found : Option NodeKind) → IsComponent part
    → shown ≡ shown_of part (is_dir part) → found ≡ kind_with is_dir f shown → is_some found ≡ true → (q : List ℕ) → kind_with is_dir f q ≡ kind_with is_dir (with_file part kind f) q
file_kept part kind is_dir f shown found p at is some = kind_with-same is_dir f (with_file part kind f) same
  where
    has : is_some (f part) ≡ true
    has = ap is_some (sym (is ∙ ap (kind_with is_dir f) at ∙ kind_with-shown is_dir f part p)) ∙ some

    same : (x : List ℕ) → f x ≡ cond (bytes_eq x part) (Some (first_of (f x) kind)) (f x)
    same x = elim (bytes_eq x part) as (λ b. bytes_eq x part ≡ b → f x ≡ cond b (Some (first_of (f x) kind)) (f x)) [
      | true ↦ λ t. first_stays (f x) kind (ap (λ y. is_some (f y)) ((bytes_eq-Decides x part).0 t) ∙ has)
      | false ↦ λ t. refl
    ] refl

-- ---- a file that is put in
no_first : (o : Option NodeKind) (kind : NodeKind) → is_some o ≡ false → Some kind ≡ Some (first_of o kind)
no_first None kind e = refl
no_first (Some k) kind e = absurd (false≢true (sym e))

file_put : (part : List ℕ) (kind : NodeKind) (is_dir : List ℕ → Bool) (f : List ℕ → Option NodeKind) (shown : List ℕ) (found : Option NodeKind) → IsComponent part
    → shown ≡ shown_of part (is_dir part) → found ≡ kind_with is_dir f shown → is_some found ≡ false → (q : List ℕ)
    → cond (bytes_eq shown q) (Some kind) (kind_with is_dir f q) ≡ kind_with is_dir (with_file part kind f) q
file_put part kind is_dir f shown found p at is none q =
    elim (bytes_eq shown q) as (λ b. bytes_eq shown q ≡ b → cond b (Some kind) (kind_with is_dir f q) ≡ kind_with is_dir g q) [
      | true ↦ λ t. here ∙ ap (kind_with is_dir g) (sym at ∙ (bytes_eq-Decides shown q).0 t)
      | false ↦ λ t. there (λ e. false≢true (sym t ∙ (bytes_eq-Decides shown q).1 (at ∙ e)))
    ] refl
  where
    g : List ℕ → Option NodeKind
    g = with_file part kind f

    free : is_some (f part) ≡ false
    free = ap is_some (sym (is ∙ ap (kind_with is_dir f) at ∙ kind_with-shown is_dir f part p)) ∙ none

    here : Some kind ≡ kind_with is_dir g (shown_of part (is_dir part))
    here = no_first (f part) kind free
        ∙ ap (λ b. cond b (Some (first_of (f part) kind)) (f part)) (sym ((bytes_eq-Decides part part).1 refl))
        ∙ sym (kind_with-shown is_dir g part p)

    other : (x : List ℕ) → part ≢ x → f x ≡ g x
    other x n = ap (λ b. cond b (Some (first_of (f x) kind)) (f x)) (sym (off (bytes_eq x part) refl))
      where
        off : (b : Bool) → bytes_eq x part ≡ b → b ≡ false
        off true t = absurd (n (sym ((bytes_eq-Decides x part).0 t)))
        off false t = refl

    there : shown_of part (is_dir part) ≢ q → kind_with is_dir f q ≡ kind_with is_dir g q
    there n = elim (has_suffix q) as (λ t. has_suffix q ≡ t → cond t (cond (is_dir (bare_name q)) (f (bare_name q)) None) (cond (is_dir q) (Some Dir) (f q)) ≡ cond t (cond (is_dir (bare_name q)) (g (bare_name q)) None) (cond (is_dir q) (Some Dir) (g q))) [
      | true ↦ λ t. elim (is_dir (bare_name q)) as (λ d. is_dir (bare_name q) ≡ d → cond d (f (bare_name q)) None ≡ cond d (g (bare_name q)) None) [
        | true ↦ λ d. other (bare_name q) (λ e. n (ap (λ x. shown_of x (is_dir x)) e ∙ ap (shown_of (bare_name q)) (d ∙ sym t) ∙ shown_of-bare_name q))
        | false ↦ λ d. refl
      ] refl
      | false ↦ λ t. elim (is_dir q) as (λ d. is_dir q ≡ d → cond d (Some Dir) (f q) ≡ cond d (Some Dir) (g q)) [
        | true ↦ λ d. refl
        | false ↦ λ d. other q (λ e. n (ap (λ x. shown_of x (is_dir x)) e ∙ ap (shown_of q) d))
      ] refl
    ] refl

-- either way: a kind that was put under the file's shown name, where nothing stood there
puts_first : (part : List ℕ) (kind : NodeKind) (is_dir : List ℕ → Bool) (f : List ℕ → Option NodeKind) (shown : List ℕ) (found : Option NodeKind)
    → IsComponent part → shown ≡ shown_of part (is_dir part) → found ≡ kind_with is_dir f shown
    → (q : List ℕ) → cond (is_none found && bytes_eq shown q) (Some kind) (kind_with is_dir f q) ≡ kind_with is_dir (with_file part kind f) q
puts_first part kind is_dir f shown None p at is q = file_put part kind is_dir f shown None p at is refl q
puts_first part kind is_dir f shown (Some k) p at is q = file_kept part kind is_dir f shown (Some k) p at is refl q

module _ {Y : Type 0} (old new : BTreeMap (String Y) NodeKind) (name : List ℕ) (kind : NodeKind) where
  -- where nothing stood under a name, what is put there is put first
  pub puts_free : get_by_text old name ≡ None → Puts name kind old new → PutsFirst name kind old new
  puts_free free puts q = puts q ∙ sym (ap (λ found. cond (is_none found && bytes_eq name q) (Some kind) (get_by_text old q)) free)

  -- where something stood there, nothing is put
  pub puts_nothing : (there : NodeKind) → get_by_text old name ≡ Some there → PutsFirst name kind old old
  puts_nothing there taken q = sym (ap (λ found. cond (is_none found && bytes_eq name q) (Some kind) (get_by_text old q)) taken)

-- ---- the files that were put in so far
push_kind : (b last : Bool) (k kind : NodeKind) (f : Option NodeKind)
    → cond b (Some k) (cond last (Some (first_of f kind)) f) ≡ cond last (Some (first_of (cond b (Some k) f) kind)) (cond b (Some k) f)
push_kind true true k kind f = refl
push_kind true false k kind f = refl
push_kind false last k kind f = refl

-- what is found with an item behind the others
first_kind-push : (n name : List ℕ) (kind : NodeKind) (items : List (List ℕ × NodeKind))
    → first_kind n (items ++ (name, kind) ∷ []) ≡ cond (bytes_eq n name) (Some (first_of (first_kind n items) kind)) (first_kind n items)
first_kind-push n name kind [] = find-front n name kind []
first_kind-push n name kind (e ∷ items) =
    find-front n e.0 e.1 (items ++ (name, kind) ∷ [])
    ∙ ap (cond (bytes_eq n e.0) (Some e.1)) (first_kind-push n name kind items)
    ∙ push_kind (bytes_eq n e.0) (bytes_eq n name) e.1 kind (first_kind n items)
    ∙ ap (λ f. cond (bytes_eq n name) (Some (first_of f kind)) f) (sym (find-front n e.0 e.1 items))

file_in-push : (files : List DirItem) (file : DirItem) (part : List ℕ) → file_in (files ++ file ∷ []) part ≡ with_file file.shown file.kind (file_in files) part
file_in-push files file part =
    ap (first_kind part) (map-append (λ (x : DirItem). (x.shown, x.kind)) files (file ∷ []))
    ∙ first_kind-push part file.shown file.kind (map (λ x. (x.shown, x.kind)) files)

-- no file has the kind of a directory
no_dir_in : (files : List DirItem) → All IsFile files → (part : List ℕ) → is_dir_kind (file_in files part) ≡ false
no_dir_in [] are part = refl
no_dir_in (file ∷ files) are part =
    ap is_dir_kind (find-front part file.shown file.kind (map (λ x. (x.shown, x.kind)) files))
    ∙ elim (bytes_eq part file.shown) as (λ b. is_dir_kind (cond b (Some file.kind) (file_in files part)) ≡ false) [ true ↦ (All-head IsFile file files are).no_dir | false ↦ no_dir_in files (All-tail IsFile file files are) part ]

split_push : (files : List DirItem) (file : DirItem) → All IsFile (files ++ file ∷ []) → All IsFile files × IsFile file
split_push [] file are = (All-nil IsFile, All-head IsFile file [] are)
split_push (first ∷ files) file are =
    let rest = split_push files file (All-tail IsFile first (files ++ file ∷ []) are) in
    (All-cons IsFile first files (All-head IsFile first (files ++ file ∷ []) are) rest.0, rest.1)

module _ {Y : Type 0} (part : List ℕ) (kind : NodeKind) (is_dir : List ℕ → Bool) (f : List ℕ → Option NodeKind) where
  -- a file that was put under its name, of which there is no directory
  pub put_unhidden : (old new : BTreeMap (String Y) NodeKind) (name : List ℕ) → IsComponent part → is_dir_kind (f part) ≡ false → Has (kind_with is_dir f) old
      → name ≡ part → is_dir_kind (get_by_text old name) ≡ false → PutsFirst name kind old new → Has (kind_with is_dir (with_file part kind f)) new
  put_unhidden old new name p no_dir has same free puts q =
      puts q
      ∙ (ap (cond (is_none (get_by_text old name) && bytes_eq name q) (Some kind)) (has q)
      ∙ puts_first part kind is_dir f name (get_by_text old name) p at (has name) q)
    where
      none : is_dir part ≡ false
      none = sym (dir_told is_dir f part (get_by_text old part) p no_dir (has part)) ∙ (ap (λ n. is_dir_kind (get_by_text old n)) (sym same) ∙ free)

      at : name ≡ shown_of part (is_dir part)
      at = same ∙ ap (shown_of part) (sym none)

  -- a file that a directory hides was put under its name with the suffix
  pub put_hidden : (old new : BTreeMap (String Y) NodeKind) (name hidden : List ℕ) → IsComponent part → is_dir_kind (f part) ≡ false → Has (kind_with is_dir f) old
      → name ≡ part → is_dir_kind (get_by_text old name) ≡ true → hidden ≡ shown_of name true → PutsFirst hidden kind old new
      → Has (kind_with is_dir (with_file part kind f)) new
  put_hidden old new name hidden p no_dir has same taken suffixed puts q =
      puts q
      ∙ (ap (cond (is_none (get_by_text old hidden) && bytes_eq hidden q) (Some kind)) (has q)
      ∙ puts_first part kind is_dir f hidden (get_by_text old hidden) p at (has hidden) q)
    where
      there : is_dir part ≡ true
      there = sym (dir_told is_dir f part (get_by_text old part) p no_dir (has part)) ∙ (ap (λ n. is_dir_kind (get_by_text old n)) (sym same) ∙ taken)

      at : hidden ≡ shown_of part (is_dir part)
      at = suffixed ∙ (ap (λ n. shown_of n true) same ∙ ap (shown_of part) (sym there))

module _ {Y : Type 0} where
  -- with no file, the directories alone are shown
  pub files_none : (entries : BTreeMap (String Y) NodeKind) → PutsFiles [] entries entries
  files_none entries is_dir no_dir are has q = has q
      ∙ elim (has_suffix q) as (λ t. has_suffix q ≡ t → cond (is_dir q) (Some Dir) None ≡ cond t (cond (is_dir (bare_name q)) None None) (cond (is_dir q) (Some Dir) None)) [
        | true ↦ λ t. ap (λ d. cond d (Some Dir) None) (no_dir q t) ∙ sym (cond_same (is_dir (bare_name q)) None)
        | false ↦ λ t. refl
      ] refl

  pub files_more : (files : List DirItem) (file : DirItem) (first old new : BTreeMap (String Y) NodeKind) → PutsFiles files first old → PutsFile file.shown file.kind old new
      → PutsFiles (files ++ file ∷ []) first new
  files_more files file first old new before puts is_dir no_dir are has q =
      let parts = split_push files file are in
      puts is_dir (file_in files) parts.1.component (no_dir_in files parts.0 file.shown) (before is_dir no_dir parts.0 has) q
      ∙ kind_with-same is_dir (with_file file.shown file.kind (file_in files)) (file_in (files ++ file ∷ [])) (λ part. sym (file_in-push files file part)) q
