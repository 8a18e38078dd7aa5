-- What is kept tells the directories and the files of all that was listed.
use Rattle.std.proofs.Common.{◌≡◌, ℕ, ◌+◌, ◌<◌, Bool, true, false, cond, ◌&&◌, ◌||◌, List, [], ◌∷◌, ◌++◌, length, map, filter, take, get_or, Option, Some, None, is_some, refl, sym, ap, subst, ◌∙◌, All, String}
use Rattle.std.proofs.lemmas.Bool.{false≢true}
use Rattle.std.proofs.lemmas.List.{map-append, take_more}
use Rattle.std.proofs.lemmas.List.Elements.{All-nil, All-cons, All-head, All-tail, All-push, filter-append}
use Rattle.std.proofs.lemmas.List.Folds.{list_any-append}
use Rattle.std.specs.BTreeMap.{BTreeMap, get_by_text}
use Rattle.std.specs.List.{list_any}
use Rattle.std.specs.Str.{bytes_eq}
use Rattle.bucket_api.specs.Metadata.{Metadata}
use Rattle.object_names.specs.Paths.{has_suffix, bare_name}
use Rattle.object_names.specs.ShownNames.{Listed, first_kind, can_show, has_dir, kind_shown}
use Rattle.object_names.specs.declared.shown.DirItem.{DirItem}
use Rattle.object_names.specs.declared.shown.NodeKind.{NodeKind}
use Rattle.object_names.specs.declared.shown.NodeKind.TheVariants.{Dir}
use Rattle.object_names.proofs.EndLemmas.{no_suffix}
use Rattle.object_names.proofs.ShownLemmas.{component-can_show, find-front, cond_same}
use Rattle.base_laws.proofs.Tests.{bytes_eq_flip}
use Rattle.dir_listing.specs.Kinds.{file_or_link}
use Rattle.dir_listing.specs.Names.{shows_part, kept_name, told, FitsRole, FitsAll, Fit, listed_from}
use Rattle.dir_listing.specs.Pages.{item_of}
use Rattle.dir_listing.specs.Steps.{is_file_object, is_dir_of, kept_dir, kept_dirs, kept_files, is_dir_kind, IsFile, file_in, Has, PutsDir, PutsDirs, PutsFiles}
use Rattle.dir_listing.specs.declared.kept.Kept.{Kept}
use Rattle.dir_listing.specs.declared.roles.Role.{Role}
use Rattle.dir_listing.specs.declared.roles.Role.TheVariants.{Placeholder, FileObject, NoEntry}
use Rattle.dir_listing.proofs.PartLemmas.{names_dir, names_file, component-shows_part}

fits_kept : List ℕ → Kept → Type 0
fits_kept prefix kept = FitsRole prefix kept.role kept.text

-- ---- one name more
pub items_more : (prefix : List ℕ) (items : List Kept) (kept : Kept) (metas : List Metadata) (i : ℕ) (meta : Metadata) → i < length metas → meta ≡ get_or metas i meta
    → map (told prefix) items ≡ map item_of (take i metas) → told prefix kept ≡ item_of meta → map (told prefix) (items ++ kept ∷ []) ≡ map item_of (take (i + 1) metas)
items_more prefix items kept metas i meta h here was is =
    map-append (told prefix) items (kept ∷ []) ∙ (λ j. was j ++ is j ∷ [])
    ∙ sym (map-append item_of (take i metas) (meta ∷ []))
    ∙ ap (λ m. map item_of (take i metas ++ m ∷ [])) here
    ∙ ap (map item_of) (sym (take_more metas i meta h))

pub prefixes_more : (prefix : List ℕ) (prefixes : List Kept) (kept : Kept) (names : List (List ℕ)) (i : ℕ) (name : List ℕ) → i < length names → name ≡ get_or names i name
    → map (kept_name prefix) prefixes ≡ take i names → kept_name prefix kept ≡ name → map (kept_name prefix) (prefixes ++ kept ∷ []) ≡ take (i + 1) names
prefixes_more prefix prefixes kept names i name h here was is =
    map-append (kept_name prefix) prefixes (kept ∷ []) ∙ (λ j. was j ++ is j ∷ [])
    ∙ ap (λ n. take i names ++ n ∷ []) here ∙ sym (take_more names i name h)

pub fits_more : (prefix : List ℕ) (names new : List Kept) (kept : Kept) → new ≡ names ++ kept ∷ [] → FitsAll prefix names → FitsRole prefix kept.role kept.text → FitsAll prefix new
unfolding fits_kept
fits_more prefix names new kept is before fits = subst (All (fits_kept prefix)) (sym is) (All-push (fits_kept prefix) names kept before fits)

-- ---- the directories
and_false : (c : Bool) → (c && false) ≡ false
and_false true = refl
and_false false = refl

item_apart : (c b : Bool) (kind : NodeKind) (found : Option NodeKind) → (c && is_some (cond b (Some kind) found)) ≡ ((c && b) || (c && is_some found))
item_apart true true kind found = refl
item_apart true false kind found = refl
item_apart false b kind found = refl

name_apart : (c b rest : Bool) → (c && (b || rest)) ≡ ((c && b) || (c && rest))
name_apart true b rest = refl
name_apart false b rest = refl

all_apart : (c placed implicit implied : Bool) → (c && (placed || (implicit && implied))) ≡ ((c && placed) || (implicit && (c && implied)))
all_apart true placed implicit implied = refl
all_apart false placed true implied = refl
all_apart false placed false implied = refl

item_dirs : (prefix part : List ℕ) (items : List Kept) → FitsAll prefix items
    → (shows_part prefix part && is_some (first_kind ((prefix ++ part) ++ 47 ∷ []) (map (told prefix) items))) ≡ kept_dir items part
unfolding fits_kept
item_dirs prefix part [] fits = and_false (shows_part prefix part)
item_dirs prefix part (kept ∷ items) fits =
    ap (λ found. shows_part prefix part && is_some found) (find-front ((prefix ++ part) ++ 47 ∷ []) (kept_name prefix kept) (file_or_link kept.link) (map (told prefix) items))
    ∙ item_apart (shows_part prefix part) (bytes_eq ((prefix ++ part) ++ 47 ∷ []) (kept_name prefix kept)) (file_or_link kept.link) (first_kind ((prefix ++ part) ++ 47 ∷ []) (map (told prefix) items))
    ∙ (λ i. names_dir prefix part kept.text kept.role (All-head (fits_kept prefix) kept items fits) i || item_dirs prefix part items (All-tail (fits_kept prefix) kept items fits) i)

prefix_dirs : (prefix part : List ℕ) (names : List Kept) → FitsAll prefix names
    → (shows_part prefix part && list_any (bytes_eq ((prefix ++ part) ++ 47 ∷ [])) (map (kept_name prefix) names)) ≡ kept_dir names part
unfolding fits_kept
prefix_dirs prefix part [] fits = and_false (shows_part prefix part)
prefix_dirs prefix part (kept ∷ names) fits =
    name_apart (shows_part prefix part) (bytes_eq ((prefix ++ part) ++ 47 ∷ []) (kept_name prefix kept)) (list_any (bytes_eq ((prefix ++ part) ++ 47 ∷ [])) (map (kept_name prefix) names))
    ∙ (λ i. names_dir prefix part kept.text kept.role (All-head (fits_kept prefix) kept names fits) i || prefix_dirs prefix part names (All-tail (fits_kept prefix) kept names fits) i)

has_dir-kept : (prefix : List ℕ) (items prefixes : List Kept) (implicit : Bool) → Fit prefix items prefixes → (part : List ℕ)
    → has_dir (listed_from prefix items prefixes implicit) part ≡ kept_dirs items prefixes implicit part
has_dir-kept prefix items prefixes implicit fit part =
    all_apart (shows_part prefix part) (is_some (first_kind ((prefix ++ part) ++ 47 ∷ []) (map (told prefix) items))) implicit (list_any (bytes_eq ((prefix ++ part) ++ 47 ∷ [])) (map (kept_name prefix) prefixes))
    ∙ (λ i. item_dirs prefix part items fit.items_fit i || (implicit && prefix_dirs prefix part prefixes fit.prefixes_fit i))

-- ---- the files
file_apart : (c b : Bool) (kind : NodeKind) (found : Option NodeKind) → cond c (cond b (Some kind) found) None ≡ cond (c && b) (Some kind) (cond c found None)
file_apart true b kind found = refl
file_apart false b kind found = refl

file_of_kept : Kept → DirItem
file_of_kept kept = record { shown = kept.text; kind = file_or_link kept.link }

-- a file in front of the files, if it is one
file_front : (is_file : Bool) (part : List ℕ) (kept : Kept) (files : List DirItem)
    → cond (is_file && bytes_eq kept.text part) (Some (file_or_link kept.link)) (file_in files part) ≡ file_in (map file_of_kept (cond is_file (kept ∷ []) []) ++ files) part
unfolding file_of_kept
file_front true part kept files =
    ap (λ b. cond b (Some (file_or_link kept.link)) (file_in files part)) (bytes_eq_flip kept.text part)
    ∙ sym (find-front part kept.text (file_or_link kept.link) (map (λ file. (file.shown, file.kind)) files))
file_front false part kept files = refl

kept_files-front : (kept : Kept) (names : List Kept) → map file_of_kept (cond (is_file_object kept.role) (kept ∷ []) []) ++ kept_files names ≡ kept_files (kept ∷ names)
unfolding file_of_kept
kept_files-front kept names = elim (is_file_object kept.role) as (λ b. map file_of_kept (cond b (kept ∷ []) []) ++ kept_files names ≡ map file_of_kept (cond b (kept ∷ filter (λ x. is_file_object x.role) names) (filter (λ x. is_file_object x.role) names))) [ true ↦ refl | false ↦ refl ]

file_kind-kept : (prefix part : List ℕ) (items : List Kept) → FitsAll prefix items
    → cond (shows_part prefix part) (first_kind (prefix ++ part) (map (told prefix) items)) None ≡ file_in (kept_files items) part
unfolding fits_kept
file_kind-kept prefix part [] fits = cond_same (shows_part prefix part) None
file_kind-kept prefix part (kept ∷ items) fits =
    ap (λ found. cond (shows_part prefix part) found None) (find-front (prefix ++ part) (kept_name prefix kept) (file_or_link kept.link) (map (told prefix) items))
    ∙ file_apart (shows_part prefix part) (bytes_eq (prefix ++ part) (kept_name prefix kept)) (file_or_link kept.link) (first_kind (prefix ++ part) (map (told prefix) items))
    ∙ (λ i. cond (names_file prefix part kept.text kept.role (All-head (fits_kept prefix) kept items fits) i) (Some (file_or_link kept.link)) (file_kind-kept prefix part items (All-tail (fits_kept prefix) kept items fits) i))
    ∙ file_front (is_file_object kept.role) part kept (kept_files items)
    ∙ ap (λ files. file_in files part) (kept_files-front kept items)

pub kept_files-append : (names more : List Kept) → kept_files (names ++ more) ≡ kept_files names ++ kept_files more
unfolding file_of_kept
kept_files-append names more =
    ap (map file_of_kept) (filter-append (λ kept. is_file_object kept.role) names more)
    ∙ map-append file_of_kept (filter (λ kept. is_file_object kept.role) names) (filter (λ kept. is_file_object kept.role) more)

-- they are files
plain_kind : (link : Bool) → is_dir_kind (Some (file_or_link link)) ≡ false
plain_kind true = refl
plain_kind false = refl

shows-file_object : (prefix text : List ℕ) (role : Role) → is_file_object role ≡ true → FitsRole prefix role text → shows_part prefix text ≡ true
shows-file_object prefix text Placeholder e fits = fits
shows-file_object prefix text FileObject e fits = fits
shows-file_object prefix text NoEntry e fits = absurd (false≢true e)

pub files_kept : (prefix : List ℕ) (names : List Kept) → FitsAll prefix names → All IsFile (kept_files names)
unfolding fits_kept
files_kept prefix [] fits = All-nil IsFile
files_kept prefix (kept ∷ names) fits =
    elim (is_file_object kept.role) as (λ b. is_file_object kept.role ≡ b → All IsFile (map (λ x. record { shown = x.text; kind = file_or_link x.link }) (cond b (kept ∷ filter (λ x. is_file_object x.role) names) (filter (λ x. is_file_object x.role) names)))) [
      | true ↦ λ e. All-cons IsFile (record { shown = kept.text; kind = file_or_link kept.link }) (kept_files names)
          (record { component = component-shows_part prefix kept.text (shows-file_object prefix kept.text kept.role e (All-head (fits_kept prefix) kept names fits)); no_dir = plain_kind kept.link })
          (files_kept prefix names (All-tail (fits_kept prefix) kept names fits))
      | false ↦ λ e. files_kept prefix names (All-tail (fits_kept prefix) kept names fits)
    ] refl

-- ---- both together
-- no directory has a name with the suffix
no_dir_suffixed : (listed : Listed) (part : List ℕ) → has_suffix part ≡ true → has_dir listed part ≡ false
no_dir_suffixed listed part t = off (can_show listed part) _ (λ c. false≢true (sym (no_suffix part (component-can_show listed part c)) ∙ t))
  where
    off : (c rest : Bool) → (c ≡ true → ⊥) → (c && rest) ≡ false
    off true rest never = absurd (never refl)
    off false rest never = refl

-- one name more, behind the others
dir_in_front : (before here : Bool) (first : Option NodeKind) → cond here (Some Dir) (cond before (Some Dir) first) ≡ cond (before || (here || false)) (Some Dir) first
dir_in_front true true first = refl
dir_in_front true false first = refl
dir_in_front false true first = refl
dir_in_front false false first = refl

two_dirs : (placed implied : Bool) → cond implied (Some Dir) (cond placed (Some Dir) None) ≡ cond (placed || implied) (Some Dir) None
two_dirs true true = refl
two_dirs true false = refl
two_dirs false implied = refl

module _ {Y : Type 0} where
  pub dirs_more : (names : List Kept) (kept : Kept) (old new : BTreeMap (String Y) NodeKind) → Has (λ q. cond (kept_dir names q) (Some Dir) None) old → PutsDir kept old new
      → Has (λ q. cond (kept_dir (names ++ kept ∷ []) q) (Some Dir) None) new
  dirs_more names kept old new has puts q =
      puts q ∙ ap (cond (is_dir_of q kept) (Some Dir)) (has q)
      ∙ dir_in_front (kept_dir names q) (is_dir_of q kept) None
      ∙ ap (λ b. cond b (Some Dir) None) (sym (list_any-append (is_dir_of q) names (kept ∷ [])))

  pub implied_more : (names : List Kept) (kept : Kept) (first old new : BTreeMap (String Y) NodeKind) → PutsDirs names true first old → PutsDir kept old new
      → PutsDirs (names ++ kept ∷ []) true first new
  implied_more names kept first old new before puts q =
      puts q ∙ ap (cond (is_dir_of q kept) (Some Dir)) (before q)
      ∙ dir_in_front (kept_dir names q) (is_dir_of q kept) (get_by_text first q)
      ∙ ap (λ b. cond b (Some Dir) (get_by_text first q)) (sym (list_any-append (is_dir_of q) names (kept ∷ [])))

  -- the map into which all that is kept was put has under each name what is shown under it
  pub shown_kept : (prefix : List ℕ) (items prefixes : List Kept) (implicit : Bool) (placed implied all : BTreeMap (String Y) NodeKind) → Fit prefix items prefixes
      → Has (λ q. cond (kept_dir items q) (Some Dir) None) placed → PutsDirs prefixes implicit placed implied → PutsFiles (kept_files items) implied all
      → Has (kind_shown (listed_from prefix items prefixes implicit)) all
  shown_kept prefix items prefixes implicit placed implied all fit has puts_dirs puts_files q =
      puts_files (kept_dirs items prefixes implicit)
      (λ part t. sym (dirs part) ∙ no_dir_suffixed (listed_from prefix items prefixes implicit) part t)
      (files_kept prefix items fit.items_fit)
      (λ x. puts_dirs x ∙ ap (cond (implicit && kept_dir prefixes x) (Some Dir)) (has x) ∙ two_dirs (kept_dir items x) (implicit && kept_dir prefixes x))
      q
      ∙ sym (λ i. cond (has_suffix q) (cond (dirs (bare_name q) i) (file_kind-kept prefix (bare_name q) items fit.items_fit i) None) (cond (dirs q i) (Some Dir) (file_kind-kept prefix q items fit.items_fit i)))
    where
      dirs : (part : List ℕ) → has_dir (listed_from prefix items prefixes implicit) part ≡ kept_dirs items prefixes implicit part
      dirs = has_dir-kept prefix items prefixes implicit fit
