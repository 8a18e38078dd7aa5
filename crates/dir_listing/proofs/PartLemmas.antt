-- The part that a path leaves after a prefix, and which names are those of a part.
use Rattle.std.proofs.Common.{◌≡◌, ◌≢◌, ℕ, Bool, true, false, ◌&&◌, List, [], ◌∷◌, ◌++◌, length, Some, None, is_some, refl, sym, ap, subst, ◌∙◌, arith, length-append}
use Rattle.std.proofs.lemmas.Bool.{false≢true}
use Rattle.std.proofs.lemmas.List.{append_cancel_left, append_cancel_right}
use Rattle.std.proofs.lemmas.Slice.Eq.{bytes_eq-Decides}
use Rattle.std.specs.Bool.{Decides}
use Rattle.std.specs.Str.{bytes_eq}
use Rattle.object_names.specs.Components.{name_fault, IsComponent}
use Rattle.object_names.specs.Paths.{ends_in}
use Rattle.object_names.specs.declared.component.NameFault.{NameFault}
use Rattle.object_names.proofs.ComponentLemmas.{refutes, no_fault-from_IsComponent}
use Rattle.object_names.proofs.EndLemmas.{ends_in-push, no_slash-end}
use Rattle.object_names.proofs.ShownLemmas.{component-can_show}
use Rattle.dir_listing.specs.Names.{shows_part, HasNoPart, listed_name, FitsRole}
use Rattle.dir_listing.specs.Pages.{none_listed}
use Rattle.dir_listing.specs.Steps.{is_placeholder, is_file_object}
use Rattle.dir_listing.specs.declared.roles.Role.{Role}
use Rattle.dir_listing.specs.declared.roles.Role.TheVariants.{Placeholder, FileObject, NoEntry}

both : (a b : Bool) → a ≡ true → b ≡ true → (a && b) ≡ true
both true b e f = f
both false b e f = absurd (false≢true e)

-- two tests of which the second fails where the first passes
not_both : {P : Type 0} (a b : Bool) → Decides b P → (a ≡ true → P → ⊥) → (a && b) ≡ false
not_both true b d miss = refutes b d (miss refl)
not_both false b d miss = refl

pub component-shows_part : (prefix part : List ℕ) → shows_part prefix part ≡ true → IsComponent part
component-shows_part prefix part can = component-can_show (none_listed prefix false) part can

-- a component is no end of a name that ends in a slash
tail : List ℕ → List ℕ
tail [] = []
tail (x ∷ xs) = xs

no_slash_behind : (prefix path part : List ℕ) → IsComponent part → prefix ++ part ≢ path ++ 47 ∷ []
unfolding tail
no_slash_behind [] path part p e = false≢true (sym (no_slash-end part p) ∙ ap (ends_in 47) e ∙ ends_in-push 47 path)
no_slash_behind (x ∷ prefix) [] part p e = let same = ap length e in omega (arith, same, length-append prefix part, p.named)
no_slash_behind (x ∷ prefix) (y ∷ path) part p e = no_slash_behind prefix path part p (ap tail e)

-- ---- what a name leaves
pub no_component : (prefix path rest : List ℕ) (fault : NameFault) → path ≡ prefix ++ rest → name_fault rest ≡ Some fault → HasNoPart prefix path
no_component prefix path rest fault is r part can e =
    let same : part ≡ rest = append_cancel_left prefix part rest (sym e ∙ is) in
    false≢true (ap is_some (sym (subst (λ name. name_fault name ≡ None) same (no_fault-from_IsComponent part (component-shows_part prefix part can))) ∙ r))

pub no_directory : (prefix path name : List ℕ) → name ≡ path ++ 47 ∷ [] → HasNoPart prefix path → FitsRole prefix NoEntry name
no_directory prefix path name is miss part can = (
  λ e. no_slash_behind prefix path part (component-shows_part prefix part can) (sym e ∙ is),
  λ e. miss part can (append_cancel_right path (prefix ++ part) (47 ∷ []) (sym is ∙ e)),
)

-- ---- whose name is listed
-- a test that passes at one part alone
one_part : (prefix text part name : List ℕ) (key : List ℕ → List ℕ) → shows_part prefix text ≡ true → name ≡ key text → (key part ≡ key text → part ≡ text)
    → (shows_part prefix part && bytes_eq (key part) name) ≡ bytes_eq text part
one_part prefix text part name key can is one =
    elim (bytes_eq text part) as (λ b. bytes_eq text part ≡ b → (shows_part prefix part && bytes_eq (key part) name) ≡ b) [
      | true ↦ λ t. let same : text ≡ part = (bytes_eq-Decides text part).0 t in
          both (shows_part prefix part) _ (subst (λ x. shows_part prefix x ≡ true) same can)
          ((bytes_eq-Decides (key part) name).1 (ap key (sym same) ∙ sym is))
      | false ↦ λ f. not_both (shows_part prefix part) _ (bytes_eq-Decides (key part) name)
          (λ c e. false≢true (sym f ∙ (bytes_eq-Decides text part).1 (sym (one (e ∙ is)))))
    ] refl

-- the placeholder of a part that can be shown is listed exactly where its part was kept of a placeholder
pub names_dir : (prefix part text : List ℕ) (role : Role) → FitsRole prefix role text
    → (shows_part prefix part && bytes_eq ((prefix ++ part) ++ 47 ∷ []) (listed_name prefix role text)) ≡ (is_placeholder role && bytes_eq text part)
names_dir prefix part text Placeholder fits =
    one_part prefix text part ((prefix ++ text) ++ 47 ∷ []) (λ x. (prefix ++ x) ++ 47 ∷ []) fits refl
    (λ e. append_cancel_left prefix part text (append_cancel_right (prefix ++ part) (prefix ++ text) (47 ∷ []) e))
names_dir prefix part text FileObject fits =
    not_both (shows_part prefix part) _ (bytes_eq-Decides ((prefix ++ part) ++ 47 ∷ []) (prefix ++ text))
    (λ c e. no_slash_behind prefix (prefix ++ part) text (component-shows_part prefix text fits) (sym e))
names_dir prefix part text NoEntry fits =
    not_both (shows_part prefix part) _ (bytes_eq-Decides ((prefix ++ part) ++ 47 ∷ []) text) (λ c e. (fits part c).1 (sym e))

-- and the same for the object of a file
pub names_file : (prefix part text : List ℕ) (role : Role) → FitsRole prefix role text
    → (shows_part prefix part && bytes_eq (prefix ++ part) (listed_name prefix role text)) ≡ (is_file_object role && bytes_eq text part)
names_file prefix part text Placeholder fits =
    not_both (shows_part prefix part) _ (bytes_eq-Decides (prefix ++ part) ((prefix ++ text) ++ 47 ∷ []))
    (λ c e. no_slash_behind prefix (prefix ++ text) part (component-shows_part prefix part c) e)
names_file prefix part text FileObject fits =
    one_part prefix text part (prefix ++ text) (λ x. prefix ++ x) fits refl (append_cancel_left prefix part text)
names_file prefix part text NoEntry fits =
    not_both (shows_part prefix part) _ (bytes_eq-Decides (prefix ++ part) text) (λ c e. (fits part c).0 (sym e))
