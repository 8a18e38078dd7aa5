-- Laws of `StandsFor`, for callers of the lock.
use Rattle.std.proofs.Common.{◌≡◌, ℕ, List, [], ◌∷◌, ◌++◌, refl, sym, ap, ◌∙◌, subst}
use Rattle.std.proofs.lemmas.List.Elements.{All-push}
use Rattle.turn_lock.specs.declared.known.Line.{Line}
use Rattle.turn_lock.specs.Book.{line, entries_of, StandsFor}
use Rattle.turn_lock.specs.Seats.{SeatState, Appends}

entries_of-append : {E : Type 0} (book : List (Line E)) (n : ℕ) (e : E) → entries_of (book ++ line n e ∷ []) ≡ entries_of book ++ e ∷ []
entries_of-append [] n e = refl
entries_of-append (x ∷ xs) n e = ap (λ es. x.entry ∷ es) (entries_of-append xs n e)

-- a state with one more entry stands for the book with that entry
pub stands_after : {S E H : Type 0} (entries : S → List E) (home : S → H) (may_make : ℕ → E → Type 0) (first : S) (book : List (Line E)) (old new : S) (n : ℕ) (e : E)
    → StandsFor entries home may_make first book old → entries new ≡ entries old ++ e ∷ [] → home new ≡ home old → may_make n e
    → StandsFor entries home may_make first (book ++ line n e ∷ []) new
stands_after entries home may_make first book old new n e stands longer same may = record {
  list = longer ∙ (ap (λ es. es ++ e ∷ []) stands.list ∙ sym (entries_of-append book n e));
  made = All-push (λ x. may_make x.by x.entry) book (line n e) stands.made may;
  at_home = same ∙ stands.at_home;
}

-- once the seat has made that entry, the state stands for what the seat has seen
pub stands_after_append : {S E H : Type 0} (entries : S → List E) (home : S → H) (may_make : ℕ → E → Type 0) (first : S) (before after : SeatState S E) (old new : S) (e : E)
    → StandsFor entries home may_make first before.seen old → entries new ≡ entries old ++ e ∷ [] → home new ≡ home old → may_make before.number e
    → Appends (entries new) before after → StandsFor entries home may_make first after.seen new
stands_after_append entries home may_make first before after old new e stands longer same may appends =
    subst (λ book. StandsFor entries home may_make first book new) (sym (appends.seen e [] (longer ∙ ap (λ es. es ++ e ∷ []) stands.list)))
    (stands_after entries home may_make first before.seen old new before.number e stands longer same may)
