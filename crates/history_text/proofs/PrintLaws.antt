-- Texts that are printed one after the other.
use Rattle.std.proofs.Common.{◌≡◌, ℕ, zero, suc, ◌+◌, ◌<◌, ◌≤◌, List, [], ◌∷◌, ◌++◌, length, take, drop, get_or, Result, Ok, Err, IsErr, OnOk, OnErr}
use Rattle.std.proofs.Common.{refl, sym, ap, ◌∙◌, subst, append_assoc, append-nil, take-append-drop, arith}
use Rattle.std.specs.Io.KnownBytes.{Appends}
use Rattle.std.proofs.KnownBytes.{Appends-nil, Appends-trans}
use Rattle.std.specs.List.{flat_map}
use Rattle.std.proofs.lemmas.Grind.{flat_map-append}
use Rattle.io_ports.specs.Faults.{Rose}
use Rattle.io_ports.specs.Ports.{Port}
use Rattle.io_ports.specs.Streams.{AppendsPrefix}
use Rattle.history_text.specs.Putting.{Takes, Stops, Prints}

-- nothing is printed
pub takes_nothing : (a : Port) (p : List ℕ) → Takes a a p p []
takes_nothing a p = record { put = []; appends = Appends-nil a.bytes; kept = sym (append-nil p); faults = refl }

-- one text, and then another
pub takes_then : {a b c : Port} {p q r t u : List ℕ} → Takes a b p q t → Takes b c q r u → Takes a c p r (t ++ u)
takes_then {a} {b} {c} {p} {q} {r} {t} {u} first second = record {
  put = first.put ++ second.put;
  appends = Appends-trans a.bytes b.bytes c.bytes first.put second.put first.appends second.appends;
  kept =
      append_assoc first.put second.put r ∙ ap (λ x. first.put ++ x) second.kept
      ∙ sym (append_assoc first.put q u) ∙ ap (λ x. x ++ u) first.kept ∙ append_assoc p t u;
  faults = second.faults ∙ first.faults;
}

-- the sink fails in the second text
pub stops_then : {a b c : Port} {p q t u : List ℕ} → Takes a b p q t → Stops b c q u → Stops a c p (t ++ u)
stops_then {a} {b} {c} {p} {q} {t} {u} first second = record {
  put = first.put ++ second.put;
  unput = second.unput;
  appends = Appends-trans a.bytes b.bytes c.bytes first.put second.put first.appends second.appends;
  owed =
      sym (append_assoc p t u) ∙ ap (λ x. x ++ u) (sym first.kept) ∙ append_assoc first.put q u
      ∙ ap (λ x. first.put ++ x) second.owed ∙ sym (append_assoc first.put second.put second.unput);
  rose = subst (λ n. Rose n c.faults) first.faults second.rose;
}

-- the sink fails in the first one
pub stops_before : {a b : Port} {p t : List ℕ} (u : List ℕ) → Stops a b p t → Stops a b p (t ++ u)
stops_before {a} {b} {p} {t} u first = record {
  put = first.put;
  unput = first.unput ++ u;
  appends = first.appends;
  owed = sym (append_assoc p t u) ∙ ap (λ x. x ++ u) first.owed ∙ append_assoc first.put first.unput u;
  rose = first.rose;
}

-- the sink fails in one call, for what waited and the text
pub stops_at : {a b : Port} (p t owed : List ℕ) → p ++ t ≡ owed → AppendsPrefix a.bytes b.bytes owed → Rose a.faults b.faults → Stops a b p t
stops_at p t owed is (count, appends) rose = record {
  put = take count owed;
  unput = drop count owed;
  appends = appends;
  owed = is ∙ sym (take-append-drop count owed);
  rose = rose;
}

-- what was printed is known under another spelling
pub takes_as : {a b : Port} {p q t u : List ℕ} → t ≡ u → Takes a b p q t → Takes a b p q u
takes_as {a} {b} {p} {q} same h = subst (Takes a b p q) same h

pub stops_as : {a b : Port} {p t u : List ℕ} → t ≡ u → Stops a b p t → Stops a b p u
stops_as {a} {b} {p} same h = subst (Stops a b p) same h

-- a call hands the fault on
pub stopped : {U E : Type 0} {a b : Port} {p t : List ℕ} (q : List ℕ) (r : Result U E) → IsErr r → Stops a b p t → Prints a b p q t r
stopped q (Ok x) err h = cc
stopped q (Err e) err h = h

-- a call ends with another one
pub prints_then : {U E : Type 0} {a b : Port} {p q t : List ℕ} (c : Port) (s u : List ℕ) (r : Result U E)
    → Takes a b p q t → Prints b c q s u r → Prints a c p s (t ++ u) r
prints_then c s u (Ok x) first second = takes_then first second
prints_then c s u (Err e) first second = stops_then first second

pub prints_as : {U E : Type 0} (a b : Port) (p q : List ℕ) {t u : List ℕ} (r : Result U E) → t ≡ u → Prints a b p q t r → Prints a b p q u r
prints_as a b p q (Ok x) same h = takes_as same h
prints_as a b p q (Err e) same h = stops_as same h

-- a text goes to the sink in one call, where none waited
pub prints_by_put : {U E : Type 0} (a b : Port) (text : List ℕ) (r : Result U E) → OnOk r (Appends a.bytes b.bytes text)
    → OnErr r (AppendsPrefix a.bytes b.bytes text) → OnOk r (b.faults ≡ a.faults) → OnErr r (Rose a.faults b.faults) → Prints a b [] [] text r
prints_by_put a b text (Ok x) appends _ faults _ = record { put = text; appends = appends; kept = append-nil text; faults = faults }
prints_by_put a b text (Err e) _ prefix _ rose = stops_at [] text text refl prefix rose

-- the texts of one more item
texts_to_next : {X : Type 0} (f : X → List ℕ) (xs : List X) (i : ℕ) (x : X) → x ≡ get_or xs i x → i < length xs
    → flat_map f (take (suc i) xs) ≡ flat_map f (take i xs) ++ f x
texts_to_next f [] i x is lt = absurd (omega arith)
texts_to_next f (y ∷ ys) zero x is lt = append-nil (f y) ∙ ap f (sym is)
texts_to_next f (y ∷ ys) (suc i) x is lt =
    ap (λ t. f y ++ t) (texts_to_next f ys i x is (omega arith)) ∙ sym (append_assoc (f y) (flat_map f (take i ys)) (f x))

-- the texts of the items so far, and of those that are left
texts_in_two : {X : Type 0} (f : X → List ℕ) (xs : List X) (i : ℕ) → flat_map f xs ≡ flat_map f (take i xs) ++ flat_map f (drop i xs)
texts_in_two f xs i = ap (flat_map f) (sym (take-append-drop i xs)) ∙ flat_map-append f (take i xs) (drop i xs)

-- one more item of a list is printed
pub takes_item : {X : Type 0} (f : X → List ℕ) (xs : List X) (i : ℕ) (x : X) → x ≡ get_or xs i x → i < length xs
    → {a b c : Port} {p q r : List ℕ} → Takes a b p q (flat_map f (take i xs)) → Takes b c q r (f x) → Takes a c p r (flat_map f (take (i + 1) xs))
takes_item f xs i x is lt first second =
    takes_as (sym (texts_to_next f xs i x is lt) ∙ ap (λ n. flat_map f (take n xs)) (let next : suc i ≡ i + 1 = omega arith in next)) (takes_then first second)

-- the sink fails in it
pub stops_item : {X : Type 0} (f : X → List ℕ) (xs : List X) (i : ℕ) (x : X) → x ≡ get_or xs i x → i < length xs
    → {a b c : Port} {p q : List ℕ} → Takes a b p q (flat_map f (take i xs)) → Stops b c q (f x) → Stops a c p (flat_map f xs)
stops_item f xs i x is lt first second =
    stops_as (sym (texts_in_two f xs (suc i)))
    (stops_before (flat_map f (drop (suc i) xs)) (stops_as (sym (texts_to_next f xs i x is lt)) (stops_then first second)))

take_whole : {X : Type 0} (xs : List X) (i : ℕ) → length xs ≤ i → take i xs ≡ xs
take_whole [] zero le = refl
take_whole [] (suc i) le = refl
take_whole (x ∷ xs) zero le = absurd (omega arith)
take_whole (x ∷ xs) (suc i) le = ap (λ ys. x ∷ ys) (take_whole xs i (omega arith))

-- all items of a list are printed
pub takes_items : {X : Type 0} (f : X → List ℕ) (xs : List X) (i : ℕ) → length xs ≤ i → {a b : Port} {p q : List ℕ}
    → Takes a b p q (flat_map f (take i xs)) → Takes a b p q (flat_map f xs)
takes_items f xs i le h = takes_as (ap (flat_map f) (take_whole xs i le)) h

-- an item is the same whatever stands for one past the end
pub item_at : {X : Type 0} (xs : List X) (i : ℕ) (d : X) → i < length xs → get_or xs i d ≡ get_or xs i (get_or xs i d)
item_at [] i d lt = absurd (omega arith)
item_at (x ∷ xs) zero d lt = refl
item_at (x ∷ xs) (suc i) d lt = item_at xs i d (omega arith)

take_front : (xs ys : List ℕ) → take (length xs) (xs ++ ys) ≡ xs
take_front [] ys = refl
take_front (x ∷ xs) ys = ap (λ t. x ∷ t) (take_front xs ys)

-- where none waited, a prefix of the text was put
pub prefix_put : {a b : Port} (p : List ℕ) {t : List ℕ} → p ≡ [] → Stops a b p t → AppendsPrefix a.bytes b.bytes t
prefix_put {a} {b} p {t} none h =
    let owed : h.put ++ h.unput ≡ t = sym h.owed ∙ ap (λ x. x ++ t) none in
    (length h.put, subst (Appends a.bytes b.bytes) (sym (take_front h.put h.unput) ∙ ap (take (length h.put)) owed) h.appends)
