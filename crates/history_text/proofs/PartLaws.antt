-- Lists that are printed part by part.
use Rattle.std.proofs.Common.{◌≡◌, ℕ, List, [], ◌∷◌, ◌++◌, length, refl, sym, ap, ◌∙◌, append_assoc, append-nil, arith}
use Rattle.std.specs.List.{flat_map}
use Rattle.std.proofs.lemmas.Grind.{flat_map-append}
use Rattle.hex.specs.Hex.{encode_lower}
use Rattle.io_ports.specs.Ports.{Port}
use Rattle.history_text.specs.Putting.{Takes, Stops}
use Rattle.history_text.proofs.PrintLaws.{takes_nothing, takes_then, takes_as, stops_then, stops_before, stops_as}
use Rattle.history_text.proofs.TextLaws.{digits_append, digits_none}

-- the text of a list is that of its parts, one behind the other
pub record IsByParts {X : Type 0} (text : List X → List ℕ) : Type 0 where
  pub none : text [] ≡ []
  pub joined : (xs ys : List X) → text (xs ++ ys) ≡ text xs ++ text ys

pub digits_by_parts : IsByParts encode_lower
digits_by_parts = record { none = digits_none; joined = digits_append }

pub items_by_parts : {X : Type 0} (f : X → List ℕ) → IsByParts (flat_map f)
items_by_parts f = record { none = refl; joined = flat_map-append f }

-- the text of all before the rest is printed
pub record PrintedBefore {X : Type 0} (text : List X → List ℕ) (all rest : List X) (a b : Port) (p q : List ℕ) : Type 0 where
  pub before : List X
  pub parts : all ≡ before ++ rest
  pub takes : Takes a b p q (text before)

pub printed_none : {X : Type 0} {text : List X → List ℕ} (by : IsByParts text) (all : List X) (a : Port) (p : List ℕ) → PrintedBefore text all all a a p p
printed_none by all a p = record { before = []; parts = refl; takes = takes_as (sym by.none) (takes_nothing a p) }

pub printed_more : {X : Type 0} {text : List X → List ℕ} (by : IsByParts text) {all rest : List X} (piece later : List X) {a b c : Port} {p q r : List ℕ}
    → rest ≡ piece ++ later → PrintedBefore text all rest a b p q → Takes b c q r (text piece) → PrintedBefore text all later a c p r
printed_more by piece later cut so next = record {
  before = so.before ++ piece;
  parts = so.parts ∙ ap (λ x. so.before ++ x) cut ∙ sym (append_assoc so.before piece later);
  takes = takes_as (sym (by.joined so.before piece)) (takes_then so.takes next);
}

pub printed_stop : {X : Type 0} {text : List X → List ℕ} (by : IsByParts text) {all rest : List X} (piece later : List X) {a b c : Port} {p q : List ℕ}
    → rest ≡ piece ++ later → PrintedBefore text all rest a b p q → Stops b c q (text piece) → Stops a c p (text all)
printed_stop {text = text} by {all} {rest} piece later cut so next =
    let whole : text so.before ++ (text piece ++ text later) ≡ text all =
    ap (λ x. text so.before ++ x) (sym (by.joined piece later) ∙ ap text (sym cut)) ∙ sym (by.joined so.before rest) ∙ ap text (sym so.parts) in
    stops_as whole (stops_then so.takes (stops_before (text later) next))

pub printed_all : {X : Type 0} {text : List X → List ℕ} {all rest : List X} {a b : Port} {p q : List ℕ} → length rest ≡ 0
    → PrintedBefore text all rest a b p q → Takes a b p q (text all)
printed_all {text = text} {all} {rest = []} none so = takes_as (ap text (sym (append-nil so.before) ∙ sym so.parts)) so.takes
printed_all {rest = x ∷ xs} none so = absurd (omega arith)
