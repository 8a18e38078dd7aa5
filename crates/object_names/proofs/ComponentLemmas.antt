-- A name without a fault is a component, and a component has no fault.
use Rattle.std.proofs.Common.{◌≡◌, ◌≢◌, ℕ, ◌≤◌, Bool, true, false, not, ◌||◌, cond, List, [], ◌∷◌, length, Option, Some, None, refl, sym, ap, ◌∙◌, nat_eq, nat_lt, arith, codes, All}
use Rattle.std.proofs.lemmas.Bool.{false≢true}
use Rattle.std.proofs.lemmas.Bool.Decides.{nat_tests, Decides-eqb}
use Rattle.std.proofs.lemmas.List.Elements.{All-nil, All-cons, All-weaker}
use Rattle.std.proofs.lemmas.List.Folds.{list_any_none}
use Rattle.std.proofs.lemmas.Slice.Eq.{bytes_eq-Decides}
use Rattle.std.proofs.lemmas.Str.{IsUtf8-from_is_utf8, is_utf8-from_IsUtf8}
use Rattle.std.specs.Bool.{Decides}
use Rattle.std.specs.List.{list_any}
use Rattle.std.specs.Str.{bytes_eq, is_utf8, IsUtf8}
use Rattle.object_names.specs.Components.{is_dots, is_slash, is_control, name_fault, IsComponent}
use Rattle.object_names.specs.declared.component.NameFault.{NameFault}
use Rattle.object_names.specs.declared.component.NameFault.TheVariants.{Empty, TooLong, NotUtf8, Dot, Slash, Control}

-- ---- tests that fail
left_false : (a b : Bool) → (a || b) ≡ false → a ≡ false
left_false true b e = e
left_false false b e = refl

right_false : (a b : Bool) → (a || b) ≡ false → b ≡ false
right_false true b e = absurd (false≢true (sym e))
right_false false b e = e

both_false : (a b : Bool) → a ≡ false → b ≡ false → (a || b) ≡ false
both_false true b e f = e
both_false false b e f = f

pub refuted : {P : Type 0} (b : Bool) → Decides b P → b ≡ false → ¬ P
refuted b d e p = false≢true (sym e ∙ d.1 p)

pub refutes : {P : Type 0} (b : Bool) → Decides b P → ¬ P → b ≡ false
refutes true d n = absurd (n (d.0 refl))
refutes false d n = refl

pub none_of : {X : Type 0} (p : X → Bool) (xs : List X) → list_any p xs ≡ false → All (λ x. p x ≡ false) xs
none_of p [] e = All-nil (λ x. p x ≡ false)
none_of p (x ∷ xs) e = All-cons (λ y. p y ≡ false) x xs (left_false (p x) _ e) (none_of p xs (right_false (p x) _ e))

-- ---- a chain of tests, each with its fault
passed : (b : Bool) (fault : NameFault) (rest : Option NameFault) → cond b (Some fault) rest ≡ None → (b ≡ false) × (rest ≡ None)
passed true fault rest e = cc
passed false fault rest e = (refl, e)

passes : (b : Bool) (fault : NameFault) (rest : Option NameFault) → b ≡ false → rest ≡ None → cond b (Some fault) rest ≡ None
passes true fault rest e f = absurd (false≢true (sym e))
passes false fault rest e f = f

-- ---- each test
named_of : (n : ℕ) → nat_eq n 0 ≡ false → 1 ≤ n
named_of n e = grind (arith, nat_tests)

of_named : (n : ℕ) → 1 ≤ n → nat_eq n 0 ≡ false
of_named n h = grind (arith, nat_tests)

short_of : (n : ℕ) → nat_lt 255 n ≡ false → n ≤ 255
short_of n e = grind (arith, nat_tests)

of_short : (n : ℕ) → n ≤ 255 → nat_lt 255 n ≡ false
of_short n h = grind (arith, nat_tests)

text_of : (name : List ℕ) → not (is_utf8 name) ≡ false → IsUtf8 name
text_of name e = IsUtf8-from_is_utf8 name (not_false (is_utf8 name) e)
  where
    not_false : (b : Bool) → not b ≡ false → b ≡ true
    not_false true e = refl
    not_false false e = absurd (false≢true (sym e))

pub is_utf8-not_text : (name : List ℕ) → ¬ (IsUtf8 name) → is_utf8 name ≡ false
is_utf8-not_text name n = refutes (is_utf8 name) (IsUtf8-from_is_utf8 name, is_utf8-from_IsUtf8 name) n

of_text : (name : List ℕ) → IsUtf8 name → not (is_utf8 name) ≡ false
of_text name t = ap not (is_utf8-from_IsUtf8 name t)

control_of : (byte : ℕ) → is_control byte ≡ false → (byte ≢ 0) × (byte ≢ 10) × (byte ≢ 13)
control_of byte e =
    let front = left_false (nat_eq byte 0 || nat_eq byte 10) (nat_eq byte 13) e in (
      refuted _ (Decides-eqb byte 0) (left_false (nat_eq byte 0) (nat_eq byte 10) front),
      refuted _ (Decides-eqb byte 10) (right_false (nat_eq byte 0) (nat_eq byte 10) front),
      refuted _ (Decides-eqb byte 13) (right_false (nat_eq byte 0 || nat_eq byte 10) (nat_eq byte 13) e),
    )

of_control : (byte : ℕ) → (byte ≢ 0) × (byte ≢ 10) × (byte ≢ 13) → is_control byte ≡ false
of_control byte n =
    both_false (nat_eq byte 0 || nat_eq byte 10) (nat_eq byte 13)
    (both_false (nat_eq byte 0) (nat_eq byte 10) (refutes _ (Decides-eqb byte 0) n.0) (refutes _ (Decides-eqb byte 10) n.1))
    (refutes _ (Decides-eqb byte 13) n.2)

-- ---- the two directions
pub IsComponent-from_no_fault : (name : List ℕ) → name_fault name ≡ None → IsComponent name
IsComponent-from_no_fault name e =
    let p0 = passed (nat_eq (length name) 0) Empty _ e in
    let p1 = passed (nat_lt 255 (length name)) TooLong _ p0.1 in
    let p2 = passed (not (is_utf8 name)) NotUtf8 _ p1.1 in
    let p3 = passed (is_dots name) Dot _ p2.1 in
    let p4 = passed (list_any is_slash name) Slash _ p3.1 in
    let p5 = passed (list_any is_control name) Control _ p4.1 in
    record {
      named = named_of (length name) p0.0;
      short = short_of (length name) p1.0;
      text = text_of name p2.0;
      no_dots = (
        refuted _ (bytes_eq-Decides name (codes ".")) (left_false (bytes_eq name (codes ".")) (bytes_eq name (codes "..")) p3.0),
        refuted _ (bytes_eq-Decides name (codes "..")) (right_false (bytes_eq name (codes ".")) (bytes_eq name (codes "..")) p3.0),
      );
      no_slash = All-weaker (λ byte. is_slash byte ≡ false) (λ byte. byte ≢ 47) (λ byte. refuted _ (Decides-eqb byte 47)) name (none_of is_slash name p4.0);
      no_control = All-weaker (λ byte. is_control byte ≡ false) (λ byte. (byte ≢ 0) × (byte ≢ 10) × (byte ≢ 13)) control_of name (none_of is_control name p5.0);
    }

pub no_fault-from_IsComponent : (name : List ℕ) → IsComponent name → name_fault name ≡ None
no_fault-from_IsComponent name p =
    passes (nat_eq (length name) 0) Empty _ (of_named (length name) p.named)
    (passes (nat_lt 255 (length name)) TooLong _ (of_short (length name) p.short)
    (passes (not (is_utf8 name)) NotUtf8 _ (of_text name p.text)
    (passes (is_dots name) Dot _
    (both_false (bytes_eq name (codes ".")) (bytes_eq name (codes ".."))
    (refutes _ (bytes_eq-Decides name (codes ".")) p.no_dots.0) (refutes _ (bytes_eq-Decides name (codes "..")) p.no_dots.1))
    (passes (list_any is_slash name) Slash _
    (list_any_none is_slash name (All-weaker (λ byte. byte ≢ 47) (λ byte. is_slash byte ≡ false) (λ byte. refutes _ (Decides-eqb byte 47)) name p.no_slash))
    (passes (list_any is_control name) Control _
    (list_any_none is_control name (All-weaker (λ byte. (byte ≢ 0) × (byte ≢ 10) × (byte ≢ 13)) (λ byte. is_control byte ≡ false) of_control name p.no_control))
    refl)))))
