-- The tests of names and frames decide what names and frames are.
use Rattle.std.proofs.Common.{◌≡◌, refl, ℕ, ◌≤◌, Bool, List, length}
use Rattle.std.specs.Prelude.{Decides, nat_le, codes, All}
use Rattle.std.specs.List.{list_all}
use Rattle.std.specs.Bool.{one_answer}
use Rattle.std.proofs.lemmas.Bool.{leb-true, le-leb}
use Rattle.std.proofs.lemmas.Bool.Decides.{Decides-and, Decides-by_and, Decides-not, Decides-eqb}
use Rattle.std.proofs.lemmas.Slice.Eq.{bytes_eq-Decides}
use Rattle.bucket_api.specs.Names.{IsNameByte, IsObjectName}
use Rattle.fuse_head.specs.Head.{IsWholeFrame}
use Rattle.fuse_head.specs.Little.{u32_at}
use Rattle.scenario.specs.Checks.{is_name_byte, is_object_name, is_whole_frame}

Decides-nat_le : (a b : ℕ) → Decides (nat_le a b) (a ≤ b)
Decides-nat_le a b = (leb-true a b, le-leb a b)

Decides-name_byte : (b : ℕ) → Decides (is_name_byte b) (IsNameByte b)
Decides-name_byte b = Decides-and _ _ (Decides-not _ (Decides-eqb b 10)) (Decides-not _ (Decides-eqb b 13))

Decides-name_bytes : (name : List ℕ) → Decides (list_all is_name_byte name) (All IsNameByte name)
Decides-name_bytes = Decides-by_and is_name_byte IsNameByte (list_all is_name_byte) Decides-name_byte refl (λ _ _. refl)

Decides-object_name : (name : List ℕ) → Decides (is_object_name name) (IsObjectName name)
unfolding is_object_name
Decides-object_name name =
    let all = Decides-and _ _ (Decides-and _ _ (Decides-and _ _ (Decides-and _ _ (Decides-nat_le 1 (length name)) (Decides-nat_le (length name) 1024)) (Decides-name_bytes name)) (Decides-not _ (bytes_eq-Decides name (codes ".")))) (Decides-not _ (bytes_eq-Decides name (codes ".."))) in (
      λ h. let p = all.0 h in record { some = p.0.0.0.0; bounded = p.0.0.0.1; bytes = p.0.0.1; not_dot = p.0.1; not_dots = p.1 },
      λ is. all.1 ((((is.some, is.bounded), is.bytes), is.not_dot), is.not_dots),
    )

Decides-whole_frame : (bytes : List ℕ) → Decides (is_whole_frame bytes) (IsWholeFrame bytes)
unfolding is_whole_frame
Decides-whole_frame bytes =
    let all = Decides-and _ _ (Decides-and _ _ (Decides-nat_le 40 (length bytes)) (Decides-nat_le (length bytes) 135168)) (Decides-eqb (u32_at bytes 0) (length bytes)) in (
      λ h. let p = all.0 h in record { headed = p.0.0; fits = p.0.1; told = p.1 },
      λ is. all.1 ((is.headed, is.fits), is.told),
    )

-- what another test of the same says is what the test says
pub name_test : (name : List ℕ) (allowed : Bool) → Decides allowed (IsObjectName name) → is_object_name name ≡ allowed
name_test name allowed h = one_answer (is_object_name name) allowed (Decides-object_name name) h

pub frame_test : (bytes : List ℕ) (whole : Bool) → Decides whole (IsWholeFrame bytes) → is_whole_frame bytes ≡ whole
frame_test bytes whole h = one_answer (is_whole_frame bytes) whole (Decides-whole_frame bytes) h
