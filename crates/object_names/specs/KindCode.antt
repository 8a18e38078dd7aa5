-- How kinds of nodes are told apart, by numbers.
use Rattle.std.specs.Prelude.{◌≡◌, ℕ, zero, suc, refl}
use Rattle.std.specs.Coded.{Coded, code_by, coded_ℕ}
use Rattle.object_names.specs.declared.shown.NodeKind.{NodeKind}
use Rattle.object_names.specs.declared.shown.NodeKind.TheVariants.{Dir, File, Symlink}

abbrev pub kind_number : NodeKind → ℕ
kind_number Dir = 0
kind_number File = 1
kind_number Symlink = 2

abbrev pub numbered_kind : ℕ → NodeKind
numbered_kind zero = Dir
numbered_kind (suc zero) = File
numbered_kind (suc (suc n)) = Symlink

pub same_kind : (kind : NodeKind) → numbered_kind (kind_number kind) ≡ kind
same_kind Dir = refl
same_kind File = refl
same_kind Symlink = refl

abbrev pub kind_code : Coded NodeKind
kind_code = code_by ℕ coded_ℕ kind_number numbered_kind same_kind
