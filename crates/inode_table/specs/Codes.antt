-- How tables of nodes are told apart.
use Rattle.std.specs.Prelude.{ℕ, List, Option, refl}
use Rattle.std.specs.Coded.{Coded, code_by, coded×, coded_ℕ, coded_list, coded_option}
use Rattle.std.specs.FinMap as fin
use Rattle.inode_spec.specs.Inodes.{Inode, Inodes, Nodes, Names}
use Rattle.object_names.specs.KindCode.{kind_code}
use Rattle.object_names.specs.declared.shown.NodeKind.{NodeKind}

abbrev pub inode_code : {F : Type 0} → Coded F → Coded (Inode F)
inode_code {F} file =
    code_by
    (NodeKind × (List ℕ × (ℕ × Option F)))
    (coded× kind_code (coded× (coded_list coded_ℕ) (coded× coded_ℕ (coded_option file))))
    (λ i. (i.kind, (i.name, (i.lookups, i.file))))
    (λ p. record { kind = p.0; name = p.1.0; lookups = p.1.1.0; file = p.1.1.1 })
    (λ _. refl)

abbrev pub inodes_code : {F : Type 0} → Coded F → Coded (Inodes F)
inodes_code {F} file =
    code_by
    (Nodes F × (Names × ℕ))
    (coded× (fin.code coded_ℕ (inode_code file)) (coded× (fin.code (coded_list coded_ℕ) coded_ℕ) coded_ℕ))
    (λ t. (t.nodes, (t.current, t.next)))
    (λ p. record { nodes = p.0; current = p.1.0; next = p.1.1 })
    (λ _. refl)
