-- Paths, and paths with a slash, are names of objects.
use Rattle.std.proofs.Common.{◌≡◌, ◌≢◌, ℕ, ◌+◌, ◌≤◌, List, [], ◌∷◌, ◌++◌, length, refl, sym, ap, subst, ◌∙◌, All, get_or, arith, length-append, codes}
use Rattle.std.proofs.lemmas.List.Elements.{All-append, All-cons, All-nil, All-head, All-tail, All-weaker}
use Rattle.bucket_api.specs.Names.{IsNameByte, IsObjectName}
use Rattle.object_names.specs.Components.{IsComponent}
use Rattle.object_names.specs.Paths.{prefix_of, IsPrefix, IsPath}
use Rattle.dir_listing.specs.PathNames.{PathsNameObjects}

slash_byte : IsNameByte 47
slash_byte = (λ e. omega (arith, e), λ e. omega (arith, e))

-- the bytes of a component may stand in a name
component_bytes : (part : List ℕ) → IsComponent part → All IsNameByte part
component_bytes part is = All-weaker (λ byte. (byte ≢ 0) × (byte ≢ 10) × (byte ≢ 13)) IsNameByte (λ byte h. (h.1, h.2)) part is.no_control

prefix_bytes : (parts : List (List ℕ)) → All IsComponent parts → All IsNameByte (prefix_of parts)
prefix_bytes [] are = All-nil IsNameByte
prefix_bytes (part ∷ parts) are =
    All-append IsNameByte part (47 ∷ prefix_of parts) (component_bytes part (All-head IsComponent part parts are))
    (All-cons IsNameByte 47 (prefix_of parts) slash_byte (prefix_bytes parts (All-tail IsComponent part parts are)))

-- a name of more than two bytes is neither `.` nor `..`
long_name : (name : List ℕ) → 3 ≤ length name → (name ≢ codes ".") × (name ≢ codes "..")
long_name name long = (λ e. omega (arith, ap length e), λ e. omega (arith, ap length e))

not_dots : (parts : List (List ℕ)) (part : List ℕ) → All IsComponent parts → IsComponent part → (prefix_of parts ++ part ≢ codes ".") × (prefix_of parts ++ part ≢ codes "..")
not_dots [] part are child = child.no_dots
not_dots (first ∷ parts) part are child =
    let named : 1 ≤ length first = (All-head IsComponent first parts are).named in
    let also : 1 ≤ length part = child.named in
    long_name ((first ++ 47 ∷ prefix_of parts) ++ part)
    (omega (arith, length-append (first ++ 47 ∷ prefix_of parts) part, length-append first (47 ∷ prefix_of parts)))

path_name : (parts : List (List ℕ)) (part : List ℕ) → All IsComponent parts → IsComponent part → length (prefix_of parts ++ part) ≤ 1023 → IsObjectName (prefix_of parts ++ part)
path_name parts part are child short = let named : 1 ≤ length part = child.named in record {
  some = omega (arith, length-append (prefix_of parts) part);
  bounded = omega arith;
  bytes = All-append IsNameByte (prefix_of parts) part (prefix_bytes parts are) (component_bytes part child);
  not_dot = (not_dots parts part are child).0;
  not_dots = (not_dots parts part are child).1;
}

-- a name of an object that is not too long is one with a slash too
with_slash : (path : List ℕ) → IsObjectName path → length path ≤ 1023 → IsObjectName (path ++ 47 ∷ [])
with_slash path is short = let some : 1 ≤ length path = is.some in let long = length-append path (47 ∷ []) in record {
  some = omega arith;
  bounded = omega arith;
  bytes = All-append IsNameByte path (47 ∷ []) is.bytes (All-cons IsNameByte 47 [] slash_byte (All-nil IsNameByte));
  not_dot = λ e. omega (arith, ap length e);
  not_dots = λ e. no_dots path e;
}
  where
    no_dots : (path : List ℕ) → path ++ 47 ∷ [] ≡ codes ".." → ⊥
    no_dots [] e = omega (arith, ap length e)
    no_dots (b ∷ []) e = let second : 47 ≡ 46 = ap (λ (l : List ℕ). get_or l 1 0) e in omega (arith, second)
    no_dots (b ∷ c ∷ bs) e = omega (arith, ap length e, length-append bs (47 ∷ []))

pub paths_name : PathsNameObjects
paths_name path is =
    let parent : path ≡ prefix_of is.parent.parts ++ is.part = is.is ∙ ap (λ p. p ++ is.part) is.parent.is in
    let name : IsObjectName path = subst IsObjectName (sym parent) (path_name is.parent.parts is.part is.parent.components is.child (subst (λ p. length p ≤ 1023) parent is.short)) in
    (name, with_slash path name is.short)
