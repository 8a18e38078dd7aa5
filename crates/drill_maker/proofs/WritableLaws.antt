-- Each request of a drill has a frame.
use Rattle.std.proofs.Common.{◌≡◌, refl, sym, subst, ℕ, ◌+◌, ◌≤◌, ◌<◌, ◌^◌, List, [], ◌∷◌, length, length-append, arith, lit≤}
use Rattle.std.specs.Fmt.{decimal}
use Rattle.std.proofs.lemmas.Fmt.{length-decimal-le_succ}
use Rattle.std.proofs.lemmas.List.{length-replicate}
use Rattle.fuse_requests.specs.declared.request.Request.TheVariants.{Init, Mkdir, Create, Write, Flush, Release, Unlink}
use Rattle.fuse_requests.specs.Text.{name_text, IsWritable}
use Rattle.fuse_requests.proofs.Writable.{writable}
use Rattle.drill_maker.specs.Drill.{size_of, content_of, directory_name, file_name}
use Rattle.drill_maker.proofs.NameLaws.{letter-IsName}

-- a letter and a small number are a short name
short_name : (letter n : ℕ) → n ≤ 16 → length (name_text (letter ∷ decimal n)) ≤ 135040
short_name letter n small =
    let fits : n < 2 ^ 64 = omega (arith, small) in
    let digits = length-decimal-le_succ n fits in
    let whole = length-append (letter ∷ decimal n) (0 ∷ []) in
    omega (arith, small, digits, whole)

content-le : (seed directory file : ℕ) → length (content_of seed directory file) ≤ 131072
unfolding content_of
content-le seed directory file =
    let long = length-replicate (size_of seed directory file) (directory + file) in
    omega (arith, long)

pub init_writable : IsWritable (Init 7 31 131072 4294967295)
init_writable = writable (Init 7 31 131072 4294967295) tt (lit≤ tt)

pub mkdir_writable : (directory : ℕ) (name : List ℕ) → name ≡ directory_name directory → directory ≤ 8 → IsWritable (Mkdir 1 name)
mkdir_writable directory name is small =
    subst (λ (n : List ℕ). IsWritable (Mkdir 1 n)) (sym is)
    (writable (Mkdir 1 (directory_name directory)) (letter-IsName 100 directory refl) (short_name 100 directory (omega (arith, small))))

pub create_writable : (file : ℕ) (name : List ℕ) → name ≡ file_name file → file ≤ 16 → IsWritable (Create 0 name)
create_writable file name is small =
    subst (λ (n : List ℕ). IsWritable (Create 0 n)) (sym is) (writable (Create 0 (file_name file)) (letter-IsName 102 file refl) (short_name 102 file small))

pub unlink_writable : (file : ℕ) (name : List ℕ) → name ≡ file_name file → file ≤ 16 → IsWritable (Unlink 0 name)
unlink_writable file name is small =
    subst (λ (n : List ℕ). IsWritable (Unlink 0 n)) (sym is) (writable (Unlink 0 (file_name file)) (letter-IsName 102 file refl) (short_name 102 file small))

pub write_writable : (seed directory file : ℕ) (content : List ℕ) → content ≡ content_of seed directory file → IsWritable (Write 0 0 0 content)
write_writable seed directory file content is =
    let long = content-le seed directory file in
    subst (λ (c : List ℕ). IsWritable (Write 0 0 0 c)) (sym is) (writable (Write 0 0 0 (content_of seed directory file)) tt (omega (arith, long)))

pub flush_writable : IsWritable (Flush 0 0)
flush_writable = writable (Flush 0 0) tt (lit≤ tt)

pub release_writable : IsWritable (Release 0 0)
release_writable = writable (Release 0 0) tt (lit≤ tt)
