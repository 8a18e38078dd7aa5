-- A body of each kind of layout is read back from its text.
use Rattle.std.proofs.Common.{◌≡◌, ℕ, List, [], ◌++◌, Ok, length, refl}
use Rattle.std.specs.List.{AllByRecursion}
use Rattle.fuse_head.specs.Little.{u32_at}
use Rattle.fuse_requests.specs.declared.request.Forgotten.{Forgotten}
use Rattle.fuse_requests.specs.declared.request.Request.{Request}
use Rattle.fuse_requests.specs.Layout.{Field, fields_text, read_body, alone, open_ended, named, twice_named, filled, paired}
use Rattle.fuse_requests.specs.Text.{IsName, name_text, pairs_text, PairFits}
use Rattle.fuse_requests.proofs.FieldTexts.{fields_len, after_fixed-text}
use Rattle.fuse_requests.proofs.TailTexts.{last_name-text, last_two_names-text, last_bytes-text, last_pairs-text}

pub alone-text : (fields : List Field) (make : List ℕ → Request) → read_body (alone (fields_len fields) make) (fields_text fields ++ []) ≡ Ok (make (fields_text fields ++ []))
alone-text fields make = rw (after_fixed-text fields []) refl

pub open_ended-text : (fields : List Field) (make : List ℕ → Request) → read_body (open_ended (fields_len fields) make) (fields_text fields ++ []) ≡ Ok (make (fields_text fields ++ []))
open_ended-text fields make = rw (after_fixed-text fields []) refl

pub named-text : (fields : List Field) (name : List ℕ) (make : List ℕ → List ℕ → Request) → IsName name
    → read_body (named (fields_len fields) make) (fields_text fields ++ name_text name) ≡ Ok (make (fields_text fields ++ name_text name) name)
named-text fields name make is = rw (after_fixed-text fields (name_text name), last_name-text name is) refl

pub twice_named-text : (fields : List Field) (name other : List ℕ) (make : List ℕ → List ℕ → List ℕ → Request) → IsName name → IsName other
    → read_body (twice_named (fields_len fields) make) (fields_text fields ++ (name_text name ++ name_text other))
    ≡ Ok (make (fields_text fields ++ (name_text name ++ name_text other)) name other)
twice_named-text fields name other make is other_is =
    rw (after_fixed-text fields (name_text name ++ name_text other), last_two_names-text name other is other_is) refl

pub filled-text : (fields : List Field) (size : ℕ) (content : List ℕ) (make : List ℕ → List ℕ → Request) → u32_at (fields_text fields ++ content) size ≡ length content
    → read_body (filled (fields_len fields) size make) (fields_text fields ++ content) ≡ Ok (make (fields_text fields ++ content) content)
filled-text fields size content make told = rw (after_fixed-text fields content, told, last_bytes-text content) refl

pub paired-text : (fields : List Field) (count : ℕ) (pairs : List Forgotten) (make : List Forgotten → Request) → AllByRecursion PairFits pairs
    → u32_at (fields_text fields ++ pairs_text pairs) count ≡ length pairs
    → read_body (paired (fields_len fields) count make) (fields_text fields ++ pairs_text pairs) ≡ Ok (make pairs)
paired-text fields count pairs make fit told = rw (after_fixed-text fields (pairs_text pairs), told, last_pairs-text pairs fit) refl
