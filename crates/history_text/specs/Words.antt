-- The words of a printed line. Numbers are decimal, hexadecimal digits are lower case.
use Rattle.std.specs.Prelude.{ℕ, List, [], ◌∷◌, ◌++◌, codes, Option, Some, None, if◌then◌else◌}
use Rattle.std.specs.Fmt.{decimal}
use Rattle.std.specs.List.{flat_map}
use Rattle.hex.specs.Hex.{encode_lower}
use Rattle.bucket_api.specs.declared.objects.Pair.{Pair}
use Rattle.mount_model.specs.declared.gate.CallId.{CallId}
use Rattle.mount_model.specs.declared.journal.Use.{Use}

-- words that follow another on a line, each behind a space
abbrev pub spaced : List (List ℕ) → List ℕ
spaced words = flat_map (λ word. codes " " ++ word) words

-- a line: its words with a space between them, and a line feed
abbrev pub line : List (List ℕ) → List ℕ
line [] = 10 ∷ []
line (word ∷ words) = word ++ spaced words ++ 10 ∷ []

-- bytes: their digits, or a dash where there are none
abbrev pub bytes_word : List ℕ → List ℕ
bytes_word [] = codes "-"
bytes_word (b ∷ bs) = encode_lower (b ∷ bs)

-- a pair: the digits of its key, `=`, and those of its value, which may be none
abbrev pub pair_text : Pair → List ℕ
pair_text p = encode_lower p.key ++ codes "=" ++ encode_lower p.value

-- pairs: with a comma between them, or a dash where there are none
abbrev pub pairs_word : List Pair → List ℕ
pairs_word [] = codes "-"
pairs_word (p ∷ ps) = pair_text p ++ flat_map (λ q. codes "," ++ pair_text q) ps

-- a precondition: its number, or a star where there is none
abbrev pub only_word : Option ℕ → List ℕ
only_word None = codes "*"
only_word (Some n) = decimal n

-- a key after which a page begins, or a dash where there is none
abbrev pub after_word : Option (List ℕ) → List ℕ
after_word None = codes "-"
after_word (Some key) = bytes_word key

-- a reply frame, where no bytes are no reply
abbrev pub frame_word : List ℕ → List ℕ
frame_word [] = codes "none"
frame_word (b ∷ bs) = encode_lower (b ∷ bs)

-- a call: its lane and its index, with a dot between them
abbrev pub call_word : CallId → List ℕ
call_word call = decimal call.lane ++ codes "." ++ decimal call.index

-- a use: `o`, its moment and whether it was kept for the call's own operation; `r` and its moment for a record
abbrev pub use_word : Use → List ℕ
use_word u = if u.own then codes "o" ++ decimal u.moment ++ (if u.kept then codes "k" else codes "d") else codes "r" ++ decimal u.moment
