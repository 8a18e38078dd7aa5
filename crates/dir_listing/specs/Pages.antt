-- What a page adds to what was listed of a directory.
use Rattle.std.specs.Prelude.{ℕ, Bool, List, [], ◌∷◌, ◌++◌, map}
use Rattle.bucket_api.specs.Metadata.{Metadata}
use Rattle.bucket_api.specs.PageData.{PageData}
use Rattle.object_names.specs.ShownNames.{Listed}
use Rattle.object_names.specs.declared.shown.NodeKind.{NodeKind}
use Rattle.dir_listing.specs.Kinds.{node_kind}

-- the name of an object that a page shows, and what the object is
abbrev pub item_of : Metadata → (List ℕ × NodeKind)
item_of meta = (meta.name, node_kind meta)

-- a directory of which no page was listed yet
abbrev pub none_listed : List ℕ → Bool → Listed
none_listed prefix implicit = record { prefix = prefix; items = []; prefixes = []; implicit = implicit }

-- what was listed with one page more, behind the others
abbrev pub with_page : Listed → PageData → Listed
with_page listed page = record { prefix = listed.prefix; items = listed.items ++ map item_of page.items; prefixes = listed.prefixes ++ page.prefixes; implicit = listed.implicit }

-- what was listed with these pages more, one after another
abbrev pub with_pages : Listed → List PageData → Listed
with_pages listed [] = listed
with_pages listed (page ∷ pages) = with_pages (with_page listed page) pages
