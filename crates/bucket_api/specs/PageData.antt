-- A page of a listing, as plain data.
use Rattle.std.specs.Prelude.{ℕ, List, Option}
use Rattle.bucket_api.specs.Metadata.{Metadata}

pub record PageData : Type 0 where
  pub items : List Metadata
  pub prefixes : List (List ℕ)
  pub next : Option (List ℕ)
