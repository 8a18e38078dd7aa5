-- An operation on a bucket, as plain data: an `Op` with lists in place of its rows.
use Rattle.std.specs.Prelude.{ℕ, ◌≤◌, ◌≢◌, Bool, List, [], length, Option, IfSome}
use Rattle.bucket_api.specs.declared.objects.Pair.{Pair}
use Rattle.bucket_api.specs.declared.operations.Op.{Op}
use Rattle.bucket_api.specs.declared.operations.Op.TheVariants.{Stat, Read, Insert, Update, Delete, Copy, List as ListKeys}
use Rattle.bucket_api.specs.Metadata.{KeysRise}
use Rattle.bucket_api.specs.Names.{IsObjectName}

pub data Operation : Type 0 where
  stat : (name : List ℕ) → Operation
  read : (name : List ℕ) (generation first count : ℕ) → Operation
  insert : (name content : List ℕ) (pairs : List Pair) (only : Option ℕ) (stamp : ℕ) → Operation
  update : (name : List ℕ) (pairs : List Pair) (only only_meta : Option ℕ) (stamp : ℕ) → Operation
  delete : (name : List ℕ) (only : Option ℕ) → Operation
  copy : (from : List ℕ) (generation : ℕ) (to : List ℕ) (stamp : ℕ) → Operation
  list : (prefix : List ℕ) (slash : Bool) (max : ℕ) (after : Option (List ℕ)) → Operation

-- what the `Op` asks
abbrev pub operation : Op → Operation
operation (Stat name) = stat name
operation (Read name generation first count) = read name generation first count
operation (Insert name content pairs only stamp) = insert name content pairs.items only stamp
operation (Update name pairs only only_meta stamp) = update name pairs.items only only_meta stamp
operation (Delete name only) = delete name only
operation (Copy from generation to stamp) = copy from generation to stamp
operation (ListKeys prefix slash max after) = list prefix slash max after

-- the most bytes of a content
abbrev pub max_content : ℕ
max_content = 16777216

-- the operation may be asked: its names are names of objects, its content is at most 16 MiB, the
-- keys of its pairs rise, a page shows at least one key, and it begins after no key or one that is not empty
abbrev pub IsAllowed : Operation → Type 0
IsAllowed (stat name) = IsObjectName name
IsAllowed (read name generation first count) = IsObjectName name
IsAllowed (insert name content pairs only stamp) = IsObjectName name × (length content ≤ max_content) × KeysRise pairs
IsAllowed (update name pairs only only_meta stamp) = IsObjectName name × KeysRise pairs
IsAllowed (delete name only) = IsObjectName name
IsAllowed (copy from generation to stamp) = IsObjectName from × IsObjectName to
IsAllowed (list prefix slash max after) = (1 ≤ max) × IfSome after (λ key. key ≢ [])
