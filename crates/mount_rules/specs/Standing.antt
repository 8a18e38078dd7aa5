-- How the generation stands that a node shows: the bucket is asked for the object of the node's own name.
use Rattle.std.specs.Prelude.{ℕ, ◌==◌, List, [], ◌∷◌, Option, Some, None, option_and_then, if◌then◌else◌}
use Rattle.std.specs.Option.{option_map_or}
use Rattle.bucket_api.specs.Metadata.{Metadata}
use Rattle.bucket_api.specs.Operation.{stat}
use Rattle.bucket_api.specs.declared.answers.Answer.{Answer}
use Rattle.bucket_api.specs.declared.answers.Answer.TheVariants as answers
use Rattle.claim_spec.specs.declared.claim.Claim.{Claim}
use Rattle.inode_spec.specs.Inodes.{file_of, with_file}
use Rattle.mount_rules.specs.Claiming.{shares_name, shares_node}
use Rattle.mount_rules.specs.Guards.{is_directory}
use Rattle.mount_rules.specs.Mount.{File, NodeTable}
use Rattle.mount_rules.specs.Plans.{Step, ask, done}
use Rattle.mount_rules.specs.Showing.{refreshed}
use Rattle.mount_rules.specs.View.{Sight, View}
use Rattle.staging_spec.specs.StagedFiles.{StagedContent}

-- the name that is asked for; a directory shows no generation, and a file with staged content shows that
abbrev pub name_of : Option StagedContent → Sight → Option (List ℕ)
name_of None sight = if is_directory sight.kind then None else Some sight.name
name_of (Some staged) sight = None

abbrev pub asked_name : View → Option (List ℕ)
asked_name view = option_and_then (name_of view.staged) view.node

-- a name is asked for once
abbrev pub plan : Option (List ℕ) → List Answer → Step
plan None answers = done
plan (Some name) [] = ask (stat name)
plan (Some name) (a ∷ more) = done

-- What is known of the generation: nothing was asked; it is live, with this metadata; it is live no more, since another
-- one is, or none; or the bucket failed.
pub data Standing : Type 0 where
  unasked : Standing
  live : Metadata → Standing
  gone : Standing
  fault : Standing

abbrev pub standing_by : ℕ → Answer → Standing
standing_by generation (answers.Meta meta) = if meta.generation == generation then live meta else gone
standing_by generation answers.NotFound = gone
standing_by generation _ = fault

abbrev pub standing : ℕ → List Answer → Standing
standing generation [] = unasked
standing generation (a ∷ more) = standing_by generation a

-- the generation that a node shows which is seen
abbrev pub generation_seen : Option Sight → ℕ
generation_seen seen = option_map_or (λ (sight : Sight). sight.source) seen 0

-- the nodes after the bucket showed this object at a moment: the node keeps it, where it shows that generation
abbrev pub refreshed_at : NodeTable → ℕ → Metadata → ℕ → NodeTable
refreshed_at table number meta moment =
    option_map_or (λ (file : File). with_file table number (refreshed meta moment file)) (file_of table number) table

abbrev pub table_after : NodeTable → ℕ → ℕ → Standing → NodeTable
table_after table number moment unasked = table
table_after table number moment (live meta) = refreshed_at table number meta moment
table_after table number moment gone = table
table_after table number moment fault = table

-- the record that is looked for
abbrev pub keys : View → List (List ℕ)
keys view = option_map_or (λ name. name ∷ []) (asked_name view) []

-- the node, and its name, which the bucket is asked for
abbrev pub claims : ℕ → View → List Claim
claims node view = shares_node node ∷ shares_name (option_map_or (λ (sight : Sight). sight.name) view.node []) ∷ []
