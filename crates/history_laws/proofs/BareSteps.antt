-- What the requests make of nodes without moments: the same, where the moments that are kept never pass that of the step.
use Rattle.std.proofs.Common.{◌≡◌, ◌-◌, ℕ, Bool, true, false, List, Option, Some, None, refl, sym, subst, nat_le}
use Rattle.std.specs.FinMap as fin
use Rattle.std.specs.Option.{option_map, option_map_or, option_and_then}
use Rattle.std.specs.Prelude.{IfSome, ◌&&◌, ◌==◌, is_some, if◌then◌else◌}
use Rattle.bucket_api.specs.Metadata.{Metadata}
use Rattle.history_laws.proofs.Bare.{IsBare, IsKnown, IsWithin, bare_file, bare_inode, bare_later, bare_names, bare_node, bare_put, bare_taken, current_same, found_bare, on_node}
use Rattle.history_laws.proofs.ShownAgain.{AgainBare, AreNamed, IsCurrent, IsNews, bare_shown_or_new, current_again, refreshed_bare, refreshed_known}
use Rattle.inode_spec.specs.Inodes.{Names, forgotten, forgotten_at, is_live, left_without, let_go, made_current, with_file, with_inode, without_current}
use Rattle.mount_rules.specs.Mount.{File, Node, NodeTable}
use Rattle.mount_rules.specs.Requests.Flush.{table_with}
use Rattle.mount_rules.specs.Showing.{after_directory, after_showing, directory_again, file_shown, new_directory, new_node, object_again, refreshed}
use Rattle.mount_rules.specs.Standing as standing
use Rattle.mount_rules.specs.Standing.{Standing, refreshed_at}

-- ---- steps of requests
-- what is shown again of a directory
pub again_directory : (Known : List ℕ → ℕ → ℕ → Type 0) (table bare : NodeTable) → IsBare Known table bare → (name : List ℕ) (number : ℕ) (node : Node) → IsCurrent table name number node
    → AgainBare Known directory_again directory_again node
again_directory Known table bare so name number node current = record { is = refl; known = so.known number node current.1 }

pub directory_bare : (Known : List ℕ → ℕ → ℕ → Type 0) (table bare : NodeTable) → IsBare Known table bare → (name : List ℕ) → IsBare Known (after_directory table name) (after_directory bare name)
directory_bare Known table bare so name = bare_shown_or_new Known table bare so directory_again directory_again name (again_directory Known table bare so name) (new_directory name) tt

module _ (Known Then : List ℕ → ℕ → ℕ → Type 0) (within : IsWithin Known Then) (table bare : NodeTable) (so : IsBare Known table bare) where
  then_so : IsBare Then table bare
  then_so = bare_later Known Then within table bare so

  pub showing_bare : AreNamed table → (name : List ℕ) (meta : Metadata) (moment : ℕ) → IsNews Known Then name meta.generation moment
      → IsBare Then (after_showing table name meta moment) (after_showing bare name meta 0)
  showing_bare named name meta moment news = bare_shown_or_new Then table bare then_so (object_again meta moment) (object_again meta 0) name
      (current_again Known Then meta moment table bare so named name news) (new_node name meta moment) news.new

  -- the node keeps what the bucket told of its generation
  pub refreshing_bare : (number : ℕ) (meta : Metadata) (moment : ℕ) → IfSome (fin.get table.nodes number) (λ node. IsNews Known Then node.name meta.generation moment)
      → IsBare Then (refreshed_at table number meta moment) (refreshed_at bare number meta 0)
  refreshing_bare number meta moment its =
      subst (λ found. IsBare Then (refreshed_at table number meta moment) (told bare 0 found)) (sym (found_bare Then table bare then_so number)) (by (fin.get table.nodes number) refl its)
    where
      told : NodeTable → ℕ → Option Node → NodeTable
      told t at found = option_map_or (λ (file : File). option_map_or (λ (node : Node). with_inode t number (record node { file = Some (refreshed meta at file) })) found t)
          (option_and_then (λ (node : Node). node.file) found) t

      by : (found : Option Node) → fin.get table.nodes number ≡ found → IfSome found (λ node. IsNews Known Then node.name meta.generation moment)
          → IsBare Then (told table moment found) (told bare 0 (option_map bare_node found))
      by None there news = then_so
      by (Some node) there news = kept node.file refl
        where
          kept : (file : Option File) → node.file ≡ file
              → IsBare Then (option_map_or (λ (f : File). with_inode table number (record node { file = Some (refreshed meta moment f) })) file table)
              (option_map_or (λ (f : File). with_inode bare number (record (bare_node node) { file = Some (refreshed meta 0 f) })) (option_map bare_file file) bare)
          kept None is = then_so
          kept (Some file) is =
              let known : IfSome (Some file) (λ (f : File). Known node.name f.source f.kept.known) =
              subst (λ f. IfSome f (λ (f : File). Known node.name f.source f.kept.known)) is (so.known number node there) in
              subst (λ f. IsBare Then (with_inode table number (record node { file = Some (refreshed meta moment file) })) (with_inode bare number (record (bare_node node) { file = Some f })))
              (refreshed_bare meta moment file)
              (bare_inode Then table bare then_so number (record node { file = Some (refreshed meta moment file) }) (refreshed_known meta moment file Known Then node.name news known within))

  -- by how the generation stands
  pub standing_bare : (number : ℕ) (found : Standing) (moment : ℕ)
      → ((meta : Metadata) → found ≡ standing.live meta → IfSome (fin.get table.nodes number) (λ node. IsNews Known Then node.name meta.generation moment))
      → IsBare Then (standing.table_after table number moment found) (standing.table_after bare number 0 found)
  standing_bare number standing.unasked moment news = then_so
  standing_bare number (standing.live meta) moment news = refreshing_bare number meta moment (news meta refl)
  standing_bare number standing.gone moment news = then_so
  standing_bare number standing.fault moment news = then_so

module _ (Known : List ℕ → ℕ → ℕ → Type 0) (table bare : NodeTable) (so : IsBare Known table bare) where
  -- the node shows a new generation
  pub with_file_bare : (number : ℕ) (meta : Metadata) (moment : ℕ) → IfSome (fin.get table.nodes number) (λ node. Known node.name meta.generation moment)
      → IsBare Known (with_file table number (file_shown meta moment)) (with_file bare number (file_shown meta 0))
  with_file_bare number meta moment its = on_node Known table bare so number _ _ (λ node there.
      bare_inode Known table bare so number (record node { file = Some (file_shown meta moment) }) (subst (λ found. IfSome found (λ node. Known node.name meta.generation moment)) there its))

  pub left_bare : (number : ℕ) (held : Bool) (node : Node) (current : Names) → IsKnown Known node
      → IsBare Known (record table { nodes = left_without table.nodes number held node; current = current })
      (record bare { nodes = left_without bare.nodes number held (bare_node node); current = current })
  left_bare number held node current known = by held node.file refl
    where
      stays : (file : Option File) → node.file ≡ file → IsBare Known (record table { nodes = fin.insert table.nodes number (record node { lookups = 0 }); current = current })
          (record bare { nodes = fin.insert bare.nodes number (record (bare_node node) { lookups = 0 }); current = current })
      stays file is = subst (λ (t : NodeTable). IsBare Known (record table { nodes = fin.insert table.nodes number (record node { lookups = 0 }); current = current })
          (record { nodes = fin.insert bare.nodes number (record (bare_node node) { lookups = 0 }); current = current; next = t.next })) so.is
          (bare_put Known table bare so number (record node { lookups = 0 }) current table.next known)

      gone : IsBare Known (record table { nodes = fin.remove table.nodes number; current = current }) (record bare { nodes = fin.remove bare.nodes number; current = current })
      gone = bare_taken Known table bare so number current

      by : (h : Bool) (file : Option File) → node.file ≡ file
          → IsBare Known (record table { nodes = if h && is_some node.file then fin.insert table.nodes number (record node { lookups = 0 }) else fin.remove table.nodes number; current = current })
          (record bare {
            nodes = if h && is_some (option_map bare_file node.file) then fin.insert bare.nodes number (record (bare_node node) { lookups = 0 }) else fin.remove bare.nodes number;
            current = current;
          })
      by false file is = gone
      by true None is = subst (λ f. IsBare Known (record table
          { nodes = if is_some f then fin.insert table.nodes number (record node { lookups = 0 }) else fin.remove table.nodes number; current = current })
          (record bare {
            nodes = if is_some (option_map bare_file f) then fin.insert bare.nodes number (record (bare_node node) { lookups = 0 }) else fin.remove bare.nodes number;
            current = current;
          })) (sym is) gone
      by true (Some file) is = subst (λ f. IsBare Known
          (record table { nodes = if is_some f then fin.insert table.nodes number (record node { lookups = 0 }) else fin.remove table.nodes number; current = current })
          (record bare {
            nodes = if is_some (option_map bare_file f) then fin.insert bare.nodes number (record (bare_node node) { lookups = 0 }) else fin.remove bare.nodes number;
            current = current;
          })) (sym is)
          (stays (Some file) is)

  pub forgetting_bare : (number count : ℕ) (held : Bool) → IsBare Known (forgotten table number count held) (forgotten bare number count held)
  forgetting_bare number count held = by (number == 1)
    where
      given : (node : Node) → IsKnown Known node → (every : Bool)
          → IsBare Known (if every then record table { nodes = left_without table.nodes number held node; current = without_current table.current node.name number }
          else with_inode table number (record node { lookups = node.lookups - count }))
          (if every then record bare { nodes = left_without bare.nodes number held (bare_node node); current = without_current bare.current node.name number }
          else with_inode bare number (record (bare_node node) { lookups = node.lookups - count }))
      given node known true =
          subst (λ (c : Names). IsBare Known (record table { nodes = left_without table.nodes number held node; current = without_current table.current node.name number })
          (record bare { nodes = left_without bare.nodes number held (bare_node node); current = without_current c node.name number })) (current_same Known table bare so)
          (left_bare number held node (without_current table.current node.name number) known)
      given node known false = bare_inode Known table bare so number (record node { lookups = node.lookups - count }) known

      some : (node : Node) → IsKnown Known node → (none : Bool) → IsBare Known (if none then table else forgotten_at table number count held node)
          (if none then bare else forgotten_at bare number count held (bare_node node))
      some node known true = so
      some node known false = given node known (nat_le node.lookups count)

      by : (root : Bool)
          → IsBare Known (if root then table else option_map_or (λ (node : Node). if node.lookups == 0 then table else forgotten_at table number count held node) (fin.get table.nodes number) table)
          (if root then bare else option_map_or (λ (node : Node). if node.lookups == 0 then bare else forgotten_at bare number count held node) (fin.get bare.nodes number) bare)
      by true = so
      by false = on_node Known table bare so number _ _ (λ node there. some node (so.known number node there) (node.lookups == 0))

  pub let_go_bare : (number : ℕ) → IsBare Known (let_go table number) (let_go bare number)
  let_go_bare number = on_node Known table bare so number _ _ (λ node there. by (is_live number node))
    where
      by : (live : Bool) → IsBare Known (if live then table else record table { nodes = fin.remove table.nodes number }) (if live then bare else record bare { nodes = fin.remove bare.nodes number })
      by true = so
      by false = subst (λ (c : Names). IsBare Known (record table { nodes = fin.remove table.nodes number }) (record bare { nodes = fin.remove bare.nodes number; current = c }))
          (current_same Known table bare so)
          (bare_taken Known table bare so number table.current)

-- a flush that made a generation: the node shows it, and becomes the current one of its name
pub table_with_bare : (Known : List ℕ → ℕ → ℕ → Type 0) (table bare : NodeTable) → IsBare Known table bare → (number : ℕ) (meta : Metadata) (moment : ℕ)
    → IfSome (fin.get table.nodes number) (λ node. Known node.name meta.generation moment) → IsBare Known (table_with table number meta moment) (table_with bare number meta 0)
table_with_bare Known table bare so number meta moment its = on_node Known told bare_told here number _ _ (λ node there. by node (is_live number node))
  where
    told : NodeTable
    told = with_file table number (file_shown meta moment)

    bare_told : NodeTable
    bare_told = with_file bare number (file_shown meta 0)

    here : IsBare Known told bare_told
    here = with_file_bare Known table bare so number meta moment its

    by : (node : Node) (live : Bool) → IsBare Known (if live then made_current told number node.name else told) (if live then made_current bare_told number node.name else bare_told)
    by node true = bare_names Known told bare_told here (λ current. fin.insert current node.name number)
    by node false = here
