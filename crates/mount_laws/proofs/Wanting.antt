-- What is held of a file that is seen, and what is wanted of its source: both lie in a file that is there.
use Rattle.std.proofs.Common.{◌≡◌, ◌≤◌, ℕ, Bool, true, false, Option, Some, None, refl, sym, ap, subst, ◌∙◌, nat_lt, arith}
use Rattle.std.proofs.lemmas.Bool.{false≢true}
use Rattle.std.proofs.lemmas.Bool.Decides.{nat_tests}
use Rattle.std.specs.Prelude.{if◌then◌else◌}
use Rattle.std.specs.FinMap as fin
use Rattle.std.specs.Option.{option_map_or}
use Rattle.bucket_api.specs.Operation.{read}
use Rattle.mount_rules.specs.Files.{overlay_of}
use Rattle.mount_rules.specs.Guards.{is_directory}
use Rattle.mount_rules.specs.Laws.{IsOfFile}
use Rattle.mount_rules.specs.Mount.{File, IsKeptOf, IsMount, IsStagedAt, MountModel, Node}
use Rattle.mount_rules.specs.Plans.{IsReadOf, Wanted}
use Rattle.mount_rules.specs.Reading.{source_of, wanting}
use Rattle.mount_rules.specs.View.{Sight, sight_at}
use Rattle.object_names.specs.declared.shown.NodeKind.{NodeKind}
use Rattle.object_names.specs.declared.shown.NodeKind.TheVariants.{Dir, File as RegularFile, Symlink}
use Rattle.staging_spec.specs.StagedFiles.{StagedContent}
use Rattle.staging_spec.specs.Wanted.{IsWithin, Range}
use Rattle.mount_laws.proofs.Children.{IsSeen, IsSeen-at}
use Rattle.mount_laws.proofs.Keeping.{no_Some, same_Some}
use Rattle.mount_laws.proofs.Staying.{file_in}

-- a node that is seen, with its file
pub record IsFileSeen (mount : MountModel) (number : ℕ) (sight : Sight) : Type 0 where
  pub node : Node
  pub file : File
  pub there : fin.get mount.table.nodes number ≡ Some node
  pub has : node.file ≡ Some file
  pub named : sight.name ≡ node.name
  pub shown : sight.source ≡ file.source
  pub sized : sight.size ≡ file.size

module _ (mount : MountModel) (number : ℕ) (sight : Sight) (seen : sight_at mount.table number ≡ Some sight) where
  s : IsSeen mount.table number sight
  s = IsSeen-at mount.table number sight seen

  sized_by : (file : Option File) → s.node.file ≡ file → sight.size ≡ option_map_or (λ (x : File). x.size) file 0
  sized_by file has = ap (λ (x : Sight). x.size) (sym s.is) ∙ ap (λ f. option_map_or (λ (x : File). x.size) f 0) has

  with_file : (file : File) → s.node.file ≡ Some file → IsFileSeen mount number sight
  with_file file has = record {
    node = s.node;
    file = file;
    there = s.there;
    has = has;
    named = ap (λ (x : Sight). x.name) (sym s.is);
    shown = ap (λ (x : Sight). x.source) (sym s.is) ∙ ap (λ f. option_map_or (λ (x : File). x.source) f 0) has;
    sized = sized_by (Some file) has;
  }

  -- one with bytes has a file
  pub IsFileSeen-sized : 1 ≤ sight.size → IsFileSeen mount number sight
  IsFileSeen-sized some = by s.node.file refl
    where
      by : (file : Option File) → s.node.file ≡ file → IsFileSeen mount number sight
      by (Some file) has = with_file file has
      by None has =
          let none : sight.size ≡ 0 = sized_by None has in
          absurd (omega (arith, some, none))

  module _ (is : IsMount mount) where
    -- and one that is no directory
    pub IsFileSeen-kind : is_directory sight.kind ≡ false → IsFileSeen mount number sight
    IsFileSeen-kind file = by s.node.kind (ap (λ (x : Sight). is_directory x.kind) s.is ∙ file) s.node.file refl (is.files number s.node s.there)
      where
        some : (found : Option File) → s.node.file ≡ found → IsKeptOf RegularFile found → IsFileSeen mount number sight
        some (Some f) has kept = with_file f has
        some None has kept = absurd (false≢true kept)

        by : (kind : NodeKind) → is_directory kind ≡ false → (found : Option File) → s.node.file ≡ found → IsKeptOf kind s.node.file → IsFileSeen mount number sight
        by Dir never found has kept = absurd cc
        by RegularFile other found has kept = some found has (subst (IsKeptOf RegularFile) has kept)
        by Symlink other found has kept = some found has (subst (IsKeptOf Symlink) has kept)

    -- of the source at most its size is held
    limit_low : (staged : Option StagedContent) → fin.get mount.staged number ≡ staged → (overlay_of staged sight).limit ≤ sight.size
    limit_low None found = omega arith
    limit_low (Some content) found =
        let at = is.staged number content found in
        let same : s.node.file ≡ Some at.file = sym (ap file_in s.there) ∙ at.there in
        let sized : sight.size ≡ at.file.size = sized_by (Some at.file) same in
        let low = at.limit in
        omega (arith, sized, low)

    -- something may be staged of it that holds no more
    pub IsStagedAt-seen : is_directory sight.kind ≡ false → (staged : Option StagedContent) → fin.get mount.staged number ≡ staged
        → (content : StagedContent) → content.overlay.limit ≤ (overlay_of staged sight).limit → IsStagedAt mount.table number content
    IsStagedAt-seen file staged found content less =
        let f = IsFileSeen-kind file in
        let low = limit_low staged found in
        let sized = f.sized in
        record {
          file = f.file;
          there = ap file_in f.there ∙ f.has;
          limit = omega (arith, low, less, sized);
        }

    -- a range that lies below the limit is of a file that is there
    pub IsOfFile-within : (staged : Option StagedContent) → fin.get mount.staged number ≡ staged
        → (range : Range) → (1 ≤ range.count → IsWithin range (overlay_of staged sight).limit)
        → (wanted : Wanted) → wanting sight.name sight.source range ≡ Some wanted → IsOfFile mount wanted
    IsOfFile-within staged found range within wanted = by (nat_lt 0 range.count) refl
      where
        by : (b : Bool) → nat_lt 0 range.count ≡ b
            → (if b then Some (record { name = sight.name; generation = sight.source; range = range }) else None) ≡ Some wanted → IsOfFile mount wanted
        by false none e = absurd (no_Some e)
        by true any e =
            let one : 1 ≤ range.count = grind (arith, nat_tests, any) in
            let below = within one in
            let low = limit_low staged found in
            let f = IsFileSeen-sized (omega (arith, one, below, low)) in
            let sized = f.sized in
            subst (IsOfFile mount) (same_Some e) (record {
              number = number;
              node = f.node;
              file = f.file;
              there = f.there;
              is_file = f.has;
              named = f.named;
              shown = f.shown;
              some = one;
              inside = omega (arith, below, low, sized);
            })

    -- and it may be read
    pub IsReadOf-within : (staged : Option StagedContent) → fin.get mount.staged number ≡ staged
        → (range : Range) → (1 ≤ range.count → IsWithin range (overlay_of staged sight).limit)
        → (wanted : Wanted) → wanting sight.name sight.source range ≡ Some wanted
        → IsReadOf (source_of sight) (read wanted.name wanted.generation wanted.range.first wanted.range.count)
    IsReadOf-within staged found range within wanted = by (nat_lt 0 range.count) refl
      where
        by : (b : Bool) → nat_lt 0 range.count ≡ b
            → (if b then Some (record { name = sight.name; generation = sight.source; range = range }) else None) ≡ Some wanted
            → IsReadOf (source_of sight) (read wanted.name wanted.generation wanted.range.first wanted.range.count)
        by false none e = absurd (no_Some e)
        by true any e =
            let one : 1 ≤ range.count = grind (arith, nat_tests, any) in
            let below = within one in
            let low = limit_low staged found in
            subst (λ (w : Wanted). IsReadOf (source_of sight) (read w.name w.generation w.range.first w.range.count)) (same_Some e) (refl, refl, omega (arith, below, low))
