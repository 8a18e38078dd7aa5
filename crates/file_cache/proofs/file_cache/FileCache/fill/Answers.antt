use Rattle.std.proofs.Common.{◌≡◌, ◌-◌, ◌≤◌, None, false, sym, ap, ◌∙◌, arith}
use Rattle.cache_spec.specs.KeptFiles.{content_of, blocks_of, blocks_in, is_kept, fitting}
use Rattle.cache_spec.proofs.KeptLaws.{used-absent, content_of-fitting, blocks_in-fitting}
use Rattle.file_cache.proofs.CacheLaws.{kept_fits, not_kept, fill_left}
use Rattle.file_cache.proofs.file_cache.FileCache.fill.Goals as goal

pub returns-then-use_again-clause-large : goal.returns-then-use_again-clause-large
returns-then-use_again-clause-large c =
    let fits : blocks_of c.args.bytes.now ≤ c.args.self.now.blocks =
    kept_fits c.args.self.now.blocks c.args.self.now.files c.args.key.now c.args.bytes.now c.use_again.ensures.cache c.requires.same (sym c.use_again.ensures.ok ∙ c.if-use_again.true)
    in
    (λ e. let never : ⊥ = cc in absurd never, λ big. let never : ⊥ = omega (arith, big, fits) in absurd never)

pub returns-then-needed-self-clause-left : goal.returns-then-needed-self-clause-left
returns-then-needed-self-clause-left c =
    let none : content_of c.args.self.now.files c.args.key.now ≡ None = not_kept c.args.self.now.files c.args.key.now (sym c.use_again.ensures.ok ∙ c.if-use_again.false) in
    c.use_again.ensures.kept ∙ ap (λ files. record c.args.self.now { files = files }) (used-absent c.args.key.now c.args.self.now.files none)

pub put-requires-clause-absent : goal.put-requires-clause-absent
put-requires-clause-absent c =
    let none : content_of c.args.self.now.files c.args.key.now ≡ None = not_kept c.args.self.now.files c.args.key.now (sym c.use_again.ensures.ok ∙ c.if-use_again.false) in
    let same : c.use_again.new.self ≡ c.args.self.now = c.use_again.ensures.kept ∙ ap (λ files. record c.args.self.now { files = files }) (used-absent c.args.key.now c.args.self.now.files none) in
    ap (λ t. content_of t.files c.args.key.now) c.make_room-2.ensures
    ∙ content_of-fitting (c.make_room.inside.blocks - c.blocks_for-needed.result) c.use_again.new.self.files c.args.key.now (ap (λ t. content_of t.files c.args.key.now) same ∙ none)

pub put-requires-clause-room : goal.put-requires-clause-room
put-requires-clause-room c =
    omega (
      arith,
      ap (λ t. blocks_in t.files) c.make_room-2.ensures,
      ap (λ t. t.blocks) c.make_room-2.ensures,
      blocks_in-fitting (c.make_room.inside.blocks - c.blocks_for-needed.result) c.use_again.new.self.files,
      c.if-needed-self.false,
      c.blocks_for-needed.ensures,
      ap (λ t. t.blocks) c.self.view_is,
      ap (λ t. t.blocks) c.make_room.view_is,
    )

pub returns-clause-left : goal.returns-clause-left
returns-clause-left c =
    let absent : is_kept c.args.self.now.files c.args.key.now ≡ false = sym c.use_again.ensures.ok ∙ c.if-use_again.false in
    let none : content_of c.args.self.now.files c.args.key.now ≡ None = not_kept c.args.self.now.files c.args.key.now absent in
    let same : c.use_again.new.self ≡ c.args.self.now = c.use_again.ensures.kept ∙ ap (λ files. record c.args.self.now { files = files }) (used-absent c.args.key.now c.args.self.now.files none) in
    let room : c.make_room.inside.blocks - c.blocks_for-needed.result ≡ c.args.self.now.blocks - blocks_of c.args.bytes.now =
    (λ i. (ap (λ t. t.blocks) c.make_room.view_is ∙ ap (λ t. t.blocks) same) i - c.blocks_for-needed.ensures i)
    in
    fill_left c.args.self.now c.make_room-2.new.self c.put.new.self c.args.key.now c.args.bytes.now c.put.result c.put.ensures
    (c.make_room-2.ensures ∙ (λ i. record (same i) { files = fitting (room i) (same i).files })) absent
