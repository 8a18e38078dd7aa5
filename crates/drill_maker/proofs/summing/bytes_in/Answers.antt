-- The sum fits: no bucket holds so many bytes.
use Rattle.std.proofs.Common.{ℕ, List, length, ◌<◌, ◌^◌, ◌≡◌, ◌+◌, subst, ◌∙◌, arith}
use Rattle.std.specs.Prelude.{fold}
use Rattle.bucket_api.specs.declared.objects.Object.{Object}
use Rattle.drill_maker.specs.Summary.{bytes_in}
use Rattle.drill_maker.proofs.SizeLaws.{sizes_fit}
use Rattle.drill_maker.proofs.summing.bytes_in.Goals as goal

pub overflow_add-bytes : goal.overflow_add-bytes
overflow_add-bytes c =
    let size = c.from-bytes.ensures ∙ c.object_size.ensures in
    let few = subst (λ (entries : List (List ℕ × Object)). length entries < 2 ^ 63) c.objects.ensures c.values-object-items.ensures.fits in
    let sum = λ (objects : List Object). fold (λ a o. a + o.meta.size) c.loop-object.bytes objects ≡ bytes_in c.args.bucket.now in
    let fits = sizes_fit c.args.bucket.now c.loop-object.bytes c.in-Some.object.now c.next.new.self c.requires few (subst sum c.in-Some.ensures.steps c.loop-object.invariant) in
    omega (arith, size, fits)
