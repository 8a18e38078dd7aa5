-- The text is cut at its first slash.
use Rattle.std.proofs.Common.{arith}
use Rattle.std.specs.Prelude.{Some, None}
use Rattle.std.proofs.lemmas.Str.Pattern.{split_parts}
use Rattle.bucket_list.proofs.Texts.{NoSlash-at}
use Rattle.bucket_list.proofs.slash.before_slash.Goals as goal

pub returns-in-Some : goal.returns-in-Some
returns-in-Some c =
    let parts = split_parts 47 c.args.text.now (Some (c.in-Some.part, c.in-Some.field-0-1)) c.in-Some.ensures.cases (omega arith) in
    (c.if-not-slash.false, record { none = NoSlash-at c.in-Some.part.now parts.1; rest = c.in-Some.field-0-1.now; is = parts.0 })

pub returns-in-None : goal.returns-in-None
returns-in-None c = λ _. NoSlash-at c.args.text.now (split_parts 47 c.args.text.now None c.in-None.ensures.cases (omega arith))
