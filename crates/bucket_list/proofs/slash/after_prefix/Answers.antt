-- Where the prefix is not found, the text does not begin with it.
use Rattle.std.proofs.Common.{sym, false}
use Rattle.std.proofs.lemmas.Str.Pattern.{starts_text}
use Rattle.bucket_list.proofs.slash.after_prefix.Goals as goal

pub returns-in-None : goal.returns-in-None
returns-in-None c = sym (starts_text false c.args.prefix.now c.args.text.now c.in-None.ensures.cases)
