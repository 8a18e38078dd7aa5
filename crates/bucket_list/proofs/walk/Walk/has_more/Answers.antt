-- A key is left just where a name is ahead.
use Rattle.bucket_list.proofs.Walks.{more}
use Rattle.bucket_list.proofs.walk.Walk.has_more.Goals as goal

pub returns : goal.returns
returns c = more c.args.self.now c.requires c.is_some.result c.is_some.ensures
