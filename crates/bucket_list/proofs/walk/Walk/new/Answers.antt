-- A walk that begins at the bound meets the keys after the one asked.
use Rattle.std.proofs.Common.{rules}
use Rattle.std.specs.Prelude.{option_copied}
use Rattle.bucket_list.proofs.Walks.{Begins, begins}
use Rattle.bucket_list.proofs.walk.Walk.new.Goals as goal
use Rattle.bucket_list.proofs.walk.Walk.new.Goals.{After-ahead_in-ahead}

begun : (c : After-ahead_in-ahead)
    → Begins (record { objects = c.args.objects; prefix = c.args.prefix; slash = c.args.slash; rest = c.ahead_in-ahead.new.rest; ahead = c.ahead_in-ahead.result }) (option_copied c.args.after)
begun c = begins _ (option_copied c.args.after) c.in_ok-from.from c.range-rest.result c.in_ok-from.ensures.ok c.range-rest.ensures.ordered (c.range-rest.ensures.between (search rules)) c.ahead_in-ahead.ensures

pub returns-clause-walk : goal.returns-clause-walk
returns-clause-walk c = (begun (goal.at.returns-clause-walk c).After-ahead_in-ahead).walk

pub returns-clause-keys : goal.returns-clause-keys
returns-clause-keys c = (begun (goal.at.returns-clause-keys c).After-ahead_in-ahead).keys
