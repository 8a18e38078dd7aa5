-- A step past one name, or past all that stand under one key.
use Rattle.std.proofs.Common.{rules}
use Rattle.bucket_list.specs.declared.walk.Key.TheVariants.{Name, Prefix}
use Rattle.bucket_list.proofs.Walks.{Steps, steps_name, steps_group}
use Rattle.bucket_list.proofs.walk.Walk.next.Goals as goal
use Rattle.bucket_list.proofs.walk.Walk.next.Goals.{After-ahead_in-self, After-ahead_in-self-in-None}

past_name : (c : After-ahead_in-self-in-None) → Steps c.args.self.now (Name c.in-Some.ahead.name c.in-Some.ahead.object) c.ahead_in-self-in-None.new.rest c.ahead_in-self-in-None.result
past_name c = steps_name c.args.self.now c.in-Some.ahead c.requires c.in-Some.is c.in-None.ensures c.ahead_in-self-in-None.new.rest c.ahead_in-self-in-None.result c.ahead_in-self-in-None.ensures

past_group : (c : After-ahead_in-self) → Steps c.args.self.now (Prefix c.in_ok-key-in-Some-before_slash.key c.get-object.result) c.ahead_in-self.new.rest c.ahead_in-self.result
past_group c = steps_group c.args.self.now c.in-Some.ahead c.requires c.in-Some.is c.in-Some-before_slash.part.now c.in_ok-key-in-Some-before_slash.key c.in_ok-past-in-Some-before_slash.past c.get-object.result c.in-Some-before_slash.ensures.0 c.in-Some-before_slash.ensures.1 c.in_ok-key-in-Some-before_slash.ensures.ok c.in_ok-past-in-Some-before_slash.ensures.ok c.get-object.ensures.value c.range-self.ensures.ordered c.range-self.result c.ahead_in-self.new.rest c.ahead_in-self.result (c.range-self.ensures.between (search rules)) c.ahead_in-self.ensures

pub returns-in_ok-past-in-Some-before_slash-clause-walk : goal.returns-in_ok-past-in-Some-before_slash-clause-walk
returns-in_ok-past-in-Some-before_slash-clause-walk c = (past_group (goal.at.returns-in_ok-past-in-Some-before_slash-clause-walk c).After-ahead_in-self).walk

pub returns-in_ok-past-in-Some-before_slash-clause-keys : goal.returns-in_ok-past-in-Some-before_slash-clause-keys
returns-in_ok-past-in-Some-before_slash-clause-keys c = (past_group (goal.at.returns-in_ok-past-in-Some-before_slash-clause-keys c).After-ahead_in-self).keys

pub returns-in_ok-past-in-Some-before_slash-clause-key : goal.returns-in_ok-past-in-Some-before_slash-clause-key
returns-in_ok-past-in-Some-before_slash-clause-key c = (past_group (goal.at.returns-in_ok-past-in-Some-before_slash-clause-key c).After-ahead_in-self).key

pub returns-in-None-clause-walk : goal.returns-in-None-clause-walk
returns-in-None-clause-walk c = (past_name (goal.at.returns-in-None-clause-walk c).After-ahead_in-self-in-None).walk

pub returns-in-None-clause-keys : goal.returns-in-None-clause-keys
returns-in-None-clause-keys c = (past_name (goal.at.returns-in-None-clause-keys c).After-ahead_in-self-in-None).keys

pub returns-in-None-clause-key : goal.returns-in-None-clause-key
returns-in-None-clause-key c = (past_name (goal.at.returns-in-None-clause-key c).After-ahead_in-self-in-None).key
