-- The laws are those that were proved over all logs.
use Rattle.bucket_api.proofs.ContentLaws.{content_of-live, content_of-grown, content_of-fresh}
use Rattle.bucket_api.proofs.contents.content_laws.Goals as goal

pub returns-clause-live : goal.returns-clause-live
returns-clause-live c = content_of-live

pub returns-clause-kept : goal.returns-clause-kept
returns-clause-kept c = content_of-grown

pub returns-clause-fresh : goal.returns-clause-fresh
returns-clause-fresh c = content_of-fresh
