-- The laws of all that is kept along an account.
use Rattle.thrift_spec.proofs.KeptContents.{contents_after_call, kept_is_taken}
use Rattle.thrift_spec.proofs.OneCall.{keeps_call}
use Rattle.thrift_spec.proofs.SameUpTo.{kept_over_longer}
use Rattle.thrift_spec.proofs.laws.keeping_laws.Goals as goal

pub returns-clause-longer : goal.returns-clause-longer
returns-clause-longer c = kept_over_longer

pub returns-clause-call : goal.returns-clause-call
returns-clause-call c = λ config start log more turns o h items fill is taken. keeps_call config start log more turns o h items fill is taken

pub returns-clause-contents : goal.returns-clause-contents
returns-clause-contents c =
    λ config start log more state o kept items fill taken bucket asked some all. contents_after_call config start log state o taken more kept items fill bucket asked all some

pub returns-clause-taken : goal.returns-clause-taken
returns-clause-taken c = λ config start log state o files key content taken all is. kept_is_taken config start log state o taken files key content all is
