-- What a call that is taken now finds in the records of an account serves it, as the loop over a bucket with its log wants.
use Rattle.std.proofs.Common.{◌≡◌, List, sym, subst}
use Rattle.bucket_api.specs.Operation.{Operation}
use Rattle.bucket_api.specs.declared.answers.Answer.{Answer}
use Rattle.history_laws.proofs.NodeLaws.{IsMount-turn}
use Rattle.history_spec.specs.Account.{Account}
use Rattle.history_spec.specs.Fits.{IsAccount}
use Rattle.history_spec.specs.JournalState.{OpenCall, reached}
use Rattle.history_spec.specs.Laws.{IsTaken}
use Rattle.history_spec.specs.Looks.{keys_taken}
use Rattle.logged_bucket.specs.LoggedState.{LoggedState}
use Rattle.mount_core.specs.Logged.{IsServed, ServesLook}
use Rattle.mount_kept.proofs.Served.{IsServedBy, served}
use Rattle.mount_kept.specs.Serves.{found_of}
use Rattle.mount_kept.specs.declared.recall.Recall.{Recall}
use Rattle.mount_model.specs.declared.config.Config.{Config}
use Rattle.mount_rules.specs.Plans.{Plan}
use Rattle.thrift_spec.specs.Records.{RecordsAreTold, records_at}

module _ (config : Config) (before : LoggedState) (turns : Account) (o : OpenCall) (account : IsAccount config before.start before.log turns)
    (recorded : RecordsAreTold config before.start before.log turns) (taken : IsTaken config before.start before.log (reached config before.start before.log turns) o) (asks : Plan) where
  serves_look : (told : List Answer) (op : Operation) (recall : Recall) → IsServedBy config before.start before.log turns o told op recall
      → ServesLook (reached config before.start before.log turns).mount before o told op recall
  serves_look told op recall by = subst (ServesLook (reached config before.start before.log turns).mount before o told op) (sym by.is) (record {
    observed = by.serves.observed;
    is = by.serves.is;
    op_is = by.serves.op_is;
    look = by.serves.look;
    may = by.serves.may;
    within = by.serves.within;
    stands = by.serves.stands;
  })

  pub is_served : IsServed (found_of config o.clock asks (records_at config before.start before.log turns) (keys_taken o.taken)) (reached config before.start before.log turns).mount before o
  is_served op recall found told allowed =
      serves_look told op recall (served config before.start before.log turns o (IsMount-turn config before.start before.log) account recorded taken asks told op recall allowed found)
