-- What a call that is taken at the end of an account found serves each look that it asks.
use Rattle.std.proofs.Common.{◌≡◌, List, Some, sym, ap, subst}
use Rattle.std.specs.Prelude.{Contains}
use Rattle.bucket_api.specs.BucketState.{BucketState}
use Rattle.bucket_api.specs.LogEvent.{LogEvent}
use Rattle.bucket_api.specs.Operation.{Operation}
use Rattle.bucket_api.specs.declared.answers.Answer.{Answer}
use Rattle.history_spec.specs.Account.{Account}
use Rattle.history_spec.specs.Fits.{IsAccount}
use Rattle.history_spec.specs.JournalState.{JournalState, OpenCall, reached}
use Rattle.history_spec.specs.Laws.{IsTaken}
use Rattle.history_spec.specs.Looks.{keys_taken}
use Rattle.history_spec.specs.Pasts.{key_of}
use Rattle.mount_kept.proofs.Serving.{found_is_of_record}
use Rattle.mount_kept.specs.Recalls.{found_for, recalled}
use Rattle.mount_kept.specs.Serves.{IsOfRecord, found_of}
use Rattle.mount_kept.specs.declared.recall.Recall.{Recall}
use Rattle.mount_model.specs.declared.config.Config.{Config}
use Rattle.mount_rules.specs.Dispatch.{plan, rules_of, view_in}
use Rattle.mount_rules.specs.Plans.{Allows, Plan}
use Rattle.record_spec.specs.RecordList.{Key}
use Rattle.record_spec.specs.declared.records.Record.{Record}
use Rattle.thrift_spec.proofs.Recalling.{KeepsMount, reached_knows}
use Rattle.thrift_spec.proofs.ServedLooks.{ServesAsked, serves_asked}
use Rattle.thrift_spec.specs.Records.{RecordsAreTold, records_at}

-- what was recalled is of a record, and that serves the look
pub record IsServedBy (config : Config) (start : BucketState) (log : List LogEvent) (turns : Account) (o : OpenCall) (told : List Answer) (op : Operation) (recall : Recall) : Type 0 where
  pub r : Record
  pub is : recall ≡ recalled r
  pub serves : ServesAsked start log (reached config start log turns).mount o told op r

-- the keys of which a call that is taken looks for records
pub keys_are : (config : Config) (start : BucketState) (log : List LogEvent) (state : JournalState) (o : OpenCall) → IsTaken config start log state o
    → (rules_of o.taken.request).keys (view_in state.mount o.taken.request) ≡ keys_taken o.taken
keys_are config start log state o taken = sym (ap (λ (x : OpenCall). (rules_of o.taken.request).keys x.taken.view) taken.so)

module _ (config : Config) (start : BucketState) (log : List LogEvent) (turns : Account) (o : OpenCall) (stays : KeepsMount config start log)
    (account : IsAccount config start log turns) (recorded : RecordsAreTold config start log turns) (taken : IsTaken config start log (reached config start log turns) o) (asks : Plan) where
  keys_so : (rules_of o.taken.request).keys (view_in (reached config start log turns).mount o.taken.request) ≡ keys_taken o.taken
  keys_so = keys_are config start log (reached config start log turns) o taken

  pub served : (told : List Answer) (op : Operation) (recall : Recall) → Allows (plan o.taken.at (reached config start log turns).mount o.taken.request told) op
      → found_for (found_of config o.clock asks (records_at config start log turns) (keys_taken o.taken)) op ≡ Some recall
      → IsServedBy config start log turns o told op recall
  served told op recall allowed found = record {
    r = its.r;
    is = its.is;
    serves = serves_asked config start log turns o stays account recorded taken told op its.r allowed its.look
        (subst (λ (keys : List Key). Contains keys (key_of op)) keys_so its.asked) its.lives;
  }
    where
      its : IsOfRecord config o.clock (records_at config start log turns) ((rules_of o.taken.request).keys (view_in (reached config start log turns).mount o.taken.request)) op recall
      its = found_is_of_record config o.clock (records_at config start log turns) asks o.taken.at (reached config start log turns).mount (reached_knows config start log stays turns account).mount
          o.taken.request told op recall allowed
          (subst (λ keys. found_for (found_of config o.clock asks (records_at config start log turns) keys) op ≡ Some recall) (sym keys_so) found)
