-- What an answer to a probe tells, as the code says it.
use Rattle.plan_names.specs.declared.lookup.Probed.{Probed}
use Rattle.plan_names.specs.declared.lookup.Probed.TheVariants.{Present, Absent, Failed}
use Rattle.mount_rules.specs.Requests.Lookup as spec

abbrev pub told : Probed → spec.Probed
told Present = spec.present
told Absent = spec.absent
told Failed = spec.failed
