-- The lemmas that the proofs of `mount_core` cite.
mod BaseLemmas
mod CarryLemmas
mod CourseLemmas
mod ErrandLemmas
mod FileLemmas
pub mod FirstLemmas
mod FlushLemmas
mod HarmlessLemmas
mod InsertLemmas
mod LoggedEvents
mod LoggedReads
mod LoggedEnds
mod LoggedSteps
mod LoneAccounts
mod LoneBetween
mod LoneNext
mod LonePerformed
mod MetadataLemmas
mod NameLemmas
mod NamePlans
mod PageKeys
mod PairsInOrder
mod SendLemmas
mod SerialLemmas
mod SetTimes
mod StepLemmas
mod ToldLemmas
mod WalkLemmas
pub mod CountedLemmas
mod ThriftServes
