-- The laws of requests.
use Rattle.mount_laws.proofs.RequestLaws.{stays_mount, leaves_others, claims_protect, claims_cover, never_out_of_memory, harmless_while_asking, asks_at_most, may_read_wanted, wants_of_files}
use Rattle.mount_laws.proofs.Answered.{answers_tell}
use Rattle.mount_laws.proofs.FlushLaws.{flushes_own, flushes_protect}
use Rattle.mount_laws.proofs.Refusals.{full_is_refused, refused_keeps_staged}
use Rattle.mount_laws.proofs.ParentLaws.{parents_are_claimed, parents_protect}
use Rattle.mount_laws.proofs.SourceReads.{reads_are_passed_over, unread_is_refused}
use Rattle.mount_laws.proofs.WantedReads.{wanted_may_be_read}
use Rattle.mount_laws.proofs.RenameLaws.{renames_protect}
use Rattle.mount_laws.proofs.laws.request_laws.Goals as goal

pub returns-clause-mounts : goal.returns-clause-mounts
returns-clause-mounts c = stays_mount

pub returns-clause-leaves : goal.returns-clause-leaves
returns-clause-leaves c = leaves_others

pub returns-clause-claims : goal.returns-clause-claims
returns-clause-claims c = claims_protect

pub returns-clause-parents : goal.returns-clause-parents
returns-clause-parents c = parents_protect

pub returns-clause-claimed : goal.returns-clause-claimed
returns-clause-claimed c = parents_are_claimed

pub returns-clause-flushes : goal.returns-clause-flushes
returns-clause-flushes c = flushes_protect

pub returns-clause-owned : goal.returns-clause-owned
returns-clause-owned c = flushes_own

pub returns-clause-renames : goal.returns-clause-renames
returns-clause-renames c = renames_protect

pub returns-clause-covers : goal.returns-clause-covers
returns-clause-covers c = claims_cover

pub returns-clause-memory : goal.returns-clause-memory
returns-clause-memory c = never_out_of_memory

pub returns-clause-harmless : goal.returns-clause-harmless
returns-clause-harmless c = harmless_while_asking

pub returns-clause-bounded : goal.returns-clause-bounded
returns-clause-bounded c = asks_at_most

pub returns-clause-reads : goal.returns-clause-reads
returns-clause-reads c = may_read_wanted

pub returns-clause-sources : goal.returns-clause-sources
returns-clause-sources c = wants_of_files

pub returns-clause-refused : goal.returns-clause-refused
returns-clause-refused c = refused_keeps_staged

pub returns-clause-full : goal.returns-clause-full
returns-clause-full c = full_is_refused

pub returns-clause-told : goal.returns-clause-told
returns-clause-told c = answers_tell

pub returns-clause-passed : goal.returns-clause-passed
returns-clause-passed c = reads_are_passed_over

pub returns-clause-unread : goal.returns-clause-unread
returns-clause-unread c = unread_is_refused

pub returns-clause-allowed : goal.returns-clause-allowed
returns-clause-allowed c = wanted_may_be_read
