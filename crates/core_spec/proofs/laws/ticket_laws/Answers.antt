-- The laws of tickets.
use Rattle.core_spec.proofs.TicketMounts.{tickets_are_of, tickets_stay_of}
use Rattle.core_spec.proofs.TicketRecalls.{tickets_recall}
use Rattle.core_spec.proofs.TicketSteps.{tickets_begin, tickets_make, tickets_see, tickets_stop}
use Rattle.core_spec.proofs.laws.ticket_laws.Goals as goal

pub returns-clause-begins : goal.returns-clause-begins
returns-clause-begins g c = tickets_begin g.B.Bucket.Identity

pub returns-clause-sees : goal.returns-clause-sees
returns-clause-sees g c = tickets_see g.B.Bucket.Identity

pub returns-clause-makes : goal.returns-clause-makes
returns-clause-makes g c = tickets_make g.B.Bucket.Identity

pub returns-clause-recalls : goal.returns-clause-recalls
returns-clause-recalls g c = tickets_recall g.B.Bucket.Identity

pub returns-clause-stops : goal.returns-clause-stops
returns-clause-stops g c = tickets_stop g.B.Bucket.Identity

pub returns-clause-its : goal.returns-clause-its
returns-clause-its g c = tickets_are_of g.B.Bucket.Identity

pub returns-clause-stays : goal.returns-clause-stays
returns-clause-stays g c = tickets_stay_of g.B.Bucket.Identity
