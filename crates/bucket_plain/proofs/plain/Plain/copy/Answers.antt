-- The names come in order, so each entry goes last.
use Rattle.std.proofs.Common.{◌≡◌, ◌++◌}
use Rattle.bucket_plain.proofs.Copies.{copy_step}
use Rattle.bucket_plain.proofs.plain.Plain.copy.Goals as goal
use Rattle.bucket_plain.proofs.plain.Plain.copy.Goals.{In_ok-insert}

copied : (c : In_ok-insert) → c.insert.new.self.entries ++ c.next.new.self ≡ c.self.inside.objects.entries
copied c = copy_step c.self.inside.objects.entries c.loop-name.objects.entries c.loop-name.name-iterator c.next.new.self c.insert.new.self.entries c.in-Some.name.now c.in_ok-name.name c.in-Some.object.now c.in_ok-object.object c.self.invariant.ordered c.loop-name.invariant c.in-Some.ensures.steps c.in_ok-name.ensures.ok c.in_ok-object.ensures.ok c.in_ok-insert.ensures.entries

pub loop-name-preserved-in_ok-insert : goal.loop-name-preserved-in_ok-insert
loop-name-preserved-in_ok-insert c = copied (goal.at.loop-name-preserved-in_ok-insert c).In_ok-insert

pub loop-name-preserved : goal.loop-name-preserved
loop-name-preserved c = copied (goal.at.loop-name-preserved c).In_ok-insert
