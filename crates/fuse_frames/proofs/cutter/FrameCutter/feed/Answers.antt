-- A bad len that was come upon before is answered again; else what is found behind the whole frames is answered.
use Rattle.std.proofs.Common.{ap, Err, refl}
use Rattle.fuse_frames.proofs.CutterLemmas.{fed-fed, has_read_fed}
use Rattle.fuse_frames.proofs.Steps.{same_stop, says_fed, says_stays, sound_not_stopped}
use Rattle.fuse_frames.proofs.cutter.FrameCutter.feed.Goals as goal

pub returns-in-Err-clause-answer : goal.returns-in-Err-clause-answer
returns-in-Err-clause-answer c = says_stays (Unit {0}) c.args.self.now c.args.bytes.now c.in-Err.fault c.in-Err.ensures.kept c.in-Err.ensures.says

pub returns-in-Err-clause-frames : goal.returns-in-Err-clause-frames
returns-in-Err-clause-frames c stream gave read =
    has_read_fed {U = Unit {0}} c.args.bytes.now (Err c.in-Err.fault) read
    (says_stays (Unit {0}) c.args.self.now c.args.bytes.now c.in-Err.fault c.in-Err.ensures.kept c.in-Err.ensures.says)

pub returns-clause-answer : goal.returns-clause-answer
returns-clause-answer c = says_fed c.args.self.now c.args.bytes.now c.sound-2.result c.take_in.new.self c.in_default-take_in.ensures c.sound-2.ensures.says

pub returns-clause-frames : goal.returns-clause-frames
returns-clause-frames c stream gave read =
    has_read_fed c.args.bytes.now c.sound-2.result read
    (says_fed c.args.self.now c.args.bytes.now c.sound-2.result c.take_in.new.self c.in_default-take_in.ensures c.sound-2.ensures.says)

pub returns-clause-bytes : goal.returns-clause-bytes
returns-clause-bytes c =
    fed-fed c.args.self.now c.args.bytes.now c.sound-2.result c.take_in.new.self
    (says_fed c.args.self.now c.args.bytes.now c.sound-2.result c.take_in.new.self c.in_default-take_in.ensures c.sound-2.ensures.says)

pub returns-in-Err-clause-stays : goal.returns-in-Err-clause-stays
returns-in-Err-clause-stays c fault stopped = (ap (λ f. Err f) (same_stop c.args.self.now c.in-Err.fault fault c.in-Err.ensures.says stopped), refl)

pub returns-clause-stays : goal.returns-clause-stays
returns-clause-stays c fault stopped = absurd (sound_not_stopped c.args.self.now fault c.in_default.ensures.says stopped)
