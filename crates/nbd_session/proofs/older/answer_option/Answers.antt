use Rattle.std.proofs.Common.{take}
use Rattle.nbd_session.specs.Session.{outcome}
use Rattle.nbd_session.proofs.Advancing.{chosen_beside, option_sound, room_for_own}
use Rattle.nbd_session.proofs.older.answer_option.Goals as goal

pub choose-next-requires-clause-ready : goal.choose-next-requires-clause-ready
choose-next-requires-clause-ready g c = room_for_own c.args.terms.since (g.V.Volumes.view.outline c.args.pool.now).holds c.requires.ready

pub settle-requires : goal.settle-requires
settle-requires g c =
    chosen_beside g.V.Volumes.view g.met.V.Volumes.laws c.args.pool.now c.choose-next.new.pool c.args.terms c.args.option c.args.payload.now (take c.choose-next.result.1 c.choose-next.new.out) c.choose-next.result.0
    c.choose-next.ensures.answer c.requires.ready

pub returns-clause-answer : goal.returns-clause-answer
returns-clause-answer g c = record {
  chosen = outcome (take c.choose-next.result.1 c.choose-next.new.out) c.choose-next.result.0;
  answered = c.choose-next.new.pool;
  chooses = c.choose-next.ensures.answer;
  settles = c.settle.ensures.settles c.choose-next.new.out;
}

pub returns-clause-sound : goal.returns-clause-sound
returns-clause-sound g c =
    option_sound g.V.Volumes.view g.met.V.Volumes.laws c.args.pool.now c.settle.new.pool c.args.terms c.args.option c.args.payload.now (take c.settle.result.1 c.choose-next.new.out) c.settle.result.0 (record {
      chosen = outcome (take c.choose-next.result.1 c.choose-next.new.out) c.choose-next.result.0;
      answered = c.choose-next.new.pool;
      chooses = c.choose-next.ensures.answer;
      settles = c.settle.ensures.settles c.choose-next.new.out;
    })
