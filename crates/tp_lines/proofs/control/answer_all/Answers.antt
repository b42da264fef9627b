use Rattle.std.proofs.Common.{◌+◌, arith}
use Rattle.std.specs.Prelude.{Err}
use Rattle.tp_lines.specs.declared.control.Lost.TheVariants.{Input}
use Rattle.tp_lines.proofs.Doing.{leads_as, leads_join, leads_none}
use Rattle.tp_lines.proofs.Controlling.{AllSo, GoneOn, OnceSo, gone_ends, gone_more, gone_none, gone_tired}
use Rattle.tp_lines.proofs.control.answer_all.Goals as goal

pub loop-turn-init : goal.loop-turn-init
loop-turn-init g c = record { some = c.requires.some; empty = c.requires.empty; fits = c.requires.fits; so_far = leads_none g.D.Desk.asks (GoneOn c.args.line.now 0 c.args.line.now) c.args.desk.now (g.S.Stream.calls c.args.stream.now) (gone_none c.args.line.now) }

pub returns-in-Some : goal.returns-in-Some
returns-in-Some g c =
    leads_join g.D.Desk.asks (GoneOn c.args.line.now c.loop-turn.turn c.loop-turn.line) (OnceSo c.loop-turn.line c.answer_read.new.line c.answer_read.result) (AllSo c.args.line.now c.in-Some.result) c.args.desk.now c.loop-turn.desk c.answer_read.new.desk (g.S.Stream.calls c.args.stream.now) (g.S.Stream.calls c.loop-turn.stream) (g.S.Stream.calls c.answer_read.new.stream) c.loop-turn.invariant.so_far c.answer_read.ensures.read
    (gone_ends c.args.line.now c.loop-turn.line c.answer_read.new.line c.loop-turn.turn c.answer_read.result c.in-Some.result c.in-Some.is)

pub loop-turn-preserved : goal.loop-turn-preserved
loop-turn-preserved g c = record {
  some = omega (arith, c.answer_read.ensures.some, c.loop-turn.invariant.some);
  empty = c.answer_read.ensures.empty;
  fits = c.answer_read.ensures.fits;
  so_far = leads_join g.D.Desk.asks (GoneOn c.args.line.now c.loop-turn.turn c.loop-turn.line) (OnceSo c.loop-turn.line c.answer_read.new.line c.answer_read.result) (GoneOn c.args.line.now (c.loop-turn.turn + 1) c.answer_read.new.line) c.args.desk.now c.loop-turn.desk c.answer_read.new.desk (g.S.Stream.calls c.args.stream.now) (g.S.Stream.calls c.loop-turn.stream) (g.S.Stream.calls c.answer_read.new.stream) c.loop-turn.invariant.so_far c.answer_read.ensures.read
      (gone_more c.args.line.now c.loop-turn.line c.answer_read.new.line c.loop-turn.turn c.answer_read.result c.in-None.is);
}

pub returns : goal.returns
returns g c = leads_as g.D.Desk.asks (GoneOn c.args.line.now c.loop-turn.turn c.loop-turn.line) (AllSo c.args.line.now (Err Input)) c.args.desk.now c.loop-turn.desk (g.S.Stream.calls c.args.stream.now) (g.S.Stream.calls c.loop-turn.stream) c.loop-turn.invariant.so_far (gone_tired c.args.line.now c.loop-turn.line c.loop-turn.turn (omega (arith, c.loop-turn-test.false)))
