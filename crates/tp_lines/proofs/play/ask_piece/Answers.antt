use Rattle.std.proofs.Common.{arith}
use Rattle.std.proofs.lemmas.List.{take_rest}
use Rattle.std.specs.Prelude.{Ok}
use Rattle.tp_lines.specs.Plays.{GivesAll}
use Rattle.tp_lines.proofs.Doing.{leads_as, leads_none}
use Rattle.tp_lines.proofs.Playing.{GivenTo, given_all, given_none, left_some, not_false, not_true, piece_done, piece_inside, piece_lost, piece_more}
use Rattle.tp_lines.proofs.play.ask_piece.Goals as goal

pub loop-at-init : goal.loop-at-init
loop-at-init g c = record { within = omega arith; empty = c.requires.empty; fits = c.requires.fits; giving = leads_none g.D.Desk.asks (GivenTo c.args.number c.args.piece.now 0) c.args.desk.now (g.S.Stream.calls c.args.stream.now) (given_none c.args.number c.args.piece.now) }

pub returns-then-not-asked-clause-asked : goal.returns-then-not-asked-clause-asked
returns-then-not-asked-clause-asked g c = piece_lost g.D.Desk.asks c.args.number c.args.piece.now _ c.loop-at.at c.loop-at.desk c.ask_once-asked.new.desk (g.S.Stream.calls c.loop-at.stream) (g.S.Stream.calls c.ask_once-asked.new.stream) c.ask_once-asked.result.ran.events c.ask_once-asked.result.ran.bytes c.ask_once-asked.result.is_told (take_rest c.args.piece.now c.loop-at.at) c.ask_once-asked.ensures.asked c.args.desk.now (g.S.Stream.calls c.args.stream.now) c.loop-at.invariant.giving (left_some c.loop-at.at c.args.piece.now _ c.loop-at-test.true (take_rest c.args.piece.now c.loop-at.at)) (not_false c.ask_once-asked.result.is_told c.if-not-asked.true)

pub returns-then-asked-gt0-clause-asked : goal.returns-then-asked-gt0-clause-asked
returns-then-asked-gt0-clause-asked g c = piece_done g.D.Desk.asks c.args.number c.args.piece.now _ c.loop-at.at c.loop-at.desk c.ask_once-asked.new.desk (g.S.Stream.calls c.loop-at.stream) (g.S.Stream.calls c.ask_once-asked.new.stream) c.ask_once-asked.result.ran.events c.ask_once-asked.result.ran.bytes c.ask_once-asked.result.is_told (take_rest c.args.piece.now c.loop-at.at) c.ask_once-asked.ensures.asked c.args.desk.now (g.S.Stream.calls c.args.stream.now) c.loop-at.invariant.giving (left_some c.loop-at.at c.args.piece.now _ c.loop-at-test.true (take_rest c.args.piece.now c.loop-at.at)) (not_true c.ask_once-asked.result.is_told c.if-not-asked.false) c.if-asked-gt0.true

pub loop-at-preserved : goal.loop-at-preserved
loop-at-preserved g c = record {
  within = piece_inside g.D.Desk.asks c.args.number c.args.piece.now _ c.loop-at.at c.loop-at.desk c.ask_once-asked.new.desk (g.S.Stream.calls c.loop-at.stream) (g.S.Stream.calls c.ask_once-asked.new.stream) c.ask_once-asked.result.ran.events c.ask_once-asked.result.ran.bytes c.ask_once-asked.result.is_told (take_rest c.args.piece.now c.loop-at.at) c.ask_once-asked.ensures.asked c.args.desk.now (g.S.Stream.calls c.args.stream.now) c.loop-at.invariant.giving c.loop-at.invariant.within (omega (arith, c.if-asked-gt0.false));
  empty = c.ask_once-asked.ensures.empty;
  fits = c.ask_once-asked.ensures.fits;
  giving = piece_more g.D.Desk.asks c.args.number c.args.piece.now _ c.loop-at.at c.loop-at.desk c.ask_once-asked.new.desk (g.S.Stream.calls c.loop-at.stream) (g.S.Stream.calls c.ask_once-asked.new.stream) c.ask_once-asked.result.ran.events c.ask_once-asked.result.ran.bytes c.ask_once-asked.result.is_told (take_rest c.args.piece.now c.loop-at.at) c.ask_once-asked.ensures.asked c.args.desk.now (g.S.Stream.calls c.args.stream.now) c.loop-at.invariant.giving (not_true c.ask_once-asked.result.is_told c.if-not-asked.false) (omega (arith, c.if-asked-gt0.false));
}

pub returns-clause-asked : goal.returns-clause-asked
returns-clause-asked g c = leads_as g.D.Desk.asks (GivenTo c.args.number c.args.piece.now c.loop-at.at) (λ asks did. GivesAll c.args.number c.args.piece.now asks did (Ok (tt {0}))) c.args.desk.now c.loop-at.desk (g.S.Stream.calls c.args.stream.now) (g.S.Stream.calls c.loop-at.stream) c.loop-at.invariant.giving (λ xs ds p. given_all c.args.number c.args.piece.now c.loop-at.at xs ds (omega (arith, c.loop-at-test.false)) p)
