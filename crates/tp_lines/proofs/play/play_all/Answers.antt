use Rattle.std.proofs.Common.{◌+◌, arith}
use Rattle.std.specs.Prelude.{Err}
use Rattle.tp_lines.specs.Plays.{PlaysLine, ends_last}
use Rattle.tp_lines.specs.ReadLines.{AreRead, IsReadOnce}
use Rattle.tp_lines.specs.declared.play.Stopped.TheVariants.{Script}
use Rattle.tp_lines.proofs.Doing.{SoFar, leads_as, leads_join, leads_none, so_far_tired}
use Rattle.tp_lines.proofs.Playing.{read_ends, read_more}
use Rattle.tp_lines.proofs.play.play_all.Goals as goal

pub loop-turn-init : goal.loop-turn-init
loop-turn-init g c = record { some = c.requires.some; room = c.requires.room; empty = c.requires.empty; fits = c.requires.fits; so_far = leads_none g.D.Desk.asks (SoFar (PlaysLine c.args.profile.now) Script ends_last c.args.place.now.line c.args.place.now.played 0 c.args.place.now.line c.args.place.now.played) c.args.desk.now (g.S.Stream.calls c.args.stream.now) (λ more later k r p. p) }

pub returns-in-Some : goal.returns-in-Some
returns-in-Some g c = leads_join g.D.Desk.asks (SoFar (PlaysLine c.args.profile.now) Script ends_last c.args.place.now.line c.args.place.now.played c.loop-turn.turn c.loop-turn.place.line c.loop-turn.place.played) (λ asks did. IsReadOnce (PlaysLine c.args.profile.now) Script ends_last c.loop-turn.place.line c.loop-turn.place.played asks did c.play_read.new.place.line c.play_read.new.place.played c.play_read.result) (λ asks did. AreRead (PlaysLine c.args.profile.now) Script ends_last 0 c.args.place.now.line c.args.place.now.played asks did c.play_read.new.place.played c.in-Some.result) c.args.desk.now c.loop-turn.desk c.play_read.new.desk (g.S.Stream.calls c.args.stream.now) (g.S.Stream.calls c.loop-turn.stream) (g.S.Stream.calls c.play_read.new.stream) c.loop-turn.invariant.so_far c.play_read.ensures.read (read_ends c.args.profile.now c.args.place.now.line c.loop-turn.place.line c.play_read.new.place.line c.args.place.now.played c.loop-turn.turn c.loop-turn.place.played c.play_read.new.place.played c.play_read.result c.in-Some.result c.in-Some.is)

pub loop-turn-preserved : goal.loop-turn-preserved
loop-turn-preserved g c = record {
  some = omega (arith, c.play_read.ensures.some, c.loop-turn.invariant.some);
  room = c.play_read.ensures.room;
  empty = c.play_read.ensures.empty;
  fits = c.play_read.ensures.fits;
  so_far = leads_join g.D.Desk.asks (SoFar (PlaysLine c.args.profile.now) Script ends_last c.args.place.now.line c.args.place.now.played c.loop-turn.turn c.loop-turn.place.line c.loop-turn.place.played) (λ asks did. IsReadOnce (PlaysLine c.args.profile.now) Script ends_last c.loop-turn.place.line c.loop-turn.place.played asks did c.play_read.new.place.line c.play_read.new.place.played c.play_read.result) (SoFar (PlaysLine c.args.profile.now) Script ends_last c.args.place.now.line c.args.place.now.played (c.loop-turn.turn + 1) c.play_read.new.place.line c.play_read.new.place.played) c.args.desk.now c.loop-turn.desk c.play_read.new.desk (g.S.Stream.calls c.args.stream.now) (g.S.Stream.calls c.loop-turn.stream) (g.S.Stream.calls c.play_read.new.stream) c.loop-turn.invariant.so_far c.play_read.ensures.read (read_more c.args.profile.now c.args.place.now.line c.loop-turn.place.line c.play_read.new.place.line c.args.place.now.played c.loop-turn.turn c.loop-turn.place.played c.play_read.new.place.played c.play_read.result c.in-None.is);
}

pub returns : goal.returns
returns g c = leads_as g.D.Desk.asks (SoFar (PlaysLine c.args.profile.now) Script ends_last c.args.place.now.line c.args.place.now.played c.loop-turn.turn c.loop-turn.place.line c.loop-turn.place.played) (λ asks did. AreRead (PlaysLine c.args.profile.now) Script ends_last 0 c.args.place.now.line c.args.place.now.played asks did c.loop-turn.place.played (Err Script)) c.args.desk.now c.loop-turn.desk (g.S.Stream.calls c.args.stream.now) (g.S.Stream.calls c.loop-turn.stream) c.loop-turn.invariant.so_far
    (λ xs ds s. so_far_tired (PlaysLine c.args.profile.now) Script ends_last c.args.place.now.line c.loop-turn.place.line c.args.place.now.played c.loop-turn.turn c.loop-turn.place.played xs ds s (omega (arith, c.loop-turn-test.false)))
