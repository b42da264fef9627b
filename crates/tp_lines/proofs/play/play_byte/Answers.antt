use Rattle.std.proofs.Common.{[], ◌∷◌}
use Rattle.std.specs.Prelude.{Ok}
use Rattle.tp_lines.specs.Plays.{PlaysLine}
use Rattle.tp_lines.specs.ReadLines.{AreDone, lines_from}
use Rattle.tp_lines.proofs.Doing.{byte_ends, byte_held, leads_as, leads_none}
use Rattle.tp_lines.proofs.play.play_byte.Goals as goal

pub returns-then-byte-eq10-clause-played : goal.returns-then-byte-eq10-clause-played
returns-then-byte-eq10-clause-played g c =
    leads_as g.D.Desk.asks (λ asks did. PlaysLine c.args.profile.now c.args.place.now.line asks did c.end_line.result) (λ asks did. AreDone (PlaysLine c.args.profile.now) (lines_from c.args.place.now.line (c.args.byte ∷ [])) c.args.place.now.played asks did c.end_line.new.place.played c.end_line.result) c.args.desk.now c.end_line.new.desk (g.S.Stream.calls c.args.stream.now) (g.S.Stream.calls c.end_line.new.stream) c.end_line.ensures.played
    (λ xs ds p. byte_ends (PlaysLine c.args.profile.now) c.args.place.now.line c.args.byte c.args.place.now.played c.end_line.new.place.played xs ds c.end_line.result c.if-byte-eq10.true c.end_line.ensures.count c.end_line.ensures.same p)

pub returns-clause-played : goal.returns-clause-played
returns-clause-played g c = leads_none g.D.Desk.asks (λ asks did. AreDone (PlaysLine c.args.profile.now) (lines_from c.args.place.now.line (c.args.byte ∷ [])) c.args.place.now.played asks did c.args.place.now.played (Ok (tt {0}))) c.args.desk.now (g.S.Stream.calls c.args.stream.now) (byte_held (PlaysLine c.args.profile.now) c.args.place.now.line c.args.byte c.args.place.now.played c.if-byte-eq10.false)
