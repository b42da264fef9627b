use Rattle.std.proofs.Common.{inl, refl}
use Rattle.std.specs.Prelude.{Err}
use Rattle.tp_lines.specs.Plays.{PlaysLine}
use Rattle.tp_lines.specs.declared.play.Stopped.TheVariants.{BadLine}
use Rattle.tp_lines.proofs.Doing.{leads_none}
use Rattle.tp_lines.proofs.play.play_line.Goals as goal

pub returns-in_default-clause-played : goal.returns-in_default-clause-played
returns-in_default-clause-played g c = leads_none g.D.Desk.asks (λ asks did. PlaysLine c.args.profile.now c.args.text.now asks did (Err BadLine)) c.args.desk.now (g.S.Stream.calls c.args.stream.now) (inl (c.in_default.ensures, refl, refl, refl))
