use Rattle.std.proofs.Common.{inl, refl}
use Rattle.std.specs.Prelude.{Err}
use Rattle.tp_lines.specs.Plays.{PlaysScript}
use Rattle.tp_lines.specs.declared.play.Stopped.TheVariants.{Memory}
use Rattle.tp_lines.proofs.Doing.{leads_as, leads_none}
use Rattle.tp_lines.proofs.Playing.{from_first}
use Rattle.tp_lines.proofs.play.play_script.Goals as goal

pub returns-in_default : goal.returns-in_default
returns-in_default g c = leads_none g.D.Desk.asks (λ asks did. PlaysScript c.args.profile.now asks did 0 (Err Memory)) c.args.desk.now (g.S.Stream.calls c.args.stream.now) (inl (refl, refl, refl, refl))

pub returns : goal.returns
returns g c = leads_as g.D.Desk.asks _ (λ asks did. PlaysScript c.args.profile.now asks did c.play_all-result.new.place.played c.play_all-result.result) c.args.desk.now c.play_all-result.new.desk (g.S.Stream.calls c.args.stream.now) (g.S.Stream.calls c.play_all-result.new.stream) c.play_all-result.ensures (from_first c.args.profile.now _ _ _ _ c.in-Ok.ensures.2 c.in-Ok.ensures.3)
