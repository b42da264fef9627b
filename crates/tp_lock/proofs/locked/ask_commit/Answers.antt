use Rattle.std.proofs.Common.{◌∙◌, refl, subst, sym}
use Rattle.tp_hub.specs.Told.{HasRoom, Told}
use Rattle.tp_lock.specs.Seen.{IsSeen}
use Rattle.tp_lock.proofs.locked.ask_commit.Goals as goal

pub loop-part-init : goal.loop-part-init
loop-part-init g c = refl

pub keep_part-requires-clause-room : goal.keep_part-requires-clause-room
keep_part-requires-clause-room g c = subst HasRoom (sym c.loop-part.invariant) c.requires.room

pub loop-part-preserved : goal.loop-part-preserved
loop-part-preserved g c = c.in-None.ensures.none refl ∙ c.loop-part.invariant

pub returns-in-Some : goal.returns-in-Some
returns-in-Some g c = subst (λ (t : Told). IsSeen g.V.Volumes.view c.args.event c.in-Some.told.0 t c.keep_part.new.out) c.loop-part.invariant c.in-Some.ensures.seen

pub returns : goal.returns
returns g c = subst (λ (t : Told). IsSeen g.V.Volumes.view c.args.event c.ask_in_turn.result.0 t c.ask_in_turn.new.out) c.loop-part.invariant c.ask_in_turn.ensures
