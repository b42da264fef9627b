use Rattle.std.proofs.Common.{inl, inr, refl, Result, subst, sym}
use Rattle.tp_model.specs.declared.refusal.Refusal.{Refusal}
use Rattle.tp_commands.specs.Images.{TellsOn}
use Rattle.tp_commands.proofs.images.tell_status_on.Goals as goal

pub returns-in-Ok : goal.returns-in-Ok
returns-in-Ok g c =
    let calls = g.S.Stream.calls in
    let state = g.D.Disk.state in
    subst (λ (r : Result (Unit {0}) Refusal). TellsOn c.args.id (calls c.args.stream.now) (calls c.tell_status-told.new.stream) r (state c.args.disk) (state c.hand_back.result.0)) (sym c.hand_back.ensures.told)
    (inr (c.in-Ok.pool, c.tell_status-told.new.pool, c.in-Ok.ensures.opened, c.tell_status-told.ensures, c.hand_back.ensures.disk))

pub returns-in-Err : goal.returns-in-Err
returns-in-Err g c = inl (c.in-Err.why.refusal, refl, c.in-Err.ensures.refused, refl)
