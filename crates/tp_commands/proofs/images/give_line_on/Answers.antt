use Rattle.std.proofs.Common.{inl, inr, refl, Result, subst, sym}
use Rattle.tp_model.specs.declared.refusal.Refusal.{Refusal}
use Rattle.tp_commands.specs.Images.{GivesOn}
use Rattle.tp_commands.proofs.images.give_line_on.Goals as goal

pub returns-in-Ok : goal.returns-in-Ok
returns-in-Ok g c =
    let calls = g.S.Stream.calls in
    let state = g.D.Disk.state in
    subst (λ (r : Result (Unit {0}) Refusal). GivesOn c.args.line.now (calls c.args.stream.now) (calls c.give_line-told.new.stream) r (state c.args.disk) (state c.hand_back.result.0)) (sym c.hand_back.ensures.told)
    (inr (c.in-Ok.pool, c.give_line-told.new.pool, c.in-Ok.ensures.opened, c.give_line-told.ensures, c.hand_back.ensures.disk))

pub returns-in-Err : goal.returns-in-Err
returns-in-Err g c = inl (c.in-Err.why.refusal, refl, c.in-Err.ensures.refused, refl)
