use Rattle.std.proofs.Common.{inl, inr, refl, Result, subst, sym}
use Rattle.tp_model.specs.declared.refusal.Refusal.{Refusal}
use Rattle.tp_commands.specs.Images.{TriesOn}
use Rattle.tp_commands.proofs.images.try_disk.Goals as goal

pub returns-in-Ok : goal.returns-in-Ok
returns-in-Ok g c =
    let state = g.D.Disk.state in
    subst (λ (r : Result (Unit {0}) Refusal). TriesOn r (state c.args.disk) (state c.hand_back.result.0)) (sym c.hand_back.ensures.told)
    (inr (c.in-Ok.pool, c.in-Ok.pool, c.in-Ok.ensures.opened, (refl, refl), c.hand_back.ensures.disk))

pub returns-in-Err : goal.returns-in-Err
returns-in-Err g c = inl (c.in-Err.why.refusal, refl, c.in-Err.ensures.refused, refl)
