use Rattle.std.proofs.Common.{Result, subst, sym}
use Rattle.tp_model.specs.declared.refusal.Refusal.{Refusal}
use Rattle.tp_commands.specs.Images.{PrintsCleared}
use Rattle.tp_commands.proofs.images.clear_disk.Goals as goal

pub returns : goal.returns
returns g c =
    let calls = g.S.Stream.calls in
    let state = g.D.Disk.state in
    subst (λ (r : Result (Unit {0}) Refusal). PrintsCleared (calls c.args.stream.now) (calls c.tell_cleared-told.new.stream) r (state c.args.disk) (state c.tell_cleared-told.new.disk)) (sym c.because-told.ensures) c.tell_cleared-told.ensures
