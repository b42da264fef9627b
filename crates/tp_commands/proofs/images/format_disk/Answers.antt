use Rattle.std.proofs.Common.{inr, Result, subst, sym}
use Rattle.tp_model.specs.declared.refusal.Refusal.{Refusal}
use Rattle.tp_commands.specs.Images.{FormatsOn, IsMadeOn}
use Rattle.tp_commands.proofs.Formats.{unmade}
use Rattle.tp_commands.proofs.images.format_disk.Goals as goal

pub returns-in-Ok : goal.returns-in-Ok
returns-in-Ok g c =
    let calls = g.S.Stream.calls in
    let state = g.D.Disk.state in
    let said = c.in-Ok.ensures in
    let made : IsMadeOn c.args.geometry (state c.args.disk) c.in-Ok.pool = record { formats = record { cause = said.cause; any_moment = said.pools }; same_disk = said.same; fresh = said.fresh; settled = said.settled; shows_it = said.shows; opened = said.opened } in
    subst (λ (r : Result (Unit {0}) Refusal). FormatsOn c.args.geometry (calls c.args.stream.now) (calls c.print_status-told.new.stream) r (state c.args.disk) (state c.hand_back.result.0)) (sym c.hand_back.ensures.told)
    (inr (c.in-Ok.pool, c.print_status-told.new.pool, made, c.print_status-told.ensures, c.hand_back.ensures.disk))

pub returns-in-Err : goal.returns-in-Err
returns-in-Err g c =
    let said = c.in-Err.ensures in
    unmade c.args.geometry (g.S.Stream.calls c.args.stream.now) c.in-Err.refusal c.on_disk-why.result.refusal (g.D.Disk.state c.args.disk) (g.D.Disk.state c.in-Err.disk) c.on_disk-why.ensures c.requires said.only said.small said.untouched (record { cause = said.cause; any_moment = said.pools }) said.same
