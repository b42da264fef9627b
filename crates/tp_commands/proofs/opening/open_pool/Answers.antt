use Rattle.std.proofs.Common.{◌≡◌, ap, arith, subst, sym}
use Rattle.tp_model.specs.declared.refusal.Refusal.{Refusal}
use Rattle.tp_cache.specs.Line.{Line}
use Rattle.tp_commands.specs.Opening.{IsRefusedOn}
use Rattle.tp_commands.proofs.opening.open_pool.Goals as goal

pub returns-in-Ok-clause-opened : goal.returns-in-Ok-clause-opened
returns-in-Ok-clause-opened g c =
    let said = c.in-Ok.ensures in
    let given = c.requires in
    let start = said.start in
    let places : c.in-Ok.pool.cache.room ≡ 1024 = start.room (omega arith) in
    record {
      disk_is = ap (λ (l : Line). l.inner) said.start.line;
      holders = said.holders;
      room = omega (arith, places);
      opened = λ honest. said.opened honest (given.settled honest);
    }

pub returns-in-Err-clause-refused : goal.returns-in-Err-clause-refused
returns-in-Err-clause-refused g c =
    let said = c.in-Err.ensures in
    subst (λ (r : Refusal). IsRefusedOn (g.D.Disk.state c.args.disk) (g.D.Disk.state c.in-Err.disk) r) (sym c.on_disk.ensures)
    (record { why = said.why; none = λ no_fault some honest is. said.refused no_fault some honest is.0 is.1.0 is.1.1; state = said.back })
