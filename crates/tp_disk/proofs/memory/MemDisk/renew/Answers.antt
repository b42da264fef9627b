use Rattle.std.proofs.Common.{◌≡◌, ◌∙◌, ap}
use Rattle.tp_model.specs.Sectors.{chopped}
use Rattle.tp_model.specs.Disk.{fresh}
use Rattle.tp_disk.proofs.Holding.{holds_now, holds_renewed, renewed_image}
use Rattle.tp_disk.proofs.memory.MemDisk.renew.Goals as goal

pub invariant_of-self : goal.invariant_of-self
invariant_of-self c =
    let disk = c.args.self.now in
    let state : c.note.new.self.state ≡ fresh (chopped disk.size disk.newest.items) = c.note.ensures ∙ ap (λ l. fresh (chopped disk.size l)) c.deref-2.ensures.value in
    let held = holds_renewed {writes' = c.new.result.items} (holds_now disk) (c.copy_from_slice.ensures.items ∙ c.deref.ensures.value) c.new.ensures.items state in
    record { size_is = held.size_is; honest = held.honest; well_formed = held.well_formed; cells_are = held.cells_are; within = held.within; kept_long = held.kept_long; newest_is = held.newest_is; newest_long = held.newest_long; reads_long = disk.reads_long; writes_long = disk.writes_long }

pub returns-clause-state : goal.returns-clause-state
returns-clause-state c =
    let disk = c.args.self.now in
    c.note.ensures ∙ ap (λ l. fresh (chopped disk.size l)) c.deref-2.ensures.value ∙ ap fresh (renewed_image (holds_now disk))
