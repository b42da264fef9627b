use Rattle.std.proofs.Common.{◌≡◌, ◌∙◌, ap, rules}
use Rattle.tp_model.specs.Sectors.{chopped}
use Rattle.tp_model.specs.Disk.{fresh}
use Rattle.tp_disk.proofs.Holding.{holds_first}
use Rattle.tp_disk.proofs.memory.MemDisk.begin.Goals as goal

pub invariant_of-result : goal.invariant_of-result
invariant_of-result c =
    let same : c.in_ok-newest.newest.items ≡ c.args.kept.items = c.in_ok-newest.ensures.items ∙ c.deref.ensures.value in
    let state : c.note.new.self.state ≡ fresh (chopped c.args.size c.args.kept.items) = c.note.ensures ∙ ap (λ l. fresh (chopped c.args.size l)) c.deref-2.ensures.value in
    let held = holds_first c.args.size c.args.kept.items c.in_ok-newest.newest.items c.new.result.items c.note.new.self.state c.requires.fits c.requires.long c.new.ensures.items same state in
    record { size_is = held.size_is; honest = held.honest; well_formed = held.well_formed; cells_are = held.cells_are; within = held.within; kept_long = held.kept_long; newest_is = held.newest_is; newest_long = held.newest_long; reads_long = search rules; writes_long = search rules }
