use Rattle.std.proofs.Common.{◌<◌, subst, sym, ap, arith}
use Rattle.tp_counts.specs.Counts.{free_count}
use Rattle.tp_tm.specs.Tm.{Tm, free_metadata}
use Rattle.tp_tm.proofs.Counting.{metadata_are}
use Rattle.tp_tm.proofs.Tm.find_free.Goals as goal

pub unreachable-requires : goal.unreachable-requires
unreachable-requires c =
    let room = subst (λ (t : Tm). 0 < free_metadata t) (sym c.self.view_is) c.requires.room in
    omega (arith, c.in_default.ensures.count, room, ap free_count (metadata_are c.self.invariant))
