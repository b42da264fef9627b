use Rattle.std.proofs.Common.{◌+◌, ◌∷◌, sym, subst}
use Rattle.tp_refs.specs.Store.{count_of, with_count}
use Rattle.tp_tm.specs.Tm.{Tm}
use Rattle.tp_tm.specs.Holds.{Holds}
use Rattle.tp_tm.proofs.Counting.{data_shared}
use Rattle.tp_tm.proofs.Tm.share_data.Goals as goal

pub returns-clause-holds : goal.returns-clause-holds
returns-clause-holds c disk opens held s h =
    let x = c.args.self.now.geometry.metadata_blocks + c.args.place in
    subst (λ (t : Tm). Holds t disk opens (x ∷ x ∷ held) (with_count s x (count_of s x + 1))) (sym c.name_data.ensures.more)
    (data_shared c.args.self.now c.name_data.ensures.sized c.args.place c.requires.inside disk opens held s h)
