use Rattle.std.proofs.Common.{◌+◌, ◌∷◌, subst, sym}
use Rattle.tp_refs.specs.Store.{count_of, with_count}
use Rattle.tp_tm.specs.Tm.{Tm}
use Rattle.tp_tm.specs.Holds.{Holds}
use Rattle.tp_tm.proofs.Standing.{named_holds, shared_holds}
use Rattle.tp_tm.proofs.Tm.share.Goals as goal

pub returns-clause-holds : goal.returns-clause-holds
returns-clause-holds c disk opens held s h =
    let x = c.args.block in
    subst (λ (t : Tm). Holds t disk opens (x ∷ x ∷ held) (with_count s x (count_of s x + 1))) (sym c.name.ensures.more)
    (shared_holds c.args.self.now disk opens held s x c.name.ensures.long c.requires.inside h)

pub returns-clause-named : goal.returns-clause-named
returns-clause-named c disk opens held s h live closed =
    let x = c.args.block in
    subst (λ (t : Tm). Holds t disk opens (x ∷ held) (with_count s x (count_of s x + 1))) (sym c.name.ensures.more)
    (named_holds c.args.self.now disk opens held s x c.name.ensures.long c.requires.inside h live closed)
