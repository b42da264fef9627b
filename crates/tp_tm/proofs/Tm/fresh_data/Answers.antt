use Rattle.std.proofs.Common.{◌≡◌, ◌+◌, ◌∷◌, get_or, sym, ap, subst, ◌∙◌}
use Rattle.tp_refs.specs.Store.{with_count}
use Rattle.tp_tm.specs.Tm.{IsSized, Tm}
use Rattle.tp_tm.specs.Holds.{Holds}
use Rattle.tp_tm.proofs.Counting.{data_taken, with_data}
use Rattle.tp_tm.proofs.Tm.fresh_data.Goals as goal

pub returns-clause-holds : goal.returns-clause-holds
returns-clause-holds c disk opens held s h =
    let p = c.in_ok-place.place in
    let x = c.args.self.now.geometry.metadata_blocks + p in
    let free = c.in_ok-place.ensures.found.free in
    let after : c.name_data.new.self ≡ with_data c.args.self.now p 1 =
    c.name_data.ensures.more ∙ ap (λ (t : Tm). with_data t p (get_or t.data_now p 0 + 1)) c.in_ok-place.ensures.unchanged
    ∙ ap (λ n. with_data c.args.self.now p (n + 1)) free.now in
    subst (λ (t : Tm). Holds t disk opens (x ∷ held) (with_count s x 1)) (sym after)
    (data_taken c.args.self.now (subst IsSized c.in_ok-place.ensures.unchanged c.name_data.ensures.sized) p free.inside disk opens held s free.now free.kept h)
