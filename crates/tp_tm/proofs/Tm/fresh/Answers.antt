use Rattle.std.proofs.Common.{◌≡◌, ◌+◌, ◌≤◌, ◌∷◌, length, get_or, subst, sym, ap, ◌∙◌}
use Rattle.tp_refs.specs.Store.{with_count}
use Rattle.tp_tm.specs.Tm.{Tm, free_metadata, used_metadata}
use Rattle.tp_tm.specs.Holds.{Holds}
use Rattle.tp_counts.proofs.Free.{one_taken}
use Rattle.tp_tm.proofs.Used.{one_used}
use Rattle.tp_tm.proofs.Standing.{taken_holds, with_now}
use Rattle.tp_tm.proofs.Tm.fresh.Goals as goal
use Rattle.tp_tm.proofs.Tm.fresh.Goals.{After-name}

after : (c : After-name) → c.name.new.self ≡ with_now c.args.self.now c.find_free-block.result 1
after c =
    c.name.ensures.more ∙ ap (λ (t : Tm). with_now t c.find_free-block.result (get_or t.metadata_now c.find_free-block.result 0 + 1)) c.find_free-block.ensures.unchanged
    ∙ ap (λ k. with_now c.args.self.now c.find_free-block.result (k + 1)) c.find_free-block.ensures.now

pub returns-clause-holds : goal.returns-clause-holds
returns-clause-holds c disk opens held s h =
    let x = c.find_free-block.result in
    subst (λ (t : Tm). Holds t disk (x ∷ opens) held (with_count s x 1)) (sym (after (goal.at.returns-clause-holds c).After-name))
    (taken_holds c.args.self.now disk opens held s x
    (subst (λ (t : Tm). length t.metadata_now ≡ t.geometry.metadata_blocks) c.find_free-block.ensures.unchanged c.name.ensures.long)
    (subst (λ (t : Tm). length t.metadata_kept ≡ t.geometry.metadata_blocks) c.find_free-block.ensures.unchanged c.name.ensures.kept_long)
    c.find_free-block.ensures.inside c.find_free-block.ensures.now c.find_free-block.ensures.kept h)

pub returns-clause-room : goal.returns-clause-room
returns-clause-room c =
    let x = c.find_free-block.result in
    subst (λ (t : Tm). free_metadata c.args.self.now ≤ free_metadata t + 1) (sym (after (goal.at.returns-clause-room c).After-name))
    (one_taken c.args.self.now.geometry.metadata_blocks c.args.self.now.metadata_now c.args.self.now.metadata_kept x 1 c.find_free-block.ensures.inside)

pub returns-clause-used : goal.returns-clause-used
returns-clause-used c =
    let x = c.find_free-block.result in
    subst (λ (t : Tm). used_metadata t ≤ used_metadata c.args.self.now + 1) (sym (after (goal.at.returns-clause-used c).After-name))
    (one_used c.args.self.now.geometry.metadata_blocks c.args.self.now.metadata_now x 1 c.find_free-block.ensures.inside)
