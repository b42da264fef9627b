use Rattle.std.proofs.Common.{◌++◌, ◌∷◌, refl}
use Rattle.std.proofs.lemmas.Result.{on_ok_weaker}
use Rattle.tp_stored.specs.Commit.{held_by}
use Rattle.tp_mapping.proofs.Copies.{err_of, has_live, not_shared, shared_ran}
use Rattle.tp_mapping.proofs.Use.{named_live, use_passed}
use Rattle.tp_mapping.proofs.volume.name_root.Goals as goal

pub returns-clause-named : goal.returns-clause-named
returns-clause-named c = on_ok_weaker c.share.result
    (λ f disk geo root more now device mapped size few h. f disk _ _ h.trees.store h.trees.holds (has_live geo c.args.tm.now disk root more now device (record { root = c.args.block; mapped = mapped; size = size }) h) refl) c.share.ensures.named

pub returns-clause-damaged : goal.returns-clause-damaged
returns-clause-damaged c e disk geo root more now device mapped size few h =
    not_shared geo c.args.tm.now disk root more now device (record { root = c.args.block; mapped = mapped; size = size }) h few c.geometry.ensures.sized c.requires.inside (err_of c.share.result _ _ e c.share.ensures.err).2

pub returns-clause-ran : goal.returns-clause-ran
returns-clause-ran c disk = shared_ran c.share.result c.args.tm.now c.share.new.tm c.args.block _ _ disk c.requires.inside c.share.ensures.more c.share.ensures.err

pub returns-clause-used : goal.returns-clause-used
returns-clause-used c = on_ok_weaker c.share.result
    (λ f disk geo root more now device mapped size h.
    let t = c.args.tm.now in
    let u = c.share.new.tm in
    let live = has_live geo t disk root more now device (record { root = c.args.block; mapped = mapped; size = size }) h in
    use_passed t u disk disk h.trees.store (more ++ held_by geo root t.held_root) (c.args.block ∷ (more ++ held_by geo root t.held_root)) (shared_ran c.share.result t u c.args.block _ _ disk c.requires.inside c.share.ensures.more c.share.ensures.err).geometry h.trees.holds
    (f disk _ _ h.trees.store h.trees.holds live refl) (named_live h.trees.store (more ++ held_by geo root t.held_root) c.args.block h.trees.holds.balanced live)) c.share.ensures.named
