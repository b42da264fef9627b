use Rattle.std.proofs.Common.{sym, subst, arith}
use Rattle.std.proofs.lemmas.Result.{on_ok_weaker}
use Rattle.tp_mapping.specs.Held.{HoldsOld}
use Rattle.tp_mapping.proofs.Putting.{old_dropped, old_in_use, old_inside, old_stands}
use Rattle.tp_mapping.proofs.forest.drop_volume.Goals as goal

pub returns-in_err-block-clause-damaged : goal.returns-in_err-block-clause-damaged
returns-in_err-block-clause-damaged g c e honest geo top now h = omega (arith, c.in_err-block.ensures.err.1, old_inside geo c.args.tm.now (g.D.Disk.state c.args.disk.now) top c.args.root now h)

pub returns-clause-dropped : goal.returns-clause-dropped
returns-clause-dropped g c = on_ok_weaker c.drop_tree.result
    (λ f honest geo top now h.
    let t = c.args.tm.now in
    let d = g.D.Disk.state c.args.disk.now in
    let n = subst (λ b. HoldsOld geo t d top b now) (sym c.in_ok-block.ensures.inside.0) h in
    old_dropped geo t d top c.in_ok-block.block now n c.drop_tree.new.tm (g.D.Disk.state c.drop_tree.new.disk)
    (record { geometry = c.drop_tree.ensures.fewer.geometry; metadata_kept = c.drop_tree.ensures.fewer.metadata_kept; data_kept = c.drop_tree.ensures.fewer.data_kept; held_root = c.drop_tree.ensures.fewer.held_root }) (f honest _ _ n.trees.store _ _ (old_stands geo t d top c.in_ok-block.block now n))) c.drop_tree.ensures.dropped

pub returns-clause-damaged : goal.returns-clause-damaged
returns-clause-damaged g c e honest geo top now h =
    let t = c.args.tm.now in
    let d = g.D.Disk.state c.args.disk.now in
    let n = subst (λ b. HoldsOld geo t d top b now) (sym c.in_ok-block.ensures.inside.0) h in
    c.drop_tree.ensures.damaged e honest _ _ n.trees.store _ _ (old_stands geo t d top c.in_ok-block.block now n)

pub returns-clause-used : goal.returns-clause-used
returns-clause-used g c = on_ok_weaker c.drop_tree.result
    (λ f honest geo top now h.
    let t = c.args.tm.now in
    let d = g.D.Disk.state c.args.disk.now in
    let n = subst (λ b. HoldsOld geo t d top b now) (sym c.in_ok-block.ensures.inside.0) h in
    old_in_use geo t d top c.in_ok-block.block now n c.drop_tree.new.tm (g.D.Disk.state c.drop_tree.new.disk)
    (record { geometry = c.drop_tree.ensures.fewer.geometry; metadata_kept = c.drop_tree.ensures.fewer.metadata_kept; data_kept = c.drop_tree.ensures.fewer.data_kept; held_root = c.drop_tree.ensures.fewer.held_root }) (f honest _ _ n.trees.store _ _ (old_stands geo t d top c.in_ok-block.block now n))) c.drop_tree.ensures.dropped
