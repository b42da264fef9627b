use Rattle.std.proofs.Common.{◌≡◌, ◌∙◌, ap, sym, subst, refl, arith, false}
use Rattle.std.proofs.lemmas.Result.{IfOk-weaker}
use Rattle.tp_layout.specs.Node.{IsNode, NodeValue}
use Rattle.tp_layout.specs.Value.{node_value}
use Rattle.tp_trees.specs.Growth.{One}
use Rattle.tp_btree.specs.Inserts.{CanPlace, IsBetween, Ran, grown, with_traded}
use Rattle.tp_btree.proofs.Grafting.{halves_traded, middle_new, whole_traded}
use Rattle.tp_btree.proofs.Splitting.{lands_one}
use Rattle.tp_btree.proofs.Writing.{written_value}
use Rattle.std.proofs.lemmas.Result.{err_from_is_err_and}
use Rattle.tp_counts.proofs.Refusing.{fault_is}
use Rattle.tp_btree.proofs.Running.{ran_more}
use Rattle.tp_btree.proofs.growth.graft.Goals as goal

pub returns-in_ok-write-in-Whole-clause-grafted : goal.returns-in_ok-write-in-Whole-clause-grafted
returns-in_ok-write-in-Whole-clause-grafted g c =
    let t = c.args.tm.now in
    let m = t.geometry.metadata_blocks in
    let u = c.write.new.tm in
    let d0 = g.D.Disk.state c.args.disk.now in
    let d1 = g.D.Disk.state c.write.new.disk in
    let n = node_value c.args.node in
    let v = node_value c.exchange_child.new.node in
    let same : v ≡ with_traded c.args.i (One c.in-Whole.child) n = whole_traded n v c.args.i c.in-Whole.child c.requires.within c.exchange_child.ensures.value in
    let own : c.number.result ≡ c.args.node.own = c.number.ensures.value ∙ ap (λ (x : NodeValue). x.own) c.exchange_child.ensures.value in
    subst (λ p. IsBetween n.entries c.args.i (grown p) → CanPlace m t d0 u d1 (with_traded c.args.i (grown p) n) (One c.number.result)) (sym c.in-Whole.is)
    (λ between. subst (λ b. CanPlace m t d0 u d1 (with_traded c.args.i (One c.in-Whole.child) n) (One b)) (sym own)
    (lands_one m t d0 u d1 (with_traded c.args.i (One c.in-Whole.child) n) refl c.requires.inside (subst IsNode same c.exchange_child.ensures.good)
    (written_value m t d0 u d1 v (with_traded c.args.i (One c.in-Whole.child) n) same c.in_ok-write-in-Whole.ensures.written)))

pub returns-in-Halves-clause-grafted : goal.returns-in-Halves-clause-grafted
returns-in-Halves-clause-grafted g c = IfOk-weaker c.put_new.result _ _
    (λ made placed.
    let t = c.args.tm.now in
    let m = t.geometry.metadata_blocks in
    let u = c.put_new.new.tm in
    let d0 = g.D.Disk.state c.args.disk.now in
    let d1 = g.D.Disk.state c.put_new.new.disk in
    let n = node_value c.args.node in
    let v = node_value c.exchange_child-in-Halves.new.node in
    subst (λ p. IsBetween n.entries c.args.i (grown p) → CanPlace m t d0 u d1 (with_traded c.args.i (grown p) n) (grown made)) (sym c.in-Halves.is)
    (λ between. subst (λ x. CanPlace m t d0 u d1 x (grown made))
    (halves_traded n v c.args.i c.in-Halves.child c.in-Halves.middle c.in-Halves.other c.requires.good c.requires.within between c.exchange_child-in-Halves.ensures.value) placed))
    c.put_new.ensures.placed

pub returns-in-Halves-clause-damaged : goal.returns-in-Halves-clause-damaged
returns-in-Halves-clause-damaged g c e b =
    let n = node_value c.args.node in
    let v = node_value c.exchange_child-in-Halves.new.node in
    let between = subst (λ p. IsBetween n.entries c.args.i (grown p)) c.in-Halves.is b in
    c.put_new.ensures.damaged e (middle_new n v c.args.i c.in-Halves.child c.in-Halves.middle c.in-Halves.other c.exchange_child-in-Halves.ensures.good c.requires.within between c.exchange_child-in-Halves.ensures.value)

pub returns-in_err-write-in-Whole-clause-ran : goal.returns-in_err-write-in-Whole-clause-ran
returns-in_err-write-in-Whole-clause-ran g c =
    let p = err_from_is_err_and c.from_residual.result c.from_residual.ensures.1 in
    let d0 = g.D.Disk.state c.args.disk.now in
    let d1 = g.D.Disk.state c.write.new.disk in
    subst (λ b. Ran 1 b c.args.tm.now c.write.new.tm d0 d1) (sym (fault_is c.from_residual.result p.0 c.in_err-write-in-Whole.field-0.0 p.1 p.2))
    (ran_more 0 1 _ c.args.tm.now c.write.new.tm d0 d1 (omega arith) c.in_err-write-in-Whole.ensures.ran)

pub returns-in_ok-write-in-Whole-clause-ran : goal.returns-in_ok-write-in-Whole-clause-ran
returns-in_ok-write-in-Whole-clause-ran g c =
    ran_more 0 1 false c.args.tm.now c.write.new.tm (g.D.Disk.state c.args.disk.now) (g.D.Disk.state c.write.new.disk) (omega arith) c.in_ok-write-in-Whole.ensures.ran

pub returns-in-Halves-clause-ran : goal.returns-in-Halves-clause-ran
returns-in-Halves-clause-ran g c = c.put_new.ensures.ran
