use Rattle.std.proofs.Common.{◌≡◌, ◌∙◌, ◌+◌, ◌-◌, ◌<◌, ◌∷◌, ◌++◌, ℕ, suc, List, Err, drop, get_or, false, refl, ap, sym, subst, arith}
use Rattle.std.specs.Prelude.{IsTrue}
use Rattle.std.proofs.lemmas.Result.{err_from_is_err_and}
use Rattle.tp_counts.specs.declared.error.StoreError.{StoreError}
use Rattle.tp_counts.specs.declared.error.StoreError.TheVariants.{Damaged}
use Rattle.tp_layout.specs.Node.{NodeValue}
use Rattle.tp_layout.specs.Value.{node_value}
use Rattle.tp_layout.specs.Entries.{first_key}
use Rattle.tp_layout.specs.declared.entry.Entry.{Entry}
use Rattle.tp_refs.specs.Store.{Store, node_at}
use Rattle.tp_trees.specs.Tree.{blank}
use Rattle.tp_trees.specs.Growth.{others}
use Rattle.tp_btree.specs.Inserts.{IsWritten, Ran}
use Rattle.tp_btree.specs.Replaces.{CanReplace, Opened, Swapped, as_reference}
use Rattle.tp_counts.proofs.Refusing.{fault_is, refusal_is}
use Rattle.tp_btree.proofs.Running.{ran_then}
use Rattle.tp_btree.proofs.Swapping.{child_inside, child_replaces, inner_swapped, leaf_has, leaf_swapped, led_on, raw_place, replaced_level, replaced_low, replaced_ranked, replaced_room}
use Rattle.tp_btree.proofs.replacement.+replace_below.Given.{Over}
use Rattle.tp_btree.proofs.replacement.+replace_below.Goals as goal
use Rattle.tp_btree.proofs.replacement.+replace_below.Goals.{In_ok-node}

-- what stands once the block was opened
was_opened : (g : Over) (t : ℕ) (c : In_ok-node g t) → IsTrue (g.D.Disk.state c.args.disk.now).is_honest → (opens held : List ℕ) (s : Store) (k low high : ℕ) (was : Entry)
    → CanReplace c.args.tm.now (g.D.Disk.state c.args.disk.now) c.args.kind opens held s k low high c.args.block (as_reference c.args.tm.now.geometry.metadata_blocks c.args.kind c.args.entry) was
    → Opened c.args.tm.now.geometry.metadata_blocks s c.open.new.tm (g.D.Disk.state c.open.new.disk) c.args.block (node_value c.in_ok-node.node) opens
    ((as_reference c.args.tm.now.geometry.metadata_blocks c.args.kind c.args.entry).value ∷ held)
was_opened g t c honest opens held s k low high was r =
    let tm = c.args.tm.now in
    let d = g.D.Disk.state c.args.disk.now in
    let x = as_reference tm.geometry.metadata_blocks c.args.kind c.args.entry in
    c.in_ok-node.ensures.opened honest opens (x.value ∷ held) s r.holds (replaced_ranked tm d c.args.kind opens held s k low high c.args.block x was r) (replaced_room tm d c.args.kind opens held s k low high c.args.block x was r)

size_is : (g : Over) (t : ℕ) (c : In_ok-node g t) → c.open.new.tm.geometry.metadata_blocks ≡ c.args.tm.now.geometry.metadata_blocks
size_is g t c = ap (λ z. z.metadata_blocks) c.in_ok-node.ensures.ran.geometry

pub returns-in_err-node-clause-damaged : goal.returns-in_err-node-clause-damaged
returns-in_err-node-clause-damaged g t c e honest opens held s k low high was r fits =
    let tm = c.args.tm.now in
    let d = g.D.Disk.state c.args.disk.now in
    let x = as_reference tm.geometry.metadata_blocks c.args.kind c.args.entry in
    let p = err_from_is_err_and c.from_residual.result c.from_residual.ensures.1 in
    c.in_err-node.ensures.damaged (ap (λ (z : StoreError). Err z) (refusal_is c.from_residual.result p.0 c.in_err-node.field-0.0 Damaged p.1 p.2 e)) honest opens (x.value ∷ held) s r.holds
    (replaced_ranked tm d c.args.kind opens held s k low high c.args.block x was r) (replaced_room tm d c.args.kind opens held s k low high c.args.block x was r)
    (replaced_low tm d c.args.kind opens held s k low high c.args.block c.args.top x was r fits)

pub returns-in_err-was-clause-damaged : goal.returns-in_err-was-clause-damaged
returns-in_err-was-clause-damaged g t c e honest opens held s k low high was r fits =
    let tm = c.args.tm.now in
    let here = (goal.at.returns-in_err-was-clause-damaged g t c).In_ok-node in
    leaf_has tm.geometry.metadata_blocks tm c.open.new.tm (g.D.Disk.state c.args.disk.now) (g.D.Disk.state c.open.new.disk) c.args.kind opens held s k low high c.args.block c.args.entry was r (node_value c.in_ok-node.node)
    (was_opened g t here honest opens held s k low high was r) c.in_ok-node.ensures.kind c.if-node-eq0.true c.in_err-was.ensures.err.1

pub returns-in_err-write-clause-ran : goal.returns-in_err-write-clause-ran
returns-in_err-write-clause-ran g t c =
    let p = err_from_is_err_and c.from_residual-in_err-write.result c.from_residual-in_err-write.ensures.1 in
    let d0 = g.D.Disk.state c.args.disk.now in
    let d1 = g.D.Disk.state c.open.new.disk in
    let d2 = g.D.Disk.state c.write.new.disk in
    subst (λ b. Ran (c.args.top + 1) b c.args.tm.now c.write.new.tm d0 d2) (sym (fault_is c.from_residual-in_err-write.result p.0 c.in_err-write.field-0.0 p.1 p.2))
    (ran_then 1 0 (c.args.top + 1) _ c.args.tm.now c.open.new.tm c.write.new.tm d0 d1 d2 (omega arith) c.in_ok-node.ensures.ran c.in_err-write.ensures.ran)

pub returns-then-node-eq0-clause-replaced : goal.returns-then-node-eq0-clause-replaced
returns-then-node-eq0-clause-replaced g t c honest opens held s k low high was r fits =
    let tm = c.args.tm.now in
    let m = tm.geometry.metadata_blocks in
    let u = c.open.new.tm in
    let d1 = g.D.Disk.state c.open.new.disk in
    let d2 = g.D.Disk.state c.write.new.disk in
    let v = node_value c.exchange.new.leaf in
    let here = (goal.at.returns-then-node-eq0-clause-replaced g t c).In_ok-node in
    leaf_swapped m tm u (g.D.Disk.state c.args.disk.now) d1 c.args.kind opens held s k low high c.args.block c.args.entry was r (node_value c.in_ok-node.node) (was_opened g t here honest opens held s k low high was r)
    c.in_ok-node.ensures.kind c.if-node-eq0.true c.in_ok-was.was' v c.write.new.tm d2 (record { root = c.exchange.new.leaf.own; was = c.in_ok-was.was' }) (size_is g t here) c.in_ok-node.ensures.inside c.in_ok-was.ensures.before c.in_ok-was.ensures.value
    c.in_ok-was.ensures.good (subst (λ z. IsWritten z u d1 c.write.new.tm d2 v) (size_is g t here) c.in_ok-write.ensures.written) (ap (λ (z : NodeValue). z.own) c.in_ok-was.ensures.value) refl

pub returns-then-node-eq0-clause-ran : goal.returns-then-node-eq0-clause-ran
returns-then-node-eq0-clause-ran g t c =
    ran_then 1 0 (c.args.top + 1) false c.args.tm.now c.open.new.tm c.write.new.tm (g.D.Disk.state c.args.disk.now) (g.D.Disk.state c.open.new.disk) (g.D.Disk.state c.write.new.disk) (omega arith) c.in_ok-node.ensures.ran c.in_ok-write.ensures.ran

pub returns-in_err-way-clause-damaged : goal.returns-in_err-way-clause-damaged
returns-in_err-way-clause-damaged g t c e honest opens held s k low high was r fits =
    let tm = c.args.tm.now in
    let m = tm.geometry.metadata_blocks in
    let u = c.open.new.tm in
    let d0 = g.D.Disk.state c.args.disk.now in
    let d1 = g.D.Disk.state c.open.new.disk in
    let here = (goal.at.returns-in_err-way-clause-damaged g t c).In_ok-node in
    let n = node_value c.in_ok-node.node in
    let op = was_opened g t here honest opens held s k low high was r in
    let up : 0 < c.in_ok-node.node.level = omega (arith, c.if-node-eq0.false) in
    let place = raw_place m tm u d0 d1 c.args.kind opens held s k low high c.args.block c.args.entry was r n op c.in_ok-node.ensures.kind up in
    let inside = child_inside m tm u d0 d1 c.args.kind opens held s k low high c.args.block c.args.entry was r n op c.in_ok-node.ensures.kind up place.0 place.1 (get_or n.entries place.0 blank).value refl (size_is g t here) in
    omega (arith, inside, size_is g t here, c.in_err-way.ensures.err.1 place.0 place.1)

pub returns-in_err-done-clause-damaged : goal.returns-in_err-done-clause-damaged
returns-in_err-done-clause-damaged g t c e honest opens held s k low high was r fits =
    let tm = c.args.tm.now in
    let m = tm.geometry.metadata_blocks in
    let u = c.open.new.tm in
    let d0 = g.D.Disk.state c.args.disk.now in
    let d1 = g.D.Disk.state c.open.new.disk in
    let here = (goal.at.returns-in_err-done-clause-damaged g t c).In_ok-node in
    let n = node_value c.in_ok-node.node in
    let op = was_opened g t here honest opens held s k low high was r in
    let kinds = c.in_ok-node.ensures.kind in
    let up : 0 < c.in_ok-node.node.level = omega (arith, c.if-node-eq0.false) in
    let led = led_on m tm u d0 d1 c.args.kind opens held s k low high c.args.block c.args.entry was r n op kinds up in
    let way = c.in_ok-way.ensures.way in
    let i = c.in_ok-way.way.index in
    let es = (node_at s c.args.block).entries in
    let from = (get_or es i blank).key in
    let to = first_key (drop (suc i) es) high in
    let below = child_replaces m tm u d0 d1 c.args.kind opens held s k low high c.args.block c.args.entry was r n op kinds up i way.rank c.in_ok-way.way.child way.child led.0 led.1 in
    let p = err_from_is_err_and c.from_residual-in_err-done.result c.from_residual-in_err-done.ensures.1 in
    c.in_err-done.ensures.damaged (ap (λ (z : StoreError). Err z) (refusal_is c.from_residual-in_err-done.result p.0 c.in_err-done.field-0.0 Damaged p.1 p.2 e)) (subst (λ b. IsTrue b) (sym c.in_ok-node.ensures.ran.same_disk.is_honest) honest)
    (n.own ∷ opens) (others es i ++ held) op.after led.0 from to was
    (subst (λ z. CanReplace u d1 c.args.kind (n.own ∷ opens) (others es i ++ held) op.after led.0 from to c.in_ok-way.way.child (as_reference z c.args.kind c.args.entry) was) (sym (size_is g t here)) below)
    (omega (arith, led.1, replaced_level m tm u d0 d1 c.args.kind opens held s k low high c.args.block c.args.entry was r n op kinds))

pub returns-in_err-done-clause-ran : goal.returns-in_err-done-clause-ran
returns-in_err-done-clause-ran g t c =
    let p = err_from_is_err_and c.from_residual-in_err-done.result c.from_residual-in_err-done.ensures.1 in
    let d0 = g.D.Disk.state c.args.disk.now in
    let d1 = g.D.Disk.state c.open.new.disk in
    let d2 = g.D.Disk.state c.replace_below.new.disk in
    subst (λ b. Ran (c.args.top + 1) b c.args.tm.now c.replace_below.new.tm d0 d2) (sym (fault_is c.from_residual-in_err-done.result p.0 c.in_err-done.field-0.0 p.1 p.2))
    (ran_then 1 (c.in_ok-node.node.level - 1 + 1) (c.args.top + 1) _ c.args.tm.now c.open.new.tm c.replace_below.new.tm d0 d1 d2 (omega (arith, c.in_ok-node.ensures.top, c.if-node-eq0.false)) c.in_ok-node.ensures.ran c.in_err-done.ensures.ran)

pub returns-in_err-write-2-clause-ran : goal.returns-in_err-write-2-clause-ran
returns-in_err-write-2-clause-ran g t c =
    let p = err_from_is_err_and c.from_residual-in_err-write-2.result c.from_residual-in_err-write-2.ensures.1 in
    let d0 = g.D.Disk.state c.args.disk.now in
    let d1 = g.D.Disk.state c.open.new.disk in
    let d2 = g.D.Disk.state c.replace_below.new.disk in
    let d3 = g.D.Disk.state c.write-2.new.disk in
    let l = c.in_ok-node.node.level - 1 + 1 in
    subst (λ b. Ran (c.args.top + 1) b c.args.tm.now c.write-2.new.tm d0 d3) (sym (fault_is c.from_residual-in_err-write-2.result p.0 c.in_err-write-2.field-0.0 p.1 p.2))
    (ran_then 1 l (c.args.top + 1) _ c.args.tm.now c.open.new.tm c.write-2.new.tm d0 d1 d3 (omega (arith, c.in_ok-node.ensures.top, c.if-node-eq0.false)) c.in_ok-node.ensures.ran
    (ran_then l 0 l _ c.open.new.tm c.replace_below.new.tm c.write-2.new.tm d1 d2 d3 (omega arith) c.in_ok-done.ensures.ran c.in_err-write-2.ensures.ran))

pub returns-clause-replaced : goal.returns-clause-replaced
returns-clause-replaced g t c honest opens held s k low high was r fits =
    let tm = c.args.tm.now in
    let m = tm.geometry.metadata_blocks in
    let u = c.open.new.tm in
    let u1 = c.replace_below.new.tm in
    let u2 = c.write-2.new.tm in
    let d0 = g.D.Disk.state c.args.disk.now in
    let d1 = g.D.Disk.state c.open.new.disk in
    let d2 = g.D.Disk.state c.replace_below.new.disk in
    let d3 = g.D.Disk.state c.write-2.new.disk in
    let kind = c.args.kind in
    let here = (goal.at.returns-clause-replaced g t c).In_ok-node in
    let n = node_value c.in_ok-node.node in
    let v = node_value c.exchange_child.new.node in
    let op = was_opened g t here honest opens held s k low high was r in
    let kinds = c.in_ok-node.ensures.kind in
    let up : 0 < c.in_ok-node.node.level = omega (arith, c.if-node-eq0.false) in
    let led = led_on m tm u d0 d1 kind opens held s k low high c.args.block c.args.entry was r n op kinds up in
    let way = c.in_ok-way.ensures.way in
    let i = c.in_ok-way.way.index in
    let child = c.in_ok-way.way.child in
    let es = (node_at s c.args.block).entries in
    let from = (get_or es i blank).key in
    let to = first_key (drop (suc i) es) high in
    let below = child_replaces m tm u d0 d1 kind opens held s k low high c.args.block c.args.entry was r n op kinds up i way.rank child way.child led.0 led.1 in
    let size = size_is g t here in
    let later : u1.geometry.metadata_blocks ≡ m = ap (λ z. z.metadata_blocks) c.in_ok-done.ensures.ran.geometry ∙ size in
    let sw = c.in_ok-done.ensures.replaced (subst (λ b. IsTrue b) (sym c.in_ok-node.ensures.ran.same_disk.is_honest) honest) (n.own ∷ opens) (others es i ++ held) op.after led.0 from to was
    (subst (λ z. CanReplace u d1 kind (n.own ∷ opens) (others es i ++ held) op.after led.0 from to child (as_reference z kind c.args.entry) was) (sym size) below)
    (omega (arith, led.1, replaced_level m tm u d0 d1 kind opens held s k low high c.args.block c.args.entry was r n op kinds)) in
    inner_swapped m tm u d0 d1 kind opens held s k low high c.args.block c.args.entry was r n op kinds up i way.rank child way.child led.0 led.1 v u1 u2 d2 d3 c.in_ok-done.done
    (record { root = c.exchange_child.new.node.own; was = c.in_ok-done.done.was }) later c.in_ok-node.ensures.inside
    (subst (λ z. Swapped z op.after u1 d2 kind (n.own ∷ opens) (others es i ++ held) led.0 from to child (as_reference z kind c.args.entry) was c.in_ok-done.done) size sw)
    way.within c.number.result c.number.ensures.value c.exchange_child.ensures.value c.exchange_child.ensures.good (subst (λ z. IsWritten z u1 d2 u2 d3 v) later c.in_ok-write-2.ensures.written) (ap (λ (z : NodeValue). z.own) c.exchange_child.ensures.value) refl

pub returns-clause-ran : goal.returns-clause-ran
returns-clause-ran g t c =
    let d0 = g.D.Disk.state c.args.disk.now in
    let d1 = g.D.Disk.state c.open.new.disk in
    let d2 = g.D.Disk.state c.replace_below.new.disk in
    let d3 = g.D.Disk.state c.write-2.new.disk in
    let l = c.in_ok-node.node.level - 1 + 1 in
    ran_then 1 l (c.args.top + 1) false c.args.tm.now c.open.new.tm c.write-2.new.tm d0 d1 d3 (omega (arith, c.in_ok-node.ensures.top, c.if-node-eq0.false)) c.in_ok-node.ensures.ran
    (ran_then l 0 l false c.open.new.tm c.replace_below.new.tm c.write-2.new.tm d1 d2 d3 (omega arith) c.in_ok-done.ensures.ran c.in_ok-write-2.ensures.ran)
