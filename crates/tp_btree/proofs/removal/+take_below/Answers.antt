use Rattle.std.proofs.Common.{◌≡◌, ◌∙◌, ◌+◌, ◌-◌, ◌*◌, ◌<◌, ◌≤◌, ◌∷◌, ◌++◌, ℕ, suc, List, Err, drop, get_or, false, refl, ap, sym, subst, arith}
use Rattle.std.specs.Prelude.{IsTrue}
use Rattle.std.proofs.lemmas.Result.{err_from_is_err_and}
use Rattle.tp_counts.specs.declared.error.StoreError.{StoreError}
use Rattle.tp_counts.specs.declared.error.StoreError.TheVariants.{Damaged}
use Rattle.tp_layout.specs.Value.{node_value}
use Rattle.tp_layout.specs.Entries.{first_key}
use Rattle.tp_layout.specs.declared.entry.Entry.{Entry}
use Rattle.tp_refs.specs.Store.{Store, node_at}
use Rattle.tp_trees.specs.Tree.{blank}
use Rattle.tp_trees.specs.Growth.{others}
use Rattle.tp_btree.specs.Inserts.{Ran}
use Rattle.tp_btree.specs.Replaces.{Opened}
use Rattle.tp_btree.specs.Removes.{CanRefit, CanRemove, Cutout, Refit}
use Rattle.tp_btree.proofs.Cutting.{child_removes, child_stands_inside, inner_cut, leads_on, leaf_cut, leaf_lacks, part_refits, removed_level, removed_low, removed_ranked, removed_room, way_place}
use Rattle.tp_counts.proofs.Refusing.{fault_is, refusal_is}
use Rattle.tp_btree.proofs.Running.{ran_then}
use Rattle.tp_btree.proofs.removal.+take_below.Given.{Over}
use Rattle.tp_btree.proofs.removal.+take_below.Goals as goal
use Rattle.tp_btree.proofs.removal.+take_below.Goals.{In_ok-node}

-- what stands once the block was opened
was_opened : (g : Over) (t : ℕ) (c : In_ok-node g t) → IsTrue (g.D.Disk.state c.args.disk.now).is_honest → (opens held : List ℕ) (s : Store) (k low high : ℕ) (was : Entry)
    → CanRemove c.args.tm.now (g.D.Disk.state c.args.disk.now) c.args.kind opens held s k low high c.args.block c.args.key was
    → Opened c.args.tm.now.geometry.metadata_blocks s c.open.new.tm (g.D.Disk.state c.open.new.disk) c.args.block (node_value c.in_ok-node.node) opens held
was_opened g t c honest opens held s k low high was r =
    let tm = c.args.tm.now in
    let d = g.D.Disk.state c.args.disk.now in
    c.in_ok-node.ensures.opened honest opens held s r.holds (removed_ranked tm d c.args.kind opens held s k low high c.args.block c.args.key was r) (removed_room tm d c.args.kind opens held s k low high c.args.block c.args.key was r)

size_is : (g : Over) (t : ℕ) (c : In_ok-node g t) → c.open.new.tm.geometry.metadata_blocks ≡ c.args.tm.now.geometry.metadata_blocks
size_is g t c = ap (λ z. z.metadata_blocks) c.in_ok-node.ensures.ran.geometry

pub returns-in_err-node-clause-damaged : goal.returns-in_err-node-clause-damaged
returns-in_err-node-clause-damaged g t c e honest opens held s k low high was r fits =
    let tm = c.args.tm.now in
    let d = g.D.Disk.state c.args.disk.now in
    let p = err_from_is_err_and c.from_residual.result c.from_residual.ensures.1 in
    c.in_err-node.ensures.damaged (ap (λ (z : StoreError). Err z) (refusal_is c.from_residual.result p.0 c.in_err-node.field-0.0 Damaged p.1 p.2 e)) honest opens held s r.holds
    (removed_ranked tm d c.args.kind opens held s k low high c.args.block c.args.key was r) (removed_room tm d c.args.kind opens held s k low high c.args.block c.args.key was r)
    (removed_low tm d c.args.kind opens held s k low high c.args.block c.args.key was r c.args.top fits)

pub returns-in_err-was-clause-damaged : goal.returns-in_err-was-clause-damaged
returns-in_err-was-clause-damaged g t c e honest opens held s k low high was r fits =
    let tm = c.args.tm.now in
    let here = (goal.at.returns-in_err-was-clause-damaged g t c).In_ok-node in
    leaf_lacks tm.geometry.metadata_blocks tm c.open.new.tm (g.D.Disk.state c.args.disk.now) (g.D.Disk.state c.open.new.disk) c.args.kind opens held s k low high c.args.block c.args.key was r (node_value c.in_ok-node.node)
    (was_opened g t here honest opens held s k low high was r) c.in_ok-node.ensures.kind c.if-node-eq0.true c.in_err-was.ensures.err.1

pub returns-then-node-eq0-clause-taken : goal.returns-then-node-eq0-clause-taken
returns-then-node-eq0-clause-taken g t c honest opens held s k low high was r fits =
    let tm = c.args.tm.now in
    let here = (goal.at.returns-then-node-eq0-clause-taken g t c).In_ok-node in
    leaf_cut tm.geometry.metadata_blocks tm c.open.new.tm (g.D.Disk.state c.args.disk.now) (g.D.Disk.state c.open.new.disk) c.args.kind opens held s k low high c.args.block c.args.key was r (node_value c.in_ok-node.node)
    (was_opened g t here honest opens held s k low high was r) c.in_ok-node.ensures.kind c.if-node-eq0.true c.in_ok-was.was' (node_value c.take_out.new.leaf) c.in_ok-was.ensures.taken c.in_ok-was.ensures.value

pub returns-in_err-way-clause-damaged : goal.returns-in_err-way-clause-damaged
returns-in_err-way-clause-damaged g t c e honest opens held s k low high was r fits =
    let tm = c.args.tm.now in
    let m = tm.geometry.metadata_blocks in
    let u = c.open.new.tm in
    let d0 = g.D.Disk.state c.args.disk.now in
    let d1 = g.D.Disk.state c.open.new.disk in
    let here = (goal.at.returns-in_err-way-clause-damaged g t c).In_ok-node in
    let n = node_value c.in_ok-node.node in
    let op = was_opened g t here honest opens held s k low high was r in
    let up : 0 < c.in_ok-node.node.level = omega (arith, c.if-node-eq0.false) in
    let place = way_place m tm u d0 d1 c.args.kind opens held s k low high c.args.block c.args.key was r n op c.in_ok-node.ensures.kind up in
    let inside = child_stands_inside m tm u d0 d1 c.args.kind opens held s k low high c.args.block c.args.key was r n op c.in_ok-node.ensures.kind up place.0 place.1 (get_or n.entries place.0 blank).value refl (size_is g t here) in
    omega (arith, inside, size_is g t here, c.in_err-way.ensures.err.1 place.0 place.1)

pub returns-in_err-part-clause-damaged : goal.returns-in_err-part-clause-damaged
returns-in_err-part-clause-damaged g t c e honest opens held s k low high was r fits =
    let tm = c.args.tm.now in
    let m = tm.geometry.metadata_blocks in
    let u = c.open.new.tm in
    let d0 = g.D.Disk.state c.args.disk.now in
    let d1 = g.D.Disk.state c.open.new.disk in
    let kind = c.args.kind in
    let key = c.args.key in
    let here = (goal.at.returns-in_err-part-clause-damaged g t c).In_ok-node in
    let n = node_value c.in_ok-node.node in
    let op = was_opened g t here honest opens held s k low high was r in
    let kinds = c.in_ok-node.ensures.kind in
    let up : 0 < c.in_ok-node.node.level = omega (arith, c.if-node-eq0.false) in
    let led = leads_on m tm u d0 d1 kind opens held s k low high c.args.block key was r n op kinds up in
    let way = c.in_ok-way.ensures.way in
    let i = c.in_ok-way.way.index in
    let child = c.in_ok-way.way.child in
    let es = (node_at s c.args.block).entries in
    let from = (get_or es i blank).key in
    let to = first_key (drop (suc i) es) high in
    let size = size_is g t here in
    let below = child_removes m tm u d0 d1 kind opens held s k low high c.args.block key was r n op kinds up i way.rank child way.child led.0 led.1 in
    let calm = subst (λ b. IsTrue b) (sym c.in_ok-node.ensures.ran.same_disk.is_honest) honest in
    let low_enough : led.0 ≤ c.in_ok-node.node.level - 1 = omega (arith, led.1, removed_level m tm u d0 d1 kind opens held s k low high c.args.block key was r n op kinds) in
    let p = err_from_is_err_and c.from_residual-in_err-part.result c.from_residual-in_err-part.ensures.1 in
    c.in_err-part.ensures.damaged (ap (λ (z : StoreError). Err z) (refusal_is c.from_residual-in_err-part.result p.0 c.in_err-part.field-0.0 Damaged p.1 p.2 e)) calm (n.own ∷ opens) (others es i ++ held) op.after led.0 from to was below low_enough

pub returns-in_err-part-clause-ran : goal.returns-in_err-part-clause-ran
returns-in_err-part-clause-ran g t c =
    let p = err_from_is_err_and c.from_residual-in_err-part.result c.from_residual-in_err-part.ensures.1 in
    let d0 = g.D.Disk.state c.args.disk.now in
    let d1 = g.D.Disk.state c.open.new.disk in
    let d2 = g.D.Disk.state c.take_below.new.disk in
    subst (λ b. Ran (2 * c.args.top + 1) b c.args.tm.now c.take_below.new.tm d0 d2) (sym (fault_is c.from_residual-in_err-part.result p.0 c.in_err-part.field-0.0 p.1 p.2))
    (ran_then 1 (2 * (c.in_ok-node.node.level - 1) + 1) (2 * c.args.top + 1) _ c.args.tm.now c.open.new.tm c.take_below.new.tm d0 d1 d2 (omega (arith, c.in_ok-node.ensures.top, c.if-node-eq0.false)) c.in_ok-node.ensures.ran c.in_err-part.ensures.ran)

pub returns-in_err-refit-clause-damaged : goal.returns-in_err-refit-clause-damaged
returns-in_err-refit-clause-damaged g t c e honest opens held s k low high was r fits =
    let tm = c.args.tm.now in
    let m = tm.geometry.metadata_blocks in
    let u = c.open.new.tm in
    let d0 = g.D.Disk.state c.args.disk.now in
    let d1 = g.D.Disk.state c.open.new.disk in
    let kind = c.args.kind in
    let key = c.args.key in
    let here = (goal.at.returns-in_err-refit-clause-damaged g t c).In_ok-node in
    let n = node_value c.in_ok-node.node in
    let op = was_opened g t here honest opens held s k low high was r in
    let kinds = c.in_ok-node.ensures.kind in
    let up : 0 < c.in_ok-node.node.level = omega (arith, c.if-node-eq0.false) in
    let led = leads_on m tm u d0 d1 kind opens held s k low high c.args.block key was r n op kinds up in
    let way = c.in_ok-way.ensures.way in
    let i = c.in_ok-way.way.index in
    let child = c.in_ok-way.way.child in
    let es = (node_at s c.args.block).entries in
    let from = (get_or es i blank).key in
    let to = first_key (drop (suc i) es) high in
    let size = size_is g t here in
    let below = child_removes m tm u d0 d1 kind opens held s k low high c.args.block key was r n op kinds up i way.rank child way.child led.0 led.1 in
    let calm = subst (λ b. IsTrue b) (sym c.in_ok-node.ensures.ran.same_disk.is_honest) honest in
    let low_enough : led.0 ≤ c.in_ok-node.node.level - 1 = omega (arith, led.1, removed_level m tm u d0 d1 kind opens held s k low high c.args.block key was r n op kinds) in
    let cut = subst (λ z. Cutout z op.after c.take_below.new.tm (g.D.Disk.state c.take_below.new.disk) kind (n.own ∷ opens) (others es i ++ held) led.0 from to child key was (node_value c.in_ok-part.field-0.node) c.in_ok-part.field-0.was) size
    (c.in_ok-part.ensures.taken calm (n.own ∷ opens) (others es i ++ held) op.after led.0 from to was below low_enough) in
    let u1 = c.take_below.new.tm in
    let d2 = g.D.Disk.state c.take_below.new.disk in
    let later : u1.geometry.metadata_blocks ≡ m = ap (λ z. z.metadata_blocks) c.in_ok-part.ensures.ran.geometry ∙ size in
    let part = node_value c.in_ok-part.field-0.node in
    let fits2 =
    (part_refits m tm u d0 d1 kind opens held s k low high c.args.block key was r n op kinds up i way.rank child way.child led.0 led.1 u1 d2 part c.in_ok-part.field-0.was cut) in
    let calm2 = subst (λ b. IsTrue b) (sym c.in_ok-part.ensures.ran.same_disk.is_honest) calm in
    let ready = subst (λ j. CanRefit u1.geometry.metadata_blocks u1 d2 j n.entries i (node_value c.in_ok-part.field-0.node) (n.own ∷ opens) (was.value ∷ held) cut.after led.0 low high) (sym kinds)
    (subst (λ z. CanRefit z u1 d2 kind n.entries i (node_value c.in_ok-part.field-0.node) (n.own ∷ opens) (was.value ∷ held) cut.after led.0 low high) (sym later) fits2) in
    let p = err_from_is_err_and c.from_residual-in_err-refit.result c.from_residual-in_err-refit.ensures.1 in
    c.in_err-refit.ensures.damaged (ap (λ (z : StoreError). Err z) (refusal_is c.from_residual-in_err-refit.result p.0 c.in_err-refit.field-0.0 Damaged p.1 p.2 e)) calm2 (n.own ∷ opens) (was.value ∷ held) cut.after led.0 low high ready

pub returns-in_err-refit-clause-ran : goal.returns-in_err-refit-clause-ran
returns-in_err-refit-clause-ran g t c =
    let p = err_from_is_err_and c.from_residual-in_err-refit.result c.from_residual-in_err-refit.ensures.1 in
    let d0 = g.D.Disk.state c.args.disk.now in
    let d1 = g.D.Disk.state c.open.new.disk in
    let d2 = g.D.Disk.state c.take_below.new.disk in
    let d3 = g.D.Disk.state c.refit.new.disk in
    subst (λ b. Ran (2 * c.args.top + 1) b c.args.tm.now c.refit.new.tm d0 d3) (sym (fault_is c.from_residual-in_err-refit.result p.0 c.in_err-refit.field-0.0 p.1 p.2))
    (ran_then 1 ((2 * (c.in_ok-node.node.level - 1) + 1) + 1) (2 * c.args.top + 1) _ c.args.tm.now c.open.new.tm c.refit.new.tm d0 d1 d3 (omega (arith, c.in_ok-node.ensures.top, c.if-node-eq0.false)) c.in_ok-node.ensures.ran
    (ran_then (2 * (c.in_ok-node.node.level - 1) + 1) 1 ((2 * (c.in_ok-node.node.level - 1) + 1) + 1) _ c.open.new.tm c.take_below.new.tm c.refit.new.tm d1 d2 d3 (omega arith) c.in_ok-part.ensures.ran c.in_err-refit.ensures.ran))

pub returns-clause-taken : goal.returns-clause-taken
returns-clause-taken g t c honest opens held s k low high was r fits =
    let tm = c.args.tm.now in
    let m = tm.geometry.metadata_blocks in
    let u = c.open.new.tm in
    let d0 = g.D.Disk.state c.args.disk.now in
    let d1 = g.D.Disk.state c.open.new.disk in
    let kind = c.args.kind in
    let key = c.args.key in
    let here = (goal.at.returns-clause-taken g t c).In_ok-node in
    let n = node_value c.in_ok-node.node in
    let op = was_opened g t here honest opens held s k low high was r in
    let kinds = c.in_ok-node.ensures.kind in
    let up : 0 < c.in_ok-node.node.level = omega (arith, c.if-node-eq0.false) in
    let led = leads_on m tm u d0 d1 kind opens held s k low high c.args.block key was r n op kinds up in
    let way = c.in_ok-way.ensures.way in
    let i = c.in_ok-way.way.index in
    let child = c.in_ok-way.way.child in
    let es = (node_at s c.args.block).entries in
    let from = (get_or es i blank).key in
    let to = first_key (drop (suc i) es) high in
    let size = size_is g t here in
    let below = child_removes m tm u d0 d1 kind opens held s k low high c.args.block key was r n op kinds up i way.rank child way.child led.0 led.1 in
    let calm = subst (λ b. IsTrue b) (sym c.in_ok-node.ensures.ran.same_disk.is_honest) honest in
    let low_enough : led.0 ≤ c.in_ok-node.node.level - 1 = omega (arith, led.1, removed_level m tm u d0 d1 kind opens held s k low high c.args.block key was r n op kinds) in
    let cut = subst (λ z. Cutout z op.after c.take_below.new.tm (g.D.Disk.state c.take_below.new.disk) kind (n.own ∷ opens) (others es i ++ held) led.0 from to child key was (node_value c.in_ok-part.field-0.node) c.in_ok-part.field-0.was) size
    (c.in_ok-part.ensures.taken calm (n.own ∷ opens) (others es i ++ held) op.after led.0 from to was below low_enough) in
    let u1 = c.take_below.new.tm in
    let d2 = g.D.Disk.state c.take_below.new.disk in
    let later : u1.geometry.metadata_blocks ≡ m = ap (λ z. z.metadata_blocks) c.in_ok-part.ensures.ran.geometry ∙ size in
    let part = node_value c.in_ok-part.field-0.node in
    let fits2 =
    (part_refits m tm u d0 d1 kind opens held s k low high c.args.block key was r n op kinds up i way.rank child way.child led.0 led.1 u1 d2 part c.in_ok-part.field-0.was cut) in
    let calm2 = subst (λ b. IsTrue b) (sym c.in_ok-part.ensures.ran.same_disk.is_honest) calm in
    let ready = subst (λ j. CanRefit u1.geometry.metadata_blocks u1 d2 j n.entries i (node_value c.in_ok-part.field-0.node) (n.own ∷ opens) (was.value ∷ held) cut.after led.0 low high) (sym kinds)
    (subst (λ z. CanRefit z u1 d2 kind n.entries i (node_value c.in_ok-part.field-0.node) (n.own ∷ opens) (was.value ∷ held) cut.after led.0 low high) (sym later) fits2) in
    let v = node_value c.refit.new.node in
    let u2 = c.refit.new.tm in
    let d3 = g.D.Disk.state c.refit.new.disk in
    let form = c.in_ok-refit.ensures.form in
    let made = subst (λ z. Refit z cut.after u2 d3 n.kind n.entries i (node_value c.in_ok-part.field-0.node) (n.own ∷ opens) (was.value ∷ held) led.0 low high v.entries) later
    (c.in_ok-refit.ensures.refitted calm2 (n.own ∷ opens) (was.value ∷ held) cut.after led.0 low high ready) in
    let made2 = subst (λ j. Refit m cut.after u2 d3 j n.entries i (node_value c.in_ok-part.field-0.node) (n.own ∷ opens) (was.value ∷ held) led.0 low high v.entries) kinds made in
    inner_cut m tm u d0 d1 kind opens held s k low high c.args.block key was r n op kinds up i way.rank child way.child led.0 led.1 u1 d2 part c.in_ok-part.field-0.was cut u2 d3 v made2 form.0 form.1 form.2

pub returns-clause-ran : goal.returns-clause-ran
returns-clause-ran g t c =
    let d0 = g.D.Disk.state c.args.disk.now in
    let d1 = g.D.Disk.state c.open.new.disk in
    let d2 = g.D.Disk.state c.take_below.new.disk in
    let d3 = g.D.Disk.state c.refit.new.disk in
    ran_then 1 ((2 * (c.in_ok-node.node.level - 1) + 1) + 1) (2 * c.args.top + 1) false c.args.tm.now c.open.new.tm c.refit.new.tm d0 d1 d3 (omega (arith, c.in_ok-node.ensures.top, c.if-node-eq0.false)) c.in_ok-node.ensures.ran
    (ran_then (2 * (c.in_ok-node.node.level - 1) + 1) 1 ((2 * (c.in_ok-node.node.level - 1) + 1) + 1) false c.open.new.tm c.take_below.new.tm c.refit.new.tm d1 d2 d3 (omega arith) c.in_ok-part.ensures.ran c.in_ok-refit.ensures.ran)
