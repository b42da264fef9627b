use Rattle.std.proofs.Common.{◌≡◌, ◌∙◌, ◌-◌, length, get_or, ap, arith}
use Rattle.tp_layout.specs.Node.{is_long}
use Rattle.tp_layout.specs.Value.{node_value}
use Rattle.tp_trees.specs.Tree.{blank}
use Rattle.tp_nodes.proofs.GoodNodes.{increasing_across}
use Rattle.tp_btree.proofs.Joining.{is_across}
use Rattle.tp_btree.proofs.refit.is_below.Goals as goal
use Rattle.tp_btree.proofs.refit.is_below.Goals.{After-deref-2}

-- the keys that were read
last_key : (c : After-deref-2) → (get_or c.deref.result.now (c.len-count.result - 1) blank).key ≡ (get_or c.args.left.now.entries.items (length c.args.left.now.entries.items - 1) blank).key
last_key c = ap (λ xs. (get_or xs (c.len-count.result - 1) blank).key) c.deref.ensures.0 ∙ ap (λ n. (get_or c.args.left.now.entries.items (n - 1) blank).key) c.len-count.ensures.value

first_key : (c : After-deref-2) → (get_or c.deref-2.result.now 0 blank).key ≡ (get_or c.args.right.now.entries.items 0 blank).key
first_key c = ap (λ xs. (get_or xs 0 blank).key) c.deref-2.ensures.0

pub returns-then-deref-count-clause-no : goal.returns-then-deref-count-clause-no
returns-then-deref-count-clause-no c e up =
    let here = (goal.at.returns-then-deref-count-clause-no c).After-deref-2 in
    let l = node_value c.args.left.now in
    let r = node_value c.args.right.now in
    let across = is_across l r blank (length l.entries - 1) c.requires.left c.requires.right (ap (λ k. is_long k r.level) c.requires.kind ∙ ap (is_long l.kind) c.requires.level) up
    (omega (arith, c.len-count.ensures.value, c.if-count-eq0.false)) (omega (arith, c.len.ensures.value, c.if-len-eq0.false)) in
    omega (arith, across, last_key here, first_key here, c.if-deref-count.true)

pub returns-clause-yes : goal.returns-clause-yes
returns-clause-yes c e =
    let here = (goal.at.returns-clause-yes c).After-deref-2 in
    let l = node_value c.args.left.now in
    let r = node_value c.args.right.now in
    increasing_across (is_long r.kind r.level) blank l.entries r.entries c.requires.right.form.entries c.requires.left.ascending c.requires.right.ascending
    (λ some some_too. omega (arith, last_key here, first_key here, c.if-deref-count.false))
