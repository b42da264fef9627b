use Rattle.std.proofs.Common.{◌∙◌, ◌<◌, ◌≤◌, ◌++◌, length, get_or, subst, ap, arith}
use Rattle.tp_layout.specs.Node.{NodeValue, is_long}
use Rattle.tp_layout.specs.Entries.{found}
use Rattle.tp_trees.specs.Tree.{blank}
use Rattle.tp_layout.specs.Value.{node_value}
use Rattle.tp_btree.proofs.Splitting.{halves_left, halves_right, least_some, none_left, none_right}
use Rattle.tp_btree.proofs.split.split_put.Goals as goal
use Rattle.tp_btree.proofs.split.split_put.Goals.{After-split-upper}

pub put-requires-clause-new_key : goal.put-requires-clause-new_key
put-requires-clause-new_key c = none_left c.args.entry.key c.split-upper.new.node.entries.items c.split-upper.result.entries.items (ap (found c.args.entry.key) c.split-upper.ensures.whole ∙ c.requires.new_key)

pub put-requires-else-entry-deref-clause-new_key : goal.put-requires-else-entry-deref-clause-new_key
put-requires-else-entry-deref-clause-new_key c =
    none_right c.args.entry.key c.split-upper.new.node.entries.items c.split-upper.result.entries.items (ap (found c.args.entry.key) c.split-upper.ensures.whole ∙ c.requires.new_key)

-- the upper half has entries
some_upper : (c : After-split-upper) → 0 < length c.split-upper.result.entries.items
some_upper c = omega (arith, c.split-upper.ensures.right_len, least_some (is_long c.args.node.now.kind c.args.node.now.level))

pub returns-then-entry-deref-clause-whole : goal.returns-then-entry-deref-clause-whole
returns-then-entry-deref-clause-whole c =
    ap (λ (n : NodeValue). n.entries ++ c.split-upper.result.entries.items) c.put.ensures.value
    ∙ halves_left (node_value c.args.node.now) c.requires.good c.args.entry blank c.split-upper.new.node.entries.items c.split-upper.result.entries.items c.split-upper.ensures.whole
    (some_upper (goal.at.returns-then-entry-deref-clause-whole c).After-split-upper)
    (subst (λ xs. c.args.entry.key < (get_or xs 0 blank).key) c.deref.ensures.0 c.if-entry-deref.true)

pub returns-else-entry-deref-clause-whole : goal.returns-else-entry-deref-clause-whole
returns-else-entry-deref-clause-whole c =
    ap (λ (n : NodeValue). c.split-upper.new.node.entries.items ++ n.entries) c.put-else-entry-deref.ensures.value
    ∙ halves_right (node_value c.args.node.now) c.requires.good c.args.entry blank c.split-upper.new.node.entries.items c.split-upper.result.entries.items c.split-upper.ensures.whole
    (some_upper (goal.at.returns-else-entry-deref-clause-whole c).After-split-upper)
    (subst (λ xs. (get_or xs 0 blank).key ≤ c.args.entry.key) c.deref.ensures.0 c.if-entry-deref.false)
