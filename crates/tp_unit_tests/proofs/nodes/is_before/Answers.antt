use Rattle.std.proofs.Common.{◌≡◌, ◌-◌, ℕ, length, arith}
use Rattle.tp_layout.specs.declared.entry.Entry.{Entry}
use Rattle.tp_layout.specs.Node.{is_long}
use Rattle.tp_layout.specs.Value.{node_value}
use Rattle.tp_nodes.proofs.GoodNodes.{increasing_across}
use Rattle.tp_unit_tests.proofs.nodes.is_before.Goals as goal

pub returns : goal.returns
returns c h =
    let l = node_value c.args.left.now in
    let r = node_value c.args.right.now in
    let nothing : Entry = record { key = 0; value = 0; mapped = 0; size = 0 } in
    let i : ℕ = length l.entries - 1 in
    increasing_across (is_long r.kind r.level) nothing l.entries r.entries c.requires.right.form.entries c.requires.left.ascending c.requires.right.ascending
    (λ a b.
    let at_last : c.len-count.result - 1 ≡ i = omega (arith, c.len-count.ensures.value) in
    rw (c.deref.ensures.0, c.deref-2.ensures.0, at_last) at c.if-last-first.false)
