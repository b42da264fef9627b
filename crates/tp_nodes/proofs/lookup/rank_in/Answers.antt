use Rattle.std.proofs.Common.{◌≡◌, ◌+◌, ◌-◌, ◌/◌, ℕ, get_or, sym, arith}
use Rattle.tp_layout.specs.declared.entry.Entry.{Entry}
use Rattle.tp_layout.specs.Node.{keys}
use Rattle.tp_layout.proofs.Ordered.{get_or-keys, keys_in_order, rank_of_from_bounds}
use Rattle.tp_nodes.proofs.lookup.rank_in.Goals as goal

pub loop-low-preserved-then-entries-middle : goal.loop-low-preserved-then-entries-middle
loop-low-preserved-then-entries-middle c =
    let es = c.args.entries.now in
    let middle : ℕ = c.loop-low.low + (c.loop-low.high - c.loop-low.low) / 2 in
    let nothing : Entry = record { key = 0; value = 0; mapped = 0; size = 0 } in
    let here : get_or (keys es) middle 0 ≡ (get_or es middle nothing).key = get_or-keys es middle nothing (omega arith) in
    record {
      ordered = omega arith;
      within = c.loop-low.invariant.within;
      below = λ k lt. omega (arith, here, c.if-entries-middle.true, keys_in_order es k middle c.requires (omega arith) (omega arith));
      above = c.loop-low.invariant.above;
    }

pub loop-low-preserved : goal.loop-low-preserved
loop-low-preserved c =
    let es = c.args.entries.now in
    let middle : ℕ = c.loop-low.low + (c.loop-low.high - c.loop-low.low) / 2 in
    let nothing : Entry = record { key = 0; value = 0; mapped = 0; size = 0 } in
    let here : get_or (keys es) middle 0 ≡ (get_or es middle nothing).key = get_or-keys es middle nothing (omega arith) in
    record {
      ordered = omega arith;
      within = omega arith;
      below = c.loop-low.invariant.below;
      above = λ k le lt. omega (arith, here, c.if-entries-middle.false, keys_in_order es middle k c.requires le lt);
    }

pub returns-clause-value : goal.returns-clause-value
returns-clause-value c =
    sym (rank_of_from_bounds c.args.key c.loop-low.low c.args.entries.now (omega arith) c.loop-low.invariant.below (λ i le lt. c.loop-low.invariant.above i (omega arith) lt))
