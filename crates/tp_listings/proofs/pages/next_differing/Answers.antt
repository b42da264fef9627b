use Rattle.std.proofs.Common.{ap, arith}
use Rattle.std.specs.Prelude.{not}
use Rattle.tp_listings.proofs.Paging.{alike_fewer, alike_more, alike_none, alike_until}
use Rattle.tp_listings.proofs.pages.next_differing.Goals as goal

pub loop-at-init : goal.loop-at-init
loop-at-init c = record { low = omega arith; alike = λ one other. alike_none _ _ c.args.from }

pub loop-at-preserved : goal.loop-at-preserved
loop-at-preserved c =
    let was = c.loop-at.invariant in
    let onward = c.look_at-found.ensures.onward in
    record {
      low = omega (arith, was.low, onward);
      alike = λ one other.
          alike_more _ _ c.args.from c.look_at-found.result.block
          (alike_until _ _ c.args.from c.loop-at.at c.look_at-found.result.block (was.alike one other) (c.look_at-found.ensures.alike one other)) (c.look_at-found.ensures.same (ap not c.if-found.false) one other);
    }

pub returns-then-block-limit-clause-none : goal.returns-then-block-limit-clause-none
returns-then-block-limit-clause-none c is one other =
    alike_fewer _ _ c.args.from c.look_at-found.result.block c.args.limit (omega (arith, c.if-block-limit.true))
    (alike_until _ _ c.args.from c.loop-at.at c.look_at-found.result.block (c.loop-at.invariant.alike one other) (c.look_at-found.ensures.alike one other))

pub returns-then-found-clause-found : goal.returns-then-found-clause-found
returns-then-found-clause-found c =
    let low = c.loop-at.invariant.low in
    let onward = c.look_at-found.ensures.onward in
    (omega (arith, low, onward), omega (arith, c.if-block-limit.false))

pub returns-then-found-clause-first : goal.returns-then-found-clause-first
returns-then-found-clause-first c one other = (
  alike_until _ _ c.args.from c.loop-at.at c.look_at-found.result.block (c.loop-at.invariant.alike one other) (c.look_at-found.ensures.alike one other),
  c.look_at-found.ensures.differ c.if-found.true one other,
)

pub returns-clause-none : goal.returns-clause-none
returns-clause-none c is one other = alike_fewer _ _ c.args.from c.loop-at.at c.args.limit (omega (arith, c.loop-at-test.false)) (c.loop-at.invariant.alike one other)
