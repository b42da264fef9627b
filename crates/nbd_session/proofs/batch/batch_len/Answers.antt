use Rattle.std.proofs.Common.{◌≡◌, ◌+◌, length, length-drop, ap, ◌∙◌, arith}
use Rattle.std.proofs.lemmas.List.{take_rest}
use Rattle.nbd_session.proofs.Batching.{end_next, end_none, joined_batch, lone_batch, none_joined, one_joins, some_on}
use Rattle.nbd_session.proofs.batch.batch_len.Goals as goal

pub loop-count-init : goal.loop-count-init
loop-count-init c = (end_none c.args.kind c.args.piece.now, omega arith, λ some. absurd (omega (arith, some)), none_joined c.args.kind c.args.piece.now)

pub returns-then-at-eq0-clause-few : goal.returns-then-at-eq0-clause-few
returns-then-at-eq0-clause-few c = lone_batch c.args.kind c.args.piece.now _ c.loop-count.at c.front_of-front.result.len c.if-at-eq0.true (take_rest c.args.piece.now c.loop-count.at) c.front_of-front.ensures.len

pub returns-else-at-eq0-clause-few : goal.returns-else-at-eq0-clause-few
returns-else-at-eq0-clause-few c =
    joined_batch c.args.kind c.args.piece.now c.loop-count.count c.loop-count.at (omega (arith, c.loop-count-test.true)) c.loop-count.invariant.0 c.loop-count.invariant.3

pub returns-clause-few : goal.returns-clause-few
returns-clause-few c =
    joined_batch c.args.kind c.args.piece.now c.loop-count.count c.loop-count.at (omega (arith, c.loop-count.far-count)) c.loop-count.invariant.0 c.loop-count.invariant.3

pub loop-count-preserved : goal.loop-count-preserved
loop-count-preserved c = (
  end_next c.args.kind c.args.piece.now _ c.loop-count.count c.loop-count.at c.front_of-front.result.len c.loop-count.invariant.0 (take_rest c.args.piece.now c.loop-count.at) c.front_of-front.ensures.len,
  omega (arith, c.front_of-front.ensures.most, length-drop c.loop-count.at c.args.piece.now, c.loop-count.invariant.1),
  λ some any. some_on c.loop-count.at _ (length c.args.piece.now) c.front_of-front.result.len c.front_of-front.ensures.some (ap length (take_rest c.args.piece.now c.loop-count.at) ∙ length-drop c.loop-count.at c.args.piece.now) c.loop-count.invariant.1 any,
  one_joins c.args.kind c.args.piece.now _ c.loop-count.count c.loop-count.at c.loop-count.invariant.0 (take_rest c.args.piece.now c.loop-count.at) (c.front_of-front.ensures.joined c.if-front.false) c.loop-count.invariant.3,
)
