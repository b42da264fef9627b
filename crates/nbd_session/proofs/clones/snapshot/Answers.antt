use Rattle.std.proofs.Common.{◌∙◌, sym, refl, arith}
use Rattle.tp_model.specs.Calls.{Refused}
use Rattle.tp_model.specs.Clauses.{PoolCall}
use Rattle.nbd_session.proofs.Cloning.{passes_more, snap_last, snap_made, snap_refused}
use Rattle.nbd_session.proofs.clones.snapshot.Goals as goal

pub loop-passed-init : goal.loop-passed-init
loop-passed-init g c = record { most = omega arith; passes = refl; holds = refl }

-- one id more is that of a volume
pub loop-passed-preserved : goal.loop-passed-preserved
loop-passed-preserved g c =
    let p = g.V.Volumes in
    let l = c.loop-passed in
    record {
      most = omega (arith, c.loop-passed-test.true);
      passes =
          passes_more p.view.outline (PoolCall p.view) c.args.origin l.passed c.args.pool.now l.pool c.try_snapshot.new.pool (Refused c.in-Err.refusal) l.invariant.passes
          (sym c.is_taken.ensures ∙ c.if-not-is_taken.false) c.in-Err.ensures.tries;
      holds = c.try_snapshot.ensures.holds ∙ l.invariant.holds;
    }

-- a snapshot was made, or refused for another reason
pub returns-in-Ok-clause-snaps : goal.returns-in-Ok-clause-snaps
returns-in-Ok-clause-snaps g c =
    let p = g.V.Volumes in
    let l = c.loop-passed in
    snap_made p.view.outline (PoolCall p.view) c.args.origin l.passed c.in-Ok.id c.args.pool.now l.pool c.try_snapshot.new.pool (omega (arith, c.loop-passed-test.true)) l.invariant.passes c.in-Ok.ensures.tries

pub returns-in-Ok-clause-holds : goal.returns-in-Ok-clause-holds
returns-in-Ok-clause-holds g c = c.try_snapshot.ensures.holds ∙ c.loop-passed.invariant.holds

pub returns-then-not-is_taken-clause-snaps : goal.returns-then-not-is_taken-clause-snaps
returns-then-not-is_taken-clause-snaps g c =
    let p = g.V.Volumes in
    let l = c.loop-passed in
    snap_refused p.view.outline (PoolCall p.view) c.args.origin l.passed c.args.pool.now l.pool c.try_snapshot.new.pool c.in-Err.refusal (omega (arith, c.loop-passed-test.true)) l.invariant.passes
    (sym c.is_taken.ensures ∙ c.if-not-is_taken.true) c.in-Err.ensures.tries

pub returns-then-not-is_taken-clause-holds : goal.returns-then-not-is_taken-clause-holds
returns-then-not-is_taken-clause-holds g c = c.try_snapshot.ensures.holds ∙ c.loop-passed.invariant.holds

-- or it is the last one that is tried
pub returns-clause-snaps : goal.returns-clause-snaps
returns-clause-snaps g c =
    let p = g.V.Volumes in
    let l = c.loop-passed in
    let most = l.invariant.most in
    snap_last p.view.outline (PoolCall p.view) c.args.origin l.passed c.try_snapshot-2.result c.args.pool.now l.pool c.try_snapshot-2.new.pool (omega (arith, most, c.loop-passed-test.false)) l.invariant.passes
    c.try_snapshot-2.ensures.tries

pub returns-clause-holds : goal.returns-clause-holds
returns-clause-holds g c = c.try_snapshot-2.ensures.holds ∙ c.loop-passed.invariant.holds
