use Rattle.std.proofs.Common.{◌≡◌, ◌<◌, ◌⊎◌, ◌+◌, ◌∙◌, true, arith, ap, inl, inr, length, sym}
use Rattle.std.proofs.lemmas.Result.{err_from_is_err_and}
use Rattle.std.proofs.lemmas.List.{take_rest, length-drop}
use Rattle.nbd_session.specs.Session.{is_at_work}
use Rattle.nbd_session.proofs.Pieces.{falls, feeds_none, feeds_more}
use Rattle.nbd_session.proofs.feeding.feed.Goals.{then-at-piece, else-at-piece+then-is_at_work}
use Rattle.nbd_session.proofs.feeding.feed.Goals as goal

pub loop-at-init : goal.loop-at-init
loop-at-init g c =
    let p = g.V.Volumes in
    record {
      in_range = omega arith;
      few = c.phase.ensures.few;
      feeds = feeds_none p.view g.met.V.Volumes.laws c.args.session.now c.args.pool.now c.args.piece.now c.args.out.now.items c.phase.ensures.calm c.requires;
    }

pub loop-at-preserved : goal.loop-at-preserved
loop-at-preserved g c =
    let p = g.V.Volumes in
    let piece = c.args.piece.now in
    let at = c.loop-at.at in
    let new = c.step-step.follows.lender-at-none in
    let rest_is = take_rest piece at in
    let a = c.step-step.follows.holds-at-none in
    record {
      in_range = let l = length-drop at piece in let m = rw rest_is at a.inside in omega arith;
      few = a.few;
      feeds = rw c.in_ok-extend_from_slice.ensures.items
          (feeds_more p.view g.met.V.Volumes.laws c.args.session.now c.loop-at.session new c.args.pool.now c.loop-at.pool c.step-step.new.pool piece _ c.args.out.now.items c.loop-at.out.items _ at c.step-step.result.taken c.step-step.result.ended
          c.loop-at.invariant.in_range rest_is c.loop-at.invariant.feeds a);
    }

pub returns-in_err-extend_from_slice-clause-lost : goal.returns-in_err-extend_from_slice-clause-lost
returns-in_err-extend_from_slice-clause-lost g c =
    let p = g.V.Volumes in
    let piece = c.args.piece.now in
    let at = c.loop-at.at in
    let new = c.step-step.follows.lender-at-none in
    let e = err_from_is_err_and c.from_residual.result c.from_residual.ensures.1 in
    rw (e.1, c.in_err-extend_from_slice.ensures.items) (
      at + c.step-step.result.taken,
      c.step-step.result.sent.now,
      feeds_more p.view g.met.V.Volumes.laws c.args.session.now c.loop-at.session new c.args.pool.now c.loop-at.pool c.step-step.new.pool piece _ c.args.out.now.items c.loop-at.out.items _ at c.step-step.result.taken c.step-step.result.ended
          c.loop-at.invariant.in_range (take_rest piece at) c.loop-at.invariant.feeds c.step-step.follows.holds-at-none,
    )

pub loop-at-smaller : goal.loop-at-smaller
loop-at-smaller g c =
    let piece = c.args.piece.now in
    let a = c.step-step.follows.holds-at-none in
    let rest_is = take_rest piece c.loop-at.at in
    let inside = rw rest_is at a.inside in
    let len = length-drop c.loop-at.at piece in
    let test : (c.loop-at.at < length piece) ⊎ (is_at_work c.loop-at.session.phase ≡ true) =
    elim c.if-at-piece.branch [ then-at-piece w ↦ inl w.if-at-piece.true | else-at-piece+then-is_at_work w ↦ inr (sym w.is_at_work.ensures ∙ w.if-is_at_work.true) ] in
    falls (length piece) c.loop-at.at c.step-step.result.taken c.loop-at.session.phase c.step-step.follows.lender-at-none.phase (omega (arith, c.loop-at.invariant.in_range, len, inside)) a.few a.works (λ idle some. a.moves (omega (arith, ap length rest_is, len, some)) idle) test
