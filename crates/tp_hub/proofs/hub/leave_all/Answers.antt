use Rattle.std.proofs.Common.{◌≡◌, ◌∙◌, ◌<◌, ◌+◌, ℕ, None, sym, subst, arith}
use Rattle.std.specs.Prelude.{slice_set}
use Rattle.tp_hub.specs.Serving.{LeaveTo, Serves, sessions_of, slot_at}
use Rattle.tp_hub.proofs.Taking.{all_left, free_all, gone_place, keep_place, leave_place, read_slot, ready_slot}
use Rattle.tp_hub.proofs.hub.leave_all.Goals as goal

pub leave_place-requires : goal.leave_place-requires
leave_place-requires g c =
    let view = g.V.Volumes.view in
    let inv = c.loop-i.invariant in
    ready_slot view c.loop-i.sessions c.loop-i.i _ c.loop-i.pool c.loop-i-test.true inv.serves (read_slot view c.loop-i.sessions c.loop-i.i c.index-sessions-i.result c.loop-i-test.true inv.serves.count c.index-sessions-i.is ∙ c.index-sessions-i.is)

pub loop-i-preserved : goal.loop-i-preserved
loop-i-preserved g c =
    let view = g.V.Volumes.view in
    let inv = c.loop-i.invariant in
    let slots = c.loop-i.sessions in
    let i = c.loop-i.i in
    let gone = sym c.leave_place.ensures.gone in
    record {
      serves = subst (λ o. Serves (view.outline c.leave_place.new.pool) (view.more c.leave_place.new.pool) (slice_set slots i o)) gone
          (keep_place view slots c.loop-i.pool c.leave_place.new.pool i c.index-sessions-i.result c.loop-i-test.true inv.serves c.index-sessions-i.is (c.leave_place.ensures.keeps i));
      gone = subst (λ o. (n : ℕ) → n < i + 1 → slot_at (slice_set slots i o) n ≡ None) gone (gone_place view slots i c.loop-i-test.true inv.serves.count inv.gone);
      leaves = subst (λ o. LeaveTo view (sessions_of c.args.sessions) c.args.pool (sessions_of (slice_set slots i o)) c.leave_place.new.pool) gone
          (leave_place view slots c.args.pool c.loop-i.pool c.leave_place.new.pool (sessions_of c.args.sessions) i c.index-sessions-i.result c.loop-i-test.true inv.serves c.index-sessions-i.is inv.leaves (c.leave_place.ensures.leaves i));
    }

pub returns-clause-free : goal.returns-clause-free
returns-clause-free g c =
    let inv = c.loop-i.invariant in
    free_all g.V.Volumes.view c.loop-i.sessions c.loop-i.pool inv.serves (λ n lt. inv.gone n (omega (arith, lt, c.loop-i-test.false)))

pub returns-clause-leaves : goal.returns-clause-leaves
returns-clause-leaves g c =
    let inv = c.loop-i.invariant in
    all_left g.V.Volumes.view c.loop-i.sessions c.args.pool c.loop-i.pool (sessions_of c.args.sessions) inv.serves (λ n lt. inv.gone n (omega (arith, lt, c.loop-i-test.false))) inv.leaves
