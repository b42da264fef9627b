use Rattle.std.proofs.Common.{◌≡◌, ◌∙◌, ℕ, ◌+◌, ◌-◌, List, false, ap₂, sym, arith, refl}
use Rattle.nbd_wire.specs.Reading.{told_by}
use Rattle.nbd_wire.proofs.Queries.{told_more}
use Rattle.nbd_wire.proofs.contexts.told_by.Goals as goal

pub loop-init : goal.loop-init
loop-init c =
    let whole : c.args.count ≡ c.args.count - 0 = omega arith in
    ap₂ (λ (n : ℕ) (since : List ℕ). told_by n c.args.text.now false false since) whole (sym c.none_of-since.ensures)

pub loop-preserved : goal.loop-preserved
loop-preserved c =
    let l = c.loop in
    let more = told_more (c.args.count - l.counter) (c.args.count - (l.counter + 1)) l.rest.now l.asks l.all l.since.now (omega (arith, c.loop-test.true)) c.in_ok-query.ensures.0 in
    l.invariant ∙ more ∙ rw (sym c.in_ok-query.ensures.1, sym c.in_ok-query.ensures.2, sym c.is_allocation-asks.ensures, sym c.is_base-all.ensures, sym c.since_or-since.ensures) refl
