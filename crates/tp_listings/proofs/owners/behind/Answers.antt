use Rattle.std.proofs.Common.{◌+◌, ap, arith, subst, sym, ◌∙◌, ◌≤◌, ℕ}
use Rattle.tp_listings.proofs.Marking.{rest_full, rest_short}
use Rattle.tp_listings.proofs.owners.behind.Goals as goal

pub returns-then-slots-lt-MOST_SLOTS-clause-rest : goal.returns-then-slots-lt-MOST_SLOTS-clause-rest
returns-then-slots-lt-MOST_SLOTS-clause-rest c s id beyond is = rest_short s id c.args.from c.args.slots.now (omega (arith, c.if-slots-lt-MOST_SLOTS.true)) beyond is

pub returns-clause-rest : goal.returns-clause-rest
returns-clause-rest c s id beyond is =
    let same = c.number-last.ensures.value ∙ c.block.ensures.value in
    rest_full s id c.args.from c.next_of.result c.args.slots.now c.index-slots.result (omega (arith, c.if-slots-lt-MOST_SLOTS.false)) c.index-slots.is
    (λ low. c.next_of.ensures.next (subst (λ (n : ℕ). c.args.from ≤ n) (sym same) low) ∙ ap (λ n. n + 1) same) is
