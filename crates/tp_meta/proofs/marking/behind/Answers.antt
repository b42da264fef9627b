use Rattle.std.proofs.Common.{◌∙◌, ◌+◌, ◌≤◌, ap, arith, get_or, refl, subst, sym}
use Rattle.tp_sharing.specs.Volumes.{BlockSlot}
use Rattle.tp_meta.specs.Marking.{AreCutAt}
use Rattle.tp_meta.proofs.Pieces.{cut_full, cut_last, last_within}
use Rattle.tp_meta.proofs.marking.behind.Goals as goal

pub returns-then-len-lt-MOST_SLOTS-clause-cut : goal.returns-then-len-lt-MOST_SLOTS-clause-cut
returns-then-len-lt-MOST_SLOTS-clause-cut c slots o is = cut_last c.args.from slots c.args.piece.now o is (omega (arith, c.if-len-lt-MOST_SLOTS.true))

pub returns-then-next-from-clause-err : goal.returns-then-next-from-clause-err
returns-then-next-from-clause-err c = (
  refl,
  λ slots o is.
      let last = c.index-piece.result in
      let number = c.number-next.ensures.value ∙ (c.block.ensures.value ∙ ap (λ (x : BlockSlot). x.block) c.index-piece.is) in
      let within : c.args.from ≤ (get_or c.args.piece.now 251 last).block =
      last_within c.args.from slots c.args.piece.now o is last (omega (arith, c.if-len-lt-MOST_SLOTS.false)) in
      omega (arith, within, number, c.if-next-from.true),
)

pub returns-clause-cut : goal.returns-clause-cut
returns-clause-cut c slots o is =
    let last = c.index-piece.result in
    let number = c.number-next.ensures.value ∙ (c.block.ensures.value ∙ ap (λ (x : BlockSlot). x.block) c.index-piece.is) in
    subst (λ n. AreCutAt c.args.from (n + 1) slots c.args.piece.now) (sym number)
    (cut_full c.args.from slots c.args.piece.now o is last (omega (arith, c.if-len-lt-MOST_SLOTS.false)))
