use Rattle.std.proofs.Common.{◌≡◌, ◌+◌, cond, ap, sym, ◌∙◌, arith}
use Rattle.tp_plain.proofs.NewBlocks.{one_block_more}
use Rattle.tp_plain.proofs.room.count_new.Goals as goal
use Rattle.tp_plain.proofs.room.count_new.Goals.{then-takes_new_block, else-takes_new_block}

pub loop-block-preserved : goal.loop-block-preserved
loop-block-preserved c =
    let n = c.loop-block.count in
    elim c.if-takes_new_block.branch [
      | then-takes_new_block w ↦
          let more : c.if-takes_new_block.count ≡ n + cond c.takes_new_block.result 1 0 = w.count-is ∙ ap (λ b. n + cond b 1 0) (sym w.if-takes_new_block.true) in
          record { bound = omega arith; total = one_block_more _ c.loop-block.block n c.if-takes_new_block.count c.takes_new_block.result c.loop-block.invariant.total c.takes_new_block.ensures more }
      | else-takes_new_block w ↦
          let same : n ≡ n + 0 = omega arith in
          let more : c.if-takes_new_block.count ≡ n + cond c.takes_new_block.result 1 0 = w.count-is ∙ same ∙ ap (λ b. n + cond b 1 0) (sym w.if-takes_new_block.false) in
          record { bound = omega arith; total = one_block_more _ c.loop-block.block n c.if-takes_new_block.count c.takes_new_block.result c.loop-block.invariant.total c.takes_new_block.ensures more }
    ]
