use Rattle.std.proofs.Common.{◌+◌, ◌∙◌, arith, None}
use Rattle.std.proofs.lemmas.List.{get_or-set_other, length-set}
use Rattle.tp_btree.specs.Runs.{LeafTells}
use Rattle.tp_btree.proofs.Leading.{told_more}
use Rattle.tp_btree.proofs.look_up_run.tell_keys.Goals as goal

pub loop-i-preserved : goal.loop-i-preserved
loop-i-preserved c = record {
  sized = length-set c.loop-i.out c.loop-i.i c.in_ok-out.field-0 ∙ c.loop-i.invariant.sized;
  from = omega (arith, c.loop-i.invariant.from);
  told = told_more (λ i answer. LeafTells c.args.tm.now c.args.kind (c.args.first + i) c.args.bytes.now c.args.is_shared answer) c.args.from c.loop-i.i c.loop-i.out c.in_ok-out.field-0 None
      (omega (arith, c.loop-i-test.true, c.requires.within, c.loop-i.invariant.sized)) c.loop-i.invariant.told c.in_ok-out.ensures.told;
  other = λ i l.
      get_or-set_other c.loop-i.out c.loop-i.i i c.in_ok-out.field-0 None (λ e. omega (arith, e, l, c.loop-i.invariant.from)) ∙ c.loop-i.invariant.other i l;
}

pub returns-clause-told : goal.returns-clause-told
returns-clause-told c i low high = c.loop-i.invariant.told i low (omega (arith, high, c.loop-i-test.false))
