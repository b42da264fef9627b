use Rattle.std.proofs.Common.{◌<◌, ℕ, List, length, subst, sym, ap, ◌∙◌, arith}
use Rattle.tp_meta.specs.Marking.{IsOneOf}
use Rattle.tp_meta.proofs.Listed.{one_longer, one_more}
use Rattle.tp_meta.proofs.marks.fill.Goals as goal

pub loop-i-init : goal.loop-i-init
loop-i-init c = record {
  long = ap length c.clear.ensures.items;
  each = λ n low. absurd (omega (arith, low));
  capacity = omega (arith, c.clear.ensures.capacity, c.requires.room);
}

pub loop-i-preserved : goal.loop-i-preserved
loop-i-preserved c =
    let few : c.loop-i.i < 4096 = omega (arith, c.loop-i-test.true, c.requires.few) in record {
      long = ap length c.list.ensures.value ∙ one_longer c.loop-i.i c.loop-i.places.items c.loop-i.invariant.long few;
      each = λ n low. subst (λ (ps : List ℕ). IsOneOf n ps) (sym c.list.ensures.value)
          (one_more c.loop-i.i c.loop-i.places.items c.loop-i.invariant.long few c.loop-i.invariant.each n low);
      capacity = c.list.ensures.capacity;
    }
