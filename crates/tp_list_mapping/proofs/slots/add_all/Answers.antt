use Rattle.std.proofs.Common.{◌∙◌, ◌++◌, ◌∷◌, [], ap, sym, take}
use Rattle.tp_mapping.specs.Mapping.{from_block}
use Rattle.tp_mapping.proofs.Filling.{added_on, longer_refl, longer_trans, nothing_added}
use Rattle.tp_list_mapping.proofs.Filling.{next_one}
use Rattle.tp_list_mapping.proofs.slots.add_all.Goals as goal

pub loop-i-init : goal.loop-i-init
loop-i-init c = record { value = nothing_added 252 c.args.out.now.items c.requires; longer = longer_refl c.args.out.now.items }

pub loop-i-preserved : goal.loop-i-preserved
loop-i-preserved c = record {
  value =
      added_on 252 (from_block c.args.from (take c.loop-i.i c.args.slots.now)) (from_block c.args.from (c.index-slots-i.result ∷ [])) c.args.out.now.items c.loop-i.out.items c.add.new.out.items
      c.loop-i.invariant.value c.add.ensures.value
      ∙ ap (λ l. take 252 (c.args.out.now.items ++ l)) (sym (next_one c.args.from c.loop-i.i c.args.slots.now c.index-slots-i.result c.loop-i-test.true c.index-slots-i.is));
  longer = longer_trans c.args.out.now.items c.loop-i.out.items c.add.new.out.items c.loop-i.invariant.longer c.add.ensures.longer;
}
