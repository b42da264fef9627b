use Rattle.std.proofs.Common.{◌∙◌, ◌++◌, ◌∷◌, [], ap, sym, arith, take}
use Rattle.tp_btree.specs.Walks.{from_key}
use Rattle.tp_btree.proofs.Filling.{added_on, longer_refl, longer_trans, next_one, nothing_added}
use Rattle.tp_btree.proofs.walks.add_leaf.Goals as goal

pub loop-i-init : goal.loop-i-init
loop-i-init c = record { value = nothing_added 252 c.args.entries.now.items c.requires; longer = longer_refl c.args.entries.now.items; end = c.len-i-end.ensures.value }

pub loop-i-preserved : goal.loop-i-preserved
loop-i-preserved c = record {
  value =
      added_on 252 (from_key c.args.from (take c.loop-i.i c.args.node.now.entries)) (from_key c.args.from (c.entry.result ∷ [])) c.args.entries.now.items c.loop-i.entries.items c.add.new.entries.items
      c.loop-i.invariant.value c.add.ensures.value
      ∙ ap (λ l. take 252 (c.args.entries.now.items ++ l)) (sym (next_one c.args.from c.loop-i.i c.args.node.now.entries c.entry.result (omega (arith, c.loop-i.invariant.end)) c.entry.ensures));
  longer = longer_trans c.args.entries.now.items c.loop-i.entries.items c.add.new.entries.items c.loop-i.invariant.longer c.add.ensures.longer;
  end = c.loop-i.invariant.end;
}
