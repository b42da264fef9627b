use Rattle.std.proofs.Common.{rules, arith}
use Rattle.std.proofs.lemmas.Result.{on_ok_weaker}
use Rattle.tp_btree.proofs.walks.walk.Goals as goal

pub returns-clause-looked : goal.returns-clause-looked
returns-clause-looked g c = record {
  told = on_ok_weaker c.walk_below.result (λ f honest opens held s k high st. f honest opens held s k 0 high st (omega (arith, st.levels, c.most_level.ensures))) c.walk_below.ensures.looked.told;
  damaged = λ e honest opens held s k high st. c.walk_below.ensures.looked.damaged e honest opens held s k 0 high st (omega (arith, st.levels, c.most_level.ensures));
  state = search rules;
}
