use Rattle.std.proofs.Common.{rules, arith}
use Rattle.std.proofs.lemmas.Result.{IfOk-weaker}
use Rattle.tp_btree.proofs.look_up.lookup.Goals as goal

pub returns : goal.returns
returns g c = record {
  told = IfOk-weaker c.look_below.result _ _
      (λ answer told honest opens held s k high st u. told honest opens held s k 0 high st (omega (arith, st.levels, c.most_level.ensures)) (omega arith) u) c.look_below.ensures.told;
  damaged = λ e honest opens held s k high st u. c.look_below.ensures.damaged e honest opens held s k 0 high st (omega (arith, st.levels, c.most_level.ensures)) (omega arith) u;
  state = search rules;
}
