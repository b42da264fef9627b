use Rattle.std.proofs.Common.{rules, arith}
use Rattle.std.proofs.lemmas.Result.{IfOk-weaker}
use Rattle.tp_btree.proofs.extent.last.Goals as goal

pub returns : goal.returns
returns g c = record {
  told = IfOk-weaker c.last_below.result _ _
      (λ answer told honest opens held s k high st some top. told honest opens held s k 0 high st (omega (arith, st.levels, c.most_level.ensures)) some top) c.last_below.ensures.told;
  damaged = λ e honest opens held s k high st some top. c.last_below.ensures.damaged e honest opens held s k 0 high st (omega (arith, st.levels, c.most_level.ensures)) some top;
  state = search rules;
}
