use Rattle.std.proofs.Common.{◌≡◌, ◌+◌, length, ap, arith, subst, sym, ◌∙◌}
use Rattle.std.specs.Prelude.{None, slice_index_or}
use Rattle.std.proofs.lemmas.List.{get_or_default}
use Rattle.tp_shown.specs.Shown.{blocks_wanted, wants_block}
use Rattle.tp_meta.specs.Metadata.{IsTold}
use Rattle.tp_meta.specs.declared.metadata.Home.{Home}
use Rattle.std.specs.Prelude.{Option}
use Rattle.tp_pool.specs.Writing.{blocks_taken, takes_block}
use Rattle.tp_pool.proofs.Rooms.{byte_is, byte_most, one_counted, taken_is, wanted_is}
use Rattle.tp_pool.proofs.room.survey.Goals as goal

pub loop-i-preserved : goal.loop-i-preserved
loop-i-preserved c =
    let inv = c.loop-i.invariant in
    let i = c.loop-i.i in
    let homes = c.args.homes.now in
    let home = c.index-homes-i.result in
    let is : home ≡ slice_index_or homes i None = c.index-homes-i.is ∙ get_or_default homes i home None (omega (arith, c.loop-i-test.true)) in
    record {
      few_wanted = omega (arith, inv.few_wanted, byte_most c.wants_block.result);
      few_taken = omega (arith, inv.few_taken, byte_most c.takes_block.result);
      told = λ g id first volumes marks within told.
          let here = subst (λ (o : Option Home). IsTold id (first + i) volumes marks o) (sym is) (told i c.loop-i-test.true) in
          let so = inv.told g id first volumes marks within told in (
            one_counted (wants_block id volumes) first i c.loop-i.wanted _ c.wants_block.result so.0 (c.wants_block.ensures ∙ wanted_is g id (first + i) volumes marks within home here) (ap (λ k. c.loop-i.wanted + k) (byte_is c.wants_block.result)),
            one_counted (takes_block id volumes marks) first i c.loop-i.taken _ c.takes_block.result so.1 (c.takes_block.ensures ∙ taken_is g id (first + i) volumes marks within home here) (ap (λ k. c.loop-i.taken + k) (byte_is c.takes_block.result)),
          );
    }

pub returns : goal.returns
returns c = record {
  told = λ g id first volumes marks within told.
      let all : c.loop-i.i ≡ length c.args.homes.now = omega (arith, c.loop-i-test.false, c.loop-i.auto.i-end) in
      let so = c.loop-i.invariant.told g id first volumes marks within told in
      (so.0 ∙ ap (blocks_wanted id volumes first) all, so.1 ∙ ap (blocks_taken id volumes marks first) all);
}
