use Rattle.std.proofs.Common.{◌≡◌, ◌+◌, ◌/◌, ◌<◌, ◌&&◌, length, ap, arith, subst, sym, ◌∙◌}
use Rattle.std.specs.Prelude.{None, Option, slice_index_or}
use Rattle.std.proofs.lemmas.List.{get_or_default}
use Rattle.tp_model.specs.Calls.{WriteZeroes, covers}
use Rattle.tp_shown.specs.Shown.{blocks_wanted_by, owns_block, wants_block}
use Rattle.tp_shown.proofs.Blocks.{touched_inside}
use Rattle.tp_meta.specs.Metadata.{IsTold}
use Rattle.tp_meta.specs.declared.metadata.Home.{Home}
use Rattle.tp_pool.specs.Writing.{blocks_taken_by, takes_block, told_taken, told_wanted}
use Rattle.tp_pool.specs.Zeroing.{told_owned}
use Rattle.tp_pool.proofs.Rooms.{covered_told, one_counted, owned_is, taken_is, wanted_is}
use Rattle.tp_pool.proofs.room.survey_zeroes.Goals as goal

pub loop-i-preserved : goal.loop-i-preserved
loop-i-preserved c =
    let inv = c.loop-i.invariant in
    let i = c.loop-i.i in
    let gm = c.args.geometry.now in
    let homes = c.args.homes.now in
    let home = c.index-homes-i.result in
    let pos : 0 < gm.block_sectors = let limits = c.block_of.ensures.limits in omega (arith, limits.block_least) in
    let at = c.args.sector / gm.block_sectors in
    let is : home ≡ slice_index_or homes i None = c.index-homes-i.is ∙ get_or_default homes i home None (omega (arith, c.loop-i-test.true)) in
    record {
      few_wanted = omega (arith, inv.few_wanted, c.demand_of-demand.ensures.one.0);
      few_taken = omega (arith, inv.few_taken, c.demand_of-demand.ensures.one.1);
      told = λ fua id volumes marks within told.
          let call = WriteZeroes id c.args.sector c.args.count c.args.no_hole fua in
          let here = subst (λ (o : Option Home). IsTold id (at + i) volumes marks o) (sym is) (told i c.loop-i-test.true) in
          let block : c.number-first.result + i ≡ at + i = omega (arith, c.number-first.ensures, c.block_of.ensures.block) in
          let t = touched_inside gm c.args.sector c.args.count (at + i) pos (omega arith) (omega (arith, c.loop-i-test.true, c.requires.homes)) in
          let among : c.is_among-is_covered.result ≡ covers gm c.args.sector c.args.count (at + i) =
          c.is_among-is_covered.ensures ∙ (covered_told gm pos c.args.sector c.args.count c.covered-first_covered.result.0 c.covered-first_covered.result.1 (c.number-first.result + i) c.covered-first_covered.ensures.first c.covered-first_covered.ensures.blocks
          ∙ ap (covers gm c.args.sector c.args.count) block) in
          let owned : c.is_owned.result ≡ owns_block gm call id volumes (at + i) =
          c.is_owned.ensures ∙ (ap (λ b. told_owned c.args.no_hole b home) among ∙ owned_is gm id c.args.sector c.args.count c.args.no_hole fua volumes marks (at + i) home t here) in
          let so = inv.told fua id volumes marks within told in (
            one_counted (λ b. owns_block gm call id volumes b && wants_block id volumes b) at i c.loop-i.wanted _ (c.is_owned.result && told_wanted home) so.0
                (λ j. owned j && wanted_is gm id (at + i) volumes marks within home here j) (ap (λ k. c.loop-i.wanted + k) c.demand_of-demand.ensures.wanted),
            one_counted (λ b. owns_block gm call id volumes b && takes_block id volumes marks b) at i c.loop-i.taken _ (c.is_owned.result && told_taken home) so.1
                (λ j. owned j && taken_is gm id (at + i) volumes marks within home here j) (ap (λ k. c.loop-i.taken + k) c.demand_of-demand.ensures.taken),
          );
    }

pub returns : goal.returns
returns c = record {
  told = λ fua id volumes marks within told.
      let gm = c.args.geometry.now in
      let at = c.args.sector / gm.block_sectors in
      let call = WriteZeroes id c.args.sector c.args.count c.args.no_hole fua in
      let all : c.loop-i.i ≡ length c.args.homes.now = omega (arith, c.loop-i-test.false, c.loop-i.auto.i-end) in
      let so = c.loop-i.invariant.told fua id volumes marks within told in
      (so.0 ∙ ap (blocks_wanted_by gm call id volumes at) all, so.1 ∙ ap (blocks_taken_by gm call id volumes marks at) all);
}
