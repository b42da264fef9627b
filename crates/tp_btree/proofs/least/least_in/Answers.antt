use Rattle.std.proofs.Common.{arith, sym, ◌∙◌}
use Rattle.std.proofs.lemmas.Option.{slice_get_past}
use Rattle.tp_btree.proofs.Seeking.{first_at}
use Rattle.tp_btree.proofs.least.least_in.Goals as goal

pub returns-then-rank-len : goal.returns-then-rank-len
returns-then-rank-len c =
    let es = c.args.node.now.entries in
    sym (first_at c.args.from c.rank_under-rank.result es c.rank_under-rank.ensures.within c.rank_under-rank.ensures.under c.rank_under-rank.ensures.others
    ∙ slice_get_past es c.rank_under-rank.result (omega (arith, c.if-rank-len.true, c.len.ensures.value)))

pub returns : goal.returns
returns c =
    sym (first_at c.args.from c.rank_under-rank.result c.args.node.now.entries c.rank_under-rank.ensures.within c.rank_under-rank.ensures.under c.rank_under-rank.ensures.others ∙ c.entry.ensures)
