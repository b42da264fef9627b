use Rattle.std.proofs.Common.{◌∙◌, arith}
use Rattle.tp_meta.proofs.Listed.{all_cleared}
use Rattle.tp_meta.proofs.marks.clear_marks.Goals as goal

pub returns : goal.returns
returns c follows =
    c.clear_at.ensures ∙ all_cleared c.args.places.now c.args.marks.now.items (follows (omega (arith, c.if-places-ge-MOST_LISTED.false)))
