use Rattle.std.specs.Fmt.{decimal}
use Rattle.tp_lines.proofs.Paging.{cut_behind, cut_number}
use Rattle.tp_lines.proofs.pages.two_of.Goals as goal

pub returns-in_default-volume_of : goal.returns-in_default-volume_of
returns-in_default-volume_of c a b low high e =
    c.in_default-volume_of.ensures a low (cut_number c.args.text.now c.in-Some.word.now c.in-Some.rest.now a (decimal b) low c.in-Some.ensures e)

pub returns-in_default-block_of : goal.returns-in_default-block_of
returns-in_default-block_of c a b low high e =
    c.in_default-block_of.ensures b high (cut_behind c.args.text.now c.in-Some.word.now c.in-Some.rest.now a (decimal b) low c.in-Some.ensures e)
