use Rattle.std.proofs.Common.{◌∷◌, ◌++◌}
use Rattle.std.specs.Fmt.{decimal}
use Rattle.tp_lines.proofs.Paging.{cut_behind, cut_number}
use Rattle.tp_lines.proofs.pages.three_of.Goals as goal

pub returns-in_default-volume_of : goal.returns-in_default-volume_of
returns-in_default-volume_of c a b d low mid high e =
    c.in_default-volume_of.ensures a low (cut_number c.args.text.now c.in-Some.word.now c.in-Some.rest.now a (decimal b ++ 32 ∷ decimal d) low c.in-Some.ensures e)

pub returns-in_default-two_of : goal.returns-in_default-two_of
returns-in_default-two_of c a b d low mid high e =
    c.in_default-two_of.ensures b d mid high (cut_behind c.args.text.now c.in-Some.word.now c.in-Some.rest.now a (decimal b ++ 32 ∷ decimal d) low c.in-Some.ensures e)
