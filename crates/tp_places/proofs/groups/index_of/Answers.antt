use Rattle.std.proofs.Common.{◌==◌, rules, tests}
use Rattle.std.proofs.lemmas.Iterator.{YieldsList-from_slice}
use Rattle.std.proofs.lemmas.Iterator.Search.{position_from_yields_List}
use Rattle.tp_places.proofs.Lines.{parts_at}
use Rattle.tp_places.proofs.groups.index_of.Goals as goal

pub returns-clause-parts : goal.returns-clause-parts
returns-clause-parts c = parts_at (λ b. b == c.args.mark) c.args.bytes.now c.position.result
    (position_from_yields_List (λ b. b == c.args.mark) _ _ c.position.result c.position.ensures.ran (YieldsList-from_slice _ c.iter.ensures.rest) (λ x b q k. search (rules, tests)))
