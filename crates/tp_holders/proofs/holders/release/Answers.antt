use Rattle.std.proofs.Common.{◌∙◌, List, ap, subst, sym}
use Rattle.tp_holders.specs.Holders.{Holding, IsLastOf, LeftTold, holds_of}
use Rattle.tp_holders.proofs.Rows.{blocks_released, holds_released}
use Rattle.tp_holders.proofs.holders.release.Goals as goal

pub returns-clause-holds : goal.returns-clause-holds
returns-clause-holds c =
    let at = c.place_of-place.result in
    let last : IsLastOf c.args.holders.now.items c.args.volume at = subst (λ (l : List Holding). IsLastOf l c.args.volume at) c.deref.ensures.0 c.place_of-place.ensures in
    ap holds_of c.remove.ensures.items ∙ holds_released c.args.holders.now.items at c.args.volume last

pub returns-clause-blocks : goal.returns-clause-blocks
returns-clause-blocks c =
    let at = c.place_of-place.result in
    let hs = c.args.holders.now.items in
    let last : IsLastOf hs c.args.volume at = subst (λ (l : List Holding). IsLastOf l c.args.volume at) c.deref.ensures.0 c.place_of-place.ensures in
    subst (LeftTold hs) (sym c.remove.ensures.items) (blocks_released hs at c.args.volume last)
