use Rattle.std.proofs.Common.{◌≡◌, Bool, List, [], refl, sym, subst}
use Rattle.std.specs.Prelude.{MatchBool}
use Rattle.tp_hub.specs.Desks.{Exchange}
use Rattle.tp_lines.specs.Clearing.{AreDeletes}
use Rattle.tp_lines.proofs.Deleting.{cleared_where}
use Rattle.tp_commands.proofs.beginning.begin_hub.Goals as goal

pub returns-then-not-has_clones : goal.returns-then-not-has_clones
returns-then-not-has_clones g c =
    let P : Bool → Type 0 = λ b. MatchBool b (AreDeletes 8388608 64 []) (◌≡◌ {A = List Exchange} [] []) in
    (c.new-hub.result, c.new-hub.ensures.pool, c.new-hub.ensures.sessions, [], refl, (subst P (sym c.if-not-has_clones.true) refl, refl))

pub returns : goal.returns
returns g c =
    let did = c.clear_left.ensures in
    (c.new-hub.result, c.new-hub.ensures.pool, c.new-hub.ensures.sessions, did.0, did.1, cleared_where c.args.has_clones c.clear_left.result.1 did.0 c.if-not-has_clones.false did.2)
