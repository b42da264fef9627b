use Rattle.std.proofs.Common.{[], inl, inr, refl, ◌∙◌}
use Rattle.tp_hub.specs.Serve.{HubRuns}
use Rattle.tp_commands.proofs.Asks.{asked_within}
use Rattle.tp_commands.proofs.feeding.feed_hub.Goals as goal

pub returns-in_default : goal.returns-in_default
returns-in_default g c = ([], refl, inl (refl, refl, refl))

pub returns : goal.returns
returns g c =
    let did = c.carry-ending.ensures.carried in
    (did.0, asked_within (HubRuns g.V.Volumes.view) (λ t. t.hub) did.0 _ c.carry-ending.new.desk did.1, inr (c.carry-ending.new.out, c.carry-ending.ensures.wide.most ∙ c.of_a_turn-out.ensures.most, did.2))
