use Rattle.std.proofs.Common.{Some, inl, inr, refl}
use Rattle.tp_commands.specs.Lives.{closing_of}
use Rattle.tp_commands.proofs.Living.{lived_first}
use Rattle.tp_commands.proofs.feeding.feed_fresh.Goals as goal

pub returns-in-Ok : goal.returns-in-Ok
returns-in-Ok g c =
    let shown = c.in-Ok.ensures.shows in
    let fed = c.feed_pool-fed.ensures in
    inr (fed.0, fed.1, fed.2, fed.3, fed.4, lived_first _ fed.0 (Some (closing_of fed.2)) c.in-Ok.pool shown.0 shown.1 shown.2 fed.5)

pub returns-in-Err : goal.returns-in-Err
returns-in-Err g c = inl (c.from.result.refusal, refl, refl)
