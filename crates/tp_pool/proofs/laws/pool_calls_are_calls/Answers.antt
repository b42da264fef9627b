use Rattle.std.proofs.Common.{ap, ◌∙◌, ◌*◌}
use Rattle.tp_pool.proofs.Meeting.{answers_of_served, more_told, of_served}
use Rattle.tp_pool.proofs.Sizes.{held_sectors}
use Rattle.tp_pool.proofs.laws.pool_calls_are_calls.Goals as goal

pub returns : goal.returns
returns g c old new call answer same holds still told called answered flushes =
    let M = g.M.Metadata in
    record {
      geometry = same;
      holds = holds;
      more = λ id was is. more_told M.geometry M.stands M.marks M.room M.changed old new same still id was is;
      told = λ id blocks asked sized some. ap (λ n. n * (M.geometry old.metadata).block_sectors) (told id blocks asked sized some) ∙ held_sectors (M.geometry old.metadata) old.holders id;
      answered = answers_of_served M.geometry M.stands M.marks M.room M.changed old new call answer answered;
      flushes = flushes;
      called = of_served M.geometry M.stands M.marks M.room M.changed old new call answer called.called;
    }
