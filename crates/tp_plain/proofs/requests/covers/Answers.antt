use Rattle.std.proofs.Common.{rules}
use Rattle.tp_plain.proofs.requests.covers.Goals as goal

pub returns-then-sector-first : goal.returns-then-sector-first
returns-then-sector-first c = search rules
