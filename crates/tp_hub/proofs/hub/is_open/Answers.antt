use Rattle.std.proofs.Common.{◌∙◌, ap, sym}
use Rattle.std.specs.Prelude.{is_some}
use Rattle.tp_hub.proofs.Least.{read_at}
use Rattle.tp_hub.proofs.hub.is_open.Goals as goal

pub returns : goal.returns
returns c = c.is_some.ensures ∙ (ap is_some (sym c.index-sessions-from.is) ∙ sym (ap is_some (read_at c.args.sessions.now c.from.result c.args.number c.index-sessions-from.result c.from.ensures c.requires.number c.requires.count c.index-sessions-from.is)))
