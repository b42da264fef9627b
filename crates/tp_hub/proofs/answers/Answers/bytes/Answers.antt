use Rattle.std.proofs.Common.{◌∙◌, ap, take}
use Rattle.tp_hub.proofs.Telling.{shown_bytes}
use Rattle.tp_hub.proofs.answers.Answers.bytes.Goals as goal

pub returns-clause-all : goal.returns-clause-all
returns-clause-all c = ap (take c.self.inside.used) c.deref.ensures.value ∙ shown_bytes c.args.self.now c.self.inside.marks.items c.self.inside.used c.self.inside.bytes.items _ _ _ c.self.view_is c.self.invariant
