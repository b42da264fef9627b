use Rattle.std.proofs.Common.{◌∙◌, List, ap, length}
use Rattle.tp_hub.specs.declared.answers.Mark.{Mark}
use Rattle.tp_hub.specs.Told.{all_sent, told, total}
use Rattle.tp_hub.proofs.Telling.{marks_fit, marks_say, shown_marks}
use Rattle.tp_hub.proofs.answers.Answers.marks.Goals as goal

pub returns-clause-says : goal.returns-clause-says
returns-clause-says c = ap (λ (m : List Mark). told m (all_sent c.args.self.now.list)) c.as_slice.ensures.value
    ∙ marks_say c.args.self.now c.self.inside.marks.items c.self.inside.used c.self.inside.bytes.items _ _ _ c.self.view_is c.self.invariant

pub returns-clause-fits : goal.returns-clause-fits
returns-clause-fits c = ap total c.as_slice.ensures.value ∙ marks_fit c.args.self.now c.self.inside.marks.items c.self.inside.used c.self.inside.bytes.items _ _ _ c.self.view_is c.self.invariant

pub returns-clause-count : goal.returns-clause-count
returns-clause-count c = ap length c.as_slice.ensures.value ∙ shown_marks c.args.self.now c.self.inside.marks.items c.self.inside.used c.self.inside.bytes.items _ _ c.self.view_is
