use Rattle.std.proofs.Common.{◌∙◌, sym, ap, take}
use Rattle.std.specs.List.{list_any}
use Rattle.tp_hub.specs.Told.{Told}
use Rattle.tp_hub.specs.Carrying.{closes_in, is_close}
use Rattle.tp_hub.proofs.Carrying.{closes_told}
use Rattle.tp_hub.proofs.answers.Answers.closes.Goals as goal

pub returns : goal.returns
returns c = c.any_close.ensures ∙ (ap (list_any (is_close c.args.session)) c.as_slice.ensures.value ∙ (sym (closes_told c.args.session c.self.inside.marks.items (take c.self.inside.used c.self.inside.bytes.items)) ∙ ap (λ (t : Told). closes_in c.args.session t.list) c.self.view_is))
