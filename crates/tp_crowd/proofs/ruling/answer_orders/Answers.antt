use Rattle.std.proofs.Common.{List}
use Rattle.tp_hub.specs.Runs.{Incoming}
use Rattle.tp_hub.specs.Told.{Answer}
use Rattle.tp_lines.specs.Controls.{AttendsLines}
use Rattle.tp_crowd.specs.Ruling.{IsRuled}
use Rattle.tp_crowd.proofs.Controlling.{leads_so}
use Rattle.tp_crowd.proofs.ruling.answer_orders.Goals as goal

pub returns : goal.returns
returns g c =
    leads_so {D = Unit {0}} (λ (at : Unit {0}) (took : List Incoming) (answers : List Answer) (at' : Unit {0}). IsRuled g.V.Volumes.view took answers) (λ _. tt)
    (λ asks did. AttendsLines asks did c.attend_lines.result) _ c.attend_lines.new.desk (g.S.Stream.calls c.args.stream.now) (g.S.Stream.calls c.attend_lines.new.stream) c.attend_lines.ensures
