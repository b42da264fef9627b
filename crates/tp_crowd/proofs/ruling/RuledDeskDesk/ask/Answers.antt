use Rattle.std.proofs.Common.{sym, subst}
use Rattle.tp_hub.specs.declared.event.Event.{Event}
use Rattle.tp_hub.specs.Runs.{incoming}
use Rattle.tp_hub.specs.Desks.{IsAsked}
use Rattle.tp_crowd.specs.Ruling.{IsRuled}
use Rattle.tp_crowd.proofs.ruling.RuledDeskDesk.ask.Goals as goal

pub returns-in-Message : goal.returns-in-Message
returns-in-Message g c =
    subst (λ (e : Event). IsAsked (λ took answers. IsRuled g.V.Volumes.view took answers) (incoming e) c.ask_line-ran.result.events c.ask_line-ran.result.bytes c.args.out.now c.ask_line-ran.new.out)
    (sym c.in-Message.is) c.ask_line-ran.ensures
