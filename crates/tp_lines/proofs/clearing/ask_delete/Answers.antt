use Rattle.std.proofs.Common.{[], ◌∷◌, List, ℕ, ap}
use Rattle.tp_hub.specs.Runs.{Orders}
use Rattle.tp_lines.proofs.Deleting.{accepted_so, whole_order}
use Rattle.tp_lines.proofs.clearing.ask_delete.Goals as goal

pub returns-clause-asked : goal.returns-clause-asked
returns-clause-asked g c =
    let order = whole_order (λ took answers. g.D.Desk.asks c.args.desk.now took answers c.ask.new.self) _ c.ask.result.events c.ask.result.bytes c.args.out.now c.ask.new.out c.ask.ensures c.requires.fits in (
      record { took = Orders _ ∷ []; answers = order.0 },
      order.1,
      ap (λ (line : List ℕ). Orders line ∷ []) c.put_delete-len.ensures.line,
      accepted_so c.args.out.now c.ask.new.out order.0 c.marks.result.now c.any_done-done.result c.one_if.result c.requires.empty order.2 c.marks.ensures.says c.any_done-done.ensures c.one_if.ensures.value,
    )
