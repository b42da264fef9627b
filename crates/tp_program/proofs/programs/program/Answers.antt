use Rattle.std.proofs.Common.{subst, sym, map}
use Rattle.std.specs.Prelude.{◌&&◌}
use Rattle.tp_program.specs.Statuses.{EndsBy}
use Rattle.tp_program.specs.declared.programs.Status as ends
use Rattle.tp_program.proofs.Tasks.{ended, performed}
use Rattle.tp_program.specs.Tasks.{Performs}
use Rattle.tp_program.proofs.programs.program.Goals as goal

pub returns-in-Ok-clause-ends : goal.returns-in-Ok-clause-ends
returns-in-Ok-clause-ends g c =
    let deeds = g.I.Images.deeds in
    let left = g.R.Read.remaining in
    let told = g.W.Write.contents in
    let after = c.perform-done.new in
    subst (λ (s : ends.Status). EndsBy (map g.S.AsStr.text c.args.words.now) s) (sym c.conclude_task.ensures)
    (ended (c.args.terminals.input && c.args.terminals.errors) (deeds c.args.images.now) (deeds after.images) (left c.args.input.now) (left after.input) (told c.args.output.now) (told after.output)
    c.perform-done.result (map g.S.AsStr.text c.args.words.now) c.in-Ok.asked c.in-Ok.ensures c.perform-done.ensures)

pub returns-in-Ok-clause-performs : goal.returns-in-Ok-clause-performs
returns-in-Ok-clause-performs g c =
    let deeds = g.I.Images.deeds in
    let left = g.R.Read.remaining in
    let told = g.W.Write.contents in
    let after = c.perform-done.new in
    let asks = c.args.terminals.input && c.args.terminals.errors in
    let words = map g.S.AsStr.text c.args.words.now in
    subst (λ (s : ends.Status). Performs asks words (deeds c.args.images.now) (deeds after.images) (left c.args.input.now) (left after.input) (told c.args.output.now) (told after.output) s) (sym c.conclude_task.ensures)
    (performed asks (deeds c.args.images.now) (deeds after.images) (left c.args.input.now) (left after.input) (told c.args.output.now) (told after.output)
    c.perform-done.result words c.in-Ok.asked c.in-Ok.ensures c.perform-done.ensures)
