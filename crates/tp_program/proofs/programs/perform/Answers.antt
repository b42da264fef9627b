use Rattle.std.proofs.Common.{Bool, subst, sym}
use Rattle.std.specs.Prelude.{◌&&◌}
use Rattle.tp_tasks.specs.declared.task.Task.{Task}
use Rattle.nbd_session.specs.declared.phase.Profile.{Profile}
use Rattle.tp_program.specs.Tasks.{Does, PlaysFile}
use Rattle.tp_program.proofs.Tasks.{does_streamed, keeps_same}
use Rattle.tp_program.proofs.programs.perform.Goals as goal

pub returns-in-Some : goal.returns-in-Some
returns-in-Some g c =
    let deeds = g.I.Images.deeds in
    let left = g.R.Read.remaining in
    let told = g.W.Write.contents in
    subst (λ (t : Task). Does (c.args.terminals.input && c.args.terminals.errors) t (deeds c.args.images.now) (deeds c.play_file.new.images) (left c.args.input.now) (left c.args.input.now)
    (told c.args.output.now) (told c.play_file.new.output) c.play_file.result) (sym c.in-Some.ensures.script) (
      keeps_same (left c.args.input.now),
      subst (λ (p : Profile). PlaysFile p c.in-Some.image (deeds c.args.images.now) (deeds c.play_file.new.images) (told c.args.output.now) (told c.play_file.new.output) c.play_file.result) c.offered.ensures c.play_file.ensures,
    )

pub returns-in-None : goal.returns-in-None
returns-in-None g c =
    let deeds = g.I.Images.deeds in
    let left = g.R.Read.remaining in
    let told = g.W.Write.contents in
    let after = c.perform_piped.new in
    subst (λ (b : Bool). Does b c.args.task (deeds c.args.images.now) (deeds after.images) (left c.args.input.now) (left after.input) (told c.args.output.now) (told after.output) c.perform_piped.result) c.can_answer.ensures
    (does_streamed c.can_answer.result (deeds c.args.images.now) (deeds after.images) (left c.args.input.now) (left after.input) (told c.args.output.now) (told after.output) c.perform_piped.result c.args.task
    c.in-None.ensures.none c.perform_piped.ensures)
