use Rattle.std.proofs.Common.{rules, subst, sym}
use Rattle.tp_tasks.specs.declared.task.Task.{Task}
use Rattle.nbd_session.specs.declared.phase.Profile.{Profile}
use Rattle.tp_failures.specs.Failures.{number_of}
use Rattle.tp_program.specs.Tasks.{DoesPlain, Feeds}
use Rattle.tp_program.proofs.programs.perform_on.Goals as goal

pub returns-in-Format : goal.returns-in-Format
returns-in-Format g c =
    let calls = g.S.Stream.calls in
    let deeds = g.I.Images.deeds in
    subst (λ (t : Task). DoesPlain c.args.asks t (deeds c.args.images.now) (deeds c.format.new.images) (calls c.args.stream.now) (calls c.format.new.stream) (number_of c.format.result)) (sym c.in-Format.is) c.format.ensures

pub returns-in-Create : goal.returns-in-Create
returns-in-Create g c =
    let calls = g.S.Stream.calls in
    let deeds = g.I.Images.deeds in
    subst (λ (t : Task). DoesPlain c.args.asks t (deeds c.args.images.now) (deeds c.create.new.images) (calls c.args.stream.now) (calls c.create.new.stream) (number_of c.create.result)) (sym c.in-Create.is) c.create.ensures

pub returns-in-Message : goal.returns-in-Message
returns-in-Message g c = search rules

pub returns-in-Check : goal.returns-in-Check
returns-in-Check g c = search rules

pub returns-in-Feed : goal.returns-in-Feed
returns-in-Feed g c =
    let calls = g.S.Stream.calls in
    let deeds = g.I.Images.deeds in
    subst (λ (t : Task). DoesPlain c.args.asks t (deeds c.args.images.now) (deeds c.feed.new.images) (calls c.args.stream.now) (calls c.feed.new.stream) (number_of c.feed.result)) (sym c.in-Feed.is)
    (subst (λ (p : Profile). Feeds p c.in-Feed.image (deeds c.args.images.now) (deeds c.feed.new.images) (calls c.args.stream.now) (calls c.feed.new.stream) (number_of c.feed.result)) c.offered.ensures c.feed.ensures)
