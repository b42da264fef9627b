use Rattle.std.proofs.Common.{rules, ◌<◌, ◌^◌, sym, subst}
use Rattle.std.specs.Prelude.{IfErr, Result}
use Rattle.std.proofs.lemmas.Result.{err_from_is_err_and}
use Rattle.tp_model.specs.declared.refusal.Refusal.{Refusal}
use Rattle.tp_model.specs.Sectors.{sectors_of}
use Rattle.tp_users.specs.Users.{IsOutside}
use Rattle.tp_users.proofs.Given.{write_refused}
use Rattle.tp_users.proofs.Growth.{filled, grow_refused, grown_shown}
use Rattle.tp_users.proofs.grown.fill_and_grow.Goals as goal

pub returns-in_err-write-clause-only : goal.returns-in_err-write-clause-only
returns-in_err-write-clause-only c =
    let low : c.args.id < 2 ^ 24 = search rules in
    let p = err_from_is_err_and c.from_residual.result c.from_residual.ensures.1 in
    subst (λ (r : Result _ Refusal). IfErr r (λ reason. IsOutside reason)) (sym p.1)
    (subst (λ (reason : Refusal). IsOutside reason) (sym p.2)
    (write_refused c.args.pool.now c.write.new.self c.args.id c.args.sector (sectors_of c.args.bytes.now) c.in_err-write.field-0.0 low c.room_lasts_to_the_bound.ensures.called c.requires.shows c.in_err-write.ensures.called))

pub returns-in_err-grow-clause-only : goal.returns-in_err-grow-clause-only
returns-in_err-grow-clause-only c =
    let low : c.args.id < 2 ^ 24 = search rules in
    let p = err_from_is_err_and c.from_residual-in_err-grow.result c.from_residual-in_err-grow.ensures.1 in
    let w = filled c.args.pool.now c.write.new.self c.args.id c.args.sector (sectors_of c.args.bytes.now) low c.requires.shows c.in_ok-write.ensures.called in
    subst (λ (r : Result _ Refusal). IfErr r (λ reason. IsOutside reason)) (sym p.1)
    (subst (λ (reason : Refusal). IsOutside reason) (sym p.2)
    (grow_refused c.write.new.self c.grow.new.self c.args.id c.args.blocks c.in_err-grow.field-0.0 c.room_lasts_to_the_bound.ensures.called w c.requires.least c.requires.most c.in_err-grow.ensures.called))

pub returns-clause-shows : goal.returns-clause-shows
returns-clause-shows c =
    let low : c.args.id < 2 ^ 24 = search rules in
    let w = filled c.args.pool.now c.write.new.self c.args.id c.args.sector (sectors_of c.args.bytes.now) low c.requires.shows c.in_ok-write.ensures.called in
    grown_shown c.write.new.self c.grow.new.self c.args.id c.args.blocks w c.requires.least c.in_ok-grow.ensures.called
