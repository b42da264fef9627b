use Rattle.std.proofs.Common.{rules, ◌≡◌, arith, sym, subst}
use Rattle.std.specs.Prelude.{IfErr, Option, Result}
use Rattle.tp_counts.specs.declared.error.StoreError.{StoreError}
use Rattle.tp_btree.specs.declared.look_up.Found.{Found}
use Rattle.tp_btree.specs.Runs.{IsNoLeaf}
use Rattle.std.proofs.lemmas.Result.{err_from_is_err_and}
use Rattle.tp_counts.specs.declared.error.StoreError.TheVariants.{Damaged}
use Rattle.tp_btree.proofs.Leading.{no_entry, no_reference, other_key, this_entry}
use Rattle.tp_btree.proofs.look_up_run.tell.Goals as goal

pub returns-in_default-clause-told : goal.returns-in_default-clause-told
returns-in_default-clause-told c = no_entry c.args.tm.now c.args.kind c.args.key c.args.is_shared c.args.bytes.now c.step_in-step.result c.step_in-step.ensures c.in_default.is

pub returns-in_err-reference-clause-err : goal.returns-in_err-reference-clause-err
returns-in_err-reference-clause-err c =
    let p = err_from_is_err_and c.from_residual.result c.from_residual.ensures.1 in
    let no = no_reference c.args.tm.now c.args.kind c.args.key c.args.is_shared c.args.bytes.now c.step_in-step.result c.step_in-step.ensures c.in-Some.entry c.in-Some.is
    (omega (arith, c.in_err-reference.ensures.err.1, c.reference.ensures.sized)) in
    let which : p.0 ≡ Damaged = search (rules, p.2, c.in_err-reference.ensures.err.0) in
    subst (λ (r : Result (Option Found) StoreError). IfErr r (λ refusal. (refusal ≡ Damaged) × IsNoLeaf c.args.tm.now c.args.kind c.args.key c.args.bytes.now c.args.is_shared)) (sym p.1) (which, no)

pub returns-then-entry-key-clause-told : goal.returns-then-entry-key-clause-told
returns-then-entry-key-clause-told c =
    other_key c.args.tm.now c.args.kind c.args.key c.args.is_shared c.args.bytes.now c.step_in-step.result c.step_in-step.ensures c.in-Some.entry c.in-Some.is c.if-entry-key.true

pub returns-clause-told : goal.returns-clause-told
returns-clause-told c =
    this_entry c.args.tm.now c.args.kind c.args.key c.args.is_shared c.args.bytes.now c.step_in-step.result c.step_in-step.ensures c.is_many.result c.in-Some.entry c.in_ok-reference.reference c.in-Some.is
    c.if-entry-key.false c.in_ok-reference.ensures.found c.is_many.ensures
