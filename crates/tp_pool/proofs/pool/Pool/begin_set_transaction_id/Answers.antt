use Rattle.std.proofs.Common.{ap, refl, sym, ◌≡◌, ◌∙◌, ◌==◌, true}
use Rattle.std.specs.Prelude.{Result, is_err}
use Rattle.tp_model.specs.declared.refusal.Refusal.{Refusal}
use Rattle.tp_model.specs.Calls.{Refused, SetTransactionId, is_failed, is_read_only}
use Rattle.tp_pool.proofs.Exchanging.{exchange_tests}
use Rattle.tp_model.specs.declared.refusal.Refusal.TheVariants.{Failed}
use Rattle.tp_pool.specs.Held.{Held}
use Rattle.tp_pool.proofs.Answering.{failed_answers}
use Rattle.tp_pool.proofs.Begun.{begun_refused}
use Rattle.tp_pool.proofs.Calling.{Laws, called_failed}
use Rattle.tp_pool.proofs.Flushing.{flushed_failed}
use Rattle.tp_pool.proofs.pool.Pool.begin_set_transaction_id.Goals as goal

pub returns-then-is_failed-clause-begun : goal.returns-then-is_failed-clause-begun
returns-then-is_failed-clause-begun g c =
    let M = g.M.Metadata in
    let met = g.met.M.Metadata in
    let laws : Laws M.geometry M.stands M.marks M.room = record { within = met.within; honest = met.honest; left = met.left; frame = met.frame } in
    let fails : is_failed c.args.self.now.mode ≡ true = sym (ap (λ (h : Held g.row.M.Denot). is_failed h.mode) c.self.view_is) ∙ sym c.is_failed.ensures ∙ c.if-is_failed.true in
    record {
      called = called_failed laws c.args.self.now (SetTransactionId c.args.current c.args.next) fails (λ s failed. exchange_tests s c.args.current c.args.next true (is_read_only s.mode) (c.args.current == s.transaction_id) failed refl refl) refl;
      answered = failed_answers M.geometry M.stands c.args.self.now (SetTransactionId c.args.current c.args.next) fails refl;
      flushes = flushed_failed M.geometry M.stands M.marks M.room M.changed c.args.self.now (SetTransactionId c.args.current c.args.next) (Refused Failed) fails;
    }

pub returns-in-Ok-clause-begun : goal.returns-in-Ok-clause-begun
returns-in-Ok-clause-begun g c = c.in-Ok.ensures.called

pub returns-in-Err-clause-begun : goal.returns-in-Err-clause-begun
returns-in-Err-clause-begun g c =
    let M = g.M.Metadata in
    let met = g.met.M.Metadata in
    let laws : Laws M.geometry M.stands M.marks M.room = record { within = met.within; honest = met.honest; left = met.left; frame = met.frame } in
    begun_refused laws M.changed (SetTransactionId c.args.current c.args.next) refl refl c.args.self.now c.try_set_transaction_id.new.self c.settle.new.self c.in-Err.reason c.settle.result c.settle.ensures.same c.settle.ensures.err
    c.in-Err.ensures.called c.in-Err.ensures.tried c.try_set_transaction_id.ensures.flushes c.in-Err.ensures.changes

pub returns-then-is_failed-clause-idle : goal.returns-then-is_failed-clause-idle
returns-then-is_failed-clause-idle g c same unchanged s shown = refl

pub returns-in-Ok-clause-idle : goal.returns-in-Ok-clause-idle
returns-in-Ok-clause-idle g c same unchanged s shown = c.in-Ok.ensures.idle same unchanged s shown

pub returns-in-Err-clause-idle : goal.returns-in-Err-clause-idle
returns-in-Err-clause-idle g c same unchanged s shown = ap (λ (r : Result (Unit {0}) Refusal). is_err r) c.settle.ensures.same
