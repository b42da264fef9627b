use Rattle.std.proofs.Common.{ap, refl, sym, ◌≡◌, ◌∙◌, not, true}
use Rattle.std.specs.Prelude.{nat_lt}
use Rattle.tp_model.specs.Pool.{hold_count}
use Rattle.tp_model.specs.Calls.{Delete, Refused, exists, is_failed, is_read_only}
use Rattle.tp_pool.proofs.Deleting.{deletion_tests, is_short}
use Rattle.tp_model.specs.declared.refusal.Refusal.TheVariants.{Failed}
use Rattle.tp_pool.specs.Held.{Held}
use Rattle.tp_pool.proofs.Answering.{failed_answers}
use Rattle.tp_pool.proofs.Begun.{begun_refused}
use Rattle.tp_pool.proofs.Calling.{Laws, called_failed}
use Rattle.tp_pool.proofs.Flushing.{flushed_failed}
use Rattle.tp_pool.proofs.pool.Pool.begin_delete.Goals as goal

pub returns-then-is_failed-clause-begun : goal.returns-then-is_failed-clause-begun
returns-then-is_failed-clause-begun g c =
    let M = g.M.Metadata in
    let met = g.met.M.Metadata in
    let laws : Laws M.geometry M.stands M.marks M.room = record { within = met.within; honest = met.honest; left = met.left; frame = met.frame } in
    let fails : is_failed c.args.self.now.mode ≡ true = sym (ap (λ (h : Held g.row.M.Denot). is_failed h.mode) c.self.view_is) ∙ sym c.is_failed.ensures ∙ c.if-is_failed.true in
    record {
      called = called_failed laws c.args.self.now (Delete c.args.id) fails (λ s failed. deletion_tests s c.args.id true (is_read_only s.mode) (not (exists s c.args.id)) (nat_lt 0 (hold_count s.holds c.args.id)) (is_short s) failed refl refl refl refl) refl;
      answered = failed_answers M.geometry M.stands c.args.self.now (Delete c.args.id) fails refl;
      flushes = flushed_failed M.geometry M.stands M.marks M.room M.changed c.args.self.now (Delete c.args.id) (Refused Failed) fails;
    }

pub returns-in-Ok-clause-begun : goal.returns-in-Ok-clause-begun
returns-in-Ok-clause-begun g c = c.in-Ok.ensures.called

pub returns-in-Err-clause-begun : goal.returns-in-Err-clause-begun
returns-in-Err-clause-begun g c =
    let M = g.M.Metadata in
    let met = g.met.M.Metadata in
    let laws : Laws M.geometry M.stands M.marks M.room = record { within = met.within; honest = met.honest; left = met.left; frame = met.frame } in
    begun_refused laws M.changed (Delete c.args.id) refl refl c.args.self.now c.try_delete.new.self c.settle.new.self c.in-Err.reason c.settle.result c.settle.ensures.same c.settle.ensures.err
    c.in-Err.ensures.called c.in-Err.ensures.tried c.try_delete.ensures.flushes c.in-Err.ensures.changes
