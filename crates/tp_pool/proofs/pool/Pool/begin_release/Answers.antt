use Rattle.std.proofs.Common.{ap, refl, sym, ◌≡◌, ◌∙◌, ◌==◌, true}
use Rattle.tp_model.specs.Calls.{Refused, ReleaseMetadataSnap, is_failed, is_read_only}
use Rattle.tp_pool.proofs.Reserving.{release_tests}
use Rattle.tp_model.specs.declared.refusal.Refusal.TheVariants.{Failed}
use Rattle.tp_pool.specs.Held.{Held}
use Rattle.tp_pool.proofs.Answering.{failed_answers}
use Rattle.tp_pool.proofs.Begun.{begun_refused}
use Rattle.tp_pool.proofs.Calling.{Laws, called_failed}
use Rattle.tp_pool.proofs.Flushing.{flushed_failed}
use Rattle.tp_pool.proofs.pool.Pool.begin_release.Goals as goal

pub returns-then-is_failed-clause-begun : goal.returns-then-is_failed-clause-begun
returns-then-is_failed-clause-begun g c =
    let M = g.M.Metadata in
    let met = g.met.M.Metadata in
    let laws : Laws M.geometry M.stands M.marks M.room = record { within = met.within; honest = met.honest; left = met.left; frame = met.frame } in
    let fails : is_failed c.args.self.now.mode ≡ true = sym (ap (λ (h : Held g.row.M.Denot). is_failed h.mode) c.self.view_is) ∙ sym c.is_failed.ensures ∙ c.if-is_failed.true in
    record {
      called = called_failed laws c.args.self.now ReleaseMetadataSnap fails (λ s failed. release_tests s true (is_read_only s.mode) (s.held_root == 0) failed refl refl) refl;
      answered = failed_answers M.geometry M.stands c.args.self.now ReleaseMetadataSnap fails refl;
      flushes = flushed_failed M.geometry M.stands M.marks M.room M.changed c.args.self.now ReleaseMetadataSnap (Refused Failed) fails;
    }

pub returns-in-Ok-clause-begun : goal.returns-in-Ok-clause-begun
returns-in-Ok-clause-begun g c = c.in-Ok.ensures.called

pub returns-in-Err-clause-begun : goal.returns-in-Err-clause-begun
returns-in-Err-clause-begun g c =
    let M = g.M.Metadata in
    let met = g.met.M.Metadata in
    let laws : Laws M.geometry M.stands M.marks M.room = record { within = met.within; honest = met.honest; left = met.left; frame = met.frame } in
    begun_refused laws M.changed ReleaseMetadataSnap refl refl c.args.self.now c.try_release.new.self c.settle.new.self c.in-Err.reason c.settle.result c.settle.ensures.same c.settle.ensures.err
    c.in-Err.ensures.called c.in-Err.ensures.tried c.try_release.ensures.flushes c.in-Err.ensures.changes
