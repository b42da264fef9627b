use Rattle.std.proofs.Common.{rules, ◌≡◌, Err, ap, sym, subst, arith}
use Rattle.std.proofs.lemmas.Result.{err_from_is_err_and}
use Rattle.tp_counts.specs.declared.error.StoreError.{StoreError}
use Rattle.tp_counts.specs.declared.error.StoreError.TheVariants.{Damaged}
use Rattle.tp_counts.proofs.Refusing.{fault_is, refusal_is}
use Rattle.tp_meta.specs.Metadata.{Ran}
use Rattle.tp_pool.specs.Trimming.{HasUnmapped}
use Rattle.tp_pool.proofs.Runs.{at_rest_ran, ran_at_most}
use Rattle.tp_pool.proofs.Unmapping.{changing_none, unmapped_nothing, unmapped_run}
use Rattle.tp_pool.proofs.trimming.unmap_blocks.Goals as goal

pub returns-then-count-eq0-clause-altered : goal.returns-then-count-eq0-clause-altered
returns-then-count-eq0-clause-altered g c = record {
  made = λ now kept st.
      let M = g.M.Metadata in
      let old = g.D.Disk.state c.args.disk.now in
      let none : 0 ≡ c.args.count = omega (arith, c.if-count-eq0.true) in
      subst (λ n. HasUnmapped M.geometry M.stands M.marks c.args.id c.args.first n c.args.metadata.now old now kept) none
      (unmapped_nothing M.geometry M.stands M.marks c.args.id c.args.first c.args.metadata.now old now kept st);
  damaged = search rules;
  changing = λ now kept st.
      let M = g.M.Metadata in
      let old = g.D.Disk.state c.args.disk.now in
      changing_none (M.geometry c.args.metadata.now) kept old (g.met.M.Metadata.left c.args.metadata.now old now kept st);
  ran = ran_at_most (at_rest_ran (g.D.Disk.state c.args.disk.now)) (omega arith);
}

pub unmap_run-requires-clause-run : goal.unmap_run-requires-clause-run
unmap_run-requires-clause-run g c = omega (arith, c.new.ensures, c.requires.run)

pub unmap_run-requires-clause-room : goal.unmap_run-requires-clause-room
unmap_run-requires-clause-room g c = omega (arith, c.requires.room, c.requires.few)

pub returns-in_err-unmap_run-clause-altered : goal.returns-in_err-unmap_run-clause-altered
returns-in_err-unmap_run-clause-altered g c = record {
  made = search rules;
  damaged = λ e now kept st.
      let p = err_from_is_err_and c.from_residual.result c.from_residual.ensures.1 in
      c.in_err-unmap_run.ensures.altered.damaged (ap (λ (z : StoreError). Err z) (refusal_is c.from_residual.result p.0 c.in_err-unmap_run.field-0.0 Damaged p.1 p.2 e)) now kept st;
  changing = c.unmap_run.ensures.altered.changing;
  ran =
      let M = g.M.Metadata in
      let p = err_from_is_err_and c.from_residual.result c.from_residual.ensures.1 in
      subst (λ b. Ran 256 b (M.room c.args.metadata.now) (M.room c.unmap_run.new.self) (M.geometry c.args.metadata.now) (M.geometry c.unmap_run.new.self)
      (g.D.Disk.state c.args.disk.now) (g.D.Disk.state c.unmap_run.new.disk)) (sym (fault_is c.from_residual.result p.0 c.in_err-unmap_run.field-0.0 p.1 p.2))
      (ran_at_most c.in_err-unmap_run.ensures.altered.ran (omega (arith, c.requires.few)));
}

pub returns-clause-altered : goal.returns-clause-altered
returns-clause-altered g c = record {
  made = λ now kept st.
      let M = g.M.Metadata in
      let old = g.D.Disk.state c.args.disk.now in
      let new = g.D.Disk.state c.unmap_run.new.disk in
      subst (λ b. HasUnmapped M.geometry M.stands M.marks c.args.id b c.args.count c.unmap_run.new.self new now kept) c.new.ensures
      (unmapped_run M.geometry M.stands M.marks c.args.id c.new.result c.args.count c.args.metadata.now c.unmap_run.new.self old new now kept st (M.geometry c.args.metadata.now)
      (g.met.M.Metadata.within c.args.metadata.now old now kept st).volumes_now (c.in_ok-unmap_run.ensures.altered.made now kept st).0 (c.in_ok-unmap_run.ensures.none now kept st));
  damaged = search rules;
  changing = c.unmap_run.ensures.altered.changing;
  ran = ran_at_most c.in_ok-unmap_run.ensures.altered.ran (omega (arith, c.requires.few));
}

pub returns-clause-spare : goal.returns-clause-spare
returns-clause-spare g c = omega (arith, c.requires.room, c.requires.few, c.in_ok-unmap_run.ensures.altered.ran.room)
