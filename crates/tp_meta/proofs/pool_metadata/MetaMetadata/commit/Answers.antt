use Rattle.std.proofs.Common.{◌≤◌, ap, refl, replicate, rules, subst, sym, ◌∙◌, Bool, false, length}
use Rattle.std.specs.Prelude.{Result, Ok, Err, if◌then◌else◌, is_err, is_ok}
use Rattle.std.proofs.lemmas.Result.{err_from_is_err_and}
use Rattle.tp_disk.specs.declared.disk.Fault.{Fault}
use Rattle.tp_model.specs.Disk.{DiskState}
use Rattle.tp_tm.specs.Tm.{Tm, free_metadata, kept_now}
use Rattle.tp_mapping.proofs.Fresh.{more_free}
use Rattle.tp_meta.specs.Metadata.{RanWithFlushes}
use Rattle.tp_meta.specs.declared.whole.Meta.{Meta}
use Rattle.tp_meta.proofs.Committed.{flush_alone, is_committing, is_still, kept_next, kept_still, none_marked}
use Rattle.tp_meta.proofs.Kept.{flush_keeps, flushed_sees, still_flush}
use Rattle.tp_meta.proofs.pool_metadata.MetaMetadata.commit.Goals as goal

pub returns-in_err-flush : goal.returns-in_err-flush
returns-in_err-flush g c =
    let m = c.args.self.now in
    let old = g.D.Disk.state c.args.disk.now in
    let new = g.D.Disk.state c.flush.new.self in
    let p = err_from_is_err_and c.from_residual.result c.from_residual.ensures.1 in
    record {
      kept = search rules;
      marks = search rules;
      committing = λ now kept st spare.
          is_still m old now kept st new (still_flush m.last st.commit (is_ok c.flush.result) old new st.left c.flush.ensures) (flushed_sees (is_ok c.flush.result) old new c.flush.ensures);
      geometry = search rules;
      room = search rules;
      unchanged = search rules;
      ran = subst (λ (r : Result (Unit {0}) Fault). RanWithFlushes (if m.is_changed then 2 else 1) (if m.is_changed then 2 else 1) (is_err r) r old new) (sym p.1)
          (flush_alone {A = Unit {0}} {E = Fault} m.is_changed c.if-not-self.true (Err p.0) old new c.in_err-flush.ensures);
    }

pub returns-then-not-self : goal.returns-then-not-self
returns-then-not-self g c =
    let m = c.args.self.now in
    let old = g.D.Disk.state c.args.disk.now in
    let after = g.D.Disk.state c.flush.new.self in
    let sees = flushed_sees (is_ok c.flush.result) old after c.flush.ensures in
    record {
      kept = λ now kept st spare.
          let new : Meta = record m { marks = c.clear.new.self } in
          kept_still m old now kept st c.if-not-self.true new
          (record { mapping = refl; devices = refl; last = refl; transaction_id = refl; needs_check = refl; marks = c.clear.ensures; stale = refl })
          after (ap (λ (d : DiskState). d.is_honest) c.flush.ensures ∙ st.honest) sees (flush_keeps m.last st.commit old after st.left c.in_ok-flush.ensures);
      marks = none_marked m.mapping.tm.geometry.data_blocks (length m.marks) c.clear.new.self c.clear.ensures;
      committing = λ now kept st spare. is_still m old now kept st after (still_flush m.last st.commit (is_ok c.flush.result) old after st.left c.flush.ensures) sees;
      geometry = search rules;
      room = search rules;
      unchanged = search rules;
      ran = flush_alone {A = Unit {0}} {E = Fault} m.is_changed c.if-not-self.true (Ok tt) old after c.in_ok-flush.ensures;
    }

pub returns-in_err-commit_store : goal.returns-in_err-commit_store
returns-in_err-commit_store g c = record {
  kept = search rules;
  marks = search rules;
  committing = λ now kept st spare.
      is_committing c.args.self.now (g.D.Disk.state c.args.disk.now) now kept st c.next_superblock-next.ensures.sized spare c.store_mut.result.now c.deref_mut.result.now
      c.next_superblock-next.result c.store_mut.ensures.value c.deref_mut.ensures.value
      c.next_superblock-next.ensures.value (g.D.Disk.state c.commit_store.new.disk) c.commit_store.ensures.any_moment c.commit_store.ensures.same_data;
  geometry = search rules;
  room = search rules;
  unchanged = search rules;
  ran = search rules;
}

pub returns : goal.returns
returns g c = record {
  kept = λ now kept st spare.
      let m = c.args.self.now in
      let done = c.in_ok-commit_store.ensures in
      let new : Meta = record m {
        mapping = record { tm = c.commit_store.new.tm; root = m.mapping.root };
        last = c.next_superblock-next.result;
        marks = c.clear-2.new.self;
        is_changed = false;
        stale = record m.stale { value = c.commit_store.new.stale };
      } in
      kept_next m (g.D.Disk.state c.args.disk.now) now kept st c.next_superblock-next.ensures.sized spare c.store_mut.result.now c.deref_mut.result.now
      c.next_superblock-next.result c.store_mut.ensures.value c.deref_mut.ensures.value
      c.next_superblock-next.ensures.value (g.D.Disk.state c.commit_store.new.disk) new
      (record {
        tm = done.kept ∙ ap kept_now c.store_mut.ensures.value;
        root = refl;
        devices = refl;
        last = c.next_superblock-next.ensures.value;
        transaction_id = refl;
        needs_check = refl;
        marks = c.clear-2.ensures;
      }) (c.commit_store.ensures.ran.same_disk.is_honest ∙ st.honest) done.stored done.holds done.current;
  marks = none_marked c.commit_store.new.tm.geometry.data_blocks (length c.args.self.now.marks) c.clear-2.new.self c.clear-2.ensures
      ∙ ap (λ (t : Tm). replicate {A = Bool} t.geometry.data_blocks false) (c.in_ok-commit_store.ensures.kept ∙ ap kept_now c.store_mut.ensures.value);
  committing = λ now kept st spare.
      is_committing c.args.self.now (g.D.Disk.state c.args.disk.now) now kept st c.next_superblock-next.ensures.sized spare c.store_mut.result.now c.deref_mut.result.now
      c.next_superblock-next.result c.store_mut.ensures.value c.deref_mut.ensures.value
      c.next_superblock-next.ensures.value (g.D.Disk.state c.commit_store.new.disk) c.commit_store.ensures.any_moment c.commit_store.ensures.same_data;
  geometry = search rules;
  room =
      let t = c.args.self.now.mapping.tm in
      subst (λ (u : Tm). free_metadata t ≤ free_metadata u) (sym (c.in_ok-commit_store.ensures.kept ∙ ap kept_now c.store_mut.ensures.value))
      (more_free t.geometry.metadata_blocks t.metadata_now t.metadata_kept);
  unchanged = search rules;
  ran = search rules;
}
