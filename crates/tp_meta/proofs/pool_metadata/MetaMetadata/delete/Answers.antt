use Rattle.std.proofs.Common.{rules, ◌≡◌, ◌+◌, ◌≤◌, ◌∙◌, Err, ap, arith, length, refl, subst, sym, true}
use Rattle.std.specs.Prelude.{IsTrue, not}
use Rattle.std.proofs.lemmas.Result.{err_from_is_err_and}
use Rattle.tp_counts.specs.declared.error.StoreError.TheVariants.{Damaged}
use Rattle.tp_counts.specs.StoreErrors.{is_fault}
use Rattle.tp_counts.proofs.Refusing.{fault_is}
use Rattle.tp_model.specs.Disk.{DiskState}
use Rattle.tp_sharing.specs.Volumes.{devices_in, without_device}
use Rattle.tp_tm.specs.Tm.{Tm, free_metadata, used_metadata}
use Rattle.tp_tm.proofs.Keeping.{joins_kept, read_kept, starts_kept}
use Rattle.tp_mapping.specs.Mapping.{slots_of}
use Rattle.tp_mapping.specs.Trees.{StandForVolumes}
use Rattle.tp_meta.specs.Metadata.{Ran, marked_all}
use Rattle.tp_meta.specs.declared.whole.Meta.{Meta}
use Rattle.tp_meta.proofs.Altered.{altered_to, as_many_marks, few_more, is_changing, marks_without, tracked_without_device}
use Rattle.tp_meta.proofs.Numbered.{one_more_than}
use Rattle.tp_meta.proofs.Times.{ran_behind}
use Rattle.tp_meta.proofs.pool_metadata.MetaMetadata.delete.Goals as goal

pub returns-in_err-mark_device : goal.returns-in_err-mark_device
returns-in_err-mark_device g c = record {
  made = search rules;
  damaged = λ e now kept st there.
      let f : c.mark_device.result ≡ Err Damaged = search (rules, e) in c.mark_device.ensures.damaged f st.honest now.volumes kept.volumes st.mapping;
  changing = λ now kept st.
      let m = c.args.self.now in
      let disk = g.D.Disk.state c.args.disk.now in
      is_changing m disk now kept st (g.D.Disk.state c.mark_device.new.disk)
      (read_kept (not (is_fault c.mark_device.result)) (starts_kept m.mapping.tm.metadata_kept disk) c.mark_device.ensures.state);
  ran = search rules;
}

pub returns-in_err-delete : goal.returns-in_err-delete
returns-in_err-delete g c = record {
  made = search rules;
  damaged = λ e now kept st there.
      let stays = sym c.in_ok-mark_device.ensures.state in
      let f : c.delete.result ≡ Err Damaged = search (rules, e) in
      c.delete.ensures.damaged f (subst (λ (z : DiskState). IsTrue z.is_honest) stays st.honest) now.volumes kept.volumes
      (subst (λ (z : DiskState). StandForVolumes c.args.self.now.mapping z now.volumes kept.volumes) stays st.mapping) there;
  changing = λ now kept st.
      let m = c.args.self.now in
      let disk = g.D.Disk.state c.args.disk.now in
      let read = read_kept (not (is_fault c.mark_device.result)) (starts_kept m.mapping.tm.metadata_kept disk) c.mark_device.ensures.state in
      is_changing m disk now kept st (g.D.Disk.state c.delete.new.disk) (joins_kept read c.delete.ensures.ran.any_moment);
  ran =
      let p = err_from_is_err_and c.from_residual-in_err-delete.result c.from_residual-in_err-delete.ensures.1 in
      let t = c.args.self.now.mapping.tm in
      let u = c.delete.new.self.tm in
      subst (λ b. Ran 16 b (free_metadata t) (free_metadata u) t.geometry u.geometry (g.D.Disk.state c.args.disk.now) (g.D.Disk.state c.delete.new.disk))
      (sym (fault_is c.from_residual-in_err-delete.result p.0 c.in_err-delete.field-0.0 p.1 p.2)) (ran_behind c.in_ok-mark_device.ensures.state c.in_err-delete.ensures.ran);
}

pub returns : goal.returns
returns g c = record {
  made = λ now kept st there.
      let m = c.args.self.now in
      let disk = g.D.Disk.state c.args.disk.now in
      let after = g.D.Disk.state c.delete.new.disk in
      let device = c.args.device in
      let lost = slots_of device now.volumes in
      let volumes = without_device device now.volumes in
      let ran = c.delete.ensures.ran in
      let stays = sym c.in_ok-mark_device.ensures.state in
      let honest = subst (λ (z : DiskState). IsTrue z.is_honest) stays st.honest in
      let mapping = subst (λ (z : DiskState). StandForVolumes m.mapping z now.volumes kept.volumes) stays st.mapping in
      let marks : c.mark_device.new.marks ≡ marked_all lost m.marks =
      c.in_ok-mark_device.ensures.told st.honest now.volumes kept.volumes st.mapping in
      let new : Meta = record m { mapping = c.delete.new.self; devices = c.one_fewer-self.result; marks = c.mark_device.new.marks; is_changed = true } in
      let done = c.in_ok-delete.ensures.made honest now.volumes kept.volumes mapping there in
      let none : now.held_root ≡ 0 → used_metadata new.mapping.tm ≤ now.meta_used = λ unheld. let few = done.1 (st.held_root ∙ unheld) in omega (arith, st.meta_used, few) in
      let more : used_metadata new.mapping.tm ≤ used_metadata m.mapping.tm + 16 = c.delete.ensures.used in
      let most : used_metadata new.mapping.tm ≤ now.meta_used + 16 = omega (arith, st.meta_used, more) in
      let used = few_more now.held_root 16 now.meta_used (used_metadata new.mapping.tm) none most in
      let read = read_kept (not (is_fault c.mark_device.result)) (starts_kept m.mapping.tm.metadata_kept disk) c.mark_device.ensures.state in
      let stands =
      altered_to m disk now kept st new after volumes (marked_all lost m.marks)
      done.0 c.delete.ensures.same_held (c.one_fewer-self.ensures (devices_in volumes) (one_more_than m.devices device now.volumes c.number.ensures.below there st.numbered))
      (ran.same_disk.is_honest ∙ honest) ran.geometry ran.counts_kept c.delete.ensures.same_kept refl
      (joins_kept read ran.any_moment) refl refl refl refl marks (as_many_marks m disk now kept st lost)
      (tracked_without_device m disk now kept st device)
      (ap (λ (t : Tm). length t.metadata_now) (sym c.store.ensures) ∙ c.geometry.ensures.sized.metadata_now ∙ ap (λ (t : Tm). t.geometry.metadata_blocks) c.store.ensures) in (
        (used_metadata new.mapping.tm, used, stands),
        marks_without m disk now kept st new after (record now { volumes = volumes; meta_used = used_metadata new.mapping.tm }) lost stands marks,
      );
  damaged = search rules;
  changing = λ now kept st.
      let m = c.args.self.now in
      let disk = g.D.Disk.state c.args.disk.now in
      let read = read_kept (not (is_fault c.mark_device.result)) (starts_kept m.mapping.tm.metadata_kept disk) c.mark_device.ensures.state in
      is_changing m disk now kept st (g.D.Disk.state c.delete.new.disk) (joins_kept read c.delete.ensures.ran.any_moment);
  ran = search rules;
}
