use Rattle.std.proofs.Common.{rules, ◌≡◌, ◌+◌, ◌*◌, ◌<◌, ◌≤◌, ℕ, true, None, Err, ap, length, refl, sym, subst, ◌∙◌, arith}
use Rattle.std.specs.Prelude.{IsTrue, is_some, not, slice_index_or}
use Rattle.std.proofs.lemmas.Bool.{false≢true}
use Rattle.tp_counts.specs.declared.error.StoreError.TheVariants.{Damaged}
use Rattle.tp_counts.specs.StoreErrors.{is_fault}
use Rattle.tp_model.specs.Disk.{DiskState}
use Rattle.tp_sharing.specs.Volumes.{Volumes, device_of, slot_of}
use Rattle.tp_tm.specs.Tm.{Tm, used_metadata}
use Rattle.tp_tm.proofs.Keeping.{joins_kept, read_kept, starts_kept}
use Rattle.tp_mapping.specs.Runs.{without_run}
use Rattle.tp_mapping.specs.Trees.{StandForVolumes}
use Rattle.tp_mapping.proofs.WithoutRuns.{run_idle}
use Rattle.tp_meta.specs.Marking.{marked_places}
use Rattle.tp_meta.specs.Metadata.{marked_run}
use Rattle.tp_meta.specs.Standing.{StandsFor, marks_of}
use Rattle.tp_meta.specs.declared.whole.Meta.{Meta}
use Rattle.tp_meta.proofs.Altered.{altered_to, is_changing, length-marked_run, marks_without_run, tracked_run}
use Rattle.tp_meta.proofs.Numbered.{run_numbered}
use Rattle.tp_meta.proofs.Unmapping.{device_some, lost_none, lost_some, marks_idle, marks_told}
use Rattle.tp_meta.proofs.pool_metadata.MetaMetadata.unmap_run.Goals as goal

pub returns-in_err-look_up_run-clause-altered : goal.returns-in_err-look_up_run-clause-altered
returns-in_err-look_up_run-clause-altered g c = record {
  made = search rules;
  damaged = λ e now kept st.
      let f : c.look_up_run.result ≡ Err Damaged = search (rules, e) in c.look_up_run.ensures.looked.damaged f st.honest now.volumes kept.volumes st.mapping;
  changing = λ now kept st.
      let m = c.args.self.now in
      let disk = g.D.Disk.state c.args.disk.now in
      is_changing m disk now kept st (g.D.Disk.state c.look_up_run.new.disk)
      (read_kept (not (is_fault c.look_up_run.result)) (starts_kept m.mapping.tm.metadata_kept disk) c.look_up_run.ensures.looked.state);
  ran = search rules;
}

pub returns-then-not-has_some-clause-altered : goal.returns-then-not-has_some-clause-altered
returns-then-not-has_some-clause-altered g c = record {
  made = λ now kept st.
      let m = c.args.self.now in
      let id = c.args.device in
      let first = c.args.first in
      let n = c.args.count in
      let after = g.D.Disk.state c.look_up_run.new.disk in
      let none : (i : ℕ) → i < n → slot_of id (first + i) now.volumes ≡ None =
      λ i lt.
      lost_none id (first + i) now.volumes (slice_index_or c.look_up_run.new.places i None)
      ((c.in_ok-look_up_run.ensures.looked.told st.honest now.volumes kept.volumes st.mapping).1 i (omega (arith, lt, c.requires.few)))
      (ap is_some (c.if-not-has_some.ensures.none refl i (omega (arith, lt, c.requires.few, c.look_up_run.ensures.length)))) in
      let still : StandsFor m after now kept = subst (λ (z : DiskState). StandsFor m z now kept) (sym c.in_ok-look_up_run.ensures.looked.state) st in (
        (now.meta_used, subst (λ (v : Volumes). StandsFor m after (record now { volumes = v }) kept) (sym (run_idle id first n now.volumes none)) still),
        sym (marks_idle id first n now.volumes (marks_of m) none),
      );
  damaged = search rules;
  changing = λ now kept st.
      let m = c.args.self.now in
      let disk = g.D.Disk.state c.args.disk.now in
      is_changing m disk now kept st (g.D.Disk.state c.look_up_run.new.disk)
      (read_kept (not (is_fault c.look_up_run.result)) (starts_kept m.mapping.tm.metadata_kept disk) c.look_up_run.ensures.looked.state);
  ran = search rules;
}

pub returns-in_err-unmap_run-clause-altered : goal.returns-in_err-unmap_run-clause-altered
returns-in_err-unmap_run-clause-altered g c = record {
  made = search rules;
  damaged = λ e now kept st.
      let stays = sym c.in_ok-look_up_run.ensures.looked.state in
      let found = c.if-not-has_some.ensures.some refl in
      let i = found.0 in
      let some = lost_some c.args.device (c.args.first + i) now.volumes (slice_index_or c.look_up_run.new.places i None)
      ((c.in_ok-look_up_run.ensures.looked.told st.honest now.volumes kept.volumes st.mapping).1 i (omega (arith, found.1, c.look_up_run.ensures.length))) found.2 in
      let f : c.unmap_run.result ≡ Err Damaged = search (rules, e) in
      c.unmap_run.ensures.changed.damaged f (subst (λ (z : DiskState). IsTrue z.is_honest) stays st.honest) now.volumes kept.volumes
      (subst (λ (z : DiskState). StandForVolumes c.args.self.now.mapping z now.volumes kept.volumes) stays st.mapping) (device_some (c.args.first + i) (device_of c.args.device now.volumes) some);
  changing = λ now kept st.
      let m = c.args.self.now in
      let disk = g.D.Disk.state c.args.disk.now in
      let read = read_kept (not (is_fault c.look_up_run.result)) (starts_kept m.mapping.tm.metadata_kept disk) c.look_up_run.ensures.looked.state in
      is_changing m disk now kept st (g.D.Disk.state c.unmap_run.new.disk) (joins_kept read c.unmap_run.ensures.changed.ran.any_moment);
  ran = search rules;
}

pub returns-clause-altered : goal.returns-clause-altered
returns-clause-altered g c = record {
  made = λ now kept st.
      let m = c.args.self.now in
      let disk = g.D.Disk.state c.args.disk.now in
      let after = g.D.Disk.state c.unmap_run.new.disk in
      let id = c.args.device in
      let first = c.args.first in
      let n = c.args.count in
      let places = c.look_up_run.new.places in
      let volumes = without_run id first n now.volumes in
      let lost = marked_run id first n now.volumes m.marks in
      let ran = c.unmap_run.ensures.changed.ran in
      let stays = sym c.in_ok-look_up_run.ensures.looked.state in
      let honest = subst (λ (z : DiskState). IsTrue z.is_honest) stays st.honest in
      let each = (c.in_ok-look_up_run.ensures.looked.told st.honest now.volumes kept.volumes st.mapping).1 in
      let found = c.if-not-has_some.ensures.some refl in
      let some = lost_some id (first + found.0) now.volumes (slice_index_or places found.0 None) (each found.0 (omega (arith, found.1, c.look_up_run.ensures.length))) found.2 in
      let taken = c.in_ok-unmap_run.ensures.changed.made honest now.volumes kept.volumes
      (subst (λ (z : DiskState). StandForVolumes m.mapping z now.volumes kept.volumes) stays st.mapping) (device_some (first + found.0) (device_of id now.volumes) some) in
      let long : length places ≡ n = omega (arith, c.look_up_run.ensures.length, c.requires.few) in
      let marks : c.lose_each.new.marks ≡ lost =
      c.lose_each.ensures ∙ (ap (λ k. marked_places k places m.marks) long
      ∙ marks_told id first n now.volumes places m.marks (λ i lt. each i (omega (arith, lt, c.requires.few)))) in
      let new : Meta = record m { mapping = c.unmap_run.new.self; marks = c.lose_each.new.marks; is_changed = true } in
      let read = read_kept (not (is_fault c.look_up_run.result)) (starts_kept m.mapping.tm.metadata_kept disk) c.look_up_run.ensures.looked.state in
      let stands =
      altered_to m disk now kept st new after volumes lost taken c.unmap_run.ensures.changed.same_held (run_numbered m.devices id first n now.volumes st.numbered) (ran.same_disk.is_honest ∙ honest) ran.geometry ran.counts_kept c.unmap_run.ensures.changed.same_kept refl
      (joins_kept read ran.any_moment) refl refl refl refl marks (length-marked_run id first n now.volumes m.marks)
      (tracked_run m disk now kept st id first n)
      (ap (λ (t : Tm). length t.metadata_now) (sym c.store.ensures) ∙ c.geometry.ensures.sized.metadata_now ∙ ap (λ (t : Tm). t.geometry.metadata_blocks) c.store.ensures) in (
        (used_metadata new.mapping.tm, stands),
        marks_without_run m disk now kept st new after (record now { volumes = volumes; meta_used = used_metadata new.mapping.tm }) id first n stands marks,
      );
  damaged = search rules;
  changing = λ now kept st.
      let m = c.args.self.now in
      let disk = g.D.Disk.state c.args.disk.now in
      let read = read_kept (not (is_fault c.look_up_run.result)) (starts_kept m.mapping.tm.metadata_kept disk) c.look_up_run.ensures.looked.state in
      is_changing m disk now kept st (g.D.Disk.state c.unmap_run.new.disk) (joins_kept read c.unmap_run.ensures.changed.ran.any_moment);
  ran = search rules;
}

pub returns-clause-none : goal.returns-clause-none
returns-clause-none g c now kept st none =
    let found = c.if-not-has_some.ensures.some refl in
    let i = found.0 in
    let some = lost_some c.args.device (c.args.first + i) now.volumes (slice_index_or c.look_up_run.new.places i None)
    ((c.in_ok-look_up_run.ensures.looked.told st.honest now.volumes kept.volumes st.mapping).1 i (omega (arith, found.1, c.look_up_run.ensures.length))) found.2 in
    absurd (false≢true (sym (ap is_some (none i (omega (arith, found.1, c.look_up_run.ensures.length, c.requires.few)))) ∙ some))

pub returns-in_err-look_up_run-clause-used : goal.returns-in_err-look_up_run-clause-used
returns-in_err-look_up_run-clause-used g c now kept next last st then = omega (arith, st.meta_used, then.meta_used)

pub returns-then-not-has_some-clause-used : goal.returns-then-not-has_some-clause-used
returns-then-not-has_some-clause-used g c now kept next last st then = omega (arith, st.meta_used, then.meta_used)

pub returns-in_err-unmap_run-clause-used : goal.returns-in_err-unmap_run-clause-used
returns-in_err-unmap_run-clause-used g c now kept next last st then =
    let more : used_metadata c.unmap_run.new.self.tm ≤ used_metadata c.args.self.now.mapping.tm + (7 * c.args.count + 7) = c.unmap_run.ensures.used in
    omega (arith, st.meta_used, then.meta_used, more)

pub returns-clause-used : goal.returns-clause-used
returns-clause-used g c now kept next last st then =
    let more : used_metadata c.unmap_run.new.self.tm ≤ used_metadata c.args.self.now.mapping.tm + (7 * c.args.count + 7) = c.unmap_run.ensures.used in
    omega (arith, st.meta_used, then.meta_used, more)
