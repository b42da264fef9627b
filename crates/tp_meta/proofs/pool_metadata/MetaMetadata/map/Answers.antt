use Rattle.std.proofs.Common.{rules, ◌≡◌, ◌+◌, ◌≤◌, arith, ℕ, true, Option, Err, ap, length, refl, sym, subst, ◌∙◌}
use Rattle.std.specs.Prelude.{IsTrue, MatchOption, not}
use Rattle.tp_counts.specs.declared.error.StoreError.TheVariants.{Damaged}
use Rattle.tp_counts.specs.StoreErrors.{is_fault}
use Rattle.tp_model.specs.Disk.{DiskState}
use Rattle.tp_sharing.specs.Volumes.{slot_of, with_place, with_slot}
use Rattle.tp_tm.specs.Tm.{Tm, used_metadata}
use Rattle.tp_tm.proofs.Keeping.{joins_kept, read_kept, starts_kept}
use Rattle.tp_mapping.specs.Mapping.{IsLeastFree, NoneIsFree}
use Rattle.tp_mapping.specs.Trees.{StandForVolumes}
use Rattle.tp_meta.specs.Metadata.{marked}
use Rattle.tp_meta.specs.declared.whole.Meta.{Meta}
use Rattle.tp_meta.proofs.Altered.{altered, altered_marks, is_changing, lost_is, tracked_slot}
use Rattle.tp_meta.proofs.Numbered.{slots_numbered}
use Rattle.tp_meta.proofs.pool_metadata.MetaMetadata.map.Goals as goal

pub returns-in_err-lost-clause-altered : goal.returns-in_err-lost-clause-altered
returns-in_err-lost-clause-altered g c = record {
  made = search rules;
  damaged = λ e now kept st some below.
      let f : c.look_up.result ≡ Err Damaged = search (rules, e) in c.look_up.ensures.looked.damaged f st.honest now.volumes kept.volumes st.mapping;
  changing = λ now kept st.
      let m = c.args.self.now in
      let disk = g.D.Disk.state c.args.disk.now in
      is_changing m disk now kept st (g.D.Disk.state c.look_up.new.disk)
      (read_kept (not (is_fault c.look_up.result)) (starts_kept m.mapping.tm.metadata_kept disk) c.look_up.ensures.looked.state);
  ran = search rules;
}

pub returns-in_err-place-clause-altered : goal.returns-in_err-place-clause-altered
returns-in_err-place-clause-altered g c = record {
  made = search rules;
  damaged = λ e now kept st some below.
      let stays = sym c.in_ok-lost.ensures.looked.state in
      let f : c.map.result ≡ Err Damaged = search (rules, e) in
      c.map.ensures.changed.damaged f (subst (λ (z : DiskState). IsTrue z.is_honest) stays st.honest) now.volumes kept.volumes
      (subst (λ (z : DiskState). StandForVolumes c.args.self.now.mapping z now.volumes kept.volumes) stays st.mapping) some below;
  changing = λ now kept st.
      let m = c.args.self.now in
      let disk = g.D.Disk.state c.args.disk.now in
      let read = read_kept (not (is_fault c.look_up.result)) (starts_kept m.mapping.tm.metadata_kept disk) c.look_up.ensures.looked.state in
      is_changing m disk now kept st (g.D.Disk.state c.map.new.disk) (joins_kept read c.map.ensures.changed.ran.any_moment);
  ran = search rules;
}

pub returns-in_default-clause-altered : goal.returns-in_default-clause-altered
returns-in_default-clause-altered g c = record {
  made = λ now kept st some below.
      let m = c.args.self.now in
      let stays = sym c.in_ok-lost.ensures.looked.state in
      let sizes = m.mapping.tm.geometry in
      subst
      (λ (o : Option ℕ). MatchOption o (NoneIsFree sizes now.volumes kept.volumes) (λ place. IsLeastFree sizes now.volumes kept.volumes place
      × StandForVolumes c.map.new.self (g.D.Disk.state c.map.new.disk)
      (with_slot c.args.device (record { block = c.args.block; place = place }) now.volumes) kept.volumes))
      c.in_default.is
      (c.in_ok-place.ensures.changed.made (subst (λ (z : DiskState). IsTrue z.is_honest) stays st.honest) now.volumes kept.volumes
      (subst (λ (z : DiskState). StandForVolumes m.mapping z now.volumes kept.volumes) stays st.mapping) some below);
  damaged = search rules;
  changing = λ now kept st.
      let m = c.args.self.now in
      let disk = g.D.Disk.state c.args.disk.now in
      let read = read_kept (not (is_fault c.look_up.result)) (starts_kept m.mapping.tm.metadata_kept disk) c.look_up.ensures.looked.state in
      is_changing m disk now kept st (g.D.Disk.state c.map.new.disk) (joins_kept read c.map.ensures.changed.ran.any_moment);
  ran = search rules;
}

pub returns-clause-altered : goal.returns-clause-altered
returns-clause-altered g c = record {
  made = λ now kept st some below.
      let m = c.args.self.now in
      let disk = g.D.Disk.state c.args.disk.now in
      let after = g.D.Disk.state c.map.new.disk in
      let sizes = m.mapping.tm.geometry in
      let device = c.args.device in
      let block = c.args.block in
      let was = slot_of device block now.volumes in
      let volumes = with_slot device (record { block = block; place = c.in-Some.place }) now.volumes in
      let ran = c.map.ensures.changed.ran in
      let stays = sym c.in_ok-lost.ensures.looked.state in
      let honest = subst (λ (z : DiskState). IsTrue z.is_honest) stays st.honest in
      let given =
      subst
      (λ (o : Option ℕ). MatchOption o (NoneIsFree sizes now.volumes kept.volumes) (λ place. IsLeastFree sizes now.volumes kept.volumes place
      × StandForVolumes c.map.new.self after (with_slot device (record { block = block; place = place }) now.volumes) kept.volumes))
      c.in-Some.is
      (c.in_ok-place.ensures.changed.made honest now.volumes kept.volumes
      (subst (λ (z : DiskState). StandForVolumes m.mapping z now.volumes kept.volumes) stays st.mapping) some below) in
      let lost = lost_is device block now.volumes c.in_ok-lost.lost (c.in_ok-lost.ensures.looked.told st.honest now.volumes kept.volumes st.mapping) in
      let marks : c.lose.new.marks ≡ marked was m.marks = c.lose.ensures ∙ ap (λ (o : Option ℕ). marked o m.marks) lost in
      let new : Meta = record m { mapping = c.map.new.self; marks = c.lose.new.marks; is_changed = true } in
      let read = read_kept (not (is_fault c.look_up.result)) (starts_kept m.mapping.tm.metadata_kept disk) c.look_up.ensures.looked.state in
      let stands =
      altered m disk now kept st new after volumes was given.1 c.map.ensures.changed.same_held
      (slots_numbered m.devices device (with_place (record { block = block; place = c.in-Some.place })) now.volumes st.numbered) (ran.same_disk.is_honest ∙ honest) ran.geometry ran.counts_kept c.map.ensures.changed.same_kept refl
      (joins_kept read ran.any_moment) refl refl refl refl marks
      (tracked_slot m disk now kept st device block c.in-Some.place)
      (ap (λ (t : Tm). length t.metadata_now) (sym c.store.ensures) ∙ c.geometry.ensures.sized.metadata_now ∙ ap (λ (t : Tm). t.geometry.metadata_blocks) c.store.ensures) in (
        given.0,
        (
          (used_metadata new.mapping.tm, stands),
          altered_marks m disk now kept st new after (record now { volumes = volumes; meta_used = used_metadata new.mapping.tm }) was stands marks,
        ),
      );
  damaged = search rules;
  changing = λ now kept st.
      let m = c.args.self.now in
      let disk = g.D.Disk.state c.args.disk.now in
      let read = read_kept (not (is_fault c.look_up.result)) (starts_kept m.mapping.tm.metadata_kept disk) c.look_up.ensures.looked.state in
      is_changing m disk now kept st (g.D.Disk.state c.map.new.disk) (joins_kept read c.map.ensures.changed.ran.any_moment);
  ran = search rules;
}

pub returns-in_err-lost-clause-used : goal.returns-in_err-lost-clause-used
returns-in_err-lost-clause-used g c now kept next last st then = omega (arith, st.meta_used, then.meta_used)

pub returns-in_err-place-clause-used : goal.returns-in_err-place-clause-used
returns-in_err-place-clause-used g c now kept next last st then =
    let more : used_metadata c.map.new.self.tm ≤ used_metadata c.args.self.now.mapping.tm + 16 = c.map.ensures.used in
    omega (arith, st.meta_used, then.meta_used, more)

pub returns-in_default-clause-used : goal.returns-in_default-clause-used
returns-in_default-clause-used g c now kept next last st then =
    let more : used_metadata c.map.new.self.tm ≤ used_metadata c.args.self.now.mapping.tm + 16 = c.map.ensures.used in
    omega (arith, st.meta_used, then.meta_used, more)

pub returns-clause-used : goal.returns-clause-used
returns-clause-used g c now kept next last st then =
    let more : used_metadata c.map.new.self.tm ≤ used_metadata c.args.self.now.mapping.tm + 16 = c.map.ensures.used in
    omega (arith, st.meta_used, then.meta_used, more)
