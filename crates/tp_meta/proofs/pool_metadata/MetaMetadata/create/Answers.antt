use Rattle.std.proofs.Common.{rules, ◌≡◌, ◌+◌, ◌≤◌, ◌∙◌, arith, ap, length, sym, [], true, Err, None, refl}
use Rattle.tp_counts.specs.declared.error.StoreError.TheVariants.{Damaged}
use Rattle.tp_sharing.specs.Volumes.{DeviceSlots, devices_in, with_device}
use Rattle.tp_tm.specs.Tm.{Tm, used_metadata}
use Rattle.tp_meta.specs.declared.whole.Meta.{Meta}
use Rattle.tp_meta.proofs.Altered.{altered, altered_marks, is_changing, tracked_device}
use Rattle.tp_meta.proofs.Numbered.{added_numbered}
use Rattle.tp_meta.proofs.pool_metadata.MetaMetadata.create.Goals as goal

pub returns-in_err-create-clause-altered : goal.returns-in_err-create-clause-altered
returns-in_err-create-clause-altered g c = record {
  made = search rules;
  damaged = λ e now kept st none few.
      let f : c.create.result ≡ Err Damaged = search (rules, e) in c.create.ensures.changed.damaged f st.honest now.volumes kept.volumes st.mapping none few;
  changing = λ now kept st.
      is_changing c.args.self.now (g.D.Disk.state c.args.disk.now) now kept st (g.D.Disk.state c.create.new.disk) c.create.ensures.changed.ran.any_moment;
  ran = search rules;
}

pub returns-clause-altered : goal.returns-clause-altered
returns-clause-altered g c = record {
  made = λ now kept st none few.
      let m = c.args.self.now in
      let disk = g.D.Disk.state c.args.disk.now in
      let after = g.D.Disk.state c.create.new.disk in
      let ran = c.create.ensures.changed.ran in
      let new : Meta = record m { mapping = c.create.new.self; devices = c.one_more-self.result; is_changed = true } in
      let x : DeviceSlots = record { id = c.args.device; size = 0; slots = [] } in
      let volumes = with_device x now.volumes in
      let stands = altered m disk now kept st new after volumes None
      (c.in_ok-create.ensures.changed.made st.honest now.volumes kept.volumes st.mapping none few)
      c.create.ensures.changed.same_held
      (added_numbered c.one_more-self.result x now.volumes c.number.ensures.below none (c.one_more-self.ensures (devices_in now.volumes) st.numbered))
      (ran.same_disk.is_honest ∙ st.honest) ran.geometry ran.counts_kept c.create.ensures.changed.same_kept refl
      ran.any_moment refl refl refl refl refl (tracked_device m disk now kept st x none) (ap (λ (t : Tm). length t.metadata_now) (sym c.store.ensures) ∙ c.geometry.ensures.sized.metadata_now ∙ ap (λ (t : Tm). t.geometry.metadata_blocks) c.store.ensures) in (
        (used_metadata new.mapping.tm, stands),
        altered_marks m disk now kept st new after
            (record now { volumes = volumes; meta_used = used_metadata new.mapping.tm }) None stands refl,
      );
  damaged = search rules;
  changing = λ now kept st.
      is_changing c.args.self.now (g.D.Disk.state c.args.disk.now) now kept st (g.D.Disk.state c.create.new.disk) c.create.ensures.changed.ran.any_moment;
  ran = search rules;
}

pub returns-in_err-create-clause-used : goal.returns-in_err-create-clause-used
returns-in_err-create-clause-used g c now kept next last st then =
    let more : used_metadata c.create.new.self.tm ≤ used_metadata c.args.self.now.mapping.tm + 8 = c.create.ensures.used in
    omega (arith, st.meta_used, then.meta_used, more)

pub returns-clause-used : goal.returns-clause-used
returns-clause-used g c now kept next last st then =
    let more : used_metadata c.create.new.self.tm ≤ used_metadata c.args.self.now.mapping.tm + 8 = c.create.ensures.used in
    omega (arith, st.meta_used, then.meta_used, more)
