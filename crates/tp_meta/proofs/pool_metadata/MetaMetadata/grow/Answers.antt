use Rattle.std.proofs.Common.{rules, ◌≡◌, ◌+◌, ◌≤◌, ◌∙◌, arith, ap, length, sym, true, Err, None, refl}
use Rattle.tp_counts.specs.declared.error.StoreError.TheVariants.{Damaged}
use Rattle.tp_sharing.specs.Volumes.{resized}
use Rattle.tp_tm.specs.Tm.{Tm, used_metadata}
use Rattle.tp_mapping.specs.Mapping.{size_for}
use Rattle.tp_meta.specs.declared.whole.Meta.{Meta}
use Rattle.tp_meta.proofs.Altered.{altered, altered_marks, is_changing, tracked_resized}
use Rattle.tp_meta.proofs.Numbered.{resized_numbered}
use Rattle.tp_meta.proofs.pool_metadata.MetaMetadata.grow.Goals as goal

pub returns-in_err-grow-clause-altered : goal.returns-in_err-grow-clause-altered
returns-in_err-grow-clause-altered g c = record {
  made = search rules;
  damaged = λ e now kept st there may more.
      let f : c.grow.result ≡ Err Damaged = search (rules, e) in c.grow.ensures.damaged f st.honest now.volumes kept.volumes st.mapping there may more;
  changing = λ now kept st.
      is_changing c.args.self.now (g.D.Disk.state c.args.disk.now) now kept st (g.D.Disk.state c.grow.new.disk) c.grow.ensures.ran.any_moment;
  ran = search rules;
}

pub returns-clause-altered : goal.returns-clause-altered
returns-clause-altered g c = record {
  made = λ now kept st there may more.
      let m = c.args.self.now in
      let disk = g.D.Disk.state c.args.disk.now in
      let after = g.D.Disk.state c.grow.new.disk in
      let ran = c.grow.ensures.ran in
      let new : Meta = record m { mapping = c.grow.new.self; is_changed = true } in
      let size = size_for m.mapping.tm.geometry c.args.blocks in
      let volumes = resized c.args.device size now.volumes in
      let stands = altered m disk now kept st new after volumes None
      (c.in_ok-grow.ensures.made st.honest now.volumes kept.volumes st.mapping there may more).0
      c.grow.ensures.same_held
      (resized_numbered m.devices c.args.device size now.volumes st.numbered)
      (ran.same_disk.is_honest ∙ st.honest) ran.geometry ran.counts_kept c.grow.ensures.same_kept refl
      ran.any_moment refl refl refl refl refl (tracked_resized m disk now kept st c.args.device size)
      (ap (λ (t : Tm). length t.metadata_now) (sym c.store.ensures) ∙ c.geometry.ensures.sized.metadata_now ∙ ap (λ (t : Tm). t.geometry.metadata_blocks) c.store.ensures) in (
        (used_metadata new.mapping.tm, stands),
        altered_marks m disk now kept st new after
            (record now { volumes = volumes; meta_used = used_metadata new.mapping.tm }) None stands refl,
      );
  damaged = search rules;
  changing = λ now kept st.
      is_changing c.args.self.now (g.D.Disk.state c.args.disk.now) now kept st (g.D.Disk.state c.grow.new.disk) c.grow.ensures.ran.any_moment;
  ran = search rules;
}

pub returns-clause-used : goal.returns-clause-used
returns-clause-used g c now kept next last st then there may more unheld =
    let few : used_metadata c.grow.new.self.tm ≤ used_metadata c.args.self.now.mapping.tm + 1 = (c.in_ok-grow.ensures.made st.honest now.volumes kept.volumes st.mapping there may more).1 (st.held_root ∙ unheld) in
    omega (arith, st.meta_used, then.meta_used, few)
