use Rattle.std.proofs.Common.{rules, ◌≡◌, ◌≤◌, ◌∙◌, arith, ap, length, replicate, sym, true, Bool, Err, refl}
use Rattle.std.proofs.lemmas.List.{length-replicate}
use Rattle.tp_counts.specs.declared.error.StoreError.TheVariants.{Damaged}
use Rattle.tp_tm.specs.Tm.{Tm, used_metadata}
use Rattle.tp_mapping.specs.Mapping.{without_copies}
use Rattle.tp_meta.specs.declared.whole.Meta.{Meta}
use Rattle.tp_meta.proofs.Altered.{altered_held, is_changing, marks_all, tracked_all}
use Rattle.tp_meta.proofs.Numbered.{alone_numbered}
use Rattle.tp_meta.proofs.pool_metadata.MetaMetadata.release.Goals as goal

pub returns-in_err-release : goal.returns-in_err-release
returns-in_err-release g c = record {
  altered = record {
    made = search rules;
    damaged = λ e now kept st held.
        let f : c.release.result ≡ Err Damaged = search (rules, e) in
        c.release.ensures.damaged f st.honest now.volumes kept.volumes st.mapping (omega (arith, held, st.held_root));
    changing = λ now kept st.
        is_changing c.args.self.now (g.D.Disk.state c.args.disk.now) now kept st (g.D.Disk.state c.release.new.disk) c.release.ensures.ran.any_moment;
    ran = search rules;
  };
}

pub returns : goal.returns
returns g c = record {
  altered = record {
    made = λ now kept st held.
        let m = c.args.self.now in
        let disk = g.D.Disk.state c.args.disk.now in
        let after = g.D.Disk.state c.release.new.disk in
        let done = c.in_ok-release.ensures in
        let ran = c.release.ensures.ran in
        let marks = replicate {A = Bool} (length m.marks) true in
        let new : Meta = record m { mapping = c.release.new.self; marks = c.put_all.new.self; is_changed = true } in
        let volumes = without_copies now.volumes in
        let few : used_metadata new.mapping.tm ≤ now.meta_used = omega (arith, st.meta_used, c.release.ensures.used) in
        let stands =
        altered_held m disk now kept st new after volumes 0 marks (done.made st.honest now.volumes kept.volumes st.mapping (omega (arith, held, st.held_root))) done.root.0
        (alone_numbered m.devices now.volumes st.numbered) (ran.same_disk.is_honest ∙ st.honest) ran.geometry ran.counts_kept c.release.ensures.same_kept refl
        ran.any_moment refl refl refl refl c.put_all.ensures (length-replicate {A = Bool} (length m.marks) true) (tracked_all m disk now kept st volumes)
        (ap (λ (t : Tm). length t.metadata_now) (sym c.store.ensures) ∙ c.geometry.ensures.sized.metadata_now ∙ ap (λ (t : Tm). t.geometry.metadata_blocks) c.store.ensures) in (
          (used_metadata new.mapping.tm, few, stands),
          marks_all m disk now kept st new after (record now { volumes = volumes; held_root = 0; meta_used = used_metadata new.mapping.tm }) stands c.put_all.ensures,
        );
    damaged = search rules;
    changing = λ now kept st.
        is_changing c.args.self.now (g.D.Disk.state c.args.disk.now) now kept st (g.D.Disk.state c.release.new.disk) c.release.ensures.ran.any_moment;
    ran = search rules;
  };
}
