use Rattle.std.proofs.Common.{rules, ◌≡◌, ◌<◌, ◌++◌, ◌∙◌, arith, ap, length, map, sym, subst, true, Err, None, refl, ℕ}
use Rattle.tp_counts.specs.declared.error.StoreError.TheVariants.{Damaged}
use Rattle.tp_sharing.specs.Volumes.{as_copy}
use Rattle.tp_tm.specs.Tm.{Tm, used_metadata}
use Rattle.tp_meta.specs.Standing.{StandsFor}
use Rattle.tp_meta.specs.declared.whole.Meta.{Meta}
use Rattle.tp_meta.proofs.Altered.{altered_held, altered_marks, is_changing, tracked_copied}
use Rattle.tp_meta.proofs.Commits.{root_inside}
use Rattle.tp_meta.proofs.Numbered.{copied_numbered}
use Rattle.tp_meta.proofs.Times.{ran_behind}
use Rattle.tp_meta.proofs.pool_metadata.MetaMetadata.reserve.Goals as goal

pub returns-in_err-reserve : goal.returns-in_err-reserve
returns-in_err-reserve c = record {
  altered = λ disk. record {
    made = search rules;
    damaged = λ e now kept st unheld.
        let f : c.reserve.result ≡ Err Damaged = search (rules, e) in c.reserve.ensures.damaged f disk now.volumes kept.volumes st.mapping;
    changing = λ now kept st. is_changing c.args.self.now disk now kept st disk (c.reserve.ensures.ran disk).any_moment;
    ran = search (rules, ran_behind refl (c.reserve.ensures.ran disk));
  };
}

pub returns : goal.returns
returns c = record {
  altered = λ disk. record {
    made = λ now kept st unheld.
        let m = c.args.self.now in
        let done = c.in_ok-reserve.ensures in
        let ran = c.reserve.ensures.ran disk in
        let new : Meta = record m { mapping = c.reserve.new.self; is_changed = true } in
        let root = m.mapping.root in
        let volumes = now.volumes ++ map as_copy now.volumes in
        let some : 0 < root = omega (arith, root_inside m.mapping.tm.geometry root m.mapping.tm.held_root st.mapping.store st.mapping.sound) in
        let used = done.used disk now.volumes kept.volumes st.mapping in
        let stands =
        altered_held m disk now kept st new disk volumes root m.marks (done.made disk now.volumes kept.volumes st.mapping (st.held_root ∙ unheld)) done.root.0
        (copied_numbered m.devices now.volumes st.numbered) st.honest ran.geometry ran.counts_kept c.reserve.ensures.same_kept refl
        ran.any_moment refl refl refl refl refl refl (tracked_copied m disk now kept st)
        (ap (λ (t : Tm). length t.metadata_now) (sym c.store.ensures) ∙ c.geometry.ensures.sized.metadata_now ∙ ap (λ (t : Tm). t.geometry.metadata_blocks) c.store.ensures) in
        let same : used_metadata new.mapping.tm ≡ now.meta_used = used.0 ∙ sym st.meta_used in (
          (root, some, subst (λ (n : ℕ). StandsFor new disk (record now { volumes = volumes; held_root = root; meta_used = n }) kept) same stands),
          altered_marks m disk now kept st new disk (record now { volumes = volumes; held_root = root; meta_used = used_metadata new.mapping.tm }) None stands refl,
          used.1,
        );
    damaged = search rules;
    changing = λ now kept st. is_changing c.args.self.now disk now kept st disk (c.reserve.ensures.ran disk).any_moment;
    ran = ran_behind refl (c.in_ok-reserve.ensures.ran disk);
  };
}
