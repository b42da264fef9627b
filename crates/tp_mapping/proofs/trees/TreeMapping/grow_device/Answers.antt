use Rattle.std.proofs.Common.{rules, ◌≡◌, ◌+◌, ◌≤◌, ◌∙◌, ℕ, refl, [], Err, Some, ap, sym, subst, arith}
use Rattle.std.proofs.lemmas.Result.{err_from_is_err_and}
use Rattle.tp_counts.specs.declared.error.StoreError.TheVariants.{Damaged}
use Rattle.tp_tm.specs.Tm.{free_metadata}
use Rattle.tp_counts.proofs.Refusing.{fault_is}
use Rattle.tp_btree.proofs.Running.{ran_still}
use Rattle.tp_model.specs.Geometry.{Geometry}
use Rattle.tp_model.specs.Told.{IsToldSize, told_blocks}
use Rattle.tp_sharing.specs.Volumes.{Volumes, resized, size_of}
use Rattle.tp_mapping.specs.Mapping as told
use Rattle.tp_mapping.specs.Mapping.{size_for}
use Rattle.tp_mapping.specs.Held.{HoldTrees, in_use}
use Rattle.tp_mapping.proofs.Use.{in_use_metadata, metadata_in_row}
use Rattle.tp_mapping.proofs.Holding.{for_more, same_commit}
use Rattle.tp_mapping.proofs.Between.{held_trees, ran_as, stand_again}
use Rattle.tp_mapping.proofs.trees.TreeMapping.grow_device.Goals as goal

-- the size that is put into the record
may_as : (g : Geometry) (blocks size : ℕ) → IsToldSize g (size_for g blocks) → size ≡ size_for g blocks → IsToldSize g size
may_as g blocks size may is = subst (IsToldSize g) (sym is) may

more_as : (g : Geometry) (now : Volumes) (device blocks size : ℕ) → ((s : ℕ) → size_of device now ≡ Some s → told_blocks g s ≤ blocks) → size ≡ size_for g blocks
    → (s : ℕ) → size_of device now ≡ Some s → told_blocks g s ≤ told_blocks g size
more_as g now device blocks size more is s h = subst (λ n. told_blocks g s ≤ told_blocks g n) (sym is) (for_more g blocks (told_blocks g s) (more s h))

pub returns-in_err-root : goal.returns-in_err-root
returns-in_err-root g c = record {
  made = search rules;
  damaged = λ e honest now kept s some may more.
      let f : c.device_root.result ≡ Err Damaged = search (rules, e) in c.device_root.ensures.damaged f (g.D.Disk.state c.args.disk.now) now kept s;
  ran =
      let p = err_from_is_err_and c.from_residual.result c.from_residual.ensures.1 in
      let t = c.args.self.now.tm in
      let d = g.D.Disk.state c.args.disk.now in
      subst (λ b. told.Ran 8 b (free_metadata t) (free_metadata t) t.metadata_kept t.metadata_kept t.geometry t.geometry d d) (sym (fault_is c.from_residual.result p.0 Damaged p.1 (p.2 ∙ c.in_err-root.ensures.only)))
      (ran_as 0 8 _ t t d d (omega arith) (ran_still 0 t t d refl refl refl refl (omega arith) (omega arith)));
  used = search rules;
  same_kept = search rules;
  same_held = search rules;
}

pub returns-in_err-top : goal.returns-in_err-top
returns-in_err-top g c = record {
  made = search rules;
  damaged = λ e honest now kept s some may more.
      let t = c.args.self.now.tm in
      let d = g.D.Disk.state c.args.disk.now in
      let f : c.grow_below.result ≡ Err Damaged = search (rules, e) in
      c.grow_below.ensures.changed.damaged f honest t.geometry now (subst (λ b. HoldTrees t.geometry t d b [] now) (sym c.in_ok-root.ensures.inside.0) (held_trees c.args.self.now d now kept s)) some (may_as t.geometry c.args.blocks c.size_for-size.result may (c.size_for-size.ensures ∙ ap (λ (z : Geometry). size_for z c.args.blocks) c.geometry-geometry.ensures.value)) (more_as t.geometry now c.args.device c.args.blocks c.size_for-size.result more (c.size_for-size.ensures ∙ ap (λ (z : Geometry). size_for z c.args.blocks) c.geometry-geometry.ensures.value));
  ran =
      let p = err_from_is_err_and c.from_residual-in_err-top.result c.from_residual-in_err-top.ensures.1 in
      let t = c.args.self.now.tm in
      let d = g.D.Disk.state c.args.disk.now in
      let u = c.grow_below.new.tm in
      let d1 = g.D.Disk.state c.grow_below.new.disk in
      subst (λ b. told.Ran 8 b (free_metadata t) (free_metadata u) t.metadata_kept u.metadata_kept t.geometry u.geometry d d1) (sym (fault_is c.from_residual-in_err-top.result p.0 c.in_err-top.field-0.0 p.1 p.2))
      (ran_as 7 8 _ t u d d1 (omega arith) c.in_err-top.ensures.changed.ran);
  used = search rules;
  same_kept = search rules;
  same_held = search rules;
}

pub returns : goal.returns
returns g c = record {
  made = λ honest now kept s some may more.
      let t = c.args.self.now.tm in
      let d = g.D.Disk.state c.args.disk.now in
      let u = c.grow_below.new.tm in
      let d1 = g.D.Disk.state c.grow_below.new.disk in
      let trees = subst (λ b. HoldTrees t.geometry t d b [] now) (sym c.in_ok-root.ensures.inside.0) (held_trees c.args.self.now d now kept s) in
      let used : t.held_root ≡ 0 → in_use u ≤ in_use t + 1 = λ none_held. c.in_ok-top.ensures.used none_held honest t.geometry now trees some (may_as t.geometry c.args.blocks c.size_for-size.result may (c.size_for-size.ensures ∙ ap (λ (z : Geometry). size_for z c.args.blocks) c.geometry-geometry.ensures.value)) (more_as t.geometry now c.args.device c.args.blocks c.size_for-size.result more (c.size_for-size.ensures ∙ ap (λ (z : Geometry). size_for z c.args.blocks) c.geometry-geometry.ensures.value)) in (
        stand_again c.args.self.now d now kept s (record { tm = u; root = c.in_ok-top.top }) d1 (resized c.args.device (size_for t.geometry c.args.blocks) now) (same_commit _ _ _ _ d d1 c.in_ok-top.ensures.changed.ran) (subst (λ n. HoldTrees t.geometry u d1 c.in_ok-top.top [] (resized c.args.device n now)) (c.size_for-size.ensures ∙ ap (λ (z : Geometry). size_for z c.args.blocks) c.geometry-geometry.ensures.value)
            (c.in_ok-top.ensures.changed.made honest t.geometry now trees some (may_as t.geometry c.args.blocks c.size_for-size.result may (c.size_for-size.ensures ∙ ap (λ (z : Geometry). size_for z c.args.blocks) c.geometry-geometry.ensures.value)) (more_as t.geometry now c.args.device c.args.blocks c.size_for-size.result more (c.size_for-size.ensures ∙ ap (λ (z : Geometry). size_for z c.args.blocks) c.geometry-geometry.ensures.value)))),
        λ none_held. omega (arith, used none_held, in_use_metadata t c.geometry-geometry.ensures.sized, metadata_in_row u),
      );
  damaged = search rules;
  ran =
      let t = c.args.self.now.tm in
      let d = g.D.Disk.state c.args.disk.now in
      let u = c.grow_below.new.tm in
      let d1 = g.D.Disk.state c.grow_below.new.disk in
      ran_as 7 8 _ t u d d1 (omega arith) c.in_ok-top.ensures.changed.ran;
  used = search rules;
  same_kept = search rules;
  same_held = search rules;
}
