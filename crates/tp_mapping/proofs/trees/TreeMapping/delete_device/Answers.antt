use Rattle.std.proofs.Common.{rules, ◌≡◌, ◌≤◌, ◌∙◌, refl, [], Err, sym, subst, arith}
use Rattle.std.proofs.lemmas.Result.{err_from_is_err_and}
use Rattle.tp_counts.specs.declared.error.StoreError.TheVariants.{Damaged}
use Rattle.tp_tm.specs.Tm.{free_metadata}
use Rattle.tp_counts.proofs.Refusing.{fault_is}
use Rattle.tp_btree.proofs.Running.{ran_still}
use Rattle.tp_mapping.specs.Mapping as told
use Rattle.tp_mapping.specs.Held.{HoldTrees, in_use}
use Rattle.tp_mapping.proofs.Use.{in_use_metadata, metadata_in_row}
use Rattle.tp_mapping.proofs.Holding.{same_commit}
use Rattle.tp_mapping.proofs.Between.{held_trees, ran_as, stand_again}
use Rattle.tp_mapping.proofs.trees.TreeMapping.delete_device.Goals as goal

pub returns-in_err-root : goal.returns-in_err-root
returns-in_err-root g c = record {
  made = search rules;
  damaged = λ e honest now kept s some.
      let f : c.device_root.result ≡ Err Damaged = search (rules, e) in c.device_root.ensures.damaged f (g.D.Disk.state c.args.disk.now) now kept s;
  ran =
      let p = err_from_is_err_and c.from_residual.result c.from_residual.ensures.1 in
      let t = c.args.self.now.tm in
      let d = g.D.Disk.state c.args.disk.now in
      subst (λ b. told.Ran 16 b (free_metadata t) (free_metadata t) t.metadata_kept t.metadata_kept t.geometry t.geometry d d) (sym (fault_is c.from_residual.result p.0 Damaged p.1 (p.2 ∙ c.in_err-root.ensures.only)))
      (ran_as 0 16 _ t t d d (omega arith) (ran_still 0 t t d refl refl refl refl (omega arith) (omega arith)));
  used = search rules;
  same_kept = search rules;
  same_held = search rules;
}

pub returns-in_err-top : goal.returns-in_err-top
returns-in_err-top g c = record {
  made = search rules;
  damaged = λ e honest now kept s some.
      let t = c.args.self.now.tm in
      let d = g.D.Disk.state c.args.disk.now in
      let f : c.take_out.result ≡ Err Damaged = search (rules, e) in
      c.take_out.ensures.changed.damaged f honest t.geometry now (subst (λ b. HoldTrees t.geometry t d b [] now) (sym c.in_ok-root.ensures.inside.0) (held_trees c.args.self.now d now kept s)) some;
  ran =
      let p = err_from_is_err_and c.from_residual-in_err-top.result c.from_residual-in_err-top.ensures.1 in
      let t = c.args.self.now.tm in
      let d = g.D.Disk.state c.args.disk.now in
      let u = c.take_out.new.tm in
      let d1 = g.D.Disk.state c.take_out.new.disk in
      subst (λ b. told.Ran 16 b (free_metadata t) (free_metadata u) t.metadata_kept u.metadata_kept t.geometry u.geometry d d1) (sym (fault_is c.from_residual-in_err-top.result p.0 c.in_err-top.field-0.0 p.1 p.2))
      (ran_as 5 16 _ t u d d1 (omega arith) c.in_err-top.ensures.changed.ran);
  used = search rules;
  same_kept = search rules;
  same_held = search rules;
}

pub returns : goal.returns
returns g c = record {
  made = λ honest now kept s some.
      let t = c.args.self.now.tm in
      let d = g.D.Disk.state c.args.disk.now in
      let u = c.take_out.new.tm in
      let d1 = g.D.Disk.state c.take_out.new.disk in
      let trees = subst (λ b. HoldTrees t.geometry t d b [] now) (sym c.in_ok-root.ensures.inside.0) (held_trees c.args.self.now d now kept s) in
      let told : t.held_root ≡ 0 → in_use u ≤ in_use t = λ none_held. c.in_ok-top.ensures.used none_held honest t.geometry now trees some in (
        stand_again c.args.self.now d now kept s (record { tm = u; root = c.in_ok-top.top }) d1 _ (same_commit _ _ _ _ d d1 c.in_ok-top.ensures.changed.ran) (c.in_ok-top.ensures.changed.made honest t.geometry now trees some),
        λ none_held. omega (arith, told none_held, in_use_metadata t c.geometry.ensures.sized, metadata_in_row u),
      );
  damaged = search rules;
  ran =
      let t = c.args.self.now.tm in
      let d = g.D.Disk.state c.args.disk.now in
      let u = c.take_out.new.tm in
      let d1 = g.D.Disk.state c.take_out.new.disk in
      ran_as 5 16 _ t u d d1 (omega arith) c.in_ok-top.ensures.changed.ran;
  used = search rules;
  same_kept = search rules;
  same_held = search rules;
}
