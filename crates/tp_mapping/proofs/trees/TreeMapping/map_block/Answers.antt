use Rattle.std.proofs.Common.{rules, ◌≡◌, ◌+◌, ◌∷◌, [], Err, ap, arith, false, sym, subst}
use Rattle.tp_counts.specs.declared.error.StoreError.TheVariants.{Damaged}
use Rattle.tp_tm.specs.Tm.{Tm, free_metadata, used_metadata}
use Rattle.tp_mapping.specs.Mapping as told
use Rattle.tp_mapping.specs.Held.{HoldTrees}
use Rattle.tp_mapping.proofs.Holding.{same_commit, same_then}
use Rattle.tp_mapping.proofs.Between.{held_trees, ran_as, stand_again}
use Rattle.tp_mapping.proofs.Fresh.{fresh_commit, fresh_held, least_is_free, none_is_free}
use Rattle.tp_mapping.proofs.trees.TreeMapping.map_block.Goals as goal

pub returns-in_err-root-clause-changed : goal.returns-in_err-root-clause-changed
returns-in_err-root-clause-changed g c = record {
  made = search rules;
  damaged = λ e honest now kept s some below.
      let f : c.device_root.result ≡ Err Damaged = search (rules, e) in c.device_root.ensures.damaged f (g.D.Disk.state c.args.disk.now) now kept s;
  ran = search rules;
  used = search rules;
  same_kept = search rules;
  same_held = search rules;
}

pub returns-in_default-clause-changed : goal.returns-in_default-clause-changed
returns-in_default-clause-changed g c = record {
  made = λ honest now kept s some below. none_is_free c.args.self.now (g.D.Disk.state c.args.disk.now) now kept s c.geometry.ensures.sized c.in_default.ensures.found;
  damaged = search rules;
  ran = search rules;
  used = search rules;
  same_kept = search rules;
  same_held = search rules;
}

pub returns-in_err-top-clause-changed : goal.returns-in_err-top-clause-changed
returns-in_err-top-clause-changed g c = record {
  made = search rules;
  damaged = λ e honest now kept s some below.
      let m = c.args.self.now in
      let t = m.tm in
      let d = g.D.Disk.state c.args.disk.now in
      let p = c.in-Some.place in
      let t1 = c.fresh_data.new.self in
      let f : c.map_below.result ≡ Err Damaged = search (rules, e) in
      let h = fresh_held t t1 d m.root now (held_trees m d now kept s) p c.in-Some.ensures.taken c.in-Some.ensures.holds in
      c.map_below.ensures.damaged f honest t.geometry now (subst (λ b. HoldTrees t.geometry t1 d b ((t.geometry.metadata_blocks + p) ∷ []) now) (sym c.in_ok-root.ensures.inside.0) h) some below;
  ran = search rules;
  used =
      let same : used_metadata c.fresh_data.new.self ≡ used_metadata c.args.self.now.tm = ap used_metadata c.in-Some.ensures.taken in
      omega (arith, same, c.map_below.ensures.ran.used);
  same_kept = search rules;
  same_held = search rules;
}

pub returns-clause-changed : goal.returns-clause-changed
returns-clause-changed g c = record {
  made = λ honest now kept s some below.
      let m = c.args.self.now in
      let t = m.tm in
      let d = g.D.Disk.state c.args.disk.now in
      let p = c.in-Some.place in
      let t1 = c.fresh_data.new.self in
      let u = c.map_below.new.tm in
      let d1 = g.D.Disk.state c.map_below.new.disk in
      let h = fresh_held t t1 d m.root now (held_trees m d now kept s) p c.in-Some.ensures.taken c.in-Some.ensures.holds in
      let put = c.in_ok-top.ensures.made honest t.geometry now (subst (λ b. HoldTrees t.geometry t1 d b ((t.geometry.metadata_blocks + p) ∷ []) now) (sym c.in_ok-root.ensures.inside.0) h) some below in
      let c1 = same_then t t1 u (fresh_commit t t1 p c.in-Some.ensures.taken) (same_commit _ _ t1 u d d1 c.in_ok-top.ensures.ran) in (
        least_is_free m d now kept s c.geometry.ensures.sized p c.in-Some.ensures.found,
        stand_again m d now kept s (record { tm = u; root = c.in_ok-top.top }) d1 _ c1 put,
      );
  damaged = search rules;
  ran =
      let u = c.map_below.new.tm in
      let d = g.D.Disk.state c.args.disk.now in
      let d1 = g.D.Disk.state c.map_below.new.disk in
      subst (λ (z : Tm). told.Ran 16 false (free_metadata z) (free_metadata u) z.metadata_kept u.metadata_kept z.geometry u.geometry d d1) c.in-Some.ensures.taken
      (ran_as 16 16 _ c.fresh_data.new.self u d d1 (omega arith) c.in_ok-top.ensures.ran);
  used =
      let same : used_metadata c.fresh_data.new.self ≡ used_metadata c.args.self.now.tm = ap used_metadata c.in-Some.ensures.taken in
      omega (arith, same, c.map_below.ensures.ran.used);
  same_kept = search rules;
  same_held = search rules;
}

pub returns-in_err-top-clause-used : goal.returns-in_err-top-clause-used
returns-in_err-top-clause-used g c =
    let same : used_metadata c.fresh_data.new.self ≡ used_metadata c.args.self.now.tm = ap used_metadata c.in-Some.ensures.taken in
    omega (arith, same, c.map_below.ensures.ran.used)

pub returns-clause-used : goal.returns-clause-used
returns-clause-used g c =
    let same : used_metadata c.fresh_data.new.self ≡ used_metadata c.args.self.now.tm = ap used_metadata c.in-Some.ensures.taken in
    omega (arith, same, c.map_below.ensures.ran.used)
