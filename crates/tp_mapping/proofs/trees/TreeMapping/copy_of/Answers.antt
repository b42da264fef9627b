use Rattle.std.proofs.Common.{rules, arith}
use Rattle.std.proofs.lemmas.Grind.{common_steps}
use Rattle.tp_mapping.proofs.Between.{held_trees}
use Rattle.tp_mapping.proofs.Copied.{copied_there, copy_holds, none_held}
use Rattle.tp_mapping.proofs.trees.TreeMapping.copy_of.Goals as goal

pub returns-then-number-eq0-clause-looked : goal.returns-then-number-eq0-clause-looked
returns-then-number-eq0-clause-looked g c = record {
  told = λ honest now kept s.
      let m = c.args.self.now in
      let d = g.D.Disk.state c.args.disk.now in
      none_held m d now (held_trees m d now kept s) (omega (arith, c.held_root-held.ensures, c.number-number.ensures.value, c.if-number-eq0.true)) c.args.device;
  damaged = search rules;
  state = search rules;
}

pub returns-clause-looked : goal.returns-clause-looked
returns-clause-looked g c = record {
  told = copied_there c.args.self.now (g.D.Disk.state c.args.disk.now) (g.D.Disk.state c.volume_at.new.disk) c.in_ok-root.root c.args.device c.volume_at.result
      (omega (arith, c.in_ok-root.ensures.inside.0, c.number-number.ensures.value, c.held_root-held.ensures)) (omega (arith, c.in_ok-root.ensures.inside.0, c.if-number-eq0.false))
      c.volume_at.ensures.looked.state c.volume_at.ensures.looked.told;
  damaged = λ e honest now kept s.
      let m = c.args.self.now in
      c.volume_at.ensures.looked.damaged e honest m.tm.geometry _ _
      (copy_holds m (g.D.Disk.state c.args.disk.now) now kept s c.in_ok-root.root (omega (arith, c.in_ok-root.ensures.inside.0, c.number-number.ensures.value, c.held_root-held.ensures))
      (omega (arith, c.in_ok-root.ensures.inside.0, c.if-number-eq0.false)));
  state = search rules;
}

pub returns-in_err-root-clause-looked : goal.returns-in_err-root-clause-looked
returns-in_err-root-clause-looked g c = grind (arith, common_steps)
