use Rattle.tp_counts.proofs.Looking.{most, used, free}
use Rattle.tp_counts.proofs.lanes.used_ahead.Goals as goal

pub returns : goal.returns
returns c =
    let now = c.args.now.now in
    let kept = c.args.kept.now in
    record {
      most = most now kept c.args.from _ c.requires.inside c.requires.same c.first_set.ensures;
      used = used now kept c.args.from _ c.requires.inside c.requires.same c.first_set.ensures;
      free = free now kept c.args.from _ c.requires.inside c.requires.same c.first_set.ensures;
    }
