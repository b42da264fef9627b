use Rattle.std.proofs.Common.{false, true}
use Rattle.tp_served.specs.Served.{cached}
use Rattle.tp_reports.proofs.Probing.{gave_is_held, no_root_is_free, no_volume_is_held, probe_looks, probe_refusal, probe_refused, probe_still}
use Rattle.tp_reports.proofs.held.ServedHoldsMapping.is_held.Goals as goal

pub returns-in-Ok-clause-looks : goal.returns-in-Ok-clause-looks
returns-in-Ok-clause-looks g c =
    let M = g.M.Metadata in
    probe_looks (cached M.geometry M.stands M.marks M.room M.changed) c.args.self.now c.held_read.new.self c.new.result 0 0 _ true c.in-Ok.ensures.met

pub returns-in-Ok-clause-still : goal.returns-in-Ok-clause-still
returns-in-Ok-clause-still g c =
    let M = g.M.Metadata in
    probe_still (cached M.geometry M.stands M.marks M.room M.changed) c.args.self.now c.held_read.new.self c.new.result 0 0 _ c.in-Ok.ensures.met

pub returns-in-Ok-clause-told : goal.returns-in-Ok-clause-told
returns-in-Ok-clause-told g c =
    let M = g.M.Metadata in
    gave_is_held (cached M.geometry M.stands M.marks M.room M.changed) c.args.self.now c.held_read.new.self c.new.result 0 0 _ c.in-Ok.ensures.met

pub returns-in-NoSuchDevice-clause-looks : goal.returns-in-NoSuchDevice-clause-looks
returns-in-NoSuchDevice-clause-looks g c =
    let M = g.M.Metadata in
    probe_looks (cached M.geometry M.stands M.marks M.room M.changed) c.args.self.now c.held_read.new.self c.new.result 0 0 _ true c.in-Err.ensures.met

pub returns-in-NoSuchDevice-clause-still : goal.returns-in-NoSuchDevice-clause-still
returns-in-NoSuchDevice-clause-still g c =
    let M = g.M.Metadata in
    probe_still (cached M.geometry M.stands M.marks M.room M.changed) c.args.self.now c.held_read.new.self c.new.result 0 0 _ c.in-Err.ensures.met

pub returns-in-NoSuchDevice-clause-told : goal.returns-in-NoSuchDevice-clause-told
returns-in-NoSuchDevice-clause-told g c =
    let M = g.M.Metadata in
    no_volume_is_held (cached M.geometry M.stands M.marks M.room M.changed) c.args.self.now c.held_read.new.self c.new.result 0 0 c.in-Err.reason c.in-NoSuchDevice.is c.in-Err.ensures.met

pub returns-in-NoHeldRoot-clause-looks : goal.returns-in-NoHeldRoot-clause-looks
returns-in-NoHeldRoot-clause-looks g c =
    let M = g.M.Metadata in
    probe_looks (cached M.geometry M.stands M.marks M.room M.changed) c.args.self.now c.held_read.new.self c.new.result 0 0 _ false c.in-Err.ensures.met

pub returns-in-NoHeldRoot-clause-still : goal.returns-in-NoHeldRoot-clause-still
returns-in-NoHeldRoot-clause-still g c =
    let M = g.M.Metadata in
    probe_still (cached M.geometry M.stands M.marks M.room M.changed) c.args.self.now c.held_read.new.self c.new.result 0 0 _ c.in-Err.ensures.met

pub returns-in-NoHeldRoot-clause-told : goal.returns-in-NoHeldRoot-clause-told
returns-in-NoHeldRoot-clause-told g c =
    let M = g.M.Metadata in
    no_root_is_free (cached M.geometry M.stands M.marks M.room M.changed) c.args.self.now c.held_read.new.self c.new.result 0 0 c.in-Err.reason c.in-NoHeldRoot.is c.in-Err.ensures.met

pub returns-in_default : goal.returns-in_default
returns-in_default g c =
    let M = g.M.Metadata in
    let view = cached M.geometry M.stands M.marks M.room M.changed in
    record {
      looks = probe_refused view c.args.self.now c.held_read.new.self c.new.result 0 0 _ c.in-Err.ensures.met;
      still = probe_still view c.args.self.now c.held_read.new.self c.new.result 0 0 _ c.in-Err.ensures.met;
      refused = probe_refusal view c.args.self.now c.held_read.new.self c.new.result 0 0 _ c.in-Err.ensures.met c.in_default.not-NoHeldRoot c.in_default.not-NoSuchDevice;
      told = tt;
    }
