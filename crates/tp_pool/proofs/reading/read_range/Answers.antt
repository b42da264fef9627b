use Rattle.std.proofs.lemmas.Result.{IfOk-weaker}
use Rattle.tp_pool.proofs.reading.read_range.Goals as goal

pub returns-clause-looked : goal.returns-clause-looked
returns-clause-looked g c =
    let met = g.met.M.Metadata in
    let m = c.args.metadata.now in
    let old = g.D.Disk.state c.args.disk.now in
    let looked = c.read_told.ensures.looked in
    record {
      told = IfOk-weaker c.read_told.result _ _ (λ answer told now kept st. told now kept (met.told m old now kept st)) looked.told;
      damaged = λ e now kept st. looked.damaged e now kept (met.told m old now kept st);
      state = looked.state;
    }

pub returns-clause-bytes : goal.returns-clause-bytes
returns-clause-bytes g c =
    λ is now kept st. c.read_told.ensures.bytes is now kept (g.met.M.Metadata.told c.args.metadata.now (g.D.Disk.state c.args.disk.now) now kept st)
