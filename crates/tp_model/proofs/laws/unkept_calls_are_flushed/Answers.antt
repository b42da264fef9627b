use Rattle.tp_model.proofs.Unkept.{flush_failed, flushed, read_before, walk_before, written}
use Rattle.tp_model.proofs.laws.unkept_calls_are_flushed.Goals as goal

pub returns-clause-done : goal.returns-clause-done
returns-clause-done g c old mid new call ends other u f =
    let p = g.V.Volumes in
    flushed p.view g.met.V.Volumes.laws old mid new call ends other u f

pub returns-clause-refused : goal.returns-clause-refused
returns-clause-refused g c old mid new call reason ends other u f =
    let p = g.V.Volumes in
    flush_failed p.view g.met.V.Volumes.laws old mid new call ends other u reason f

pub returns-clause-writes : goal.returns-clause-writes
returns-clause-writes g c old mid id sector sectors lacks wrote =
    let p = g.V.Volumes in
    written p.view id sector sectors old mid lacks wrote

pub returns-clause-reads : goal.returns-clause-reads
returns-clause-reads g c old mid call id sector count sectors message held u r =
    let p = g.V.Volumes in
    read_before p.view g.met.V.Volumes.laws old mid call id sector count sectors message held u r

pub returns-clause-walks : goal.returns-clause-walks
returns-clause-walks g c old mid call id from slots message held u r =
    let p = g.V.Volumes in
    walk_before p.view g.met.V.Volumes.laws old mid call id from slots message held u r
