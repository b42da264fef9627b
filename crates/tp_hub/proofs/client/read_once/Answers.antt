use Rattle.std.proofs.Common.{ℕ, List, take, subst}
use Rattle.tp_hub.proofs.Carrying.{HandsTo, read_again, read_broken, read_end, read_some}
use Rattle.tp_hub.proofs.client.read_once.Goals as goal

pub returns-in-Got-clause-went : goal.returns-in-Got-clause-went
returns-in-Got-clause-went g c = read_some g.D.Desk.asks c.args.out.now.most c.args.number (take c.in-Got.count c.receive.new.buffer.items) c.args.desk.now c.hand-ending.new.desk (g.S.Stream.calls c.args.stream.now) (g.S.Stream.calls c.receive.new.self) (g.S.Stream.calls c.hand-ending.new.stream) c.hand-ending.result c.in-Got.ensures.calls
    (subst (λ (bytes : List ℕ). HandsTo g.D.Desk.asks c.args.out.now.most c.args.number (take c.in-Got.count bytes) c.args.desk.now c.hand-ending.new.desk (g.S.Stream.calls c.receive.new.self) (g.S.Stream.calls c.hand-ending.new.stream) c.hand-ending.result)
    c.deref.ensures.value c.hand-ending.ensures.handed)

pub returns-in-NotNow-clause-went : goal.returns-in-NotNow-clause-went
returns-in-NotNow-clause-went g c = read_again g.D.Desk.asks c.args.out.now.most c.args.number c.args.desk.now (g.S.Stream.calls c.args.stream.now) _ c.in-NotNow.ensures.calls

pub returns-in-End-clause-went : goal.returns-in-End-clause-went
returns-in-End-clause-went g c = read_end g.D.Desk.asks c.args.out.now.most c.args.number c.args.desk.now (g.S.Stream.calls c.args.stream.now) _ c.in-End.ensures.calls

pub returns-in-Broken-clause-went : goal.returns-in-Broken-clause-went
returns-in-Broken-clause-went g c = read_broken g.D.Desk.asks c.args.out.now.most c.args.number c.args.desk.now (g.S.Stream.calls c.args.stream.now) _ c.in-Broken.ensures.calls
