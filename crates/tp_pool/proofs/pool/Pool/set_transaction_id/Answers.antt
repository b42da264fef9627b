use Rattle.std.proofs.Common.{refl}
use Rattle.tp_model.specs.Calls.{SetTransactionId}
use Rattle.tp_pool.proofs.Idling.{idle_kept}
use Rattle.tp_pool.proofs.pool.Pool.set_transaction_id.Goals as goal

pub returns-clause-called : goal.returns-clause-called
returns-clause-called g c = (c.keep_made.ensures.made c.args.self.now (SetTransactionId c.args.current c.args.next) refl refl c.begin_set_transaction_id-begun.ensures.begun).called

pub returns-clause-answered : goal.returns-clause-answered
returns-clause-answered g c = (c.keep_made.ensures.made c.args.self.now (SetTransactionId c.args.current c.args.next) refl refl c.begin_set_transaction_id-begun.ensures.begun).answered

pub returns-clause-flushes : goal.returns-clause-flushes
returns-clause-flushes g c = (c.keep_made.ensures.made c.args.self.now (SetTransactionId c.args.current c.args.next) refl refl c.begin_set_transaction_id-begun.ensures.begun).flushes

pub returns-clause-idle : goal.returns-clause-idle
returns-clause-idle g c same unchanged s shown =
    let b = c.begin_set_transaction_id-begun in
    idle_kept g.M.Metadata.changed c.args.self.now b.new.self c.keep_made.new.self b.result c.keep_made.result (b.ensures.idle same unchanged s shown) c.keep_made.ensures.flushed
