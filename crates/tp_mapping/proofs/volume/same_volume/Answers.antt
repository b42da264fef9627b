use Rattle.std.proofs.Common.{arith}
use Rattle.std.proofs.lemmas.Result.{on_ok_weaker}
use Rattle.tp_mapping.proofs.Holding.{same_commit}
use Rattle.tp_mapping.proofs.Copies.{volume_shared}
use Rattle.tp_mapping.proofs.volume.same_volume.Goals as goal

pub returns-clause-shared : goal.returns-clause-shared
returns-clause-shared c = on_ok_weaker c.name_root.result
    (λ f disk geo root now device slots h is. volume_shared geo c.args.tm.now disk root now device c.args.volume h c.name_root.new.tm disk (same_commit _ _ _ _ disk disk (c.name_root.ensures.ran disk)) slots is
    (f disk geo root _ now device c.args.volume.mapped c.args.volume.size (omega arith) h)) c.name_root.ensures.named

pub returns-clause-damaged : goal.returns-clause-damaged
returns-clause-damaged c e disk geo root now device h = c.name_root.ensures.damaged e disk geo root _ now device c.args.volume.mapped c.args.volume.size (omega arith) h

pub returns-clause-used : goal.returns-clause-used
returns-clause-used c = on_ok_weaker c.name_root.result (λ f disk geo root now device h. f disk geo root _ now device c.args.volume.mapped c.args.volume.size h) c.name_root.ensures.used
