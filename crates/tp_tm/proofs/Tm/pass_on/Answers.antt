use Rattle.std.proofs.Common.{rules, ◌≡◌, ◌<◌, Err, slice_index, arith}
use Rattle.tp_counts.specs.declared.error.StoreError.TheVariants.{Damaged}
use Rattle.tp_tm.specs.Tm.{counts_now}
use Rattle.tp_tm.proofs.Releasing.{held_positive, last}
use Rattle.tp_tm.proofs.Sharing.{passed_on}
use Rattle.tp_tm.proofs.Tm.pass_on.Goals as goal

pub returns-in_err-share_children-clause-damaged : goal.returns-in_err-share_children-clause-damaged
returns-in_err-share_children-clause-damaged c e disk opens held s n good kind spelled h is room =
    let f : c.share_children.result ≡ Err Damaged = search (rules, e) in
    c.share_children.ensures.damaged f disk opens held s c.args.reference n good kind spelled h is room

pub returns-then-count-gt1-clause-passed : goal.returns-then-count-gt1-clause-passed
returns-then-count-gt1-clause-passed c disk opens held s n good kind spelled h is =
    let more : 1 < slice_index (counts_now c.share_children.new.self) c.args.reference = omega (arith, c.in_ok-share_children.ensures.raised.counts c.args.reference, c.count.ensures.value, c.if-count-gt1.true) in
    passed_on s c.share_children.new.self c.unname.new.self disk opens held c.args.reference (c.in_ok-share_children.ensures.shared disk opens held s c.args.reference n good kind spelled h is)
    c.in_ok-unname.ensures.recounted more

pub returns-in_err-unname-2-clause-damaged : goal.returns-in_err-unname-2-clause-damaged
returns-in_err-unname-2-clause-damaged c e disk opens held s n good kind spelled h is room =
    omega (arith, c.in_err-unname-2.ensures.err.1, held_positive c.args.self.now disk opens held s c.args.reference h)

pub returns-clause-passed : goal.returns-clause-passed
returns-clause-passed c disk opens held s n good kind spelled h is =
    let positive : 0 < slice_index (counts_now c.args.self.now) c.args.reference = held_positive c.args.self.now disk opens held s c.args.reference h in
    let one : slice_index (counts_now c.args.self.now) c.args.reference ≡ 1 = omega (arith, positive, c.count.ensures.value, c.if-count-gt1.false) in
    last c.args.self.now c.unname-2.new.self disk opens held s c.args.reference h c.in_ok-unname-2.ensures.recounted one
