use Rattle.std.proofs.Common.{◌∷◌, subst, sym, arith}
use Rattle.tp_refs.specs.Store.{with_count}
use Rattle.tp_tm.specs.Holds.{Holds}
use Rattle.tp_tm.proofs.Free.{untaken_free, untaken_used}
use Rattle.tp_tm.proofs.Releasing.{abandoned_holds, open_counts}
use Rattle.tp_tm.proofs.Sharing.{fewer_untaken}
use Rattle.tp_tm.proofs.Tm.abandon.Goals as goal

pub returns-clause-holds : goal.returns-clause-holds
returns-clause-holds c disk opens held s h =
    let t = c.args.self.now in
    let u = c.unname.new.self in
    subst (λ x. Holds u disk opens held (with_count s x 0)) c.number.ensures.value
    (abandoned_holds t u disk opens held s c.number.result (subst (λ x. Holds t disk (x ∷ opens) held s) (sym c.number.ensures.value) h) c.in_ok-unname.ensures.recounted)

pub returns-in_err-unname-clause-damaged : goal.returns-in_err-unname-clause-damaged
returns-in_err-unname-clause-damaged c e disk opens held s h =
    omega (arith, c.in_err-unname.ensures.err.1, open_counts c.args.self.now disk opens held s c.number.result (subst (λ x. Holds c.args.self.now disk (x ∷ opens) held s) (sym c.number.ensures.value) h))

pub returns-in_err-unname-clause-free : goal.returns-in_err-unname-clause-free
returns-in_err-unname-clause-free c = untaken_free c.args.self.now c.unname.new.self (fewer_untaken c.args.self.now c.unname.new.self c.unname.ensures.fewer)

pub returns-clause-free : goal.returns-clause-free
returns-clause-free c = untaken_free c.args.self.now c.unname.new.self (fewer_untaken c.args.self.now c.unname.new.self c.unname.ensures.fewer)

pub returns-in_err-unname-clause-used : goal.returns-in_err-unname-clause-used
returns-in_err-unname-clause-used c = untaken_used c.args.self.now c.unname.new.self (fewer_untaken c.args.self.now c.unname.new.self c.unname.ensures.fewer)

pub returns-clause-used : goal.returns-clause-used
returns-clause-used c = untaken_used c.args.self.now c.unname.new.self (fewer_untaken c.args.self.now c.unname.new.self c.unname.ensures.fewer)
