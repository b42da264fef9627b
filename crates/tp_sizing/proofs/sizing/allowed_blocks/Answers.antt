use Rattle.std.proofs.Common.{◌≡◌, ◌*◌, ℕ, rules, subst}
use Rattle.std.specs.Prelude.{IfSome}
use Rattle.tp_sizing.specs.Sizing.{IsAllowed}
use Rattle.tp_sizing.proofs.sizing.allowed_blocks.Goals as goal

pub returns-in_err-sectors-in-Some-clause-blocks : goal.returns-in_err-sectors-in-Some-clause-blocks
returns-in_err-sectors-in-Some-clause-blocks c =
    let lacks : (n : ℕ) → IsAllowed c.args.wanted.now n → ⊥ =
    λ n allowed. c.in_err-sectors-in-Some.ensures n allowed.0 (subst (λ b. IfSome b (λ bytes. bytes ≡ 512 * n)) c.in-Some.is allowed.1) in
    search (rules, lacks)
