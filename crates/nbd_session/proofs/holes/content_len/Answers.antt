use Rattle.std.proofs.Common.{◌∙◌, ℕ, sym}
use Rattle.nbd_session.proofs.Holing.{data_len, hole_len}
use Rattle.nbd_session.proofs.holes.content_len.Goals as goal

pub returns-then-is_data-clause-value : goal.returns-then-is_data-clause-value
returns-then-is_data-clause-value c =
    let x : ℕ × ℕ = (c.args.span.now.len, c.args.span.now.flags) in
    sym (data_len x (sym c.is_data.ensures ∙ c.if-is_data.true))

pub returns-else-is_data-clause-value : goal.returns-else-is_data-clause-value
returns-else-is_data-clause-value c =
    let x : ℕ × ℕ = (c.args.span.now.len, c.args.span.now.flags) in
    sym (hole_len x (sym c.is_data.ensures ∙ c.if-is_data.false))
