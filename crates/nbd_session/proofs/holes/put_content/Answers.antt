use Rattle.std.proofs.Common.{◌+◌, ◌∙◌, ℕ, ap, drop, sym}
use Rattle.nbd_session.proofs.Holing.{as_data, as_hole, data_len, hole_len}
use Rattle.nbd_session.proofs.holes.put_content.Goals as goal

pub returns-then-is_data-clause-bytes : goal.returns-then-is_data-clause-bytes
returns-then-is_data-clause-bytes c =
    let x : ℕ × ℕ = (c.args.span.now.len, c.args.span.now.flags) in
    as_data c.args.out.now c.put_data.new.out c.args.at c.put_data.result c.args.cookie c.args.offset c.args.is_last x (drop c.args.from c.args.out.now)
    (sym c.is_data.ensures ∙ c.if-is_data.true) c.put_data.ensures.bytes

pub returns-then-is_data-clause-end : goal.returns-then-is_data-clause-end
returns-then-is_data-clause-end c =
    let x : ℕ × ℕ = (c.args.span.now.len, c.args.span.now.flags) in
    c.put_data.ensures.end ∙ ap (λ (n : ℕ). c.args.at + n) (sym (data_len x (sym c.is_data.ensures ∙ c.if-is_data.true)))

pub returns-else-is_data-clause-bytes : goal.returns-else-is_data-clause-bytes
returns-else-is_data-clause-bytes c =
    let x : ℕ × ℕ = (c.args.span.now.len, c.args.span.now.flags) in
    as_hole c.args.out.now c.put_hole_chunk.new.out c.args.at c.put_hole_chunk.result c.args.cookie c.args.offset c.args.is_last x (drop c.args.from c.args.out.now)
    (sym c.is_data.ensures ∙ c.if-is_data.false) c.put_hole_chunk.ensures.bytes

pub returns-else-is_data-clause-end : goal.returns-else-is_data-clause-end
returns-else-is_data-clause-end c =
    let x : ℕ × ℕ = (c.args.span.now.len, c.args.span.now.flags) in
    c.put_hole_chunk.ensures.end ∙ ap (λ (n : ℕ). c.args.at + n) (sym (hole_len x (sym c.is_data.ensures ∙ c.if-is_data.false)))
