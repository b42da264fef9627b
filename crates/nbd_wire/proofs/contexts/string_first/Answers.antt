use Rattle.std.proofs.Common.{rules, ◌≡◌, false, length, arith, ap}
use Rattle.nbd_wire.specs.Reading.{behind_string, has_string, string_at}
use Rattle.nbd_wire.proofs.Queries.{is_string, no_length, no_text}
use Rattle.nbd_wire.proofs.contexts.string_first.Goals as goal

pub returns-in_err-len : goal.returns-in_err-len
returns-in_err-len c =
    let none : has_string c.args.text.now ≡ false = no_length c.args.text.now c.in_err-len.ensures in
    search (rules, none)

pub returns-then-rest-len : goal.returns-then-rest-len
returns-then-rest-len c =
    let rest = c.in_ok-len.ensures.2 in
    no_text c.args.text.now (omega (arith, c.in_ok-len.ensures.1, ap length rest, c.if-rest-len.true))

pub returns : goal.returns
unfolding string_at behind_string
returns c =
    let rest = c.in_ok-len.ensures.2 in (
      is_string c.args.text.now c.in_ok-len.ensures.0 (omega (arith, c.in_ok-len.ensures.1, ap length rest, c.if-rest-len.false)),
      search rules,
      search rules,
    )
