use Rattle.std.proofs.Common.{sym, subst}
use Rattle.tp_lines.specs.Lines.{IsHex}
use Rattle.tp_lines.proofs.Splitting.{cut_piece, cut_session}
use Rattle.tp_lines.proofs.line.piece_of.Goals as goal

pub returns-in_default-session_of : goal.returns-in_default-session_of
returns-in_default-session_of c n digits lt hex e =
    c.in_default-session_of.ensures n lt (cut_session c.args.rest.now c.in-Some.number.now c.in-Some.digits.now n digits lt c.in-Some.ensures e)

pub returns-else-is_hex : goal.returns-else-is_hex
returns-else-is_hex c n digits lt hex e =
    c.if-is_hex.ensures (subst IsHex (sym (cut_piece c.args.rest.now c.in-Some.number.now c.in-Some.digits.now n digits lt c.in-Some.ensures e)) hex)
