use Rattle.std.proofs.Common.{rules}
use Rattle.nbd_session.proofs.request.error_of.Goals as goal

pub returns-then-is_write_zeroes-2-clause-error : goal.returns-then-is_write_zeroes-2-clause-error
returns-then-is_write_zeroes-2-clause-error c = search rules
