use Rattle.nbd_wire.proofs.Told.{one_option_reply, one_name_listed, one_context, one_export_info, one_block_size_info, one_export_reply, one_simple_reply}
use Rattle.nbd_wire.proofs.laws.one_first_reply.Goals as goal

pub returns-clause-options : goal.returns-clause-options
returns-clause-options c = one_option_reply

pub returns-clause-names : goal.returns-clause-names
returns-clause-names c = one_name_listed

pub returns-clause-contexts : goal.returns-clause-contexts
returns-clause-contexts c = one_context

pub returns-clause-information : goal.returns-clause-information
returns-clause-information c = one_export_info

pub returns-clause-sizes : goal.returns-clause-sizes
returns-clause-sizes c = one_block_size_info

pub returns-clause-exports : goal.returns-clause-exports
returns-clause-exports c = one_export_reply

pub returns-clause-requests : goal.returns-clause-requests
returns-clause-requests c = one_simple_reply
