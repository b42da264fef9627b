use Rattle.std.proofs.Common.{sym, ap, ◌∙◌}
use Rattle.tp_crowd.specs.Guests.{but_ends}
use Rattle.tp_crowd.proofs.guest.Guest.new.Goals as goal

pub invariant_of-result : goal.invariant_of-result
invariant_of-result g c = record { told = ap but_ends c.new.ensures ∙ sym (ap but_ends c.requires) }
