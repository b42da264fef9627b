use Rattle.tp_refs.proofs.Lower.{last_abandoned, last_opened, last_passed_on, last_taken, last_trans, last_written, stay_from_last}
use Rattle.tp_refs.proofs.laws.lower_nodes_stay.Goals as goal

pub returns-clause-together : goal.returns-clause-together
returns-clause-together c = last_trans

pub returns-clause-stay : goal.returns-clause-stay
returns-clause-stay c rank os s t h = stay_from_last rank os os s t h

pub returns-clause-opened : goal.returns-clause-opened
returns-clause-opened c = last_opened

pub returns-clause-passed_on : goal.returns-clause-passed_on
returns-clause-passed_on c = last_passed_on

pub returns-clause-taken : goal.returns-clause-taken
returns-clause-taken c = last_taken

pub returns-clause-written : goal.returns-clause-written
returns-clause-written c = last_written

pub returns-clause-abandoned : goal.returns-clause-abandoned
returns-clause-abandoned c = last_abandoned
