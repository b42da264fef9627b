use Rattle.tp_commands.proofs.Living.{found_again, kept_again}
use Rattle.tp_headline.proofs.headline.images_go_on.Goals as goal

pub returns-clause-found : goal.returns-clause-found
returns-clause-found c = found_again

pub returns-clause-kept : goal.returns-clause-kept
returns-clause-kept c = kept_again
