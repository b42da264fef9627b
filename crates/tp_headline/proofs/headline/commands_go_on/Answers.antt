use Rattle.tp_headline.proofs.Kept.{fed_goes_on, given_goes_on, made_goes_on, played_goes_on, served_goes_on, told_goes_on, ungiven_goes_on, untold_goes_on}
use Rattle.tp_headline.proofs.headline.commands_go_on.Goals as goal

pub returns-clause-made : goal.returns-clause-made
returns-clause-made c = made_goes_on c.fresh_image_stands_for_the_empty_pool.ensures.stands

pub returns-clause-given : goal.returns-clause-given
returns-clause-given c = given_goes_on

pub returns-clause-told : goal.returns-clause-told
returns-clause-told c = told_goes_on

pub returns-clause-fed : goal.returns-clause-fed
returns-clause-fed c = fed_goes_on

pub returns-clause-served : goal.returns-clause-served
returns-clause-served c = served_goes_on

pub returns-clause-played : goal.returns-clause-played
returns-clause-played c = played_goes_on

pub returns-clause-ungiven : goal.returns-clause-ungiven
returns-clause-ungiven c = ungiven_goes_on

pub returns-clause-untold : goal.returns-clause-untold
returns-clause-untold c = untold_goes_on
