use Rattle.tp_users.proofs.Conversation.{first_is_answered}
use Rattle.tp_users.proofs.first.first_session_is_answered.Goals as goal

pub returns : goal.returns
returns c = first_is_answered c.room_lasts_to_the_bound.ensures.tests
