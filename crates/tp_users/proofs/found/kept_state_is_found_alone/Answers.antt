use Rattle.std.proofs.Common.{◌≡◌, List, [], ◌∷◌, ◌++◌, ap, subst, ◌∙◌}
use Rattle.tp_model.specs.Clauses.{events_of}
use Rattle.tp_model.specs.PoolStops.{Event, MayBeLeftSince}
use Rattle.tp_model.proofs.Running.{events-append}
use Rattle.tp_users.proofs.found.kept_state_is_found_alone.Goals as goal

pub returns : goal.returns
returns g c s found at t first last left is keeps =
    let events : events_of t.trace ≡ events_of first ++ last.event ∷ [] = ap events_of is ∙ events-append first (last ∷ []) in
    c.kept_answers_are_found.ensures s (events_of first) last.event found keeps (subst (λ (es : List Event). MayBeLeftSince (λ S. ⊥) s es [] found) events left)
