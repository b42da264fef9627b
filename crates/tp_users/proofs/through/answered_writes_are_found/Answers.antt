use Rattle.std.proofs.Common.{◌++◌, ◌/◌, ◌+◌, List, [], ◌∷◌, sym, subst}
use Rattle.tp_model.specs.Clauses.{Traced, TracedCall, outline_of_traced, traced}
use Rattle.nbd_session.specs.Turns.{AreTurns, Happened, IsFoundIn, Sessions, closed, pool_after, sessions_after}
use Rattle.tp_hub.specs.Covered.{IsKeptThere}
use Rattle.tp_hub.specs.Runs.{turns_in}
use Rattle.tp_users.proofs.Joining.{pools_join, sessions_join, turns_join, turns_served}
use Rattle.tp_users.proofs.through.answered_writes_are_found.Goals as goal

pub returns : goal.returns
returns g c image s l stands lived =
    let view = g.V.Volumes.view in
    let plain = (c.hub_lives_are_plain.ensures image s (l ∷ []) stands (lived, tt)) in
    let ran : List (Happened Traced) = turns_in plain.plainly in
    let turns : List (Happened Traced) = ran ++ plain.behind in
    let are : AreTurns outline_of_traced (TracedCall view.has_use) closed (traced s []) turns =
    turns_join outline_of_traced (TracedCall view.has_use) closed (traced s []) ran plain.behind (turns_served outline_of_traced (TracedCall view.has_use) closed (traced s []) plain.plainly plain.serving) plain.turning in
    let left : IsFoundIn view s (sessions_after closed turns) (pool_after (traced s []) turns) l.current plain.found =
    subst (λ (p : Traced). IsFoundIn view s (sessions_after closed turns) p l.current plain.found) (pools_join (traced s []) ran plain.behind)
    (subst (λ (at : Sessions). IsFoundIn view s at (pool_after (pool_after (traced s []) ran) plain.behind) l.current plain.found) (sessions_join closed ran plain.behind) plain.left) in
    record {
      life = plain;
      finds = λ first more behind write is w offered told k x got.
          subst (λ (ts : List (Happened Traced)). IsKeptThere view write.pool (sessions_after closed ts) (pool_after (traced s []) ts) l.current w.volume (w.request.offset / 512 + k) x plain.found) (sym is)
          (c.an_answered_write_through_is_kept.ensures s plain.found first more behind write l.current (subst (AreTurns outline_of_traced (TracedCall view.has_use) closed (traced s [])) is are) w offered told
          (subst (λ (ts : List (Happened Traced)). IsFoundIn view s (sessions_after closed ts) (pool_after (traced s []) ts) l.current plain.found) is left) k x got);
    }
