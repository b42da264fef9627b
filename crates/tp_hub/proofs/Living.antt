-- Lives of a hub are lives of the plain one.
use Rattle.std.proofs.Common.{◌≡◌, List, [], ◌∷◌, ◌++◌, ap, subst, ◌∙◌}
use Rattle.tp_model.specs.Pool.{PlainPool}
use Rattle.tp_model.specs.Clauses.{PoolCall, View, ViewLaws, traced}
use Rattle.tp_model.proofs.Running.{starts}
use Rattle.nbd_session.specs.Turns.{AreTurns, Sessions, StopsIn, closed, pool_after, sessions_after}
use Rattle.nbd_session.proofs.Turning as turning
use Rattle.tp_hub.specs.Told.{Told}
use Rattle.tp_hub.specs.Runs.{AreServed, Incoming, Runs, Served, turns_in}
use Rattle.tp_hub.specs.Lives.{AreHubLives, ArePlainLives, HubLife}
use Rattle.tp_hub.proofs.Taking.{all_turns_join, served_join}
use Rattle.tp_hub.proofs.Tracing.{served_traced}
use Rattle.tp_hub.proofs.Turning.{pool_join, sessions_join}

module _ {D : Type 0} (view : View D) (laws : ViewLaws view) where
  pub runs_go_on : (at after : Sessions) (d new : D) (xs : List (Served D)) (events : List Incoming) (before out : Told) → AreServed view.outline (PoolCall view) at d xs
      → (run : Runs view.outline (PoolCall view) (sessions_after at (turns_in xs)) (pool_after d (turns_in xs)) events before out after new)
      → AreServed view.outline (PoolCall view) at d (xs ++ run.served) × (sessions_after at (turns_in (xs ++ run.served)) ≡ after) × (pool_after d (turns_in (xs ++ run.served)) ≡ new)
  runs_go_on at after d new xs events before out are run =
      let all = all_turns_join xs run.served in (
        served_join view.outline (PoolCall view) at d xs run.served are run.are,
        ap (sessions_after at) all ∙ (sessions_join at (turns_in xs) (turns_in run.served) ∙ run.sessions_are),
        ap (pool_after d) all ∙ (pool_join d (turns_in xs) (turns_in run.served) ∙ run.pool_is),
      )

  pub lives_are_plain : (image : view.Image) (s : PlainPool) (lives : List (HubLife D view.Image)) → view.stands_for image s → AreHubLives view image lives → ArePlainLives view s lives
  lives_are_plain image s [] is are = tt
  lives_are_plain image s (l ∷ ls) is are =
      let life = are.0 in
      let first = starts view laws l.opened s (life.opening.shows s is) (life.opening.opens s is) in
      let ys = served_traced view laws l.opened s closed l.opened (traced s []) l.served first life.serving in
      let mid = pool_after l.opened (turns_in l.served) in
      let t = pool_after (traced s []) (turns_in ys.0) in
      let then = turning.last_traced view laws l.opened s l.opened (traced s []) (turns_in l.served) (turns_in ys.0) first ys.4 in
      let at = turning.same_sessions view laws l.opened s closed l.opened (traced s []) (turns_in l.served) (turns_in ys.0) ys.4 in
      let more = subst (λ (a : Sessions). AreTurns view.outline (PoolCall view) a mid l.turns) at life.turning in
      let ks = turning.turns_traced view laws l.opened s (sessions_after closed (turns_in ys.0)) mid t l.turns then more in
      let last = turning.last_traced view laws l.opened s mid t l.turns ks.0 then ks.2 in
      let end = ap (λ (a : Sessions). sessions_after a l.turns) at ∙ turning.same_sessions view laws l.opened s (sessions_after closed (turns_in ys.0)) mid t l.turns ks.0 ks.2 in
      let found = turning.found_in view laws l.opened s (λ S left. life.opening.left s S is left) (sessions_after (sessions_after closed (turns_in ys.0)) ks.0) (pool_after mid l.turns) (pool_after t ks.0) l.current l.image last
      (subst (λ (a : Sessions). StopsIn view a (pool_after mid l.turns) l.current l.image) end life.stop) in
      record {
        plainly = ys.0;
        serving = ys.1;
        events = ys.2;
        answers = ys.3;
        same = ys.4;
        behind = ks.0;
        turning = ks.1;
        same_behind = ks.2;
        found = found.0;
        stands_for = found.1;
        left = found.2;
        goes_on = lives_are_plain l.image found.0 ls found.1 are.1;
      }
