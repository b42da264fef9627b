-- Trusted reading: lives of a hub: from an opening of its pool to the stop that ends it, any number of times (own).
use Rattle.std.specs.Prelude.{◌≡◌, List, [], ◌∷◌, Option}
use Rattle.tp_model.specs.Pool.{PlainPool}
use Rattle.tp_model.specs.Clauses.{IsOpened, PoolCall, Traced, TracedCall, View, outline_of_traced, traced}
use Rattle.nbd_session.specs.Turns.{AreSame, AreTurns, Happened, IsFoundIn, StopsIn, closed, pool_after, sessions_after}
use Rattle.tp_hub.specs.Runs.{AreServed, Served, answered_in, events_in, turns_in}

-- A pool as it was opened, and all events that runs of its hub took since, one run behind the other, each with its turns and its answers. Behind them come
-- turns of a run in which a stop came, or those in which all sessions end, or calls of the pool alone; one turn more may be in progress. Then
-- what a stop left, since the last of these turns that is over.
pub record HubLife (D Image : Type 0) : Type 0 where
  pub opened : D
  pub served : List (Served D)
  pub turns : List (Happened D)
  pub current : Option (Happened D)
  pub image : Image

module _ {D : Type 0} (view : View D) where
  -- A hub with no session was made of the pool.
  pub record IsHubLife (image : view.Image) (l : HubLife D view.Image) : Type 0 where
    pub opening : IsOpened view image l.opened
    pub serving : AreServed view.outline (PoolCall view) closed l.opened l.served
    pub turning : AreTurns view.outline (PoolCall view) (sessions_after closed (turns_in l.served)) (pool_after l.opened (turns_in l.served)) l.turns
    pub stop : StopsIn view (sessions_after (sessions_after closed (turns_in l.served)) l.turns) (pool_after (pool_after l.opened (turns_in l.served)) l.turns) l.current l.image

  abbrev pub AreHubLives : view.Image → List (HubLife D view.Image) → Type 0
  AreHubLives image [] = Unit {0}
  AreHubLives image (l ∷ ls) = IsHubLife image l × AreHubLives l.image ls

  -- A life from a plain pool is one of the traced plain pool: the same events have the same answers, so the same bytes are sent, and the turns behind them are
  -- the same. What the stop left is opened as a pool that may be found after a stop there, and life goes on from that one.
  pub record IsPlainLife (s : PlainPool) (l : HubLife D view.Image) (GoesOn : PlainPool → Type 0) : Type 0 where
    pub plainly : List (Served Traced)
    pub serving : AreServed outline_of_traced (TracedCall view.has_use) closed (traced s []) plainly
    pub events : events_in plainly ≡ events_in l.served
    pub answers : answered_in plainly ≡ answered_in l.served
    pub same : AreSame view l.opened s l.opened (traced s []) (turns_in l.served) (turns_in plainly)
    pub behind : List (Happened Traced)
    pub turning : AreTurns outline_of_traced (TracedCall view.has_use) (sessions_after closed (turns_in plainly)) (pool_after (traced s []) (turns_in plainly)) behind
    pub same_behind : AreSame view l.opened s (pool_after l.opened (turns_in l.served)) (pool_after (traced s []) (turns_in plainly)) l.turns behind
    pub found : PlainPool
    pub stands_for : view.stands_for l.image found
    pub left : IsFoundIn view s (sessions_after (sessions_after closed (turns_in plainly)) behind) (pool_after (pool_after (traced s []) (turns_in plainly)) behind) l.current found
    pub goes_on : GoesOn found

  abbrev pub ArePlainLives : PlainPool → List (HubLife D view.Image) → Type 0
  ArePlainLives s [] = Unit {0}
  ArePlainLives s (l ∷ ls) = IsPlainLife s l (λ P. ArePlainLives P ls)
