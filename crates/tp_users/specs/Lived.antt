-- Internal: one life of a hub over a pool, from the pool's making to a stop.
use Rattle.std.specs.Prelude.{List}
use Rattle.tp_model.specs.Pool.{PlainPool}
use Rattle.tp_model.specs.Clauses.{IsOpened, PoolCall, View}
use Rattle.tp_hub.specs.Told.{Told}
use Rattle.tp_hub.specs.Runs.{Incoming}
use Rattle.tp_users.specs.Lives.{IsLed, IsOpenedAs}

-- From this pool on a hub took these events and added their answers, all its sessions ended, and a stop left this image.
pub record IsLived {D : Type 0} (view : View D) (d : D) (events : List Incoming) (before after : Told) (image : view.Image) : Type 0 where
  pub last : D
  pub led : IsLed view.outline (PoolCall view) d events before after last
  pub left : view.may_leave last image

-- such a life of a pool that stands for this plain one from its beginning
pub record IsFirstLife {D : Type 0} (view : View D) (s : PlainPool) (events : List Incoming) (before after : Told) (image : view.Image) : Type 0 where
  pub pool : D
  pub opened : IsOpenedAs view s pool
  pub life : IsLived view pool events before after image

-- such a life of a pool that was opened from an image
pub record IsNextLife {D : Type 0} (view : View D) (from : view.Image) (events : List Incoming) (before after : Told) (image : view.Image) : Type 0 where
  pub pool : D
  pub opened : IsOpened view from pool
  pub life : IsLived view pool events before after image
