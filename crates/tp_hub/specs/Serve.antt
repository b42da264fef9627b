-- Trusted reading: one client over a hub, under the least number that is not open (own).
use Rattle.std.specs.Prelude.{◌≡◌, ℕ, ◌<◌, List, IsSome, None, ◌⊎◌}
use Rattle.tp_model.specs.Pool.{Outline}
use Rattle.tp_model.specs.Calls.{Call}
use Rattle.tp_model.specs.Calls as calls
use Rattle.tp_model.specs.Clauses.{PoolCall, Traced, TracedCall, View, outline_of_traced}
use Rattle.nbd_session.specs.declared.phase.Profile.{Profile}
use Rattle.tp_hub.specs.Told.{Answer, Told}
use Rattle.tp_hub.specs.Runs.{Incoming}
use Rattle.tp_hub.specs.Serving.{HubState, Slots, sessions_of, slot_at}
use Rattle.tp_hub.specs.Desks.{AreAsked, Exchange, RanSo}
use Rattle.tp_hub.specs.Streams.{Makes, StreamCall}
use Rattle.tp_hub.specs.Carrying.{IsCarried}
use Rattle.tp_hub.specs.declared.client.Carried.{Carried}
use Rattle.tp_hub.specs.declared.client.Carried.TheVariants.{InUse}

-- a number without a session, and none below it
pub record IsLeastFree (slots : Slots) (n : ℕ) : Type 0 where
  pub inside : n < 64
  pub free : slot_at slots n ≡ None
  pub least : (k : ℕ) → k < n → IsSome (slot_at slots k)

abbrev pub AreAllOpen : Slots → Type 0
AreAllOpen slots = (k : ℕ) → k < 64 → IsSome (slot_at slots k)

-- the same places over another pool
abbrev pub with_pool : {D S : Type 0} → HubState D → S → HubState S
with_pool h p = record { pool = p; slots = h.slots }

-- A run of a hub, with these answers. S: pools of any kind.
abbrev pub HubRan : {S : Type 0} → (S → Outline) → (S → Call → calls.Answer → S → Type 0) → HubState S → List Incoming → List Answer → HubState S → Type 0
HubRan outline Calls a took answers b = RanSo outline Calls (sessions_of a.slots) a.pool took answers (sessions_of b.slots) b.pool

module _ {D : Type 0} (view : View D) where
  -- over a pool that serves
  abbrev pub HubRuns : HubState D → List Incoming → List Answer → HubState D → Type 0
  HubRuns = HubRan view.outline (PoolCall view)

  -- and over its traced plain pool
  abbrev pub PlainRuns : HubState Traced → List Incoming → List Answer → HubState Traced → Type 0
  PlainRuns = HubRan outline_of_traced (TracedCall view.has_use)

-- Ran: what runs of a hub are, over one kind of pool.
module _ {S : Type 0} (Ran : HubState S → List Incoming → List Answer → HubState S → Type 0) where
  -- The client was carried over runs of the hub, under this number.
  abbrev pub IsServedAs : ℕ → Profile → HubState S → HubState S → List StreamCall → List StreamCall → Told → Carried → Type 0
  IsServedAs n profile old new calls calls' out ending = (xs : List Exchange) × AreAsked Ran old xs new × Makes calls calls' (λ did. IsCarried n profile out xs did ending)

  -- All numbers are open, and nothing was done; or the client was carried under the least that is not.
  abbrev pub IsServedBy : Profile → HubState S → HubState S → List StreamCall → List StreamCall → Told → Carried → Type 0
  IsServedBy profile old new calls calls' out ending =
      (AreAllOpen old.slots × (new ≡ old) × (calls' ≡ calls) × (ending ≡ InUse)) ⊎ ((n : ℕ) × IsLeastFree old.slots n × IsServedAs n profile old new calls calls' out ending)
