-- A message that was begun: it is refused, or made but for its commit and then flushed.
use Rattle.std.proofs.Common.{◌≡◌, ℕ, ◌+◌, Bool, true, false, Option, None, Some, Result, Ok, Err, List, refl, ap, subst}
use Rattle.std.specs.Prelude.{MatchOption, MatchResult, OnOk, if◌then◌else◌}
use Rattle.tp_model.specs.declared.mode.Mode.TheVariants as mode
use Rattle.tp_model.specs.declared.refusal.Refusal.{Refusal}
use Rattle.tp_model.specs.Geometry.{Geometry}
use Rattle.tp_model.specs.Pool.{Outline, PlainPool}
use Rattle.tp_model.specs.Calls.{Answer, Call, Done, Flush, Refused, ends_in_commit, holds_after, is_flush, is_writing}
use Rattle.tp_model.specs.Clauses.{Called, IsAnswered, Meets, Unkept, View, ViewLaws}
use Rattle.tp_model.specs.Disk.{DiskState}
use Rattle.tp_model.specs.DiskStops.{LeavesOnly}
use Rattle.tp_model.proofs.DiskStopLaws.{joins}
use Rattle.tp_model.proofs.Unkept.{flush_failed, flushed}
use Rattle.tp_stored.specs.Contents.{Contents}
use Rattle.tp_holders.specs.Holders.{holds_of}
use Rattle.tp_pool.specs.Flushes.{FlushesSo, HasChanged, HasFlushed, served}
use Rattle.tp_pool.specs.Held.{AnswersSo, EndsShort, Held, IsPool, IsTried, PoolAnswered, PoolCalled, PoolRefused, PoolTried, failed_by, shows, view}
use Rattle.tp_pool.specs.Unkept.{HasLeft, IsBegun, IsMade, IsUnkept, PoolBegun}
use Rattle.tp_pool.proofs.Answering.{settled_answers}
use Rattle.tp_pool.proofs.Calling.{Laws, settled}
use Rattle.tp_pool.proofs.Flushing.{settled_flushes}
use Rattle.tp_pool.proofs.Meeting.{met_same}

-- what was left changed by a part that is refused
pub left_of : {M : Type 0} (changed : M → Bool) (old new : M) (call : Call) (result : Result (Unit {0}) Refusal) → HasChanged changed old new call result → HasLeft changed old new result
left_of changed old new call (Ok x) h = record { committed = tt; unchanged = tt }
left_of changed old new call (Err reason) h = record { committed = h.committed; unchanged = h.unchanged }

module _ {M : Type 0} (geometry : M → Geometry) (stands : M → DiskState → Contents → Contents → Type 0) (marks : M → List Bool) (room : M → ℕ) (changed : M → Bool) where
  abbrev Whole : View (Held M)
  Whole = served geometry stands marks room changed

  -- a part that refuses for want of metadata room
  pub begun_short : (start old new : Held M) (call : Call) (result : Result (Unit {0}) Refusal) → EndsShort start new result → PoolTried geometry stands old new call result
      → PoolBegun geometry stands marks room changed old new call result
  begun_short start old new call (Ok x) ends tried = absurd ends
  begun_short start old new call (Err reason) ends tried = tried

  -- ---- what is said of a call does not hang on what is changed

  of_view : (old new : Held M) (call : Call) (answer : Answer) → Called Whole old new call answer → Called (view geometry stands) old new call answer
  of_view old new call answer c = record {
    time = record { later = c.time.later; still = c.time.still; earlier = c.time.earlier };
    cause = c.cause;
    opens = c.opens;
    meets = λ s shown. c.meets s shown;
  }

  answers_of_view : (old new : Held M) (call : Call) (answer : Answer) → IsAnswered Whole old new call answer → IsAnswered (view geometry stands) old new call answer
  answers_of_view old new call answer a = record {
    may = a.may;
    mode = a.mode;
    reads = a.reads;
    silent = λ yes. let q = a.silent yes in record { failures = q.failures; flushes = q.flushes; moment = q.moment };
  }

  -- ---- the flush behind it

  module _ (old mid new : Held M) (call : Call) (u : IsUnkept geometry stands marks room changed old mid call) where
    pools_joined : (answer : Answer) → PoolCalled geometry stands mid new Flush answer → (s : PlainPool) → shows geometry stands old s → LeavesOnly old.disk new.disk (IsPool (geometry old.metadata))
    pools_joined answer c s shown =
        let one = u.unkept.meets s shown in
        let same : geometry mid.metadata ≡ geometry old.metadata = ap (λ (o : Outline). o.geometry) u.unkept.outline in
        joins {P = IsPool (geometry old.metadata)} (u.opens s shown)
        (subst (λ (g : Geometry). LeavesOnly mid.disk new.disk (IsPool g)) same (c.opens one.0 one.3))

    pub flushed_behind : ViewLaws Whole → ends_in_commit call ≡ true → is_flush call ≡ false → geometry new.metadata ≡ geometry mid.metadata → new.holders ≡ mid.holders
        → (result : Result (Unit {0}) Refusal) → PoolAnswered geometry stands mid new Flush result → AnswersSo geometry stands mid new Flush result
        → FlushesSo geometry stands marks room changed mid new Flush result → IsMade geometry stands marks room changed old new call result
    flushed_behind view_laws ends other same holders (Ok x) c answered flushes =
        let met : Meets Whole mid new Flush Done = met_same geometry stands marks room changed mid new Flush same (Ok x) (λ answer. refl) holders c answered flushes in
        let m : Meets Whole old new call Done = flushed Whole view_laws old mid new call ends other u.unkept met in
        record {
          called = record { called = of_view old new call Done m.called; opens = λ s shown. pools_joined Done c s shown };
          answered = answers_of_view old new call Done m.answered;
          flushes = m.flushes;
        }
    flushed_behind view_laws ends other same holders (Err reason) c answered flushes =
        let met : Meets Whole mid new Flush (Refused reason) = met_same geometry stands marks room changed mid new Flush same (Err reason) (λ answer. refl) holders c answered flushes in
        let m : Meets Whole old new call (Refused reason) = flush_failed Whole view_laws old mid new call ends other u.unkept reason met in
        record {
          called = record { called = of_view old new call (Refused reason) m.called; opens = λ s shown. pools_joined (Refused reason) c s shown };
          answered = answers_of_view old new call (Refused reason) m.answered;
          flushes = m.flushes;
        }

  -- ---- as it is told to those who lead the pool

  pub told_begun : (old new : Held M) (call : Call) → ((answer : Answer) → holds_after (holds_of old.holders) call answer ≡ holds_of old.holders) → geometry new.metadata ≡ geometry old.metadata
      → new.holders ≡ old.holders → (begun : Option (Result (Unit {0}) Refusal)) → IsBegun geometry stands marks room changed old new call begun
      → MatchOption begun (Unkept Whole old new call) (λ answer. MatchResult answer (λ _. Meets Whole old new call Done) (λ reason. Meets Whole old new call (Refused reason)))
  told_begun old new call no_holds same holders None u = u.unkept
  told_begun old new call no_holds same holders (Some answer) m = met_same geometry stands marks room changed old new call same answer no_holds holders m.called m.answered m.flushes

  -- where nothing was changed it is one flush
  pub flushed_once : (mid new : Held M) (result : Result (Unit {0}) Refusal) → FlushesSo geometry stands marks room changed mid new Flush result → mid.mode ≡ mode.Writable → changed mid.metadata ≡ false
      → OnOk result (new.disk.flushes ≡ mid.disk.flushes + 1)
  flushed_once mid new (Ok x) f works none = subst (λ (b : Bool). new.disk.flushes ≡ mid.disk.flushes + (if b then 2 else 1)) none (f.exact refl works refl)
  flushed_once mid new (Err reason) f works none = tt

-- the pool is failed where it has to be
module _ {M : Type 0} {geometry : M → Geometry} {stands : M → DiskState → Contents → Contents → Type 0} {marks : M → List Bool} {room : M → ℕ}
    (laws : Laws geometry stands marks room) (changed : M → Bool) (call : Call) (writes : is_writing call ≡ true) (other : is_flush call ≡ false) where
  pub begun_refused : (old mid new : Held M) (reason : Refusal) (result : Result (Unit {0}) Refusal) → result ≡ Err reason → new ≡ failed_by reason mid
      → PoolRefused geometry stands old (failed_by reason mid) call reason → IsTried old mid call (Err reason) → HasFlushed geometry stands marks room old mid.disk call
      → HasLeft changed old.metadata mid.metadata (Err reason) → IsMade geometry stands marks room changed old new call result
  begun_refused old mid new reason result same failed refused tried counted left = record {
    called = settled laws call old mid new (Err reason) result same tt failed refused;
    answered = settled_answers geometry stands call old mid new (Err reason) result writes same tt failed tried;
    flushes =
        settled_flushes geometry stands marks room changed call old mid new (Err reason) result writes other same tt failed counted
        (record { committed = left.committed; unchanged = left.unchanged });
  }
