-- A call of the pool on a cache, as one of the pool over the disk under it.
use Rattle.std.proofs.Common.{◌≡◌, ℕ, ◌≤◌, Bool, false, List, Option, Some, None, length, Result, Ok, Err, ap, refl, subst, sym, ◌∙◌}
use Rattle.std.proofs.lemmas.Bool.{false≢true}
use Rattle.std.proofs.lemmas.Option.{same_Some}
use Rattle.std.proofs.lemmas.Result.{on_ok_weaker}
use Rattle.std.specs.Option.{IsSome}
use Rattle.std.specs.Prelude.{IfErr, MatchResult, OnOk, if◌then◌else◌, not}
use Rattle.tp_model.specs.declared.refusal.Refusal.{Refusal}
use Rattle.tp_model.specs.Geometry.{Geometry}
use Rattle.tp_model.specs.Calls.{Answer, Call, Close, Done, Refused, ends_in_commit, holds_after}
use Rattle.tp_model.specs.Clauses.{Called, EndsInVolume, Flushes, IsAnswered, Meets, MetBy, Unkept, View}
use Rattle.tp_model.specs.Pool.{PlainPool}
use Rattle.tp_model.specs.Disk.{Cell, DiskState, IsSettled, after_read}
use Rattle.tp_model.specs.Refusals.{is_fault_refusal}
use Rattle.tp_pool.specs.Checked.{IsOnlyRead}
use Rattle.tp_cache.specs.Line.{IsLine}
use Rattle.tp_cache.specs.Table as tables
use Rattle.tp_stored.specs.Contents.{Contents}
use Rattle.tp_pool.specs.Besides.{besides_of}
use Rattle.tp_pool.specs.Flushes as pools
use Rattle.tp_pool.specs.Flushes.{PoolClosed, served}
use Rattle.tp_pool.proofs.Meeting.{answers_of_served, is_sized, meeting, of_served, told_alike}
use Rattle.tp_pool.specs.Held.{Held, PoolCalled, PoolRefused, shows, view}
use Rattle.tp_holders.specs.Holders.{holds_of}
use Rattle.tp_msg.specs.declared.message.Message.{Message}
use Rattle.tp_msg.specs.Asked.{IsMessageBegun, call_of}
use Rattle.tp_served.specs.Served.{Cached, IsClosed, IsKnown, IsUnwritten, StaysInPlace, cached, disk_of, got, on_cache}
use Rattle.tp_served.proofs.Inner.{LeftLaw, answers_under, called_under, flushes_exact, flushes_under, meets_under, same_under, unkept_under}

pub got_is : {A : Type 0} (o : Option A) (there : IsSome o) (a : A) → o ≡ Some a → a ≡ got o there
got_is None there a e = absurd (false≢true there)
got_is (Some x) there a e = same_Some a x (sym e)

pub met_geometry : {D : Type 0} {A : Type 0} (v : View D) (old new : D) (call : Call) (meant : A → Answer) (r : Result A Refusal) → MetBy v old new call meant r → (v.outline new).geometry ≡ (v.outline old).geometry
met_geometry v old new call meant (Ok x) m = m.geometry
met_geometry v old new call meant (Err reason) m = m.geometry

-- The moment that a call was given is that of the cache which is taken out of its place for it.
pub start_taken : {M : Type 0} (o : Option (Cached M)) (there : IsSome o) (i : Cached M) (start : tables.Held) → o ≡ Some i → start ≡ (got o there).cache → start ≡ i.cache
start_taken {M} o there i start is begun = begun ∙ ap (λ (c : Cached M). c.cache) (sym (got_is o there i is))

module _ {M : Type 0} (geometry : M → Geometry) where
  -- What is known of the parts that are taken out of their place, and of the pool on them, is known of what stood there.
  pub taken : (o : Option (Cached M)) (there : IsSome o) (i : Cached M) (p : Held M) → o ≡ Some i → IsKnown geometry i → p ≡ on_cache i → (IsKnown geometry (got o there)) × (p ≡ on_cache (got o there))
  taken o there i p is known before =
      let same : i ≡ got o there = got_is o there i is in
      (subst (λ (c : Cached M). IsKnown geometry c) same known, before ∙ ap (λ (c : Cached M). on_cache c) same)

  -- The cache was made for as many metadata blocks as a pool of the same sizes has.
  pub blocks_same : (o : Option (Cached M)) (there : IsSome o) (i : Cached M) (p q : Held M) (start : tables.Held) → o ≡ Some i → IsKnown geometry i → start ≡ (got o there).cache → p ≡ on_cache i
      → geometry q.metadata ≡ geometry p.metadata → length start.index ≤ (geometry q.metadata).metadata_blocks
  blocks_same o there i p q start is known begun before same =
      subst (λ (g : Geometry). length start.index ≤ g.metadata_blocks) (sym (same ∙ ap (λ (h : Held M). geometry h.metadata) before))
      (subst (λ (c : tables.Held). length c.index ≤ (geometry i.besides.metadata).metadata_blocks) (sym (start_taken o there i start is begun)) known.blocks)

module _ {M : Type 0} (geometry : M → Geometry) (stands : M → DiskState → Contents → Contents → Type 0) (marks : M → List Bool) (room : M → ℕ) (changed : M → Bool)
    (left : LeftLaw geometry stands marks room changed) where
  -- the number of metadata blocks of the pool that the cache was made for
  pub blocks_stay : {A : Type 0} (o : Option (Cached M)) (there : IsSome o) (i : Cached M) (p q : Held M) (start : tables.Held) (call : Call) (meant : A → Answer) (r : Result A Refusal) → o ≡ Some i → IsKnown geometry i
      → start ≡ (got o there).cache → p ≡ on_cache i → MetBy (served geometry stands marks room changed) p q call meant r → length start.index ≤ (geometry q.metadata).metadata_blocks
  blocks_stay o there i p q start call meant r is known begun before met =
      blocks_same geometry o there i p q start is known begun before (met_geometry (served geometry stands marks room changed) p q call meant r met)

  pub met_under : {A : Type 0} (old new : Cached M) (p q : Held M) (start : tables.Held) (call : Call) (meant : A → Answer) (r : Result A Refusal) → IsKnown geometry old → IsLine new.cache.line
      → start ≡ old.cache → p ≡ on_cache old → on_cache new ≡ q → tables.Since start new.cache → MetBy (served geometry stands marks room changed) p q call meant r
      → MetBy (cached geometry stands marks room changed) old new call meant r
  met_under {A} old new p q start call meant r was is begun before after since met =
      by r (subst (λ (h : Held M). MetBy (served geometry stands marks room changed) (on_cache old) h call meant r) (sym after)
      (subst (λ (h : Held M). MetBy (served geometry stands marks room changed) h q call meant r) before met))
    where
      went : tables.Since old.cache new.cache
      went = subst (λ (c : tables.Held). tables.Since c new.cache) begun since

      by : (x : Result A Refusal) → MetBy (served geometry stands marks room changed) (on_cache old) (on_cache new) call meant x → MetBy (cached geometry stands marks room changed) old new call meant x
      by (Ok y) m = meets_under geometry stands marks room changed left old new was is went call (meant y) m
      by (Err reason) m = meets_under geometry stands marks room changed left old new was is went call (Refused reason) m

  -- where a range ends in a volume
  pub ends_lent : (o : Option (Cached M)) (there : IsSome o) (i : Cached M) (p : Held M) (id end : ℕ) → o ≡ Some i → p ≡ on_cache i → EndsInVolume (cached geometry stands marks room changed) (got o there) id end
      → EndsInVolume (view geometry stands) p id end
  ends_lent o there i p id end is before ends =
      subst (λ (h : Held M). EndsInVolume (view geometry stands) h id end) (sym (before ∙ ap (λ (c : Cached M). on_cache c) (got_is o there i is))) ends

  -- a call for which the parts are taken out of their place
  pub met_lent : {A : Type 0} (o : Option (Cached M)) (there : IsSome o) (i new : Cached M) (p q : Held M) (start : tables.Held) (call : Call) (meant : A → Answer) (r : Result A Refusal) → o ≡ Some i → IsKnown geometry i
      → IsLine new.cache.line → start ≡ (got o there).cache → p ≡ on_cache i → on_cache new ≡ q → tables.Since start new.cache → MetBy (served geometry stands marks room changed) p q call meant r
      → MetBy (cached geometry stands marks room changed) (got o there) new call meant r
  met_lent o there i new p q start call meant r is known line begun before after since met =
      let was = taken geometry o there i p is known before in
      met_under (got o there) new p q start call meant r was.0 line begun was.1 after since met

  -- a message that is answered, or made but for its commit
  pub begun_under : (old new : Cached M) (p q : Held M) (start : tables.Held) (message : Message) (r : Option (Result (Unit {0}) Refusal)) → IsKnown geometry old → IsLine new.cache.line
      → start ≡ old.cache → p ≡ on_cache old → on_cache new ≡ q → tables.Since start new.cache → IsMessageBegun (served geometry stands marks room changed) p q message r
      → IsMessageBegun (cached geometry stands marks room changed) old new message r
  begun_under old new p q start message None was is begun before after since u =
      let V = served geometry stands marks room changed in
      let on : Unkept V (on_cache old) (on_cache new) (call_of message)
      = subst (λ (h : Held M). Unkept V (on_cache old) h (call_of message)) (sym after) (subst (λ (h : Held M). Unkept V h q (call_of message)) before u) in
      let went : tables.Since old.cache new.cache = subst (λ (c : tables.Held). tables.Since c new.cache) begun since in
      unkept_under geometry stands marks room changed left old new was is went (call_of message) Done on
  begun_under old new p q start message (Some answer) was is begun before after since met =
      met_under old new p q start (call_of message) (λ (x : Unit {0}). Done) answer was is begun before after since met

  -- a write in place
  pub in_place_under : (old new : Cached M) (p q : Held M) (start : tables.Held) (call : Call) (r : Result (Unit {0}) Refusal) → IsKnown geometry old → IsLine new.cache.line
      → start ≡ old.cache → p ≡ on_cache old → on_cache new ≡ q → tables.Since start new.cache → MetBy (served geometry stands marks room changed) p q call (λ x. Done) r
      → OnOk r (pools.StaysInPlace geometry stands marks room changed p q call) → OnOk r (StaysInPlace geometry stands marks room changed old new call)
  in_place_under old new p q start call (Err reason) was is begun before after since met stays = tt
  in_place_under old new p q start call (Ok x) was is begun before after since met stays =
      let V = served geometry stands marks room changed in
      let S = pools.StaysInPlace geometry stands marks room changed in
      let on : Meets V (on_cache old) (on_cache new) call Done
      = subst (λ (h : Held M). Meets V (on_cache old) h call Done) (sym after) (subst (λ (h : Held M). Meets V h q call Done) before met) in
      let here : S (on_cache old) (on_cache new) call
      = subst (λ (h : Held M). S (on_cache old) h call) (sym after) (subst (λ (h : Held M). S h q call) before stays) in
      let went : tables.Since old.cache new.cache = subst (λ (c : tables.Held). tables.Since c new.cache) begun since in
      λ place.
      let left = here place in
      record {
        unchanged = left.unchanged;
        flushes = flushes_exact old new was is went (if ends_in_commit call then (if changed old.besides.metadata then 2 else 1) else 0) on.called.cause left.flushes;
      }

  -- a call that is refused with nothing but reads
  pub unwritten_under : (old new : Cached M) (p q : Held M) (start : tables.Held) (r : Result (Unit {0}) Refusal) → IsKnown geometry old → IsLine new.cache.line
      → start ≡ old.cache → p ≡ on_cache old → on_cache new ≡ q → tables.Since start new.cache → IsOnlyRead p q r → IsUnwritten old new r
  unwritten_under old new p q start r was is begun before after since reads =
      let on : IsOnlyRead (on_cache old) (on_cache new) r
      = subst (λ (h : Held M). IsOnlyRead (on_cache old) h r) (sym after) (subst (λ (h : Held M). IsOnlyRead h q r) before reads) in
      record { reads = on; disk = by r on }
    where
      went : tables.Since old.cache new.cache
      went = subst (λ (c : tables.Held). tables.Since c new.cache) begun since

      by : (x : Result (Unit {0}) Refusal) → IsOnlyRead (on_cache old) (on_cache new) x → IfErr x (λ reason. is_fault_refusal reason ≡ false → disk_of new ≡ disk_of old)
      by (Ok y) h = absurd h
      by (Err reason) h =
          λ works. same_under old new was is went (ap (λ (p : Held M). p.disk) h ∙ ap (λ (b : Bool). after_read (not b) old.cache.line.outer) works)

  -- ---- a pool that is closed

  module _ (old : Cached M) (p : Held M) (start life : tables.Held) (outer disk : DiskState) (was : IsKnown geometry old) (is : IsLine life.line) (begun : start ≡ old.cache) (before : p ≡ on_cache old)
      (since : tables.Since start life) (on : outer ≡ life.line.outer) (under : life.line.inner ≡ disk) where
    closed_under : (answer : Answer) → PoolClosed geometry stands marks room changed p outer answer → IsClosed geometry stands marks room changed old disk answer
    closed_under answer closed =
        let last = closed.0 in
        let new : Cached M = record { cache = life; besides = besides_of last } in
        let same : last ≡ on_cache new = (λ i. record { disk = (closed.2 ∙ on) i; metadata = last.metadata; holders = last.holders; mode = last.mode }) in
        let V = served geometry stands marks room changed in
        let went = subst (λ (c : tables.Held). tables.Since c life) begun since in
        let called : Called V (on_cache old) (on_cache new) Close answer
        = subst (λ (h : Held M). Called V h (on_cache new) Close answer) before
        (subst (λ (h : Held M). Called V p h Close answer) same (of_served geometry stands marks room changed p last Close answer closed.1.called)) in
        let answered : IsAnswered V (on_cache old) (on_cache new) Close answer
        = subst (λ (h : Held M). IsAnswered V h (on_cache new) Close answer) before
        (subst (λ (h : Held M). IsAnswered V p h Close answer) same (answers_of_served geometry stands marks room changed p last Close answer closed.3)) in
        let flushes : Flushes V (on_cache old) (on_cache new) Close answer
        = subst (λ (h : Held M). Flushes V h (on_cache new) Close answer) before (subst (λ (h : Held M). Flushes V p h Close answer) same closed.4) in
        record {
          new = new;
          line = is;
          disk_is = under;
          called = called_under geometry stands marks room changed left old new was is went Close answer answered called;
          answered = answers_under geometry stands marks room changed left old new was is went Close answer flushes answered;
          flushes = flushes_under geometry stands marks room changed left old new was is went Close answer called.cause flushes;
        }

    pub closed_by : (r : Result (Unit {0}) Refusal)
        → MatchResult r (λ _. PoolClosed geometry stands marks room changed p outer Done) (λ reason. PoolClosed geometry stands marks room changed p outer (Refused reason))
        → MatchResult r (λ _. IsClosed geometry stands marks room changed old disk Done) (λ reason. IsClosed geometry stands marks room changed old disk (Refused reason))
    closed_by (Ok x) closed = closed_under Done closed
    closed_by (Err reason) closed = closed_under (Refused reason) closed

    settled_under : (s : PlainPool) → ((t : PlainPool) → shows geometry stands p t → IsSettled outer.cells) → shows geometry stands (on_cache old) s → IsSettled disk.cells
    settled_under s settled shown =
        let cells : IsSettled life.line.outer.cells
        = subst (λ (d : DiskState). IsSettled d.cells) on (settled s (subst (λ (h : Held M). shows geometry stands h s) (sym before) shown)) in
        subst (λ (d : DiskState). IsSettled d.cells) under (subst (λ (l : List Cell). IsSettled l) (sym (is.settled cells)) cells)

    pub settled_by : (r : Result (Unit {0}) Refusal) → OnOk r ((s : PlainPool) → shows geometry stands p s → IsSettled outer.cells) → OnOk r ((s : PlainPool) → shows geometry stands (on_cache old) s → IsSettled disk.cells)
    settled_by r clause = on_ok_weaker r (λ settled s shown. settled_under s settled shown) clause

-- a call that changes no holds, and tells something but a size
module _ {M : Type 0} (geometry : M → Geometry) (stands : M → DiskState → Contents → Contents → Type 0) (marks : M → List Bool) (room : M → ℕ) (changed : M → Bool)
    {A : Type 0} (old new : Held M) (call : Call) (meant : A → Answer) where
  pub met_told : geometry new.metadata ≡ geometry old.metadata → ((x : A) → is_sized (meant x) ≡ false) → ((answer : Answer) → holds_after (holds_of old.holders) call answer ≡ holds_of old.holders) → new.holders ≡ old.holders
      → (r : Result A Refusal) → MatchResult r (λ x. PoolCalled geometry stands old new call (meant x)) (λ reason. PoolRefused geometry stands old new call reason)
      → MatchResult r (λ x. IsAnswered (view geometry stands) old new call (meant x)) (λ reason. IsAnswered (view geometry stands) old new call (Refused reason))
      → MatchResult r (λ x. Flushes (served geometry stands marks room changed) old new call (meant x)) (λ reason. Flushes (served geometry stands marks room changed) old new call (Refused reason))
      → MetBy (served geometry stands marks room changed) old new call meant r
  met_told same no_size no_holds holders (Ok x) c answered flushes =
      meeting geometry stands marks room changed old new call same (meant x) (no_size x) (ap holds_of holders ∙ sym (no_holds (meant x))) (told_alike old.holders new.holders holders) c answered flushes
  met_told same no_size no_holds holders (Err reason) c answered flushes =
      meeting geometry stands marks room changed old new call same (Refused reason) refl (ap holds_of holders ∙ sym (no_holds (Refused reason))) (told_alike old.holders new.holders holders) c answered flushes
