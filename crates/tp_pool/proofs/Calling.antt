-- From the disk's moments in a call to the clause of the call.
use Rattle.std.proofs.Common.{◌≡◌, inl, inr, ℕ, Bool, true, false, None, Some, Result, Ok, Err, List, [], refl, sym, ◌∙◌, ap, subst, arith}
use Rattle.std.specs.Prelude.{IsTrue, OnOk, IfErr}
use Rattle.std.specs.Bool.{MatchBool}
use Rattle.std.proofs.lemmas.Bool.{false≢true}
use Rattle.tp_model.specs.declared.mode.Mode.{Mode}
use Rattle.tp_model.specs.declared.mode.Mode.TheVariants as mode
use Rattle.tp_model.specs.declared.refusal.Refusal.{Refusal}
use Rattle.tp_model.specs.declared.refusal.Refusal.TheVariants.{Failed, Fault}
use Rattle.tp_model.specs.Geometry.{Geometry}
use Rattle.tp_model.specs.Pool.{PlainPool}
use Rattle.tp_model.specs.Calls.{Call, Answer, Done, Refused, Step, Takes, HasCause, Makes, refusal_of, reply, after_refusal, is_failed, is_writing}
use Rattle.tp_model.specs.PoolStops.{Event, GivenBy, Nothing, MayReopen, StopsWithin, keeps}
use Rattle.tp_model.specs.Clauses.{found_now, found_since}
use Rattle.tp_model.specs.Disk.{DiskState, after_read}
use Rattle.tp_model.specs.DiskStops.{Leaves, LeavesOnly, moments}
use Rattle.tp_model.proofs.PoolStopLaws.{StopsWithin-map}
use Rattle.tp_model.proofs.Steps.{step_accepted, step_refused}
use Rattle.tp_model.proofs.DiskStopLaws.{stopped, now, starts, stays, weakens}
use Rattle.tp_stored.specs.Contents.{Contents, HoldsContents}
use Rattle.tp_meta.specs.Metadata.{AreWithin, IsLater, KeepsMetadata}
use Rattle.tp_holders.specs.Holders.{holds_of}
use Rattle.tp_pool.specs.Held.{Held, HasPool, IsPool, PoolAnswered, PoolCalled, PoolRefused, PoolTried, failed_by, may_leave, moment_of, left_since, shows, view}
use Rattle.tp_pool.proofs.Times.{at_once, goes_on}
use Rattle.tp_pool.proofs.Images.{pool_there, some_pool}
use Rattle.tp_pool.proofs.Stops.{IsLeft, at_rest}

-- the laws of a pool's metadata
pub record Laws {M : Type 0} (geometry : M → Geometry) (stands : M → DiskState → Contents → Contents → Type 0) (marks : M → List Bool) (room : M → ℕ) : Type 0 where
  pub within : (metadata : M) (disk : DiskState) (now kept : Contents) → stands metadata disk now kept → AreWithin (geometry metadata) (room metadata) (marks metadata) now kept
  pub honest : (metadata : M) (disk : DiskState) (now kept : Contents) → stands metadata disk now kept → IsTrue disk.is_honest
  pub left : (metadata : M) (disk : DiskState) (now kept : Contents) → stands metadata disk now kept → Leaves (HoldsContents (geometry metadata) kept) disk.cells
  pub frame : (metadata : M) (old new : DiskState) (now kept : Contents) → KeepsMetadata (geometry metadata) old new → stands metadata old now kept → stands metadata new now kept

pub keeps_read : (g : Geometry) (ok : Bool) (disk : DiskState) → KeepsMetadata g disk (after_read ok disk)
keeps_read g ok disk = record {
  same_disk = record { size = refl; is_honest = refl };
  seen_same = record { same_length = refl; same = λ i low. refl };
  left = λ image stop. (image, stop, record { same_length = refl; same = λ i low. refl });
}

works_not_failed : (m : Mode) → is_failed m ≡ false → m ≡ mode.Failed → ⊥
works_not_failed m works e = false≢true (sym works ∙ ap is_failed e)

module _ {M : Type 0} {geometry : M → Geometry} {stands : M → DiskState → Contents → Contents → Type 0} {marks : M → List Bool} {room : M → ℕ} (laws : Laws geometry stands marks room) where
  abbrev Shows : Held M → PlainPool → Type 0
  Shows = shows geometry stands

  -- what a call makes of a state that is shown
  abbrev pub Met : Held M → Held M → PlainPool → Call → Answer → Type 0
  Met old new s call answer =
      (made : PlainPool) × (after : PlainPool) × Takes s call answer made after × Shows new after
      × StopsWithin (may_leave old) (record { before = s; call = call; answer = answer; made = made }) (left_since new (moment_of old)) (may_leave new)
      × LeavesOnly old.disk new.disk (IsPool (geometry old.metadata))

  -- what a stop leaves of a pool is a pool
  pub pool_left : (h : Held M) (now kept : Contents) (s : PlainPool) → HasPool geometry stands h now kept s → Leaves (IsPool (geometry h.metadata)) h.disk.cells
  pool_left h now kept s pool image stop = (kept, laws.left h.metadata h.disk now kept pool.standing image stop)

  pub pools_left : (h : Held M) (s : PlainPool) → Shows h s → Leaves (IsPool (geometry h.metadata)) h.disk.cells
  pools_left h s (inl w) = pool_left h w.0 w.1 s w.2
  pools_left h s (inr f) = f.left

  pub called : (old new : Held M) (call : Call) (answer : Answer) → IsLater old.disk new.disk → HasCause old.disk.failures answer new.disk.failures
      → ((s : PlainPool) → Shows old s → Met old new s call answer) → PoolCalled geometry stands old new call answer
  called old new call answer later cause meets = record {
    called = record {
      time = goes_on geometry stands old new later;
      cause = cause;
      opens = λ s shown image left.
          let is = some_pool (geometry old.metadata) image (stopped (meets s shown).5 image left) in
          let P = pool_there image is in
          (P.0, (is, P.1));
      meets = λ s shown.
          let m = meets s shown in (
            m.0,
            m.1,
            m.2,
            m.3,
            StopsWithin-map (may_leave old) (found_now (view geometry stands) old) (left_since new (moment_of old)) (found_since (view geometry stands) new (moment_of old)) (may_leave new) (found_now (view geometry stands) new)
                (record { before = s; call = call; answer = answer; made = m.0 })
                (λ S l. (l.0, l.1, (some_pool (geometry old.metadata) l.0 (pools_left old s shown l.0 l.1), l.2)))
                (λ P l. (l.0, l.1, l.2.1)) (λ P l. (l.0, l.1, l.2.1)) m.4,
          );
    };
    opens = λ s shown. (meets s shown).5;
  }

  pub called_working : (old new : Held M) (call : Call) (answer : Answer) → is_failed old.mode ≡ false → IsLater old.disk new.disk → HasCause old.disk.failures answer new.disk.failures
      → ((s : PlainPool) (now kept : Contents) → HasPool geometry stands old now kept s → Met old new s call answer) → PoolCalled geometry stands old new call answer
  called_working old new call answer works later cause meets =
      called old new call answer later cause (λ s shown.
      elim shown [
        | inl w ↦ meets s w.0 w.1 w.2
        | inr failed ↦ absurd (works_not_failed old.mode works failed.failed)
      ])

  pub shows_read : (ok : Bool) (h : Held M) (s : PlainPool) → Shows h s → Shows (record h { disk = after_read ok h.disk }) s
  shows_read ok h s (inl w) =
      let p = w.2 in
      inl (
        w.0,
        w.1,
        record {
          standing = laws.frame h.metadata h.disk (after_read ok h.disk) w.0 w.1 (keeps_read (geometry h.metadata) ok h.disk) p.standing;
          has = p.has;
          mode_is = p.mode_is;
          holds = p.holds;
          spare = p.spare;
          works = p.works;
          check = p.check;
          settled = λ read_only. record { contents = (p.settled read_only).contents; cells = (p.settled read_only).cells };
          sound = p.sound;
          found = p.found;
          known = p.known;
        },
      )
  shows_read ok h s (inr f) = inr (record { failed = f.failed; mode_is = f.mode_is; geometry_is = f.geometry_is; holds = f.holds; left = f.left })

  -- while each moment of the call leaves only images of which IsLeft holds
  abbrev pub LeavesDuring : Held M → Held M → Event → Type 0
  LeavesDuring old new e = LeavesOnly old.disk new.disk (IsLeft (geometry old.metadata) old e)

  pub opens_during : (old new : Held M) (e : Event) → LeavesDuring old new e → LeavesOnly old.disk new.disk (IsPool (geometry old.metadata))
  opens_during old new e left = weakens {P = IsLeft (geometry old.metadata) old e} {Q = IsPool (geometry old.metadata)} (λ image is. is.0) left

  pub stops_within : (old new : Held M) (e : Event) → LeavesDuring old new e → (IsTrue (keeps e.call e.answer) → (P : PlainPool) → may_leave new P → MayReopen e.made Nothing P)
      → StopsWithin (may_leave old) e (left_since new (moment_of old)) (may_leave new)
  stops_within old new e left kept = record {
    any_moment = λ P h. (stopped left h.0 h.1).1 P h.2;
    now = λ P h. (now left h.0 h.1).1 P h.2;
    kept = kept;
  }

  -- a stop leaves what it might have left before the call
  pub rests : (old new : Held M) (e : Event) → moments new.disk ≡ moments old.disk → Leaves (IsPool (geometry old.metadata)) old.disk.cells → LeavesDuring old new e
  rests old new e same left =
      stays {P = IsLeft (geometry old.metadata) old e}
      (starts {P = IsLeft (geometry old.metadata) old e} old.disk
      (λ image stop. (left image stop, λ P stands_for. inl (P, inl (image, stop, stands_for), at_rest image P (GivenBy e) stands_for)))) same

  -- ---- calls that are refused

  -- the call changes nothing but that the disk was read
  pub met_refused : (old : Held M) (s : PlainPool) (call : Call) (reason : Refusal) → Shows old s → refusal_of s call ≡ Some reason → after_refusal reason s ≡ s → keeps call (Refused reason) ≡ false
      → Met old old s call (Refused reason)
  met_refused old s call reason shown refuses same keeps_not =
      let e : Event = record { before = s; call = call; answer = Refused reason; made = s } in
      let left = rests old old e refl (pools_left old s shown) in (
        s,
        s,
        inl (subst (λ (q : PlainPool). Step s call (Refused reason) q) same (step_refused s call reason refuses), refl),
        shown,
        stops_within old old e left (λ yes. absurd (false≢true (sym keeps_not ∙ yes))),
        opens_during old old e left,
      )

  pub called_refused : (old : Held M) (call : Call) (reason : Refusal) → HasCause old.disk.failures (Refused reason) old.disk.failures → ((s : PlainPool) → after_refusal reason s ≡ s)
      → keeps call (Refused reason) ≡ false → ((s : PlainPool) → Shows old s → refusal_of s call ≡ Some reason) → PoolCalled geometry stands old old call (Refused reason)
  called_refused old call reason cause same keeps_not refuses =
      called old old call (Refused reason) (at_once old.disk) cause (λ s shown. met_refused old s call reason shown (refuses s shown) (same s) keeps_not)

  pub mode_shown : (old : Held M) (s : PlainPool) → Shows old s → s.mode ≡ old.mode
  mode_shown old s (inl w) = w.2.mode_is
  mode_shown old s (inr f) = f.mode_is ∙ sym f.failed

  -- a failed pool refuses the call
  pub called_failed : (old : Held M) (call : Call) → is_failed old.mode ≡ true → ((s : PlainPool) → is_failed s.mode ≡ true → refusal_of s call ≡ Some Failed) → keeps call (Refused Failed) ≡ false
      → PoolCalled geometry stands old old call (Refused Failed)
  called_failed old call failed refuses keeps_not =
      called_refused old call Failed refl (λ s. refl) keeps_not (λ s shown. refuses s (ap is_failed (mode_shown old s shown) ∙ failed))

  -- ---- calls that do not write

  -- the disk failed in it
  pub called_unread : (old : Held M) (call : Call) → is_writing call ≡ false → keeps call (Refused Fault) ≡ false → PoolCalled geometry stands old (record old { disk = after_read false old.disk }) call (Refused Fault)
  called_unread old call reads keeps_not =
      let new : Held M = record old { disk = after_read false old.disk } in
      called old new call (Refused Fault) (record { between = []; joined = refl }) (omega arith)
      (λ s shown.
      let e : Event = record { before = s; call = call; answer = Refused Fault; made = s } in
      let W : Bool → Type 0 = λ b. MatchBool b (((meant : Answer) × Step s call meant s) × (s ≡ record s { mode = mode.Failed })) ((s ≡ s) × (s ≡ s)) in
      let left = rests old new e refl (pools_left old s shown) in (
        s,
        s,
        inr (refl, subst W (sym reads) (refl, refl)),
        shows_read false old s shown,
        stops_within old new e left (λ yes. absurd (false≢true (sym keeps_not ∙ yes))),
        opens_during old new e left,
      ))

  -- it was answered, and changes who holds what at most
  pub met_answered : (old new : Held M) (s made : PlainPool) (call : Call) → Shows old s → refusal_of s call ≡ None → Makes s call made → Shows new made → moments new.disk ≡ moments old.disk
      → keeps call (reply s call) ≡ false → Met old new s call (reply s call)
  met_answered old new s made call was accepts makes shown same keeps_not =
      let e : Event = record { before = s; call = call; answer = reply s call; made = made } in
      let left = rests old new e same (pools_left old s was) in (
        made,
        made,
        inl (step_accepted s call made accepts makes, refl),
        shown,
        stops_within old new e left (λ yes. absurd (false≢true (sym keeps_not ∙ yes))),
        opens_during old new e left,
      )

  -- ---- calls that write

  pub met_done : (old new : Held M) (s made : PlainPool) (call : Call) → refusal_of s call ≡ None → reply s call ≡ Done → Makes s call made → Shows new made
      → LeavesDuring old new (record { before = s; call = call; answer = Done; made = made }) → (IsTrue (keeps call Done) → (P : PlainPool) → may_leave new P → MayReopen made Nothing P) → Met old new s call Done
  met_done old new s made call accepts says makes shown left kept = (
    made,
    made,
    inl (subst (λ (a : Answer). Step s call a made) says (step_accepted s call made accepts makes), refl),
    shown,
    stops_within old new (record { before = s; call = call; answer = Done; made = made }) left kept,
    opens_during old new (record { before = s; call = call; answer = Done; made = made }) left,
  )

  pub met_fault : (old new : Held M) (s made : PlainPool) (call : Call) (meant : Answer) → is_writing call ≡ true → keeps call (Refused Fault) ≡ false → Step s call meant made → new.mode ≡ mode.Failed
      → geometry new.metadata ≡ geometry old.metadata → made.geometry ≡ geometry new.metadata → made.holds ≡ holds_of new.holders → LeavesDuring old new (record { before = s; call = call; answer = Refused Fault; made = made }) → Met old new s call (Refused Fault)
  met_fault old new s made call meant writes keeps_not step failed same same_geometry same_holds left =
      let after : PlainPool = record made { mode = mode.Failed } in
      let e : Event = record { before = s; call = call; answer = Refused Fault; made = made } in
      let opens = opens_during old new e left in
      let pools : Leaves (IsPool (geometry new.metadata)) new.disk.cells = subst (λ (g : Geometry). Leaves (IsPool g) new.disk.cells) (sym same) (now opens) in
      let W : Bool → Type 0 = λ b. MatchBool b (((meant : Answer) × Step s call meant made) × (after ≡ record made { mode = mode.Failed })) ((made ≡ s) × (after ≡ s)) in (
        made,
        after,
        inr (refl, subst W (sym writes) ((meant, step), refl)),
        inr (record { failed = failed; mode_is = refl; geometry_is = same_geometry; holds = same_holds; left = pools }),
        stops_within old new e left (λ yes. absurd (false≢true (sym keeps_not ∙ yes))),
        opens,
      )

  -- ---- calls in parts

  pub settled : (call : Call) (old mid new : Held M) (answer result : Result (Unit {0}) Refusal) → result ≡ answer → OnOk answer (new ≡ mid) → IfErr answer (λ reason. new ≡ failed_by reason mid)
      → PoolTried geometry stands old mid call answer → PoolAnswered geometry stands old new call result
  settled call old mid new (Ok x) result same done failed tried =
      subst (λ (r : Result (Unit {0}) Refusal). PoolAnswered geometry stands old new call r) (sym same) (subst (λ (h : Held M). PoolCalled geometry stands old h call Done) (sym done) tried)
  settled call old mid new (Err reason) result same done failed tried =
      subst (λ (r : Result (Unit {0}) Refusal). PoolAnswered geometry stands old new call r) (sym same) (subst (λ (h : Held M). PoolRefused geometry stands old h call reason) (sym failed) tried)
