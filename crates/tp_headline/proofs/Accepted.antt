-- A call of a pool that was just opened, accepted or refused: what it makes, and what a stop leaves behind it.
use Rattle.std.proofs.Common.{◌≡◌, ◌⊎◌, inl, inr, ℕ, Bool, true, false, Option, Some, None, refl, sym, ap, subst, ◌∙◌}
use Rattle.std.specs.Prelude.{IsTrue, MatchOption, if◌then◌else◌}
use Rattle.tp_model.specs.declared.mode.Mode.{Mode}
use Rattle.tp_model.specs.declared.mode.Mode.TheVariants as mode
use Rattle.std.proofs.lemmas.Option.{none-some}
use Rattle.tp_model.specs.declared.refusal.Refusal.{Refusal}
use Rattle.tp_model.specs.declared.refusal.Refusal.TheVariants.{Fault, NoMetadataSpace}
use Rattle.tp_model.specs.Sectors.{Sector}
use Rattle.tp_model.specs.Pool.{Outline, PlainPool}
use Rattle.tp_model.specs.Calls.{Answer, Call, Done, Gave, Line, Found, Sized, Listed, Refused, Makes, Takes, after_refusal, is_failed, mode_after, refusal_of, reply}
use Rattle.tp_model.specs.PoolStops.{Event, During, Given, GivenBy, MayReopen, Nothing, keeps, reopened}
use Rattle.tp_model.specs.Clauses.{Meets, OpensSince, View, ViewLaws, found_now}
use Rattle.tp_model.proofs.Found.{MayReopen-nothing}
use Rattle.tp_model.proofs.PoolStopLaws.{MayReopen-weaken}

-- the call keeps, or it changes and gives nothing
abbrev pub Stays : PlainPool → Call → Type 0
Stays s call = IsTrue (keeps call (reply s call)) ⊎ (((q : PlainPool) → Makes s call q → q ≡ s) × ((id k : ℕ) (x : Sector) → Given s call id k x → ⊥))

abbrev pub IsNoRefusal : Answer → Type 0
IsNoRefusal answer = (reason : Refusal) → answer ≡ Refused reason → ⊥

-- what no test refuses
record IsStep (s : PlainPool) (call : Call) (answer : Answer) (made after : PlainPool) : Type 0 where
  pub passes : refusal_of s call ≡ None
  pub answer_is : answer ≡ reply s call
  pub makes : Makes s call after
  pub made_is : made ≡ after

step_of : (s : PlainPool) (call : Call) (answer : Answer) (made after : PlainPool) → IsNoRefusal answer → made ≡ after → (o : Option Refusal) → refusal_of s call ≡ o
    → MatchOption o ((answer ≡ reply s call) × Makes s call after) (λ reason. (answer ≡ Refused reason) × (after ≡ after_refusal reason s)) → IsStep s call answer made after
step_of s call answer made after fine is None e h = record { passes = e; answer_is = h.0; makes = h.1; made_is = is }
step_of s call answer made after fine is (Some reason) e h = absurd (fine reason h.0)

takes_step : (s : PlainPool) (call : Call) (answer : Answer) (made after : PlainPool) → IsNoRefusal answer → Takes s call answer made after → IsStep s call answer made after
takes_step s call answer made after fine (inl step) = step_of s call answer made after fine step.1 (refusal_of s call) refl step.0
takes_step s call answer made after fine (inr fault) = absurd (fine _ fault.0)

-- what a test refuses
record IsRefusal (s : PlainPool) (call : Call) (reason : Refusal) (made after : PlainPool) : Type 0 where
  pub fails : refusal_of s call ≡ Some reason
  pub after_is : after ≡ after_refusal reason s
  pub made_is : made ≡ after

-- the refusal of an answer that is one
abbrev reason_of : Answer → Refusal → Refusal
reason_of (Refused reason) other = reason
reason_of answer other = other

refusal_so : (s : PlainPool) (call : Call) (reason : Refusal) (made after : PlainPool) → made ≡ after → IsNoRefusal (reply s call) → (o : Option Refusal) → refusal_of s call ≡ o
    → MatchOption o ((Refused reason ≡ reply s call) × Makes s call after) (λ r. (Refused reason ≡ Refused r) × (after ≡ after_refusal r s)) → IsRefusal s call reason made after
refusal_so s call reason made after is plain None e h = absurd (plain reason (sym h.0))
refusal_so s call reason made after is plain (Some r) e h =
    let same : reason ≡ r = ap (λ (a : Answer). reason_of a reason) h.0 in
    record { fails = e ∙ ap (λ (x : Refusal). Some x) (sym same); after_is = h.1 ∙ ap (λ (x : Refusal). after_refusal x s) (sym same); made_is = is }

takes_refusal : (s : PlainPool) (call : Call) (reason : Refusal) (made after : PlainPool) → (reason ≡ Fault → ⊥) → IsNoRefusal (reply s call) → Takes s call (Refused reason) made after → IsRefusal s call reason made after
takes_refusal s call reason made after whole plain (inl step) = refusal_so s call reason made after step.1 plain (refusal_of s call) refl step.0
takes_refusal s call reason made after whole plain (inr fault) = absurd (whole (ap (λ (a : Answer). reason_of a reason) fault.0))

-- a pool that has not failed has not behind a refusal either
refusal_works : (reason : Refusal) (s : PlainPool) → is_failed s.mode ≡ false → is_failed (after_refusal reason s).mode ≡ false
refusal_works NoMetadataSpace s works = refl
refusal_works reason s works = works

-- a refusal keeps, or changes nothing
keeps_or_same : (call : Call) (reason : Refusal) (s : PlainPool) → IsTrue (keeps call (Refused NoMetadataSpace)) → IsTrue (keeps call (Refused reason)) ⊎ (after_refusal reason s ≡ s)
keeps_or_same call NoMetadataSpace s kept = inl kept
keeps_or_same call reason s kept = inr refl

-- the mode stays
mode_stays : (m : Mode) (call : Call) (answer : Answer) → IsNoRefusal answer → mode_after m call answer ≡ m
mode_stays m call Done fine = refl
mode_stays m call (Gave sectors) fine = refl
mode_stays m call (Line bytes) fine = refl
mode_stays m call (Found id) fine = refl
mode_stays m call (Sized blocks) fine = refl
mode_stays m call (Listed slots) fine = refl
mode_stays m call (Refused reason) fine = absurd (fine reason refl)

-- a pool that was opened has not failed
at_rest_works : (check : Bool) → is_failed (if check then mode.ReadOnly else mode.Writable) ≡ false
at_rest_works true = refl
at_rest_works false = refl

pub rested : (s : PlainPool) → s ≡ reopened s → is_failed s.mode ≡ false
rested s rest = ap (λ (p : PlainPool). is_failed p.mode) rest ∙ at_rest_works s.needs_check

-- what is found where nothing is given
during_nothing : (Older : PlainPool → Type 0) (e : Event) (s P : PlainPool) → e.before ≡ s → reopened e.made ≡ reopened s → ((S : PlainPool) → Older S → MayReopen s Nothing S)
    → ((id k : ℕ) (x : Sector) → GivenBy e id k x → ⊥) → During Older e P → P ≡ reopened e.made
during_nothing Older e s P before made older none (inl (S, which, found)) =
    let bare : MayReopen S Nothing P = MayReopen-weaken S P (GivenBy e) Nothing (λ id k x g. none id k x g) found in
    MayReopen-nothing S P bare ∙ elim which [ inl was ↦ ap reopened (MayReopen-nothing s S (older S was)) ∙ sym made | inr is ↦ ap reopened (is ∙ before) ∙ sym made ]
during_nothing Older e s P before made older none (inr found) = MayReopen-nothing e.made P found

module _ {D : Type 0} (v : View D) (laws : ViewLaws v) where
  -- No test refused the call. The pool shows what it makes, and a stop leaves that and nothing else.
  pub record IsMade (new : D) (s : PlainPool) (call : Call) (answer : Answer) : Type 0 where
    pub passes : refusal_of s call ≡ None
    pub answer_is : answer ≡ reply s call
    pub made : PlainPool
    pub makes : Makes s call made
    pub shown : v.shows new made
    pub works : is_failed made.mode ≡ false
    pub opens : OpensSince v new (v.moment new)
    pub only : (P : PlainPool) → found_now v new P → P ≡ reopened made

  pub accepted : (old new : D) (s : PlainPool) (call : Call) (answer : Answer) → s ≡ reopened s → v.shows old s → ((S : PlainPool) → found_now v old S → MayReopen s Nothing S)
      → IsNoRefusal answer → Meets v old new call answer → Stays s call → IsMade new s call answer
  accepted old new s call answer rest shown older fine met stays =
      let called = met.called in
      let answered = met.answered in
      let m = called.meets s shown in
      let step = takes_step s call answer m.0 m.1 fine m.2 in
      let later = called.time in
      let modes : m.1.mode ≡ s.mode =
      ap (λ (o : Outline). o.mode) (laws.shown new m.1 m.3) ∙ answered.mode ∙ mode_stays _ call answer fine ∙ ap (λ (o : Outline). o.mode) (sym (laws.shown old s shown)) in
      let e : Event = record { before = s; call = call; answer = answer; made = m.0 } in
      let stops = m.4 in
      record {
        passes = step.passes;
        answer_is = step.answer_is;
        made = m.1;
        makes = step.makes;
        shown = m.3;
        works = ap is_failed modes ∙ rested s rest;
        opens = λ image left. called.opens s shown image (laws.wider new (v.moment old) (v.moment new) image later.later left);
        only = λ P found. elim stays [
          | inl k ↦ MayReopen-nothing m.0 P (stops.kept (subst (λ (a : Answer). IsTrue (keeps call a)) (sym step.answer_is) k) P found) ∙ ap reopened step.made_is
          | inr still ↦ during_nothing (found_now v old) e s P refl (ap reopened (step.made_is ∙ still.0 m.1 step.makes)) older (λ id k x g. still.1 id k x g.1) (stops.now P found) ∙ ap reopened step.made_is
        ];
      }

  -- ---- a call that a test refused

  -- A test refused the call. The pool shows what that leaves, and a stop leaves that and nothing else.
  pub record IsTurned (new : D) (s : PlainPool) (call : Call) (reason : Refusal) : Type 0 where
    pub fails : refusal_of s call ≡ Some reason
    pub shown : v.shows new (after_refusal reason s)
    pub works : is_failed (after_refusal reason s).mode ≡ false
    pub opens : OpensSince v new (v.moment new)
    pub only : (P : PlainPool) → found_now v new P → P ≡ reopened (after_refusal reason s)

  pub turned : (old new : D) (s : PlainPool) (call : Call) (reason : Refusal) → s ≡ reopened s → v.shows old s → ((S : PlainPool) → found_now v old S → MayReopen s Nothing S)
      → (reason ≡ Fault → ⊥) → IsNoRefusal (reply s call) → IsTrue (keeps call (Refused NoMetadataSpace)) → Meets v old new call (Refused reason) → IsTurned new s call reason
  turned old new s call reason rest shown older whole plain kept met =
      let called = met.called in
      let m = called.meets s shown in
      let is = takes_refusal s call reason m.0 m.1 whole plain m.2 in
      let later = called.time in
      let made_is : m.0 ≡ after_refusal reason s = is.made_is ∙ is.after_is in
      let e : Event = record { before = s; call = call; answer = Refused reason; made = m.0 } in
      let stops = m.4 in
      record {
        fails = is.fails;
        shown = subst (λ (p : PlainPool). v.shows new p) is.after_is m.3;
        works = refusal_works reason s (rested s rest);
        opens = λ image left. called.opens s shown image (laws.wider new (v.moment old) (v.moment new) image later.later left);
        only = λ P found. elim (keeps_or_same call reason s kept) [
          | inl k ↦ MayReopen-nothing m.0 P (stops.kept k P found) ∙ ap reopened made_is
          | inr same ↦ during_nothing (found_now v old) e s P refl (ap reopened (made_is ∙ same)) older (λ id k x g. absurd (none-some reason (sym g.0 ∙ is.fails))) (stops.now P found) ∙ ap reopened made_is
        ];
      }
