-- What a read of a held mapping tells of there being one.
use Rattle.std.proofs.Common.{◌≡◌, inl, inr, ℕ, Bool, true, false, List, [], ◌∷◌, refl, sym, ap, subst}
use Rattle.std.specs.Prelude.{◌≢◌, MatchOption, Some, Ok, Err, not, ◌==◌}
use Rattle.std.proofs.lemmas.Bool.{false≢true}
use Rattle.tp_model.specs.declared.refusal.Refusal.{Refusal}
use Rattle.tp_model.specs.declared.refusal.Refusal.TheVariants.{Failed, NoHeldRoot, NoSuchDevice}
use Rattle.tp_model.specs.Sectors.{Sector}
use Rattle.tp_model.specs.Pool.{PlainPool}
use Rattle.tp_model.specs.Calls.{Answer, Gave, HeldRead, Refused, Takes, after_refusal, first_failed, has_copy, is_failed, reply}
use Rattle.tp_model.specs.Clauses.{Meets, View}
use Rattle.tp_listings.specs.Looks.{LooksOver, ShowsStill}
use Rattle.tp_listings.specs.Refusing.{IsRefusalOfAll}
use Rattle.tp_listings.proofs.Looked.{is_refused, reason_in, told, was_refused}

-- the answer by the three tests
By : PlainPool → PlainPool → Answer → Answer → Bool → Bool → Bool → Type 0
By s after answer gave a b c =
    MatchOption (first_failed ((a, Failed) ∷ (b, NoHeldRoot) ∷ (c, NoSuchDevice) ∷ [])) ((answer ≡ gave) × (after ≡ s)) (λ reason. (answer ≡ Refused reason) × (after ≡ after_refusal reason s))

same_after : (s after : PlainPool) (answer gave : Answer) (a b c : Bool) → By s after answer gave a b c → after ≡ s
unfolding By
same_after s after answer gave true b c h = h.1
same_after s after answer gave false true c h = h.1
same_after s after answer gave false false true h = h.1
same_after s after answer gave false false false h = h.1

lacks_root : Answer → Bool
lacks_root (Refused NoHeldRoot) = true
lacks_root answer = false

lacks_volume : Answer → Bool
lacks_volume (Refused NoSuchDevice) = true
lacks_volume answer = false

there : (s after : PlainPool) (xs ys : List Sector) (a b c : Bool) → By s after (Gave xs) (Gave ys) a b c → b ≡ false
unfolding By is_refused
there s after xs ys true b c h = absurd (false≢true (ap is_refused h.0))
there s after xs ys false true c h = absurd (false≢true (ap is_refused h.0))
there s after xs ys false false c h = refl

no_volume : (s after : PlainPool) (ys : List Sector) (a b c : Bool) → By s after (Refused NoSuchDevice) (Gave ys) a b c → b ≡ false
unfolding By lacks_volume
no_volume s after ys true b c h = absurd (false≢true (sym (ap lacks_volume h.0)))
no_volume s after ys false true c h = absurd (false≢true (sym (ap lacks_volume h.0)))
no_volume s after ys false false c h = refl

no_root : (s after : PlainPool) (ys : List Sector) (a b c : Bool) → By s after (Refused NoHeldRoot) (Gave ys) a b c → b ≡ true
unfolding By lacks_root
no_root s after ys true b c h = absurd (false≢true (sym (ap lacks_root h.0)))
no_root s after ys false true c h = refl
no_root s after ys false false true h = absurd (false≢true (sym (ap lacks_root h.0)))
no_root s after ys false false false h = absurd (false≢true (sym (ap lacks_root h.0)))

still : (s made after : PlainPool) (id sector count : ℕ) (answer : Answer) → Takes s (HeldRead id sector count) answer made after → after ≡ s
unfolding By
still s made after id sector count answer (inl step) = same_after s after answer (reply s (HeldRead id sector count)) (is_failed s.mode) (s.held_root == 0) (not (has_copy s id)) step.0
still s made after id sector count answer (inr fault) = fault.1.1

sectors_in : Answer → List Sector
sectors_in (Gave sectors) = sectors
sectors_in answer = []

takes_gave : (s made after : PlainPool) (id sector count : ℕ) (xs : List Sector) → Takes s (HeldRead id sector count) (Gave xs) made after → (s.held_root == 0) ≡ false
unfolding By is_refused sectors_in
takes_gave s made after id sector count xs (inl step) = there s after xs (sectors_in (reply s (HeldRead id sector count))) (is_failed s.mode) (s.held_root == 0) (not (has_copy s id)) step.0
takes_gave s made after id sector count xs (inr fault) = absurd (false≢true (ap is_refused fault.0))

takes_no_volume : (s made after : PlainPool) (id sector count : ℕ) → Takes s (HeldRead id sector count) (Refused NoSuchDevice) made after → (s.held_root == 0) ≡ false
unfolding By lacks_volume sectors_in
takes_no_volume s made after id sector count (inl step) = no_volume s after (sectors_in (reply s (HeldRead id sector count))) (is_failed s.mode) (s.held_root == 0) (not (has_copy s id)) step.0
takes_no_volume s made after id sector count (inr fault) = absurd (false≢true (sym (ap lacks_volume fault.0)))

takes_no_root : (s made after : PlainPool) (id sector count : ℕ) → Takes s (HeldRead id sector count) (Refused NoHeldRoot) made after → (s.held_root == 0) ≡ true
unfolding By lacks_root sectors_in
takes_no_root s made after id sector count (inl step) = no_root s after (sectors_in (reply s (HeldRead id sector count))) (is_failed s.mode) (s.held_root == 0) (not (has_copy s id)) step.0
takes_no_root s made after id sector count (inr fault) = absurd (false≢true (sym (ap lacks_root fault.0)))

other : (s after : PlainPool) (reason : Refusal) (ys : List Sector) (a b c : Bool) → By s after (Refused reason) (Gave ys) a b c → reason ≢ NoHeldRoot → reason ≢ NoSuchDevice → first_failed ((a, Failed) ∷ []) ≡ Some reason
unfolding By is_refused reason_in
other s after reason ys true b c h no_root no_volume = ap Some (sym (ap reason_in h.0))
other s after reason ys false true c h no_root no_volume = absurd (no_root (ap reason_in h.0))
other s after reason ys false false true h no_root no_volume = absurd (no_volume (ap reason_in h.0))
other s after reason ys false false false h no_root no_volume = absurd (false≢true (sym (ap is_refused h.0)))

takes_other : (s made after : PlainPool) (id sector count : ℕ) (reason : Refusal) → Takes s (HeldRead id sector count) (Refused reason) made after → reason ≢ NoHeldRoot → reason ≢ NoSuchDevice → IsRefusalOfAll s reason
unfolding By reason_in sectors_in
takes_other s made after id sector count reason (inl step) no_root no_volume =
    inr (inr (other s after reason (sectors_in (reply s (HeldRead id sector count))) (is_failed s.mode) (s.held_root == 0) (not (has_copy s id)) step.0 no_root no_volume))
takes_other s made after id sector count reason (inr fault) no_root no_volume = inr (inl (ap reason_in fault.0))

module _ {D : Type 0} (view : View D) (old new : D) (id sector count : ℕ) where
  pub probe_still : (answer : Answer) → Meets view old new (HeldRead id sector count) answer → ShowsStill view old new
  probe_still answer met s shown = let m = met.called.meets s shown in subst (λ (p : PlainPool). view.shows new p) (still s m.0 m.1 id sector count answer m.2) m.3

  pub gave_is_held : (xs : List Sector) → Meets view old new (HeldRead id sector count) (Gave xs) → (s : PlainPool) → view.shows old s → true ≡ not (s.held_root == 0)
  gave_is_held xs met s shown = let m = met.called.meets s shown in sym (ap not (takes_gave s m.0 m.1 id sector count xs m.2))

  pub no_volume_is_held : (reason : Refusal) → reason ≡ NoSuchDevice → Meets view old new (HeldRead id sector count) (Refused reason) → (s : PlainPool) → view.shows old s → true ≡ not (s.held_root == 0)
  no_volume_is_held reason is met s shown =
      let m = met.called.meets s shown in
      sym (ap not (takes_no_volume s m.0 m.1 id sector count (subst (λ (r : Refusal). Takes s (HeldRead id sector count) (Refused r) m.0 m.1) is m.2)))

  pub no_root_is_free : (reason : Refusal) → reason ≡ NoHeldRoot → Meets view old new (HeldRead id sector count) (Refused reason) → (s : PlainPool) → view.shows old s → false ≡ not (s.held_root == 0)
  no_root_is_free reason is met s shown =
      let m = met.called.meets s shown in
      sym (ap not (takes_no_root s m.0 m.1 id sector count (subst (λ (r : Refusal). Takes s (HeldRead id sector count) (Refused r) m.0 m.1) is m.2)))

  pub probe_looks : {A : Type 0} (answer : Answer) (a : A) → Meets view old new (HeldRead id sector count) answer → LooksOver view old new {A = A} (Ok a)
  probe_looks answer a met = told view old new (HeldRead id sector count) answer a refl met

  pub probe_refused : {A : Type 0} (reason : Refusal) → Meets view old new (HeldRead id sector count) (Refused reason) → LooksOver view old new {A = A} (Err reason)
  probe_refused reason met = was_refused view old new (HeldRead id sector count) reason refl met

  -- refused for another reason than that nothing is held, or no such volume
  pub probe_refusal : (reason : Refusal) → Meets view old new (HeldRead id sector count) (Refused reason) → reason ≢ NoHeldRoot → reason ≢ NoSuchDevice → (s : PlainPool) → view.shows old s → IsRefusalOfAll s reason
  probe_refusal reason met no_root no_volume s shown = let m = met.called.meets s shown in takes_other s m.0 m.1 id sector count reason m.2 no_root no_volume
