-- Calls that write nothing, one behind the other, and what one call of a walk tells of the pool.
use Rattle.std.proofs.Common.{◌≡◌, inl, inr, ℕ, Bool, true, false, Some, List, [], ◌∷◌, ◌++◌, refl, sym, ap, subst, ◌∙◌, append_assoc}
use Rattle.std.specs.Prelude.{MatchOption, Result, Ok, Err, MatchResult, IfErr, not, ◌⊎◌}
use Rattle.std.specs.FinMap.{entries}
use Rattle.std.proofs.lemmas.Bool.{false≢true}
use Rattle.tp_model.specs.declared.refusal.Refusal.{Refusal}
use Rattle.tp_model.specs.declared.refusal.Refusal.TheVariants.{Memory, Failed, NoSuchDevice}
use Rattle.tp_model.specs.Pool.{PlainPool, volume_slots}
use Rattle.tp_model.specs.Calls.{Answer, Call, Listed, Refused, Sized, Takes, VolumeBlocks, Walk, after_refusal, exists, first_failed, is_failed, is_writing, piece_from, reply, volume_blocks}
use Rattle.tp_model.specs.Clauses.{AreCalls, Asked, Meets, PoolCall, View, last_of}
use Rattle.tp_listings.specs.Refusing.{IsRefusal}
use Rattle.tp_listings.specs.Looks.{AreLooks, EndsRefused, LooksOver, ShowsStill}

-- ---- lists of calls

calls-append : {S : Type 0} (Calls : S → Call → Answer → S → Type 0) (p : S) (xs ys : List (Asked S)) → AreCalls Calls p xs → AreCalls Calls (last_of p xs) ys → AreCalls Calls p (xs ++ ys)
calls-append Calls p [] ys a b = b
calls-append Calls p (x ∷ xs) ys a b = (a.0, calls-append Calls x.after xs ys a.1 b)

last-append : {S : Type 0} (p : S) (xs ys : List (Asked S)) → last_of p (xs ++ ys) ≡ last_of (last_of p xs) ys
last-append p [] ys = refl
last-append p (x ∷ xs) ys = last-append x.after xs ys

looks-append : {S : Type 0} (xs ys : List (Asked S)) → AreLooks xs → AreLooks ys → AreLooks (xs ++ ys)
looks-append [] ys a b = b
looks-append (x ∷ xs) ys a b = (a.0, looks-append xs ys a.1 b)

ends-append : {S : Type 0} (xs ys : List (Asked S)) (reason : Refusal) → EndsRefused ys reason → EndsRefused (xs ++ ys) reason
ends-append xs ys reason e = (xs ++ e.0, e.1, ap (λ l. xs ++ l) e.2 ∙ sym (append_assoc xs e.0 (e.1 ∷ [])), e.3)

refused-append : {S A : Type 0} (xs ys : List (Asked S)) (r : Result A Refusal) → MatchResult r (λ _. Unit {0}) (λ reason. (reason ≡ Memory) ⊎ EndsRefused ys reason)
    → MatchResult r (λ _. Unit {0}) (λ reason. (reason ≡ Memory) ⊎ EndsRefused (xs ++ ys) reason)
refused-append xs ys (Ok x) h = h
refused-append xs ys (Err reason) (inl m) = inl m
refused-append xs ys (Err reason) (inr e) = inr (ends-append xs ys reason e)

-- what was done before, and what behind it
pub both : {D A B : Type 0} (view : View D) (old mid new : D) (a : A) (r : Result B Refusal) → LooksOver view old mid {A = A} (Ok a) → LooksOver view mid new r → LooksOver view old new r
both view old mid new a r one two = record {
  made = one.made ++ two.made;
  are = calls-append (PoolCall view) old one.made two.made one.are (subst (λ (d : _). AreCalls (PoolCall view) d two.made) (sym one.last) two.are);
  last = last-append old one.made two.made ∙ (ap (λ (d : _). last_of d two.made) one.last ∙ two.last);
  look = looks-append one.made two.made one.look two.look;
  refused = refused-append one.made two.made r two.refused;
}

-- nothing was done
pub none : {D A : Type 0} (view : View D) (old : D) (a : A) → LooksOver view old old {A = A} (Ok a)
none view old a = record { made = []; are = tt; last = refl; look = tt; refused = tt }

-- it is another value that is given
pub gives : {D A B : Type 0} (view : View D) (old new : D) (a : A) (b : B) → LooksOver view old new {A = A} (Ok a) → LooksOver view old new {A = B} (Ok b)
gives view old new a b h = record { made = h.made; are = h.are; last = h.last; look = h.look; refused = tt }

-- the refusal goes on
pub refuses : {D A B : Type 0} (view : View D) (old new : D) (reason : Refusal) → LooksOver view old new {A = A} (Err reason) → LooksOver view old new {A = B} (Err reason)
refuses view old new reason h = record { made = h.made; are = h.are; last = h.last; look = h.look; refused = h.refused }

-- there was no memory behind it
pub lacks : {D A B : Type 0} (view : View D) (old new : D) (a : A) (reason : Refusal) → reason ≡ Memory → LooksOver view old new {A = A} (Ok a) → LooksOver view old new {A = B} (Err reason)
lacks view old new a reason e h = record { made = h.made; are = h.are; last = h.last; look = h.look; refused = inl e }

-- one call was made and told something
pub told : {D A : Type 0} (view : View D) (old new : D) (call : Call) (answer : Answer) (a : A) → is_writing call ≡ false → Meets view old new call answer → LooksOver view old new {A = A} (Ok a)
told view old new call answer a w m = record { made = record { call = call; answer = answer; after = new } ∷ []; are = (m, tt); last = refl; look = (w, tt); refused = tt }

-- one call was made and refused
pub was_refused : {D A : Type 0} (view : View D) (old new : D) (call : Call) (reason : Refusal) → is_writing call ≡ false → Meets view old new call (Refused reason) → LooksOver view old new {A = A} (Err reason)
was_refused view old new call reason w m =
    let c : Asked _ = record { call = call; answer = Refused reason; after = new } in
    record { made = c ∷ []; are = (m, tt); last = refl; look = (w, tt); refused = inr ([], c, refl, refl) }

pub still_both : {D : Type 0} (view : View D) (a b c : D) → ShowsStill view a b → ShowsStill view b c → ShowsStill view a c
still_both view a b c one two s h = two s (one s h)

-- ---- a call that looks

-- a refusal by its two tests leaves the pool as it was
same_after : (s after : PlainPool) (answer listed : Answer) (a b : Bool)
    → MatchOption (first_failed ((a, Failed) ∷ (b, NoSuchDevice) ∷ [])) ((answer ≡ listed) × (after ≡ s)) (λ reason. (answer ≡ Refused reason) × (after ≡ after_refusal reason s)) → after ≡ s
same_after s after answer listed true b h = h.1
same_after s after answer listed false true h = h.1
same_after s after answer listed false false h = h.1

unfoldable pub is_refused : Answer → Bool
is_refused (Refused reason) = true
is_refused answer = false

-- what is no refusal passed both tests, and is the reply
passed : (s after : PlainPool) (answer listed : Answer) (a b : Bool) → is_refused answer ≡ false
    → MatchOption (first_failed ((a, Failed) ∷ (b, NoSuchDevice) ∷ [])) ((answer ≡ listed) × (after ≡ s)) (λ reason. (answer ≡ Refused reason) × (after ≡ after_refusal reason s))
    → (a ≡ false) × (b ≡ false) × (answer ≡ listed)
unfolding is_refused
passed s after answer listed true b n h = absurd (false≢true (sym n ∙ ap is_refused h.0))
passed s after answer listed false true n h = absurd (false≢true (sym n ∙ ap is_refused h.0))
passed s after answer listed false false n h = (refl, refl, h.0)

still_walk : (s made after : PlainPool) (id from : ℕ) (answer : Answer) → Takes s (Walk id from) answer made after → after ≡ s
still_walk s made after id from answer (inl step) = same_after s after answer (reply s (Walk id from)) (is_failed s.mode) (not (exists s id)) step.0
still_walk s made after id from answer (inr fault) = fault.1.1

still_blocks : (s made after : PlainPool) (id : ℕ) (answer : Answer) → Takes s (VolumeBlocks id) answer made after → after ≡ s
still_blocks s made after id answer (inl step) = same_after s after answer (reply s (VolumeBlocks id)) (is_failed s.mode) (not (exists s id)) step.0
still_blocks s made after id answer (inr fault) = fault.1.1

pub walk_still : {D : Type 0} (view : View D) (old new : D) (id from : ℕ) (answer : Answer) → Meets view old new (Walk id from) answer → ShowsStill view old new
walk_still view old new id from answer met s shown =
    let m = met.called.meets s shown in subst (λ (p : PlainPool). view.shows new p) (still_walk s m.0 m.1 id from answer m.2) m.3

pub blocks_still : {D : Type 0} (view : View D) (old new : D) (id : ℕ) (answer : Answer) → Meets view old new (VolumeBlocks id) answer → ShowsStill view old new
blocks_still view old new id answer met s shown =
    let m = met.called.meets s shown in subst (λ (p : PlainPool). view.shows new p) (still_blocks s m.0 m.1 id answer m.2) m.3

slots_in : Answer → List (ℕ × ℕ)
slots_in (Listed slots) = slots
slots_in answer = []

blocks_in : Answer → ℕ
blocks_in (Sized blocks) = blocks
blocks_in answer = 0

takes_listed : (s made after : PlainPool) (id from : ℕ) (xs : List (ℕ × ℕ)) → Takes s (Walk id from) (Listed xs) made after
    → (is_failed s.mode ≡ false) × (not (exists s id) ≡ false) × (xs ≡ piece_from from (entries (volume_slots s id)))
unfolding is_refused slots_in
takes_listed s made after id from xs (inl step) =
    let p = passed s after (Listed xs) (reply s (Walk id from)) (is_failed s.mode) (not (exists s id)) refl step.0 in (p.0, p.1, ap slots_in p.2)
takes_listed s made after id from xs (inr fault) = absurd (false≢true (ap is_refused fault.0))

takes_sized : (s made after : PlainPool) (id blocks : ℕ) → Takes s (VolumeBlocks id) (Sized blocks) made after → blocks ≡ volume_blocks s id
unfolding is_refused blocks_in
takes_sized s made after id blocks (inl step) =
    let p = passed s after (Sized blocks) (reply s (VolumeBlocks id)) (is_failed s.mode) (not (exists s id)) refl step.0 in ap blocks_in p.2
takes_sized s made after id blocks (inr fault) = absurd (false≢true (ap is_refused fault.0))

-- of each pool that is shown, what a walk lists
pub walked : {D : Type 0} (view : View D) (old new : D) (s : PlainPool) (id from : ℕ) (xs : List (ℕ × ℕ)) → view.shows old s → Meets view old new (Walk id from) (Listed xs)
    → (is_failed s.mode ≡ false) × (not (exists s id) ≡ false) × (xs ≡ piece_from from (entries (volume_slots s id)))
walked view old new s id from xs shown met = let m = met.called.meets s shown in takes_listed s m.0 m.1 id from xs m.2

pub sized : {D : Type 0} (view : View D) (old new : D) (s : PlainPool) (id blocks : ℕ) → view.shows old s → Meets view old new (VolumeBlocks id) (Sized blocks) → blocks ≡ volume_blocks s id
sized view old new s id blocks shown met = let m = met.called.meets s shown in takes_sized s m.0 m.1 id blocks m.2

-- where the one call's refusal is handed on
pub refused_as : {D A : Type 0} (view : View D) (old new : D) (call : Call) (reason given : Refusal) (r : Result A Refusal) → r ≡ Err given → given ≡ reason → is_writing call ≡ false
    → Meets view old new call (Refused reason) → LooksOver view old new r
refused_as view old new call reason given r is same w m =
    subst (λ (x : Result _ Refusal). LooksOver view old new x) (sym is)
    (was_refused view old new call given w (subst (λ (x : Refusal). Meets view old new call (Refused x)) (sym same) m))

-- what was refused behind it is handed on
pub given_on : {D A B C : Type 0} (view : View D) (old mid new : D) (a : A) (reason given : Refusal) (r : Result C Refusal) → r ≡ Err given → given ≡ reason → LooksOver view old mid {A = A} (Ok a)
    → LooksOver view mid new {A = B} (Err reason) → LooksOver view old new r
given_on {D} {A} {B} {C} view old mid new a reason given r is same one two =
    subst (λ (x : Result C Refusal). LooksOver view old new x) (sym is)
    (subst (λ (x : Refusal). LooksOver view old new {A = C} (Err x)) (sym same) (refuses view old new reason (both view old mid new a (Err reason) one two)))

-- where want of memory is handed on
pub lacks_as : {D A C : Type 0} (view : View D) (old new : D) (a : A) (given : Refusal) (r : Result C Refusal) → r ≡ Err given → given ≡ Memory → LooksOver view old new {A = A} (Ok a) → LooksOver view old new r
lacks_as {D} {A} {C} view old new a given r is memory h =
    subst (λ (x : Result C Refusal). LooksOver view old new x) (sym is) (lacks view old new a given memory h)

-- ---- refusals

-- why a call was refused, if it was
unfoldable pub reason_in : Answer → Refusal
reason_in (Refused reason) = reason
reason_in answer = Memory

refused_by : (s after : PlainPool) (listed : Answer) (a b : Bool) (reason : Refusal) → is_refused listed ≡ false
    → MatchOption (first_failed ((a, Failed) ∷ (b, NoSuchDevice) ∷ [])) ((Refused reason ≡ listed) × (after ≡ s)) (λ r. (Refused reason ≡ Refused r) × (after ≡ after_refusal r s))
    → first_failed ((a, Failed) ∷ (b, NoSuchDevice) ∷ []) ≡ Some reason
unfolding is_refused reason_in
refused_by s after listed true b reason n h = ap Some (sym (ap reason_in h.0))
refused_by s after listed false true reason n h = ap Some (sym (ap reason_in h.0))
refused_by s after listed false false reason n h = absurd (false≢true (sym n ∙ sym (ap is_refused h.0)))

walk_takes : (s made after : PlainPool) (id from : ℕ) (reason : Refusal) → Takes s (Walk id from) (Refused reason) made after → IsRefusal s id reason
unfolding is_refused reason_in
walk_takes s made after id from reason (inl step) = inr (inr (refused_by s after (reply s (Walk id from)) (is_failed s.mode) (not (exists s id)) reason refl step.0))
walk_takes s made after id from reason (inr fault) = inr (inl (ap reason_in fault.0))

blocks_takes : (s made after : PlainPool) (id : ℕ) (reason : Refusal) → Takes s (VolumeBlocks id) (Refused reason) made after → IsRefusal s id reason
unfolding is_refused reason_in
blocks_takes s made after id reason (inl step) = inr (inr (refused_by s after (reply s (VolumeBlocks id)) (is_failed s.mode) (not (exists s id)) reason refl step.0))
blocks_takes s made after id reason (inr fault) = inr (inl (ap reason_in fault.0))

pub walk_refusal : {D : Type 0} (view : View D) (old new : D) (id from : ℕ) (reason : Refusal) → Meets view old new (Walk id from) (Refused reason) → (s : PlainPool) → view.shows old s
    → IsRefusal s id reason
walk_refusal view old new id from reason met s shown = let m = met.called.meets s shown in walk_takes s m.0 m.1 id from reason m.2

pub blocks_refusal : {D : Type 0} (view : View D) (old new : D) (id : ℕ) (reason : Refusal) → Meets view old new (VolumeBlocks id) (Refused reason) → (s : PlainPool) → view.shows old s
    → IsRefusal s id reason
blocks_refusal view old new id reason met s shown = let m = met.called.meets s shown in blocks_takes s m.0 m.1 id reason m.2

-- a refusal that is handed on
pub refusal_on : {D A : Type 0} (view : View D) (old : D) (Is : PlainPool → Refusal → Type 0) (reason given : Refusal) (r : Result A Refusal) → r ≡ Err given → given ≡ reason
    → ((s : PlainPool) → view.shows old s → Is s reason) → IfErr r (λ (x : Refusal). (s : PlainPool) → view.shows old s → Is s x)
refusal_on {D} {A} view old Is reason given r is same h =
    subst (λ (y : Result A Refusal). IfErr y (λ (x : Refusal). (s : PlainPool) → view.shows old s → Is s x)) (sym is) (λ s shown. subst (λ (x : Refusal). Is s x) (sym same) (h s shown))
