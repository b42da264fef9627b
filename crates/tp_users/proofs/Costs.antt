-- What a snapshot costs.
use Rattle.std.proofs.Common.{◌≡◌, inl, inr, ℕ, ◌==◌, ◌+◌, ◌^◌, ◌<◌, ◌≤◌, Bool, true, false, cond, Option, Some, None, List, [], refl, sym, ap, ◌∙◌, arith}
use Rattle.std.specs.Prelude.{MatchOption, not, ◌&&◌}
use Rattle.std.specs.Option.{is_some}
use Rattle.std.specs.Ordering.{nat_cmp}
use Rattle.std.specs.FinMap.{FinMap, get, insert, remove}
use Rattle.std.proofs.lemmas.Bool.{eqb-true, false≢true, lt-ltb}
use Rattle.tp_model.specs.declared.refusal.Refusal.{Refusal}
use Rattle.tp_model.specs.declared.refusal.Refusal.TheVariants.{Exists, Failed, Fault, NoSuchDevice, ReadOnly}
use Rattle.tp_model.specs.Geometry.{Geometry}
use Rattle.tp_model.specs.Pool.{PlainPool, is_now}
use Rattle.tp_model.specs.Calls.{Answer, Call, CreateSnap, Delete, Done, Found, Gave, Line, Makes, Refused, Sized, Listed, Status, Takes, after_refusal, exists, is_failed, is_read_only, refusal_of, reply, volume_of}
use Rattle.tp_model.specs.Status.{pool_line}
use Rattle.tp_model.specs.Disk.{DiskState}
use Rattle.tp_model.proofs.Maps.{get_insert, get_remove, same_nat_map}
use Rattle.tp_stored.specs.Contents.{Contents}
use Rattle.tp_pool.specs.Held.{Held, PoolCalled, shows}
use Rattle.tp_users.specs.Users.{CostsFew}
use Rattle.tp_users.proofs.Plain.{done_makes, is_refused, not_refused}

-- ---- what is done was refused by no test

untested : (s q : PlainPool) (call : Call) (o : Option Refusal)
    → MatchOption o ((Done ≡ reply s call) × Makes s call q) (λ reason. (Done ≡ Refused reason) × (q ≡ after_refusal reason s)) → o ≡ None
untested s q call None h = refl
untested s q call (Some reason) h = absurd (not_refused reason h.0)

accepted : (s made after : PlainPool) (call : Call) → Takes s call Done made after → refusal_of s call ≡ None
accepted s made after call (inl step) = untested s after call (refusal_of s call) step.0
accepted s made after call (inr fault) = absurd (not_refused Fault fault.0)

passes : (t : Bool) (x : Refusal) (rest : Option Refusal) → cond t (Some x) rest ≡ None → (t ≡ false) × (rest ≡ None)
passes true x rest e = absurd (false≢true (sym (ap is_some e)))
passes false x rest e = (refl, e)

unlisted : (low there : Bool) → low ≡ true → (low && there) ≡ false → there ≡ false
unlisted true there is e = e
unlisted false there is e = absurd (false≢true is)

-- a snapshot has an id that no volume had
is_new : (s : PlainPool) (id origin : ℕ) → id < 2 ^ 24 → refusal_of s (CreateSnap id origin) ≡ None → is_some (get s.volumes id) ≡ false
is_new s id origin low none =
    let works = passes (is_failed s.mode) Failed _ none in
    let writes = passes (is_read_only s.mode) ReadOnly _ works.1 in
    let there = passes (not (exists s origin)) NoSuchDevice _ writes.1 in
    unlisted (is_now id) (is_some (get s.volumes id)) (lt-ltb id (2 ^ 24) low) (passes (exists s id) Exists _ there.1).0

-- ---- a snapshot that is removed leaves the volumes as they were

nothing : {X : Type 0} (o : Option X) → is_some o ≡ false → None ≡ o
nothing None e = refl
nothing (Some x) e = absurd (false≢true (sym e))

at_key : {X : Type 0} (m : FinMap nat_cmp X) (k : ℕ) (v : X) (q : ℕ) (t : Bool) → (q == k) ≡ t → is_some (get m k) ≡ false
    → cond t None (cond t (Some v) (get m q)) ≡ get m q
at_key m k v q true is absent = nothing (get m k) absent ∙ ap (get m) (sym (eqb-true q k is))
at_key m k v q false is absent = refl

removed_again : {X : Type 0} (m : FinMap nat_cmp X) (k : ℕ) (v : X) → is_some (get m k) ≡ false → remove (insert m k v) k ≡ m
removed_again m k v absent = same_nat_map (remove (insert m k v) k) m (λ q.
    get_remove (insert m k v) k q ∙ ap (λ o. cond (q == k) None o) (get_insert m k v q) ∙ at_key m k v q (q == k) refl absent)

-- ---- the lines

abbrev line_in : Answer → List ℕ
line_in (Line bytes) = bytes
line_in Done = []
line_in (Gave sectors) = []
line_in (Found id) = []
line_in (Sized blocks) = []
line_in (Listed slots) = []
line_in (Refused reason) = []

line_told : (s made after : PlainPool) (text : List ℕ) → Takes s Status (Line text) made after → text ≡ pool_line s
line_told s made after text (inl step) = ap line_in step.0.0
line_told s made after text (inr fault) = absurd (false≢true (ap is_refused fault.0))

-- ---- the calls

module _ {M : Type 0} (geometry : M → Geometry) (stands : M → DiskState → Contents → Contents → Type 0) where
  line_is : (h : Held M) (s : PlainPool) (text : List ℕ) → shows geometry stands h s → PoolCalled geometry stands h h Status (Line text) → text ≡ pool_line s
  line_is h s text shown is =
      let m = is.called.meets s shown in
      line_told s m.0 m.1 text m.2

  pub costs : (s : PlainPool) (id origin : ℕ) (old mid new : Held M) (before between behind : List ℕ) → id < 2 ^ 24 → shows geometry stands old s
      → PoolCalled geometry stands old old Status (Line before)
      → PoolCalled geometry stands old mid (CreateSnap id origin) Done
      → PoolCalled geometry stands mid mid Status (Line between)
      → PoolCalled geometry stands mid new (Delete id) Done
      → PoolCalled geometry stands new new Status (Line behind)
      → CostsFew s id origin before between behind
  costs s id origin old mid new before between behind low shown first snap second removal third =
      let m = snap.called.meets s shown in
      let t = m.1 in
      let taken : Makes s (CreateSnap id origin) t = done_makes s (CreateSnap id origin) m.0 t m.2 in
      let absent : is_some (get s.volumes id) ≡ false = is_new s id origin low (accepted s m.0 t (CreateSnap id origin) m.2) in
      let w = removal.called.meets t m.3 in
      let u = w.1 in
      let gone : Makes t (Delete id) u = done_makes t (Delete id) w.0 u w.2 in
      let volumes : remove t.volumes id ≡ s.volumes =
      ap (λ (p : PlainPool). remove p.volumes id) taken.is ∙ removed_again s.volumes id (volume_of s origin) absent in
      let same : u ≡ record s { meta_used = u.meta_used } =
      gone.is ∙ (λ i. record (taken.is i) { volumes = volumes i; meta_used = u.meta_used }) in
      let unheld : s.held_root ≡ 0 → t.held_root ≡ 0 = λ free. ap (λ (p : PlainPool). p.held_root) taken.is ∙ free in
      record {
        more = t.meta_used;
        left = u.meta_used;
        before_is = line_is old s before shown first;
        between_is = line_is mid t between m.3 second ∙ ap pool_line taken.is;
        behind_is = line_is new u behind w.3 third ∙ ap pool_line same;
        few = taken.taken;
        none = λ free. gone.taken (unheld free);
      }
