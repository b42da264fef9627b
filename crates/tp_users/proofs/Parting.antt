-- What a volume and its snapshot show.
use Rattle.std.proofs.Common.{◌≡◌, ◌≢◌, inl, inr, ℕ, ◌+◌, ◌/◌, ◌%◌, ◌^◌, ◌<◌, ◌≤◌, Bool, true, false, cond, Option, Some, None, List, [], length, take, drop, refl, sym, ap, subst, ◌∙◌, arith}
use Rattle.std.specs.Prelude.{MatchOption, nat_le, not, ◌&&◌}
use Rattle.std.specs.Option.{is_some, option_map_or}
use Rattle.std.specs.FinMap.{get}
use Rattle.std.proofs.lemmas.Bool.{eq-eqb, false≢true, ne_eqb}
use Rattle.tp_model.specs.declared.refusal.Refusal.{Refusal}
use Rattle.tp_model.specs.declared.refusal.Refusal.TheVariants.{Exists, Failed, Fault, NoMetadataSpace, NoSuchDevice, ReadOnly, TooManyDevices}
use Rattle.tp_model.specs.declared.mode.Mode.{Mode}
use Rattle.tp_model.specs.declared.mode.Mode.TheVariants as mode
use Rattle.tp_model.specs.Sectors.{Sector, sectors_of}
use Rattle.tp_model.specs.Pool.{PlainPool, Volume, device_count, is_now, volume_sectors}
use Rattle.tp_model.specs.Calls.{Call, CreateSnap, Done, Edits, Makes, Read, Gave, Refused, Takes, Write, after_refusal, exists, has_metadata_room, is_failed, is_read_only, refusal_of, reply, volume_of}
use Rattle.tp_model.proofs.Maps.{get_insert}
use Rattle.tp_meta.specs.declared.whole.Meta.{Meta}
use Rattle.tp_meta.specs.Standing.{StandsFor, geometry_of}
use Rattle.tp_pool.specs.Held.{Held, PoolCalled, shows}
use Rattle.tp_users.specs.Users.{Bears}
use Rattle.tp_users.proofs.Plain.{device_there, done_makes, is_device, not_refused, put_is_borne}
use Rattle.tp_users.proofs.Unchanged.{read_it, same_bytes}

-- ---- what is done was refused by no test

untested : (s q : PlainPool) (call : Call) (o : Option Refusal)
    → MatchOption o ((Done ≡ reply s call) × Makes s call q) (λ reason. (Done ≡ Refused reason) × (q ≡ after_refusal reason s)) → o ≡ None
untested s q call None h = refl
untested s q call (Some reason) h = absurd (not_refused reason h.0)

pub accepted : (s made after : PlainPool) (call : Call) → Takes s call Done made after → refusal_of s call ≡ None
accepted s made after call (inl step) = untested s after call (refusal_of s call) step.0
accepted s made after call (inr fault) = absurd (not_refused Fault fault.0)

free_id : (there : Bool) (rest : Option Refusal) → cond there (Some Exists) rest ≡ None → there ≡ false
free_id true rest e = absurd (false≢true (sym (ap is_some e)))
free_id false rest e = refl

-- a snapshot of a volume that is there has an id that no volume had
new_is_free : (s : PlainPool) (copy origin : ℕ) → s.mode ≡ mode.Writable → exists s origin ≡ true → refusal_of s (CreateSnap copy origin) ≡ None → exists s copy ≡ false
new_is_free s copy origin works there none =
    let rest : Option Refusal = cond (nat_le 65536 (device_count s)) (Some TooManyDevices) (cond (not (has_metadata_room s 512)) (Some NoMetadataSpace) None) in
    let by_mode : refusal_of s (CreateSnap copy origin) ≡ cond (not (exists s origin)) (Some NoSuchDevice) (cond (exists s copy) (Some Exists) rest) =
    ap (λ (m : Mode). cond (is_failed m) (Some Failed) (cond (is_read_only m) (Some ReadOnly) (cond (not (exists s origin)) (Some NoSuchDevice) (cond (exists s copy) (Some Exists) rest)))) works in
    let by_there : cond (not (exists s origin)) (Some NoSuchDevice) (cond (exists s copy) (Some Exists) rest) ≡ cond (exists s copy) (Some Exists) rest =
    ap (λ (b : Bool). cond (not b) (Some NoSuchDevice) (cond (exists s copy) (Some Exists) rest)) there in
    free_id (exists s copy) rest (sym (by_mode ∙ by_there) ∙ none)

-- ---- which volume bears what

-- a volume bears what another one bore before, where it has its sectors
pub bears_at : (id other sector : ℕ) (bytes : List ℕ) (s q : PlainPool) → Bears id sector bytes s → q.geometry ≡ s.geometry → q.mode ≡ s.mode → q.needs_check ≡ s.needs_check
    → exists q other ≡ true → volume_sectors q other ≡ volume_sectors s id → Bears other sector bytes q
bears_at id other sector bytes s q b sizes works clean there same = record {
  geometry = sizes ∙ b.geometry;
  works = works ∙ b.works;
  clean = clean ∙ b.clean;
  there = there;
  inside = subst (λ (l : List Sector). sector + length bytes / 512 ≤ length l) (sym same) b.inside;
  bytes_are = ap (λ (l : List Sector). take (length bytes / 512) (drop sector l)) same ∙ b.bytes_are;
}

sectors_at : Option Volume → List Sector
sectors_at o = option_map_or (λ v. v.sectors) o []

module _ (origin copy sector : ℕ) (bytes : List ℕ) (s q : PlainPool) (b : Bears origin sector bytes s) (other : copy ≢ origin) (low : copy < 2 ^ 24) (is : Makes s (CreateSnap copy origin) q) where
  at_copy : get q.volumes copy ≡ Some (volume_of s origin)
  at_copy =
      ap (λ (p : PlainPool). get p.volumes copy) is.is ∙ get_insert s.volumes copy (volume_of s origin) copy
      ∙ ap (λ (t : Bool). cond t (Some (volume_of s origin)) (get s.volumes copy)) (eq-eqb copy copy refl)

  at_origin : get q.volumes origin ≡ get s.volumes origin
  at_origin =
      ap (λ (p : PlainPool). get p.volumes origin) is.is ∙ get_insert s.volumes copy (volume_of s origin) origin
      ∙ ap (λ (t : Bool). cond t (Some (volume_of s origin)) (get s.volumes origin)) (ne_eqb origin copy (λ e. other (sym e)))

  sizes_are : q.geometry ≡ s.geometry
  sizes_are = ap (λ (p : PlainPool). p.geometry) is.is

  works_are : q.mode ≡ s.mode
  works_are = ap (λ (p : PlainPool). p.mode) is.is

  clean_are : q.needs_check ≡ s.needs_check
  clean_are = ap (λ (p : PlainPool). p.needs_check) is.is

  pub origin_bears : Bears origin sector bytes q
  origin_bears =
      bears_at origin origin sector bytes s q b sizes_are works_are clean_are (ap (λ (o : Option Volume). is_now origin && is_some o) at_origin ∙ b.there) (ap (λ (o : Option Volume). option_map_or (λ v. v.sectors) o []) at_origin)

  pub copy_bears : Bears copy sector bytes q
  copy_bears = bears_at origin copy sector bytes s q b sizes_are works_are clean_are (device_there q copy low (ap is_some at_copy)) (ap (λ (o : Option Volume). option_map_or (λ v. v.sectors) o []) at_copy)

-- another volume than that which is written to bears what it bore
others_bear : (id other sector at : ℕ) (bytes : List ℕ) (xs : List Sector) (s q : PlainPool) → Bears other sector bytes s → other ≢ id → Edits s (Write id at xs false) id q
    → Bears other sector bytes q
others_bear id other sector at bytes xs s q b apart e =
    bears_at other other sector bytes s q b (ap (λ (p : PlainPool). p.geometry) e.rest) (ap (λ (p : PlainPool). p.mode) e.rest) (ap (λ (p : PlainPool). p.needs_check) e.rest)
    (ap (λ (o : Option Volume). is_now other && is_some o) (e.others other apart) ∙ b.there) (ap (λ (o : Option Volume). option_map_or (λ v. v.sectors) o []) (e.others other apart))

-- ---- the calls

abbrev Shows : Held Meta → PlainPool → Type 0
Shows = shows geometry_of StandsFor

-- a volume and its snapshot
pub record ArePair (origin copy sector : ℕ) (bytes : List ℕ) (h : Held Meta) : Type 0 where
  pub pool : PlainPool
  pub apart : copy ≢ origin
  pub origin_has : Bears origin sector bytes pool
  pub copy_has : Bears copy sector bytes pool
  pub shown : Shows h pool

pub snapped : (old new : Held Meta) (origin copy sector : ℕ) (bytes : List ℕ) → copy < 2 ^ 24 → ((s : PlainPool) × Bears origin sector bytes s × Shows old s)
    → PoolCalled geometry_of StandsFor old new (CreateSnap copy origin) Done → ArePair origin copy sector bytes new
snapped old new origin copy sector bytes low w called =
    let s = w.0 in
    let b = w.1 in
    let m = called.called.meets s w.2 in
    let made : Makes s (CreateSnap copy origin) m.1 = done_makes s (CreateSnap copy origin) m.0 m.1 m.2 in
    let free : exists s copy ≡ false = new_is_free s copy origin b.works b.there (accepted s m.0 m.1 (CreateSnap copy origin) m.2) in
    let other : copy ≢ origin = λ e. false≢true (sym free ∙ ap (exists s) e ∙ b.there) in
    record {
      pool = m.1;
      apart = other;
      origin_has = origin_bears origin copy sector bytes s m.1 b other low made;
      copy_has = copy_bears origin copy sector bytes s m.1 b other low made;
      shown = m.3;
    }

pub parted : (old new : Held Meta) (origin copy sector : ℕ) (first second : List ℕ) → ArePair origin copy sector first old → length second ≡ length first
    → PoolCalled geometry_of StandsFor old new (Write origin sector (sectors_of second) false) Done
    → (s : PlainPool) × Bears origin sector second s × Bears copy sector first s × Shows new s
parted old new origin copy sector first second w long called =
    let s = w.pool in
    let b = w.origin_has in
    let m = called.called.meets s w.shown in
    let made : Edits s (Write origin sector (sectors_of second) false) origin m.1 = done_makes s (Write origin sector (sectors_of second) false) m.0 m.1 m.2 in
    let many : length second / 512 ≡ length first / 512 = ap (λ n. n / 512) long in (
      m.1,
      put_is_borne origin sector second s m.1 (is_device s origin b.there) b.geometry b.works b.clean (omega (arith, many, b.inside)) made,
      others_bear origin copy sector sector first (sectors_of second) s m.1 w.copy_has w.apart made,
      m.3,
    )

-- a read gives what the volume bears, and changes nothing
pub reads : (old new : Held Meta) (id sector n : ℕ) (bytes out : List ℕ) (s : PlainPool) → Bears id sector bytes s → Shows old s → n ≡ length bytes / 512 → length bytes % 512 ≡ 0
    → length out ≡ length bytes → PoolCalled geometry_of StandsFor old new (Read id sector n) (Gave (sectors_of out)) → (out ≡ bytes) × Shows new s
reads old new id sector n bytes out s b shown many whole long called =
    let r = read_it geometry_of StandsFor s old new id sector n out shown called in
    (same_bytes out bytes (ap (λ m. m % 512) long ∙ whole) whole (r.0 ∙ ap (λ m. take m (drop sector (volume_sectors s id))) many ∙ b.bytes_are), r.1)
