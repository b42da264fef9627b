-- What a held copy of a volume shows.
use Rattle.std.proofs.Common.{◌≡◌, inl, inr, ℕ, ◌-◌, ◌/◌, ◌%◌, ◌^◌, ◌<◌, Bool, false, cond, Option, Some, None, List, [], length, take, drop, sym, ap, subst, ◌∙◌, arith}
use Rattle.std.specs.Prelude.{MatchOption, ◌&&◌}
use Rattle.std.specs.Option.{is_some, option_map_or}
use Rattle.std.specs.FinMap.{get}
use Rattle.std.proofs.lemmas.Bool.{and_parts, false≢true, le-ltb, lt-ltb}
use Rattle.tp_model.specs.declared.refusal.Refusal.{Refusal}
use Rattle.tp_model.specs.declared.mode.Mode.TheVariants as mode
use Rattle.tp_model.specs.Sectors.{Sector, sectors_of}
use Rattle.tp_model.specs.Pool.{PlainPool, Volume, copy_id, is_now, volume_sectors}
use Rattle.tp_model.specs.Calls.{Edits, Gave, HeldRead, Makes, Refused, Reserves, Takes, Write, after_refusal, held_of, refusal_of, reply}
use Rattle.tp_model.specs.PoolStops.{reopened}
use Rattle.tp_meta.specs.declared.whole.Meta.{Meta}
use Rattle.tp_meta.specs.Standing.{StandsFor, geometry_of}
use Rattle.tp_pool.specs.Held.{Held, PoolCalled, shows}
use Rattle.tp_users.specs.Users.{Bears, BearsCopy}
use Rattle.tp_users.proofs.Given.{Shows}
use Rattle.tp_users.proofs.Parting.{bears_at}
use Rattle.tp_users.proofs.Plain.{is_device, is_refused, sectors_in}
use Rattle.tp_users.proofs.Unchanged.{same_bytes}

-- ---- whose copy it is

pub held_low : (id : ℕ) → id < 2 ^ 24 → held_of id ≡ id
held_low id low = ap (λ (b : Bool). cond b id (id - 2 ^ 24)) (lt-ltb id (2 ^ 24) low)

pub copy_is_high : (id : ℕ) → is_now (copy_id id) ≡ false
copy_is_high id = le-ltb (copy_id id) (2 ^ 24) (omega arith)

pub held_high : (id : ℕ) → held_of (copy_id id) ≡ id
held_high id =
    let back : copy_id id - 2 ^ 24 ≡ id = omega arith in ap (λ (b : Bool). cond b (copy_id id) (copy_id id - 2 ^ 24)) (copy_is_high id) ∙ back

pub copy_is_other : (id : ℕ) → copy_id id ≡ id → ⊥
copy_is_other id same = omega (arith, same)

-- ---- the mapping is reserved

module _ (id : ℕ) (s q : PlainPool) (low : id < 2 ^ 24) (r : Reserves s q) where
  pub at_volume : get q.volumes id ≡ get s.volumes id
  at_volume = r.volumes id ∙ ap (get s.volumes) (held_low id low)

  pub at_copy : get q.volumes (copy_id id) ≡ get s.volumes id
  at_copy = r.volumes (copy_id id) ∙ ap (get s.volumes) (held_high id)

module _ (id sector : ℕ) (bytes : List ℕ) (s q : PlainPool) (b : Bears id sector bytes s) (r : Reserves s q) where
  low : id < 2 ^ 24
  low = is_device s id b.there

  pub still_bears : Bears id sector bytes q
  still_bears =
      bears_at id id sector bytes s q b (ap (λ (p : PlainPool). p.geometry) r.rest) (ap (λ (p : PlainPool). p.mode) r.rest) (ap (λ (p : PlainPool). p.needs_check) r.rest)
      (ap (λ (o : Option Volume). is_now id && is_some o) (at_volume id s q low r) ∙ b.there) (ap (λ (o : Option Volume). option_map_or (λ v. v.sectors) o []) (at_volume id s q low r))

  pub copy_bears : BearsCopy id sector bytes q
  copy_bears = record {
    works = ap (λ (p : PlainPool). p.mode) r.rest ∙ b.works;
    held = r.held;
    there = ap is_some (at_copy id s q low r) ∙ (and_parts (is_now id) (is_some (get s.volumes id)) b.there).1;
    bytes_are = ap (λ (o : Option Volume). take (length bytes / 512) (drop sector (option_map_or (λ v. v.sectors) o []))) (at_copy id s q low r) ∙ b.bytes_are;
  }

-- a write to a volume leaves its copy
pub copy_stays : (id sector at : ℕ) (bytes : List ℕ) (xs : List Sector) (s q : PlainPool) → BearsCopy id sector bytes s → Edits s (Write id at xs false) id q → BearsCopy id sector bytes q
copy_stays id sector at bytes xs s q c e =
    let same : get q.volumes (copy_id id) ≡ get s.volumes (copy_id id) = e.others (copy_id id) (copy_is_other id) in
    record {
      works = ap (λ (p : PlainPool). p.mode) e.rest ∙ c.works;
      held = subst (λ (n : ℕ). 0 < n) (sym (ap (λ (p : PlainPool). p.held_root) e.rest)) c.held;
      there = ap is_some same ∙ c.there;
      bytes_are = ap (λ (o : Option Volume). take (length bytes / 512) (drop sector (option_map_or (λ v. v.sectors) o []))) same ∙ c.bytes_are;
    }

-- what is opened again holds it too
pub reopened_copy : (id sector : ℕ) (bytes : List ℕ) (s : PlainPool) → s.needs_check ≡ false → BearsCopy id sector bytes s → BearsCopy id sector bytes (reopened s)
reopened_copy id sector bytes s clean c = record {
  works = ap (λ (b : Bool). cond b mode.ReadOnly mode.Writable) clean;
  held = c.held;
  there = c.there;
  bytes_are = c.bytes_are;
}

-- ---- it is read

gives : (s after : PlainPool) (id sector n : ℕ) (xs : List Sector) (o : Option Refusal)
    → MatchOption o ((Gave xs ≡ reply s (HeldRead id sector n)) × Makes s (HeldRead id sector n) after) (λ r. (Gave xs ≡ Refused r) × (after ≡ after_refusal r s))
    → (xs ≡ take n (drop sector (volume_sectors s (copy_id id)))) × (after ≡ s)
gives s after id sector n xs None h = (ap sectors_in h.0, h.1)
gives s after id sector n xs (Some r) h = absurd (false≢true (ap is_refused h.0))

plainly : (s made after : PlainPool) (id sector n : ℕ) (xs : List Sector) → Takes s (HeldRead id sector n) (Gave xs) made after
    → (xs ≡ take n (drop sector (volume_sectors s (copy_id id)))) × (after ≡ s)
plainly s made after id sector n xs (inl step) = gives s after id sector n xs (refusal_of s (HeldRead id sector n)) step.0
plainly s made after id sector n xs (inr fault) = absurd (false≢true (ap is_refused fault.0))

-- a read of the copy gives what it bears, and changes nothing
pub reads_copy : (old new : Held Meta) (id sector n : ℕ) (bytes out : List ℕ) (s : PlainPool) → BearsCopy id sector bytes s → Shows old s → n ≡ length bytes / 512 → length bytes % 512 ≡ 0
    → length out ≡ length bytes → PoolCalled geometry_of StandsFor old new (HeldRead id sector n) (Gave (sectors_of out)) → (out ≡ bytes) × Shows new s
reads_copy old new id sector n bytes out s c is many whole long called =
    let m = called.called.meets s is in
    let p = plainly s m.0 m.1 id sector n (sectors_of out) m.2 in (
      same_bytes out bytes (ap (λ m. m % 512) long ∙ whole) whole (p.0 ∙ ap (λ m. take m (drop sector (volume_sectors s (copy_id id)))) many ∙ c.bytes_are),
      subst (λ (t : PlainPool). shows geometry_of StandsFor new t) p.1 m.3,
    )
