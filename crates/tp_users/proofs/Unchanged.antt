-- What a call leaves as it was.
use Rattle.std.proofs.Common.{◌≡◌, inl, inr, ℕ, ◌/◌, ◌%◌, Bool, false, None, Some, Option, List, length, take, drop, refl, sym, ap, subst, ◌∙◌, arith}
use Rattle.std.specs.Prelude.{MatchOption}
use Rattle.std.specs.List.{concat}
use Rattle.std.proofs.lemmas.Bool.{false≢true}
use Rattle.tp_model.specs.declared.refusal.Refusal.{Refusal}
use Rattle.tp_model.specs.declared.refusal.Refusal.TheVariants.{NoDataSpace}
use Rattle.tp_model.specs.Geometry.{Geometry}
use Rattle.tp_model.specs.Refusals.{refusal_number}
use Rattle.tp_model.specs.Sectors.{Sector, sectors_of}
use Rattle.tp_model.specs.Pool.{PlainPool, volume_sectors}
use Rattle.tp_model.specs.Calls.{Call, Gave, Makes, Read, Refused, Takes, Write, after_refusal, refusal_of, reply}
use Rattle.tp_model.specs.Disk.{DiskState}
use Rattle.tp_model.proofs.DiskLaws.{concat-chopped}
use Rattle.tp_stored.specs.Contents.{Contents}
use Rattle.tp_pool.specs.Held.{Held, PoolCalled, PoolRefused, shows}
use Rattle.tp_users.proofs.Plain.{is_refused, reason_of, sectors_in}

-- a read gives what stands there
gives : (s after : PlainPool) (id sector n : ℕ) (xs : List Sector) (o : Option Refusal)
    → MatchOption o ((Gave xs ≡ reply s (Read id sector n)) × Makes s (Read id sector n) after) (λ r. (Gave xs ≡ Refused r) × (after ≡ after_refusal r s))
    → (xs ≡ take n (drop sector (volume_sectors s id))) × (after ≡ s)
gives s after id sector n xs None h = (ap sectors_in h.0, h.1)
gives s after id sector n xs (Some r) h = absurd (false≢true (ap is_refused h.0))

pub plainly : (s made after : PlainPool) (id sector n : ℕ) (xs : List Sector) → Takes s (Read id sector n) (Gave xs) made after → (xs ≡ take n (drop sector (volume_sectors s id))) × (after ≡ s)
plainly s made after id sector n xs (inl step) = gives s after id sector n xs (refusal_of s (Read id sector n)) step.0
plainly s made after id sector n xs (inr fault) = absurd (false≢true (ap is_refused fault.0))

-- a write that is refused for want of data blocks changes nothing
stays : (s after : PlainPool) (call : Call) (o : Option Refusal) → is_refused (reply s call) ≡ false
    → MatchOption o ((Refused NoDataSpace ≡ reply s call) × Makes s call after) (λ r. (Refused NoDataSpace ≡ Refused r) × (after ≡ after_refusal r s)) → after ≡ s
stays s after call None accepts h = absurd (false≢true (sym accepts ∙ ap is_refused (sym h.0)))
stays s after call (Some r) accepts h = h.1 ∙ ap (λ (x : Refusal). after_refusal x s) (sym (ap reason_of h.0))

left_alone : (s made after : PlainPool) (id sector : ℕ) (xs : List Sector) (fua : Bool) → Takes s (Write id sector xs fua) (Refused NoDataSpace) made after → after ≡ s
left_alone s made after id sector xs fua (inl step) = stays s after (Write id sector xs fua) (refusal_of s (Write id sector xs fua)) refl step.0
left_alone s made after id sector xs fua (inr fault) = absurd (omega (arith, ap (λ a. refusal_number (reason_of a)) fault.0))

module _ {M : Type 0} (geometry : M → Geometry) (stands : M → DiskState → Contents → Contents → Type 0) (s : PlainPool) where
  abbrev Shows : Held M → Type 0
  Shows h = shows geometry stands h s

  pub read_it : (old new : Held M) (id sector n : ℕ) (out : List ℕ) → Shows old → PoolCalled geometry stands old new (Read id sector n) (Gave (sectors_of out))
      → (sectors_of out ≡ take n (drop sector (volume_sectors s id))) × Shows new
  read_it old new id sector n out is called =
      let m = called.called.meets s is in
      let p = plainly s m.0 m.1 id sector n (sectors_of out) m.2 in
      (p.0, subst (λ (t : PlainPool). shows geometry stands new t) p.1 m.3)

  pub refused_it : (old new : Held M) (id sector : ℕ) (xs : List Sector) (fua : Bool) → Shows old → PoolRefused geometry stands old new (Write id sector xs fua) NoDataSpace → Shows new
  refused_it old new id sector xs fua is called =
      let m = called.called.meets s is in subst (λ (t : PlainPool). shows geometry stands new t) (left_alone s m.0 m.1 id sector xs fua m.2) m.3

pub same_bytes : (xs ys : List ℕ) → length xs % 512 ≡ 0 → length ys % 512 ≡ 0 → sectors_of xs ≡ sectors_of ys → xs ≡ ys
same_bytes xs ys long also same =
    sym (concat-chopped (length xs / 512) xs (omega (arith, long))) ∙ ap concat same ∙ concat-chopped (length ys / 512) ys (omega (arith, also))
