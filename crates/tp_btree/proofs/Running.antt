-- One call after another.
use Rattle.std.proofs.Common.{◌≡◌, ℕ, ◌+◌, ◌≤◌, Bool, true, false, refl, sym, ap, subst, ◌∙◌, arith, rules, set}
use Rattle.std.specs.Prelude.{not}
use Rattle.tp_model.specs.Disk.{DiskState, FaultHasCause, IsSameDisk, after_read}
use Rattle.tp_tm.specs.Tm.{Tm, free_metadata, used_metadata}
use Rattle.tp_tm.specs.Keeps.{LeavesKept}
use Rattle.tp_tm.proofs.Keeping.{joins_kept, read_kept, starts_kept}
use Rattle.tp_btree.specs.Inserts.{Ran}

cause_then : (fault : Bool) (a b c : DiskState) → FaultHasCause false a b → FaultHasCause fault b c → FaultHasCause fault a c
cause_then fault a b c p q = record {
  no_fewer = omega (arith, p.no_fewer, q.no_fewer);
  more = λ f. omega (arith, p.no_fewer, q.more f);
  none = λ f. q.none f ∙ p.none (search rules);
}

-- a call that succeeded, and then another
pub ran_then : (n k m : ℕ) (fault : Bool) (old mid new : Tm) (a b c : DiskState) → n + k ≤ m → Ran n false old mid a b → Ran k fault mid new b c → Ran m fault old new a c
ran_then n k m fault old mid new a b c fits p q = record {
  geometry = q.geometry ∙ p.geometry;
  metadata_kept = q.metadata_kept ∙ p.metadata_kept;
  data_kept = q.data_kept ∙ p.data_kept;
  held_root = q.held_root ∙ p.held_root;
  room = omega (arith, fits, p.room, q.room);
  used = omega (arith, fits, p.used, q.used);
  any_moment = joins_kept p.any_moment (subst (λ kept. LeavesKept kept b c) p.metadata_kept q.any_moment);
  same_disk = record { size = q.same_disk.size ∙ p.same_disk.size; is_honest = q.same_disk.is_honest ∙ p.same_disk.is_honest };
  cause = cause_then fault a b c p.cause q.cause;
  flushes = q.flushes ∙ p.flushes;
}

-- a call that took more is one that took no more
pub ran_more : (n m : ℕ) (fault : Bool) (old new : Tm) (a b : DiskState) → n ≤ m → Ran n fault old new a b → Ran m fault old new a b
ran_more n m fault old new a b fits p = record {
  geometry = p.geometry;
  metadata_kept = p.metadata_kept;
  data_kept = p.data_kept;
  held_root = p.held_root;
  room = omega (arith, fits, p.room);
  used = omega (arith, fits, p.used);
  any_moment = p.any_moment;
  same_disk = p.same_disk;
  cause = p.cause;
  flushes = p.flushes;
}

-- nothing on the disk
pub ran_still : (n : ℕ) (old new : Tm) (a : DiskState) → new.geometry ≡ old.geometry → new.metadata_kept ≡ old.metadata_kept → new.data_kept ≡ old.data_kept → new.held_root ≡ old.held_root → free_metadata old ≤ free_metadata new + n → used_metadata new ≤ used_metadata old + n → Ran n false old new a a
ran_still n old new a g mk dk hr room used = record {
  geometry = g;
  metadata_kept = mk;
  data_kept = dk;
  held_root = hr;
  room = room;
  used = used;
  any_moment = starts_kept old.metadata_kept a;
  same_disk = record { size = refl; is_honest = refl };
  cause = record { no_fewer = omega arith; more = λ f. search (rules, f); none = λ f. refl };
  flushes = refl;
}

-- a read
pub ran_read : (n : ℕ) (fault : Bool) (old new : Tm) (a b : DiskState) → new.geometry ≡ old.geometry → new.metadata_kept ≡ old.metadata_kept → new.data_kept ≡ old.data_kept → new.held_root ≡ old.held_root → free_metadata old ≤ free_metadata new + n
    → used_metadata new ≤ used_metadata old + n → b ≡ after_read (not fault) a → Ran n fault old new a b
ran_read n fault old new a b g mk dk hr room used e = record {
  geometry = g;
  metadata_kept = mk;
  data_kept = dk;
  held_root = hr;
  room = room;
  used = used;
  any_moment = read_kept (not fault) (starts_kept old.metadata_kept a) e;
  same_disk = record { size = ap (λ (d : DiskState). d.size) e; is_honest = ap (λ (d : DiskState). d.is_honest) e };
  cause = subst (λ d. FaultHasCause fault a d) (sym e) (cause fault);
  flushes = ap (λ (d : DiskState). d.flushes) e;
}
  where
    cause : (fault : Bool) → FaultHasCause fault a (after_read (not fault) a)
    cause true = record { no_fewer = omega arith; more = λ f. omega arith; none = λ f. search (rules, f) }
    cause false = record { no_fewer = omega arith; more = λ f. search (rules, f); none = λ f. refl }

-- a block was taken, and then another call made
pub ran_taken : (fault : Bool) (old mid new : Tm) (a b : DiskState) (block : ℕ) → mid ≡ record old { metadata_now = set old.metadata_now block 1 } → free_metadata old ≤ free_metadata mid + 1
    → used_metadata mid ≤ used_metadata old + 1 → Ran 0 fault mid new a b → Ran 1 fault old new a b
ran_taken fault old mid new a b block taken room used p =
    ran_then 1 0 1 fault old mid new a a b (omega arith)
    (ran_still 1 old mid a (ap (λ (t : Tm). t.geometry) taken) (ap (λ (t : Tm). t.metadata_kept) taken) (ap (λ (t : Tm). t.data_kept) taken) (ap (λ (t : Tm). t.held_root) taken) room used) p

-- a write, by which no block is taken
pub ran_wrote : (fault : Bool) (old new : Tm) (a b : DiskState) → new ≡ old → LeavesKept old.metadata_kept a b → IsSameDisk a b → FaultHasCause fault a b → b.flushes ≡ a.flushes → Ran 0 fault old new a b
ran_wrote fault old new a b e moments same cause flushes = record {
  geometry = ap (λ (t : Tm). t.geometry) e;
  metadata_kept = ap (λ (t : Tm). t.metadata_kept) e;
  data_kept = ap (λ (t : Tm). t.data_kept) e;
  held_root = ap (λ (t : Tm). t.held_root) e;
  room = omega (arith, ap free_metadata e);
  used = omega (arith, ap used_metadata e);
  any_moment = moments;
  same_disk = same;
  cause = cause;
  flushes = flushes;
}
