-- A flush in parts of a pool on a cache.
use Rattle.std.proofs.Common.{◌≡◌, ℕ, ◌≤◌, Bool, List, None, Some, Option, Result, length, refl, sym, ap, subst, ◌∙◌}
use Rattle.std.specs.Prelude.{MatchOption}
use Rattle.tp_model.specs.declared.refusal.Refusal.{Refusal}
use Rattle.tp_model.specs.Geometry.{Geometry}
use Rattle.tp_model.specs.Calls.{Done, Flush}
use Rattle.tp_model.specs.Disk.{DiskState}
use Rattle.tp_cache.specs.Line.{IsLine}
use Rattle.tp_cache.specs.Table as tables
use Rattle.tp_stored.specs.Contents.{Contents}
use Rattle.tp_pool.specs.Besides.{Besides, besides_of}
use Rattle.tp_pool.specs.Flushes.{served}
use Rattle.tp_pool.specs.Held.{Held}
use Rattle.tp_pool.specs.Midway as pools
use Rattle.tp_served.specs.Served.{Cached, IsKnown, on_cache}
use Rattle.tp_served.specs.Midway.{IsFlushed, IsMidway}
use Rattle.tp_served.proofs.Answered.{met_geometry, met_under}
use Rattle.tp_served.proofs.Inner.{LeftLaw}

module _ {M : Type 0} (geometry : M → Geometry) (stands : M → DiskState → Contents → Contents → Type 0) (marks : M → List Bool) (room : M → ℕ) (changed : M → Bool)
    (left : LeftLaw geometry stands marks room changed) (tells : M → DiskState → Contents → Contents → Type 0) (midway : M → Bool → DiskState → DiskState → Type 0) where
  -- what a part left of the pool on the cache
  abbrev pub Left : Bool → Held M → Held M → Option (Result (Unit {0}) Refusal) → Type 0
  Left is_named old q r =
      MatchOption r ((q ≡ record old { disk = q.disk }) × pools.IsMidFlush geometry stands tells midway old is_named q.disk) (λ answer. pools.IsFlushed geometry stands marks room changed old q answer)

  -- the pool of which a flush was begun, as it stood on its cache
  module _ (old : Cached M) (q : Held M) (known : IsKnown geometry old) where
    -- the cache was made for so many blocks
    pub blocks_flushed : (start : tables.Held) (answer : Result (Unit {0}) Refusal) → start ≡ old.cache → pools.IsFlushed geometry stands marks room changed (on_cache old) q answer
        → length start.index ≤ (geometry q.metadata).metadata_blocks
    blocks_flushed start answer is met =
        subst (λ (g : Geometry). length start.index ≤ g.metadata_blocks) (sym (met_geometry (served geometry stands marks room changed) (on_cache old) q Flush (λ x. Done) answer met))
        (subst (λ (c : tables.Held). length c.index ≤ (geometry old.besides.metadata).metadata_blocks) (sym is) known.blocks)

    pub blocks_left : (is_named : Bool) (start : tables.Held) (r : Option (Result (Unit {0}) Refusal)) → start ≡ old.cache → Left is_named (on_cache old) q r → length start.index ≤ (geometry q.metadata).metadata_blocks
    blocks_left is_named start None is mid =
        subst (λ (m : M). length start.index ≤ (geometry m).metadata_blocks) (sym (ap (λ (h : Held M). h.metadata) mid.0))
        (subst (λ (c : tables.Held). length c.index ≤ (geometry old.besides.metadata).metadata_blocks) (sym is) known.blocks)
    blocks_left is_named start (Some answer) is met = blocks_flushed start answer is met

    module _ (new : Cached M) (line : IsLine new.cache.line) (start : tables.Held) (is : start ≡ old.cache) (after : on_cache new ≡ q) (since : tables.Since start new.cache) where
      pub flushed_under : (answer : Result (Unit {0}) Refusal) → pools.IsFlushed geometry stands marks room changed (on_cache old) q answer → IsFlushed geometry stands marks room changed old new answer
      flushed_under answer met =
          met_under geometry stands marks room changed left old new (on_cache old) q start Flush (λ x. Done) answer known line is refl after since met

      pub left_under : (is_named : Bool) (r : Option (Result (Unit {0}) Refusal)) → Left is_named (on_cache old) q r
          → MatchOption r (IsMidway geometry stands tells midway old is_named new) (λ answer. IsFlushed geometry stands marks room changed old new answer)
      left_under is_named None mid = record {
        known = known;
        since = subst (λ (c : tables.Held). tables.Since c new.cache) is since;
        besides = ap (λ (h : Held M). besides_of h) after ∙ ap (λ (h : Held M). besides_of h) mid.0;
        flush = subst (λ (d : DiskState). pools.IsMidFlush geometry stands tells midway (on_cache old) is_named d) (sym (ap (λ (h : Held M). h.disk) after)) mid.1;
      }
      left_under is_named (Some answer) met = flushed_under answer met

  -- the pool at its next part
  module _ (old now : Cached M) (is_named : Bool) (mid : IsMidway geometry stands tells midway old is_named now) (p : Held M) (is : p ≡ on_cache now) where
    pub goes_on : p ≡ record (on_cache old) { disk = p.disk }
    goes_on =
        is ∙ ap (λ (b : Besides M). record { disk = now.cache.line.outer; metadata = b.metadata; holders = b.holders; mode = b.mode }) mid.besides
        ∙ sym (ap (λ (h : Held M). record (on_cache old) { disk = h.disk }) is)

    pub mid_flush : pools.IsMidFlush geometry stands tells midway (on_cache old) is_named p.disk
    mid_flush = subst (λ (d : DiskState). pools.IsMidFlush geometry stands tells midway (on_cache old) is_named d) (sym (ap (λ (h : Held M). h.disk) is)) mid.flush
