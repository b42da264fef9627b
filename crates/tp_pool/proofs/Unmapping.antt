-- Blocks of a volume that lose their data blocks one after another.
use Rattle.std.proofs.Common.{◌≡◌, ◌⊎◌, inl, inr, ℕ, zero, suc, ◌+◌, ◌-◌, ◌*◌, ◌/◌, ◌^◌, ◌<◌, ◌≤◌, Bool, Option, None, Some, List, refl, sym, ◌∙◌, ap, subst, arith}
use Rattle.std.specs.Prelude.{IsSome, is_some}
use Rattle.std.proofs.lemmas.Bool.{cases_eq, false≢true}
use Rattle.std.proofs.lemmas.Nat.{div-mul-add}
use Rattle.tp_sharing.proofs.Told.{size_changes}
use Rattle.tp_model.specs.Geometry.{Geometry, IsWithinLimits}
use Rattle.tp_model.specs.Disk.{DiskState}
use Rattle.tp_model.specs.DiskStops.{Leaves}
use Rattle.tp_model.proofs.DiskStopLaws.{starts}
use Rattle.tp_sharing.specs.Volumes.{DevicesAscend, Volumes, slot_of, without_place, without_slot}
use Rattle.tp_sharing.proofs.Changes.{slot_changes}
use Rattle.tp_stored.specs.Contents.{Contents, HoldsContents, IsStill}
use Rattle.tp_mapping.specs.Mapping.{IsWithin}
use Rattle.tp_mapping.specs.Runs.{without_run}
use Rattle.tp_mapping.proofs.WithoutRuns.{run_idle, within_run}
use Rattle.tp_meta.specs.Metadata.{IsChanging}
use Rattle.tp_shown.specs.Shown.{HasLost, blocks_covered, first_covered}
use Rattle.tp_shown.proofs.Blocks.{quotients_ascend}
use Rattle.tp_shown.proofs.Trimmed.{begins_inside}
use Rattle.tp_pool.specs.Held.{most_sectors}
use Rattle.tp_pool.specs.Trimming.{HasUnmapped}
use Rattle.tp_pool.proofs.NewBlock.{same_devices}
use Rattle.tp_pool.proofs.Rounds.{below}

-- ---- slots

pub lost_nothing : (id first : ℕ) (now : Volumes) → HasLost id first 0 now now
lost_nothing id first now = record {
  devices = λ i. refl;
  sizes = λ i. refl;
  lost = λ block low high. absurd (omega (arith, low, high));
  others = λ i block apart. refl;
}

module _ (id first n next : ℕ) (is_next : next ≡ first + n) (now mid : Volumes) (l : HasLost id first n now mid) where
  -- the next block lost it
  pub lost_next : DevicesAscend 0 mid → HasLost id first (n + 1) now (without_slot id next mid)
  lost_next ascend = record {
    devices = λ i. same_devices id i (without_place next) mid ∙ l.devices i;
    sizes = λ i. size_changes.slots id i (without_place next) mid ∙ l.sizes i;
    lost = λ block low high. elim (cases_eq block next) [
      | inl e ↦ ap (λ b. slot_of id b (without_slot id next mid)) e ∙ slot_changes.without_same 0 id next mid ascend
      | inr other ↦ slot_changes.without_other id next id block mid (λ q. other q.1) ∙ l.lost block low (omega (arith, high, other, is_next))
    ];
    others = λ i block apart.
        slot_changes.without_other id next i block mid (λ q. apart (q.0, omega (arith, q.1, is_next), omega (arith, q.1, is_next)))
        ∙ l.others i block (λ q. apart (q.0, q.1, omega (arith, q.2)));
  }

-- all of them lost it
pub lost_run : (g : Geometry) (id first n : ℕ) (now : Volumes) → IsWithin g now → HasLost id first n now (without_run id first n now)
lost_run g id first zero now w = lost_nothing id first now
lost_run g id first (suc n) now w =
    let more : n + 1 ≡ suc n = omega arith in
    subst (λ k. HasLost id first k now (without_run id first (suc n) now)) more
    (lost_next id first n (first + n) refl now (without_run id first n now) (lost_run g id first n now w) (within_run g id first n now w).ascend)

-- no block had one, or there is one that had
abbrev NoneOrSome : ℕ → ℕ → ℕ → Volumes → Type 0
NoneOrSome id first n now = ((i : ℕ) → i < n → slot_of id (first + i) now ≡ None) ⊎ ((i : ℕ) × (i < n) × IsSome (slot_of id (first + i) now))

one_more : (id first n : ℕ) (now : Volumes) → NoneOrSome id first n now → (o : Option ℕ) → slot_of id (first + n) now ≡ o → NoneOrSome id first (suc n) now
one_more id first n now before (Some place) e = inr (n, omega arith, ap is_some e)
one_more id first n now before None e =
    elim before [
      | inl idle ↦
          inl (λ i lt. elim (cases_eq i n) [
            | inl last ↦ ap (λ k. slot_of id (first + k) now) last ∙ e
            | inr other ↦ idle i (omega (arith, lt, other))
          ])
      | inr found ↦ inr (found.0, omega (arith, found.1), found.2)
    ]

slots_or : (id first n : ℕ) (now : Volumes) → NoneOrSome id first n now
slots_or id first zero now = inl (λ i lt. absurd (omega (arith, lt)))
slots_or id first (suc n) now = one_more id first n now (slots_or id first n now) (slot_of id (first + n) now) refl

-- ---- what a stop leaves

pub changing_none : (g : Geometry) (kept : Contents) (d : DiskState) → Leaves (HoldsContents g kept) d.cells → IsChanging g kept d d
changing_none g kept d left = record {
  any_moment = starts {P = IsStill g kept d.cells} d (λ image stop. (image, stop, left image stop, record { same_length = refl; same = λ i high. refl }));
  same_data = record { same_length = refl; same = λ i high. refl };
}

-- ---- contents

module _ {M : Type 0} (geometry : M → Geometry) (stands : M → DiskState → Contents → Contents → Type 0) (marks : M → List Bool) (id first : ℕ) where
  abbrev Unmapped : ℕ → M → DiskState → Contents → Contents → Type 0
  Unmapped n after new now kept = HasUnmapped geometry stands marks id first n after new now kept

  pub unmapped_nothing : (before : M) (old : DiskState) (now kept : Contents) → stands before old now kept → Unmapped 0 before old now kept
  unmapped_nothing before old now kept standing = record {
    volumes = now.volumes;
    meta_used = now.meta_used;
    standing = standing;
    lost = lost_nothing id first now.volumes;
    untouched = λ same. refl;
  }

  module _ (n : ℕ) (before after : M) (old new : DiskState) (now kept : Contents) (standing : stands before old now kept) (g : Geometry) (within : IsWithin g now.volumes)
      (taken : (meta_used : ℕ) × stands after new (record now { volumes = without_run id first n now.volumes; meta_used = meta_used }) kept)
      (none : ((i : ℕ) → i < n → slot_of id (first + i) now.volumes ≡ None) → (after ≡ before) × (new ≡ old)) where
    by_slots : ((i : ℕ) → i < n → slot_of id (first + i) now.volumes ≡ None) ⊎ ((i : ℕ) × (i < n) × IsSome (slot_of id (first + i) now.volumes)) → Unmapped n after new now kept
    by_slots (inl idle) =
        let same = none idle in
        record {
          volumes = now.volumes;
          meta_used = now.meta_used;
          standing = subst (λ (m : M). stands m new now kept) (sym same.0) (subst (λ (x : DiskState). stands before x now kept) (sym same.1) standing);
          lost = subst (λ (v : Volumes). HasLost id first n now.volumes v) (run_idle id first n now.volumes idle) (lost_run g id first n now.volumes within);
          untouched = λ still. refl;
        }
    by_slots (inr found) =
        let all = lost_run g id first n now.volumes within in
        record {
          volumes = without_run id first n now.volumes;
          meta_used = taken.0;
          standing = taken.1;
          lost = all;
          untouched = λ same.
              let b = first + found.0 in
              let gone : slot_of id b now.volumes ≡ None = sym (same b) ∙ all.lost b (omega arith) (omega (arith, found.1)) in
              absurd (false≢true (sym (ap is_some gone) ∙ found.2));
        }

    pub unmapped_run : Unmapped n after new now kept
    unmapped_run = by_slots (slots_or id first n now.volumes)

-- ---- the blocks that lie wholly in a range

module _ (g : Geometry) (limits : IsWithinLimits g) (sector count : ℕ) (inside : sector + count ≤ most_sectors g) where
  some : 0 < g.block_sectors
  some = omega (arith, limits.block_least)

  -- they lie in the volume
  pub covered_first : first_covered g sector ≤ 2 ^ 24
  covered_first =
      let small : g.block_sectors - 1 < g.block_sectors = omega (arith, some) in
      let ascend = quotients_ascend g.block_sectors (sector + (g.block_sectors - 1)) (2 ^ 24 * g.block_sectors + (g.block_sectors - 1)) some (omega (arith, inside)) in
      omega (arith, ascend, div-mul-add (2 ^ 24) g.block_sectors (g.block_sectors - 1) small)

  pub covered_last : (sector + count) / g.block_sectors ≤ 2 ^ 24
  covered_last =
      let ascend = quotients_ascend g.block_sectors (sector + count) (2 ^ 24 * g.block_sectors + 0) some (omega (arith, inside)) in
      omega (arith, ascend, div-mul-add (2 ^ 24) g.block_sectors 0 some)

  pub covered_run : first_covered g sector + blocks_covered g sector count ≤ 2 ^ 24
  covered_run = omega (arith, covered_first, covered_last)

  -- 2048 sectors hold 16 of them at most
  pub covered_few : count ≤ 2048 → blocks_covered g sector count ≤ 16
  covered_few most =
      let first = first_covered g sector in
      let low : sector ≤ first * g.block_sectors = begins_inside g some sector count first (omega arith) in
      let more : (first + 17) * g.block_sectors ≡ first * g.block_sectors + 17 * g.block_sectors = omega arith in
      let lt = below (sector + count) (first + 17) g.block_sectors some (omega (arith, low, more, most, limits.block_least)) in
      omega (arith, lt)

-- no sectors hold none
pub covered_none : (g : Geometry) → IsWithinLimits g → (sector count : ℕ) → count ≡ 0 → blocks_covered g sector count ≡ 0
covered_none g limits sector count none =
    let ascend = quotients_ascend g.block_sectors (sector + count) (sector + (g.block_sectors - 1)) (omega (arith, limits.block_least)) (omega (arith, none)) in
    omega (arith, ascend)
