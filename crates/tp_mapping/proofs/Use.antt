-- How many metadata blocks are in use after a call.
use Rattle.std.proofs.Common.{◌≡◌, ℕ, ◌<◌, ◌≤◌, true, List, [], ◌∷◌, ◌++◌, get_or, length, sym, ap, subst, ◌∙◌, arith, inl, inr}
use Rattle.std.proofs.lemmas.Bool.{cases_eq, cases_lt, lt-ltb, ltb-true}
use Rattle.std.proofs.lemmas.List.{get_or_append_left, get_or_past}
use Rattle.std.specs.Prelude.{nat_lt, slice_index}
use Rattle.tp_model.proofs.Counting.{count_agree}
use Rattle.tp_model.specs.Geometry.{Geometry}
use Rattle.tp_model.specs.Disk.{DiskState}
use Rattle.tp_counts.specs.Counts.{is_used, used_in}
use Rattle.tp_counts.proofs.Free.{more_counted}
use Rattle.tp_refs.specs.Store.{Store, count_of}
use Rattle.tp_refs.specs.Balance.{Balanced, occurrences}
use Rattle.tp_refs.proofs.Steps.{held_live, one_other}
use Rattle.tp_sharing.specs.Sizes.{metadata_in_use}
use Rattle.tp_sharing.proofs.Use.{in_use_wider, passed_live}
use Rattle.tp_tm.specs.Tm.{IsSized, Tm, counts_now, used_metadata}
use Rattle.tp_tm.specs.Holds.{Holds}
use Rattle.tp_btree.specs.Roots.{Passed}
use Rattle.tp_mapping.specs.Held.{in_use}

pub in_use_is : (m : ℕ) (t : Tm) (disk : DiskState) (opens held : List ℕ) (s : Store) → m ≡ t.geometry.metadata_blocks → Holds t disk opens held s → in_use t ≡ metadata_in_use m s
in_use_is m t disk opens held s is h = ap (used_in t.geometry.metadata_blocks) (sym h.stands.counts) ∙ ap (λ n. metadata_in_use n s) (sym is)

-- references were passed on or given up
pub use_passed : (t u : Tm) (before later : DiskState) (s : Store) (held next : List ℕ) → u.geometry ≡ t.geometry → Holds t before [] held s → Passed s u later [] next
    → ((b : ℕ) → 0 < occurrences b next → 0 < count_of s b) → in_use u ≤ in_use t
use_passed t u before later s held next same h p live =
    let m = t.geometry.metadata_blocks in
    let wider : metadata_in_use m p.after ≤ metadata_in_use m s = in_use_wider m s p.after (passed_live s p.after held next h.balanced p.holds.balanced p.nodes live) in
    let old : in_use t ≡ metadata_in_use m s = ap (used_in m) (sym h.stands.counts) in
    let new : in_use u ≡ metadata_in_use m p.after = in_use_is m u later [] next p.after (ap (λ (g : Geometry). g.metadata_blocks) (sym same)) p.holds in
    omega (arith, wider, old, new)

-- the first counts of a row tell how many of their blocks are in use
pub used_alike : (m : ℕ) (xs ys : List ℕ) → m ≤ length xs → used_in m xs ≡ used_in m (xs ++ ys)
used_alike m xs ys long = count_agree (λ b. nat_lt 0 (get_or xs b 0)) (λ b. nat_lt 0 (get_or (xs ++ ys) b 0)) m
    (λ b lt. ap (λ n. nat_lt 0 n) (sym (get_or_append_left xs ys 0 b (omega (arith, lt, long)))))

-- the metadata counts alone tell it
pub in_use_metadata : (t : Tm) → IsSized t → in_use t ≡ used_metadata t
in_use_metadata t sized = sym (used_alike t.geometry.metadata_blocks t.metadata_now t.data_now (omega (arith, sized.metadata_now)))

-- ---- the same of the counts of the metadata blocks alone

used_with : (now others : List ℕ) (b : ℕ) → is_used now b ≡ true → is_used (now ++ others) b ≡ true
used_with now others b h =
    let here : 0 < slice_index now b = ltb-true 0 (slice_index now b) h in
    elim (cases_lt b (length now)) [
      | inl l ↦ lt-ltb 0 (slice_index (now ++ others) b) (omega (arith, here, get_or_append_left now others 0 b l))
      | inr g ↦ absurd (omega (arith, here, get_or_past now b 0 g))
    ]

pub metadata_in_row : (t : Tm) → used_metadata t ≤ in_use t
metadata_in_row t = more_counted (is_used t.metadata_now) (is_used (counts_now t)) 0 t.geometry.metadata_blocks (used_with t.metadata_now t.data_now)

-- the references held, and one more to a live block
pub named_live : (s : Store) (held : List ℕ) (place : ℕ) → Balanced s [] held → 0 < count_of s place → (b : ℕ) → 0 < occurrences b (place ∷ held) → 0 < count_of s b
named_live s held place bal live b here =
    elim (cases_eq place b) [
      | inl e ↦ subst (λ x. 0 < count_of s x) e live
      | inr d ↦ held_live s [] held b bal (omega (arith, here, one_other place b d))
    ]
