-- The slots of a volume in the order of their blocks.
use Rattle.std.proofs.Common.{◌≡◌, ℕ, suc, ◌<◌, ◌==◌, true, cond, List, [], ◌∷◌, length, map, Option, Some, None, Less, Equal, Greater, inl, inr, refl, sym, ap, subst, ◌∙◌, arith}
use Rattle.std.specs.Prelude.{T}
use Rattle.std.specs.List.{last_or}
use Rattle.std.specs.Ordering.{is_lt, nat_cmp}
use Rattle.std.specs.Cmp.{unsigned_tied}
use Rattle.std.specs.FinMap.{FinMap, entries, entries-from_sorted, find, from_sorted, get, get-from_sorted, is_sorted, len}
use Rattle.std.specs.FinMap.Entries.{below_all}
use Rattle.std.proofs.lemmas.Bool.{and_from, cases_eq, eq-eqb, lt-ltb, ne_eqb}
use Rattle.std.proofs.lemmas.List.{length-map}
use Rattle.tp_model.specs.Geometry.{Geometry}
use Rattle.tp_model.specs.Sectors.{Sector}
use Rattle.tp_model.specs.Pool.{PlainPool, volume_slots}
use Rattle.tp_model.proofs.Maps.{len_is_length, same_nat_map}
use Rattle.tp_sharing.specs.Volumes.{BlockSlot, SlotsAscend, Volumes, device_of, place_in, place_or_none, slot_of}
use Rattle.tp_sharing.proofs.Slots.{place_here, place_later}
use Rattle.tp_mapping.specs.Mapping.{IsHighest, IsWithin, slots_of, slots_or_none}
use Rattle.tp_mapping.specs.Slots.{last_block}
use Rattle.tp_mapping.proofs.Within.{slots_ascend}
use Rattle.tp_mapping.proofs.Tops.{is_highest}
use Rattle.tp_stored.specs.Contents.{Contents, HasContents}
use Rattle.tp_shown.specs.Laws.{HighestIsLast, SlotsAreEntries}
use Rattle.tp_shown.proofs.Values.{no_value}

-- ---- lists in order, and maps of them

abbrev pairs : List BlockSlot → List (ℕ × ℕ)
pairs xs = map (λ (x : BlockSlot). (x.block, x.place)) xs

is_less : (a b : ℕ) → a < b → is_lt (nat_cmp a b) ≡ true
is_less a b h = ap (λ t. is_lt (cond t Less (cond (a == b) Equal Greater))) (lt-ltb a b h)

below_pairs : (k low : ℕ) (xs : List BlockSlot) → k < low → SlotsAscend low xs → below_all nat_cmp k (pairs xs) ≡ true
below_pairs k low [] h a = refl
below_pairs k low (x ∷ xs) h a =
    and_from _ _ (is_less k x.block (omega (arith, h, a.0))) (below_pairs k (suc x.block) xs (omega (arith, h, a.0)) a.1)

pairs_sorted : (low : ℕ) (xs : List BlockSlot) → SlotsAscend low xs → is_sorted nat_cmp (pairs xs) ≡ true
pairs_sorted low [] a = refl
pairs_sorted low (x ∷ xs) a = and_from _ _ (below_pairs x.block (suc x.block) xs (omega arith) a.1) (pairs_sorted (suc x.block) xs a.1)

found_pair : (q : ℕ) (xs : List BlockSlot) → find nat_cmp q (pairs xs) ≡ place_in q xs
found_pair q [] = refl
found_pair q (x ∷ xs) =
    elim (cases_eq x.block q) [
      | inl e ↦ ap (λ b. cond b (Some x.place) (find nat_cmp q (pairs xs))) (unsigned_tied q x.block ∙ eq-eqb q x.block (sym e)) ∙ sym (place_here q x xs e)
      | inr n ↦
          ap (λ b. cond b (Some x.place) (find nat_cmp q (pairs xs))) (unsigned_tied q x.block ∙ ne_eqb q x.block (λ e. n (sym e)))
          ∙ (found_pair q xs ∙ sym (place_later q x xs n))
    ]

entries_are : (m : FinMap nat_cmp ℕ) (xs : List BlockSlot) → SlotsAscend 0 xs → ((q : ℕ) → get m q ≡ place_in q xs) → entries m ≡ pairs xs
entries_are m xs a same =
    let sorted : T (is_sorted nat_cmp (pairs xs)) = subst T (sym (pairs_sorted 0 xs a)) tt in
    ap entries (same_nat_map m (from_sorted (pairs xs)) (λ q. same q ∙ (sym (found_pair q xs) ∙ sym (get-from_sorted nat_cmp (pairs xs) q sorted))))
    ∙ entries-from_sorted nat_cmp (pairs xs) sorted

-- ---- the slots of a volume

own_slots : (id : ℕ) (ds : Volumes) (g : Geometry) → IsWithin g ds → (o : Option (List BlockSlot)) → device_of id ds ≡ o → SlotsAscend 0 (slots_or_none o)
own_slots id ds g within None e = tt
own_slots id ds g within (Some xs) e = slots_ascend 0 id ds xs within.ascend e

place_among : (q : ℕ) (o : Option (List BlockSlot)) → place_or_none q o ≡ place_in q (slots_or_none o)
place_among q None = refl
place_among q (Some xs) = refl

pub slots_are_entries : SlotsAreEntries
slots_are_entries g c image p id within h =
    entries_are (volume_slots p id) (slots_of id c.volumes) (own_slots id c.volumes g within (device_of id c.volumes) refl)
    (λ q. h.slots id q ∙ place_among q (device_of id c.volumes))

pub mapped_is_length : (g : Geometry) (c : Contents) (image : List Sector) (p : PlainPool) (id : ℕ) → IsWithin g c.volumes → HasContents g c image p
    → len (volume_slots p id) ≡ length (slots_of id c.volumes)
mapped_is_length g c image p id within h =
    len_is_length (volume_slots p id) ∙ (ap length (slots_are_entries g c image p id within h) ∙ length-map (slots_of id c.volumes) (λ (x : BlockSlot). (x.block, x.place)))

-- ---- the highest block

last_of : (o : Option ℕ) (x : BlockSlot) (xs : List BlockSlot) → last_or o (map (λ (e : ℕ × ℕ). e.0) (pairs (x ∷ xs))) ≡ last_block (x ∷ xs)
last_of o x [] = refl
last_of o x (y ∷ ys) = last_of (Some x.block) y ys

last_of_all : (xs : List BlockSlot) → last_or None (map (λ (e : ℕ × ℕ). e.0) (pairs xs)) ≡ last_block xs
last_of_all [] = refl
last_of_all (x ∷ xs) = last_of None x xs

one_highest : (id : ℕ) (ds : Volumes) (a b : Option ℕ) → IsHighest id ds a → IsHighest id ds b → a ≡ b
one_highest id ds None None h k = refl
one_highest id ds None (Some t) h k = absurd (no_value (slot_of id t ds) (h t) k.0)
one_highest id ds (Some s) None h k = absurd (no_value (slot_of id s ds) (k s) h.0)
one_highest id ds (Some s) (Some t) h k = let same : s ≡ t = omega (arith, h.1 t k.0, k.1 s h.0) in ap Some same

pub highest_is_last : HighestIsLast
highest_is_last g c image p id top within h is =
    let xs = slots_of id c.volumes in
    ap (λ (es : List (ℕ × ℕ)). last_or None (map (λ (e : ℕ × ℕ). e.0) es)) (slots_are_entries g c image p id within h)
    ∙ (last_of_all xs
    ∙ one_highest id c.volumes (last_block xs) top
    (is_highest id c.volumes (device_of id c.volumes) refl (own_slots id c.volumes g within (device_of id c.volumes) refl) (last_block xs) refl) is)
