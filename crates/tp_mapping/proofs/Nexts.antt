-- The first device of a list from an id on is the next one.
use Rattle.std.proofs.Common.{◌≡◌, ℕ, suc, ◌≤◌, ◌<◌, List, [], ◌∷◌, map, refl, sym, ap, subst, ◌∙◌, arith, inl, inr, Some, None}
use Rattle.std.specs.Prelude.{◌^◌, IsSome, Option}
use Rattle.std.specs.Option.{option_map}
use Rattle.std.proofs.lemmas.Bool.{cases_lt}
use Rattle.std.proofs.lemmas.Bool.Decides.{nat_tests}
use Rattle.std.proofs.lemmas.Option.{none-some, same_Some}
use Rattle.tp_model.specs.Disk.{DiskState}
use Rattle.tp_model.specs.Geometry.{Geometry}
use Rattle.tp_layout.specs.declared.entry.Entry.{Entry}
use Rattle.tp_layout.specs.declared.kind.TreeKind.TheVariants.{Device}
use Rattle.tp_refs.specs.Store.{Store, first_named, moved_by}
use Rattle.tp_sharing.specs.Forest.{content}
use Rattle.tp_sharing.specs.Volumes.{DeviceSlots, DevicesAscend, Volumes, device_from, device_of, volumes_below}
use Rattle.tp_sharing.proofs.Copies.{none_beyond}
use Rattle.tp_sharing.proofs.Changes.{device_below}
use Rattle.tp_sharing.proofs.Slots.{device_here, device_later, lists_ascend_below}
use Rattle.tp_stored.specs.Commit.{fixed_blocks}
use Rattle.tp_tm.specs.Tm.{Tm}
use Rattle.tp_btree.specs.Least.{first_entry}
use Rattle.tp_btree.specs.Walks.{from_key}
use Rattle.tp_btree.proofs.Filling.{from_no, from_yes}
use Rattle.tp_mapping.specs.Held.{HoldTrees}
use Rattle.tp_mapping.specs.Mapping.{IsWithin}
use Rattle.tp_mapping.specs.Next.{IsNext, first_device}
use Rattle.tp_mapping.proofs.Between.{some_there}
use Rattle.tp_mapping.proofs.Holding.{device_in}
use Rattle.tp_mapping.proofs.Topmost.{moved_key}

first_yes : (from : ℕ) (d : DeviceSlots) (ds : Volumes) → from ≤ d.id → first_device from (d ∷ ds) ≡ Some d.id
first_yes from d ds h = grind (arith, nat_tests)

first_no : (from : ℕ) (d : DeviceSlots) (ds : Volumes) → d.id < from → first_device from (d ∷ ds) ≡ first_device from ds
first_no from d ds h = grind (arith, nat_tests)

some_not_none : {A : Type 0} (o : Option A) → IsSome o → o ≡ None → ⊥
some_not_none o h e = let r = some_there o h in none-some r.0 (sym e ∙ r.1)

is_some : {A : Type 0} (o : Option A) (x : A) → o ≡ Some x → IsSome o
is_some o x e = subst IsSome (sym e) refl

pub first_is : (low from : ℕ) (ds : Volumes) → DevicesAscend low ds → (o : Option ℕ) → o ≡ first_device from ds → IsNext from ds o
first_is low from [] a None e = λ id le l. refl
first_is low from [] a (Some t) e = absurd (none-some t (sym e))
first_is low from (d ∷ ds) a o e =
    elim (cases_lt d.id from) [
      | inl l ↦ behind l o (first_is (suc d.id) from ds a.2 o (e ∙ first_no from d ds l))
      | inr g ↦ here g o (e ∙ first_yes from d ds g)
    ]
  where
    behind : d.id < from → (o : Option ℕ) → IsNext from ds o → IsNext from (d ∷ ds) o
    behind l None h = λ id le k. device_later id d ds (λ p. absurd (omega (arith, p, l, le))) ∙ h id le k
    behind l (Some t) h = (
      h.0,
      subst IsSome (sym (device_later t d ds (λ p. absurd (omega (arith, p, l, h.0))))) h.1,
      λ other le some. h.2 other le (subst IsSome (device_later other d ds (λ p. absurd (omega (arith, p, l, le)))) some),
    )

    here : from ≤ d.id → (o : Option ℕ) → o ≡ Some d.id → IsNext from (d ∷ ds) o
    here g None p = absurd (none-some d.id p)
    here g (Some t) p =
        let same : t ≡ d.id = same_Some t d.id p in (
          omega (arith, g, same),
          is_some (device_of t (d ∷ ds)) d.slots (device_here t d ds (sym same)),
          λ other le some.
              elim (cases_lt other t) [
                | inl l ↦
                    absurd (some_not_none (device_of other (d ∷ ds)) some (device_later other d ds (λ q. absurd (omega (arith, q, l, same))) ∙ device_below (suc d.id) other ds a.2 (omega (arith, l, same))))
                | inr h ↦ h
              ],
        )

-- ---- the device tree

first_of_entries : (m : ℕ) (s : Store) (q : ℕ) (es : List Entry) → first_device q (map (device_from m s) es) ≡ option_map (λ (e : Entry). e.key) (first_entry (from_key q es))
first_of_entries m s q [] = refl
first_of_entries m s q (e ∷ es) =
    elim (cases_lt e.key q) [
      | inl l ↦
          first_no q (device_from m s e) (map (device_from m s) es) l
          ∙ (first_of_entries m s q es ∙ ap (λ xs. option_map (λ (x : Entry). x.key) (first_entry xs)) (sym (from_no q e es l)))
      | inr g ↦
          first_yes q (device_from m s e) (map (device_from m s) es) g
          ∙ ap (λ xs. option_map (λ (x : Entry). x.key) (first_entry xs)) (sym (from_yes q e es g))
    ]

module _ (g : Geometry) (t : Tm) (disk : DiskState) (root : ℕ) (now : Volumes) (h : HoldTrees g t disk root [] now) where
  abbrev below : Volumes
  below = volumes_below g.metadata_blocks h.store root

  next_below : (q : ℕ) (o : Option Entry) → option_map (moved_by (first_named t.geometry.metadata_blocks Device 0)) o ≡ first_entry (from_key q (content 5 h.store root))
      → (next : Option ℕ) → next ≡ option_map (λ (e : Entry). e.key) o → IsNext q below next
  next_below q o told next e =
      first_is 0 q below (lists_ascend_below g.metadata_blocks h.store root (fixed_blocks g) (2 ^ 24) h.forest) next
      (e ∙ (sym (moved_key (first_named t.geometry.metadata_blocks Device 0) o) ∙ (ap (option_map (λ (x : Entry). x.key)) told
      ∙ sym (first_of_entries g.metadata_blocks h.store q (content 5 h.store root)))))

  low_below : (id : ℕ) → IsSome (device_of id below) → id < 2 ^ 24
  low_below id some =
      elim (cases_lt id (2 ^ 24)) [
        | inl l ↦ l
        | inr ge ↦ absurd (some_not_none (device_of id below) some (none_beyond g.metadata_blocks h.store root (fixed_blocks g) (2 ^ 24) id h.forest (omega (arith, ge))))
      ]

  -- the copies stand behind all devices
  widened : (q : ℕ) (o : Option ℕ) → IsNext q below o → IsNext q now o
  widened q None f = λ id le low. device_in g t disk root [] now h id low ∙ f id le low
  widened q (Some n) f =
      let low = low_below n f.1 in (
        f.0,
        subst IsSome (sym (device_in g t disk root [] now h n low)) f.1,
        λ other le some.
            elim (cases_lt other (2 ^ 24)) [
              | inl l ↦ f.2 other le (subst IsSome (device_in g t disk root [] now h other l) some)
              | inr ge ↦ omega (arith, ge, low)
            ],
      )

  pub next_told : (q : ℕ) (o : Option Entry) → option_map (moved_by (first_named t.geometry.metadata_blocks Device 0)) o ≡ first_entry (from_key q (content 5 h.store root))
      → (next : Option ℕ) → next ≡ option_map (λ (e : Entry). e.key) o → IsNext q now next
  next_told q o told next e = widened q next (next_below q o told next e)

  pub next_inside : IsWithin g now → (q : ℕ) (x : Entry) → option_map (moved_by (first_named t.geometry.metadata_blocks Device 0)) (Some x) ≡ first_entry (from_key q (content 5 h.store root))
      → 2 ^ 24 ≤ x.key → ⊥
  next_inside within q x told high = absurd (omega (arith, high, low_below x.key (next_below q (Some x) told (Some x.key) refl).1))
