-- What a call makes is determined up to the names of labels, and up to the metadata blocks that it takes.
use Rattle.std.proofs.Common.{◌≡◌, ℕ, length, Option, None, ◌⊎◌, inl, inr, refl, sym, ap, subst, ◌∙◌}
use Rattle.std.specs.Option.{IsSome, option_map}
use Rattle.std.specs.FinMap.{insert, remove, retain_keys}
use Rattle.std.proofs.lemmas.Bool.{cases_eq, false≢true}
use Rattle.tp_model.specs.Pool.{PlainPool, is_now, volume_size, volume_sector, slot_at, IsExclusive, IsRenamed}
use Rattle.tp_model.specs.Calls.{Call, Read, Write, Trim, WriteZeroes, Flush, CreateThin, CreateSnap, Delete, SetTransactionId, Grow, Hold, LetGo, Status, ThinStatus, NextId, VolumeBlocks, Walk, Close, HeldRead, ReserveMetadataSnap, ReleaseMetadataSnap, Reserves, SlotEffect, Keeps, Loses, Owns, SlotAfter, effect_at, Edits, Makes, grown, new_volume, volume_of}
use Rattle.tp_model.proofs.Maps.{same_nat_map}
use Rattle.tp_model.proofs.Editing.{volume_sector-edited, volume_sector-other, slot_at-other}

-- a place of two pools that were made of one: exclusive in both, unmapped in both, or as it was in both
abbrev Alike : PlainPool → PlainPool → PlainPool → ℕ → ℕ → Type 0
Alike p q r i b =
    (IsExclusive q i b × IsExclusive r i b)
    ⊎ (((slot_at q i b ≡ None) × (slot_at r i b ≡ None))
    ⊎ ((slot_at q i b ≡ slot_at p i b) × (slot_at r i b ≡ slot_at p i b)))

turned : (p q r : PlainPool) (i b : ℕ) → Alike p q r i b → Alike p r q i b
turned p q r i b (inl x) = inl (x.1, x.0)
turned p q r i b (inr (inl x)) = inr (inl (x.1, x.0))
turned p q r i b (inr (inr x)) = inr (inr (x.1, x.0))

one_label : (p q r : PlainPool) (i b j c : ℕ) → Alike p q r i b → Alike p q r j c → slot_at q i b ≡ slot_at q j c → slot_at r i b ≡ slot_at r j c
one_label p q r i b j c (inl x) there one = let at = x.0.alone j c (sym one) in λ t. slot_at r (sym at.0 t) (sym at.1 t)
one_label p q r i b j c (inr here) (inl y) one = let at = y.0.alone i b one in λ t. slot_at r (at.0 t) (at.1 t)
one_label p q r i b j c (inr (inl x)) (inr (inl y)) one = x.1 ∙ sym y.1
one_label p q r i b j c (inr (inl x)) (inr (inr y)) one = x.1 ∙ sym x.0 ∙ one ∙ y.0 ∙ sym y.1
one_label p q r i b j c (inr (inr x)) (inr (inl y)) one = x.1 ∙ sym x.0 ∙ one ∙ y.0 ∙ sym y.1
one_label p q r i b j c (inr (inr x)) (inr (inr y)) one = x.1 ∙ sym x.0 ∙ one ∙ y.0 ∙ sym y.1

still_mapped : (p q r : PlainPool) (i b : ℕ) → Alike p q r i b → IsSome (slot_at q i b) → IsSome (slot_at r i b)
still_mapped p q r i b (inl x) m = x.1.mapped
still_mapped p q r i b (inr (inl x)) m = absurd (false≢true (subst (λ (o : Option ℕ). IsSome o) x.0 m))
still_mapped p q r i b (inr (inr x)) m = subst (λ (o : Option ℕ). IsSome o) (x.0 ∙ sym x.1) m

still_unmapped : (p q r : PlainPool) (i b : ℕ) → Alike p q r i b → slot_at q i b ≡ None → slot_at r i b ≡ None
still_unmapped p q r i b (inl x) m = absurd (false≢true (subst (λ (o : Option ℕ). IsSome o) m x.0.mapped))
still_unmapped p q r i b (inr (inl x)) m = x.1
still_unmapped p q r i b (inr (inr x)) m = x.1 ∙ sym x.0 ∙ m

alike_by : (p q r : PlainPool) (id b : ℕ) (e : SlotEffect) → SlotAfter e p q id b → SlotAfter e p r id b → Alike p q r id b
alike_by p q r id b Owns x y = inl (x, y)
alike_by p q r id b Loses x y = inr (inl (x, y))
alike_by p q r id b Keeps x y = inr (inr (x, y))

module _ (p : PlainPool) (call : Call) (id : ℕ) (q r : PlainPool) (e : Edits p call id q) (f : Edits p call id r) where
  alike : (i b : ℕ) → Alike p q r i b
  alike i b = elim (cases_eq i id) [
    | inl s ↦ subst (λ (x : ℕ). Alike p q r x b) (sym s) (alike_by p q r id b (effect_at p call id b) (e.slots b) (f.slots b))
    | inr s ↦ inr (inr (slot_at-other p call id q e i b s, slot_at-other p call id r f i b s))
  ]

  same_sector : (i k : ℕ) → volume_sector r i k ≡ volume_sector q i k
  same_sector i k = elim (cases_eq i id) [
    | inl s ↦ subst (λ (x : ℕ). volume_sector r x k ≡ volume_sector q x k) (sym s) (volume_sector-edited p call id r f k ∙ sym (volume_sector-edited p call id q e k))
    | inr s ↦ volume_sector-other p call id r f i k s ∙ sym (volume_sector-other p call id q e i k s)
  ]

  same_size : (i : ℕ) → volume_size r i ≡ volume_size q i
  same_size i = elim (cases_eq i id) [
    | inl s ↦ subst (λ (x : ℕ). volume_size r x ≡ volume_size q x) (sym s)
        (ap (option_map (λ v. length v.sectors)) f.volume ∙ sym (ap (option_map (λ v. length v.sectors)) e.volume))
    | inr s ↦ ap (option_map (λ v. length v.sectors)) (f.others i s ∙ sym (e.others i s))
  ]

  Edits-IsRenamed : q.meta_used ≡ r.meta_used → IsRenamed q r
  Edits-IsRenamed m = record {
    geometry = ap (λ x. x.geometry) f.rest ∙ sym (ap (λ x. x.geometry) e.rest);
    ids_and_sizes = same_size;
    sectors = same_sector;
    mapped = λ i b. still_mapped p q r i b (alike i b);
    unmapped = λ i b. still_unmapped p q r i b (alike i b);
    together = λ i b j c. one_label p q r i b j c (alike i b) (alike j c);
    apart = λ i b j c. one_label p r q i b j c (turned p q r i b (alike i b)) (turned p q r j c (alike j c));
    transaction_id = ap (λ x. x.transaction_id) f.rest ∙ sym (ap (λ x. x.transaction_id) e.rest);
    needs_check = ap (λ x. x.needs_check) f.rest ∙ sym (ap (λ x. x.needs_check) e.rest);
    mode = ap (λ x. x.mode) f.rest ∙ sym (ap (λ x. x.mode) e.rest);
    holds = ap (λ x. x.holds) f.rest ∙ sym (ap (λ x. x.holds) e.rest);
    meta_used = sym m;
    held_root = ap (λ x. x.held_root) f.rest ∙ sym (ap (λ x. x.held_root) e.rest);
  }

pub IsRenamed-itself : (p : PlainPool) → IsRenamed p p
IsRenamed-itself p = record {
  geometry = refl;
  ids_and_sizes = λ _. refl;
  sectors = λ _ _. refl;
  mapped = λ _ _ m. m;
  unmapped = λ _ _ m. m;
  together = λ _ _ _ _ m. m;
  apart = λ _ _ _ _ m. m;
  transaction_id = refl;
  needs_check = refl;
  mode = refl;
  holds = refl;
  meta_used = refl;
  held_root = refl;
}

same : (q r : PlainPool) → q ≡ r → IsRenamed q r
same q r e = subst (λ x. IsRenamed q x) e (IsRenamed-itself q)

-- one volume at each id, and one root
reserves_one : (p q r : PlainPool) → Reserves p q → Reserves p r → q.held_root ≡ r.held_root → q ≡ r
reserves_one p q r e f h =
    let volumes : q.volumes ≡ r.volumes = same_nat_map q.volumes r.volumes (λ id. e.volumes id ∙ sym (f.volumes id)) in
    e.rest ∙ ((λ i. record p { volumes = volumes i; held_root = h i }) ∙ sym f.rest)

-- but for the metadata blocks that it takes, a call makes one pool, whatever data blocks it takes
pub Makes-IsRenamed : (p : PlainPool) (call : Call) (q r : PlainPool) → Makes p call q → Makes p call r → q.meta_used ≡ r.meta_used → q.held_root ≡ r.held_root → IsRenamed q r
Makes-IsRenamed p (Write id sector xs fua) q r e f m h = Edits-IsRenamed p (Write id sector xs fua) id q r e f m
Makes-IsRenamed p (Trim id sector count fua) q r e f m h = Edits-IsRenamed p (Trim id sector count fua) id q r e f m
Makes-IsRenamed p (WriteZeroes id sector count no_hole fua) q r e f m h = Edits-IsRenamed p (WriteZeroes id sector count no_hole fua) id q r e f m
Makes-IsRenamed p (CreateThin id) q r e f m h = same q r (e.is ∙ ap (λ (n : ℕ). record p { volumes = insert p.volumes id (new_volume p.geometry); meta_used = n }) m ∙ sym f.is)
Makes-IsRenamed p (CreateSnap id origin) q r e f m h = same q r (e.is ∙ ap (λ (n : ℕ). record p { volumes = insert p.volumes id (volume_of p origin); meta_used = n }) m ∙ sym f.is)
Makes-IsRenamed p (Delete id) q r e f m h = same q r (e.is ∙ ap (λ (n : ℕ). record p { volumes = remove p.volumes id; meta_used = n }) m ∙ sym f.is)
Makes-IsRenamed p (SetTransactionId current next) q r e f m h = same q r (e ∙ sym f)
Makes-IsRenamed p (Grow id blocks) q r e f m h =
    same q r (e.is ∙ ap (λ (n : ℕ). record p { volumes = insert p.volumes id (grown p.geometry blocks (volume_of p id)); meta_used = n }) m ∙ sym f.is)
Makes-IsRenamed p (Read id sector count) q r e f m h = same q r (e ∙ sym f)
Makes-IsRenamed p Flush q r e f m h = same q r (e ∙ sym f)
Makes-IsRenamed p (Hold id) q r e f m h = same q r (e ∙ sym f)
Makes-IsRenamed p (LetGo id) q r e f m h = same q r (e ∙ sym f)
Makes-IsRenamed p Status q r e f m h = same q r (e ∙ sym f)
Makes-IsRenamed p (ThinStatus id) q r e f m h = same q r (e ∙ sym f)
Makes-IsRenamed p (NextId id) q r e f m h = same q r (e ∙ sym f)
Makes-IsRenamed p (VolumeBlocks id) q r e f m h = same q r (e ∙ sym f)
Makes-IsRenamed p (Walk id from) q r e f m h = same q r (e ∙ sym f)
Makes-IsRenamed p Close q r e f m h = same q r (e ∙ sym f)
Makes-IsRenamed p (HeldRead id sector count) q r e f m h = same q r (e ∙ sym f)
Makes-IsRenamed p ReserveMetadataSnap q r e f m h = same q r (reserves_one p q r e f h)
Makes-IsRenamed p ReleaseMetadataSnap q r e f m h = same q r (e.is ∙ ap (λ (n : ℕ). record p { volumes = retain_keys p.volumes is_now; held_root = 0; meta_used = n }) m ∙ sym f.is)
