-- What was asked for a page, call by call.
use Rattle.std.proofs.Common.{◌≡◌, ℕ, List, [], ◌∷◌, refl, ap, subst, ◌∙◌}
use Rattle.std.specs.Prelude.{Result, Ok, Err}
use Rattle.tp_model.specs.declared.refusal.Refusal.{Refusal}
use Rattle.tp_model.specs.Calls.{Listed, Refused, Sized, VolumeBlocks, Walk}
use Rattle.tp_model.specs.Clauses.{Meets, View}
use Rattle.tp_model.specs.Slots.{BlockSlot, listed}
use Rattle.tp_pages.specs.Texts.{size_text}
use Rattle.tp_pages.specs.Pages.{AreMade, AsksBoth, AsksDelta, AsksMap, AsksSize, IsPageText, IsPaged, Question, Sizes, Walks}

module _ {D : Type 0} (view : View D) (old : D) where
  -- a walk was asked for last, and it listed slots
  listed_last : (new : D) (unit id from most : ℕ) (one slots : List (ℕ × ℕ)) (text : List ℕ) → Meets view old new (Walk id from) (Listed slots) → IsPageText unit from most one slots text
      → (qs : List Question) × AreMade view old qs new × Walks id from (λ other rest told. IsPaged unit from most one other rest told) qs (Ok text)
  listed_last new unit id from most one slots text met page = (record { call = Walk id from; answer = Listed slots } ∷ [], (new, met, refl), (refl, (text, page, refl, refl)))

  pub map_so : (new : D) (unit size id from : ℕ) (slots now : List BlockSlot) (text : List ℕ) → unit ≡ size → now ≡ slots → Meets view old new (Walk id from) (Listed (listed slots))
      → IsPageText unit from 16777216 [] (listed now) text → (qs : List Question) × AreMade view old qs new × AsksMap size id from qs (Ok text)
  map_so new unit size id from slots now text is same met page =
      subst (λ (u : ℕ). (qs : List Question) × AreMade view old qs new × AsksMap u id from qs (Ok text)) is
      (listed_last new unit id from 16777216 [] (listed slots) text met (subst (λ (l : List BlockSlot). IsPageText unit from 16777216 [] (listed l) text) same page))

  pub last_so : (new : D) (unit id from most : ℕ) (one : List (ℕ × ℕ)) (slots now : List BlockSlot) (text : List ℕ) → now ≡ slots → Meets view old new (Walk id from) (Listed (listed slots))
      → IsPageText unit from most one (listed now) text
      → (qs : List Question) × AreMade view old qs new × Walks id from (λ other rest told. IsPaged unit from most one other rest told) qs (Ok text)
  last_so new unit id from most one slots now text same met page =
      listed_last new unit id from most one (listed slots) text met (subst (λ (l : List BlockSlot). IsPageText unit from most one (listed l) text) same page)

  -- it was refused
  pub refused_walk : (new : D) (id from : ℕ) (Then : List (ℕ × ℕ) → List Question → Result (List ℕ) Refusal → Type 0) (reason : Refusal) → Meets view old new (Walk id from) (Refused reason)
      → (qs : List Question) × AreMade view old qs new × Walks id from Then qs (Err reason)
  refused_walk new id from Then reason met = (record { call = Walk id from; answer = Refused reason } ∷ [], (new, met, refl), (refl, (refl, refl)))

  pub refused_size : (new : D) (id : ℕ) (Then : ℕ → List Question → Result (List ℕ) Refusal → Type 0) (reason : Refusal) → Meets view old new (VolumeBlocks id) (Refused reason)
      → (qs : List Question) × AreMade view old qs new × Sizes id Then qs (Err reason)
  refused_size new id Then reason met = (record { call = VolumeBlocks id; answer = Refused reason } ∷ [], (new, met, refl), (refl, (refl, refl)))

  -- the size was told
  pub size_so : (new : D) (unit size id blocks : ℕ) (text : List ℕ) → unit ≡ size → Meets view old new (VolumeBlocks id) (Sized blocks) → text ≡ size_text unit blocks
      → (qs : List Question) × AreMade view old qs new × AsksSize size id qs (Ok text)
  size_so new unit size id blocks text is met same =
      (record { call = VolumeBlocks id; answer = Sized blocks } ∷ [], (new, met, refl), (refl, (refl, ap Ok (same ∙ ap (λ (u : ℕ). size_text u blocks) is))))

  -- it listed slots, and a walk over the other volume was asked for behind it
  pub both_so : (mid new : D) (unit one other from blocks : ℕ) (slots now : List BlockSlot) (told : Result (List ℕ) Refusal) → now ≡ slots → Meets view old mid (Walk one from) (Listed (listed slots))
      → ((qs : List Question) × AreMade view mid qs new × Walks other from (λ found rest said. IsPaged unit from blocks (listed now) found rest said) qs told)
      → (qs : List Question) × AreMade view old qs new × AsksBoth unit one other from blocks qs told
  both_so mid new unit one other from blocks slots now told same met more =
      let behind = subst (λ (l : List BlockSlot). (qs : List Question) × AreMade view mid qs new × Walks other from (λ found rest said. IsPaged unit from blocks (listed l) found rest said) qs told) same more in
      (record { call = Walk one from; answer = Listed (listed slots) } ∷ behind.0, (mid, met, behind.1), (refl, behind.2))

  -- the size was told, and both walks were asked for behind it
  pub delta_so : (mid new : D) (unit size one other from blocks : ℕ) (told : Result (List ℕ) Refusal) → unit ≡ size → Meets view old mid (VolumeBlocks other) (Sized blocks)
      → ((qs : List Question) × AreMade view mid qs new × AsksBoth unit one other from blocks qs told) → (qs : List Question) × AreMade view old qs new × AsksDelta size one other from qs told
  delta_so mid new unit size one other from blocks told is met more =
      let behind = subst (λ (u : ℕ). (qs : List Question) × AreMade view mid qs new × AsksBoth u one other from blocks qs told) is more in
      (record { call = VolumeBlocks other; answer = Sized blocks } ∷ behind.0, (mid, met, behind.1), (refl, behind.2))
