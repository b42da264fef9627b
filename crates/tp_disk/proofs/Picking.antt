-- Following the picks of a stop, one write after another.
use Rattle.std.proofs.Common.{◌≡◌, ◌≢◌, ℕ, zero, suc, ◌+◌, ◌-◌, ◌*◌, ◌/◌, ◌<◌, Option, None, Some, List, [], ◌∷◌, ◌++◌, length, take, drop, refl, sym, ap, ◌∙◌, subst, arith, ⊎_elim, length-append}
use Rattle.std.specs.Prelude.{slice_index_or, slice_get, slice_set}
use Rattle.std.specs.List.{AllByRecursion, concat}
use Rattle.std.proofs.lemmas.List.{ext_get_or, drop-drop, length-map, get_or-set_same, get_or-set_other, length-set}
use Rattle.std.proofs.lemmas.Bool.{cases_lt, cases_eq}
use Rattle.tp_model.specs.Sectors.{sector_at, overlaid, chopped, sectors_of}
use Rattle.tp_model.specs.Disk.{Cell, appended, settled_cell, cell_at, settled, written}
use Rattle.tp_model.proofs.DiskLaws.{last_of-push, cell_at-written_below, cell_at-written_above, cell_at-written, cell_at-settled, length-written, length-chopped, whole-chopped, concat-chopped, chopped-concat, length-concat, concat-overlaid, length-sectors_of, sectors_of-one}
use Rattle.tp_disk.specs.Picks.{picked, entry_or_last}
use Rattle.tp_disk.specs.Picking.{rest_of, Picked, Picking}
use Rattle.tp_disk.proofs.Replays.{written-more}
use Rattle.tp_disk.proofs.Picks.{entry-appended, entry-appended_within, entry-settled, sector_at-picked, length-picked}

-- one sector

picked_first : (pick left : Option ℕ) (value v : List ℕ) → left ≡ pick → v ≡ value → Picked pick (settled_cell value) v left
picked_first None left value v same e = record { value_is = e; left_is = same }
picked_first (Some pick) left value v same e =
    let all : pick ≡ pick - 0 = omega arith in
    record { value_is = e ∙ sym (entry-settled value pick); left_is = same ∙ ap Some all }

some_is : (m n : ℕ) → Some m ≡ Some n → m ≡ n
some_is m n e = ap (λ (o : Option ℕ). number o) e
  where
    number : Option ℕ → ℕ
    number None = 0
    number (Some n) = n

Full : Option ℕ → Type 0
Full None = ⊥
Full (Some n) = Unit {0}

some_not_none : (n : ℕ) → Some n ≡ None → ⊥
unfolding Full
some_not_none n e = subst Full e tt

picked_passed : (pick : Option ℕ) {cell : Cell} {v : List ℕ} {left : Option ℕ} (value : List ℕ) → Picked pick cell v left → left ≡ Some 0 → Picked pick (appended cell value) v left
picked_passed None value h e = absurd (some_not_none 0 (sym e ∙ h.left_is))
picked_passed (Some pick) {cell} {v} {left} value h e =
    let over : pick - length cell.later ≡ 0 = some_is (pick - length cell.later) 0 (sym h.left_is ∙ e) in
    let over' : 0 ≡ pick - length (cell.later ++ value ∷ []) = omega (arith, over, length-append cell.later (value ∷ [])) in
    record { value_is = h.value_is ∙ sym (entry-appended_within cell value pick (omega (arith, over))); left_is = e ∙ ap Some over' }

picked_taken : (pick : Option ℕ) {cell : Cell} {v : List ℕ} {left : Option ℕ} (value : List ℕ) (more : ℕ) → Picked pick cell v left → left ≡ Some more → 0 < more → Picked pick (appended cell value) value (Some (more - 1))
picked_taken None value more h e some = absurd (some_not_none more (sym e ∙ h.left_is))
picked_taken (Some pick) {cell} {v} {left} value more h e some =
    let is : pick - length cell.later ≡ more = some_is (pick - length cell.later) more (sym h.left_is ∙ e) in
    let is' : more - 1 ≡ pick - length (cell.later ++ value ∷ []) = omega (arith, is, length-append cell.later (value ∷ [])) in
    record { value_is = sym (entry-appended cell value pick (omega (arith, is, some))); left_is = ap Some is' }

picked_last : (pick : Option ℕ) {cell : Cell} {v : List ℕ} {left : Option ℕ} (value : List ℕ) → Picked pick cell v left → left ≡ None → Picked pick (appended cell value) value left
picked_last None {cell} value h e = record { value_is = sym (last_of-push cell.later value cell.kept); left_is = e }
picked_last (Some pick) {cell} value h e = absurd (some_not_none (pick - length cell.later) (sym h.left_is ∙ e))

-- the sectors of an image after one was put into it

pub record Put (i : ℕ) (value image image' : List ℕ) : Type 0 where
  pub same_length : length image' ≡ length image
  pub here : take 512 (drop (512 * i) image') ≡ value
  pub other : (k : ℕ) → k ≢ i → k < length image / 512 → take 512 (drop (512 * k) image') ≡ take 512 (drop (512 * k) image)

sector_at-bytes : (n : ℕ) (bytes : List ℕ) (i m : ℕ) → i < n → m ≡ 512 * i → sector_at (chopped n bytes) i ≡ take 512 (drop m bytes)
unfolding chopped
sector_at-bytes zero bytes i m h e = absurd (omega arith)
sector_at-bytes (suc n) bytes zero m h e = let z : 0 ≡ m = omega (arith, e) in ap (λ k. take 512 (drop k bytes)) z
sector_at-bytes (suc n) bytes (suc i) m h e =
    let back : 512 + (m - 512) ≡ m = omega (arith, e) in
    sector_at-bytes n (drop 512 bytes) i (m - 512) (omega arith) (omega (arith, e)) ∙ ap (take 512) (drop-drop (m - 512) 512 bytes ∙ ap (λ k. drop k bytes) back)

whole_overlaid : (at : ℕ) (values image : List (List ℕ)) → AllByRecursion (λ v. length v ≡ 512) values → AllByRecursion (λ v. length v ≡ 512) image → AllByRecursion (λ v. length v ≡ 512) (overlaid at values image)
unfolding overlaid
whole_overlaid zero [] image vs is = is
whole_overlaid zero (v ∷ values) [] vs is = tt
whole_overlaid zero (v ∷ values) (s ∷ image) vs is = (vs.0, whole_overlaid zero values image vs.1 is.1)
whole_overlaid (suc at) values [] vs is = tt
whole_overlaid (suc at) values (s ∷ image) vs is = (is.0, whole_overlaid at values image vs is.1)

length-overlaid : (at : ℕ) (values image : List (List ℕ)) → length (overlaid at values image) ≡ length image
unfolding overlaid
length-overlaid zero [] image = refl
length-overlaid zero (v ∷ values) [] = refl
length-overlaid zero (v ∷ values) (s ∷ image) = ap suc (length-overlaid zero values image)
length-overlaid (suc at) values [] = refl
length-overlaid (suc at) values (s ∷ image) = ap suc (length-overlaid at values image)

sector_at-overlaid_here : (i : ℕ) (value : List ℕ) (image : List (List ℕ)) → i < length image → sector_at (overlaid i (value ∷ []) image) i ≡ value
unfolding overlaid
sector_at-overlaid_here i value [] h = absurd (omega arith)
sector_at-overlaid_here zero value (s ∷ image) h = refl
sector_at-overlaid_here (suc i) value (s ∷ image) h = sector_at-overlaid_here i value image (omega arith)

sector_at-overlaid_other : (i k : ℕ) (value : List ℕ) (image : List (List ℕ)) → k ≢ i → sector_at (overlaid i (value ∷ []) image) k ≡ sector_at image k
unfolding overlaid
sector_at-overlaid_other zero k value [] h = refl
sector_at-overlaid_other (suc i) k value [] h = refl
sector_at-overlaid_other zero zero value (s ∷ image) h = absurd (h refl)
sector_at-overlaid_other zero (suc k) value (s ∷ image) h = refl
sector_at-overlaid_other (suc i) zero value (s ∷ image) h = refl
sector_at-overlaid_other (suc i) (suc k) value (s ∷ image) h = sector_at-overlaid_other i k value image (λ e. h (ap suc e))

pub put_sector : (n i : ℕ) (value image image' : List ℕ) → length image ≡ 512 * n → i < n → length value ≡ 512
    → image' ≡ take (512 * i) image ++ value ++ drop (512 * i + length value) image → Put i value image image'
put_sector n i value image image' long h whole put =
    let sectors = chopped n image in
    let after = overlaid i (value ∷ []) sectors in
    let count : length sectors ≡ n = length-chopped n image in
    let count' : length after ≡ n = length-overlaid i (value ∷ []) sectors ∙ count in
    let wholes = whole-chopped n image long in
    let one = sectors_of-one value whole in
    let same : image' ≡ concat after =
    put ∙ ap (λ l. take (512 * i) l ++ value ++ drop (512 * i + length value) l) (sym (concat-chopped n image long))
    ∙ sym (concat-overlaid i value sectors wholes (omega (arith, whole)) (omega (arith, whole, h, count))) ∙ ap (λ (l : List (List ℕ)). concat (overlaid i l sectors)) one in
    let wholes' = whole_overlaid i (value ∷ []) sectors (whole, tt) wholes in
    let chop : chopped n image' ≡ after = ap (chopped n) same ∙ chopped-concat after n count' wholes' in
    let at = λ (k : ℕ) (lt : k < n). sym (sector_at-bytes n image' k (512 * k) lt refl) ∙ ap (λ (l : List (List ℕ)). sector_at l k) chop in record {
      same_length = ap length same ∙ length-concat after wholes' ∙ ap (λ m. 512 * m) count' ∙ sym long;
      here = at i h ∙ sector_at-overlaid_here i value sectors (omega (arith, h, count));
      other = λ k ne lt. let fits : k < n = omega (arith, lt, long) in at k fits ∙ sector_at-overlaid_other i k value sectors ne ∙ sector_at-bytes n image k (512 * k) fits refl;
    }

-- all sectors, after a write of one

picked_same : {pick : Option ℕ} {cell cell' : Cell} {v v' : List ℕ} {left left' : Option ℕ} → cell' ≡ cell → v' ≡ v → left' ≡ left → Picked pick cell v left → Picked pick cell' v' left'
picked_same {pick} {cell} {cell'} {v} {v'} {left} {left'} c e l h =
    record { value_is = e ∙ h.value_is ∙ sym (ap (entry_or_last pick) c); left_is = l ∙ h.left_is ∙ sym (ap (rest_of pick) c) }

other_cell : (i k : ℕ) (value : List ℕ) (cells : List Cell) → k ≢ i → cell_at (written i (value ∷ []) cells) k ≡ cell_at cells k
other_cell i k value cells ne =
    ⊎_elim (λ lt. cell_at-written_below i (value ∷ []) cells k lt)
    (λ ge. ⊎_elim (λ more. cell_at-written_above i (value ∷ []) cells k (omega (arith, more))) (λ le. let e : k ≡ i = omega (arith, ge, le) in absurd (ne e)) (cases_lt i k)) (cases_lt k i)

picking_step : {picks : List ℕ} {cells : List Cell} {image image' : List ℕ} {left left' : List (Option ℕ)} (i : ℕ) (value : List ℕ) → Picking picks cells image left → i < length cells
    → length image' ≡ length image → length left' ≡ length left → Picked (slice_get picks i) (appended (cell_at cells i) value) (take 512 (drop (512 * i) image')) (slice_index_or left' i None)
    → ((k : ℕ) → k ≢ i → k < length cells → take 512 (drop (512 * k) image') ≡ take 512 (drop (512 * k) image)) → ((k : ℕ) → k ≢ i → slice_index_or left' k None ≡ slice_index_or left k None)
    → Picking picks (written i (value ∷ []) cells) image' left'
picking_step {picks} {cells} {image} {image'} {left} {left'} i value h lt long many here others lefts =
    let count = length-written i (value ∷ []) cells in record {
      many = many ∙ h.many ∙ sym count;
      long = long ∙ h.long ∙ sym (ap (λ n. 512 * n) count);
      each = λ k fits. ⊎_elim
          (λ e. subst (λ n. Picked (slice_get picks n) (cell_at (written i (value ∷ []) cells) n) (take 512 (drop (512 * n) image')) (slice_index_or left' n None)) (sym e)
          (picked_same (cell_at-written i (value ∷ []) cells 0 i (omega arith) (omega arith) lt) refl refl here))
          (λ ne. picked_same (other_cell i k value cells ne) (others k ne (omega (arith, fits, count))) (lefts k ne) (h.each k (omega (arith, fits, count))))
          (cases_eq k i);
    }

-- the pick of sector i is reached already
pub picking_passed : {picks : List ℕ} {cells : List Cell} {image : List ℕ} {left : List (Option ℕ)} (i : ℕ) (value : List ℕ) → i < length left → slice_index_or left i None ≡ Some 0
    → Picking picks cells image left → Picking picks (written i (value ∷ []) cells) image left
picking_passed {picks} {cells} {image} {left} i value lt is h =
    let lt' : i < length cells = omega (arith, lt, h.many) in
    picking_step i value h lt' refl refl (picked_passed (slice_get picks i) value (h.each i lt') is) (λ k ne fits. refl) (λ k ne. refl)

-- it is still to be reached
pub picking_taken : {picks : List ℕ} {cells : List Cell} {image image' : List ℕ} {left : List (Option ℕ)} (i more : ℕ) (value : List ℕ) → i < length left → slice_index_or left i None ≡ Some more → 0 < more
    → Put i value image image' → Picking picks cells image left → Picking picks (written i (value ∷ []) cells) image' (slice_set left i (Some (more - 1)))
picking_taken {picks} {cells} {image} {image'} {left} i more value lt is some put h =
    let lt' : i < length cells = omega (arith, lt, h.many) in
    picking_step i value h lt' put.same_length (length-set left i (Some (more - 1)))
    (picked_same refl put.here (get_or-set_same left i (Some (more - 1)) None lt) (picked_taken (slice_get picks i) value more (h.each i lt') is some))
    (λ k ne fits. put.other k ne (omega (arith, fits, h.long))) (λ k ne. get_or-set_other left i k (Some (more - 1)) None ne)

-- the last value is wanted
pub picking_last : {picks : List ℕ} {cells : List Cell} {image image' : List ℕ} {left : List (Option ℕ)} (i : ℕ) (value : List ℕ) → i < length left → slice_index_or left i None ≡ None
    → Put i value image image' → Picking picks cells image left → Picking picks (written i (value ∷ []) cells) image' left
picking_last {picks} {cells} {image} {image'} {left} i value lt is put h =
    let lt' : i < length cells = omega (arith, lt, h.many) in
    picking_step i value h lt' put.same_length refl (picked_same refl put.here refl (picked_last (slice_get picks i) value (h.each i lt') is))
    (λ k ne fits. put.other k ne (omega (arith, fits, h.long))) (λ k ne. refl)

-- from the start to the end

pub picking_first : (size : ℕ) (picks kept : List ℕ) (left : List (Option ℕ)) → length kept ≡ 512 * size → length left ≡ size → ((i : ℕ) → i < size → slice_index_or left i None ≡ slice_get picks i)
    → Picking picks (settled (chopped size kept)) kept left
picking_first size picks kept left long many are =
    let count : length (settled (chopped size kept)) ≡ size = length-map (chopped size kept) settled_cell ∙ length-chopped size kept in record {
      many = many ∙ sym count;
      long = long ∙ sym (ap (λ n. 512 * n) count);
      each = λ i lt. let fits : i < size = omega (arith, lt, count) in
          picked_same (cell_at-settled (chopped size kept) i) refl refl (picked_first (slice_get picks i) (slice_index_or left i None) (sector_at (chopped size kept) i) _ (are i fits) (sym (sector_at-bytes size kept i (512 * i) fits refl)));
    }

pub picking_all : {size : ℕ} {picks : List ℕ} {cells : List Cell} {image : List ℕ} {left : List (Option ℕ)} → length cells ≡ size → Picking picks cells image left → chopped size image ≡ picked cells picks
picking_all {size} {picks} {cells} {image} {left} count h =
    ext_get_or [] (chopped size image) (picked cells picks) (length-chopped size image ∙ sym count ∙ sym (length-picked cells picks))
    (λ i lt. let fits : i < size = omega (arith, lt, length-chopped size image) in let fits' : i < length cells = omega (arith, fits, count) in
    sector_at-bytes size image i (512 * i) fits refl ∙ (h.each i fits').value_is ∙ sym (sector_at-picked cells picks i fits'))

-- one sector more of a write
pub picking_more : {picks : List ℕ} (cells : List Cell) {image : List ℕ} {left : List (Option ℕ)} (at k : ℕ) (bytes value : List ℕ) → k < length bytes / 512 → value ≡ take 512 (drop (512 * k) bytes)
    → Picking picks (written (at + k) (value ∷ []) (written at (take k (sectors_of bytes)) cells)) image left → Picking picks (written at (take (k + 1) (sectors_of bytes)) cells) image left
picking_more {picks} cells {image} {left} at k bytes value lt is h =
    let values = sectors_of bytes in
    let next : k + 1 ≡ suc k = omega arith in
    let sector : sector_at values k ≡ value = sector_at-bytes (length bytes / 512) bytes k (512 * k) lt refl ∙ sym is in
    subst (λ (l : List Cell). Picking picks l image left)
    (sym (ap (λ n. written at (take n values) cells) next ∙ written-more at values cells k (at + k) refl (omega (arith, lt, length-sectors_of bytes)) ∙ ap (λ v. written (at + k) (v ∷ []) (written at (take k values) cells)) sector)) h

written-none : (at : ℕ) (cells : List Cell) → written at [] cells ≡ cells
unfolding written
written-none zero cells = refl
written-none (suc at) [] = refl
written-none (suc at) (c ∷ cells) = ap (λ (l : List Cell). c ∷ l) (written-none at cells)

pub picking_none : {picks : List ℕ} {cells : List Cell} {image : List ℕ} {left : List (Option ℕ)} (at : ℕ) → Picking picks cells image left → Picking picks (written at [] cells) image left
picking_none {picks} {cells} {image} {left} at h = subst (λ (l : List Cell). Picking picks l image left) (sym (written-none at cells)) h
