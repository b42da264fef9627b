-- The objects of an array of JSON that are left.
use Rattle.std.proofs.Common.{◌≡◌, ℕ, ◌+◌, ◌-◌, ◌<◌, ◌≤◌, ◌||◌, nat_lt, if◌then◌else◌, Bool, true, false, List, [], ◌++◌, length, drop, get_or, refl, sym, ap, ◌∙◌, append_assoc}
use Rattle.std.specs.Prelude.{codes}
use Rattle.std.proofs.lemmas.List.{append-nil, drop_all, drop_more}
use Rattle.serde_json.specs.Data.{Data, Items, item, no_items}
use Rattle.serde_json.specs.Written.{comma_if, compact_text, items_text}
use Rattle.tp_listings.specs.declared.extent.Extent.{Extent}
use Rattle.tp_listings.specs.declared.extent.Usage.{Usage}
use Rattle.tp_texts.specs.Holes.{hole_object}
use Rattle.tp_texts.specs.Json.{delta_items, part_data, run_data, runs_items, usage_data, usages_items}

-- the objects of an array that are left, its end and a newline
abbrev pub rest_of : Bool → Items → List ℕ
rest_of later ds = items_text later ds ++ codes "\n"

item_cut : (later : Bool) (d : Data) (ds : Items) → rest_of later (item d ds) ≡ (comma_if later ++ compact_text d) ++ rest_of true ds
item_cut later d ds =
    ap (λ (l : List ℕ). l ++ codes "\n") (sym (append_assoc (comma_if later) (compact_text d) (items_text true ds))) ∙ append_assoc (comma_if later ++ compact_text d) (items_text true ds) (codes "\n")

pub runs_json_cut : (later : Bool) (base unit i : ℕ) (x : Extent) (es : List Extent) → i < length es
    → rest_of later (runs_items base unit (drop i es)) ≡ (comma_if later ++ compact_text (run_data base unit (get_or es i x).first (get_or es i x).blocks)) ++ rest_of true (runs_items base unit (drop (i + 1) es))
runs_json_cut later base unit i x es lt =
    ap (λ (l : List Extent). rest_of later (runs_items base unit l)) (drop_more es i x lt)
    ∙ item_cut later (run_data base unit (get_or es i x).first (get_or es i x).blocks) (runs_items base unit (drop (i + 1) es))

pub runs_json_over : (later : Bool) (base unit i : ℕ) (es : List Extent) → length es ≤ i → rest_of later (runs_items base unit (drop i es)) ≡ codes "]\n" ++ []
runs_json_over later base unit i es end = ap (λ (l : List Extent). rest_of later (runs_items base unit l)) (drop_all i es end)

pub usages_json_cut : (later : Bool) (unit : ℕ) (is_held : Bool) (i : ℕ) (x : Usage) (us : List Usage) → i < length us
    → rest_of later (usages_items unit is_held (drop i us)) ≡ (comma_if later ++ compact_text (usage_data unit is_held (get_or us i x))) ++ rest_of true (usages_items unit is_held (drop (i + 1) us))
usages_json_cut later unit is_held i x us lt =
    ap (λ (l : List Usage). rest_of later (usages_items unit is_held l)) (drop_more us i x lt)
    ∙ item_cut later (usage_data unit is_held (get_or us i x)) (usages_items unit is_held (drop (i + 1) us))

pub usages_json_over : (later : Bool) (unit : ℕ) (is_held : Bool) (i : ℕ) (us : List Usage) → length us ≤ i → rest_of later (usages_items unit is_held (drop i us)) ≡ codes "]\n" ++ []
usages_json_over later unit is_held i us end = ap (λ (l : List Usage). rest_of later (usages_items unit is_held l)) (drop_all i us end)

-- a hole that there is, or not
hole_cut : (later is_there : Bool) (d : Data) (ds : Items)
    → rest_of later (if is_there then item d ds else ds) ≡ (if is_there then comma_if later ++ compact_text d else []) ++ rest_of (later || is_there) ds
hole_cut true true d ds = item_cut true d ds
hole_cut false true d ds = item_cut false d ds
hole_cut true false d ds = refl
hole_cut false false d ds = refl

pub delta_json_cut : (later : Bool) (unit end from i : ℕ) (x : Extent) (es : List Extent) → i < length es
    → rest_of later (delta_items unit end from (drop i es))
    ≡ (hole_object later unit from (get_or es i x).first ++ (comma_if (later || nat_lt from (get_or es i x).first) ++ compact_text (part_data unit true (get_or es i x).first (get_or es i x).blocks)))
    ++ rest_of true (delta_items unit end ((get_or es i x).first + (get_or es i x).blocks) (drop (i + 1) es))
delta_json_cut later unit end from i x es lt =
    let e : Extent = get_or es i x in
    let d : Data = part_data unit true e.first e.blocks in
    let ds : Items = delta_items unit end (e.first + e.blocks) (drop (i + 1) es) in
    let is_there : Bool = nat_lt from e.first in
    ap (λ (l : List Extent). rest_of later (delta_items unit end from l)) (drop_more es i x lt)
    ∙ (hole_cut later is_there (part_data unit false from (e.first - from)) (item d ds)
    ∙ (ap (λ (l : List ℕ). hole_object later unit from e.first ++ l) (item_cut (later || is_there) d ds)
    ∙ sym (append_assoc (hole_object later unit from e.first) (comma_if (later || is_there) ++ compact_text d) (rest_of true ds))))

pub delta_json_over : (later : Bool) (unit end from i : ℕ) (es : List Extent) → length es ≤ i → rest_of later (delta_items unit end from (drop i es)) ≡ (hole_object later unit from end ++ codes "]\n") ++ []
delta_json_over later unit end from i es over =
    ap (λ (l : List Extent). rest_of later (delta_items unit end from l)) (drop_all i es over)
    ∙ (hole_cut later (nat_lt from end) (part_data unit false from (end - from)) no_items
    ∙ sym (append-nil (hole_object later unit from end ++ codes "]\n")))
