-- What is written as JSON reads back.
use Rattle.std.proofs.Common.{◌≡◌, ℕ, ◌+◌, ◌-◌, ◌*◌, ◌<◌, ◌≤◌, ◌^◌, nat_lt, if◌then◌else◌, Bool, true, false, List, [], ◌∷◌, ◌++◌, Some, refl, sym, ap, ◌∙◌, arith}
use Rattle.std.specs.Prelude.{Option, option_and_then, option_map, codes}
use Rattle.std.proofs.lemmas.Bool.{ltb-true}
use Rattle.std.proofs.lemmas.List.{append-nil}
use Rattle.std.proofs.lemmas.Nat.{mul-le}
use Rattle.std.specs.Fmt.{decimal}
use Rattle.json.specs.Json as json
use Rattle.json.specs.Lex.{tokens}
use Rattle.json.specs.Tree as tree
use Rattle.json.proofs.Printed.Tokens.{tokens-print}
use Rattle.json.proofs.Printed.Trees.{ArePrintable-json_tokens, value-json_tokens}
use Rattle.json.proofs.Printed.Decimals.{IsNumber-decimal}
use Rattle.serde_json.specs.Data.{Data, Items, array, boolean, item, member, no_items, no_members, number, object, unsigned, put}
use Rattle.serde_json.specs.Read.{max_depth, number_of, of_items, of_json, read}
use Rattle.serde_json.specs.Written.{compact_text, items_outline, outline}
use Rattle.serde_json.proofs.Numbers.{number_of-decimal}
use Rattle.serde_json.proofs.Texts.{print-outline}
use Rattle.serde_json.proofs.OnLiterals.{serde_json_on_literals}
use Rattle.tp_listings.specs.declared.extent.Extent.{Extent}
use Rattle.tp_listings.specs.declared.extent.Usage.{Usage}
use Rattle.tp_texts.specs.Json.{DeltaReadsBack, ExtentsFit, RunsReadBack, UsagesFit, UsagesReadBack, delta_items, exclusive_data, part_data, run_data, runs_items, usage_data, usages_items}

-- ---- an array of values that read back, and hold no more than numbers

record Reads (d : Data) : Type 0 where
  pub numbers : tree.HasNumbers (outline d)
  pub shallow : tree.depth (outline d) ≤ 1
  pub back : of_json (outline d) ≡ Some d

abbrev AllRead : Items → Type 0
AllRead no_items = Unit {0}
AllRead (item d ds) = (_ : Reads d) × AllRead ds

all_numbers : (ds : Items) → AllRead ds → tree.ItemsHaveNumbers (items_outline ds)
all_numbers no_items all = tt
all_numbers (item d ds) all = (all.0.numbers, all_numbers ds all.1)

all_shallow : (ds : Items) → AllRead ds → tree.items_depth (items_outline ds) ≤ 1
all_shallow no_items all = omega arith
all_shallow (item d ds) all = omega (arith, all.0.shallow, all_shallow ds all.1)

all_back : (ds : Items) → AllRead ds → of_items (items_outline ds) ≡ Some ds
all_back no_items all = refl
all_back (item d ds) all =
    ap (option_and_then (λ d. option_map (item d) (of_items (items_outline ds)))) all.0.back ∙ ap (option_map (item d)) (all_back ds all.1)

array_back : (ds : Items) → AllRead ds → read (compact_text (array ds)) ≡ Some (array ds)
array_back ds all =
    let j = json.array (items_outline ds) in
    let t : tokens (compact_text (array ds)) ≡ tree.json_tokens j ++ [] =
    ap tokens (sym (print-outline (array ds))) ∙ (tokens-print (tree.json_tokens j) (ArePrintable-json_tokens j (all_numbers ds all)) ∙ sym (append-nil (tree.json_tokens j))) in
    let v : json.value max_depth (tokens (compact_text (array ds))) ≡ Some (j, []) = ap (json.value max_depth) t ∙ value-json_tokens j max_depth [] (omega (arith, all_shallow ds all)) in
    ap (λ o. option_and_then of_json (option_and_then (λ p. json.if_last p.0 p.1) o)) v ∙ ap (option_map array) (all_back ds all)

-- ---- the values

whole_back : (n : ℕ) → n < 2 ^ 64 → option_map number (number_of (decimal n)) ≡ Some (number (unsigned n))
whole_back n small = ap (option_map number) (number_of-decimal n small)

-- a size in bytes
small_size : (blocks unit : ℕ) → blocks < 2 ^ 32 → unit ≤ 1048576 → blocks * unit ≤ 2 ^ 52
small_size blocks unit few small = omega (arith, mul-le blocks unit (2 ^ 32) 1048576 (omega (arith, few)) small)

two : (a b : Option Data) (x y : Data) → a ≡ Some x → b ≡ Some y
    → option_map object (option_and_then (λ d. option_and_then (λ f. Some (put (codes "offset") f (put (codes "length") d no_members))) b) a) ≡ Some (object (member (codes "length") x (member (codes "offset") y no_members)))
unfolding serde_json_on_literals
two a b x y e f = rw (e, f) refl

run_reads : (base unit first blocks : ℕ) → base ≤ 2 ^ 40 → unit ≤ 1048576 → first < 2 ^ 32 → blocks < 2 ^ 32 → Reads (run_data base unit first blocks)
run_reads base unit first blocks low small near few = record {
  numbers = (IsNumber-decimal (blocks * unit) size, (IsNumber-decimal (base + first * unit) place, tt));
  shallow = omega arith;
  back = two _ _ _ _ (whole_back (blocks * unit) size) (whole_back (base + first * unit) place);
}
  where
    size : blocks * unit < 2 ^ 64
    size = omega (arith, small_size blocks unit few small)

    place : base + first * unit < 2 ^ 64
    place = omega (arith, small_size first unit near small, low)

runs_read : (base unit : ℕ) (es : List Extent) → base ≤ 2 ^ 40 → unit ≤ 1048576 → ExtentsFit es → AllRead (runs_items base unit es)
runs_read base unit [] low small are = tt
runs_read base unit (e ∷ es) low small are = (run_reads base unit e.first e.blocks low small are.0 are.1, runs_read base unit es low small are.2)

pub runs_read_back : RunsReadBack
runs_read_back base unit es low small are = array_back (runs_items base unit es) (runs_read base unit es low small are)

-- ---- parts

three : (is_so : Bool) (a b : Option Data) (x y : Data) → a ≡ Some x → b ≡ Some y
    → option_map object (option_and_then (λ d. option_and_then (λ f. Some (put (codes "offset") f (put (codes "length") d (put (codes "data") (boolean is_so) no_members)))) b) a)
    ≡ Some (object (member (codes "data") (boolean is_so) (member (codes "length") x (member (codes "offset") y no_members))))
unfolding serde_json_on_literals
three is_so a b x y e f = rw (e, f) refl

part_reads : (unit : ℕ) (is_data : Bool) (first blocks : ℕ) → unit ≤ 1048576 → first < 2 ^ 32 → blocks < 2 ^ 32 → Reads (part_data unit is_data first blocks)
part_reads unit is_data first blocks small near few = record {
  numbers = (tt, (IsNumber-decimal (blocks * unit) size, (IsNumber-decimal (first * unit) place, tt)));
  shallow = omega arith;
  back = three is_data _ _ _ _ (whole_back (blocks * unit) size) (whole_back (first * unit) place);
}
  where
    size : blocks * unit < 2 ^ 64
    size = omega (arith, small_size blocks unit few small)

    place : first * unit < 2 ^ 64
    place = omega (arith, small_size first unit near small)

hole_reads : (unit from end : ℕ) (ds : Items) (is_there : Bool) → unit ≤ 1048576 → end < 2 ^ 32 → (nat_lt from end ≡ is_there) → AllRead ds
    → AllRead (if is_there then item (part_data unit false from (end - from)) ds else ds)
hole_reads unit from end ds true small low there all = (part_reads unit false from (end - from) small (omega (arith, below, low)) (omega (arith, low)), all)
  where
    below : from < end
    below = ltb-true from end there
hole_reads unit from end ds false small low there all = all

delta_read : (unit end from : ℕ) (es : List Extent) → unit ≤ 1048576 → end < 2 ^ 32 → ExtentsFit es → AllRead (delta_items unit end from es)
delta_read unit end from [] small low are = hole_reads unit from end no_items (nat_lt from end) small low refl tt
delta_read unit end from (e ∷ es) small low are =
    hole_reads unit from e.first (item (part_data unit true e.first e.blocks) (delta_items unit end (e.first + e.blocks) es)) (nat_lt from e.first) small are.0 refl
    (part_reads unit true e.first e.blocks small are.0 are.1, delta_read unit end (e.first + e.blocks) es small low are.2)

pub delta_reads_back : DeltaReadsBack
delta_reads_back unit end es small low are = array_back (delta_items unit end 0 es) (delta_read unit end 0 es small low are)

-- ---- usages

four : (a b c d : Option Data) (x y z w : Data) → a ≡ Some x → b ≡ Some y → c ≡ Some z → d ≡ Some w
    → option_map object (option_and_then (λ p. option_and_then (λ q. option_and_then (λ r. option_and_then (λ s. Some (put (codes "size") s (put (codes "mapped") r (put (codes "id") q (put (codes "exclusive") p no_members))))) d) c) b) a)
    ≡ Some (object (member (codes "exclusive") x (member (codes "id") y (member (codes "mapped") z (member (codes "size") w no_members)))))
unfolding serde_json_on_literals
four a b c d x y z w e f g h = rw (e, f, g, h) refl

exclusive_back : (unit : ℕ) (is_held : Bool) (n : ℕ) → n * unit < 2 ^ 64 → of_json (outline (exclusive_data unit is_held n)) ≡ Some (exclusive_data unit is_held n)
exclusive_back unit true n small = refl
exclusive_back unit false n small = whole_back (n * unit) small

exclusive_number : (unit : ℕ) (is_held : Bool) (n : ℕ) → n * unit < 2 ^ 64 → tree.HasNumbers (outline (exclusive_data unit is_held n))
exclusive_number unit true n small = tt
exclusive_number unit false n small = IsNumber-decimal (n * unit) small

exclusive_shallow : (unit : ℕ) (is_held : Bool) (n : ℕ) → tree.depth (outline (exclusive_data unit is_held n)) ≡ 0
exclusive_shallow unit true n = refl
exclusive_shallow unit false n = refl

usage_reads : (unit : ℕ) (is_held : Bool) (u : Usage) → unit ≤ 1048576 → u.id < 2 ^ 32 → u.blocks < 2 ^ 32 → u.mapped < 2 ^ 32 → u.exclusive < 2 ^ 32 → Reads (usage_data unit is_held u)
usage_reads unit is_held u small id blocks mapped exclusive = record {
  numbers = (exclusive_number unit is_held u.exclusive (size u.exclusive exclusive), (IsNumber-decimal u.id whole, (IsNumber-decimal (u.mapped * unit) (size u.mapped mapped), (IsNumber-decimal (u.blocks * unit) (size u.blocks blocks), tt))));
  shallow = omega (arith, exclusive_shallow unit is_held u.exclusive);
  back = four _ _ _ _ _ _ _ _ (exclusive_back unit is_held u.exclusive (size u.exclusive exclusive)) (whole_back u.id whole) (whole_back (u.mapped * unit) (size u.mapped mapped)) (whole_back (u.blocks * unit) (size u.blocks blocks));
}
  where
    whole : u.id < 2 ^ 64
    whole = omega (arith, id)

    size : (n : ℕ) → n < 2 ^ 32 → n * unit < 2 ^ 64
    size n few = omega (arith, small_size n unit few small)

usages_read : (unit : ℕ) (is_held : Bool) (us : List Usage) → unit ≤ 1048576 → UsagesFit us → AllRead (usages_items unit is_held us)
usages_read unit is_held [] small are = tt
usages_read unit is_held (u ∷ us) small are = (usage_reads unit is_held u small are.0 are.1 are.2 are.3, usages_read unit is_held us small are.4)

pub usages_read_back : UsagesReadBack
usages_read_back unit is_held us small are = array_back (usages_items unit is_held us) (usages_read unit is_held us small are)
