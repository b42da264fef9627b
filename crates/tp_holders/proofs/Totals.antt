-- How many hold volumes, all together.
use Rattle.std.proofs.Common.{◌≡◌, ℕ, ◌+◌, Bool, true, false, cond, ◌&&◌, None, Some, List, [], ◌∷◌, length, refl, ap, ◌∙◌, arith}
use Rattle.std.specs.Prelude.{T}
use Rattle.std.specs.Option.{unwrap_or}
use Rattle.std.specs.List.{sum_by}
use Rattle.std.specs.declared.cmp.Ordering.{Ordering}
use Rattle.std.specs.declared.cmp.Ordering.TheVariants.{Less, Equal, Greater}
use Rattle.std.specs.Ordering.{nat_cmp, is_eq, is_lt}
use Rattle.std.specs.Cmp.{nat_cmp_total}
use Rattle.std.specs.FinMap.{entries, entries_sorted, find, get-entries, is_sorted, put}
use Rattle.std.specs.FinMap.Entries.{below_all, by_order}
use Rattle.std.proofs.lemmas.List.Sums.{sum_by-cons}
use Rattle.tp_model.specs.Pool.{hold_count, hold_total}
use Rattle.tp_model.proofs.Maps.{entries_empty, entries_insert}
use Rattle.tp_holders.specs.Holders.{counts_of}

abbrev Entries : Type 0
Entries = List (ℕ × ℕ)

abbrev total : Entries → ℕ
total es = sum_by (λ e. e.1) es

both_hold : (a b : Bool) → T (a && b) → T a × T b
both_hold true b h = (tt, h)
both_hold false b h = absurd h

is_less : (o : Ordering) → T (is_lt o) → o ≡ Less
is_less Less h = refl
is_less Equal h = absurd h
is_less Greater h = absurd h

-- a key below another that is below all of those in a list is not in it
not_below : (k y : ℕ) (es : Entries) → nat_cmp k y ≡ Less → T (below_all nat_cmp y es) → find nat_cmp k es ≡ None
not_below k y [] less h = refl
not_below k y (e ∷ es) less h =
    let parts = both_hold (is_lt (nat_cmp y e.0)) (below_all nat_cmp y es) h in
    ap (λ o. cond (is_eq o) (Some e.1) (find nat_cmp k es)) (nat_cmp_total.trans k y e.0 less (is_less (nat_cmp y e.0) parts.0))
    ∙ not_below k y es less parts.1

-- an entry that is put adds its value, but for the one that it replaces
total_put : (k v : ℕ) (es : Entries) → T (is_sorted nat_cmp es) → total (put nat_cmp k v es) + unwrap_or (find nat_cmp k es) 0 ≡ total es + v
total_put k v [] sorted = let one = sum_by-cons (λ (e : ℕ × ℕ). e.1) (k, v) [] in omega (arith, one)
total_put k v (e ∷ es) sorted = at (nat_cmp k e.0) refl (total_put k v es parts.1)
  where
    parts : T (below_all nat_cmp e.0 es) × T (is_sorted nat_cmp es)
    parts = both_hold (below_all nat_cmp e.0 es) (is_sorted nat_cmp es) sorted

    all : total (e ∷ es) ≡ e.1 + total es
    all = sum_by-cons (λ (e : ℕ × ℕ). e.1) e es

    at : (o : Ordering) → nat_cmp k e.0 ≡ o → total (put nat_cmp k v es) + unwrap_or (find nat_cmp k es) 0 ≡ total es + v
        → total (by_order o ((k, v) ∷ e ∷ es) ((e.0, v) ∷ es) (e ∷ put nat_cmp k v es)) + unwrap_or (cond (is_eq o) (Some e.1) (find nat_cmp k es)) 0
        ≡ total (e ∷ es) + v
    at Less is rest =
        let none : unwrap_or (find nat_cmp k es) 0 ≡ 0 = ap (λ o. unwrap_or o 0) (not_below k e.0 es is parts.0) in
        let more = sum_by-cons (λ (e : ℕ × ℕ). e.1) (k, v) (e ∷ es) in
        omega (arith, none, more)
    at Equal is rest = let here = sum_by-cons (λ (e : ℕ × ℕ). e.1) (e.0, v) es in omega (arith, here, all)
    at Greater is rest = let first = sum_by-cons (λ (e : ℕ × ℕ). e.1) e (put nat_cmp k v es) in omega (arith, first, all, rest)

-- all holds are those of the row
pub count_total : (ids : List ℕ) → hold_total (counts_of ids) ≡ length ids
unfolding counts_of
count_total [] = ap total entries_empty
count_total (id ∷ ids) =
    let m = counts_of ids in
    let n = hold_count m id + 1 in
    let same : total (entries (counts_of (id ∷ ids))) ≡ total (put nat_cmp id n (entries m)) = ap total (entries_insert m id n) in
    let sum = total_put id n (entries m) (entries_sorted m) in
    let there : hold_count m id ≡ unwrap_or (find nat_cmp id (entries m)) 0 = ap (λ o. unwrap_or o 0) (get-entries m id) in
    let rest : total (entries m) ≡ length ids = count_total ids in
    omega (arith, same, sum, there, rest)
