-- What a read of a range of sectors gives.
use Rattle.std.proofs.Common.{◌≡◌, ℕ, zero, suc, ◌+◌, ◌-◌, ◌≤◌, take, drop, map, ap, ◌∙◌, arith}
use Rattle.std.specs.List.{range_with_len}
use Rattle.std.proofs.lemmas.List.FromFn.{take-map-range_with_len}
use Rattle.tp_shown.specs.Laws.{ReadGives}
use Rattle.tp_shown.specs.Shown.{own_sectors, value_at}
use Rattle.tp_shown.proofs.Values.{sectors_are}

drop-map-range : {X : Type 0} (f : ℕ → X) (a k n : ℕ) → drop k (map f (range_with_len a (k + n))) ≡ map f (range_with_len (a + k) n)
drop-map-range f a zero n =
    let z : a ≡ a + zero = omega arith in
    let y : zero + n ≡ n = omega arith in
    λ i. map f (range_with_len (z i) (y i))
drop-map-range f a (suc k) n =
    let e : suc k + n ≡ suc (k + n) = omega arith in
    let s : a + 1 + k ≡ a + suc k = omega arith in
    ap (λ m. drop (suc k) (map f (range_with_len a m))) e ∙ (drop-map-range f (a + 1) k n ∙ ap (λ m. map f (range_with_len m n)) s)

pub read_gives : ReadGives
read_gives g c image p limits h id sector count there inside =
    let f = value_at g c.volumes image id in
    let all = own_sectors g c.volumes id in
    let rest = all - sector in
    let parts : all ≡ sector + rest = omega (arith, inside) in
    let z : 0 + sector ≡ sector = omega arith in
    let short : count ≤ rest = omega (arith, inside) in
    ap (λ l. take count (drop sector l)) (sectors_are g c image p h id there)
    ∙ (ap (λ m. take count (drop sector (map f (range_with_len 0 m)))) parts
    ∙ (ap (take count) (drop-map-range f 0 sector rest ∙ ap (λ m. map f (range_with_len m rest)) z)
    ∙ take-map-range_with_len f sector rest count short))
