use Rattle.std.proofs.Common.{◌≡◌, ◌==◌, ◌+◌, ◌-◌, ◌<◌, ℕ, Bool, cond, List, drop, take, get_or, length, ap, sym, ◌∙◌, arith}
use Rattle.std.specs.List.{list_any}
use Rattle.std.proofs.lemmas.List.{at_drop_more, take_rest}
use Rattle.tp_model.specs.Pool.{different}
use Rattle.tp_plain.proofs.slots.count_labels.Goals as goal
use Rattle.tp_plain.proofs.slots.count_labels.Goals.{then-not-has_label, else-not-has_label}

-- one label more, which stands again further on or does not
one_more : (xs : List ℕ) (i : ℕ) (r : Bool) → i < length xs → r ≡ list_any (λ y. y == get_or xs i 0) (take (length xs - (i + 1)) (drop (i + 1) xs)) → different (drop i xs) ≡ cond r 0 1 + different (drop (i + 1) xs)
one_more xs i r lt is =
    at_drop_more different xs i 0 lt
    ∙ ap (λ ys. cond (list_any (λ y. y == get_or xs i 0) ys) 0 1 + different (drop (i + 1) xs)) (sym (take_rest xs (i + 1)))
    ∙ ap (λ b. cond b 0 1 + different (drop (i + 1) xs)) (sym is)

pub loop-i-preserved : goal.loop-i-preserved
loop-i-preserved c =
    let xs = c.args.labels.now in
    let i = c.loop-i.i in
    let e = one_more xs i c.has_label.result c.loop-i-test.true c.has_label.ensures in
    elim c.if-not-has_label.branch [
      | then-not-has_label w ↦
          let f : different (drop i xs) ≡ 1 + different (drop (i + 1) xs) = e ∙ ap (λ b. cond b 0 1 + different (drop (i + 1) xs)) w.if-not-has_label.true in
          record { bound = omega arith; total = omega arith }
      | else-not-has_label w ↦
          let f : different (drop i xs) ≡ 0 + different (drop (i + 1) xs) = e ∙ ap (λ b. cond b 0 1 + different (drop (i + 1) xs)) w.if-not-has_label.false in
          record { bound = omega arith; total = omega arith }
    ]
