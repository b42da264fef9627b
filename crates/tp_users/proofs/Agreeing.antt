-- Two reads of one pool that both leave it as it is tell the same.
use Rattle.std.proofs.Common.{◌≡◌, ℕ, List, sym, ◌∙◌}
use Rattle.tp_model.specs.Sectors.{Sector}
use Rattle.tp_model.specs.Pool.{PlainPool}
use Rattle.tp_model.specs.Calls.{Gave, Read}
use Rattle.tp_model.specs.Clauses.{Meets, View}
use Rattle.tp_users.proofs.Unchanged.{plainly}

pub agree : {D : Type 0} (view : View D) (p : D) (s : PlainPool) (id sector n : ℕ) (xs ys : List Sector) → view.shows p s → Meets view p p (Read id sector n) (Gave xs)
    → Meets view p p (Read id sector n) (Gave ys) → xs ≡ ys
agree view p s id sector n xs ys is first second =
    let a = first.called.meets s is in
    let b = second.called.meets s is in
    (plainly s a.0 a.1 id sector n xs a.2).0 ∙ sym (plainly s b.0 b.1 id sector n ys b.2).0
