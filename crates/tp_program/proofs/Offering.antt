-- The volume of clients who name none, by whether they may have clones.
use Rattle.std.proofs.Common.{◌≡◌, ℕ, Bool, true, false, Option, sym, subst, ◌∙◌}
use Rattle.std.specs.Prelude.{if◌then◌else◌}
use Rattle.nbd_session.specs.Session.{below}

pub with_clones : (b : Bool) (given d r : Option ℕ) → b ≡ true → given ≡ d → r ≡ below 8388608 given → r ≡ (if b then below 8388608 d else d)
with_clones b given d r on same is =
    let P : Option ℕ → Type 0 = λ x. r ≡ below 8388608 x in
    let Q : Bool → Type 0 = λ x. r ≡ (if x then below 8388608 d else d) in
    subst Q (sym on) (subst P same is)

pub without_clones : (b : Bool) (given d r : Option ℕ) → b ≡ false → given ≡ d → r ≡ given → r ≡ (if b then below 8388608 d else d)
without_clones b given d r off same is = let Q : Bool → Type 0 = λ x. r ≡ (if x then below 8388608 d else d) in subst Q (sym off) (is ∙ same)
