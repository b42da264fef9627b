-- The line of a pool, piece by piece.
use Rattle.std.proofs.Common.{◌≡◌, ℕ, List, ◌∷◌, ◌++◌, ap, ◌∙◌, append_assoc}
use Rattle.std.specs.Prelude.{codes}
use Rattle.std.specs.Fmt.{decimal}
use Rattle.tp_model.specs.Status.{fraction, held_word}
use Rattle.tp_msg.specs.declared.status.PoolStatus.{PoolStatus}
use Rattle.tp_msg.specs.Told.{mode_word, check_word, figures, open_line}

-- a piece, and then the rest
before : (t0 t1 t a r : List ℕ) → t1 ≡ t0 ++ a → t ≡ t1 ++ r → t ≡ t0 ++ (a ++ r)
before t0 t1 t a r one rest = rest ∙ ap (λ (x : List ℕ). x ++ r) one ∙ append_assoc t0 a r

three_fields : (a f g r : List ℕ) → (a ++ (32 ∷ (f ++ (32 ∷ g)))) ++ r ≡ a ++ (32 ∷ (f ++ (32 ∷ (g ++ r))))
three_fields a f g r = append_assoc a (32 ∷ (f ++ (32 ∷ g))) r ∙ ap (λ (t : List ℕ). a ++ (32 ∷ t)) (append_assoc f (32 ∷ g) r)

pub open_line_is : (told : PoolStatus) (t1 t2 t3 t4 t5 t6 t7 t8 held mode check : List ℕ) → t1 ≡ figures told → t2 ≡ t1 ++ codes " " → t3 ≡ t2 ++ held → held ≡ held_word told.held_root
    → t4 ≡ t3 ++ codes " " → t5 ≡ t4 ++ mode → mode ≡ mode_word told
    → t6 ≡ t5 ++ codes " no_discard_passdown error_if_no_space " → t7 ≡ t6 ++ check → check ≡ check_word told.needs_check → t8 ≡ t7 ++ codes " 512" → t8 ≡ open_line told
open_line_is told t1 t2 t3 t4 t5 t6 t7 t8 held mode check e1 e2 e3 held_is e4 e5 mode_is e6 e7 check_is e8 =
    let behind : List ℕ → List ℕ → List ℕ → List ℕ = λ h m k. codes " " ++ (h ++ (codes " " ++ (m ++ (codes " no_discard_passdown error_if_no_space " ++ (k ++ codes " 512"))))) in
    let same : behind held mode check ≡ behind (held_word told.held_root) (mode_word told) (check_word told.needs_check) =
    ap (λ (h : List ℕ). behind h mode check) held_is ∙ ap (λ (m : List ℕ). behind (held_word told.held_root) m check) mode_is
    ∙ ap (λ (k : List ℕ). behind (held_word told.held_root) (mode_word told) k) check_is in
    let tail : t8 ≡ t1 ++ behind held mode check =
    before t1 t2 t8 (codes " ") _ e2 (before t2 t3 t8 held _ e3 (before t3 t4 t8 (codes " ") _ e4 (before t4 t5 t8 mode _ e5 (before t5 t6 t8 (codes " no_discard_passdown error_if_no_space ") _ e6 (before t6 t7 t8 check _ e7 e8))))) in
    tail ∙ ap (λ (x : List ℕ). x ++ behind held mode check) e1 ∙ ap (λ (x : List ℕ). figures told ++ x) same
    ∙ three_fields (decimal told.transaction_id) (fraction told.used_metadata told.metadata_blocks) (fraction told.used_data told.data_blocks) _
