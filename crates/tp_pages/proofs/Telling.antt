-- The runs of a page, as far as they were written.
use Rattle.std.proofs.Common.{◌≡◌, ℕ, ◌+◌, ◌<◌, ◌≤◌, List, ◌++◌, length, drop, get_or, sym, ap, ◌∙◌, append_assoc}
use Rattle.std.specs.Prelude.{codes}
use Rattle.std.proofs.lemmas.List.{append-nil, drop_all, drop_more}
use Rattle.tp_listings.specs.declared.extent.Extent.{Extent}
use Rattle.tp_pages.specs.Texts.{run_text, runs_text}

-- one run more was written
pub runs_more : (unit i : ℕ) (d : Extent) (es : List Extent) (was now : List ℕ) → i < length es → now ≡ was ++ (run_text unit (get_or es i d).first (get_or es i d).blocks ++ codes " ")
    → was ++ runs_text unit (drop i es) ≡ runs_text unit es → now ++ runs_text unit (drop (i + 1) es) ≡ runs_text unit es
runs_more unit i d es was now lt is before =
    let run : List ℕ = run_text unit (get_or es i d).first (get_or es i d).blocks in
    let rest : List ℕ = runs_text unit (drop (i + 1) es) in
    let cut : runs_text unit (drop i es) ≡ (run ++ codes " ") ++ rest = ap (runs_text unit) (drop_more es i d lt) ∙ sym (append_assoc run (codes " ") rest) in
    ap (λ (l : List ℕ). l ++ rest) is ∙ (append_assoc was (run ++ codes " ") rest ∙ (ap (λ (l : List ℕ). was ++ l) (sym cut) ∙ before))

-- all were
pub runs_all : (unit i : ℕ) (es : List Extent) (was : List ℕ) → length es ≤ i → was ++ runs_text unit (drop i es) ≡ runs_text unit es → was ≡ runs_text unit es
runs_all unit i es was over before = sym (append-nil was) ∙ (ap (λ (l : List ℕ). was ++ l) (sym (ap (runs_text unit) (drop_all i es over))) ∙ before)
