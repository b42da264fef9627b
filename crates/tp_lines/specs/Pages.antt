-- Trusted reading: control lines that ask for a volume's size or for a page of a listing (own).
use Rattle.std.specs.Prelude.{◌≡◌, ℕ, ◌<◌, List, ◌∷◌, ◌++◌, codes}
use Rattle.std.specs.Fmt.{decimal}
use Rattle.tp_lines.specs.declared.pages.PageOf.{PageOf}
use Rattle.tp_lines.specs.declared.pages.PageOf.TheVariants.{Size, Map, Delta}

-- Volumes and blocks have numbers below 2^24.
abbrev pub IsPageLine : PageOf → Type 0
IsPageLine (Size id) = id < 16777216
IsPageLine (Map id first) = (id < 16777216) × (first < 16777216)
IsPageLine (Delta old new first) = (old < 16777216) × (new < 16777216) × (first < 16777216)

-- how each is written
abbrev pub page_spelling : PageOf → List ℕ
page_spelling (Size id) = codes "size " ++ decimal id
page_spelling (Map id first) = codes "map " ++ (decimal id ++ (codes " " ++ decimal first))
page_spelling (Delta old new first) = codes "delta " ++ (decimal old ++ (codes " " ++ (decimal new ++ (codes " " ++ decimal first))))

abbrev pub IsNoPage : List ℕ → Type 0
IsNoPage text = (p : PageOf) → IsPageLine p → text ≡ page_spelling p → ⊥

-- by the first word and what stands behind it
abbrev pub IsPageSplit : List ℕ → List ℕ → PageOf → Type 0
IsPageSplit word rest (Size id) = (word ≡ codes "size") × (rest ≡ decimal id)
IsPageSplit word rest (Map id first) = (word ≡ codes "map") × (rest ≡ decimal id ++ 32 ∷ decimal first)
IsPageSplit word rest (Delta old new first) = (word ≡ codes "delta") × (rest ≡ decimal old ++ 32 ∷ (decimal new ++ 32 ∷ decimal first))

abbrev pub IsPageUnsplit : List ℕ → List ℕ → Type 0
IsPageUnsplit word rest = (p : PageOf) → IsPageLine p → IsPageSplit word rest p → ⊥
