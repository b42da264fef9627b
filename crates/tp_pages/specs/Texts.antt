-- Trusted reading: the text of a page of a listing, which is one line (own).
use Rattle.std.specs.Prelude.{ℕ, ◌*◌, nat_lt, if◌then◌else◌, List, [], ◌∷◌, ◌++◌, codes}
use Rattle.std.specs.Fmt.{decimal}
use Rattle.tp_listings.specs.declared.extent.Extent.{Extent}

-- `OFFSET+LENGTH` in bytes, of blocks of so many bytes
abbrev pub run_text : ℕ → ℕ → ℕ → List ℕ
run_text unit first blocks = decimal (first * unit) ++ (codes "+" ++ decimal (blocks * unit))

-- each run with a space behind it
abbrev pub runs_text : ℕ → List Extent → List ℕ
runs_text unit [] = []
runs_text unit (e ∷ es) = run_text unit e.first e.blocks ++ (codes " " ++ runs_text unit es)

-- the block from which the next page is to be asked for, or that there is none
abbrev pub end_text : ℕ → ℕ → List ℕ
end_text most end = if nat_lt end most then codes "next " ++ decimal end else codes "end"

-- `SIZE BLOCK` of a volume of so many blocks, and of one of these, in bytes
abbrev pub size_text : ℕ → ℕ → List ℕ
size_text unit blocks = decimal (blocks * unit) ++ (codes " " ++ decimal unit)

-- of blocks before `most`, a page that tells these runs of those before `end`
abbrev pub page_text : ℕ → ℕ → List Extent → ℕ → List ℕ
page_text unit most extents end = runs_text unit extents ++ end_text most end
