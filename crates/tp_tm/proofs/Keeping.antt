-- Runs that change nothing that the last commit names.
use Rattle.std.proofs.Common.{◌≡◌, ℕ, ◌+◌, ◌<◌, Bool, List, length, get_or, refl, sym, subst, ◌∙◌, arith, inl, inr}
use Rattle.std.proofs.lemmas.Bool.{cases_lt}
use Rattle.tp_model.specs.Geometry.{metadata_sector}
use Rattle.tp_model.specs.Sectors.{Sector}
use Rattle.tp_model.specs.Disk.{DiskState, after_read, seen}
use Rattle.tp_model.specs.DiskStops.{LeavesOutside, SameOutside}
use Rattle.tp_model.proofs.DiskStopLaws.{goes_on_read, joins, now, starts, weakens}
use Rattle.tp_tm.specs.Keeps.{IsKeptFrom, LeavesKept, SameKept}

pub SameKept-none : (kept : List ℕ) (image : List Sector) → SameKept kept image image
SameKept-none kept image = record { same_length = refl; named = λ b i h k. refl; above = λ i h. refl }

pub SameKept-then : {kept : List ℕ} {a b c : List Sector} → SameKept kept a b → SameKept kept b c → SameKept kept a c
SameKept-then r s = record { same_length = s.same_length ∙ r.same_length; named = λ b i h k. s.named b i h k ∙ r.named b i h k; above = λ i h. s.above i h ∙ r.above i h }

-- before the first call
pub starts_kept : (kept : List ℕ) (disk : DiskState) → LeavesKept kept disk disk
starts_kept kept disk = record {
  stops = starts {P = IsKeptFrom kept disk.cells} disk (λ image stop. (image, stop, SameKept-none kept image));
  reads = SameKept-none kept (seen disk.cells);
}

-- one run after another
pub joins_kept : {kept : List ℕ} {a b c : DiskState} → LeavesKept kept a b → LeavesKept kept b c → LeavesKept kept a c
joins_kept {kept} {a} {b} {c} r s = record {
  stops =
      joins {P = IsKeptFrom kept a.cells} r.stops
      (weakens {P = IsKeptFrom kept b.cells} {Q = IsKeptFrom kept a.cells} (λ image from. let was = now r.stops from.0 from.1 in (was.0, was.1, SameKept-then was.2 from.2)) s.stops);
  reads = SameKept-then r.reads s.reads;
}

-- a read
pub read_kept : {kept : List ℕ} {a b c : DiskState} (ok : Bool) → LeavesKept kept a b → c ≡ after_read ok b → LeavesKept kept a c
read_kept {kept} {a} {b} {c} ok r e = record {
  stops = goes_on_read {P = IsKeptFrom kept a.cells} ok r.stops e;
  reads = subst (λ (d : DiskState). SameKept kept (seen a.cells) (seen d.cells)) (sym e) r.reads;
}

same_kept : (kept : List ℕ) (x : ℕ) (old new : List Sector) → x < length kept → get_or kept x 0 ≡ 0 → SameOutside (metadata_sector x) 8 old new → SameKept kept old new
same_kept kept x old new inside none same = record {
  same_length = same.same_length;
  named = λ b i h k. elim (cases_lt b x) [
    | inl l ↦ same.below (metadata_sector b + i) (omega arith)
    | inr g ↦ elim (cases_lt x b) [
      | inl l ↦ same.above (metadata_sector b + i) (omega arith)
      | inr f ↦ let e : b ≡ x = omega arith in let z : get_or kept b 0 ≡ 0 = (λ j. get_or kept (e j) 0) ∙ none in absurd (omega arith)
    ]
  ];
  above = λ i h. same.above i (omega arith);
}

-- writes to one block that the last commit does not name
pub block_kept : {a b : DiskState} (kept : List ℕ) (x : ℕ) → x < length kept → get_or kept x 0 ≡ 0 → LeavesOutside (metadata_sector x) 8 a b → SameOutside (metadata_sector x) 8 (seen a.cells) (seen b.cells)
    → LeavesKept kept a b
block_kept {a} {b} kept x inside none r same = record {
  stops = weakens {Q = IsKeptFrom kept a.cells} (λ image from. (from.0, from.1, same_kept kept x from.0 image inside none from.2)) r;
  reads = same_kept kept x (seen a.cells) (seen b.cells) inside none same;
}
