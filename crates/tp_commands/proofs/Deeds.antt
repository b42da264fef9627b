-- What is done on the disk of an image that is opened and then closed.
use Rattle.std.proofs.Common.{◌≡◌, ℕ, List, ◌∷◌, Option, Some, None, ap, ◌∙◌}
use Rattle.std.specs.Prelude.{IfNone}
use Rattle.tp_model.specs.Disk.{DiskState}
use Rattle.tp_images.specs.Deeds.{Closes, Deed, HandsOut, OnImage}
use Rattle.tp_images.specs.declared.way.Way.{Way}

pub done_on : {way : Way} {name : List ℕ} {old mid new : List Deed} {before after : DiskState} (Does : DiskState → DiskState → Type 0) → HandsOut way name old mid before
    → new ≡ Closes name after ∷ mid → Does before after → OnImage way name old new Does
done_on {name = name} {before = before} {after = after} Does out closed did = record {
  before = before;
  after = after;
  deeds = closed ∙ ap (λ (l : List Deed). Closes name after ∷ l) out.deeds;
  handed_out = out.handed_out;
  lasts = out.lasts;
  does = did;
}

-- what is known where nothing is told
pub none_so : {A P Q : Type 0} (o : Option A) → (P → Q) → IfNone o P → IfNone o Q
none_so None f p = f p
none_so (Some x) f p = tt
