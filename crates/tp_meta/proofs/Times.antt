-- How time goes on for a disk.
use Rattle.std.proofs.Common.{◌≡◌, ℕ, Bool, true, false, List, [], ◌∷◌, ◌++◌, sym, ap, subst, ◌∙◌, append_assoc}
use Rattle.tp_model.specs.Geometry.{Geometry}
use Rattle.tp_model.specs.Sectors.{Sector}
use Rattle.tp_model.specs.Disk.{Cell, DiskState, after_flush}
use Rattle.tp_model.specs.DiskStops.{LeavesOnly, moments}
use Rattle.tp_mapping.specs.Mapping as mapping
use Rattle.tp_meta.specs.Metadata.{IsLater, Ran}

pub later_then : {a b c : DiskState} → IsLater a b → IsLater b c → IsLater a c
later_then {a} {b} {c} r s = record {
  between = s.between ++ r.between;
  joined = s.joined ∙ ap (λ (l : List (List Cell)). s.between ++ l) r.joined ∙ sym (append_assoc s.between r.between (moments a));
}

pub later_run : {P : List Sector → Type 0} {a b : DiskState} → LeavesOnly a b P → IsLater a b
later_run r = record { between = r.between; joined = r.joined }

pub later_flush : (ok : Bool) (a b : DiskState) → b ≡ after_flush ok a → IsLater a b
later_flush true a b e = record { between = b.cells ∷ []; joined = ap (λ (d : DiskState). b.cells ∷ d.past) e }
later_flush false a b e = record { between = []; joined = ap moments e }

-- a change of the mapping, behind a read that succeeded
pub ran_behind : {n r s : ℕ} {faulted : Bool} {counts after_counts : List ℕ} {g h : Geometry} {a b c : DiskState} → b ≡ a → mapping.Ran n faulted r s counts after_counts g h b c → Ran n faulted r s g h a c
ran_behind {n} {r} {s} {faulted} {counts} {after_counts} {g} {h} {a} {b} {c} same ran = subst (λ (z : DiskState). Ran n faulted r s g h z c) same (record {
  geometry = ran.geometry;
  room = ran.room;
  same_disk = ran.same_disk;
  cause = ran.cause;
  flushes = ran.flushes;
  time = later_run ran.any_moment.stops;
})
