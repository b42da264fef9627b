use Rattle.std.proofs.Common.{◌≡◌, List, [], ◌∷◌, length, refl, ap, subst, arith}
use Rattle.std.proofs.lemmas.Result.{on_ok_weaker}
use Rattle.tp_model.specs.Sectors.{Sector, sectors_of}
use Rattle.tp_model.specs.Disk.{DiskState, Writes}
use Rattle.tp_model.proofs.DiskLaws.{length-sectors_of}
use Rattle.tp_meta.proofs.committing.write_back.Goals as goal

none_of : (l : List Sector) → length l ≡ 0 → l ≡ []
none_of [] e = refl
none_of (s ∷ l) e = absurd (omega (arith, e))

pub returns-clause-any : goal.returns-clause-any
returns-clause-any g c =
    subst (λ (l : List Sector). Writes 0 l (g.D.Disk.state c.args.disk.now) (g.D.Disk.state c.write.new.self)) (none_of (sectors_of []) (length-sectors_of [])) c.write.ensures.any

pub returns-clause-ok : goal.returns-clause-ok
returns-clause-ok g c = on_ok_weaker c.write.result (λ e. ap (λ (d : DiskState). d.failures) e) c.write.ensures.ok
