use Rattle.std.proofs.Common.{ℕ, ◌≡◌, ◌+◌, ◌-◌, ◌*◌, List, take, drop, ap, ◌∙◌, subst, arith}
use Rattle.std.proofs.lemmas.Result.{on_ok_weaker}
use Rattle.tp_model.specs.Geometry.{data_sector}
use Rattle.tp_model.specs.Sectors.{Sector, sectors_of}
use Rattle.tp_model.specs.Disk.{Writes, after_write}
use Rattle.tp_model.proofs.DiskLaws.{sectors_of-part}
use Rattle.tp_pool.proofs.writing.put_run.Goals as goal

pub returns-clause-any : goal.returns-clause-any
returns-clause-any g c =
    let from = c.args.from in
    let to = c.args.to in
    let bytes = c.args.bytes.now in
    let n : 512 * to - 512 * from ≡ 512 * (to - from) = omega arith in
    let part : sectors_of (take (512 * to - 512 * from) (drop (512 * from) bytes)) ≡ take (to - from) (drop from (sectors_of bytes)) =
    ap (λ m. sectors_of (take m (drop (512 * from) bytes))) n ∙ sectors_of-part bytes from (to - from) c.requires.whole (omega (arith, c.requires.run, c.requires.bytes)) in
    let at : data_sector c.args.blocks.now c.args.place + 0 ≡ data_sector c.args.blocks.now c.args.place = omega arith in
    subst (λ (k : ℕ). Writes k (take (to - from) (drop from (sectors_of bytes))) (g.D.Disk.state c.args.disk.now) (g.D.Disk.state c.put_in_place.new.disk)) at
    (subst (λ (l : List Sector). Writes (data_sector c.args.blocks.now c.args.place + 0) l (g.D.Disk.state c.args.disk.now) (g.D.Disk.state c.put_in_place.new.disk)) part c.put_in_place.ensures.any)

pub returns-clause-ok : goal.returns-clause-ok
returns-clause-ok g c =
    let from = c.args.from in
    let to = c.args.to in
    let bytes = c.args.bytes.now in
    let old = g.D.Disk.state c.args.disk.now in
    let n : 512 * to - 512 * from ≡ 512 * (to - from) = omega arith in
    let part : sectors_of (take (512 * to - 512 * from) (drop (512 * from) bytes)) ≡ take (to - from) (drop from (sectors_of bytes)) =
    ap (λ m. sectors_of (take m (drop (512 * from) bytes))) n ∙ sectors_of-part bytes from (to - from) c.requires.whole (omega (arith, c.requires.run, c.requires.bytes)) in
    let at : data_sector c.args.blocks.now c.args.place + 0 ≡ data_sector c.args.blocks.now c.args.place = omega arith in
    on_ok_weaker c.put_in_place.result (λ is. is ∙ (λ i. after_write (at i) (part i) old)) c.put_in_place.ensures.ok
