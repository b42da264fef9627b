use Rattle.std.proofs.Common.{rules, ◌-◌, ◌+◌, ◌*◌, ◌/◌, ◌≤◌, length, take, drop, refl, sym, ap, subst, ◌∙◌, arith}
use Rattle.std.specs.List.{concat}
use Rattle.tp_model.specs.Disk.{DiskState, seen}
use Rattle.tp_shown.specs.Shown.{values_at}
use Rattle.tp_pool.specs.Reading.{id_read}
use Rattle.tp_pool.proofs.Fetching.{same_length, read_more, volume_small}
use Rattle.tp_pool.proofs.reading.read_told.Goals as goal

pub overflow_add-sector : goal.overflow_add-sector
overflow_add-sector g c =
    let small = volume_small (g.M.Metadata.geometry c.args.metadata.now) c.read_piece.ensures.limits in
    omega (arith, c.requires.within c.read_piece.ensures.limits, c.loop-is_there.invariant.within, small)

pub loop-is_there-preserved : goal.loop-is_there-preserved
loop-is_there-preserved g c =
    let M = g.M.Metadata in
    let inv = c.loop-is_there.invariant in
    let gm = M.geometry c.args.metadata.now in
    let done = c.loop-is_there.done in
    let part = c.min-part.result in
    let out = c.loop-is_there.out in
    let read = c.read_piece-in-loop-is_there in
    let id = id_read c.args.is_copy c.args.id in
    let least : part ≤ length c.args.out.now / 512 - done = omega (arith, c.min-part.ensures) in
    let fits : done + part ≤ length out / 512 = omega (arith, least, inv.long, c.if-done-count.true) in
    record {
      counted = refl;
      within = omega (arith, least, c.if-done-count.true);
      long = same_length out read.new.out done part fits read.ensures.length ∙ inv.long;
      state = c.in_ok-is_there-2.ensures.looked.state ∙ inv.state;
      there = λ now kept stands. c.in_ok-is_there-2.ensures.looked.told now kept (subst (λ (d : DiskState). M.tells c.args.metadata.now d now kept) (sym inv.state) stands);
      bytes = λ is now kept stands.
          read_more out read.new.out done part fits read.ensures.length gm now.volumes (seen (g.D.Disk.state c.args.disk.now).cells) id c.args.sector (inv.bytes c.loop-is_there-test.true now kept stands)
          (c.in_ok-is_there-2.ensures.bytes (search (rules, is)) now kept (subst (λ (d : DiskState). M.tells c.args.metadata.now d now kept) (sym inv.state) stands)
          ∙ ap (λ (d : DiskState). concat (values_at gm now.volumes (seen d.cells) id (c.args.sector + done) (length (take (512 * (done + part) - 512 * done) (drop (512 * done) out)) / 512))) inv.state);
    }
