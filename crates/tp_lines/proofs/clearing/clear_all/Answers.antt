use Rattle.std.proofs.Common.{◌+◌, arith}
use Rattle.tp_lines.proofs.Deleting.{all_cleared, none_cleared, one_cleared}
use Rattle.tp_lines.proofs.clearing.clear_all.Goals as goal

pub loop-i-init : goal.loop-i-init
loop-i-init g c = record { within = omega arith; empty = c.requires.empty; fits = c.requires.fits; few = omega arith; cleared = none_cleared g.D.Desk.asks c.args.desk.now }

pub loop-i-preserved : goal.loop-i-preserved
loop-i-preserved g c =
    let l = c.loop-i in
    let one = c.ask_delete-deleted.ensures.asked in
    let few = l.invariant.few in
    let most = c.ask_delete-deleted.ensures.most in
    let counted = one.3 in
    record {
      within = omega (arith, c.loop-i-test.true);
      empty = c.ask_delete-deleted.ensures.empty;
      fits = c.ask_delete-deleted.ensures.fits;
      few = omega (arith, few, most);
      cleared = one_cleared g.D.Desk.asks c.args.desk.now l.desk c.ask_delete-deleted.new.desk l.i l.deleted (l.deleted + c.ask_delete-deleted.result) one.0 l.invariant.cleared one.1 one.2 (omega (arith, counted));
    }

pub returns : goal.returns
returns g c =
    let l = c.loop-i in
    let within = l.invariant.within in
    all_cleared g.D.Desk.asks c.args.desk.now l.desk l.i l.deleted (omega (arith, within, c.loop-i-test.false)) l.invariant.cleared
