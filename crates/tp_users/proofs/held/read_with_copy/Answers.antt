use Rattle.std.proofs.Common.{◌∙◌, ◌/◌, ◌%◌, ap, length, sym}
use Rattle.tp_users.proofs.Copies.{reads_copy}
use Rattle.tp_users.proofs.Parting.{reads}
use Rattle.tp_users.proofs.held.read_with_copy.Goals as goal

pub returns-clause-read : goal.returns-clause-read
returns-clause-read c = λ s first second shown volume copy long_second long_first.
    let one = reads c.args.pool.now c.read.new.self c.args.id c.args.sector (length c.args.of_volume.now / 512) second c.read.new.out s volume shown
    (ap (λ n. n / 512) (sym long_second)) (ap (λ n. n % 512) long_second ∙ c.requires.whole) (c.read.ensures.length ∙ sym long_second) c.in_ok-read.ensures.called in
    let long = c.requires.same ∙ sym long_first in
    let two = reads_copy c.read.new.self c.held_read.new.self c.args.id c.args.sector (length c.args.of_copy.now / 512) first c.held_read.new.out s copy one.1
    (ap (λ n. n / 512) long) (ap (λ n. n % 512) long_first ∙ c.requires.whole) (c.held_read.ensures.length ∙ long) c.in_ok-held_read.ensures.called in
    (one.0, two.0, two.1)
