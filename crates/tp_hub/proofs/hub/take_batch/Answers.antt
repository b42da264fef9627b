use Rattle.std.proofs.Common.{List, zero, sym, subst, arith}
use Rattle.tp_hub.specs.declared.event.Event.{Event}
use Rattle.tp_hub.specs.Told.{Answer}
use Rattle.tp_hub.specs.Runs.{Incoming, incoming}
use Rattle.tp_hub.specs.Desks.{IsAsked, RunsSo}
use Rattle.tp_hub.specs.Parts.{IsInBatch}
use Rattle.tp_hub.specs.Serving.{sessions_of}
use Rattle.tp_hub.proofs.Fronts.{all_front, front_few, part_of_front, whole_front}
use Rattle.tp_hub.proofs.hub.take_batch.Goals as goal

pub returns-then-count-piece-clause-asked : goal.returns-then-count-piece-clause-asked
returns-then-count-piece-clause-asked g c =
    let did = c.take_one-ran in
    let Did = λ (took : List Incoming) (answers : List Answer). RunsSo g.V.Volumes.view (sessions_of c.args.sessions.now) c.args.pool.now took answers (sessions_of did.new.sessions) did.new.pool in
    subst (λ (e : Event). IsAsked Did (incoming e) did.result.events did.result.bytes c.args.out.now did.new.out) (sym c.in-Parted.is)
    (all_front Did c.in-Parted.number c.in-Parted.piece.now c.args.out.now did.new.out c.batch_len-count.result did.result.events did.result.bytes c.if-count-piece.true did.ensures.asked)

pub returns-then-count-piece-clause-few : goal.returns-then-count-piece-clause-few
returns-then-count-piece-clause-few g c =
    let did = c.take_one-ran in
    let Did = λ (took : List Incoming) (answers : List Answer). RunsSo g.V.Volumes.view (sessions_of c.args.sessions.now) c.args.pool.now took answers (sessions_of did.new.sessions) did.new.pool in
    subst (λ (e : Event). IsInBatch (sessions_of c.args.sessions.now) e did.result.events did.result.bytes) (sym c.in-Parted.is) (
      c.batch_len-count.result,
      c.batch_len-count.ensures.few,
      front_few Did c.in-Parted.number c.in-Parted.piece.now c.args.out.now did.new.out c.batch_len-count.result did.result.events did.result.bytes c.batch_len-count.ensures.most (λ some. c.if-count-piece.true) did.ensures.asked,
    )

pub returns-then-ran-eq0-clause-asked : goal.returns-then-ran-eq0-clause-asked
returns-then-ran-eq0-clause-asked g c =
    let did = c.take_one-ran in
    let Did = λ (took : List Incoming) (answers : List Answer). RunsSo g.V.Volumes.view (sessions_of c.args.sessions.now) c.args.pool.now took answers (sessions_of did.new.sessions) did.new.pool in
    subst (λ (e : Event). IsAsked Did (incoming e) did.result.events did.result.bytes c.args.out.now did.new.out) (sym c.in-Parted.is)
    (part_of_front Did c.in-Parted.number c.in-Parted.piece.now c.args.out.now did.new.out c.batch_len-count.result did.result.events did.result.bytes c.batch_len-count.ensures.most c.if-ran-eq0.true did.ensures.asked)

pub returns-then-ran-eq0-clause-few : goal.returns-then-ran-eq0-clause-few
returns-then-ran-eq0-clause-few g c =
    let did = c.take_one-ran in
    let Did = λ (took : List Incoming) (answers : List Answer). RunsSo g.V.Volumes.view (sessions_of c.args.sessions.now) c.args.pool.now took answers (sessions_of did.new.sessions) did.new.pool in
    subst (λ (e : Event). IsInBatch (sessions_of c.args.sessions.now) e did.result.events did.result.bytes) (sym c.in-Parted.is) (
      c.batch_len-count.result,
      c.batch_len-count.ensures.few,
      front_few Did c.in-Parted.number c.in-Parted.piece.now c.args.out.now did.new.out c.batch_len-count.result did.result.events did.result.bytes c.batch_len-count.ensures.most (λ some. absurd (omega (arith, some, c.if-ran-eq0.true))) did.ensures.asked,
    )

pub returns-else-ran-eq0-clause-asked : goal.returns-else-ran-eq0-clause-asked
returns-else-ran-eq0-clause-asked g c =
    let did = c.take_one-ran in
    let Did = λ (took : List Incoming) (answers : List Answer). RunsSo g.V.Volumes.view (sessions_of c.args.sessions.now) c.args.pool.now took answers (sessions_of did.new.sessions) did.new.pool in
    subst (λ (e : Event). IsAsked Did (incoming e) 0 c.batch_len-count.result c.args.out.now did.new.out) (sym c.in-Parted.is)
    (whole_front Did c.in-Parted.number c.in-Parted.piece.now c.args.out.now did.new.out c.batch_len-count.result did.result.events did.result.bytes (c.batch_len-count.ensures.some (omega (arith, c.if-count-piece.false))) (omega (arith, c.if-count-piece.false))
    (omega (arith, c.if-ran-eq0.false)) did.ensures.asked)

pub returns-else-ran-eq0-clause-few : goal.returns-else-ran-eq0-clause-few
returns-else-ran-eq0-clause-few g c =
    subst (λ (e : Event). IsInBatch (sessions_of c.args.sessions.now) e zero c.batch_len-count.result) (sym c.in-Parted.is)
    (c.batch_len-count.result, c.batch_len-count.ensures.few, omega arith)
