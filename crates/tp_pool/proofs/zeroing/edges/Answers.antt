use Rattle.std.proofs.Common.{◌≡◌, ◌-◌, ◌%◌, ◌<◌, ◌≤◌, ap, subst, arith}
use Rattle.tp_pool.proofs.Cut.{edges_at_start, edges_inside, edges_within}
use Rattle.tp_pool.proofs.zeroing.edges.Goals as goal

pub returns-then-past-eq0-clause-edges : goal.returns-then-past-eq0-clause-edges
returns-then-past-eq0-clause-edges c =
    let gm = c.args.geometry.now in
    let bs : c.block_sectors-block_sectors.result ≡ gm.block_sectors = c.block_sectors-block_sectors.ensures.value in
    let pos : 0 < gm.block_sectors = let within = c.block_sectors-block_sectors.ensures.within in omega (arith, within.block_least) in
    edges_at_start gm pos c.args.sector c.args.count (c.args.count % c.block_sectors-block_sectors.result) (subst (λ k. c.args.sector % k ≡ 0) bs c.if-past-eq0.true) (ap (λ k. c.args.count % k) bs)

pub returns-then-past-eq0-clause-fits : goal.returns-then-past-eq0-clause-fits
returns-then-past-eq0-clause-fits c =
    let gm = c.args.geometry.now in
    let bs : c.block_sectors-block_sectors.result ≡ gm.block_sectors = c.block_sectors-block_sectors.ensures.value in
    let pos : 0 < gm.block_sectors = let within = c.block_sectors-block_sectors.ensures.within in omega (arith, within.block_least) in
    let all = edges_at_start gm pos c.args.sector c.args.count (c.args.count % c.block_sectors-block_sectors.result) (subst (λ k. c.args.sector % k ≡ 0) bs c.if-past-eq0.true) (ap (λ k. c.args.count % k) bs) in
    all.fits

pub returns-then-count-left-clause-edges : goal.returns-then-count-left-clause-edges
returns-then-count-left-clause-edges c =
    let gm = c.args.geometry.now in
    let bs : c.block_sectors-block_sectors.result ≡ gm.block_sectors = c.block_sectors-block_sectors.ensures.value in
    let pos : 0 < gm.block_sectors = let within = c.block_sectors-block_sectors.ensures.within in omega (arith, within.block_least) in
    let past : 0 < c.args.sector % gm.block_sectors = subst (λ k. 0 < c.args.sector % k) bs (omega (arith, c.if-past-eq0.false)) in
    edges_within gm pos c.args.sector c.args.count past (subst (λ k. c.args.count ≤ k - c.args.sector % k) bs c.if-count-left.true)

pub returns-then-count-left-clause-fits : goal.returns-then-count-left-clause-fits
returns-then-count-left-clause-fits c =
    let gm = c.args.geometry.now in
    let bs : c.block_sectors-block_sectors.result ≡ gm.block_sectors = c.block_sectors-block_sectors.ensures.value in
    let pos : 0 < gm.block_sectors = let within = c.block_sectors-block_sectors.ensures.within in omega (arith, within.block_least) in
    let past : 0 < c.args.sector % gm.block_sectors = subst (λ k. 0 < c.args.sector % k) bs (omega (arith, c.if-past-eq0.false)) in
    let all = edges_within gm pos c.args.sector c.args.count past (subst (λ k. c.args.count ≤ k - c.args.sector % k) bs c.if-count-left.true) in
    all.fits

pub returns-clause-edges : goal.returns-clause-edges
returns-clause-edges c =
    let gm = c.args.geometry.now in
    let bs : c.block_sectors-block_sectors.result ≡ gm.block_sectors = c.block_sectors-block_sectors.ensures.value in
    let pos : 0 < gm.block_sectors = let within = c.block_sectors-block_sectors.ensures.within in omega (arith, within.block_least) in
    let past : 0 < c.args.sector % gm.block_sectors = subst (λ k. 0 < c.args.sector % k) bs (omega (arith, c.if-past-eq0.false)) in
    let k = c.block_sectors-block_sectors.result in
    edges_inside gm pos c.args.sector c.args.count (k - c.args.sector % k) ((c.args.count - (k - c.args.sector % k)) % k) past (ap (λ n. n - c.args.sector % n) bs) (omega (arith, c.if-count-left.false)) (ap (λ n. (c.args.count - (k - c.args.sector % k)) % n) bs)

pub returns-clause-fits : goal.returns-clause-fits
returns-clause-fits c =
    let gm = c.args.geometry.now in
    let bs : c.block_sectors-block_sectors.result ≡ gm.block_sectors = c.block_sectors-block_sectors.ensures.value in
    let pos : 0 < gm.block_sectors = let within = c.block_sectors-block_sectors.ensures.within in omega (arith, within.block_least) in
    let past : 0 < c.args.sector % gm.block_sectors = subst (λ k. 0 < c.args.sector % k) bs (omega (arith, c.if-past-eq0.false)) in
    let k = c.block_sectors-block_sectors.result in
    let all = edges_inside gm pos c.args.sector c.args.count (k - c.args.sector % k) ((c.args.count - (k - c.args.sector % k)) % k) past (ap (λ n. n - c.args.sector % n) bs) (omega (arith, c.if-count-left.false)) (ap (λ n. (c.args.count - (k - c.args.sector % k)) % n) bs) in
    all.fits
