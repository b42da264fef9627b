use Rattle.std.proofs.Common.{◌≡◌, ◌≢◌, ◌∙◌, rules, sym, true}
use Rattle.std.proofs.lemmas.Bool.{false≢true}
use Rattle.tp_tasks.specs.CommandLine.{is_binary}
use Rattle.tp_tasks.proofs.Decimals.{no_decimal, size_among, some_power}
use Rattle.tp_tasks.proofs.creating.size_in.Goals as goal
use Rattle.tp_tasks.proofs.creating.size_in.Goals.{else-is_binary-via-then-is_binary+else-unit-eq1, else-is_binary-via-else-is_binary}

pub returns-in_err-count : goal.returns-in_err-count
returns-in_err-count c =
    let short = c.without_binary-is_binary.result.1.now in
    let lacks = no_decimal c.args.text.now short c.digits_of.result.now c.without_binary-is_binary.ensures.short (c.digits_of.ensures c.last_byte-letter.ensures) c.in_err-count.ensures in
    search (rules, lacks)

pub scaled-requires : goal.scaled-requires
scaled-requires c = some_power c.digits_of.result.now c.in_ok-count.count c.in_ok-count.power c.in_ok-count.ensures

pub returns : goal.returns
returns c =
    let short = c.without_binary-is_binary.result.1.now in
    let binary : is_binary c.args.text.now ≡ true → c.unit_of-unit.result ≢ 1 =
    elim c.else-is_binary.branch [ else-is_binary-via-then-is_binary+else-unit-eq1 w ↦ λ is. w.if-unit-eq1.false | else-is_binary-via-else-is_binary w ↦ λ is. absurd (false≢true (sym w.if-is_binary.false ∙ (c.without_binary-is_binary.ensures.binary ∙ is))) ] in
    size_among c.args.text.now short c.digits_of.result.now c.last_byte-letter.result c.unit_of-unit.result c.in_ok-count.count c.in_ok-count.power c.scaled.result
    c.without_binary-is_binary.ensures.short c.last_byte-letter.ensures c.unit_of-unit.ensures (c.digits_of.ensures c.last_byte-letter.ensures) binary c.in_ok-count.ensures c.scaled.ensures
