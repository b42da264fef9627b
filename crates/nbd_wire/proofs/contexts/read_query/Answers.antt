use Rattle.std.proofs.Common.{rules, ◌∙◌, ℕ, List, length, ap, sym, arith}
use Rattle.nbd_wire.specs.Contexts.{IsQuery, asks_for, lists, since_of}
use Rattle.nbd_wire.proofs.Queries.{no_name, no_count, no_queries, one_query, query_found}
use Rattle.nbd_wire.proofs.contexts.read_query.Goals as goal

pub returns-in_err-name-clause-none : goal.returns-in_err-name-clause-none
returns-in_err-name-clause-none c =
    let none : (name : List ℕ) (queries : List (List ℕ)) → IsQuery c.args.payload.now name queries → ⊥ = no_name c.args.payload.now c.in_err-name.ensures in
    search (rules, none)

pub returns-in_err-count-clause-none : goal.returns-in_err-count-clause-none
returns-in_err-count-clause-none c =
    let none : (name : List ℕ) (queries : List (List ℕ)) → IsQuery c.args.payload.now name queries → ⊥ =
    no_count c.args.payload.now (omega (arith, ap length c.in_ok-name.ensures.2, c.in_err-count.ensures)) in
    search (rules, none)

pub returns-in_err-said-clause-none : goal.returns-in_err-said-clause-none
returns-in_err-said-clause-none c =
    let none : (name : List ℕ) (queries : List (List ℕ)) → IsQuery c.args.payload.now name queries → ⊥ =
    no_queries c.args.payload.now c.in_ok-name.rest.now c.in_ok-count.text.now c.in_ok-count.count c.in_ok-name.ensures.2 c.in_ok-count.ensures.1 c.in_ok-count.ensures.2
    (sym c.in_err-said.ensures) in
    search (rules, none)

pub returns-clause-found : goal.returns-clause-found
returns-clause-found c =
    query_found c.args.payload.now c.in_ok-name.name.now c.in_ok-name.rest.now c.in_ok-count.text.now c.in_ok-count.count c.in_ok-said.said.asks c.in_ok-said.said.all c.in_ok-said.said.since.now
    (λ i. omega (arith, c.type_inv.payload i)) c.in_ok-name.ensures.0 c.in_ok-name.ensures.1 c.in_ok-name.ensures.2 c.in_ok-count.ensures.0 c.in_ok-count.ensures.1
    c.in_ok-count.ensures.2 (sym c.in_ok-said.ensures)

pub returns-clause-again : goal.returns-clause-again
returns-clause-again c = λ name queries is.
    let found =
    query_found c.args.payload.now c.in_ok-name.name.now c.in_ok-name.rest.now c.in_ok-count.text.now c.in_ok-count.count c.in_ok-said.said.asks c.in_ok-said.said.all c.in_ok-said.said.since.now
    (λ i. omega (arith, c.type_inv.payload i)) c.in_ok-name.ensures.0 c.in_ok-name.ensures.1 c.in_ok-name.ensures.2 c.in_ok-count.ensures.0 c.in_ok-count.ensures.1
    c.in_ok-count.ensures.2 (sym c.in_ok-said.ensures) in
    let same = one_query c.args.payload.now c.in_ok-name.name.now name found.0 queries found.1 is in
    (same.0, found.2 ∙ ap asks_for same.1, found.3 ∙ ap lists same.1, found.4 ∙ ap since_of same.1)
