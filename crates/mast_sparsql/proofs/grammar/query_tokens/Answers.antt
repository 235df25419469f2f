use Rattle.mast_sparsql.proofs.PassLemmas.{few_terminals, query_none, query_some}
use Rattle.mast_sparsql.proofs.grammar.query_tokens.Goals as goal

pub first_breach-requires : goal.first_breach-requires
first_breach-requires c =
    record {
      size = few_terminals c.args.source.now c.in_ok-tokens.tokens c.as_slice.result.now c.in_ok-terminals.terminals c.as_slice-2.result.now c.as_slice.ensures c.in_ok-tokens.ensures c.in_ok-terminals.ensures c.as_slice-2.ensures c.requires.size;
    }

pub returns-in-None : goal.returns-in-None
returns-in-None c =
    query_none c.args.source.now c.in_ok-tokens.tokens c.as_slice.result.now c.in_ok-terminals.terminals c.as_slice-2.result.now c.in_ok-first_breach.field-0 c.as_slice.ensures c.in_ok-tokens.ensures c.in_ok-terminals.ensures c.as_slice-2.ensures c.in_ok-first_breach.ensures c.in-None.is

pub returns-in-Some : goal.returns-in-Some
returns-in-Some c =
    query_some c.args.source.now c.in_ok-tokens.tokens c.as_slice.result.now c.in_ok-terminals.terminals c.as_slice-2.result.now c.in_ok-first_breach.field-0 c.in-Some.first c.breach_of.result c.as_slice.ensures c.in_ok-tokens.ensures c.in_ok-terminals.ensures c.as_slice-2.ensures c.in_ok-first_breach.ensures c.in-Some.is c.breach_of.ensures
