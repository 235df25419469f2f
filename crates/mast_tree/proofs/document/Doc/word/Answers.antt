use Rattle.std.proofs.Common.{sym, ◌∙◌, subst}
use Rattle.mast_tree.specs.Words.{HasWord}
use Rattle.mast_tree.proofs.DocumentLemmas.{doc_tokens}
use Rattle.mast_tree.proofs.WordLemmas.{Taken, word_default, word_iri, has_word}
use Rattle.mast_tree.proofs.document.Doc.word.Goals as goal

pub returns-in-Iri : goal.returns-in-Iri
returns-in-Iri c =
    let d = c.args.self.now in
    let a = doc_tokens d.source.now d.tokens.now d.items d.valid in
    let taken : Taken d.source.now d.tokens.now c.args.token c.in-Some.t = record { tokens_of = a; found = sym c.token.ensures ∙ c.in-Some.is } in
    let value = word_iri d.source.now d.tokens.now c.args.token c.in-Some.t c.between-bytes.result.now c.inside.result.now c.as_text.result.now taken c.in-Iri.is c.between-bytes.ensures c.inside.ensures c.as_text.ensures.utf8 in
    record { value = value; form = subst (λ x. HasWord d.source.now d.tokens.now c.args.token x) (sym value) (has_word d.source.now d.tokens.now c.args.token a) }

pub returns-in_default : goal.returns-in_default
returns-in_default c =
    let d = c.args.self.now in
    let a = doc_tokens d.source.now d.tokens.now d.items d.valid in
    let taken : Taken d.source.now d.tokens.now c.args.token c.in-Some.t = record { tokens_of = a; found = sym c.token.ensures ∙ c.in-Some.is } in
    let value = word_default d.source.now d.tokens.now c.args.token c.in-Some.t c.between-bytes.result.now c.as_text-in_default.result.now taken c.in_default.not-Iri c.between-bytes.ensures c.as_text-in_default.ensures.utf8 in
    record { value = value; form = subst (λ x. HasWord d.source.now d.tokens.now c.args.token x) (sym value) (has_word d.source.now d.tokens.now c.args.token a) }
