use Rattle.std.proofs.Common.{◌≡◌, sym, ◌∙◌, subst}
use Rattle.std.proofs.lemmas.Result.{IfOk-weaker}
use Rattle.mast_source.specs.Escapes.{unescaped}
use Rattle.mast_tree.specs.Words.{text_of, HasText}
use Rattle.mast_tree.proofs.DocumentLemmas.{doc_tokens}
use Rattle.mast_tree.proofs.WordLemmas.{Taken, string_is, text_string, has_text}
use Rattle.mast_tree.proofs.document.Doc.text.Goals as goal

pub string_text-requires : goal.string_text-requires
string_text-requires c =
    let d = c.args.self.now in
    let a = doc_tokens d.source.now d.tokens.now d.items d.valid in
    let taken : Taken d.source.now d.tokens.now c.args.token c.in-Some.t = record { tokens_of = a; found = sym c.token.ensures ∙ c.in-Some.is } in
    let is = string_is d.source.now d.tokens.now c.args.token c.in-Some.t c.between-bytes.result.now c.inside.result.now taken c.in-Str.is c.between-bytes.ensures c.inside.ensures in
    record { utf8 = is.utf8; plain = is.plain }

pub returns-in-Str : goal.returns-in-Str
returns-in-Str c =
    let d = c.args.self.now in
    let a = doc_tokens d.source.now d.tokens.now d.items d.valid in
    let same = text_string d.source.now d.tokens.now c.args.token c.in-Some.t c.between-bytes.result.now c.inside.result.now (sym c.token.ensures ∙ c.in-Some.is) c.in-Str.is c.between-bytes.ensures c.inside.ensures in
    record {
      value = IfOk-weaker c.string_text.result (λ t. t ≡ unescaped c.inside.result.now) (λ t. t ≡ text_of d.source.now d.tokens.now c.args.token) (λ t e. e ∙ same) c.string_text.ensures;
      form = IfOk-weaker c.string_text.result (λ t. t ≡ unescaped c.inside.result.now) (λ t. HasText d.source.now d.tokens.now c.args.token t) (λ t e. subst (λ x. HasText d.source.now d.tokens.now c.args.token x) (sym (e ∙ same)) (has_text d.source.now d.tokens.now c.args.token a)) c.string_text.ensures;
    }
