-- There are no more tokens than bytes; the breach is that of the bytes' tokens.
use Rattle.std.proofs.Common.{refl, arith}
use Rattle.mast_tree.specs.declared.document.Doc.{Doc}
use Rattle.mast_tree.specs.Seen.{seen}
use Rattle.mast_tree.specs.Trees.{IsTree, IsTreeBreach}
use Rattle.mast_write.specs.declared.refusals.Refusal.TheVariants as refusal
use Rattle.mast_cli.specs.stage.Document.{IsDocumentOf, IsGrammatical}
use Rattle.mast_cli.proofs.TellingLemmas.{ends_bytes, refusal_of}
use Rattle.mast_cli.proofs.TokensLemmas.{tokens_few}
use Rattle.mast_cli.proofs.document.tree_of.Goals as goal

pub read_doc-requires : goal.read_doc-requires
read_doc-requires c =
    let few = tokens_few c.args.bytes.now c.args.tokens.now c.requires.tokens in
    record { tokens = c.requires.tokens; size = omega (few, c.requires.few, arith) }

pub returns-in-Err-Named : goal.returns-in-Err-Named
returns-in-Err-Named c =
    let bytes = c.args.bytes.now in
    let tokens = c.args.tokens.now in
    let stopped = c.in-Err-Named in
    let breach = refusal_of (λ (doc : Doc). IsTree tokens doc.items) (IsTreeBreach tokens) stopped.field-0 stopped.breach stopped.field-0-is stopped.ensures.tree in
    ends_bytes (λ (doc : Doc). IsDocumentOf bytes (seen doc)) (IsGrammatical c.args.doc bytes) (refusal.Tree c.args.doc stopped.breach) c.ended_at.result
    (tokens, stopped.breach, c.requires.tokens, breach, refl) c.ended_at.ensures
