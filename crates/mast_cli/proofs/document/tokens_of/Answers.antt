-- The breach is that of the bytes.
use Rattle.std.proofs.Common.{refl}
use Rattle.mast_tree.specs.Source.{AreTokens, IsLexBreach}
use Rattle.mast_write.specs.declared.refusals.Refusal.TheVariants as refusal
use Rattle.mast_cli.specs.stage.Document.{IsLexical}
use Rattle.mast_cli.proofs.TellingLemmas.{ends_bytes, refusal_of}
use Rattle.mast_cli.proofs.document.tokens_of.Goals as goal

pub returns-in-Err-Named : goal.returns-in-Err-Named
returns-in-Err-Named c =
    let bytes = c.args.bytes.now in
    let stopped = c.in-Err-Named in
    let breach = refusal_of (AreTokens bytes) (IsLexBreach bytes) stopped.field-0 stopped.breach stopped.field-0-is stopped.ensures in
    ends_bytes (AreTokens bytes) (IsLexical c.args.doc bytes) (refusal.Lex c.args.doc stopped.breach) c.ended_at.result (stopped.breach, breach, refl) c.ended_at.ensures
