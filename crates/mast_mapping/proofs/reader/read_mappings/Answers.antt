use Rattle.std.proofs.Common.{sym, subst}
use Rattle.mast_tree.specs.Seen.{seen}
use Rattle.mast_mapping.specs.Documents.{SaysMappings}
use Rattle.mast_mapping.specs.OverTables.{AreOverTables}
use Rattle.mast_mapping.proofs.TextLemmas.{the_texts, are_texts}
use Rattle.mast_mapping.proofs.WholeLemmas.{mappings_of, whole_says, inside_breaks, after_breaks, says_begins, says_constants, says_over, says_names}
use Rattle.mast_mapping.proofs.StopLemmas.{stopped}
use Rattle.mast_mapping.proofs.reader.read_mappings.Goals as goal

pub returns-in_err-vocab-clause-exact : goal.returns-in_err-vocab-clause-exact
returns-in_err-vocab-clause-exact c = λ texts are.
    let parts = c.in_ok-parts.parts in
    stopped _ _ _ _ c.from_residual-in_err-vocab.result c.in_err-vocab.field-0.0 c.from_residual-in_err-vocab.ensures.1
    (λ b e. inside_breaks texts (seen c.args.doc.now) c.args.vocab parts.prefixes parts.inside.now parts.after.now c.in_ok-parts.ensures b e)
    (c.in_err-vocab.ensures texts are)

pub returns-in_err-nothing_after-clause-exact : goal.returns-in_err-nothing_after-clause-exact
returns-in_err-nothing_after-clause-exact c = λ texts are.
    let parts = c.in_ok-parts.parts in
    let read = c.in_ok-vocab.field-0 in
    stopped _ _ _ _ c.from_residual-in_err-nothing_after.result c.in_err-nothing_after.field-0.0 c.from_residual-in_err-nothing_after.ensures.1
    (λ b e. after_breaks texts (seen c.args.doc.now) c.args.vocab parts.prefixes parts.inside.now parts.after.now c.in_ok-parts.ensures read b (c.in_ok-vocab.ensures texts are) e)
    (c.in_err-nothing_after.ensures read.vocab)

pub returns-clause-exact : goal.returns-clause-exact
returns-clause-exact c = λ texts are.
    let parts = c.in_ok-parts.parts in
    let read = c.in_ok-vocab.field-0 in
    let says = whole_says texts (seen c.args.doc.now) c.args.vocab parts.prefixes parts.inside.now parts.after.now c.in_ok-parts.ensures read
    (c.in_ok-vocab.ensures texts are) (c.in_ok-nothing_after.ensures read.vocab).0 in
    subst (λ ts. SaysMappings texts (seen c.args.doc.now) c.args.vocab (record { vocab = read.vocab; tables = ts; maps = read.maps })) (sym c.into_tables.ensures) says

pub returns-clause-begins : goal.returns-clause-begins
returns-clause-begins c =
    let parts = c.in_ok-parts.parts in
    let read = c.in_ok-vocab.field-0 in
    says_begins the_texts (seen c.args.doc.now) c.args.vocab (mappings_of read)
    (whole_says the_texts (seen c.args.doc.now) c.args.vocab parts.prefixes parts.inside.now parts.after.now c.in_ok-parts.ensures read
    (c.in_ok-vocab.ensures the_texts are_texts) (c.in_ok-nothing_after.ensures read.vocab).0)

pub returns-clause-constants : goal.returns-clause-constants
returns-clause-constants c =
    let parts = c.in_ok-parts.parts in
    let read = c.in_ok-vocab.field-0 in
    says_constants the_texts (seen c.args.doc.now) c.args.vocab (mappings_of read)
    (whole_says the_texts (seen c.args.doc.now) c.args.vocab parts.prefixes parts.inside.now parts.after.now c.in_ok-parts.ensures read
    (c.in_ok-vocab.ensures the_texts are_texts) (c.in_ok-nothing_after.ensures read.vocab).0)

pub returns-clause-over : goal.returns-clause-over
returns-clause-over c =
    let parts = c.in_ok-parts.parts in
    let read = c.in_ok-vocab.field-0 in
    subst (λ ts. AreOverTables ts read.maps) (sym c.into_tables.ensures)
    (says_over the_texts (seen c.args.doc.now) c.args.vocab (mappings_of read)
    (whole_says the_texts (seen c.args.doc.now) c.args.vocab parts.prefixes parts.inside.now parts.after.now c.in_ok-parts.ensures read
    (c.in_ok-vocab.ensures the_texts are_texts) (c.in_ok-nothing_after.ensures read.vocab).0))

pub returns-clause-names : goal.returns-clause-names
returns-clause-names c =
    let parts = c.in_ok-parts.parts in
    let read = c.in_ok-vocab.field-0 in
    says_names the_texts (seen c.args.doc.now) c.args.vocab (mappings_of read)
    (whole_says the_texts (seen c.args.doc.now) c.args.vocab parts.prefixes parts.inside.now parts.after.now c.in_ok-parts.ensures read
    (c.in_ok-vocab.ensures the_texts are_texts) (c.in_ok-nothing_after.ensures read.vocab).0)
