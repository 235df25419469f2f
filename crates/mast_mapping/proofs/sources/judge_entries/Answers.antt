use Rattle.std.proofs.Common.{refl, sym, ap, ◌∙◌, ◌+◌, ◌∷◌, ◌++◌, [], drop}
use Rattle.mast_terms.specs.Vocabularies.{stands}
use Rattle.mast_terms.proofs.PlaceLemmas.{drop-next}
use Rattle.mast_mapping.specs.OverTables.{table_names}
use Rattle.mast_mapping.specs.Queries.{from_breach}
use Rattle.mast_mapping.proofs.QueryLemmas.{entry_unknown, entry_double, entry_right}
use Rattle.mast_mapping.proofs.sources.judge_entries.Goals as goal

pub returns-then-not-has : goal.returns-then-not-has
returns-then-not-has c =
    let l = c.loop-entry in
    let tables = c.args.tables.now in
    let entries = c.args.entries.now in
    let e = c.entry-item.result in
    let rest = drop (l.entry-index + 1) entries in
    let next = drop-next entries entries l.entry-index e refl c.loop-entry-test.true c.entry-item.is in
    let table = ap (λ x. stands x (table_names tables)) (sym c.as_str.ensures) ∙ (sym c.has.ensures ∙ c.if-not-has.true) in
    sym l.invariant ∙ (ap (λ x. from_breach tables l.aliases x) next ∙ entry_unknown tables l.aliases e rest table)

pub returns-then-has : goal.returns-then-has
returns-then-has c =
    let l = c.loop-entry in
    let tables = c.args.tables.now in
    let entries = c.args.entries.now in
    let e = c.entry-item.result in
    let rest = drop (l.entry-index + 1) entries in
    let next = drop-next entries entries l.entry-index e refl c.loop-entry-test.true c.entry-item.is in
    let table = ap (λ x. stands x (table_names tables)) (sym c.as_str.ensures) ∙ (sym c.has.ensures ∙ c.if-not-has.false) in
    let alias = ap (λ x. stands x l.aliases) (sym c.as_str-in-loop-entry.ensures) ∙ (sym c.has-in-loop-entry.ensures ∙ c.if-has.true) in
    sym l.invariant ∙ (ap (λ x. from_breach tables l.aliases x) next ∙ entry_double tables l.aliases e rest table alias)

pub loop-entry-preserved : goal.loop-entry-preserved
loop-entry-preserved c =
    let l = c.loop-entry in
    let tables = c.args.tables.now in
    let entries = c.args.entries.now in
    let e = c.entry-item.result in
    let rest = drop (l.entry-index + 1) entries in
    let next = drop-next entries entries l.entry-index e refl c.loop-entry-test.true c.entry-item.is in
    let table = ap (λ x. stands x (table_names tables)) (sym c.as_str.ensures) ∙ (sym c.has.ensures ∙ c.if-not-has.false) in
    let alias = ap (λ x. stands x l.aliases) (sym c.as_str-in-loop-entry.ensures) ∙ (sym c.has-in-loop-entry.ensures ∙ c.if-has.false) in
    let pushed = c.in_ok-push.ensures ∙ ap (λ a. l.aliases ++ a ∷ []) c.as_str-in-loop-entry-2.ensures in
    ap (λ x. from_breach tables x rest) pushed
    ∙ (sym (ap (λ x. from_breach tables l.aliases x) next ∙ entry_right tables l.aliases e rest table alias) ∙ l.invariant)
