-- Maps, from their source query and their heads.
use Rattle.std.proofs.Common.{◌≡◌, ap, sym, ◌∙◌, subst, ℕ, List, ◌∷◌, Some, None}
use Rattle.std.specs.Prelude.{Ok, Err}
use Rattle.mast_terms.specs.Vocabularies.{Lists}
use Rattle.mast_sql.specs.declared.query.SourceQuery.{SourceQuery}
use Rattle.mast_tables.specs.declared.declaration.TableDecl.{TableDecl}
use Rattle.mast_tree.specs.declared.item.Item.{Item}
use Rattle.mast_tree.specs.declared.shape.ShapeBreach.{ShapeBreach}
use Rattle.mast_tree.specs.declared.shape.ShapeKind.{ShapeKind}
use Rattle.mast_tree.specs.Judgements.{first_breach, AreRight}
use Rattle.mast_tree.specs.Said.{Said, text, line, said}
use Rattle.mast_mapping.specs.declared.map.Head.{Head}
use Rattle.mast_mapping.specs.Declarations.{wrong_at}
use Rattle.mast_mapping.specs.Heads.{Scope, heads_judged, AreHeads}
use Rattle.mast_mapping.specs.Maps.{query_right, query_read, query_of, outputs, parts_judged, map_judged, IsMap}
use Rattle.mast_mapping.specs.Queries.{query_breach}
use Rattle.mast_mapping.specs.Readings.{query, wrong, Texts, AreTexts, Reads}
use Rattle.mast_tree.specs.Pages.{Page}
use Rattle.mast_mapping.proofs.QueryLemmas.{reading_is}

module _ (texts : Texts) (are : AreTexts texts) (tables : List TableDecl) (s : Said) (chars given : List ℕ) (at : ℕ) (says : s ≡ text chars at) (same : given ≡ chars) where
  -- the text of a string is no source query
  pub text_wrong : (why : ShapeKind) → Reads given (wrong why) → query_of texts tables s ≡ Err (wrong_at why at)
  text_wrong why h =
      ap (query_of texts tables) says ∙ ap (query_read tables at) (reading_is texts chars (wrong why) are (subst (λ x. Reads x (wrong why)) same h))

  -- something is wrong with its source query
  pub query_wrong : (q : SourceQuery) (why : ShapeKind) → Reads given (query q) → query_breach tables q ≡ Some why → query_of texts tables s ≡ Err (wrong_at why at)
  query_wrong q why h e =
      ap (query_of texts tables) says ∙ (ap (query_read tables at) (reading_is texts chars (query q) are (subst (λ x. Reads x (query q)) same h)) ∙ ap (query_right q at) e)

  -- nothing is wrong with it
  pub query_fine : (q : SourceQuery) → Reads given (query q) → query_breach tables q ≡ None → query_of texts tables s ≡ Ok q
  query_fine q h e =
      ap (query_of texts tables) says ∙ (ap (query_read tables at) (reading_is texts chars (query q) are (subst (λ x. Reads x (query q)) same h)) ∙ ap (query_right q at) e)

module _ (texts : Texts) (page : Page) (tables : List TableDecl) (at : ℕ) (source first : Item) (rest : List Item) where
  -- the source query is wrong
  pub source_breaks : (old : Lists) (b : ShapeBreach) → query_of texts tables (said page.doc source) ≡ Err b
      → first_breach old (map_judged texts page.doc page.prefixes tables at (source ∷ (first ∷ rest))) ≡ Some b
  source_breaks old b e = ap (λ r. first_breach old (parts_judged texts page.doc page.prefixes r (first ∷ rest))) e

  -- what heads are read by
  abbrev pub scope_by : List (List ℕ) → Scope
  scope_by o = record { doc = page.doc; prefixes = page.prefixes; outputs = o; dates = texts.dates }

  module _ (q : SourceQuery) (is : query_of texts tables (said page.doc source) ≡ Ok q) (outs : List (List ℕ)) (outs_are : outs ≡ outputs q) where
    -- a head is wrong
    pub heads_break : (old : Lists) (b : ShapeBreach) → first_breach old (heads_judged (scope_by outs) (first ∷ rest)) ≡ Some b
        → first_breach old (map_judged texts page.doc page.prefixes tables at (source ∷ (first ∷ rest))) ≡ Some b
    heads_break old b e =
        ap (λ r. first_breach old (parts_judged texts page.doc page.prefixes r (first ∷ rest))) is
        ∙ (ap (λ o. first_breach old (heads_judged (scope_by o) (first ∷ rest))) (sym outs_are) ∙ e)

    -- nothing is wrong
    pub map_right : (old new : Lists) (n : ℕ) (heads : List Head) → n ≡ line (said page.doc source)
        → AreRight old (heads_judged (scope_by outs) (first ∷ rest)) new → AreHeads new (scope_by outs) (first ∷ rest) heads
        → AreRight old (map_judged texts page.doc page.prefixes tables at (source ∷ (first ∷ rest))) new
        × IsMap new texts page.doc page.prefixes tables (source ∷ (first ∷ rest)) (record { line = n; query = q; heads = heads })
    map_right old new n heads l right are = (
      subst (λ r. AreRight old (parts_judged texts page.doc page.prefixes r (first ∷ rest)) new) (sym is)
          (subst (λ o. AreRight old (heads_judged (scope_by o) (first ∷ rest)) new) outs_are right),
      (l, is, subst (λ o. AreHeads new (scope_by o) (first ∷ rest) heads) outs_are are),
    )
