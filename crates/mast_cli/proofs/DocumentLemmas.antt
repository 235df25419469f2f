-- The stage of a document has one end, where its reader has one answer on each document.
use Rattle.std.proofs.Common.{◌≡◌, ◌⊎◌, ◌<◌, ◌≤◌, inl, inr, ℕ, List, length, subst, sym, ap, ◌∙◌, refl, arith}
use Rattle.std.proofs.lemmas.Bool.{cases_lt}
use Rattle.mast_files.specs.Outside.{Contents}
use Rattle.mast_tree.proofs.LawLemmas.{has_one_tree}
use Rattle.mast_tree.proofs.TokenLawLemmas.{has_one_reading}
use Rattle.mast_tree.specs.declared.document.DocName.{DocName}
use Rattle.mast_tree.specs.declared.item.Item.{Item}
use Rattle.mast_tree.specs.declared.item.TreeBreach.{TreeBreach}
use Rattle.mast_tree.specs.declared.shape.ShapeBreach.{ShapeBreach}
use Rattle.mast_tree.specs.declared.token.LexBreach.{LexBreach}
use Rattle.mast_tree.specs.declared.token.Token.{Token}
use Rattle.mast_tree.specs.Seen.{Document}
use Rattle.mast_tree.specs.Source.{AreTokens, IsLexBreach}
use Rattle.mast_tree.specs.Trees.{IsTree, IsTreeBreach}
use Rattle.mast_write.specs.declared.refusals.Refusal.{Refusal}
use Rattle.mast_write.specs.declared.refusals.Refusal.TheVariants as refusal
use Rattle.mast_cli.specs.Limits.{document_bytes}
use Rattle.mast_cli.specs.stage.Document.{IsDocumentOf, HasValue, BytesEvent, DocumentEvent, IsDocument, DocumentStage}
use Rattle.mast_cli.proofs.FirstEventLemmas.{HasOneEnd, one_reads}

-- a reader has one value or one first breach of each document of some bytes
pub record HasOneAnswer {A : Type 0} (Has : Document → A → Type 0) (Breaks : Document → ShapeBreach → Type 0) : Type 0 where
  pub either : (d : Document) → ((x : A) × Has d x) ⊎ ((breach : ShapeBreach) × Breaks d breach)
  pub not_both : (d : Document) (x : A) (breach : ShapeBreach) → Has d x → Breaks d breach → ⊥
  pub one_value : (d : Document) (x y : A) → Has d x → Has d y → x ≡ y
  pub one_breach : (d : Document) (b c : ShapeBreach) → Breaks d b → Breaks d c → b ≡ c

-- what the tokens of bytes are
one_tokens : (bytes : List ℕ) (a b : List Token) → AreTokens bytes a → AreTokens bytes b → a ≡ b
one_tokens bytes a b h g = (has_one_reading bytes).one_list a b h g

-- bytes are one document
one_document_of : (bytes : List ℕ) (d e : Document) → IsDocumentOf bytes d → IsDocumentOf bytes e → d ≡ e
one_document_of bytes d e h g =
    let source : d.source ≡ e.source = h.source ∙ sym g.source in
    let tokens = one_tokens bytes d.tokens e.tokens h.tokens g.tokens in
    let items = (has_one_tree d.tokens).one_tree d.items e.items h.tree (subst (λ ts. IsTree ts e.items) (sym tokens) g.tree) in
    ap (λ s. let x : Document = record { source = s; tokens = d.tokens; items = d.items } in x) source
    ∙ ap (λ t. let x : Document = record { source = e.source; tokens = t; items = d.items } in x) tokens
    ∙ ap (λ i. let x : Document = record { source = e.source; tokens = e.tokens; items = i } in x) items

-- a document of these bytes, tokens and items
document_of : (bytes : List ℕ) (tokens : List Token) (items : List Item) → AreTokens bytes tokens → IsTree tokens items → (d : Document) × IsDocumentOf bytes d
document_of bytes tokens items are tree = (
  record { source = bytes; tokens = tokens; items = items },
  record { source = refl; tokens = are; tree = tree },
)

module _ {A : Type 0} (Has : Document → A → Type 0) (Breaks : Document → ShapeBreach → Type 0) (reader : HasOneAnswer Has Breaks) (name : DocName) (bytes : List ℕ) where
  abbrev Value : A → Type 0
  Value x = HasValue Has bytes x

  abbrev Event : Refusal → Type 0
  Event event = BytesEvent Breaks name bytes event

  shaped : (d : Document) → IsDocumentOf bytes d → ((x : A) × Has d x) ⊎ ((breach : ShapeBreach) × Breaks d breach) → ((x : A) × Value x) ⊎ ((event : Refusal) × Event event)
  shaped d is (inl h) = inl (h.0, (d, is, h.1))
  shaped d is (inr h) = inr (refusal.Shape name h.0, inr (inr (d, h.0, is, h.1, refl)))

  treed : (tokens : List Token) → AreTokens bytes tokens
      → ((items : List Item) × IsTree tokens items) ⊎ ((breach : TreeBreach) × IsTreeBreach tokens breach)
      → ((x : A) × Value x) ⊎ ((event : Refusal) × Event event)
  treed tokens are (inl h) = let d = document_of bytes tokens h.0 are h.1 in shaped d.0 d.1 (reader.either d.0)
  treed tokens are (inr h) = inr (refusal.Tree name h.0, inr (inl (tokens, h.0, are, h.1, refl)))

  lexed : ((tokens : List Token) × AreTokens bytes tokens) ⊎ ((breach : LexBreach) × IsLexBreach bytes breach) → ((x : A) × Value x) ⊎ ((event : Refusal) × Event event)
  lexed (inl h) = treed h.0 h.1 (has_one_tree h.0).either
  lexed (inr h) = inr (refusal.Lex name h.0, inl (h.0, h.1, refl))

  not_both : (x : A) (event : Refusal) → Value x → Event event → ⊥
  not_both x event h (inl g) = (has_one_reading bytes).not_both h.0.tokens g.0 h.1.tokens g.1
  not_both x event h (inr (inl g)) =
      let same = one_tokens bytes h.0.tokens g.0 h.1.tokens g.2 in
      (has_one_tree g.0).not_both h.0.items g.1 (subst (λ ts. IsTree ts h.0.items) same h.1.tree) g.3
  not_both x event h (inr (inr g)) =
      reader.not_both g.0 x g.1 (subst (λ d. Has d x) (one_document_of bytes h.0 g.0 h.1 g.2) h.2) g.3

  one_value : (x y : A) → Value x → Value y → x ≡ y
  one_value x y h g = reader.one_value g.0 x y (subst (λ d. Has d x) (one_document_of bytes h.0 g.0 h.1 g.1) h.2) g.2

  lex_or_tree : (a : LexBreach) (tokens : List Token) → IsLexBreach bytes a → AreTokens bytes tokens → ⊥
  lex_or_tree a tokens h g = (has_one_reading bytes).not_both tokens a g h

  tree_or_shape : (tokens : List Token) (breach : TreeBreach) (d : Document) → AreTokens bytes tokens → IsTreeBreach tokens breach → IsDocumentOf bytes d → ⊥
  tree_or_shape tokens breach d are h is =
      let same = one_tokens bytes d.tokens tokens is.tokens are in
      (has_one_tree tokens).not_both d.items breach (subst (λ ts. IsTree ts d.items) same is.tree) h

  one_event : (e f : Refusal) → Event e → Event f → e ≡ f
  one_event e f (inl h) (inl g) = h.2 ∙ ap (λ b. refusal.Lex name b) ((has_one_reading bytes).one_breach h.0 g.0 h.1 g.1) ∙ sym g.2
  one_event e f (inl h) (inr (inl g)) = absurd (lex_or_tree h.0 g.0 h.1 g.2)
  one_event e f (inl h) (inr (inr g)) = absurd (lex_or_tree h.0 g.0.tokens h.1 g.2.tokens)
  one_event e f (inr (inl h)) (inl g) = absurd (lex_or_tree g.0 h.0 g.1 h.2)
  one_event e f (inr (inl h)) (inr (inl g)) =
      let moved = subst (λ ts. IsTreeBreach ts g.1) (one_tokens bytes g.0 h.0 g.2 h.2) g.3 in
      h.4 ∙ ap (λ b. refusal.Tree name b) ((has_one_tree h.0).one_breach h.1 g.1 h.3 moved) ∙ sym g.4
  one_event e f (inr (inl h)) (inr (inr g)) = absurd (tree_or_shape h.0 h.1 g.0 h.2 h.3 g.2)
  one_event e f (inr (inr h)) (inl g) = absurd (lex_or_tree g.0 h.0.tokens g.1 h.2.tokens)
  one_event e f (inr (inr h)) (inr (inl g)) = absurd (tree_or_shape g.0 g.1 h.0 g.2 g.3 h.2)
  one_event e f (inr (inr h)) (inr (inr g)) =
      let moved = subst (λ d. Breaks d h.1) (one_document_of bytes h.0 g.0 h.2 g.2) h.3 in
      h.4 ∙ ap (λ b. refusal.Shape name b) (reader.one_breach g.0 h.1 g.1 moved g.3) ∙ sym g.4

  -- with the limit of bytes

  short_either : length bytes ≤ document_bytes name → ((x : A) × Value x) ⊎ ((event : Refusal) × Event event)
      → ((x : A) × IsDocument Has name bytes x) ⊎ ((event : Refusal) × DocumentEvent Breaks name bytes event)
  short_either short (inl h) = inl (h.0, (short, h.1))
  short_either short (inr h) = inr (h.0, inr (short, h.1))

  document_either : (document_bytes name < length bytes) ⊎ (length bytes ≤ document_bytes name)
      → ((x : A) × IsDocument Has name bytes x) ⊎ ((event : Refusal) × DocumentEvent Breaks name bytes event)
  document_either (inl long) = inr (refusal.DocBytes name, inl (long, refl))
  document_either (inr short) = short_either short (lexed (has_one_reading bytes).either)

  document_not_both : (x : A) (event : Refusal) → IsDocument Has name bytes x → DocumentEvent Breaks name bytes event → ⊥
  document_not_both x event h (inl g) = let short = h.0 in let long = g.0 in absurd (omega (short, long, arith))
  document_not_both x event h (inr g) = not_both x event h.1 g.1

  one_document_event : (e f : Refusal) → DocumentEvent Breaks name bytes e → DocumentEvent Breaks name bytes f → e ≡ f
  one_document_event e f (inl h) (inl g) = h.1 ∙ sym g.1
  one_document_event e f (inl h) (inr g) = let long = h.0 in let short = g.0 in absurd (omega (short, long, arith))
  one_document_event e f (inr h) (inl g) = let short = h.0 in let long = g.0 in absurd (omega (short, long, arith))
  one_document_event e f (inr h) (inr g) = one_event e f h.1 g.1

-- the stage of a document has one end
pub one_document : {A : Type 0} (Has : Document → A → Type 0) (Breaks : Document → ShapeBreach → Type 0) → HasOneAnswer Has Breaks
    → (name : DocName) (contents : Contents) (file : List ℕ) → HasOneEnd (DocumentStage Has Breaks name contents file)
one_document Has Breaks reader name contents file =
    let content = contents file in
    one_reads file (DocumentEvent Breaks name content) (IsDocument Has name content)
    (document_either Has Breaks reader name content (cases_lt (document_bytes name) (length content)))
    (document_not_both Has Breaks reader name content)
    (λ x y h g. one_value Has Breaks reader name content x y h.1 g.1)
    (one_document_event Has Breaks reader name content)
