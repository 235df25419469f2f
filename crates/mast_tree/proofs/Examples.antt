-- Worked inputs: what the definitions say of them.
use Rattle.std.proofs.Common.{◌≡◌, ℕ, zero, suc, List, ◌∷◌, [], refl, subst, inr, drop}
use Rattle.std.specs.Prelude.{Ok, Err, codes}
use Rattle.std.specs.Str.{IsUtf8, is_utf8, chars}
use lib.Utf8.{encode}
use Rattle.std.proofs.lemmas.Str.{IsUtf8-from_is_utf8}
use Rattle.mast_source.specs.Bom.{bom_length}
use Rattle.mast_tree.specs.declared.item.Item.{Item}
use Rattle.mast_tree.specs.declared.item.Item.TheVariants as item
use Rattle.mast_tree.specs.declared.shape.ShapeKind.TheVariants.{Shape, UnknownPrefix}
use Rattle.mast_tree.specs.declared.token.LexBreach.{LexBreach}
use Rattle.mast_tree.specs.declared.token.LexKind.TheVariants.{Character, Escape, OpenIri}
use Rattle.mast_tree.specs.declared.token.Token.{Token}
use Rattle.mast_tree.specs.declared.token.TokenKind.{TokenKind}
use Rattle.mast_tree.specs.declared.token.TokenKind.TheVariants.{Open, Close, Equals, Carets, Lang, Iri, Name, Str}
use Rattle.mast_tree.specs.Grammar.{fine, unexpected, DeepAt, Tells}
use Rattle.mast_tree.specs.Prefixes.{iri_of}
use Rattle.mast_tree.specs.Prologue.{IsPrologue, IsPrologueBreach}
use Rattle.mast_tree.specs.Source.{AreTokens, IsLexBreach}
use Rattle.mast_tree.specs.Tokens.{is_name, is_lang, is_iri, is_blank}
use Rattle.mast_tree.specs.Words.{text_of}
use Rattle.mast_tree.specs.inside.Lexed.{read, wrong, reading}
use Rattle.mast_tree.proofs.LookLemmas.{look_exact}
use Rattle.mast_tree.proofs.PrologueLemmas.{prologue_tells}
use Rattle.mast_tree.proofs.SourceLemmas.{Told}
use Rattle.mast_tree.proofs.TokenLawLemmas.{reading_told}

abbrev token : TokenKind → ℕ → ℕ → ℕ → Token
token kind from to line = record { kind = kind; from = from; to = to; line = line }

-- what a source reads as are its tokens
tokens_of : (source : List ℕ) (tokens : List Token) → IsUtf8 source → reading source ≡ read tokens → AreTokens source tokens
tokens_of source tokens u e = (u, subst (λ l. Told (bom_length source) 1 (drop (bom_length source) source) l) e (reading_told source))

-- where it stops reading is its first lexical breach
breach_of : (source : List ℕ) (breach : LexBreach) → IsUtf8 source → reading source ≡ wrong breach → IsLexBreach source breach
breach_of source breach u e = let t = subst (λ l. Told (bom_length source) 1 (drop (bom_length source) source) l) e (reading_told source) in inr (u, t.0, t.1)

-- a name takes all its characters, and a comment goes up to the end
pub a_node : AreTokens (codes "A(:b=<c>)#)") (token Name 0 1 1 ∷ token Open 1 2 1 ∷ token Name 2 4 1 ∷ token Equals 4 5 1 ∷ token Iri 5 8 1 ∷ token Close 8 9 1 ∷ [])
unfolding is_utf8 chars encode is_name is_lang is_iri is_blank
a_node = tokens_of (codes "A(:b=<c>)#)") _ (IsUtf8-from_is_utf8 (codes "A(:b=<c>)#)") refl) refl

-- a string goes up to the quote that no backslash stands before, and its language begins with `@`
pub a_string : AreTokens (codes "\"\\\"\"@en-1 \"\"^^x") (token Str 0 4 1 ∷ token Lang 4 9 1 ∷ token Str 10 12 1 ∷ token Carets 12 14 1 ∷ token Name 14 15 1 ∷ [])
unfolding is_utf8 chars encode is_name is_lang is_iri is_blank
a_string = tokens_of (codes "\"\\\"\"@en-1 \"\"^^x") _ (IsUtf8-from_is_utf8 (codes "\"\\\"\"@en-1 \"\"^^x") refl) refl

-- its text has neither its quotes nor its escapes
pub a_text : text_of (codes "\"\\\"\"@en-1 \"\"^^x") (token Str 0 4 1 ∷ []) 0 ≡ codes "\""
a_text = refl

-- an open string with a bad escape is judged by the escape
pub a_bad_escape : IsLexBreach (codes "a \"b\\c") (record { at = 4; kind = Escape })
unfolding is_utf8 chars encode is_name is_lang is_iri is_blank
a_bad_escape = breach_of (codes "a \"b\\c") (record { at = 4; kind = Escape }) (IsUtf8-from_is_utf8 (codes "a \"b\\c") refl) refl

-- a blank may not stand in an IRI, and the breach is at its bracket
pub a_blank_in_an_iri : IsLexBreach (codes "a <b c>") (record { at = 2; kind = OpenIri })
unfolding is_utf8 chars encode is_name is_lang is_iri is_blank
a_blank_in_an_iri = breach_of (codes "a <b c>") (record { at = 2; kind = OpenIri }) (IsUtf8-from_is_utf8 (codes "a <b c>") refl) refl

-- `^` without a second one begins no token
pub one_caret : IsLexBreach (codes "a ^b") (record { at = 2; kind = Character })
unfolding is_utf8 chars encode is_name is_lang is_iri is_blank
one_caret = breach_of (codes "a ^b") (record { at = 2; kind = Character }) (IsUtf8-from_is_utf8 (codes "a ^b") refl) refl

-- a binding inside a node, and a string with its type
pub a_document : Tells (Name ∷ Open ∷ Name ∷ Equals ∷ Iri ∷ Close ∷ Str ∷ Carets ∷ Iri ∷ []) fine
a_document = look_exact (Name ∷ Open ∷ Name ∷ Equals ∷ Iri ∷ Close ∷ Str ∷ Carets ∷ Iri ∷ [])

-- a name is bound to an IRI alone
pub a_name_for_an_iri : Tells (Name ∷ Equals ∷ Name ∷ []) (unexpected 2)
a_name_for_an_iri = look_exact (Name ∷ Equals ∷ Name ∷ [])

-- a parenthesis that is not closed is unexpected at the end
pub an_open_end : Tells (Name ∷ Open ∷ Name ∷ []) (unexpected 3)
an_open_end = look_exact (Name ∷ Open ∷ Name ∷ [])

abbrev opens : ℕ → List TokenKind
opens zero = []
opens (suc n) = Name ∷ Open ∷ opens n

-- the 65th parenthesis that is open at a time is one too many
pub the_65th : DeepAt (opens 65) 129
the_65th = (refl, refl)

abbrev prefix_source : List ℕ
prefix_source = codes "Prefix(:=<x>) Ontology()"

abbrev prefix_tokens : List Token
prefix_tokens = token Name 0 6 1 ∷ token Open 6 7 1 ∷ token Name 7 8 1 ∷ token Equals 8 9 1 ∷ token Iri 9 12 1 ∷ token Close 12 13 1 ∷ token Name 14 22 1 ∷ token Open 22 23 1 ∷ token Close 23 24 1 ∷ []

abbrev prefix_node : Item
prefix_node = item.Node 0 (item.Bind 2 4 ∷ [])

-- a prefix is known without its colon
pub a_prefix : IsPrologue prefix_source prefix_tokens (codes "Ontology") (prefix_node ∷ item.Node 6 [] ∷ []) (([], codes "x") ∷ [])
unfolding Rattle.mast_tree.specs.declared.item.Item.TheViews.out-Item denote.Hole.Carrier.out Rattle.mast_tree.specs.declared.item.Item.TheBlock.shown-the_row-Item-Node-1-1-1 denote.Hole.Carrier.shown denote.Hole.Carrier.hidden
a_prefix = prologue_tells prefix_source prefix_tokens (codes "Ontology") (prefix_node ∷ item.Node 6 [] ∷ [])

-- no second node binds it
pub a_second_node : IsPrologueBreach prefix_source prefix_tokens (codes "Ontology") (prefix_node ∷ prefix_node ∷ []) (record { line = 1; kind = Shape })
unfolding Rattle.mast_tree.specs.declared.item.Item.TheViews.out-Item denote.Hole.Carrier.out Rattle.mast_tree.specs.declared.item.Item.TheBlock.shown-the_row-Item-Node-1-1-1 denote.Hole.Carrier.shown denote.Hole.Carrier.hidden
a_second_node = prologue_tells prefix_source prefix_tokens (codes "Ontology") (prefix_node ∷ prefix_node ∷ [])

-- a name is what its prefix stands for and what follows the first colon
pub a_name : iri_of (codes ":a:b") (token Name 0 4 1 ∷ []) (([], codes "x") ∷ []) (item.Leaf 0) ≡ Ok (codes "xa:b")
unfolding Rattle.mast_tree.specs.declared.item.Item.TheViews.out-Item denote.Hole.Carrier.out
a_name = refl

-- a prefix that no node binds and that is none of the four is not known
pub an_unknown_prefix : iri_of (codes "c:a") (token Name 0 3 7 ∷ []) (([], codes "x") ∷ []) (item.Leaf 0) ≡ Err (record { line = 7; kind = UnknownPrefix })
unfolding Rattle.mast_tree.specs.declared.item.Item.TheViews.out-Item denote.Hole.Carrier.out
an_unknown_prefix = refl
