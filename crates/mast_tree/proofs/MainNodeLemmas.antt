-- A prologue has a main node: the items before it are other, and it is found.
use Rattle.std.proofs.Common.{◌≡◌, refl, ap, ◌∙◌, ℕ, Bool, true, false, if◌then◌else◌, List, [], ◌∷◌, ◌++◌}
use Rattle.std.specs.Prelude.{Option, Some, None}
use Rattle.std.specs.Str.{bytes_eq}
use Rattle.std.proofs.lemmas.Slice.Eq.{bytes_eq-Decides}
use Rattle.mast_tree.specs.Seen.{Document}
use Rattle.mast_tree.specs.declared.item.Item.{Item, out-Item}
use Rattle.mast_tree.specs.declared.item.Item.TheOpen.{Item-F}
use Rattle.mast_tree.specs.declared.token.Token.{Token}
use Rattle.mast_tree.specs.MainNode.{main_here, main_node}
use Rattle.mast_tree.specs.Prologue.{IsNode, IsOther, ArePrefixNodes, IsPrologue}
use Rattle.mast_tree.specs.Said.{said_in, string_said}
use Rattle.mast_tree.specs.Words.{word_of, text_of, line_of}

-- what a test of two words chooses
chosen_other : {A : Type 0} (is : Bool) (name word : List ℕ) (one other : A) → bytes_eq name word ≡ is → (name ≡ word → ⊥) → (if is then one else other) ≡ other
chosen_other true name word one other h apart = absurd (apart ((bytes_eq-Decides name word).0 h))
chosen_other false name word one other h apart = refl

chosen_same : {A : Type 0} (is : Bool) (name word : List ℕ) (one other : A) → bytes_eq name word ≡ is → name ≡ word → (if is then one else other) ≡ one
chosen_same true name word one other h same = refl
chosen_same false name word one other h same = let is = (bytes_eq-Decides name word).1 same in cc

string_passes : (word : List ℕ) (after : List Item) (later : Option (List Item × List Item)) (chars : List ℕ) (at : ℕ) (tag : Option ℕ) → main_here word after later (string_said chars at tag) ≡ later
string_passes word after later chars at None = refl
string_passes word after later chars at (Some t) = refl

layer_passes : (source : List ℕ) (tokens : List Token) (word : List ℕ) (after : List Item) (later : Option (List Item × List Item)) (item : Item) (layer : Item-F Item) → out-Item item ≡ layer → IsOther source tokens word item → main_here word after later (said_in source tokens layer) ≡ later
layer_passes source tokens word after later item (Item-F.Leaf t) h other = refl
layer_passes source tokens word after later item (Item-F.Iri t) h other = refl
layer_passes source tokens word after later item (Item-F.Str t tag) h other = string_passes word after later (text_of source tokens t) (line_of tokens t) tag
layer_passes source tokens word after later item (Item-F.Bind t v) h other = refl
layer_passes source tokens word after later item (Item-F.Node t inside) h other =
    chosen_other (bytes_eq (word_of source tokens t) word) (word_of source tokens t) word (Some (inside, after)) later refl (λ same. other inside (t, h, same))

layer_found : (source : List ℕ) (tokens : List Token) (word : List ℕ) (after : List Item) (later : Option (List Item × List Item)) (item : Item) (inside : List Item) → IsNode source tokens word item inside → main_here word after later (said_in source tokens (out-Item item)) ≡ Some (inside, after)
layer_found source tokens word after later item inside node =
    ap (λ layer. main_here word after later (said_in source tokens layer)) node.1
    ∙ chosen_same (bytes_eq (word_of source tokens node.0) word) (word_of source tokens node.0) word (Some (inside, after)) later refl node.2

-- behind items of which none is the main node, it is found
found_behind : (doc : Document) (word : List ℕ) (before : List Item) (table : List (List ℕ × List ℕ)) (main : Item) (inside after : List Item)
    → ArePrefixNodes doc.source doc.tokens word before table → IsNode doc.source doc.tokens word main inside
    → main_node doc word (before ++ main ∷ after) ≡ Some (inside, after)
found_behind doc word [] [] main inside after nodes node = layer_found doc.source doc.tokens word after (main_node doc word after) main inside node
found_behind doc word [] (e ∷ es) main inside after nodes node = absurd nodes
found_behind doc word (item ∷ items) [] main inside after nodes node = absurd nodes
found_behind doc word (item ∷ items) (e ∷ es) main inside after nodes node =
    layer_passes doc.source doc.tokens word (items ++ main ∷ after) (main_node doc word (items ++ main ∷ after)) item (out-Item item) refl nodes.0
    ∙ found_behind doc word items es main inside after nodes.2 node

-- a document with a prologue has a main node
pub main_is_found : (doc : Document) (word : List ℕ) (prefixes : List (List ℕ × List ℕ)) → (p : IsPrologue doc.source doc.tokens word doc.items prefixes) → main_node doc word doc.items ≡ Some (p.inside, p.after)
main_is_found doc word prefixes p = ap (λ items. main_node doc word items) p.parts ∙ found_behind doc word p.before prefixes p.main p.inside p.after p.prefixes p.node

-- and none that is not found
pub main_is_there : (doc : Document) (word : List ℕ) (prefixes : List (List ℕ × List ℕ)) → IsPrologue doc.source doc.tokens word doc.items prefixes → main_node doc word doc.items ≡ None → ⊥
main_is_there doc word prefixes p none = let found = main_is_found doc word prefixes p in cc
