-- Right sides that are opened: what the recursion on the tree comes to at each item.
use Rattle.std.proofs.Common.{◌≡◌, refl, sym, ap, subst, ◌∙◌, append_assoc, ℕ, Option, Some, None, List, [], ◌∷◌, ◌++◌, map}
use Rattle.std.specs.List.{flat_map}
use Rattle.mast_tree.specs.declared.item.Item.{Item, out-Item, roll-Item, roll-out-Item, para-Item, para-roll-Item}
use Rattle.mast_tree.specs.declared.item.Item.TheOpen.{Item-F}
use Rattle.mast_tree.specs.declared.item.Item.TheVariants as item
use Rattle.mast_tree.specs.Pages.{Page, says}
use Rattle.mast_onto.specs.Rights.{PartForm, part_form, both_forms, intersection, opened, given, right_layer, right_forms}

module _ (page : Page) where
  -- what gives the parts of an item
  abbrev gives : Item → Item → List PartForm
  gives = para-Item (Item → List PartForm) (right_layer page)

  -- an item beside that
  abbrev beside : Item → Item × (Item → List PartForm)
  beside it = (it, gives it)

  -- the parts of each
  each : (items : List Item) → flat_map given (map beside items) ≡ flat_map (right_forms page) items
  each [] = refl
  each (it ∷ items) = ap (λ more. right_forms page it ++ more) (each items)

  -- those of two or more
  both : (at : ℕ) (items : List Item) → both_forms given at (map beside items) ≡ both_forms (right_forms page) at items
  both at [] = refl
  both at (only ∷ []) = refl
  both at (first ∷ second ∷ more) = each (first ∷ second ∷ more)

  -- those of a node
  of_node : (it : Item) (items : List Item) (read : Option ℕ) → opened page given it (map beside items) read ≡ opened page (right_forms page) it items read
  of_node it items None = refl
  of_node it items (Some at) = both at items

  -- an item with a layer
  with_layer : (it : Item) (layer : Item-F Item) → it ≡ roll-Item layer → right_forms page it ≡ gives (roll-Item layer) it
  with_layer it layer e = ap (λ x. gives x it) e

  -- a node is opened
  pub node_opens : (it : Item) (token : ℕ) (items : List Item) (read : Option ℕ) → it ≡ item.Node token items → intersection (says page it) ≡ read →
      opened page (right_forms page) it items read ≡ right_forms page it
  node_opens it token items read e h =
      let opens = with_layer it (Item-F.Node token items) (e ∙ sym (item.rolls-Node token items)) in
      let step = ap (λ f. f it) (para-roll-Item (Item → List PartForm) (right_layer page) (Item-F.Node token items)) in
      sym (opens ∙ (step ∙ (of_node it items (intersection (says page it)) ∙ ap (λ r. opened page (right_forms page) it items r) h)))

  -- another item is one part, by its layer
  one_part : (it : Item) (layer : Item-F Item) → it ≡ roll-Item layer → ((token : ℕ) (items : List Item) → it ≡ item.Node token items → ⊥) →
      right_forms page it ≡ part_form page it ∷ []
  one_part it (Item-F.Leaf t) e apart =
      with_layer it (Item-F.Leaf t) e ∙ ap (λ f. f it) (para-roll-Item (Item → List PartForm) (right_layer page) (Item-F.Leaf t))
  one_part it (Item-F.Iri t) e apart =
      with_layer it (Item-F.Iri t) e ∙ ap (λ f. f it) (para-roll-Item (Item → List PartForm) (right_layer page) (Item-F.Iri t))
  one_part it (Item-F.Str t tag) e apart =
      with_layer it (Item-F.Str t tag) e ∙ ap (λ f. f it) (para-roll-Item (Item → List PartForm) (right_layer page) (Item-F.Str t tag))
  one_part it (Item-F.Bind t iri) e apart =
      with_layer it (Item-F.Bind t iri) e ∙ ap (λ f. f it) (para-roll-Item (Item → List PartForm) (right_layer page) (Item-F.Bind t iri))
  one_part it (Item-F.Node t items) e apart = absurd (apart t items (e ∙ item.rolls-Node t items))

  -- an item that is no node is one part
  pub leaf_stays : (it : Item) → ((token : ℕ) (items : List Item) → it ≡ item.Node token items → ⊥) → part_form page it ∷ [] ≡ right_forms page it
  leaf_stays it apart = sym (one_part it (out-Item it) (sym (roll-out-Item it)) apart)

-- the parts of the next item stand behind those before
pub goes_on : (forms : Item → List PartForm) (before now whole : List PartForm) (it : Item) (left rest : List Item) →
    now ≡ before ++ forms it → left ≡ it ∷ rest →
    before ++ flat_map forms left ≡ whole → now ++ flat_map forms rest ≡ whole
goes_on forms before now whole it left rest e next h =
    ap (λ parts. parts ++ flat_map forms rest) e
    ∙ (append_assoc before (forms it) (flat_map forms rest) ∙ subst (λ items. before ++ flat_map forms items ≡ whole) next h)
