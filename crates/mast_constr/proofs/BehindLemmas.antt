-- What is judged as atoms are read is what is judged of them behind those before.
use Rattle.std.proofs.Common.{◌≡◌, refl, ap, ◌∙◌, suc, List, [], ◌∷◌, ◌++◌, length, arith}
use Rattle.std.proofs.lemmas.List.{length-append}
use Rattle.mast_tree.specs.declared.item.Item.{Item}
use Rattle.mast_tree.specs.Pages.{Page, says}
use Rattle.mast_constr.specs.Denials.{Dates, places, variables_of, each_behind, atom_behind, atoms_judged}
use Rattle.mast_constr.specs.inside.Atoms.{with_atom, atoms_from}
use Rattle.mast_constr.proofs.FirstPlaceLemmas.{atom_alike}
use Rattle.mast_constr.proofs.PlaceLemmas.{variables_end}

one_longer : (before : List Item) (item : Item) → suc (length before) ≡ length (before ++ item ∷ [])
one_longer before item = omega (arith, length-append before (item ∷ []))

judged_behind : (dates : Dates) (page : Page) (before items : List Item)
    → atoms_from dates page (length before) (variables_of page before) items ≡ each_behind (atom_behind dates page) before items
judged_behind dates page before [] = refl
judged_behind dates page before (item ∷ items) =
    ap (λ js. js ++ atoms_from dates page (suc (length before)) (with_atom page (variables_of page before) (says page item)) items)
    (atom_alike dates page (length before) (places page before) item)
    ∙ ap (λ js. atom_behind dates page before item ++ js)
    (ap (λ n. atoms_from dates page n (with_atom page (variables_of page before) (says page item)) items) (one_longer before item)
    ∙ (ap (λ known. atoms_from dates page (length (before ++ item ∷ [])) known items) (variables_end page before item)
    ∙ judged_behind dates page (before ++ item ∷ []) items))

-- what is judged as it is read is what is judged of them
pub judged_is : (dates : Dates) (page : Page) (items : List Item) → atoms_from dates page 0 [] items ≡ atoms_judged dates page items
judged_is dates page items = judged_behind dates page [] items
