-- What is found of a variable among others.
use Rattle.std.proofs.Common.{◌≡◌, refl, sym, ap, ◌∙◌, subst, ℕ, ◌+◌, ◌<◌, Bool, true, if◌then◌else◌, List, [], ◌∷◌, ◌++◌, length, drop, get_or}
use Rattle.std.specs.Prelude.{Some, None, Result, Ok, Err, slice_get}
use Rattle.std.specs.Option.{option_map}
use Rattle.std.specs.Str.{bytes_eq}
use Rattle.std.proofs.lemmas.List.{drop_more}
use Rattle.std.proofs.lemmas.Option.{slice_get-map, slice_get-get_or}
use Rattle.std.proofs.lemmas.Slice.Eq.{bytes_eq-Decides}
use Rattle.mast_cq.specs.declared.atom.Arg.{Arg}
use Rattle.mast_cq.specs.declared.atom.Arg.TheVariants as arg
use Rattle.mast_terms.specs.declared.memory.Stop.{Stop}
use Rattle.mast_terms.specs.declared.memory.Stop.TheVariants.{Named, NoMemory}
use Rattle.mast_terms.proofs.PlaceLemmas.{slice_get-push}
use Rattle.mast_tree.specs.declared.shape.ShapeBreach.{ShapeBreach}
use Rattle.mast_tree.specs.Judgements.{first_breach, AreRight}
use Rattle.mast_constr.specs.inside.Atoms.{joined}
use Rattle.mast_constr.specs.declared.variables.Sort.{Sort}
use Rattle.mast_constr.specs.declared.variables.Variable.{Variable}
use Rattle.mast_constr.specs.Variables.{Variables, sort_of, sort_judged, IsVariable}
use Rattle.mast_constr.specs.inside.Rules.{IsFound, IsSame, ReadsVariable}
use Rattle.mast_constr.specs.inside.Shown.{shown_one, shown_all}

same_sort_here : (x : List ℕ) (v : Variable) (rest : List Variable) → bytes_eq x v.name.now ≡ true → sort_of x (shown_all (v ∷ rest)) ≡ Some v.sort
same_sort_here x v rest e = ap (λ (b : Bool). if b then Some v.sort else sort_of x (shown_all rest)) e

-- a variable of this name stands here, and none before
pub found_here : (known : List Variable) (n : ℕ) (d : Variable) (x : List ℕ) → n < length known → bytes_eq x (get_or known n d).name.now ≡ true
    → sort_of x (shown_all (drop n known)) ≡ sort_of x (shown_all known) → IsFound (shown_all known) x (Some (n, (get_or known n d).sort))
found_here known n d x within e before =
    let v = get_or known n d in
    let name : x ≡ v.name.now = (bytes_eq-Decides x v.name.now).0 e in (
      sym before ∙ (ap (λ l. sort_of x (shown_all l)) (drop_more known n d within) ∙ same_sort_here x v (drop (n + 1) known) e),
      slice_get-map shown_one known n ∙ (ap (option_map shown_one) (slice_get-get_or known n d within) ∙ ap (λ y. Some (y, v.sort)) (sym name)),
    )

-- a variable that stands was read in a place
pub same_read : (sort first : Sort) (known : Variables) (x : List ℕ) (n at : ℕ) (result : Result Arg (Stop ShapeBreach)) → IsFound known x (Some (n, first)) → IsSame sort first n at result
    → ReadsVariable sort (Some x) at known known result
same_read sort first known x n at (Ok g) found is lists =
    let h = is lists in (
      subst (λ s. AreRight lists (sort_judged sort s at) lists) (sym found.0) h.0,
      (
        sym (ap (λ s. joined sort x s known) found.0),
        subst (λ y. IsVariable sort known (Some x) y) (sym h.1.1) (x, refl, found.1 ∙ ap (λ s. Some (x, s)) (sym h.1.0)),
      ),
    )
same_read sort first known x n at (Err (Named breach)) found is lists = ap (λ s. first_breach lists (sort_judged sort s at)) found.0 ∙ is lists
same_read sort first known x n at (Err NoMemory) found is lists = tt

-- a new variable was read in a place
pub new_read : (sort : Sort) (known next : Variables) (x : List ℕ) (n at : ℕ) → sort_of x known ≡ None → next ≡ known ++ (x, sort) ∷ [] → n ≡ length known
    → ReadsVariable sort (Some x) at known next (Ok (arg.Var n))
new_read sort known next x n at none is number lists = (
  subst (λ s. AreRight lists (sort_judged sort s at) lists) (sym none) (record { none = refl; then = refl }),
  (is ∙ sym (ap (λ s. joined sort x s known) none), (x, refl, ap (λ k. slice_get k n) is ∙ (ap (slice_get (known ++ (x, sort) ∷ [])) number ∙ slice_get-push known (x, sort)))),
)
