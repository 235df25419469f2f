-- Links of columns, as they are added to groups.
use Rattle.std.proofs.Common.{◌≡◌, ◌≤◌, ℕ, Bool, true, false, List, [], ◌∷◌, ◌++◌, map, drop, get_or, length, ◌<◌, ◌+◌, refl, ap, sym, ◌∙◌, append_assoc, append-nil}
use Rattle.std.specs.Prelude.{if◌then◌else◌}
use Rattle.std.proofs.lemmas.List.{drop_more, drop_all}
use Rattle.mast_terms.specs.Orders.{TestsEquality}
use Rattle.mast_unfold.specs.declared.columns.Place.{Place}
use Rattle.mast_unfold.specs.declared.equations.Equation.{Equation}
use Rattle.mast_unfold.specs.declared.groups.Groups.{Groups}
use Rattle.mast_unfold.specs.inside.Equations.{both, same_place, seconds, links_of, all_links, AreLinked}
use Rattle.mast_unfold.specs.inside.Lookups.{found, put}

-- the second ones of two lists of pairs, one after the other
seconds-append : (p : Place) (xs ys : List (Place × Place)) → seconds p (xs ++ ys) ≡ seconds p xs ++ seconds p ys
seconds-append p [] ys = refl
seconds-append p (x ∷ xs) ys = by (same_place x.0 p) (seconds-append p xs ys)
  where
    by : (b : Bool) → seconds p (xs ++ ys) ≡ seconds p xs ++ seconds p ys → (if b then x.1 ∷ seconds p (xs ++ ys) else seconds p (xs ++ ys)) ≡ (if b then x.1 ∷ seconds p xs else seconds p xs) ++ seconds p ys
    by true ih = ap (λ k. x.1 ∷ k) ih
    by false ih = ih

-- one link that was added
pub add_link : TestsEquality same_place → (old new : Groups Place Place) (p q : Place) → ((k : Place) → found same_place new k ≡ put same_place old p q k) → AreLinked old ((p, q) ∷ []) new
add_link law old new p q h k = h k ∙ by (same_place p k) refl
  where
    by : (b : Bool) → same_place p k ≡ b → (if b then found same_place old p ++ q ∷ [] else found same_place old k) ≡ found same_place old k ++ (if b then q ∷ [] else [])
    by true e = ap (λ x. found same_place old x ++ q ∷ []) ((law p k).0 e)
    by false e = sym (append-nil (found same_place old k))

-- links that were added after others
pub more_links : (old middle new : Groups Place Place) (xs ys : List (Place × Place)) → AreLinked old xs middle → AreLinked middle ys new → AreLinked old (xs ++ ys) new
more_links old middle new xs ys a b k =
    b k ∙ (ap (λ l. l ++ seconds k ys) (a k) ∙ (append_assoc (found same_place old k) (seconds k xs) (seconds k ys) ∙ ap (λ l. found same_place old k ++ l) (sym (seconds-append k xs ys))))

-- no links that were added
pub no_links : (groups : Groups Place Place) → AreLinked groups [] groups
no_links groups k = sym (append-nil (found same_place groups k))

-- the links of one equation more
pub links_step : (es : List Equation) (i : ℕ) (e : Equation) (old new : Groups Place Place) → i < length es → e ≡ get_or es i e → AreLinked old (links_of (both e)) new → (all : List (Place × Place))
    → ((p : Place) → found same_place old p ++ seconds p (all_links (map both (drop i es))) ≡ seconds p all) → (p : Place) → found same_place new p ++ seconds p (all_links (map both (drop (i + 1) es))) ≡ seconds p all
links_step es i e old new lt is added all before p =
    let rest = all_links (map both (drop (i + 1) es)) in
    ap (λ k. k ++ seconds p rest) (added p)
    ∙ (append_assoc (found same_place old p) (seconds p (links_of (both e))) (seconds p rest)
    ∙ (ap (λ k. found same_place old p ++ k) (sym (seconds-append p (links_of (both e)) rest))
    ∙ (ap (λ (k : List Equation). found same_place old p ++ seconds p (all_links (map both k))) (ap (λ x. x ∷ drop (i + 1) es) is ∙ sym (drop_more es i e lt))
    ∙ before p)))

-- the links of all equations
pub links_end : (es : List Equation) (i : ℕ) (groups : Groups Place Place) → length es ≤ i → (all : List (Place × Place))
    → ((p : Place) → found same_place groups p ++ seconds p (all_links (map both (drop i es))) ≡ seconds p all) → (p : Place) → found same_place groups p ≡ seconds p all
links_end es i groups le all h p =
    sym (append-nil (found same_place groups p)) ∙ (ap (λ (k : List Equation). found same_place groups p ++ seconds p (all_links (map both k))) (sym (drop_all i es le)) ∙ h p)
