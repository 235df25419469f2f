-- The indices of inclusions: what each addition to groups gives, and what all of them give.
use Rattle.std.proofs.Common.{◌≡◌, Bool, true, false, List, [], ◌∷◌, ◌++◌, refl, sym, ap, ◌∙◌, if◌then◌else◌}
use Rattle.indexmap.specs.IndexSet.{insert_key, insert_all}
use Rattle.mast_tbox.specs.declared.axiom.Inclusion.{Inclusion}
use Rattle.mast_tbox.specs.Inclusions.{pairs, firsts}
use Rattle.mast_tbox.specs.Lists.{once}
use Rattle.mast_tbox.proofs.OnceLemmas.{once_all}

module _ {X : Type 0} (eq : X → X → Bool) (same : (x y : X) → eq x y ≡ true → x ≡ y) where
  -- what one addition gives; the items are those before, by key
  pub added_one : (before : X → List X) (key item k : X) → (if eq key k then insert_key eq (before key) item else before k) ≡ insert_all eq (before k) (firsts eq k ((item, key) ∷ []))
  added_one before key item k = go (eq key k) refl
    where
      go : (b : Bool) → eq key k ≡ b → (if b then insert_key eq (before key) item else before k) ≡ insert_all eq (before k) (if b then item ∷ [] else [])
      go true e = ap (λ w. insert_key eq (before w) item) (same key k e)
      go false e = refl

module _ {X : Type 0} (eq : X → X → Bool) where
  firsts_case : (k : X) (p : X × X) (xs ys all : List X) (b : Bool) → all ≡ xs ++ ys → (if b then p.0 ∷ all else all) ≡ (if b then p.0 ∷ xs else xs) ++ ys
  firsts_case k p xs ys all true e = ap (λ w. p.0 ∷ w) e
  firsts_case k p xs ys all false e = e

  firsts_join : (k : X) (ps qs : List (X × X)) → firsts eq k (ps ++ qs) ≡ firsts eq k ps ++ firsts eq k qs
  firsts_join k [] qs = refl
  firsts_join k (p ∷ ps) qs = firsts_case k p (firsts eq k ps) (firsts eq k qs) (firsts eq k (ps ++ qs)) (eq p.1 k) (firsts_join k ps qs)

  -- two lists inserted one after the other
  pub all_join : (xs ys ks : List X) → insert_all eq ks (xs ++ ys) ≡ insert_all eq (insert_all eq ks xs) ys
  all_join [] ys ks = refl
  all_join (x ∷ xs) ys ks = all_join xs ys (insert_key eq ks x)

  -- one inclusion more: what is left to add falls by its pairs
  pub one_more : (f : Inclusion → List (X × X)) (before after : List X) (k : X) (i : Inclusion) (is : List Inclusion) → after ≡ insert_all eq before (firsts eq k (f i))
      → insert_all eq after (firsts eq k (pairs f is)) ≡ insert_all eq before (firsts eq k (pairs f (i ∷ is)))
  one_more f before after k i is e =
      ap (λ w. insert_all eq w (firsts eq k (pairs f is))) e
      ∙ (sym (all_join (firsts eq k (f i)) (firsts eq k (pairs f is)) before)
      ∙ ap (insert_all eq before) (sym (firsts_join k (f i) (pairs f is))))

-- all of them, from none on
pub all_added : {X : Type 0} (eq : X → X → Bool) → ((x y : X) → eq x y ≡ true → x ≡ y) → ((x : X) → eq x x ≡ true) → (xs items : List X) → insert_all eq items [] ≡ insert_all eq [] xs → items ≡ once eq xs
all_added eq same itself xs items e = e ∙ once_all eq same itself xs []

-- three lists inserted one after another
pub three_joined : {X : Type 0} (eq : X → X → Bool) (old one two xs ys zs : List X) → one ≡ insert_all eq old xs → two ≡ insert_all eq one ys → insert_all eq two zs ≡ insert_all eq old (xs ++ (ys ++ zs))
three_joined eq old one two xs ys zs e f =
    ap (λ w. insert_all eq w zs) f
    ∙ (sym (all_join eq ys zs one) ∙ (ap (λ w. insert_all eq w (ys ++ zs)) e ∙ sym (all_join eq xs (ys ++ zs) old)))
