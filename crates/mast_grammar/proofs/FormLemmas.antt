-- Derivations of forms: taken apart, put together, and with more levels.
use Rattle.std.proofs.Common.{◌≡◌, ◌⊎◌, inl, inr, ℕ, zero, suc, ◌+◌, ◌≤◌, List, [], ◌∷◌, ◌++◌, refl, subst, sym, arith}
use Rattle.mast_grammar.specs.declared.terminal.Terminal.{Terminal}
use Rattle.mast_grammar.specs.Grammar.{Nonterminal, Form, one, the, ◌·◌, ◌∣◌, maybe, many, grammar, StandsFor}

-- what has a derivation has one of more levels
pub deeper : (n m : ℕ) (f : Form) (ks : List Terminal) → n ≤ m → StandsFor n f ks → StandsFor m f ks
deeper zero m f ks l h = absurd h
deeper (suc n) zero f ks l h = absurd (omega arith)
deeper (suc n) (suc m) (one k) ks l h = h
deeper (suc n) (suc m) (the r) ks l h = deeper n m (grammar r) ks (omega arith) h
deeper (suc n) (suc m) (a · b) ks l h =
    (h.0, h.1, h.2, deeper n m a h.0 (omega arith) h.3, deeper n m b h.1 (omega arith) h.4)
deeper (suc n) (suc m) (a ∣ b) ks l (inl h) = inl (deeper n m a ks (omega arith) h)
deeper (suc n) (suc m) (a ∣ b) ks l (inr h) = inr (deeper n m b ks (omega arith) h)
deeper (suc n) (suc m) (maybe a) ks l (inl h) = inl h
deeper (suc n) (suc m) (maybe a) ks l (inr h) = inr (deeper n m a ks (omega arith) h)
deeper (suc n) (suc m) (many a) ks l (inl h) = inl h
deeper (suc n) (suc m) (many a) ks l (inr h) = inr (deeper n m (a · many a) ks (omega arith) h)

-- one level more
pub up : (n : ℕ) (f : Form) (ks : List Terminal) → StandsFor n f ks → StandsFor (suc n) f ks
up n f ks h = deeper n (suc n) f ks (omega arith) h

-- the form stands for the terminals
abbrev pub Stands : Form → List Terminal → Type 0
Stands f ks = (n : ℕ) × StandsFor n f ks

-- what stands behind a form
pub then_stands : (a b : Form) (xs ys : List Terminal) → Stands a xs → Stands b ys → Stands (a · b) (xs ++ ys)
then_stands a b xs ys h g =
    (suc (h.0 + g.0), (xs, ys, refl, deeper h.0 (h.0 + g.0) a xs (omega arith) h.1, deeper g.0 (h.0 + g.0) b ys (omega arith) g.1))

-- the first of two forms
pub left_stands : (a b : Form) (ks : List Terminal) → Stands a ks → Stands (a ∣ b) ks
left_stands a b ks h = (suc h.0, inl h.1)

-- the second of two forms
pub right_stands : (a b : Form) (ks : List Terminal) → Stands b ks → Stands (a ∣ b) ks
right_stands a b ks h = (suc h.0, inr h.1)

-- a form that may be left out, and is not
pub maybe_stands : (a : Form) (ks : List Terminal) → Stands a ks → Stands (maybe a) ks
maybe_stands a ks h = (suc h.0, inr h.1)

-- and is
pub no_maybe : (a : Form) → Stands (maybe a) []
no_maybe a = (suc zero, inl refl)

-- a form once more
pub many_stands : (a : Form) (xs ys : List Terminal) → Stands a xs → Stands (many a) ys → Stands (many a) (xs ++ ys)
many_stands a xs ys h g = let t = then_stands a (many a) xs ys h g in (suc t.0, inr t.1)

-- a form no time
pub no_many : (a : Form) → Stands (many a) []
no_many a = (suc zero, inl refl)

-- a nonterminal by its rule
pub the_stands : (r : Nonterminal) (ks : List Terminal) → Stands (grammar r) ks → Stands (the r) ks
the_stands r ks h = (suc h.0, h.1)

-- a terminal
pub one_stands : (k : Terminal) → Stands (one k) (k ∷ [])
one_stands k = (suc zero, refl)

-- what a derivation is made of, of a terminal
pub one_of : (n : ℕ) (k : Terminal) (ks : List Terminal) → StandsFor n (one k) ks → ks ≡ k ∷ []
one_of zero k ks h = absurd h
one_of (suc n) k ks h = h

-- of two forms one behind the other
pub then_of : (n : ℕ) (a b : Form) (ks : List Terminal) → StandsFor n (a · b) ks → (xs : List Terminal) × (ys : List Terminal) × (ks ≡ xs ++ ys) × Stands a xs × Stands b ys
then_of zero a b ks h = absurd h
then_of (suc n) a b ks h = (h.0, h.1, h.2, (n, h.3), (n, h.4))

-- of one of two forms
pub or_of : (n : ℕ) (a b : Form) (ks : List Terminal) → StandsFor n (a ∣ b) ks → Stands a ks ⊎ Stands b ks
or_of zero a b ks h = absurd h
or_of (suc n) a b ks (inl h) = inl (n, h)
or_of (suc n) a b ks (inr h) = inr (n, h)

-- of a form that may be left out
pub maybe_of : (n : ℕ) (a : Form) (ks : List Terminal) → StandsFor n (maybe a) ks → (ks ≡ []) ⊎ Stands a ks
maybe_of zero a ks h = absurd h
maybe_of (suc n) a ks (inl h) = inl h
maybe_of (suc n) a ks (inr h) = inr (n, h)

-- of a nonterminal
pub the_of : (n : ℕ) (r : Nonterminal) (ks : List Terminal) → StandsFor n (the r) ks → Stands (grammar r) ks
the_of zero r ks h = absurd h
the_of (suc n) r ks h = (n, h)

-- either of two forms where one of them may be left out
pub maybe_left : (n : ℕ) (a b : Form) (ks : List Terminal) → StandsFor n (maybe a) ks → StandsFor (suc n) (maybe (a ∣ b)) ks
maybe_left zero a b ks h = absurd h
maybe_left (suc n) a b ks (inl h) = inl h
maybe_left (suc n) a b ks (inr h) = inr (inl h)

-- what stands before either of two forms stands before each
pub share_stands : (a b c : Form) (ks : List Terminal) → Stands (a · (b ∣ c)) ks → Stands (a · b ∣ a · c) ks
share_stands a b c ks h =
    let t = then_of h.0 a (b ∣ c) ks h.1 in
    on t.0 t.1 t.2 t.3 (or_of t.4.0 b c t.1 t.4.1)
  where
    on : (xs ys : List Terminal) → ks ≡ xs ++ ys → Stands a xs → Stands b ys ⊎ Stands c ys → Stands (a · b ∣ a · c) ks
    on xs ys e g (inl m) = subst (λ x. Stands (a · b ∣ a · c) x) (sym e) (left_stands (a · b) (a · c) (xs ++ ys) (then_stands a b xs ys g m))
    on xs ys e g (inr m) = subst (λ x. Stands (a · b ∣ a · c) x) (sym e) (right_stands (a · b) (a · c) (xs ++ ys) (then_stands a c xs ys g m))
