-- What settling does: each variable that becomes `_` frees a place, and at the end none is alone.
use Rattle.std.proofs.Common.{◌≡◌, ℕ, zero, suc, ◌+◌, ◌≤◌, List, [], ◌∷◌, length, map, Bool, Some, None, Option, sym, refl, ap, subst, ◌∙◌, arith}
use Rattle.mast_cq.specs.declared.atom.Arg.{Arg}
use Rattle.mast_cq.specs.declared.atom.Arg.TheVariants.{Blank, Var, Constant}
use Rattle.mast_cq.specs.declared.atom.Atom.{Atom}
use Rattle.mast_cq.specs.declared.atom.Atom.TheVariants.{Class, Role, Attr}
use Rattle.mast_cq.specs.declared.query.Cq.{Cq}
use Rattle.mast_cq.specs.Queries.{or_else}
use Rattle.mast_cq.specs.NormalForms.{arg_places, atom_places, places, blank, alone, first_arg, first_atom, first_var, in_order, without, settle, normal_form, Ordered, IsNormal, Spread}
use Rattle.mast_cq.specs.inside.Blanks.{blanked_all}
use Rattle.mast_cq.proofs.OrderLemmas.{order_places, order_length, map_places, in_order_ordered, ordered_same}
use Rattle.mast_cq.proofs.AloneLemmas.{alone_parts, first_true, alone_none, spread_of}

-- where no place has a variable there is none to be found
no_arg : (t : ℕ → Bool) (x : Arg) → arg_places x ≤ 0 → first_arg t x ≡ None
no_arg t Blank l = refl
no_arg t (Var n) l = absurd (omega arith)
no_arg t (Constant c) l = refl

no_pair : (t : ℕ → Bool) (x y : Arg) → arg_places x + arg_places y ≤ 0 → or_else (first_arg t x) (first_arg t y) ≡ None
no_pair t x y l = ap (λ o. or_else o (first_arg t y)) (no_arg t x (omega arith)) ∙ no_arg t y (omega arith)

no_atom : (t : ℕ → Bool) (g : Atom) → atom_places g ≤ 0 → first_atom t g ≡ None
no_atom t (Class a x) l = no_arg t x l
no_atom t (Role a x y) l = no_pair t x y l
no_atom t (Attr a x y) l = no_pair t x y l

no_var : (t : ℕ → Bool) (gs : List Atom) → places gs ≤ 0 → first_var t gs ≡ None
no_var t [] l = refl
no_var t (g ∷ gs) l = ap (λ o. or_else o (first_var t gs)) (no_atom t g (omega arith)) ∙ no_var t gs (omega arith)

-- the places that a variable which is alone leaves
pub fewer_places : (answer : List Arg) (n : ℕ) (gs : List Atom) → first_var (alone answer gs) gs ≡ Some n → suc (places (without n gs)) ≤ places gs
fewer_places answer n gs e =
    let a = (alone_parts answer gs n (first_true (alone answer gs) gs n e)).1 in
    let b = map_places n gs in
    let c = order_places (map (blank n) gs) in
    omega arith

-- one step, and the end
settle_at : (answer : List Arg) (k n : ℕ) (gs : List Atom) → first_var (alone answer gs) gs ≡ Some n → settle answer (suc k) gs ≡ settle answer k (without n gs)
settle_at answer k n gs e = ap (λ o. elim o [ None ↦ gs | Some m ↦ settle answer k (without m gs) ]) e

pub settle_done : (answer : List Arg) (k : ℕ) (gs : List Atom) → first_var (alone answer gs) gs ≡ None → settle answer k gs ≡ gs
settle_done answer zero gs e = refl
settle_done answer (suc k) gs e = ap (λ o. elim o [ None ↦ gs | Some m ↦ settle answer k (without m gs) ]) e

-- more rounds than places change nothing
pub settle_same : (answer : List Arg) (j k : ℕ) (gs : List Atom) → places gs ≤ j → places gs ≤ k → settle answer j gs ≡ settle answer k gs
settle_same answer zero zero gs l m = refl
settle_same answer zero (suc k) gs l m = sym (settle_done answer (suc k) gs (no_var (alone answer gs) gs l))
settle_same answer (suc j) zero gs l m = settle_done answer (suc j) gs (no_var (alone answer gs) gs m)
settle_same answer (suc j) (suc k) gs l m = go (first_var (alone answer gs) gs) refl (λ n. settle_same answer j k (without n gs))
  where
    go : (o : Option ℕ) → first_var (alone answer gs) gs ≡ o → ((n : ℕ) → places (without n gs) ≤ j → places (without n gs) ≤ k → settle answer j (without n gs) ≡ settle answer k (without n gs))
        → ◌≡◌ {A = List Atom} (elim o [ None ↦ gs | Some n ↦ settle answer j (without n gs) ]) (elim o [ None ↦ gs | Some n ↦ settle answer k (without n gs) ])
    go None e f = refl
    go (Some n) e f = let d = fewer_places answer n gs e in f n (omega arith) (omega arith)

-- the next round, with as many rounds as places
pub settle_next : (answer : List Arg) (n : ℕ) (gs : List Atom) → first_var (alone answer gs) gs ≡ Some n → settle answer (places (without n gs)) (without n gs) ≡ settle answer (places gs) gs
settle_next answer n gs e = go (places gs) refl
  where
    go : (k : ℕ) → places gs ≡ k → settle answer (places (without n gs)) (without n gs) ≡ settle answer k gs
    go zero f = let d = fewer_places answer n gs e in absurd (omega arith)
    go (suc j) f = let d = fewer_places answer n gs e in settle_same answer (places (without n gs)) j (without n gs) (omega arith) (omega arith) ∙ sym (settle_at answer j n gs e)

-- one round of the loop: fewer places, and the same at the end
pub settle_round : (answer : List Arg) (old found back new : List Atom) (n : ℕ) (o : Option ℕ) → found ≡ old → o ≡ first_var (alone answer found) found → o ≡ Some n
    → back ≡ old → new ≡ in_order (blanked_all (Some n) back) → (suc (places new) ≤ places old) × (settle answer (places new) new ≡ settle answer (places old) old)
settle_round answer old found back new n o f e i b w =
    let k : first_var (alone answer old) old ≡ Some n = subst (λ gs. first_var (alone answer gs) gs ≡ Some n) f (sym e ∙ i) in
    let m : new ≡ without n old = w ∙ ap (λ gs. in_order (blanked_all (Some n) gs)) b in
    subst (λ gs. (suc (places gs) ≤ places old) × (settle answer (places gs) gs ≡ settle answer (places old) old)) (sym m) (fewer_places answer n old k, settle_next answer n old k)

-- nothing that becomes `_` changes nothing
pub blanked_none : (gs : List Atom) → blanked_all None gs ≡ gs
blanked_none [] = refl
blanked_none (g ∷ gs) = ap (λ hs. g ∷ hs) (blanked_none gs)

-- at the end no variable is alone
pub settle_none : (answer : List Arg) (k : ℕ) (gs : List Atom) → places gs ≤ k → first_var (alone answer (settle answer k gs)) (settle answer k gs) ≡ None
settle_none answer zero gs l = no_var (alone answer gs) gs l
settle_none answer (suc k) gs l = go (first_var (alone answer gs) gs) refl (λ n. settle_none answer k (without n gs))
  where
    go : (o : Option ℕ) → first_var (alone answer gs) gs ≡ o → ((n : ℕ) → places (without n gs) ≤ k → first_var (alone answer (settle answer k (without n gs))) (settle answer k (without n gs)) ≡ None)
        → first_var (alone answer (elim o [ None ↦ gs | Some n ↦ settle answer k (without n gs) ])) (elim o [ None ↦ gs | Some n ↦ settle answer k (without n gs) ]) ≡ None
    go None e f = e
    go (Some n) e f = let d = fewer_places answer n gs e in f n (omega arith)

-- the atoms stay in order
pub settle_ordered : (answer : List Arg) (k : ℕ) (gs : List Atom) → Ordered gs → Ordered (settle answer k gs)
settle_ordered answer zero gs w = w
settle_ordered answer (suc k) gs w = go (first_var (alone answer gs) gs) (λ n. settle_ordered answer k (without n gs) (in_order_ordered (map (blank n) gs)))
  where
    go : (o : Option ℕ) → ((n : ℕ) → Ordered (settle answer k (without n gs))) → Ordered (elim o [ None ↦ gs | Some n ↦ settle answer k (without n gs) ])
    go None f = w
    go (Some n) f = f n

-- the program's rounds end in the normal form
pub norm_told : (q : Cq) (sorted : List Atom) → sorted ≡ in_order (blanked_all None q.atoms) → settle q.answer (places sorted) sorted ≡ settle q.answer (places q.atoms) (in_order q.atoms)
norm_told q sorted e =
    let k : sorted ≡ in_order q.atoms = e ∙ ap in_order (blanked_none q.atoms) in
    let l = order_places q.atoms in
    subst (λ gs. settle q.answer (places gs) gs ≡ settle q.answer (places q.atoms) (in_order q.atoms)) (sym k)
    (settle_same q.answer (places (in_order q.atoms)) (places q.atoms) (in_order q.atoms) (omega arith) l)

-- the normal form is normal
pub normal_form_normal : (q : Cq) → IsNormal (normal_form q)
normal_form_normal q = record {
  none_alone = λ n h u. alone_none q.answer (settle q.answer (places q.atoms) (in_order q.atoms)) n (settle_none q.answer (places q.atoms) (in_order q.atoms) (order_places q.atoms)) h u;
  ordered = settle_ordered q.answer (places q.atoms) (in_order q.atoms) (in_order_ordered q.atoms);
}

-- and a variable that stands in it is an answer, or stands in a second place
pub normal_form_spread : (q : Cq) → Spread (normal_form q)
normal_form_spread q = spread_of (normal_form q) (settle_none q.answer (places q.atoms) (in_order q.atoms) (order_places q.atoms))

-- what is normal stays as it is
pub normal_fixed : (q : Cq) → IsNormal q → normal_form q ≡ q
normal_fixed q n =
    ap (λ gs. record { answer = q.answer; atoms = gs }) (settle_done q.answer (places q.atoms) (in_order q.atoms) (subst (λ gs. first_var (alone q.answer gs) gs ≡ None) (sym same) (none (first_var (alone q.answer q.atoms) q.atoms) refl)) ∙ same)
  where
    same : in_order q.atoms ≡ q.atoms
    same = ordered_same q.atoms n.ordered

    none : (o : Option ℕ) → first_var (alone q.answer q.atoms) q.atoms ≡ o → o ≡ None
    none None e = refl
    none (Some m) e = let k = alone_parts q.answer q.atoms m (first_true (alone q.answer q.atoms) q.atoms m e) in absurd (n.none_alone m k.0 k.1)

map_length : (n : ℕ) (gs : List Atom) → length (map (blank n) gs) ≡ length gs
map_length n [] = refl
map_length n (g ∷ gs) = ap suc (map_length n gs)

without_length : (n : ℕ) (gs : List Atom) → length (without n gs) ≤ length gs
without_length n gs = let a = order_length (map (blank n) gs) in let b = map_length n gs in omega arith

settle_length : (answer : List Arg) (k : ℕ) (gs : List Atom) → length (settle answer k gs) ≤ length gs
settle_length answer zero gs = omega arith
settle_length answer (suc k) gs = go (first_var (alone answer gs) gs) (λ n. settle_length answer k (without n gs))
  where
    go : (o : Option ℕ) → ((n : ℕ) → length (settle answer k (without n gs)) ≤ length (without n gs)) → length (elim o as (λ i. List Atom) [ None ↦ gs | Some n ↦ settle answer k (without n gs) ]) ≤ length gs
    go None f = omega arith
    go (Some n) f = let a = f n in let b = without_length n gs in omega arith

-- the normal form has no more atoms than the query
pub normal_form_length : (q : Cq) → length (normal_form q).atoms ≤ length q.atoms
normal_form_length q = let a = settle_length q.answer (places q.atoms) (in_order q.atoms) in let b = order_length q.atoms in omega arith
