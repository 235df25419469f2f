-- Bodies and conditions that were read.
use Rattle.std.proofs.Common.{◌≡◌, ℕ, zero, suc, ◌+◌, Bool, true, false, ◌&&◌, List, [], ◌∷◌, ◌++◌, subst, sym, ap, ◌∙◌, refl, arith, if◌then◌else◌, nat_le, ◌≤◌}
use Rattle.std.proofs.lemmas.Bool.Decides.{nat_tests}
use Rattle.mast_grammar.specs.declared.terminal.Terminal.{Terminal}
use Rattle.mast_grammar.specs.declared.terminal.Terminal.TheVariants as terminal
use Rattle.mast_sparsql.specs.declared.tree.Item.{Item}
use Rattle.mast_sparsql.specs.declared.tree.Entry.{Entry}
use Rattle.mast_sparsql.specs.declared.tree.Operand.{Operand}
use Rattle.mast_sparsql.specs.declared.tree.Part.{Part as Held}
use Rattle.mast_sparsql.specs.Trees.{Part, Shape, word, the, select, set, inner, always, compare, exists, negation, both, either}
use Rattle.mast_sparsql.specs.Trees.{Rank, a_body, a_condition, neither, ranked, is_body, is_condition, is_where, is_union, is_comparison, set_rank, inner_rank, rank_of, part_written, select_stands, optional, separated, item_written, entry_written, entry_stands, operand_written, in_parentheses, some}
use Rattle.mast_sparsql.specs.inside.Cursors.{Left, Reads, ReadsEach, ReadsList}
use Rattle.mast_sparsql.specs.Held.{part_of}
use Rattle.mast_sparsql.specs.inside.Parts.{nots, nots_written, ReadsBody, ReadsCondition, ReadsWhere}
use Rattle.mast_sparsql.proofs.CursorLemmas.{reads_both, reads_before, reads_around, reads_none}

both_are : (a b : Bool) → a ≡ true → b ≡ true → (a && b) ≡ true
both_are true b h k = k
both_are false b h k = h

ranked_is : (b : Bool) (r : Rank) → b ≡ true → ranked b r ≡ r
ranked_is true r h = refl
ranked_is false r h = absurd (let e : false ≡ true = h in cc)

body_ranked : (most : ℕ) (b : Bool) (r : Rank) → b ≡ true → is_body most r ≡ true → is_body most (ranked b r) ≡ true
body_ranked most b r h is = subst (λ x. is_body most x ≡ true) (sym (ranked_is b r h)) is

condition_ranked : (most : ℕ) (b : Bool) (r : Rank) → b ≡ true → is_condition most r ≡ true → is_condition most (ranked b r) ≡ true
condition_ranked most b r h is = subst (λ x. is_condition most x ≡ true) (sym (ranked_is b r h)) is

union_rank : (k : Terminal) (a b : Rank) → is_union k ≡ true → is_body 2 a ≡ true → is_body 1 b ≡ true → is_body 2 (set_rank k a b) ≡ true
union_rank terminal.Union a b h x y = body_ranked 2 (is_body 2 a && is_body 1 b) (a_body 2) (both_are (is_body 2 a) (is_body 1 b) x y) refl
union_rank terminal.Except a b h x y = body_ranked 2 (is_body 2 a && is_body 1 b) (a_body 2) (both_are (is_body 2 a) (is_body 1 b) x y) refl
union_rank _ a b h x y = absurd (let e : false ≡ true = h in cc)

le_wider : (n m k : ℕ) → m ≤ k → nat_le n m ≡ true → nat_le n k ≡ true
le_wider n m k le h = grind (arith, nat_tests)

higher : (r : Rank) → is_body 0 r ≡ true → is_body 1 r ≡ true
higher (a_body n) h = le_wider n 0 1 (omega arith) h
higher (a_condition n) h = h
higher neither h = h

highest : (r : Rank) → is_body 1 r ≡ true → is_body 2 r ≡ true
highest (a_body n) h = le_wider n 1 2 (omega arith) h
highest (a_condition n) h = h
highest neither h = h

looser : (r : Rank) → is_condition 0 r ≡ true → is_condition 1 r ≡ true
looser (a_condition n) h = le_wider n 0 1 (omega arith) h
looser (a_body n) h = h
looser neither h = h

loosest : (r : Rank) → is_condition 1 r ≡ true → is_condition 2 r ≡ true
loosest (a_condition n) h = le_wider n 1 2 (omega arith) h
loosest (a_body n) h = h
loosest neither h = h

-- a factor is a term
pub factor_term : (old new : Left) (h : Held) → ReadsBody 0 old new h → ReadsBody 1 old new h
factor_term old new h r = record { ranks = higher (rank_of (part_of h)) r.ranks; reads = r.reads }

-- a term is a body
pub term_body : (old new : Left) (h : Held) → ReadsBody 1 old new h → ReadsBody 2 old new h
term_body old new h r = record { ranks = highest (rank_of (part_of h)) r.ranks; reads = r.reads }

-- a neg is a conj
pub neg_conj : (old new : Left) (h : Held) → ReadsCondition 0 old new h → ReadsCondition 1 old new h
neg_conj old new h r = record { ranks = looser (rank_of (part_of h)) r.ranks; reads = r.reads }

-- a conj is a cond
pub conj_cond : (old new : Left) (h : Held) → ReadsCondition 1 old new h → ReadsCondition 2 old new h
conj_cond old new h r = record { ranks = loosest (rank_of (part_of h)) r.ranks; reads = r.reads }

-- a body, UNION or EXCEPT, and a term
pub reads_union : (old mid next new : Left) (k : Terminal) (n : ℕ) (a b p : Held)
    → is_union k ≡ true → ReadsBody 2 old mid a → Reads mid next (the k n ∷ []) → ReadsBody 1 next new b
    → part_of p ≡ set k n (part_of a) (part_of b) → ReadsBody 2 old new p
reads_union old mid next new k n a b p u x y z is =
    record {
      ranks = subst (λ q. is_body 2 (rank_of q) ≡ true) (sym is) (union_rank k (rank_of (part_of a)) (rank_of (part_of b)) u x.ranks z.ranks);
      reads = subst (λ q. Reads old new (part_written q)) (sym is)
          (reads_both old mid new (part_written (part_of a)) (the k n ∷ part_written (part_of b)) x.reads (reads_before mid next new (the k n) (part_written (part_of b)) y z.reads));
    }

-- a term, INTERSECT, and a factor
pub reads_intersect : (old mid next new : Left) (n : ℕ) (a b p : Held)
    → ReadsBody 1 old mid a → Reads mid next (the terminal.Intersect n ∷ []) → ReadsBody 0 next new b
    → part_of p ≡ set terminal.Intersect n (part_of a) (part_of b) → ReadsBody 1 old new p
reads_intersect old mid next new n a b p x y z is =
    record {
      ranks = subst (λ q. is_body 1 (rank_of q) ≡ true) (sym is)
          (body_ranked 1 (is_body 1 (rank_of (part_of a)) && is_body 0 (rank_of (part_of b))) (a_body 1) (both_are (is_body 1 (rank_of (part_of a))) (is_body 0 (rank_of (part_of b))) x.ranks z.ranks) refl);
      reads = subst (λ q. Reads old new (part_written q)) (sym is)
          (reads_both old mid new (part_written (part_of a)) (the terminal.Intersect n ∷ part_written (part_of b)) x.reads
          (reads_before mid next new (the terminal.Intersect n) (part_written (part_of b)) y z.reads));
    }

-- a cond, OR, and a conj
pub reads_either : (old mid next new : Left) (a b p : Held)
    → ReadsCondition 2 old mid a → Reads mid next (word terminal.Or ∷ []) → ReadsCondition 1 next new b
    → part_of p ≡ either (part_of a) (part_of b) → ReadsCondition 2 old new p
reads_either old mid next new a b p x y z is =
    record {
      ranks = subst (λ q. is_condition 2 (rank_of q) ≡ true) (sym is)
          (condition_ranked 2 (is_condition 2 (rank_of (part_of a)) && is_condition 1 (rank_of (part_of b))) (a_condition 2)
          (both_are (is_condition 2 (rank_of (part_of a))) (is_condition 1 (rank_of (part_of b))) x.ranks z.ranks) refl);
      reads = subst (λ q. Reads old new (part_written q)) (sym is)
          (reads_both old mid new (part_written (part_of a)) (word terminal.Or ∷ part_written (part_of b)) x.reads
          (reads_before mid next new (word terminal.Or) (part_written (part_of b)) y z.reads));
    }

-- a conj, AND, and a neg
pub reads_and : (old mid next new : Left) (a b p : Held)
    → ReadsCondition 1 old mid a → Reads mid next (word terminal.And ∷ []) → ReadsCondition 0 next new b
    → part_of p ≡ both (part_of a) (part_of b) → ReadsCondition 1 old new p
reads_and old mid next new a b p x y z is =
    record {
      ranks = subst (λ q. is_condition 1 (rank_of q) ≡ true) (sym is)
          (condition_ranked 1 (is_condition 1 (rank_of (part_of a)) && is_condition 0 (rank_of (part_of b))) (a_condition 1)
          (both_are (is_condition 1 (rank_of (part_of a))) (is_condition 0 (rank_of (part_of b))) x.ranks z.ranks) refl);
      reads = subst (λ q. Reads old new (part_written q)) (sym is)
          (reads_both old mid new (part_written (part_of a)) (word terminal.And ∷ part_written (part_of b)) x.reads
          (reads_before mid next new (word terminal.And) (part_written (part_of b)) y z.reads));
    }

inner_body : (r : Rank) → is_body 2 r ≡ true → is_body 0 (inner_rank r) ≡ true
inner_body (a_body n) h = subst (λ b. is_body 0 (if b then a_body 0 else neither) ≡ true) (sym h) refl
inner_body (a_condition n) h = absurd (let e : false ≡ true = h in cc)
inner_body neither h = absurd (let e : false ≡ true = h in cc)

inner_condition : (r : Rank) → is_condition 2 r ≡ true → is_condition 0 (inner_rank r) ≡ true
inner_condition (a_condition n) h = condition_ranked 0 (is_condition 2 (a_condition n)) (a_condition 0) h refl
inner_condition (a_body n) h = absurd (let e : false ≡ true = h in cc)
inner_condition neither h = absurd (let e : false ≡ true = h in cc)

parentheses : (old one two new : Left) (ss : List Shape) → Reads old one (word terminal.Open ∷ []) → Reads one two ss → Reads two new (word terminal.Close ∷ []) → Reads old new (in_parentheses ss)
parentheses old one two new ss a b c = reads_around old one two new (word terminal.Open) ss (word terminal.Close ∷ []) a b c

-- a body in parentheses
pub reads_inner_body : (old one two new : Left) (a p : Held)
    → Reads old one (word terminal.Open ∷ []) → ReadsBody 2 one two a → Reads two new (word terminal.Close ∷ [])
    → part_of p ≡ inner (part_of a) → ReadsBody 0 old new p
reads_inner_body old one two new a p x y z is =
    record {
      ranks = subst (λ q. is_body 0 (rank_of q) ≡ true) (sym is) (inner_body (rank_of (part_of a)) y.ranks);
      reads = subst (λ q. Reads old new (part_written q)) (sym is) (parentheses old one two new (part_written (part_of a)) x y.reads z);
    }

-- a condition in parentheses
pub reads_inner_condition : (old one two new : Left) (a p : Held)
    → Reads old one (word terminal.Open ∷ []) → ReadsCondition 2 one two a → Reads two new (word terminal.Close ∷ [])
    → part_of p ≡ inner (part_of a) → ReadsCondition 0 old new p
reads_inner_condition old one two new a p x y z is =
    record {
      ranks = subst (λ q. is_condition 0 (rank_of q) ≡ true) (sym is) (inner_condition (rank_of (part_of a)) y.ranks);
      reads = subst (λ q. Reads old new (part_written q)) (sym is) (parentheses old one two new (part_written (part_of a)) x y.reads z);
    }

-- EXISTS and a body
pub reads_exists : (old first one two new : Left) (a p : Held)
    → Reads old first (word terminal.Exists ∷ []) → Reads first one (word terminal.Open ∷ []) → ReadsBody 2 one two a
    → Reads two new (word terminal.Close ∷ []) → part_of p ≡ exists (part_of a) → ReadsCondition 0 old new p
reads_exists old first one two new a p w x y z is =
    record {
      ranks = subst (λ q. is_condition 0 (rank_of q) ≡ true) (sym is)
          (condition_ranked 0 (is_body 2 (rank_of (part_of a))) (a_condition 0) y.ranks refl);
      reads = subst (λ q. Reads old new (part_written q)) (sym is)
          (reads_before old first new (word terminal.Exists) (in_parentheses (part_written (part_of a))) w
          (parentheses first one two new (part_written (part_of a)) x y.reads z));
    }

-- a comparison
pub reads_comparison : (old mid next new : Left) (l r : Operand) (k : Terminal) (n : ℕ) (p : Held)
    → Reads old mid (operand_written l) → is_comparison k ≡ true → Reads mid next (the k n ∷ []) → Reads next new (operand_written r)
    → part_of p ≡ compare l k n r → ReadsCondition 0 old new p
reads_comparison old mid next new l r k n p x c y z is =
    record {
      ranks = subst (λ q. is_condition 0 (rank_of q) ≡ true) (sym is) (condition_ranked 0 (is_comparison k) (a_condition 0) c refl);
      reads = subst (λ q. Reads old new (part_written q)) (sym is)
          (reads_both old mid new (operand_written l) (the k n ∷ operand_written r) x (reads_before mid next new (the k n) (operand_written r) y z));
    }

nots_rank : (n : ℕ) (p : Part) → is_condition 0 (rank_of p) ≡ true → is_condition 0 (rank_of (nots n p)) ≡ true
nots_rank zero p h = h
nots_rank (suc n) p h = condition_ranked 0 (is_condition 0 (rank_of (nots n p))) (a_condition 0) (nots_rank n p h) refl

nots_are : (n : ℕ) (p : Part) → part_written (nots n p) ≡ nots_written n ++ part_written p
nots_are zero p = refl
nots_are (suc n) p = ap (λ ss. word terminal.Not ∷ ss) (nots_are n p)

-- NOTs and a condition
pub reads_nots : (old mid new : Left) (n : ℕ) (a p : Held)
    → Reads old mid (nots_written n) → ReadsCondition 0 mid new a → part_of p ≡ nots n (part_of a) → ReadsCondition 0 old new p
reads_nots old mid new n a p x y is =
    record {
      ranks = subst (λ q. is_condition 0 (rank_of q) ≡ true) (sym is) (nots_rank n (part_of a) y.ranks);
      reads = subst (λ q. Reads old new (part_written q)) (sym is)
          (subst (λ ss. Reads old new ss) (sym (nots_are n (part_of a))) (reads_both old mid new (nots_written n) (part_written (part_of a)) x y.reads));
    }

one_not : (n : ℕ) → nots_written (suc n) ≡ nots_written n ++ (word terminal.Not ∷ [])
one_not zero = refl
one_not (suc n) = ap (λ ss. word terminal.Not ∷ ss) (one_not n)

-- one NOT more
pub nots_next : (old mid new : Left) (n m : ℕ) → Reads old mid (nots_written n) → Reads mid new (word terminal.Not ∷ []) → m ≡ suc n → Reads old new (nots_written m)
nots_next old mid new n m x y is =
    subst (λ i. Reads old new (nots_written i)) (sym is)
    (subst (λ ss. Reads old new ss) (sym (one_not n)) (reads_both old mid new (nots_written n) (word terminal.Not ∷ []) x y))

-- one NOT more, before a condition
pub negated_next : (whole next part : Held) (n : ℕ) → part_of whole ≡ nots n (part_of part) → part_of next ≡ negation (part_of whole) → part_of next ≡ nots (n + 1) (part_of part)
negated_next whole next part n before is =
    let more : suc n ≡ n + 1 = omega arith in
    is ∙ (ap (λ p. negation p) before ∙ ap (λ m. nots m (part_of part)) more)

-- WHERE and a condition
pub reads_where : (old mid new : Left) (c : Held) → Reads old mid (word terminal.Where ∷ []) → ReadsCondition 2 mid new c → ReadsWhere true old new c
reads_where old mid new c x y =
    record { ranks = y.ranks; reads = reads_before old mid new (word terminal.Where) (part_written (part_of c)) x y.reads }

-- no WHERE
pub reads_always : (old new : Left) (c : Held) → new ≡ old → part_of c ≡ always → ReadsWhere false old new c
reads_always old new c same is =
    record {
      ranks = subst (λ q. is_where false (rank_of q) ≡ true) (sym is) refl;
      reads = subst (λ q. Reads old new (optional false terminal.Where ++ part_written q)) (sym is) (reads_none old new same);
    }

-- a select
pub reads_select : (old one two three four five new : Left) (d w : Bool) (items : List Item) (entries : List Entry) (c p : Held)
    → Reads old one (word terminal.Select ∷ []) → Reads one two (optional d terminal.Distinct) → ReadsList two three terminal.Comma item_written items
    → Reads three four (word terminal.From ∷ []) → ReadsEach four five terminal.Comma entry_written entry_stands entries → ReadsWhere w five new c
    → part_of p ≡ select d items entries w (part_of c) → ReadsBody 0 old new p
reads_select old one two three four five new d w items entries c p x0 x1 x2 x3 x4 x5 is =
    let where_part = optional w terminal.Where ++ part_written (part_of c) in
    let from_part = word terminal.From ∷ (separated terminal.Comma entry_written entries ++ where_part) in
    let stands = both_are (some items) _ x2.elements (both_are (some entries) _ x4.list.elements x4.each) in
    record {
      ranks = subst (λ q. is_body 0 (rank_of q) ≡ true) (sym is)
          (body_ranked 0 (select_stands items entries && is_where w (rank_of (part_of c))) (a_body 0)
          (both_are (select_stands items entries) (is_where w (rank_of (part_of c))) stands x5.ranks) refl);
      reads = subst (λ q. Reads old new (part_written q)) (sym is)
          (reads_around old one two new (word terminal.Select) (optional d terminal.Distinct) (separated terminal.Comma item_written items ++ from_part) x0 x1
          (reads_both two three new (separated terminal.Comma item_written items) from_part x2.reads
          (reads_around three four five new (word terminal.From) (separated terminal.Comma entry_written entries) where_part x3 x4.list.reads x5.reads)));
    }
