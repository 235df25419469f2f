-- The rules of the parser accept what the grammar does.
use Rattle.std.proofs.Common.{◌≡◌, ◌⊎◌, inl, inr, ℕ, zero, suc, ◌≤◌, true, false, List, [], ◌∷◌, ◌++◌, refl, ap, sym, ◌∙◌, subst, arith, append_assoc}
use Rattle.std.proofs.lemmas.List.{append-nil}
use Rattle.std.specs.Prelude.{Bool}
use Rattle.mast_grammar.specs.declared.terminal.Terminal.{Terminal}
use Rattle.mast_grammar.specs.declared.terminal.Terminal.TheVariants as terminal
use Rattle.mast_grammar.specs.declared.terminal.Terminal.TheVariants.{Integer, Quoted, Doubled, Pname, Open, Close, OpenBrace, CloseBrace, Comma, Dot, Equal, Differ, Carets}
use Rattle.mast_grammar.specs.declared.rules.Rule.{Rule}
use Rattle.mast_grammar.specs.declared.rules.Rule.TheVariants as rule
use Rattle.mast_grammar.specs.declared.rules.Part.{Part}
use Rattle.mast_grammar.specs.declared.rules.Part.TheVariants.{One, The, Maybe, Many}
use Rattle.mast_grammar.specs.Grammar.{Form, query, body, term, factor, select, item, column, entry, cond, conj, neg, operand, value, sparql, group, block, triples, property, object, iri, name, one, the, ◌·◌, ◌∣◌, maybe, many, grammar, StandsFor, IsQuery}
use Rattle.mast_grammar.specs.inside.Rules.{alternatives, query_parts, In, Reads}
use Rattle.mast_grammar.specs.inside.Predict.{all, is_front}
use Rattle.mast_grammar.proofs.PredictLemmas.{false_true, both, predicted}
use Rattle.mast_grammar.proofs.DerivativeLemmas.{May, reads_append}
use Rattle.mast_grammar.proofs.FormLemmas.{deeper, up, Stands, then_stands, left_stands, right_stands, maybe_stands, no_maybe, many_stands, no_many, the_stands, one_stands, one_of, then_of, or_of, maybe_of, the_of, maybe_left, share_stands}

-- constants in parentheses, with commas
abbrev constants : Form
constants = one Open · maybe (the value · many (one Comma · the value)) · one Close

-- a block in braces, and blocks in braces within braces, behind the first brace
abbrev one_block : Form
one_block = the block · one CloseBrace

abbrev blocks : Form
blocks =
    one OpenBrace · the block · one CloseBrace · many (one terminal.Union · one OpenBrace · the block · one CloseBrace) · one CloseBrace

-- the form that a rule of the parser is
abbrev pub form_of : Rule → Form
form_of rule.Line = one terminal.Prefix · one terminal.NewPrefix · one terminal.Iri
form_of rule.Body = the body
form_of rule.SetTerm = (one terminal.Union ∣ one terminal.Except) · the term
form_of rule.SetWord = one terminal.Union ∣ one terminal.Except
form_of rule.Term = the term
form_of rule.MetFactor = one terminal.Intersect · the factor
form_of rule.Factor = the factor
form_of rule.Select = the select
form_of rule.Distinct = one terminal.Distinct
form_of rule.Item = the item
form_of rule.NextItem = one Comma · the item
form_of rule.Output = one terminal.As · the name
form_of rule.Column = the column
form_of rule.ColumnName = one Dot · the name
form_of rule.Name = the name
form_of rule.Entry = the entry
form_of rule.NextEntry = one Comma · the entry
form_of rule.As = one terminal.As
form_of rule.Where = one terminal.Where · the cond
form_of rule.Cond = the cond
form_of rule.OrConj = one terminal.Or · the conj
form_of rule.Conj = the conj
form_of rule.AndNeg = one terminal.And · the neg
form_of rule.Neg = the neg
form_of rule.Comparison = one Equal ∣ one Differ
form_of rule.Operand = the operand
form_of rule.OperandRest = one Dot · the name ∣ constants
form_of rule.Values = the value · many (one Comma · the value)
form_of rule.NextValue = one Comma · the value
form_of rule.Value = the value
form_of rule.Sparql = the sparql
form_of rule.Var = one terminal.Var
form_of rule.WhereWord = one terminal.Where
form_of rule.Group = the group
form_of rule.GroupRest = one_block ∣ blocks
form_of rule.NextBlock = one terminal.Union · one OpenBrace · the block · one CloseBrace
form_of rule.Block = the block
form_of rule.MoreBlock = one Dot · maybe (the block)
form_of rule.Triples = the triples
form_of rule.Property = the property
form_of rule.NextProperty = one terminal.Semicolon · the property
form_of rule.Class = the iri
form_of rule.NextClass = one Comma · the iri
form_of rule.Verb = the iri
form_of rule.Object = the object
form_of rule.NextObject = one Comma · the object
form_of rule.Datatype = one Carets · the iri
form_of rule.Semicolon = one terminal.Semicolon

-- of a part
abbrev pub part_form : Part → Form
part_form (One k) = one k
part_form (The r) = form_of r
part_form (Maybe r) = maybe (form_of r)
part_form (Many r) = many (form_of r)

-- of parts, one behind another
abbrev pub sequence : Part → List Part → Form
sequence p [] = part_form p
sequence p (q ∷ ps) = part_form p · sequence q ps

-- of an alternative; none is empty
abbrev pub alternative_form : List Part → Form
alternative_form [] = one terminal.Other
alternative_form (p ∷ ps) = sequence p ps

-- of one of these alternatives
abbrev pub choice : List Part → List (List Part) → Form
choice a [] = alternative_form a
choice a (b ∷ more) = alternative_form a ∣ choice b more

-- of one of the alternatives of a rule; no rule has none
abbrev pub choices : List (List Part) → Form
choices [] = one terminal.Other
choices (a ∷ more) = choice a more

-- the parts stand for the terminals, each for its share
abbrev AllStand : List Part → List Terminal → Type 0
AllStand [] ks = ks ≡ []
AllStand (p ∷ ps) ks =
    (xs : List Terminal) × (ys : List Terminal) × (ks ≡ xs ++ ys) × Stands (part_form p) xs × AllStand ps ys

-- parts before parts
all_split : (ps qs : List Part) (ks : List Terminal) → AllStand (ps ++ qs) ks → (xs : List Terminal) × (ys : List Terminal) × (ks ≡ xs ++ ys) × AllStand ps xs × AllStand qs ys
all_split [] qs ks h = ([], ks, refl, refl, h)
all_split (p ∷ ps) qs ks h =
    let t = all_split ps qs h.1 h.4 in
    (h.0 ++ t.0, t.1, h.2 ∙ (ap (λ x. h.0 ++ x) t.2 ∙ sym (append_assoc h.0 t.0 t.1)), (h.0, t.0, refl, h.3, t.3), t.4)

sequence_back : (p : Part) (ps : List Part) (ks : List Terminal) → AllStand (p ∷ ps) ks → Stands (sequence p ps) ks
sequence_back p [] ks h =
    let e : ks ≡ h.0 = h.2 ∙ (ap (λ x. h.0 ++ x) h.4 ∙ append-nil h.0) in
    subst (λ x. Stands (part_form p) x) (sym e) h.3
sequence_back p (q ∷ ps) ks h =
    subst (λ x. Stands (sequence p (q ∷ ps)) x) (sym h.2) (then_stands (part_form p) (sequence q ps) h.0 h.1 h.3 (sequence_back q ps h.1 h.4))

alternative_back : (a : List Part) (ks : List Terminal) → is_front a ≡ true → AllStand a ks → Stands (alternative_form a) ks
alternative_back [] ks f h = absurd (false_true f)
alternative_back (p ∷ ps) ks f h = sequence_back p ps ks h

choice_back : (a : List Part) (more : List (List Part)) (b : List Part) (ks : List Terminal) → all is_front (a ∷ more) ≡ true → In b (a ∷ more) → AllStand b ks → Stands (choice a more) ks
choice_back a [] b ks f (inl e) h = alternative_back a ks (both (is_front a) true f).0 (subst (λ x. AllStand x ks) e h)
choice_back a [] b ks f (inr i) h = absurd i
choice_back a (c ∷ more) b ks f (inl e) h =
    left_stands (alternative_form a) (choice c more) ks
    (alternative_back a ks (both (is_front a) (all is_front (c ∷ more)) f).0 (subst (λ x. AllStand x ks) e h))
choice_back a (c ∷ more) b ks f (inr i) h =
    right_stands (alternative_form a) (choice c more) ks
    (choice_back c more b ks (both (is_front a) (all is_front (c ∷ more)) f).1 i h)

choices_back : (forms : List (List Part)) (b : List Part) (ks : List Terminal) → all is_front forms ≡ true → In b forms → AllStand b ks → Stands (choices forms) ks
choices_back [] b ks f i h = absurd i
choices_back (a ∷ more) b ks f i h = choice_back a more b ks f i h

-- an operand that begins with a name
name_back : (xs ys : List Terminal) → Stands (the name) xs → (ys ≡ []) ⊎ Stands (one Dot · the name ∣ constants) ys → Stands (grammar operand) (xs ++ ys)
name_back xs ys g (inl e) =
    left_stands (the column) (the value ∣ the name · constants) (xs ++ ys)
    (the_stands column (xs ++ ys) (then_stands (the name) (maybe (one Dot · the name)) xs ys g
    (subst (λ x. Stands (maybe (one Dot · the name)) x) (sym e) (no_maybe (one Dot · the name)))))
name_back xs ys g (inr h) = on (or_of h.0 (one Dot · the name) constants ys h.1)
  where
    on : Stands (one Dot · the name) ys ⊎ Stands constants ys → Stands (grammar operand) (xs ++ ys)
    on (inl m) =
        left_stands (the column) (the value ∣ the name · constants) (xs ++ ys)
        (the_stands column (xs ++ ys) (then_stands (the name) (maybe (one Dot · the name)) xs ys g (maybe_stands (one Dot · the name) ys m)))
    on (inr m) =
        right_stands (the column) (the value ∣ the name · constants) (xs ++ ys)
        (right_stands (the value) (the name · constants) (xs ++ ys) (then_stands (the name) constants xs ys g m))

operand_back : (ks : List Terminal) → Stands (the value ∣ the name · maybe (one Dot · the name ∣ constants)) ks → Stands (the operand) ks
operand_back ks h = the_stands operand ks (on (or_of h.0 (the value) (the name · maybe (one Dot · the name ∣ constants)) ks h.1))
  where
    on : Stands (the value) ks ⊎ Stands (the name · maybe (one Dot · the name ∣ constants)) ks → Stands (grammar operand) ks
    on (inl m) =
        right_stands (the column) (the value ∣ the name · constants) ks (left_stands (the value) (the name · constants) ks m)
    on (inr m) =
        let t = then_of m.0 (the name) (maybe (one Dot · the name ∣ constants)) ks m.1 in
        subst (λ x. Stands (grammar operand) x) (sym t.2) (name_back t.0 t.1 t.3 (maybe_of t.4.0 (one Dot · the name ∣ constants) t.1 t.4.1))

-- triples, each behind a dot, and a dot or none
abbrev dotted : Form
dotted = many (one Dot · the triples) · maybe (one Dot)

no_dotted : Stands dotted []
no_dotted = then_stands (many (one Dot · the triples)) (maybe (one Dot)) [] [] (no_many (one Dot · the triples)) (no_maybe (one Dot))

last_dot : (ks : List Terminal) → Stands (one Dot) ks → Stands dotted ks
last_dot ks h = then_stands (many (one Dot · the triples)) (maybe (one Dot)) [] ks (no_many (one Dot · the triples)) (maybe_stands (one Dot) ks h)

-- a dot, and a block
dot_block : (xs ys : List Terminal) → Stands (one Dot) xs → Stands (grammar block) ys → Stands dotted (xs ++ ys)
dot_block xs ys h g =
    let t = then_of g.0 (the triples) dotted ys g.1 in
    let u = then_of t.4.0 (many (one Dot · the triples)) (maybe (one Dot)) t.1 t.4.1 in
    let front = then_stands (one Dot) (the triples) xs t.0 h t.3 in
    let most = many_stands (one Dot · the triples) (xs ++ t.0) u.0 front u.3 in
    let all = then_stands (many (one Dot · the triples)) (maybe (one Dot)) ((xs ++ t.0) ++ u.0) u.1 most u.4 in
    let e : ((xs ++ t.0) ++ u.0) ++ u.1 ≡ xs ++ ys =
    append_assoc (xs ++ t.0) u.0 u.1 ∙ (ap (λ x. (xs ++ t.0) ++ x) (sym u.2) ∙ (append_assoc xs t.0 t.1 ∙ ap (λ x. xs ++ x) (sym t.2))) in
    subst (λ x. Stands dotted x) e all

more_back : (ks : List Terminal) → (ks ≡ []) ⊎ Stands (one Dot · maybe (the block)) ks → Stands dotted ks
more_back ks (inl e) = subst (λ x. Stands dotted x) (sym e) no_dotted
more_back ks (inr h) =
    let t = then_of h.0 (one Dot) (maybe (the block)) ks h.1 in
    subst (λ x. Stands dotted x) (sym t.2) (on t.0 t.1 t.3 (maybe_of t.4.0 (the block) t.1 t.4.1))
  where
    on : (xs ys : List Terminal) → Stands (one Dot) xs → (ys ≡ []) ⊎ Stands (the block) ys → Stands dotted (xs ++ ys)
    on xs ys g (inl e) = subst (λ x. Stands dotted x) (sym (append-nil xs) ∙ ap (λ x. xs ++ x) (sym e)) (last_dot xs g)
    on xs ys g (inr m) = dot_block xs ys g (the_of m.0 block ys m.1)

block_back : (ks : List Terminal) → Stands (the triples · maybe (one Dot · maybe (the block))) ks → Stands (the block) ks
block_back ks h =
    let t = then_of h.0 (the triples) (maybe (one Dot · maybe (the block))) ks h.1 in
    let more = more_back t.1 (maybe_of t.4.0 (one Dot · maybe (the block)) t.1 t.4.1) in
    the_stands block ks (subst (λ x. Stands (grammar block) x) (sym t.2) (then_stands (the triples) dotted t.0 t.1 t.3 more))

-- one of the alternatives of a rule is the form of the rule
rule_back : (r : Rule) (ks : List Terminal) → Stands (choices (alternatives r)) ks → Stands (form_of r) ks
rule_back rule.Line ks h = h
rule_back rule.Body ks h = the_stands body ks h
rule_back rule.SetTerm ks h = h
rule_back rule.SetWord ks h = h
rule_back rule.Term ks h = the_stands term ks h
rule_back rule.MetFactor ks h = h
rule_back rule.Factor ks h = the_stands factor ks h
rule_back rule.Select ks h = the_stands select ks h
rule_back rule.Distinct ks h = h
rule_back rule.Item ks h = the_stands item ks h
rule_back rule.NextItem ks h = h
rule_back rule.Output ks h = h
rule_back rule.Column ks h = the_stands column ks h
rule_back rule.ColumnName ks h = h
rule_back rule.Name ks h = the_stands name ks h
rule_back rule.Entry ks h = the_stands entry ks h
rule_back rule.NextEntry ks h = h
rule_back rule.As ks h = h
rule_back rule.Where ks h = h
rule_back rule.Cond ks h = the_stands cond ks h
rule_back rule.OrConj ks h = h
rule_back rule.Conj ks h = the_stands conj ks h
rule_back rule.AndNeg ks h = h
rule_back rule.Neg ks h = the_stands neg ks h
rule_back rule.Comparison ks h = h
rule_back rule.Operand ks h = operand_back ks h
rule_back rule.OperandRest ks h = h
rule_back rule.Values ks h = h
rule_back rule.NextValue ks h = h
rule_back rule.Value ks h = the_stands value ks h
rule_back rule.Sparql ks h = the_stands sparql ks h
rule_back rule.Var ks h = h
rule_back rule.WhereWord ks h = h
rule_back rule.Group ks h = the_stands group ks (share_stands (one OpenBrace) one_block blocks ks h)
rule_back rule.GroupRest ks h = h
rule_back rule.NextBlock ks h = h
rule_back rule.Block ks h = block_back ks h
rule_back rule.MoreBlock ks h = h
rule_back rule.Triples ks h = the_stands triples ks h
rule_back rule.Property ks h = the_stands property ks h
rule_back rule.NextProperty ks h = h
rule_back rule.Class ks h = the_stands iri ks h
rule_back rule.NextClass ks h = h
rule_back rule.Verb ks h = the_stands iri ks h
rule_back rule.Object ks h = the_stands object ks h
rule_back rule.NextObject ks h = h
rule_back rule.Datatype ks h = h
rule_back rule.Semicolon ks h = h

reads_back : (n : ℕ) (ps : List Part) (ks : List Terminal) → Reads n ps ks → AllStand ps ks
reads_back n [] ks h = h
reads_back zero (p ∷ ps) ks h = absurd h
reads_back (suc n) (One k ∷ ps) ks h = (k ∷ [], h.0, h.1, one_stands k, reads_back n ps h.0 h.2)
reads_back (suc n) (The r ∷ ps) ks h =
    let t = all_split h.0 ps ks (reads_back n (h.0 ++ ps) ks h.2) in
    (t.0, t.1, t.2, rule_back r t.0 (choices_back (alternatives r) h.0 t.0 (predicted r).fronts h.1 t.3), t.4)
reads_back (suc n) (Maybe r ∷ ps) ks (inl h) = ([], ks, refl, no_maybe (form_of r), reads_back n ps ks h)
reads_back (suc n) (Maybe r ∷ ps) ks (inr h) =
    let t = reads_back n (The r ∷ ps) ks h in (t.0, t.1, t.2, maybe_stands (form_of r) t.0 t.3, t.4)
reads_back (suc n) (Many r ∷ ps) ks (inl h) = ([], ks, refl, no_many (form_of r), reads_back n ps ks h)
reads_back (suc n) (Many r ∷ ps) ks (inr h) =
    let t = reads_back n (The r ∷ (Many r ∷ ps)) ks h in
    let u = t.4 in
    (t.0 ++ u.0, u.1, t.2 ∙ (ap (λ x. t.0 ++ x) u.2 ∙ sym (append_assoc t.0 u.0 u.1)), many_stands (form_of r) t.0 u.0 t.3 u.3, u.4)

-- what the parser accepts is a query
pub query_back : (ks : List Terminal) → May query_parts ks → (levels : ℕ) × IsQuery ks levels
query_back ks h =
    the_stands query ks (sequence_back (Many rule.Line) (The rule.Body ∷ Maybe rule.Semicolon ∷ []) ks (reads_back h.0 query_parts ks h.1))

-- a part stands for terminals, by a derivation of so many levels at most
abbrev PartAt : ℕ → Part → List Terminal → Type 0
PartAt n (One k) ks = ks ≡ k ∷ []
PartAt n (The r) ks = StandsFor n (form_of r) ks
PartAt n (Maybe r) ks = StandsFor n (maybe (form_of r)) ks
PartAt n (Many r) ks = StandsFor n (many (form_of r)) ks

-- parts, each for its share
abbrev AllAt : ℕ → List Part → List Terminal → Type 0
AllAt n [] ks = ks ≡ []
AllAt n (p ∷ ps) ks = (xs : List Terminal) × (ys : List Terminal) × (ks ≡ xs ++ ys) × PartAt n p xs × AllAt n ps ys

part_at : (n m : ℕ) (p : Part) (ks : List Terminal) → n ≤ m → StandsFor n (part_form p) ks → PartAt m p ks
part_at n m (One k) ks l h = one_of n k ks h
part_at n m (The r) ks l h = deeper n m (form_of r) ks l h
part_at n m (Maybe r) ks l h = deeper n m (maybe (form_of r)) ks l h
part_at n m (Many r) ks l h = deeper n m (many (form_of r)) ks l h

sequence_at : (n m : ℕ) (p : Part) (ps : List Part) (ks : List Terminal) → n ≤ m → StandsFor n (sequence p ps) ks → AllAt m (p ∷ ps) ks
sequence_at n m p [] ks l h = (ks, [], sym (append-nil ks), part_at n m p ks l h, refl)
sequence_at zero m p (q ∷ ps) ks l h = absurd h
sequence_at (suc n) m p (q ∷ ps) ks l h =
    (h.0, h.1, h.2, part_at n m p h.0 (omega arith) h.3, sequence_at n m q ps h.1 (omega arith) h.4)

alternative_at : (n m : ℕ) (a : List Part) (ks : List Terminal) → n ≤ m → is_front a ≡ true → StandsFor n (alternative_form a) ks → AllAt m a ks
alternative_at n m [] ks l f h = absurd (false_true f)
alternative_at n m (p ∷ ps) ks l f h = sequence_at n m p ps ks l h

-- one of the alternatives stands for the terminals
abbrev OneAt : ℕ → List (List Part) → List Terminal → Type 0
OneAt n forms ks = (b : List Part) × In b forms × AllAt n b ks

choice_at : (n m : ℕ) (a : List Part) (more : List (List Part)) (ks : List Terminal) → n ≤ m → all is_front (a ∷ more) ≡ true → StandsFor n (choice a more) ks → OneAt m (a ∷ more) ks
choice_at n m a [] ks l f h = (a, inl refl, alternative_at n m a ks l (both (is_front a) true f).0 h)
choice_at zero m a (c ∷ more) ks l f h = absurd h
choice_at (suc n) m a (c ∷ more) ks l f (inl h) =
    (a, inl refl, alternative_at n m a ks (omega arith) (both (is_front a) (all is_front (c ∷ more)) f).0 h)
choice_at (suc n) m a (c ∷ more) ks l f (inr h) =
    let t = choice_at n m c more ks (omega arith) (both (is_front a) (all is_front (c ∷ more)) f).1 h in (t.0, inr t.1, t.2)

-- a lone alternative is a lone terminal or has two parts
abbrev descends : List (List Part) → Bool
descends [] = false
descends ([] ∷ more) = false
descends (((One k) ∷ []) ∷ []) = true
descends (((The r) ∷ []) ∷ []) = false
descends (((Maybe r) ∷ []) ∷ []) = false
descends (((Many r) ∷ []) ∷ []) = false
descends ((p ∷ (q ∷ ps)) ∷ []) = true
descends ((p ∷ ps) ∷ (b ∷ more)) = true

-- the parts of the alternative have derivations of fewer levels
descend : (forms : List (List Part)) (n : ℕ) (ks : List Terminal) → descends forms ≡ true → all is_front forms ≡ true → StandsFor (suc n) (choices forms) ks → OneAt n forms ks
descend [] n ks d f h = absurd (false_true d)
descend ([] ∷ more) n ks d f h = absurd (false_true d)
descend ((One k ∷ []) ∷ []) n ks d f h = (One k ∷ [], inl refl, (ks, [], sym (append-nil ks), h, refl))
descend ((The r ∷ []) ∷ []) n ks d f h = absurd (false_true d)
descend ((Maybe r ∷ []) ∷ []) n ks d f h = absurd (false_true d)
descend ((Many r ∷ []) ∷ []) n ks d f h = absurd (false_true d)
descend ((p ∷ (q ∷ ps)) ∷ []) n ks d f h =
    (p ∷ (q ∷ ps), inl refl, (h.0, h.1, h.2, part_at n n p h.0 (omega arith) h.3, sequence_at n n q ps h.1 (omega arith) h.4))
descend ((p ∷ ps) ∷ (b ∷ more)) n ks d f (inl h) = (p ∷ ps, inl refl, sequence_at n n p ps ks (omega arith) h)
descend ((p ∷ ps) ∷ (b ∷ more)) n ks d f (inr h) =
    let t = choice_at n n b more ks (omega arith) (both (is_front (p ∷ ps)) (all is_front (b ∷ more)) f).1 h in (t.0, inr t.1, t.2)

column_forth : (n : ℕ) (ks : List Terminal) → StandsFor n (the name · maybe (one Dot · the name)) ks → OneAt (suc n) (alternatives rule.Operand) ks
column_forth zero ks h = absurd h
column_forth (suc n) ks h =
    let ys = h.1 in
    let rest = deeper (suc n) (suc (suc n)) (maybe (one Dot · the name ∣ constants)) ys (omega arith) (maybe_left n (one Dot · the name) constants ys h.4) in (
      The rule.Name ∷ Maybe rule.OperandRest ∷ [],
      inr (inl refl),
      (h.0, ys, h.2, deeper n (suc (suc n)) (the name) h.0 (omega arith) h.3, (ys, [], sym (append-nil ys), rest, refl)),
    )

constants_forth : (n : ℕ) (ks : List Terminal) → StandsFor n (the name · constants) ks → OneAt (suc n) (alternatives rule.Operand) ks
constants_forth zero ks h = absurd h
constants_forth (suc n) ks h =
    let ys = h.1 in
    let m : StandsFor (suc n) (one Dot · the name ∣ constants) ys = inr h.4 in
    let rest : StandsFor (suc (suc n)) (maybe (one Dot · the name ∣ constants)) ys = inr m in (
      The rule.Name ∷ Maybe rule.OperandRest ∷ [],
      inr (inl refl),
      (h.0, ys, h.2, deeper n (suc (suc n)) (the name) h.0 (omega arith) h.3, (ys, [], sym (append-nil ys), rest, refl)),
    )

-- what stands below stands above
part_up : (n m : ℕ) (p : Part) (ks : List Terminal) → n ≤ m → PartAt n p ks → PartAt m p ks
part_up n m (One k) ks l h = h
part_up n m (The r) ks l h = deeper n m (form_of r) ks l h
part_up n m (Maybe r) ks l h = deeper n m (maybe (form_of r)) ks l h
part_up n m (Many r) ks l h = deeper n m (many (form_of r)) ks l h

all_up : (n m : ℕ) (ps : List Part) (ks : List Terminal) → n ≤ m → AllAt n ps ks → AllAt m ps ks
all_up n m [] ks l h = h
all_up n m (p ∷ ps) ks l h = (h.0, h.1, h.2, part_up n m p h.0 l h.3, all_up n m ps h.1 l h.4)

one_up : (n m : ℕ) (forms : List (List Part)) (ks : List Terminal) → n ≤ m → OneAt n forms ks → OneAt m forms ks
one_up n m forms ks l h = (h.0, h.1, all_up n m h.0 ks l h.2)

column_of : (n : ℕ) (ks : List Terminal) → StandsFor n (the column) ks → OneAt (suc n) (alternatives rule.Operand) ks
column_of zero ks h = absurd h
column_of (suc n) ks h = one_up (suc n) (suc (suc n)) (alternatives rule.Operand) ks (omega arith) (column_forth n ks h)

value_of : (n : ℕ) (ks : List Terminal) → StandsFor n (the value ∣ the name · constants) ks → OneAt (suc n) (alternatives rule.Operand) ks
value_of zero ks h = absurd h
value_of (suc n) ks (inl h) =
    (The rule.Value ∷ [], inl refl, (ks, [], sym (append-nil ks), deeper n (suc (suc n)) (the value) ks (omega arith) h, refl))
value_of (suc n) ks (inr h) = one_up (suc n) (suc (suc n)) (alternatives rule.Operand) ks (omega arith) (constants_forth n ks h)

operand_forth : (n : ℕ) (ks : List Terminal) → StandsFor n (grammar operand) ks → OneAt n (alternatives rule.Operand) ks
operand_forth zero ks h = absurd h
operand_forth (suc n) ks (inl h) = column_of n ks h
operand_forth (suc n) ks (inr h) = value_of n ks h

brace_forth : (n : ℕ) (b : Form) (ks : List Terminal) → ((ys : List Terminal) → StandsFor n b ys → StandsFor (suc n) (one_block ∣ blocks) ys) → StandsFor (suc n) (one OpenBrace · b) ks → OneAt (suc n) (alternatives rule.Group) ks
brace_forth n b ks f h = (
  One OpenBrace ∷ The rule.GroupRest ∷ [],
  inl refl,
  (h.0, h.1, h.2, one_of n OpenBrace h.0 h.3, (h.1, [], sym (append-nil h.1), f h.1 h.4, refl)),
)

braces_forth : (n : ℕ) (ks : List Terminal) → StandsFor n (one OpenBrace · one_block) ks ⊎ StandsFor n (one OpenBrace · blocks) ks → OneAt (suc n) (alternatives rule.Group) ks
braces_forth zero ks (inl h) = absurd h
braces_forth zero ks (inr h) = absurd h
braces_forth (suc n) ks (inl h) = one_up (suc n) (suc (suc n)) (alternatives rule.Group) ks (omega arith) (brace_forth n one_block ks (λ ys g. inl g) h)
braces_forth (suc n) ks (inr h) = one_up (suc n) (suc (suc n)) (alternatives rule.Group) ks (omega arith) (brace_forth n blocks ks (λ ys g. inr g) h)

group_forth : (n : ℕ) (ks : List Terminal) → StandsFor n (grammar group) ks → OneAt n (alternatives rule.Group) ks
group_forth zero ks h = absurd h
group_forth (suc n) ks h = braces_forth n ks h

-- each part that has a derivation of so many levels at most is accepted
abbrev Rec : ℕ → Type 0
Rec n = (p : Part) (ks : List Terminal) → PartAt n p ks → May (p ∷ []) ks

all_may : (n : ℕ) → Rec n → (ps : List Part) (ks : List Terminal) → AllAt n ps ks → May ps ks
all_may n rec [] ks h = (zero, h)
all_may n rec (p ∷ ps) ks h =
    let t = rec p h.0 h.3 in
    subst (λ x. May (p ∷ ps) x) (sym h.2) (reads_append t.0 (p ∷ []) ps h.0 h.1 t.1 (all_may n rec ps h.1 h.4))

alternative_may : (r : Rule) (b : List Part) (ks : List Terminal) → In b (alternatives r) → May b ks → May (The r ∷ []) ks
alternative_may r b ks i m = (suc m.0, (b, i, subst (λ x. Reads m.0 x ks) (sym (append-nil b)) m.1))

one_may : (r : Rule) (n : ℕ) → Rec n → (ks : List Terminal) → OneAt n (alternatives r) ks → May (The r ∷ []) ks
one_may r n rec ks h = alternative_may r h.0 ks h.1 (all_may n rec h.0 ks h.2)

-- triples, and what follows them
triples_may : (n : ℕ) → Rec n → (xs ys : List Terminal) → StandsFor n (the triples) xs → May (Maybe rule.MoreBlock ∷ []) ys → May (The rule.Block ∷ []) (xs ++ ys)
triples_may n rec xs ys h m =
    let t = rec (The rule.Triples) xs h in
    alternative_may rule.Block (The rule.Triples ∷ Maybe rule.MoreBlock ∷ []) (xs ++ ys) (inl refl)
    (reads_append t.0 (The rule.Triples ∷ []) (Maybe rule.MoreBlock ∷ []) xs ys t.1 m)

-- a dot, and a block or none
dot_may : (ks : List Terminal) → May (Maybe rule.Block ∷ []) ks → May (Maybe rule.MoreBlock ∷ []) (Dot ∷ ks)
dot_may ks m =
    let t = alternative_may rule.MoreBlock (One Dot ∷ Maybe rule.Block ∷ []) (Dot ∷ ks) (inl refl) (suc m.0, (ks, refl, m.1)) in
    (suc t.0, inr t.1)

last_may : (n : ℕ) (ks : List Terminal) → StandsFor n (maybe (one Dot)) ks → May (Maybe rule.MoreBlock ∷ []) ks
last_may n ks h = on (maybe_of n (one Dot) ks h)
  where
    on : (ks ≡ []) ⊎ Stands (one Dot) ks → May (Maybe rule.MoreBlock ∷ []) ks
    on (inl e) = (suc zero, inl e)
    on (inr m) = subst (λ x. May (Maybe rule.MoreBlock ∷ []) x) (sym (one_of m.0 Dot ks m.1)) (dot_may [] (suc zero, inl refl))

more_may : (n : ℕ) → Rec n → (m : ℕ) (ks js : List Terminal) → m ≤ n → StandsFor m (many (one Dot · the triples)) ks → May (Maybe rule.MoreBlock ∷ []) js → May (Maybe rule.MoreBlock ∷ []) (ks ++ js)
more_may n rec zero ks js l h g = absurd h
more_may n rec (suc m) ks js l (inl e) g = subst (λ x. May (Maybe rule.MoreBlock ∷ []) (x ++ js)) (sym e) g
more_may n rec (suc zero) ks js l (inr h) g = absurd h
more_may n rec (suc (suc zero)) ks js l (inr h) g = absurd h.3
more_may n rec (suc (suc (suc m))) ks js l (inr h) g =
    let d = h.3 in
    let inner = more_may n rec (suc m) h.1 js (omega arith) h.4 g in
    let b = triples_may n rec d.1 (h.1 ++ js) (deeper m n (the triples) d.1 (omega arith) d.4) inner in
    let e : ks ++ js ≡ Dot ∷ (d.1 ++ (h.1 ++ js)) =
    ap (λ x. x ++ js) h.2 ∙ (ap (λ x. (x ++ h.1) ++ js) d.2
    ∙ (ap (λ x. ((x ++ d.1) ++ h.1) ++ js) (one_of m Dot d.0 d.3) ∙ ap (λ x. Dot ∷ x) (append_assoc d.1 h.1 js))) in
    subst (λ x. May (Maybe rule.MoreBlock ∷ []) x) (sym e) (dot_may (d.1 ++ (h.1 ++ js)) (suc b.0, inr b.1))

rest_may : (n : ℕ) → Rec n → (m : ℕ) (ks : List Terminal) → m ≤ n → StandsFor m dotted ks → May (Maybe rule.MoreBlock ∷ []) ks
rest_may n rec zero ks l h = absurd h
rest_may n rec (suc m) ks l h =
    subst (λ x. May (Maybe rule.MoreBlock ∷ []) x) (sym h.2) (more_may n rec m h.0 h.1 (omega arith) h.3 (last_may m h.1 h.4))

block_may : (n : ℕ) → Rec n → (m : ℕ) (ks : List Terminal) → m ≤ n → StandsFor m (grammar block) ks → May (The rule.Block ∷ []) ks
block_may n rec zero ks l h = absurd h
block_may n rec (suc m) ks l h =
    subst (λ x. May (The rule.Block ∷ []) x) (sym h.2)
    (triples_may n rec h.0 h.1 (deeper m n (the triples) h.0 (omega arith) h.3) (rest_may n rec m h.1 (omega arith) h.4))

-- the form of a rule is one of its alternatives
rule_may : (r : Rule) (n : ℕ) → Rec n → (ks : List Terminal) → StandsFor (suc n) (form_of r) ks → May (The r ∷ []) ks
rule_may rule.Line n rec ks h = one_may rule.Line n rec ks (descend (alternatives rule.Line) n ks refl refl h)
rule_may rule.Body n rec ks h = one_may rule.Body n rec ks (descend (alternatives rule.Body) n ks refl refl (up n (grammar body) ks h))
rule_may rule.SetTerm n rec ks h = one_may rule.SetTerm n rec ks (descend (alternatives rule.SetTerm) n ks refl refl h)
rule_may rule.SetWord n rec ks h = one_may rule.SetWord n rec ks (descend (alternatives rule.SetWord) n ks refl refl h)
rule_may rule.Term n rec ks h = one_may rule.Term n rec ks (descend (alternatives rule.Term) n ks refl refl (up n (grammar term) ks h))
rule_may rule.MetFactor n rec ks h = one_may rule.MetFactor n rec ks (descend (alternatives rule.MetFactor) n ks refl refl h)
rule_may rule.Factor n rec ks h = one_may rule.Factor n rec ks (descend (alternatives rule.Factor) n ks refl refl (up n (grammar factor) ks h))
rule_may rule.Select n rec ks h = one_may rule.Select n rec ks (descend (alternatives rule.Select) n ks refl refl (up n (grammar select) ks h))
rule_may rule.Distinct n rec ks h = one_may rule.Distinct n rec ks (descend (alternatives rule.Distinct) n ks refl refl h)
rule_may rule.Item n rec ks h = one_may rule.Item n rec ks (descend (alternatives rule.Item) n ks refl refl (up n (grammar item) ks h))
rule_may rule.NextItem n rec ks h = one_may rule.NextItem n rec ks (descend (alternatives rule.NextItem) n ks refl refl h)
rule_may rule.Output n rec ks h = one_may rule.Output n rec ks (descend (alternatives rule.Output) n ks refl refl h)
rule_may rule.Column n rec ks h = one_may rule.Column n rec ks (descend (alternatives rule.Column) n ks refl refl (up n (grammar column) ks h))
rule_may rule.ColumnName n rec ks h = one_may rule.ColumnName n rec ks (descend (alternatives rule.ColumnName) n ks refl refl h)
rule_may rule.Name n rec ks h = one_may rule.Name n rec ks (descend (alternatives rule.Name) n ks refl refl (up n (grammar name) ks h))
rule_may rule.Entry n rec ks h = one_may rule.Entry n rec ks (descend (alternatives rule.Entry) n ks refl refl (up n (grammar entry) ks h))
rule_may rule.NextEntry n rec ks h = one_may rule.NextEntry n rec ks (descend (alternatives rule.NextEntry) n ks refl refl h)
rule_may rule.As n rec ks h = one_may rule.As n rec ks (descend (alternatives rule.As) n ks refl refl h)
rule_may rule.Where n rec ks h = one_may rule.Where n rec ks (descend (alternatives rule.Where) n ks refl refl h)
rule_may rule.Cond n rec ks h = one_may rule.Cond n rec ks (descend (alternatives rule.Cond) n ks refl refl (up n (grammar cond) ks h))
rule_may rule.OrConj n rec ks h = one_may rule.OrConj n rec ks (descend (alternatives rule.OrConj) n ks refl refl h)
rule_may rule.Conj n rec ks h = one_may rule.Conj n rec ks (descend (alternatives rule.Conj) n ks refl refl (up n (grammar conj) ks h))
rule_may rule.AndNeg n rec ks h = one_may rule.AndNeg n rec ks (descend (alternatives rule.AndNeg) n ks refl refl h)
rule_may rule.Neg n rec ks h = one_may rule.Neg n rec ks (descend (alternatives rule.Neg) n ks refl refl (up n (grammar neg) ks h))
rule_may rule.Comparison n rec ks h = one_may rule.Comparison n rec ks (descend (alternatives rule.Comparison) n ks refl refl h)
rule_may rule.Operand n rec ks h = one_may rule.Operand n rec ks (operand_forth n ks h)
rule_may rule.OperandRest n rec ks h = one_may rule.OperandRest n rec ks (descend (alternatives rule.OperandRest) n ks refl refl h)
rule_may rule.Values n rec ks h = one_may rule.Values n rec ks (descend (alternatives rule.Values) n ks refl refl h)
rule_may rule.NextValue n rec ks h = one_may rule.NextValue n rec ks (descend (alternatives rule.NextValue) n ks refl refl h)
rule_may rule.Value n rec ks h = one_may rule.Value n rec ks (descend (alternatives rule.Value) n ks refl refl (up n (grammar value) ks h))
rule_may rule.Sparql n rec ks h = one_may rule.Sparql n rec ks (descend (alternatives rule.Sparql) n ks refl refl (up n (grammar sparql) ks h))
rule_may rule.Var n rec ks h = one_may rule.Var n rec ks (descend (alternatives rule.Var) n ks refl refl h)
rule_may rule.WhereWord n rec ks h = one_may rule.WhereWord n rec ks (descend (alternatives rule.WhereWord) n ks refl refl h)
rule_may rule.Group n rec ks h = one_may rule.Group n rec ks (group_forth n ks h)
rule_may rule.GroupRest n rec ks h = one_may rule.GroupRest n rec ks (descend (alternatives rule.GroupRest) n ks refl refl h)
rule_may rule.NextBlock n rec ks h = one_may rule.NextBlock n rec ks (descend (alternatives rule.NextBlock) n ks refl refl h)
rule_may rule.Block n rec ks h = block_may n rec n ks (omega arith) h
rule_may rule.MoreBlock n rec ks h = one_may rule.MoreBlock n rec ks (descend (alternatives rule.MoreBlock) n ks refl refl h)
rule_may rule.Triples n rec ks h = one_may rule.Triples n rec ks (descend (alternatives rule.Triples) n ks refl refl (up n (grammar triples) ks h))
rule_may rule.Property n rec ks h = one_may rule.Property n rec ks (descend (alternatives rule.Property) n ks refl refl (up n (grammar property) ks h))
rule_may rule.NextProperty n rec ks h = one_may rule.NextProperty n rec ks (descend (alternatives rule.NextProperty) n ks refl refl h)
rule_may rule.Class n rec ks h = one_may rule.Class n rec ks (descend (alternatives rule.Class) n ks refl refl (up n (grammar iri) ks h))
rule_may rule.NextClass n rec ks h = one_may rule.NextClass n rec ks (descend (alternatives rule.NextClass) n ks refl refl h)
rule_may rule.Verb n rec ks h = one_may rule.Verb n rec ks (descend (alternatives rule.Verb) n ks refl refl (up n (grammar iri) ks h))
rule_may rule.Object n rec ks h = one_may rule.Object n rec ks (descend (alternatives rule.Object) n ks refl refl (up n (grammar object) ks h))
rule_may rule.NextObject n rec ks h = one_may rule.NextObject n rec ks (descend (alternatives rule.NextObject) n ks refl refl h)
rule_may rule.Datatype n rec ks h = one_may rule.Datatype n rec ks (descend (alternatives rule.Datatype) n ks refl refl h)
rule_may rule.Semicolon n rec ks h = one_may rule.Semicolon n rec ks (descend (alternatives rule.Semicolon) n ks refl refl h)

many_may : (r : Rule) (n : ℕ) → Rec n → (ks : List Terminal) → StandsFor n (form_of r · many (form_of r)) ks → May (Many r ∷ []) ks
many_may r zero rec ks h = absurd h
many_may r (suc n) rec ks h =
    let t = rec (The r) h.0 (up n (form_of r) h.0 h.3) in
    let u = rec (Many r) h.1 (up n (many (form_of r)) h.1 h.4) in
    let m = reads_append t.0 (The r ∷ []) (Many r ∷ []) h.0 h.1 t.1 u in
    subst (λ x. May (Many r ∷ []) x) (sym h.2) (suc m.0, inr m.1)

part_may : (n : ℕ) → Rec n
part_may zero (One k) ks h = (suc zero, ([], h, refl))
part_may zero (The r) ks h = absurd h
part_may zero (Maybe r) ks h = absurd h
part_may zero (Many r) ks h = absurd h
part_may (suc n) (One k) ks h = (suc zero, ([], h, refl))
part_may (suc n) (The r) ks h = rule_may r n (λ p js g. part_may n p js g) ks h
part_may (suc n) (Maybe r) ks (inl e) = (suc zero, inl e)
part_may (suc n) (Maybe r) ks (inr h) = let t = part_may n (The r) ks h in (suc t.0, inr t.1)
part_may (suc n) (Many r) ks (inl e) = (suc zero, inl e)
part_may (suc n) (Many r) ks (inr h) = many_may r n (λ p js g. part_may n p js g) ks h

-- a query is what the parser accepts
pub query_forth : (ks : List Terminal) (levels : ℕ) → IsQuery ks levels → May query_parts ks
query_forth ks zero h = absurd h
query_forth ks (suc n) h =
    all_may n (part_may n) query_parts ks (sequence_at n n (Many rule.Line) (The rule.Body ∷ Maybe rule.Semicolon ∷ []) ks (omega arith) h)
