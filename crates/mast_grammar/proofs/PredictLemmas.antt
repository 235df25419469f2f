-- What holds of each rule and of each terminal, by computation.
use Rattle.std.proofs.Common.{◌≡◌, inl, inr, true, false, List, [], ◌∷◌, refl, subst, sym}
use Rattle.std.specs.Prelude.{◌&&◌, Bool, Option, Some, None}
use denote.Enum.Bare.{same_true, true_same}
use Rattle.mast_grammar.specs.contracts.terminal.Terminal.{the_type}
use Rattle.mast_grammar.specs.declared.terminal.Terminal.{Terminal}
use Rattle.mast_grammar.specs.declared.terminal.Terminal.TheVariants as terminal
use Rattle.mast_grammar.specs.declared.rules.Rule.{Rule}
use Rattle.mast_grammar.specs.declared.rules.Rule.TheVariants as rule
use Rattle.mast_grammar.specs.inside.Rules.{In, query_parts}
use Rattle.mast_grammar.specs.inside.Machine.{same}
use Rattle.mast_grammar.specs.inside.Predict.{all, all_terminals, fits, IsPredicted}

-- two terminals that are the same are one
pub one_terminal : (a b : Terminal) → same a b ≡ true → a ≡ b
one_terminal a b h = same_true the_type tt a b h

-- and one is the same
pub same_terminal : (a b : Terminal) → a ≡ b → same a b ≡ true
same_terminal a b e = true_same the_type a b e

-- nothing is not something
pub none_some : {A : Type 0} (x : A) → ◌≡◌ {A = Option A} None (Some x) → ⊥
none_some x e = cc

-- no test holds and does not
pub false_true : false ≡ true → ⊥
false_true e = cc

-- both tests hold
pub both : (a b : Bool) → (a && b) ≡ true → (a ≡ true) × (b ≡ true)
both true true h = (refl, refl)
both true false h = absurd (false_true h)
both false b h = absurd (false_true h)

-- a test that holds of all holds of each
pub all_in : {X : Type 0} (test : X → Bool) (xs : List X) (x : X) → all test xs ≡ true → In x xs → test x ≡ true
all_in test [] x h i = absurd i
all_in test (y ∷ ys) x h (inl e) = subst (λ z. test z ≡ true) (sym e) (both (test y) (all test ys) h).0
all_in test (y ∷ ys) x h (inr i) = all_in test ys x (both (test y) (all test ys) h).1 i

-- each terminal is among them
pub among : (k : Terminal) → In k all_terminals
among terminal.Select = inl refl
among terminal.Distinct = inr (inl refl)
among terminal.From = inr (inr (inl refl))
among terminal.Where = inr (inr (inr (inl refl)))
among terminal.As = inr (inr (inr (inr (inl refl))))
among terminal.And = inr (inr (inr (inr (inr (inl refl)))))
among terminal.Or = inr (inr (inr (inr (inr (inr (inl refl))))))
among terminal.Not = inr (inr (inr (inr (inr (inr (inr (inl refl)))))))
among terminal.Exists = inr (inr (inr (inr (inr (inr (inr (inr (inl refl))))))))
among terminal.Union = inr (inr (inr (inr (inr (inr (inr (inr (inr (inl refl)))))))))
among terminal.Except = inr (inr (inr (inr (inr (inr (inr (inr (inr (inr (inl refl))))))))))
among terminal.Intersect = inr (inr (inr (inr (inr (inr (inr (inr (inr (inr (inr (inl refl)))))))))))
among terminal.Prefix = inr (inr (inr (inr (inr (inr (inr (inr (inr (inr (inr (inr (inl refl))))))))))))
among terminal.Sparqltable = inr (inr (inr (inr (inr (inr (inr (inr (inr (inr (inr (inr (inr (inl refl)))))))))))))
among terminal.Date = inr (inr (inr (inr (inr (inr (inr (inr (inr (inr (inr (inr (inr (inr (inl refl))))))))))))))
among terminal.A = inr (inr (inr (inr (inr (inr (inr (inr (inr (inr (inr (inr (inr (inr (inr (inl refl)))))))))))))))
among terminal.Name = inr (inr (inr (inr (inr (inr (inr (inr (inr (inr (inr (inr (inr (inr (inr (inr (inl refl))))))))))))))))
among terminal.Pname = inr (inr (inr (inr (inr (inr (inr (inr (inr (inr (inr (inr (inr (inr (inr (inr (inr (inl refl)))))))))))))))))
among terminal.NewPrefix = inr (inr (inr (inr (inr (inr (inr (inr (inr (inr (inr (inr (inr (inr (inr (inr (inr (inr (inl refl))))))))))))))))))
among terminal.Var = inr (inr (inr (inr (inr (inr (inr (inr (inr (inr (inr (inr (inr (inr (inr (inr (inr (inr (inr (inl refl)))))))))))))))))))
among terminal.Iri = inr (inr (inr (inr (inr (inr (inr (inr (inr (inr (inr (inr (inr (inr (inr (inr (inr (inr (inr (inr (inl refl))))))))))))))))))))
among terminal.Integer = inr (inr (inr (inr (inr (inr (inr (inr (inr (inr (inr (inr (inr (inr (inr (inr (inr (inr (inr (inr (inr (inl refl)))))))))))))))))))))
among terminal.Quoted = inr (inr (inr (inr (inr (inr (inr (inr (inr (inr (inr (inr (inr (inr (inr (inr (inr (inr (inr (inr (inr (inr (inl refl))))))))))))))))))))))
among terminal.Doubled = inr (inr (inr (inr (inr (inr (inr (inr (inr (inr (inr (inr (inr (inr (inr (inr (inr (inr (inr (inr (inr (inr (inr (inl refl)))))))))))))))))))))))
among terminal.Open = inr (inr (inr (inr (inr (inr (inr (inr (inr (inr (inr (inr (inr (inr (inr (inr (inr (inr (inr (inr (inr (inr (inr (inr (inl refl))))))))))))))))))))))))
among terminal.Close = inr (inr (inr (inr (inr (inr (inr (inr (inr (inr (inr (inr (inr (inr (inr (inr (inr (inr (inr (inr (inr (inr (inr (inr (inr (inl refl)))))))))))))))))))))))))
among terminal.OpenBrace = inr (inr (inr (inr (inr (inr (inr (inr (inr (inr (inr (inr (inr (inr (inr (inr (inr (inr (inr (inr (inr (inr (inr (inr (inr (inr (inl refl))))))))))))))))))))))))))
among terminal.CloseBrace = inr (inr (inr (inr (inr (inr (inr (inr (inr (inr (inr (inr (inr (inr (inr (inr (inr (inr (inr (inr (inr (inr (inr (inr (inr (inr (inr (inl refl)))))))))))))))))))))))))))
among terminal.Comma = inr (inr (inr (inr (inr (inr (inr (inr (inr (inr (inr (inr (inr (inr (inr (inr (inr (inr (inr (inr (inr (inr (inr (inr (inr (inr (inr (inr (inl refl))))))))))))))))))))))))))))
among terminal.Dot = inr (inr (inr (inr (inr (inr (inr (inr (inr (inr (inr (inr (inr (inr (inr (inr (inr (inr (inr (inr (inr (inr (inr (inr (inr (inr (inr (inr (inr (inl refl)))))))))))))))))))))))))))))
among terminal.Semicolon = inr (inr (inr (inr (inr (inr (inr (inr (inr (inr (inr (inr (inr (inr (inr (inr (inr (inr (inr (inr (inr (inr (inr (inr (inr (inr (inr (inr (inr (inr (inl refl))))))))))))))))))))))))))))))
among terminal.Equal = inr (inr (inr (inr (inr (inr (inr (inr (inr (inr (inr (inr (inr (inr (inr (inr (inr (inr (inr (inr (inr (inr (inr (inr (inr (inr (inr (inr (inr (inr (inr (inl refl)))))))))))))))))))))))))))))))
among terminal.Differ = inr (inr (inr (inr (inr (inr (inr (inr (inr (inr (inr (inr (inr (inr (inr (inr (inr (inr (inr (inr (inr (inr (inr (inr (inr (inr (inr (inr (inr (inr (inr (inr (inl refl))))))))))))))))))))))))))))))))
among terminal.Carets = inr (inr (inr (inr (inr (inr (inr (inr (inr (inr (inr (inr (inr (inr (inr (inr (inr (inr (inr (inr (inr (inr (inr (inr (inr (inr (inr (inr (inr (inr (inr (inr (inr (inl refl)))))))))))))))))))))))))))))))))
among terminal.Other = inr (inr (inr (inr (inr (inr (inr (inr (inr (inr (inr (inr (inr (inr (inr (inr (inr (inr (inr (inr (inr (inr (inr (inr (inr (inr (inr (inr (inr (inr (inr (inr (inr (inr (inl refl))))))))))))))))))))))))))))))))))

-- the parts of a query can be told apart
pub query_fits : (k : Terminal) → fits query_parts k false ≡ true
query_fits k = all_in (λ j. fits query_parts j false) all_terminals k refl (among k)

-- each rule is as the proofs need it
pub predicted : (r : Rule) → IsPredicted r
predicted rule.Line = record { fronts = refl; fixed = λ k. refl; apart = refl; fit = refl; stands = refl }
predicted rule.Body = record { fronts = refl; fixed = λ k. refl; apart = refl; fit = refl; stands = refl }
predicted rule.SetTerm = record { fronts = refl; fixed = λ k. refl; apart = refl; fit = refl; stands = refl }
predicted rule.SetWord = record { fronts = refl; fixed = λ k. refl; apart = refl; fit = refl; stands = refl }
predicted rule.Term = record { fronts = refl; fixed = λ k. refl; apart = refl; fit = refl; stands = refl }
predicted rule.MetFactor = record { fronts = refl; fixed = λ k. refl; apart = refl; fit = refl; stands = refl }
predicted rule.Factor = record { fronts = refl; fixed = λ k. refl; apart = refl; fit = refl; stands = refl }
predicted rule.Select = record { fronts = refl; fixed = λ k. refl; apart = refl; fit = refl; stands = refl }
predicted rule.Distinct = record { fronts = refl; fixed = λ k. refl; apart = refl; fit = refl; stands = refl }
predicted rule.Item = record { fronts = refl; fixed = λ k. refl; apart = refl; fit = refl; stands = refl }
predicted rule.NextItem = record { fronts = refl; fixed = λ k. refl; apart = refl; fit = refl; stands = refl }
predicted rule.Output = record { fronts = refl; fixed = λ k. refl; apart = refl; fit = refl; stands = refl }
predicted rule.Column = record { fronts = refl; fixed = λ k. refl; apart = refl; fit = refl; stands = refl }
predicted rule.ColumnName = record { fronts = refl; fixed = λ k. refl; apart = refl; fit = refl; stands = refl }
predicted rule.Name = record { fronts = refl; fixed = λ k. refl; apart = refl; fit = refl; stands = refl }
predicted rule.Entry = record { fronts = refl; fixed = λ k. refl; apart = refl; fit = refl; stands = refl }
predicted rule.NextEntry = record { fronts = refl; fixed = λ k. refl; apart = refl; fit = refl; stands = refl }
predicted rule.As = record { fronts = refl; fixed = λ k. refl; apart = refl; fit = refl; stands = refl }
predicted rule.Where = record { fronts = refl; fixed = λ k. refl; apart = refl; fit = refl; stands = refl }
predicted rule.Cond = record { fronts = refl; fixed = λ k. refl; apart = refl; fit = refl; stands = refl }
predicted rule.OrConj = record { fronts = refl; fixed = λ k. refl; apart = refl; fit = refl; stands = refl }
predicted rule.Conj = record { fronts = refl; fixed = λ k. refl; apart = refl; fit = refl; stands = refl }
predicted rule.AndNeg = record { fronts = refl; fixed = λ k. refl; apart = refl; fit = refl; stands = refl }
predicted rule.Neg = record { fronts = refl; fixed = λ k. refl; apart = refl; fit = refl; stands = refl }
predicted rule.Comparison = record { fronts = refl; fixed = λ k. refl; apart = refl; fit = refl; stands = refl }
predicted rule.Operand = record { fronts = refl; fixed = λ k. refl; apart = refl; fit = refl; stands = refl }
predicted rule.OperandRest = record { fronts = refl; fixed = λ k. refl; apart = refl; fit = refl; stands = refl }
predicted rule.Values = record { fronts = refl; fixed = λ k. refl; apart = refl; fit = refl; stands = refl }
predicted rule.NextValue = record { fronts = refl; fixed = λ k. refl; apart = refl; fit = refl; stands = refl }
predicted rule.Value = record { fronts = refl; fixed = λ k. refl; apart = refl; fit = refl; stands = refl }
predicted rule.Sparql = record { fronts = refl; fixed = λ k. refl; apart = refl; fit = refl; stands = refl }
predicted rule.Var = record { fronts = refl; fixed = λ k. refl; apart = refl; fit = refl; stands = refl }
predicted rule.WhereWord = record { fronts = refl; fixed = λ k. refl; apart = refl; fit = refl; stands = refl }
predicted rule.Group = record { fronts = refl; fixed = λ k. refl; apart = refl; fit = refl; stands = refl }
predicted rule.GroupRest = record { fronts = refl; fixed = λ k. refl; apart = refl; fit = refl; stands = refl }
predicted rule.NextBlock = record { fronts = refl; fixed = λ k. refl; apart = refl; fit = refl; stands = refl }
predicted rule.Block = record { fronts = refl; fixed = λ k. refl; apart = refl; fit = refl; stands = refl }
predicted rule.MoreBlock = record { fronts = refl; fixed = λ k. refl; apart = refl; fit = refl; stands = refl }
predicted rule.Triples = record { fronts = refl; fixed = λ k. refl; apart = refl; fit = refl; stands = refl }
predicted rule.Property = record { fronts = refl; fixed = λ k. refl; apart = refl; fit = refl; stands = refl }
predicted rule.NextProperty = record { fronts = refl; fixed = λ k. refl; apart = refl; fit = refl; stands = refl }
predicted rule.Class = record { fronts = refl; fixed = λ k. refl; apart = refl; fit = refl; stands = refl }
predicted rule.NextClass = record { fronts = refl; fixed = λ k. refl; apart = refl; fit = refl; stands = refl }
predicted rule.Verb = record { fronts = refl; fixed = λ k. refl; apart = refl; fit = refl; stands = refl }
predicted rule.Object = record { fronts = refl; fixed = λ k. refl; apart = refl; fit = refl; stands = refl }
predicted rule.NextObject = record { fronts = refl; fixed = λ k. refl; apart = refl; fit = refl; stands = refl }
predicted rule.Datatype = record { fronts = refl; fixed = λ k. refl; apart = refl; fit = refl; stands = refl }
predicted rule.Semicolon = record { fronts = refl; fixed = λ k. refl; apart = refl; fit = refl; stands = refl }
