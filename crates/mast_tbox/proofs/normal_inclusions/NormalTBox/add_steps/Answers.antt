use Rattle.std.proofs.Common.{◌≡◌, ap, sym, ◌∙◌, map, List, ◌++◌}
use Rattle.std.proofs.lemmas.Result.{IfOk-equal}
use Rattle.indexmap.specs.IndexSet.{insert_all}
use Rattle.mast_cq.specs.contracts.atom.AtomPartialEq.TheImpl as atom
use Rattle.mast_cq.specs.declared.atom.Atom.{Atom}
use Rattle.mast_tbox.specs.inside.StepLists.{steps_of, if_blank}
use Rattle.mast_tbox.specs.Expressions.{at, pair}
use Rattle.mast_tbox.specs.Inclusions.{directly_below}
use Rattle.mast_tbox.specs.declared.expression.RoleExpr.TheVariants.{Direct, Inverse}
use Rattle.mast_tbox.specs.declared.expression.Basic.{Basic}
use Rattle.mast_tbox.specs.declared.expression.Basic.TheVariants.{Some as BSome}
use Rattle.mast_tbox.specs.declared.expression.Prop.{Prop}
use Rattle.mast_tbox.proofs.IndexLemmas.{three_joined}
use Rattle.mast_tbox.proofs.normal_inclusions.NormalTBox.add_steps.Goals as goal

pub returns-in_ok-add_if_blank-in-Role-2 : goal.returns-in_ok-add_if_blank-in-Role-2
returns-in_ok-add_if_blank-in-Role-2 c =
    let x = c.in-Role.from in
    let y = c.in-Role.to in
    let xs : List Basic → List Atom = (λ w. if_blank y (map (λ b. at b x) w)) in
    let ys : List Basic → List Atom = (λ w. if_blank x (map (λ b. at b y) w)) in
    let zs : List Prop → List Atom = (λ w. map (λ p. pair p x y) w) in
    let one = directly_below c.args.self.now (BSome (Direct c.in-Role.name)) in
    let two = directly_below c.args.self.now (BSome (Inverse c.in-Role.name)) in
    let first : c.below-in-Role.result.now ≡ one = c.below-in-Role.ensures in
    let second : c.below-in-Role-2.result.now ≡ two = c.below-in-Role-2.ensures ∙ ap (λ r. directly_below c.args.self.now (BSome r)) c.inverse.ensures in
    IfOk-equal c.add_pairs.result c.add_pairs.new.set.keys (insert_all atom.eq-value.it c.add_if_blank-in-Role.new.set.keys (zs c.narrower.result.now)) (insert_all atom.eq-value.it c.args.set.now.keys (steps_of c.args.self.now c.args.atom))
    c.add_pairs.ensures
    (three_joined atom.eq-value.it c.args.set.now.keys c.add_if_blank.new.set.keys c.add_if_blank-in-Role.new.set.keys (xs c.below-in-Role.result.now) (ys c.below-in-Role-2.result.now) (zs c.narrower.result.now)
    c.in_ok-add_if_blank-in-Role.ensures c.in_ok-add_if_blank-in-Role-2.ensures
    ∙ ap (insert_all atom.eq-value.it c.args.set.now.keys)
    (ap (λ w. xs w ++ (ys c.below-in-Role-2.result.now ++ zs c.narrower.result.now)) first
    ∙ (ap (λ w. xs one ++ (ys w ++ zs c.narrower.result.now)) second
    ∙ (ap (λ w. xs one ++ (ys two ++ zs w)) c.narrower.ensures
    ∙ ap (steps_of c.args.self.now) (sym c.in-Role.is)))))
