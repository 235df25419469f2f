use Rattle.std.proofs.Common.{◌≡◌, ◌<◌, ◌+◌, length, slice_index_or, sym, subst, ◌∙◌, arith, suc}
use Rattle.mast_cq.specs.declared.atom.Arg.TheVariants.{Blank}
use Rattle.mast_cq.specs.declared.atom.Atom.{Atom}
use Rattle.mast_cq.specs.declared.atom.Atom.TheVariants.{Class}
use Rattle.mast_cq.proofs.PutLemmas.{Passes, passes_next, put_before, put_there, put_last}
use Rattle.mast_cq.proofs.normal_form.place.Goals as goal

any_atom : Atom
any_atom = Class (record { 0 = 0 }) Blank

pub returns-in-Less : goal.returns-in-Less
unfolding any_atom
returns-in-Less c =
    let l : c.loop-at.at < length c.args.atoms.now = omega arith in (
      omega arith,
      put_before c.args.atom c.loop-at.at c.args.atoms.now any_atom l c.loop-at.invariant
          (sym (c.atom_laws.ensures.order c.args.atom (slice_index_or c.args.atoms.now c.loop-at.at any_atom)) ∙ (sym c.cmp.ensures ∙ c.in-Less.is)),
    )

pub returns-in-Equal : goal.returns-in-Equal
unfolding any_atom
returns-in-Equal c =
    let l : c.loop-at.at < length c.args.atoms.now = omega arith in
    put_there c.args.atom c.loop-at.at c.args.atoms.now any_atom l c.loop-at.invariant
    (sym (c.atom_laws.ensures.order c.args.atom (slice_index_or c.args.atoms.now c.loop-at.at any_atom)) ∙ (sym c.cmp.ensures ∙ c.in-Equal.is))

pub loop-at-preserved : goal.loop-at-preserved
unfolding any_atom
loop-at-preserved c =
    let l : c.loop-at.at < length c.args.atoms.now = omega arith in
    let e : suc c.loop-at.at ≡ c.loop-at.at + 1 = omega arith in
    subst (λ k. Passes c.args.atom k c.args.atoms.now) e
    (passes_next c.args.atom c.loop-at.at c.args.atoms.now any_atom l c.loop-at.invariant
    (sym (c.atom_laws.ensures.order c.args.atom (slice_index_or c.args.atoms.now c.loop-at.at any_atom)) ∙ (sym c.cmp.ensures ∙ c.in-Greater.is)))

pub returns : goal.returns
returns c =
    let e : c.loop-at.at ≡ length c.args.atoms.now = omega arith in
    (omega arith, put_last c.args.atom c.args.atoms.now (subst (λ k. Passes c.args.atom k c.args.atoms.now) e c.loop-at.invariant))
