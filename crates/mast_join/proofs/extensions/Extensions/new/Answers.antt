use Rattle.mast_join.proofs.extensions.Extensions.new.Goals as goal

pub invariant_of-result : goal.invariant_of-result
invariant_of-result c =
    c.new.ensures (record { spec = c.args.spec; unfolder = c.args.unfolder; tables = c.args.tables; only = c.args.only; wanted = c.args.wanted })
    (record { unfolder = c.requires.unfolder; fits = c.requires.fits })
