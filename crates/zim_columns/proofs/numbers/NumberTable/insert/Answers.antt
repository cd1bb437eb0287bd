-- The numbers under an index are as before, and so are the others.
use Rattle.std.proofs.Common.{refl}
use Rattle.zim_columns.proofs.NumbersLaws.{numbers_kept, on_err}
use Rattle.zim_columns.proofs.numbers.NumberTable.insert.Goals as goal

pub returns-clause-err : goal.returns-clause-err
returns-clause-err c =
    on_err c.insert_indexed.result
    (numbers_kept c.args.self.now (record { single = c.args.self.now.single; indexed = c.insert_indexed.new.indexed }) (λ other. refl))
    c.insert_indexed.ensures.err
