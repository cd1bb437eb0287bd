-- Each kind of statement is added by its own function.
use Rattle.std.proofs.Common.{sym, subst}
use Rattle.zim_plain.specs.declared.statement.Statement as code
use Rattle.zim_plain.specs.Reader.{statement_said}
use Rattle.zim_plain.specs.Build.{built, Adds}
use Rattle.zim_plain.proofs.builder.Builder.add.Goals as goal

pub returns-in-Variable-clause-adds : goal.returns-in-Variable-clause-adds
returns-in-Variable-clause-adds c =
    subst (λ (s : code.Statement). Adds (built c.args.self.now) (statement_said s) (built c.add_variable.new.self) c.add_variable.result) (sym c.in-Variable.is) c.add_variable.ensures.adds

pub returns-in-Objective-clause-adds : goal.returns-in-Objective-clause-adds
returns-in-Objective-clause-adds c =
    subst (λ (s : code.Statement). Adds (built c.args.self.now) (statement_said s) (built c.add_objective.new.self) c.add_objective.result) (sym c.in-Objective.is) c.add_objective.ensures.adds

pub returns-in-Constraint-clause-adds : goal.returns-in-Constraint-clause-adds
returns-in-Constraint-clause-adds c =
    subst (λ (s : code.Statement). Adds (built c.args.self.now) (statement_said s) (built c.add_constraint.new.self) c.add_constraint.result) (sym c.in-Constraint.is) c.add_constraint.ensures.adds
