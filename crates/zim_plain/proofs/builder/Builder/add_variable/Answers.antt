-- The variable is added, or its name is taken, or there are too many columns.
use Rattle.std.proofs.Common.{◌++◌, ◌∷◌, [], ◌∙◌, ap, sym, refl, nat_eq}
use Rattle.std.specs.Cmp.Lexicographic.{pointwise}
use Rattle.indexmap.specs.IndexSet.{insert_key}
use Rattle.zim_plain.specs.Statements.{Variable, WrittenText}
use Rattle.zim_plain.specs.Reader.{heading_of}
use Rattle.zim_plain.specs.Build.{built}
use Rattle.zim_plain.proofs.AddLaws.{refused, may_declare, variable_refused, built_variable, added_variable, small_variable}
use Rattle.zim_plain.proofs.BuildLaws.{taken_stays_out}
use Rattle.zim_plain.proofs.builder.Builder.add_variable.Goals as goal

pub returns-then-is_taken-clause-adds : goal.returns-then-is_taken-clause-adds
returns-then-is_taken-clause-adds c before s =
    refused before (Variable (heading_of c.args.head.now)) (built c.args.self.now) c.unsuited.result c.unsuited.ensures
    (taken_stays_out before (built c.args.self.now) (Variable (heading_of c.args.head.now)) s (sym c.is_taken.ensures ∙ c.if-is_taken.true))

pub declare_variable-requires : goal.declare_variable-requires
declare_variable-requires c =
    may_declare (built c.args.self.now) (heading_of c.args.head.now).name c.requires (sym c.is_taken.ensures ∙ c.if-is_taken.false)

pub returns-in-Err-clause-adds : goal.returns-in-Err-clause-adds
returns-in-Err-clause-adds c =
    variable_refused (built c.args.self.now) (heading_of c.args.head.now)
    (record { variables = c.args.self.now.variables.keys; columns = c.declare_variable.new.columns; others = c.args.self.now.others.keys; statements = c.args.self.now.statements; objective = c.args.self.now.objective; system = c.declare_variable.new.system })
    c.declare_variable.new.columns c.declare_variable.new.system c.in-Err.stop c.requires
    (sym c.is_taken.ensures ∙ c.if-is_taken.false) c.in-Err.ensures

pub returns-clause-adds : goal.returns-clause-adds
returns-clause-adds c =
    let old = built c.args.self.now in
    let free = sym c.is_taken.ensures ∙ c.if-is_taken.false in
    added_variable old _ (heading_of c.args.head.now)
    (built_variable old _ (heading_of c.args.head.now).name free
    (c.in_ok-insert.ensures.keys ∙ ap (insert_key (pointwise nat_eq) c.args.self.now.variables.keys) c.in_ok-copy.ensures)
    c.in-Ok.ensures.1
    refl
    (c.in_ok-push.ensures.ok ∙ ap (λ (n : WrittenText). c.args.self.now.statements ++ n ∷ []) c.in_ok-copy-2.ensures)
    refl
    c.in-Ok.ensures.2)
    c.requires
    c.in-Ok.ensures.0
    free

pub returns-clause-small : goal.returns-clause-small
returns-clause-small c =
    let old = built c.args.self.now in
    let free = sym c.is_taken.ensures ∙ c.if-is_taken.false in
    small_variable old _ (heading_of c.args.head.now).name
    (built_variable old _ (heading_of c.args.head.now).name free
    (c.in_ok-insert.ensures.keys ∙ ap (insert_key (pointwise nat_eq) c.args.self.now.variables.keys) c.in_ok-copy.ensures)
    c.in-Ok.ensures.1
    refl
    (c.in_ok-push.ensures.ok ∙ ap (λ (n : WrittenText). c.args.self.now.statements ++ n ∷ []) c.in_ok-copy-2.ensures)
    refl
    c.in-Ok.ensures.2)
    c.requires
    c.in-Ok.ensures.0
