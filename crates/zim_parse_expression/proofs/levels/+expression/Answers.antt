-- A level deeper is a call with one level less.
use Rattle.std.proofs.Common.{◌≡◌, ℕ, zero, suc, ◌-◌, ◌<◌, List, None, refl, sym, subst, arith}
use Rattle.zim_fault.specs.declared.tokens.Placed.{Placed}
use Rattle.zim_tree.specs.declared.expr.Expr.{Expr}
use Rattle.zim_tree.specs.Levels.{Level}
use Rattle.zim_parse_expression.specs.Outcome.{IsParsed, level_wanted}
use Rattle.zim_parse_expression.specs.Parser.{Parsed, at_level, parse}
use Rattle.zim_parse_expression.proofs.levels.+expression.Goals as goal

none_deeper : (depth : ℕ) (level : Level) (ts : List Placed) → depth ≡ 0 → parse depth level ts ≡ None
unfolding parse
none_deeper zero level ts h = refl
none_deeper (suc n) level ts h = absurd (omega arith)

one_deeper : (depth : ℕ) (level : Level) (ts : List Placed) → 0 < depth → parse depth level ts ≡ at_level (parse (depth - 1)) level ts
unfolding parse
one_deeper zero level ts h = absurd (omega arith)
one_deeper (suc n) level ts h = let e : suc n - 1 ≡ n = omega arith in rw e refl

pub returns-then-depth-eq0 : goal.returns-then-depth-eq0
returns-then-depth-eq0 t c = λ _. none_deeper c.args.depth (level_wanted c.args.level) c.args.tokens.now c.if-depth-eq0.true

pub returns : goal.returns
returns t c =
    let e = one_deeper c.args.depth (level_wanted c.args.level) c.args.tokens.now (omega arith) in
    subst (λ (p : Parsed Expr). IsParsed p c.level.result c.level.new.tokens) (sym e) c.level.ensures
