-- With loops left, a `do` is read with one loop less behind it.
use Rattle.std.proofs.Common.{◌≡◌, ℕ, zero, suc, ◌-◌, ◌<◌, List, [], ◌∷◌, None, refl, sym, subst, arith}
use Rattle.zim_fault.specs.declared.tokens.Placed.{Placed}
use Rattle.zim_tree.specs.declared.stmt.Doing.{Doing}
use Rattle.zim_parse_expression.specs.Outcome.{IsParsed}
use Rattle.zim_parse_expression.specs.Parser.{Parsed, Inner, parse}
use Rattle.zim_parse.specs.StatementParser.{doing_of}
use Rattle.zim_parse.specs.StatementSteps.{doing_by}
use Rattle.zim_parse.proofs.grammar.Grammar.+doing.Goals as goal

none_left : (inner : Inner) (loops : ℕ) (ts : List Placed) → loops ≡ 0 → doing_of inner loops ts ≡ None
unfolding doing_of
none_left inner zero ts h = refl
none_left inner (suc n) ts h = absurd (omega arith)

one_less : (inner : Inner) (loops : ℕ) (ts : List Placed) → 0 < loops → doing_of inner loops ts ≡ doing_by inner (doing_of inner (loops - 1)) ts
unfolding doing_of doing_by
one_less inner zero ts h = absurd (omega arith)
one_less inner (suc n) [] h = refl
one_less inner (suc n) (t ∷ rest) h = let e : suc n - 1 ≡ n = omega arith in rw e refl

pub doing-returns-then-loops-eq0 : goal.doing-returns-then-loops-eq0
doing-returns-then-loops-eq0 t c = λ _. none_left (parse c.args.self.now.depth) c.args.loops c.args.tokens.now c.if-loops-eq0.true

pub doing-returns : goal.doing-returns
doing-returns t c =
    let e = one_less (parse c.args.self.now.depth) c.args.loops c.args.tokens.now (omega arith) in
    subst (λ (p : Parsed Doing). IsParsed p c.doing_by.result c.doing_by.new.tokens) (sym e) c.doing_by.ensures
