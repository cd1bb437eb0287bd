-- Each form by its equation.
use Rattle.std.proofs.Common.{ℕ, ◌+◌, ◌≡◌, Bool, List, [], ◌++◌, map, take, drop, Option, Some, None, option_map, unwrap_or, IfOk, rules, refl, sym, ap, subst, ◌∙◌}
use Rattle.std.proofs.lemmas.List.{take_all}
use Rattle.zim_tree.specs.declared.expr.Expr.{Expr}
use Rattle.zim_tree.specs.declared.expr.Angle.{out-Angle}
use Rattle.zim_tree.specs.declared.expr.Index.{Index, out-Index}
use Rattle.zim_typed.specs.declared.constant.Const.{Const}
use Rattle.zim_typed.specs.declared.constant.Const.TheVariants as const
use Rattle.zim_typed.specs.declared.constant.TAngle.{TAngle}
use Rattle.zim_typed.specs.declared.constant.Loop.{Loop}
use Rattle.zim_typed.specs.declared.constant.LoopSlot.{LoopSlot}
use Rattle.zim_typed.specs.declared.constant.LoopSlot.TheVariants as slot
use Rattle.zim_typed.specs.Pattern.{bare_name, bound_name}
use Rattle.zim_typed.specs.declared.constant.TBody.{TBody}
use Rattle.zim_typed.specs.declared.constant.TBody.TheVariants as body
use Rattle.zim_typed.specs.Trees.{typed_angle, typed_loop}
use Rattle.zim_typed.specs.Scope.{Names, called}
use Rattle.zim_static.specs.Around.{names_in}
use Rattle.zim_typing.specs.Typing.{resolution, set_argument, placed_bare_name, names_inside, typed_const, typed_consts, typed_operands, typed_conjuncts, typed_disjuncts, typed_or_missing, typed_tuple, typed_slots, typed_index, typed_body}
use Rattle.zim_typing.proofs.ConstantLaws.{makes-Number, makes-Text, makes-Truth, makes-Infinity, makes-Name, makes-Item, makes-Call, makes-Func, makes-Proj, makes-Paren, makes-Braces, makes-If, makes-Factorial, makes-Power, makes-Signed, makes-Big, makes-Times, makes-Plus, makes-Compare, makes-Member, makes-Not, makes-And, makes-Or, makes-Forall, makes_tuple, makes_index, makes-Empty, makes-Members, makes-Tuples, makes-Those, makes-Span}
use Rattle.zim_sort.proofs.CodeLemmas.{behind, compares_nothing, compares_first, slots_next, slots_end, slot_bound, slot_unbound}
use Rattle.zim_sort.proofs.constants.+constant.Goals.{slots-in-Some+in_ok-push-in-Some, slots-in-None+in_ok-boxed_constant-in-None+in_ok-push-in-None}
use Rattle.zim_sort.proofs.constants.+constant.Goals as goal

pub body-returns-in-Empty : goal.body-returns-in-Empty
body-returns-in-Empty t c =
    sym (ap (typed_body c.args.scope.now (names_in c.args.scope.now c.args.around.now)) c.in-Empty.is ∙ makes-Empty c.args.scope.now (names_in c.args.scope.now c.args.around.now))

pub body-returns-in_ok-constants-in-Members : goal.body-returns-in_ok-constants-in-Members
body-returns-in_ok-constants-in-Members t c =
    ap (λ (cs : List Const). body.Members cs) (c.in_ok-constants-in-Members.ensures ∙ ap (typed_consts c.args.scope.now (names_in c.args.scope.now c.args.around.now)) c.as_slice.ensures) ∙ sym (ap (typed_body c.args.scope.now (names_in c.args.scope.now c.args.around.now)) c.in-Members.is ∙ makes-Members c.args.scope.now (names_in c.args.scope.now c.args.around.now) _)

pub body-returns-after-loop-item : goal.body-returns-after-loop-item
body-returns-after-loop-item t c =
    let all : c.loop-item.made ≡ map (typed_tuple c.args.scope.now (names_in c.args.scope.now c.args.around.now)) c.in-Tuples.tuples = c.loop-item.invariant ∙ ap (map (typed_tuple c.args.scope.now (names_in c.args.scope.now c.args.around.now))) (take_all c.loop-item.item-index c.as_slice-item-items.result.now c.loop-item-test.false ∙ c.as_slice-item-items.ensures) in
    ap (λ (ts : List TAngle). body.Tuples ts) all ∙ sym (ap (typed_body c.args.scope.now (names_in c.args.scope.now c.args.around.now)) c.in-Tuples.is ∙ makes-Tuples c.args.scope.now (names_in c.args.scope.now c.args.around.now) _)

pub body-returns-in_ok-made-in-Those : goal.body-returns-in_ok-made-in-Those
body-returns-in_ok-made-in-Those t c =
    ap (λ (l : Loop). body.Those l) (c.in_ok-made-in-Those.ensures ∙ (c.in_ok-index_of-in-Those.ensures ∙ ap (typed_index c.args.scope.now (names_in c.args.scope.now c.args.around.now)) c.get.ensures)) ∙ sym (ap (typed_body c.args.scope.now (names_in c.args.scope.now c.args.around.now)) c.in-Those.is ∙ makes-Those c.args.scope.now (names_in c.args.scope.now c.args.around.now) _)

pub body-returns-in-None : goal.body-returns-in-None
body-returns-in-None t c =
    (λ i. body.Span ((c.in_ok-from-in-Span.ensures ∙ ap (typed_const c.args.scope.now (names_in c.args.scope.now c.args.around.now)) c.get-in-Span.ensures) i) c.in-Span.with_to ((c.in_ok-to-in-Span.ensures ∙ ap (typed_const c.args.scope.now (names_in c.args.scope.now c.args.around.now)) c.get-in-Span-2.ensures) i) None)
    ∙ sym (ap (typed_body c.args.scope.now (names_in c.args.scope.now c.args.around.now)) c.in-Span.is ∙ makes-Span c.args.scope.now (names_in c.args.scope.now c.args.around.now) _ _ _ _ ∙ ap (λ (by : Option Expr). body.Span ((typed_const c.args.scope.now (names_in c.args.scope.now c.args.around.now)) c.in-Span.from) c.in-Span.with_to ((typed_const c.args.scope.now (names_in c.args.scope.now c.args.around.now)) c.in-Span.to) (option_map (typed_const c.args.scope.now (names_in c.args.scope.now c.args.around.now)) by)) c.in-None.is)

pub body-returns-in_ok-boxed_constant-in-Some : goal.body-returns-in_ok-boxed_constant-in-Some
body-returns-in_ok-boxed_constant-in-Some t c =
    (λ i. body.Span ((c.in_ok-from-in-Span.ensures ∙ ap (typed_const c.args.scope.now (names_in c.args.scope.now c.args.around.now)) c.get-in-Span.ensures) i) c.in-Span.with_to ((c.in_ok-to-in-Span.ensures ∙ ap (typed_const c.args.scope.now (names_in c.args.scope.now c.args.around.now)) c.get-in-Span-2.ensures) i) (Some ((c.in_ok-boxed_constant-in-Some.ensures ∙ ap (typed_const c.args.scope.now (names_in c.args.scope.now c.args.around.now)) c.get-in-Some.ensures) i)))
    ∙ sym (ap (typed_body c.args.scope.now (names_in c.args.scope.now c.args.around.now)) c.in-Span.is ∙ makes-Span c.args.scope.now (names_in c.args.scope.now c.args.around.now) _ _ _ _ ∙ ap (λ (by : Option Expr). body.Span ((typed_const c.args.scope.now (names_in c.args.scope.now c.args.around.now)) c.in-Span.from) c.in-Span.with_to ((typed_const c.args.scope.now (names_in c.args.scope.now c.args.around.now)) c.in-Span.to) (option_map (typed_const c.args.scope.now (names_in c.args.scope.now c.args.around.now)) by)) c.in-Some.is)

pub constant-returns-in_ok-copy-in-Number : goal.constant-returns-in_ok-copy-in-Number
constant-returns-in_ok-copy-in-Number t c =
    (λ i. const.Number c.in-Number.place (c.in_ok-copy-in-Number.ensures i)) ∙ sym (ap (typed_const c.args.scope.now (names_in c.args.scope.now c.args.around.now)) c.in-Number.is ∙ makes-Number c.args.scope.now (names_in c.args.scope.now c.args.around.now) _ _)

pub constant-returns-in_ok-copy-in-Text : goal.constant-returns-in_ok-copy-in-Text
constant-returns-in_ok-copy-in-Text t c =
    (λ i. const.Text c.in-Text.place (c.in_ok-copy-in-Text.ensures i) c.in-Text.double) ∙ sym (ap (typed_const c.args.scope.now (names_in c.args.scope.now c.args.around.now)) c.in-Text.is ∙ makes-Text c.args.scope.now (names_in c.args.scope.now c.args.around.now) _ _ _)

pub constant-returns-in-Truth : goal.constant-returns-in-Truth
constant-returns-in-Truth t c =
    sym (ap (typed_const c.args.scope.now (names_in c.args.scope.now c.args.around.now)) c.in-Truth.is ∙ makes-Truth c.args.scope.now (names_in c.args.scope.now c.args.around.now) _ _)

pub constant-returns-in-Infinity : goal.constant-returns-in-Infinity
constant-returns-in-Infinity t c =
    sym (ap (typed_const c.args.scope.now (names_in c.args.scope.now c.args.around.now)) c.in-Infinity.is ∙ makes-Infinity c.args.scope.now (names_in c.args.scope.now c.args.around.now) _)

pub constant-returns-in_ok-copy-in-Name : goal.constant-returns-in_ok-copy-in-Name
constant-returns-in_ok-copy-in-Name t c =
    (λ i. const.Name c.in-Name.place (c.in_ok-copy-in-Name.ensures i) (c.named.ensures i)) ∙ sym (ap (typed_const c.args.scope.now (names_in c.args.scope.now c.args.around.now)) c.in-Name.is ∙ makes-Name c.args.scope.now (names_in c.args.scope.now c.args.around.now) _ _)

pub constant-returns-in_ok-copy-in-Item : goal.constant-returns-in_ok-copy-in-Item
constant-returns-in_ok-copy-in-Item t c =
    (λ i. const.Item c.in-Item.place (c.in_ok-copy-in-Item.ensures i) ((c.in_ok-index-in-Item.ensures ∙ ap (typed_consts c.args.scope.now (names_in c.args.scope.now c.args.around.now)) c.as_slice.ensures) i) (c.indexed-stands.ensures i)) ∙ sym (ap (typed_const c.args.scope.now (names_in c.args.scope.now c.args.around.now)) c.in-Item.is ∙ makes-Item c.args.scope.now (names_in c.args.scope.now c.args.around.now) _ _ _)

pub constant-returns-in_ok-copy-in-Call : goal.constant-returns-in_ok-copy-in-Call
constant-returns-in_ok-copy-in-Call t c =
    (λ i. const.Call c.in-Call.place (c.in_ok-copy-in-Call.ensures i) ((c.in_ok-given-in-Call.ensures ∙ ap (typed_consts c.args.scope.now (names_in c.args.scope.now c.args.around.now)) c.as_slice-in-Call.ensures) i) ((c.called-stands.ensures ∙ ap (λ (n : ℕ). resolution (called n c.args.scope.now (names_in c.args.scope.now c.args.around.now) c.in-Call.name)) c.len.ensures) i)) ∙ sym (ap (typed_const c.args.scope.now (names_in c.args.scope.now c.args.around.now)) c.in-Call.is ∙ makes-Call c.args.scope.now (names_in c.args.scope.now c.args.around.now) _ _ _)

pub constant-returns-in-Some : goal.constant-returns-in-Some
constant-returns-in-Some t c =
    ap (λ (found : Option (List Const)). const.Func c.in-Func.place c.in-Func.word (unwrap_or found ((typed_consts c.args.scope.now (names_in c.args.scope.now c.args.around.now)) c.in-Func.given))) (sym c.in-Some.is ∙ c.in_ok-set-in-Func.ensures ∙ ap (λ (given : List Expr). set_argument c.in-Func.word (map placed_bare_name given)) c.as_slice-in-Func.ensures) ∙ sym (ap (typed_const c.args.scope.now (names_in c.args.scope.now c.args.around.now)) c.in-Func.is ∙ makes-Func c.args.scope.now (names_in c.args.scope.now c.args.around.now) _ _ _)

pub constant-returns-in_ok-given-in-None : goal.constant-returns-in_ok-given-in-None
constant-returns-in_ok-given-in-None t c =
    ap (λ (cs : List Const). const.Func c.in-Func.place c.in-Func.word cs) (c.in_ok-given-in-None.ensures ∙ ap (typed_consts c.args.scope.now (names_in c.args.scope.now c.args.around.now)) c.as_slice-in-None.ensures)
    ∙ ap (λ (found : Option (List Const)). const.Func c.in-Func.place c.in-Func.word (unwrap_or found ((typed_consts c.args.scope.now (names_in c.args.scope.now c.args.around.now)) c.in-Func.given))) (sym c.in-None.is ∙ c.in_ok-set-in-Func.ensures ∙ ap (λ (given : List Expr). set_argument c.in-Func.word (map placed_bare_name given)) c.as_slice-in-Func.ensures) ∙ sym (ap (typed_const c.args.scope.now (names_in c.args.scope.now c.args.around.now)) c.in-Func.is ∙ makes-Func c.args.scope.now (names_in c.args.scope.now c.args.around.now) _ _ _)

pub constant-returns-in_ok-positions-in-Proj : goal.constant-returns-in_ok-positions-in-Proj
constant-returns-in_ok-positions-in-Proj t c =
    (λ i. const.Proj c.in-Proj.place ((c.in_ok-set-in-Proj.ensures ∙ ap (typed_const c.args.scope.now (names_in c.args.scope.now c.args.around.now)) c.get.ensures) i) (c.in_ok-positions-in-Proj.ensures i)) ∙ sym (ap (typed_const c.args.scope.now (names_in c.args.scope.now c.args.around.now)) c.in-Proj.is ∙ makes-Proj c.args.scope.now (names_in c.args.scope.now c.args.around.now) _ _ _)

pub constant-returns-in_ok-boxed_constant-in-Paren : goal.constant-returns-in_ok-boxed_constant-in-Paren
constant-returns-in_ok-boxed_constant-in-Paren t c =
    ap (λ (k : Const). const.Paren c.in-Paren.place k) (c.in_ok-boxed_constant-in-Paren.ensures ∙ ap (typed_const c.args.scope.now (names_in c.args.scope.now c.args.around.now)) c.get-in-Paren.ensures) ∙ sym (ap (typed_const c.args.scope.now (names_in c.args.scope.now c.args.around.now)) c.in-Paren.is ∙ makes-Paren c.args.scope.now (names_in c.args.scope.now c.args.around.now) _ _)

pub constant-returns-in_ok-inside-in-Braces : goal.constant-returns-in_ok-inside-in-Braces
constant-returns-in_ok-inside-in-Braces t c =
    ap (λ (b : TBody). const.Braces c.in-Braces.place b) (c.in_ok-inside-in-Braces.ensures ∙ (c.in_ok-body-in-Braces.ensures ∙ ap (typed_body c.args.scope.now (names_in c.args.scope.now c.args.around.now)) c.get-in-Braces.ensures)) ∙ sym (ap (typed_const c.args.scope.now (names_in c.args.scope.now c.args.around.now)) c.in-Braces.is ∙ makes-Braces c.args.scope.now (names_in c.args.scope.now c.args.around.now) _ _)

pub constant-returns-in_ok-otherwise-in-Some-otherwise : goal.constant-returns-in_ok-otherwise-in-Some-otherwise
constant-returns-in_ok-otherwise-in-Some-otherwise t c =
    (λ i. const.If c.in-If.place ((c.in_ok-test-in-If.ensures ∙ ap (typed_const c.args.scope.now (names_in c.args.scope.now c.args.around.now)) c.get-in-If.ensures) i) ((c.in_ok-branch-in-If.ensures ∙ ap (typed_const c.args.scope.now (names_in c.args.scope.now c.args.around.now)) c.get-in-If-2.ensures) i) ((c.in_ok-otherwise-in-Some-otherwise.ensures ∙ ap (typed_const c.args.scope.now (names_in c.args.scope.now c.args.around.now)) c.get-in-Some-otherwise.ensures) i))
    ∙ sym (ap (typed_const c.args.scope.now (names_in c.args.scope.now c.args.around.now)) c.in-If.is ∙ makes-If c.args.scope.now (names_in c.args.scope.now c.args.around.now) _ _ _ _ _ ∙ ap (λ (o : Option Expr). const.If c.in-If.place ((typed_const c.args.scope.now (names_in c.args.scope.now c.args.around.now)) c.in-If.test) ((typed_const c.args.scope.now (names_in c.args.scope.now c.args.around.now)) c.in-If.branch) (typed_or_missing c.args.scope.now (names_in c.args.scope.now c.args.around.now) c.in-If.place o)) c.in-Some-otherwise.is)

pub constant-returns-in_ok-otherwise-in-None-otherwise : goal.constant-returns-in_ok-otherwise-in-None-otherwise
constant-returns-in_ok-otherwise-in-None-otherwise t c =
    (λ i. const.If c.in-If.place ((c.in_ok-test-in-If.ensures ∙ ap (typed_const c.args.scope.now (names_in c.args.scope.now c.args.around.now)) c.get-in-If.ensures) i) ((c.in_ok-branch-in-If.ensures ∙ ap (typed_const c.args.scope.now (names_in c.args.scope.now c.args.around.now)) c.get-in-If-2.ensures) i) (c.in_ok-otherwise-in-None-otherwise.ensures i))
    ∙ sym (ap (typed_const c.args.scope.now (names_in c.args.scope.now c.args.around.now)) c.in-If.is ∙ makes-If c.args.scope.now (names_in c.args.scope.now c.args.around.now) _ _ _ _ _ ∙ ap (λ (o : Option Expr). const.If c.in-If.place ((typed_const c.args.scope.now (names_in c.args.scope.now c.args.around.now)) c.in-If.test) ((typed_const c.args.scope.now (names_in c.args.scope.now c.args.around.now)) c.in-If.branch) (typed_or_missing c.args.scope.now (names_in c.args.scope.now c.args.around.now) c.in-If.place o)) c.in-None-otherwise.is)

pub constant-returns-in_ok-from_slice-in-Factorial : goal.constant-returns-in_ok-from_slice-in-Factorial
constant-returns-in_ok-from_slice-in-Factorial t c =
    (λ i. const.Factorial ((c.in_ok-operand-in-Factorial.ensures ∙ ap (typed_const c.args.scope.now (names_in c.args.scope.now c.args.around.now)) c.get-in-Factorial.ensures) i) ((c.in_ok-from_slice-in-Factorial.ensures ∙ c.as_slice-in-Factorial.ensures) i)) ∙ sym (ap (typed_const c.args.scope.now (names_in c.args.scope.now c.args.around.now)) c.in-Factorial.is ∙ makes-Factorial c.args.scope.now (names_in c.args.scope.now c.args.around.now) _ _)

pub constant-returns-in_ok-exponent-in-Power : goal.constant-returns-in_ok-exponent-in-Power
constant-returns-in_ok-exponent-in-Power t c =
    (λ i. const.Power c.in-Power.place c.in-Power.sign ((c.in_ok-base-in-Power.ensures ∙ ap (typed_const c.args.scope.now (names_in c.args.scope.now c.args.around.now)) c.get-in-Power.ensures) i) c.in-Power.signed ((c.in_ok-exponent-in-Power.ensures ∙ ap (typed_const c.args.scope.now (names_in c.args.scope.now c.args.around.now)) c.get-in-Power-2.ensures) i)) ∙ sym (ap (typed_const c.args.scope.now (names_in c.args.scope.now c.args.around.now)) c.in-Power.is ∙ makes-Power c.args.scope.now (names_in c.args.scope.now c.args.around.now) _ _ _ _ _)

pub constant-returns-in_ok-operand-in-Signed : goal.constant-returns-in_ok-operand-in-Signed
constant-returns-in_ok-operand-in-Signed t c =
    ap (λ (k : Const). const.Signed c.in-Signed.place c.in-Signed.minus k) (c.in_ok-operand-in-Signed.ensures ∙ ap (typed_const c.args.scope.now (names_in c.args.scope.now c.args.around.now)) c.get-in-Signed.ensures) ∙ sym (ap (typed_const c.args.scope.now (names_in c.args.scope.now c.args.around.now)) c.in-Signed.is ∙ makes-Signed c.args.scope.now (names_in c.args.scope.now c.args.around.now) _ _ _)

pub constant-returns-in_ok-operand-in-Big : goal.constant-returns-in_ok-operand-in-Big
constant-returns-in_ok-operand-in-Big t c =
    let inner : c.in_ok-operand-in-Big.operand ≡ typed_const c.args.scope.now (names_inside c.args.scope.now (names_in c.args.scope.now c.args.around.now) c.in-Big.index) c.in-Big.operand
    = behind (λ (n : Names). typed_const c.args.scope.now n c.get-in-Big-3.result.now) c.args.scope.now (names_in c.args.scope.now c.args.around.now) c.in-Big.index _ _ refl (c.as_slice-in-Big.ensures ∙ ap (λ (index : Index). (out-Angle (out-Index index).tuple).items) c.get-in-Big.ensures) c.in_ok-operand-in-Big.ensures ∙ ap (typed_const c.args.scope.now (names_inside c.args.scope.now (names_in c.args.scope.now c.args.around.now) c.in-Big.index)) c.get-in-Big-3.ensures in
    (λ i. const.Big c.in-Big.place c.in-Big.word ((c.in_ok-made-in-Big.ensures ∙ (c.in_ok-index_of-in-Big.ensures ∙ ap (typed_index c.args.scope.now (names_in c.args.scope.now c.args.around.now)) c.get-in-Big-2.ensures)) i) c.in-Big.with_do (inner i)) ∙ sym (ap (typed_const c.args.scope.now (names_in c.args.scope.now c.args.around.now)) c.in-Big.is ∙ makes-Big c.args.scope.now (names_in c.args.scope.now c.args.around.now) _ _ _ _ _)

pub constant-returns-in_ok-operands-in-Times : goal.constant-returns-in_ok-operands-in-Times
constant-returns-in_ok-operands-in-Times t c =
    (λ i. const.Times ((c.in_ok-first-in-Times.ensures ∙ ap (typed_const c.args.scope.now (names_in c.args.scope.now c.args.around.now)) c.get-in-Times.ensures) i) ((c.in_ok-operands-in-Times.ensures ∙ ap (typed_operands c.args.scope.now (names_in c.args.scope.now c.args.around.now)) c.as_slice-in-Times.ensures) i)) ∙ sym (ap (typed_const c.args.scope.now (names_in c.args.scope.now c.args.around.now)) c.in-Times.is ∙ makes-Times c.args.scope.now (names_in c.args.scope.now c.args.around.now) _ _)

pub constant-returns-in_ok-operands-in-Plus : goal.constant-returns-in_ok-operands-in-Plus
constant-returns-in_ok-operands-in-Plus t c =
    (λ i. const.Plus ((c.in_ok-first-in-Plus.ensures ∙ ap (typed_const c.args.scope.now (names_in c.args.scope.now c.args.around.now)) c.get-in-Plus.ensures) i) ((c.in_ok-operands-in-Plus.ensures ∙ ap (typed_operands c.args.scope.now (names_in c.args.scope.now c.args.around.now)) c.as_slice-in-Plus.ensures) i)) ∙ sym (ap (typed_const c.args.scope.now (names_in c.args.scope.now c.args.around.now)) c.in-Plus.is ∙ makes-Plus c.args.scope.now (names_in c.args.scope.now c.args.around.now) _ _)

pub constant-returns-in-empty : goal.constant-returns-in-empty
constant-returns-in-empty t c =
    subst (λ (k : Const). IfOk c.constant.result (λ made. made ≡ k))
    (ap (typed_const c.args.scope.now (names_in c.args.scope.now c.args.around.now)) c.get-in-empty.ensures ∙ sym (ap (typed_const c.args.scope.now (names_in c.args.scope.now c.args.around.now)) c.in-Compare.is ∙ makes-Compare c.args.scope.now (names_in c.args.scope.now c.args.around.now) _ _ ∙ compares_nothing c.args.scope.now (names_in c.args.scope.now c.args.around.now) _ c.in-Compare.others (simp c.as_slice-in-Compare.ensures at c.in-empty.len_below))) c.constant.ensures

pub constant-returns-in_ok-right-in-len1-up : goal.constant-returns-in_ok-right-in-len1-up
constant-returns-in_ok-right-in-len1-up t c =
    (λ i. const.Compare c.other-item.result.0 c.other-item.result.1 ((c.in_ok-left-in-len1-up.ensures ∙ ap (typed_const c.args.scope.now (names_in c.args.scope.now c.args.around.now)) c.get-in-len1-up.ensures) i) (c.in_ok-right-in-len1-up.ensures i))
    ∙ compares_first c.args.scope.now (names_in c.args.scope.now c.args.around.now) _ c.in-Compare.others c.other-item.result (simp c.as_slice-in-Compare.ensures at c.in-len1-up.len_at_least) (simp c.as_slice-in-Compare.ensures at c.other-item.is)
    ∙ sym (ap (typed_const c.args.scope.now (names_in c.args.scope.now c.args.around.now)) c.in-Compare.is ∙ makes-Compare c.args.scope.now (names_in c.args.scope.now c.args.around.now) _ _)

pub constant-returns-in_ok-boxed_constant-in-Member : goal.constant-returns-in_ok-boxed_constant-in-Member
constant-returns-in_ok-boxed_constant-in-Member t c =
    (λ i. const.Member c.in-Member.place (c.in_ok-items-in-Member.ensures i) ((c.in_ok-boxed_constant-in-Member.ensures ∙ ap (typed_const c.args.scope.now (names_in c.args.scope.now c.args.around.now)) c.get-in-Member.ensures) i)) ∙ sym (ap (typed_const c.args.scope.now (names_in c.args.scope.now c.args.around.now)) c.in-Member.is ∙ makes-Member c.args.scope.now (names_in c.args.scope.now c.args.around.now) _ _ _)

pub constant-returns-in_ok-boxed_constant-in-Not : goal.constant-returns-in_ok-boxed_constant-in-Not
constant-returns-in_ok-boxed_constant-in-Not t c =
    ap (λ (k : Const). const.Not c.in-Not.place k) (c.in_ok-boxed_constant-in-Not.ensures ∙ ap (typed_const c.args.scope.now (names_in c.args.scope.now c.args.around.now)) c.get-in-Not.ensures) ∙ sym (ap (typed_const c.args.scope.now (names_in c.args.scope.now c.args.around.now)) c.in-Not.is ∙ makes-Not c.args.scope.now (names_in c.args.scope.now c.args.around.now) _ _)

pub constant-returns-in_ok-conjuncts-in-And : goal.constant-returns-in_ok-conjuncts-in-And
constant-returns-in_ok-conjuncts-in-And t c =
    (λ i. const.And ((c.in_ok-first-in-And.ensures ∙ ap (typed_const c.args.scope.now (names_in c.args.scope.now c.args.around.now)) c.get-in-And.ensures) i) ((c.in_ok-conjuncts-in-And.ensures ∙ ap (typed_conjuncts c.args.scope.now (names_in c.args.scope.now c.args.around.now)) c.as_slice-in-And.ensures) i)) ∙ sym (ap (typed_const c.args.scope.now (names_in c.args.scope.now c.args.around.now)) c.in-And.is ∙ makes-And c.args.scope.now (names_in c.args.scope.now c.args.around.now) _ _)

pub constant-returns-in_ok-disjuncts-in-Or : goal.constant-returns-in_ok-disjuncts-in-Or
constant-returns-in_ok-disjuncts-in-Or t c =
    (λ i. const.Or ((c.in_ok-first-in-Or.ensures ∙ ap (typed_const c.args.scope.now (names_in c.args.scope.now c.args.around.now)) c.get-in-Or.ensures) i) ((c.in_ok-disjuncts-in-Or.ensures ∙ ap (typed_disjuncts c.args.scope.now (names_in c.args.scope.now c.args.around.now)) c.as_slice-in-Or.ensures) i)) ∙ sym (ap (typed_const c.args.scope.now (names_in c.args.scope.now c.args.around.now)) c.in-Or.is ∙ makes-Or c.args.scope.now (names_in c.args.scope.now c.args.around.now) _ _)

pub constant-returns-in-Forall : goal.constant-returns-in-Forall
constant-returns-in-Forall t c =
    sym (ap (typed_const c.args.scope.now (names_in c.args.scope.now c.args.around.now)) c.in-Forall.is ∙ makes-Forall c.args.scope.now (names_in c.args.scope.now c.args.around.now) _ _ _ _)

pub index_of-returns-in-None : goal.index_of-returns-in-None
index_of-returns-in-None t c =
    (λ i. typed_loop (out-Index c.args.index.now).place ((c.in_ok-slots.ensures ∙ ap (typed_slots c.args.scope.now (names_in c.args.scope.now c.args.around.now) []) c.as_slice-items.ensures) i) ((c.in_ok-set.ensures ∙ ap (typed_const c.args.scope.now (names_in c.args.scope.now c.args.around.now)) c.get.ensures) i) None)
    ∙ sym (makes_index c.args.scope.now (names_in c.args.scope.now c.args.around.now) c.args.index.now
    ∙ ap (λ (cond : Option (Bool × Expr)). typed_loop (out-Index c.args.index.now).place (typed_slots c.args.scope.now (names_in c.args.scope.now c.args.around.now) [] (out-Angle (out-Index c.args.index.now).tuple).items) ((typed_const c.args.scope.now (names_in c.args.scope.now c.args.around.now)) (out-Index c.args.index.now).set) (option_map (λ (x : Bool × Expr). typed_const c.args.scope.now (names_inside c.args.scope.now (names_in c.args.scope.now c.args.around.now) c.args.index.now) x.1) cond)) c.in-None.is)

pub index_of-returns-in_ok-boxed_constant-in-Some : goal.index_of-returns-in_ok-boxed_constant-in-Some
index_of-returns-in_ok-boxed_constant-in-Some t c =
    let inner : c.in_ok-boxed_constant-in-Some.field-0 ≡ typed_const c.args.scope.now (names_inside c.args.scope.now (names_in c.args.scope.now c.args.around.now) c.args.index.now) c.in-Some.tree
    = behind (λ (n : Names). typed_const c.args.scope.now n c.get-in-Some.result.now) c.args.scope.now (names_in c.args.scope.now c.args.around.now) c.args.index.now _ _ refl c.as_slice-items.ensures c.in_ok-boxed_constant-in-Some.ensures ∙ ap (typed_const c.args.scope.now (names_inside c.args.scope.now (names_in c.args.scope.now c.args.around.now) c.args.index.now)) c.get-in-Some.ensures in
    (λ i. typed_loop (out-Index c.args.index.now).place ((c.in_ok-slots.ensures ∙ ap (typed_slots c.args.scope.now (names_in c.args.scope.now c.args.around.now) []) c.as_slice-items.ensures) i) ((c.in_ok-set.ensures ∙ ap (typed_const c.args.scope.now (names_in c.args.scope.now c.args.around.now)) c.get.ensures) i) (Some (inner i)))
    ∙ sym (makes_index c.args.scope.now (names_in c.args.scope.now c.args.around.now) c.args.index.now
    ∙ ap (λ (cond : Option (Bool × Expr)). typed_loop (out-Index c.args.index.now).place (typed_slots c.args.scope.now (names_in c.args.scope.now c.args.around.now) [] (out-Angle (out-Index c.args.index.now).tuple).items) ((typed_const c.args.scope.now (names_in c.args.scope.now c.args.around.now)) (out-Index c.args.index.now).set) (option_map (λ (x : Bool × Expr). typed_const c.args.scope.now (names_inside c.args.scope.now (names_in c.args.scope.now c.args.around.now) c.args.index.now) x.1) cond)) c.in-Some.is)

pub slots-loop-at-preserved : goal.slots-loop-at-preserved
slots-loop-at-preserved t c =
    elim c.match-branch-2.branch [
      | slots-in-Some+in_ok-push-in-Some w ↦
          subst (λ (now : List LoopSlot). now ++ typed_slots c.args.scope.now (names_in c.args.scope.now c.args.around.now) (map bare_name (take (c.loop-at.at + 1) c.args.items.now)) (drop (c.loop-at.at + 1) c.args.items.now) ≡ typed_slots c.args.scope.now (names_in c.args.scope.now c.args.around.now) [] c.args.items.now)
          (sym (w.made-is ∙ w.in_ok-push-in-Some.ensures.ok))
          (slots_next c.args.scope.now (names_in c.args.scope.now c.args.around.now) c.args.items.now c.loop-at.at c.index-items-at.result c.loop-at-test.true c.index-items-at.is c.loop-at.made w.in-Some.slot
          (slot_bound (map bare_name (take c.loop-at.at c.args.items.now)) (bound_name c.args.scope.now (names_in c.args.scope.now c.args.around.now) c.index-items-at.result) (slot.Fixed (typed_const c.args.scope.now (names_in c.args.scope.now c.args.around.now) c.index-items-at.result)) c.in_ok-slot.ensures w.in-Some.slot w.in-Some.is) c.loop-at.invariant)
      | slots-in-None+in_ok-boxed_constant-in-None+in_ok-push-in-None w ↦
          subst (λ (now : List LoopSlot). now ++ typed_slots c.args.scope.now (names_in c.args.scope.now c.args.around.now) (map bare_name (take (c.loop-at.at + 1) c.args.items.now)) (drop (c.loop-at.at + 1) c.args.items.now) ≡ typed_slots c.args.scope.now (names_in c.args.scope.now c.args.around.now) [] c.args.items.now)
          (sym (w.made-is ∙ w.in_ok-push-in-None.ensures.ok))
          (slots_next c.args.scope.now (names_in c.args.scope.now c.args.around.now) c.args.items.now c.loop-at.at c.index-items-at.result c.loop-at-test.true c.index-items-at.is c.loop-at.made (slot.Fixed w.in_ok-boxed_constant-in-None.field-0)
          (ap (λ (k : Const). slot.Fixed k) w.in_ok-boxed_constant-in-None.ensures ∙ slot_unbound (map bare_name (take c.loop-at.at c.args.items.now)) (bound_name c.args.scope.now (names_in c.args.scope.now c.args.around.now) c.index-items-at.result) (slot.Fixed (typed_const c.args.scope.now (names_in c.args.scope.now c.args.around.now) c.index-items-at.result)) c.in_ok-slot.ensures w.in-None.is) c.loop-at.invariant)
    ]

pub slots-returns : goal.slots-returns
slots-returns t c = slots_end c.args.scope.now (names_in c.args.scope.now c.args.around.now) (map bare_name (take c.loop-at.at c.args.items.now)) c.args.items.now c.loop-at.at c.loop-at-test.false c.loop-at.made c.loop-at.invariant

pub tuple-returns : goal.tuple-returns
tuple-returns t c =
    ap (λ (cs : List Const). typed_angle (out-Angle c.args.tree.now).place cs) (c.in_ok-constants.ensures ∙ ap (typed_consts c.args.scope.now (names_in c.args.scope.now c.args.around.now)) c.as_slice.ensures) ∙ sym (makes_tuple c.args.scope.now (names_in c.args.scope.now c.args.around.now) c.args.tree.now)
