-- Functions that are words: which of them is a constant where nothing is marked.
use Rattle.std.proofs.Common.{suc, ◌≡◌, Bool, true, false, not, List, [], ◌∷◌, map, length, Option, Some, None, unwrap_or, refl, sym, ap, subst, ◌∙◌}
use Rattle.std.proofs.lemmas.Bool.{false≢true}
use Rattle.std.specs.List.{list_any}
use Rattle.zim_fault.specs.declared.faults.Place.{Place}
use Rattle.zim_fault.specs.declared.words.Word.{Word}
use Rattle.zim_fault.specs.declared.words.Word.TheVariants.{WSet, WParam, WVar, WMinimize, WMaximize, WSubto, WDefnumb, WDefstrg, WDefbool, WDefset, WDo, WPrint, WCheck, WForall, WSum, WProd, WMin, WMax, WArgmin, WArgmax, WIf, WThen, WElse, WEnd, WVif, WVabs, WAnd, WOr, WXor, WNot, WIn, WWith, WTo, WBy, WUnion, WInter, WCross, WWithout, WSymdiff, WMod, WDiv, WRead, WAs, WSkip, WUse, WComment, WDefault, WBinary, WInteger, WReal, WInfinity, WPriority, WStartval, WTrue, WFalse, WProj, WPowerset, WSubsets, WIndexset, WAbs, WSgn, WFloor, WCeil, WRound, WCard, WOrd, WLength, WSubstr, WInclude, WRandom, WSqrt, WLog, WLn, WExp, WMatch, WSos, WImplicit, WExists, WScale, WSeparate, WCheckonly, WIndicator}
use Rattle.zim_tree.specs.declared.expr.Expr.{Expr}
use Rattle.zim_tree.specs.declared.expr.Expr.TheVariants.{Name, Func}
use Rattle.zim_tree.specs.Classes.{word_class}
use Rattle.zim_tree.specs.Levels.{is_function}
use Rattle.zim_typed.specs.declared.scope.Declared.{Declared}
use Rattle.zim_typed.specs.declared.scope.Declared.TheVariants.{Set, Parameter, Variable, Function, Constraint, Objective}
use Rattle.zim_typed.specs.declared.constant.Const.{Const}
use Rattle.zim_typed.specs.declared.constant.Const.TheVariants as const
use Rattle.zim_typed.specs.Pattern.{bare_name}
use Rattle.zim_typed.specs.Scope.{Text, Names, Scope, takes, kind_of_name, is_indexed_set}
use Rattle.zim_typed.specs.Variables.{has_variables, is_variable, is_vabs}
use Rattle.zim_typed.specs.Constants.{is_value_function, const_function, const_indexset}
use Rattle.zim_typed.proofs.VariableLaws.{has-Name, has-Func}
use Rattle.zim_static.specs.declared.role.Role.{Role}
use Rattle.zim_static.specs.declared.role.Role.TheVariants as role
use Rattle.zim_static.specs.Roles.{inside}
use Rattle.zim_static.specs.Faults.{Part, part_of, parts_of, all_faults, argument_faults, argument_role, has_arguments, is_indexed_set_name, is_set_argument}
use Rattle.zim_static.proofs.FirstLaws.{opens-Func}
use Rattle.zim_static.proofs.PartLaws.{part_name}
use Rattle.zim_typing.specs.Typing.{set_argument, placed_bare_name, typed_consts}
use Rattle.zim_typing.proofs.ConstantLaws.{makes-Func, placed_name_is, bare_is_name}
use Rattle.zim_typing.proofs.NumberLaws.{keeps-Func}
use Rattle.zim_typing.proofs.FitLemmas.{none_left, none_right, not_marked, either_left, neither, free_inside, free_variable}
use Rattle.zim_typing.proofs.GoesLemmas.{Fixed, Goes, become, AllGo, all_fixed, none_vary, quiet_items, consts_from}

-- a function that is a word: `indexset`, `vabs`, or one that stands among values, whose arguments are values
pub data Kind : Word → Type 0 where
  set_function : Kind WIndexset
  absolute : Kind WVabs
  value_function : {word : Word} → is_value_function word ≡ true → is_vabs word ≡ false →
      ((scope : Scope) (parts : List Part) → has_arguments scope word parts ≡ takes word (length parts)) →
      ((scope : Scope) (r : Role) (parts : List Part) → argument_role scope r word parts ≡ Some (inside r)) →
      ((given : List (Option (Place × Text))) → set_argument word given ≡ None) → Kind word

pub kind_of : (word : Word) → is_function (word_class word) ≡ true → Kind word
kind_of WSet h = absurd (false≢true h)
kind_of WParam h = absurd (false≢true h)
kind_of WVar h = absurd (false≢true h)
kind_of WMinimize h = absurd (false≢true h)
kind_of WMaximize h = absurd (false≢true h)
kind_of WSubto h = absurd (false≢true h)
kind_of WDefnumb h = absurd (false≢true h)
kind_of WDefstrg h = absurd (false≢true h)
kind_of WDefbool h = absurd (false≢true h)
kind_of WDefset h = absurd (false≢true h)
kind_of WDo h = absurd (false≢true h)
kind_of WPrint h = absurd (false≢true h)
kind_of WCheck h = absurd (false≢true h)
kind_of WForall h = absurd (false≢true h)
kind_of WSum h = absurd (false≢true h)
kind_of WProd h = absurd (false≢true h)
kind_of WMin h = value_function refl refl (λ scope parts. refl) (λ scope r parts. refl) (λ given. refl)
kind_of WMax h = value_function refl refl (λ scope parts. refl) (λ scope r parts. refl) (λ given. refl)
kind_of WArgmin h = absurd (false≢true h)
kind_of WArgmax h = absurd (false≢true h)
kind_of WIf h = absurd (false≢true h)
kind_of WThen h = absurd (false≢true h)
kind_of WElse h = absurd (false≢true h)
kind_of WEnd h = absurd (false≢true h)
kind_of WVif h = absurd (false≢true h)
kind_of WVabs h = absolute
kind_of WAnd h = absurd (false≢true h)
kind_of WOr h = absurd (false≢true h)
kind_of WXor h = absurd (false≢true h)
kind_of WNot h = absurd (false≢true h)
kind_of WIn h = absurd (false≢true h)
kind_of WWith h = absurd (false≢true h)
kind_of WTo h = absurd (false≢true h)
kind_of WBy h = absurd (false≢true h)
kind_of WUnion h = absurd (false≢true h)
kind_of WInter h = absurd (false≢true h)
kind_of WCross h = absurd (false≢true h)
kind_of WWithout h = absurd (false≢true h)
kind_of WSymdiff h = absurd (false≢true h)
kind_of WMod h = absurd (false≢true h)
kind_of WDiv h = absurd (false≢true h)
kind_of WRead h = absurd (false≢true h)
kind_of WAs h = absurd (false≢true h)
kind_of WSkip h = absurd (false≢true h)
kind_of WUse h = absurd (false≢true h)
kind_of WComment h = absurd (false≢true h)
kind_of WDefault h = absurd (false≢true h)
kind_of WBinary h = absurd (false≢true h)
kind_of WInteger h = absurd (false≢true h)
kind_of WReal h = absurd (false≢true h)
kind_of WInfinity h = absurd (false≢true h)
kind_of WPriority h = absurd (false≢true h)
kind_of WStartval h = absurd (false≢true h)
kind_of WTrue h = absurd (false≢true h)
kind_of WFalse h = absurd (false≢true h)
kind_of WProj h = absurd (false≢true h)
kind_of WPowerset h = absurd (false≢true h)
kind_of WSubsets h = absurd (false≢true h)
kind_of WIndexset h = set_function
kind_of WAbs h = value_function refl refl (λ scope parts. refl) (λ scope r parts. refl) (λ given. refl)
kind_of WSgn h = value_function refl refl (λ scope parts. refl) (λ scope r parts. refl) (λ given. refl)
kind_of WFloor h = value_function refl refl (λ scope parts. refl) (λ scope r parts. refl) (λ given. refl)
kind_of WCeil h = value_function refl refl (λ scope parts. refl) (λ scope r parts. refl) (λ given. refl)
kind_of WRound h = value_function refl refl (λ scope parts. refl) (λ scope r parts. refl) (λ given. refl)
kind_of WCard h = value_function refl refl (λ scope parts. refl) (λ scope r parts. refl) (λ given. refl)
kind_of WOrd h = value_function refl refl (λ scope parts. refl) (λ scope r parts. refl) (λ given. refl)
kind_of WLength h = value_function refl refl (λ scope parts. refl) (λ scope r parts. refl) (λ given. refl)
kind_of WSubstr h = value_function refl refl (λ scope parts. refl) (λ scope r parts. refl) (λ given. refl)
kind_of WInclude h = absurd (false≢true h)
kind_of WRandom h = absurd (false≢true h)
kind_of WSqrt h = absurd (false≢true h)
kind_of WLog h = absurd (false≢true h)
kind_of WLn h = absurd (false≢true h)
kind_of WExp h = absurd (false≢true h)
kind_of WMatch h = absurd (false≢true h)
kind_of WSos h = absurd (false≢true h)
kind_of WImplicit h = absurd (false≢true h)
kind_of WExists h = absurd (false≢true h)
kind_of WScale h = absurd (false≢true h)
kind_of WSeparate h = absurd (false≢true h)
kind_of WCheckonly h = absurd (false≢true h)
kind_of WIndicator h = absurd (false≢true h)

mapped_length : {A B : Type 0} (f : A → B) (items : List A) → length (map f items) ≡ length items
mapped_length f [] = refl
mapped_length f (item ∷ items) = ap suc (mapped_length f items)

-- a function that stands among values
goes_value_function : (scope : Scope) (p : Place) (word : Word) (given : List Expr) → is_value_function word ≡ true → is_vabs word ≡ false →
    ((scope : Scope) (parts : List Part) → has_arguments scope word parts ≡ takes word (length parts)) →
    ((scope : Scope) (r : Role) (parts : List Part) → argument_role scope r word parts ≡ Some (inside r)) →
    ((given : List (Option (Place × Text))) → set_argument word given ≡ None) → AllGo scope given → Goes scope (Func p word given)
goes_value_function scope p word given value never counts roles sets go r names others same numbers quiet free =
    let quiet_here = sym (opens-Func scope r names p word given) ∙ quiet in
    let parts = parts_of scope given in
    let marked = not_marked _ _ p (none_left _ _ (none_left _ _ (none_left _ _ quiet_here))) in
    let taken : takes word (length given) ≡ true = sym (counts scope parts ∙ ap (takes word) (mapped_length (part_of scope) given)) ∙ holds (has_arguments scope word parts) marked in
    let arguments = subst (λ (o : Option Role). argument_faults names parts o ≡ []) (roles scope r parts) (none_right _ _ quiet_here) in
    let inner = all_fixed scope given go role.Value names others same (sym (keeps-Func p word given) ∙ numbers)
    (quiet_items scope role.Value names given (subst (λ (x : Role). all_faults x names parts ≡ []) (free_inside r _ free) arguments)) tt in (
      become names (const_function p word value taken (consts_from scope names others given inner))
          (makes-Func scope names p word given ∙ ap (λ (o : Option (List Const)). const.Func p word (unwrap_or o (typed_consts scope names given))) (sets (map placed_bare_name given))),
      has-Func scope p word given ∙ neither _ _ never (none_vary scope names others given inner),
    )
  where
    holds : (b : Bool) → not b ≡ false → b ≡ true
    holds true h = refl
    holds false h = absurd (false≢true (sym h))

indexed_never_varies : (d : Option Declared) → is_indexed_set d ≡ true → is_variable d ≡ false
indexed_never_varies None h = absurd (false≢true h)
indexed_never_varies (Some (Set b)) h = refl
indexed_never_varies (Some (Parameter b)) h = refl
indexed_never_varies (Some (Variable b)) h = absurd (false≢true h)
indexed_never_varies (Some (Function n m)) h = refl
indexed_never_varies (Some Constraint) h = refl
indexed_never_varies (Some Objective) h = refl

-- `indexset` of the bare name of an indexed set
set_fixed : (scope : Scope) (names others : Names) (p q : Place) (name : Text) → is_indexed_set (kind_of_name scope name) ≡ true → Fixed scope names others (Func p WIndexset (Name q name ∷ []))
set_fixed scope names others p q name h = (
  become names (const_indexset p q name h)
      (makes-Func scope names p WIndexset (Name q name ∷ []) ∙ ap (λ (o : Option (Place × Text)). const.Func p WIndexset (unwrap_or (set_argument WIndexset (o ∷ [])) (typed_consts scope names (Name q name ∷ [])))) (placed_name_is q name)),
  has-Func scope p WIndexset (Name q name ∷ []) ∙ neither _ _ (has-Name scope q name ∙ indexed_never_varies (kind_of_name scope name) h) refl,
)

goes_indexset : (scope : Scope) (p : Place) (given : List Expr) → Goes scope (Func p WIndexset given)
goes_indexset scope p given r names others same numbers quiet free =
    let quiet_here = sym (opens-Func scope r names p WIndexset given) ∙ quiet in
    let marked = not_marked _ _ p (none_left _ _ (none_left _ _ (none_left _ _ quiet_here))) in
    at_given given (holds (is_set_argument scope (parts_of scope given)) marked)
  where
    holds : (b : Bool) → not b ≡ false → b ≡ true
    holds true h = refl
    holds false h = absurd (false≢true (sym h))

    at_name : (argument : Expr) (bare : Option Text) → bare_name argument ≡ bare → is_indexed_set_name scope bare ≡ true → Fixed scope names others (Func p WIndexset (argument ∷ []))
    at_name argument None is h = absurd (false≢true h)
    at_name argument (Some name) is h =
        let found = bare_is_name argument name is in subst (λ (e : Expr). Fixed scope names others (Func p WIndexset (e ∷ []))) (sym found.1) (set_fixed scope names others p found.0 name h)

    at_given : (given : List Expr) → is_set_argument scope (parts_of scope given) ≡ true → Fixed scope names others (Func p WIndexset given)
    at_given [] h = absurd (false≢true h)
    at_given (argument ∷ []) h = at_name argument (bare_name argument) refl (subst (λ (o : Option Text). is_indexed_set_name scope o ≡ true) (part_name scope argument) h)
    at_given (argument ∷ other ∷ more) h = absurd (false≢true h)

-- `vabs` is no constant
goes_absolute : (scope : Scope) (p : Place) (given : List Expr) → Goes scope (Func p WVabs given)
goes_absolute scope p given r names others same numbers quiet free =
    let quiet_here = sym (opens-Func scope r names p WVabs given) ∙ quiet in
    absurd (false≢true (sym (free_variable r _ true p free (λ is. either_left true (list_any (has_variables scope) given) (sym (has-Func scope p WVabs given) ∙ is)) (none_right _ _ (none_left _ _ (none_left _ _ quiet_here))))))

pub goes-Func : (scope : Scope) (p : Place) (word : Word) (given : List Expr) → Kind word → AllGo scope given → Goes scope (Func p word given)
goes-Func scope p _ given set_function go = goes_indexset scope p given
goes-Func scope p _ given absolute go = goes_absolute scope p given
goes-Func scope p word given (value_function value never counts roles sets) go = goes_value_function scope p word given value never counts roles sets go
