-- What a `do` prints, and the fault that stops it.
use Rattle.std.specs.Prelude.{ℕ, ◌==◌, if◌then◌else◌, true, false, List, [], ◌∷◌, ◌++◌, map, flat_map, Ok, Err, codes, decimal}
use Rattle.std.specs.Fmt.{signed_decimal}
use Rattle.zim_answer.specs.Answer.{Answer, ◌>>=◌, goes}
use Rattle.zim_fault.specs.declared.faults.Fault.{Fault}
use Rattle.zim_fault.specs.declared.faults.Place.{Place}
use Rattle.zim_fault.specs.declared.kinds.Kind.TheVariants.{CheckFailed}
use Rattle.zim_meaning.specs.Expressions.{tuple_of_parts, truth_at}
use Rattle.zim_meaning.specs.Statements.{const_known}
use Rattle.zim_meaning.specs.Value.{value, index_choices}
use Rattle.zim_meaning.specs.World.{World, fault_of}
use Rattle.zim_meaning.specs.declared.values.Value as values
use Rattle.zim_meaning.specs.declared.values.Value.TheVariants as of_value
use Rattle.zim_rational.specs.Rational.{Rational}
use Rattle.zim_tuples.specs.declared.elements.Elem.{Elem}
use Rattle.zim_tuples.specs.declared.elements.Elem.TheVariants as elem
use Rattle.zim_tuples.specs.declared.environments.Binding.{Binding}
use Rattle.zim_typed.specs.declared.constant.Const.{Const}
use Rattle.zim_typed.specs.declared.constant.TAngle.{out-TAngle}
use Rattle.zim_typed.specs.declared.statement.TDoing.{TDoing, TDoing-F, fold-TDoing}
use Rattle.zim_typed.specs.declared.statement.TPrinted.{TPrinted}
use Rattle.zim_typed.specs.declared.statement.TPrinted.TheVariants as item

-- ---- the text of a value

-- a number: `n`, or `n/d` where it isn't whole
abbrev pub number_output : Rational → List ℕ
number_output q = if q.denom == 1 then signed_decimal q.numer else signed_decimal q.numer ++ (codes "/" ++ decimal q.denom)

-- a component of a tuple: a number, or a text as it is
abbrev pub element_output : Elem → List ℕ
element_output (elem.Number q) = number_output q
element_output (elem.Text s) = s

-- texts with a byte between each two
abbrev pub with_between : ℕ → List (List ℕ) → List ℕ
with_between byte [] = []
with_between byte (text ∷ texts) = text ++ flat_map (λ next. byte ∷ next) texts

-- `<a,b>`
abbrev pub tuple_output : List Elem → List ℕ
tuple_output tuple = codes "<" ++ (with_between 44 (map element_output tuple) ++ codes ">")

-- `{<a>,<b>}`
abbrev pub set_output : List (List Elem) → List ℕ
set_output tuples = codes "{" ++ (with_between 44 (map tuple_output tuples) ++ codes "}")

-- a value: a number, a text as it is, `true` or `false`, or a set
unfoldable pub value_output : values.Value → List ℕ
value_output (of_value.Number q) = number_output q
value_output (of_value.Text s) = s
value_output (of_value.Truth true) = codes "true"
value_output (of_value.Truth false) = codes "false"
value_output (of_value.Set a) = set_output a

-- ---- printing

-- what was printed before a fault, and the fault
pub record UnfinishedPrint : Type 0 where
  pub text : List ℕ
  pub fault : Fault

-- the same answer, behind what was printed before
abbrev pub behind_text : {A : Type 0} → List ℕ → Answer A Fault → Answer A UnfinishedPrint
behind_text before (Ok answer) = Ok answer
behind_text before (Err fault) = Err (record { text = before; fault = fault })

-- the text of what a `print` prints
abbrev pub item_text : World → List Binding → TPrinted → Answer (List ℕ) Fault
item_text world env (item.Value c) = value world env c >>= λ v. Ok (value_output v)
item_text world env (item.Tuple tuple) = tuple_of_parts (const_known world) env (out-TAngle tuple).items >>= λ t. Ok (tuple_output t)

-- the texts so far with one more
abbrev pub with_item : World → List Binding → List (List ℕ) → TPrinted → Answer (List (List ℕ)) Fault
with_item world env texts next = item_text world env next >>= λ text. Ok (texts ++ text ∷ [])

-- the line that a `print` prints, once all its items are evaluated: their texts with a blank between each two
unfoldable pub print_output : World → List Binding → List TPrinted → Answer (List ℕ) Fault
print_output world env items = goes (with_item world env) [] items >>= λ texts. Ok (with_between 32 texts ++ codes "\n")

-- a `check`, which fails where its value is false
unfoldable pub passes_check : World → List Binding → Place → Const → Answer (Unit {0}) Fault
passes_check world env place c = truth_at (const_known world) env place c >>= λ b. if b then Ok tt else Err (fault_of place CheckFailed)

-- what is printed once a doing was done in an environment, where it is known what was printed before
abbrev pub Doing : Type 0
Doing = List Binding → List ℕ → Answer (List ℕ) UnfinishedPrint

-- a doing, where it is known what the one within it does; that is done at each choice of its index, in order
abbrev pub doing_output_step : World → TDoing-F Doing → Doing
doing_output_step world (TDoing-F.Print place items) = λ env before. behind_text before (print_output world env items) >>= λ line. Ok (before ++ line)
doing_output_step world (TDoing-F.Check place c) = λ env before. behind_text before (passes_check world env place c) >>= λ passed. Ok before
doing_output_step world (TDoing-F.Forall place index with_do inner) = λ env before.
    behind_text before (index_choices world env index) >>= λ choices. goes (λ text choice. inner choice.env text) before choices

-- what a doing prints behind what was printed before, or what was printed up to its first fault
unfoldable pub doing_output : World → TDoing → Doing
doing_output world = fold-TDoing Doing (doing_output_step world)
