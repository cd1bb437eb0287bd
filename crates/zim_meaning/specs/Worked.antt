-- Some statements, and what is printed behind them, or which fault stops them.
use Rattle.std.specs.Prelude.{ℕ, ◌≡◌, true, false, List, [], ◌∷◌, map, Option, Some, None, Result, Ok, Err, codes}
use Rattle.zim_answer.specs.Answer.{Answer, goes}
use Rattle.zim_fault.specs.declared.faults.Fault.{Fault}
use Rattle.zim_fault.specs.declared.faults.Place.{Place}
use Rattle.zim_fault.specs.declared.kinds.Kind.{Kind}
use Rattle.zim_fault.specs.declared.kinds.Kind.TheVariants as kind
use Rattle.zim_fault.specs.declared.signs.Sign.{Sign}
use Rattle.zim_fault.specs.declared.signs.Sign.TheVariants as sign
use Rattle.zim_fault.specs.declared.tokens.Relation.TheVariants as relation
use Rattle.zim_fault.specs.declared.tokens.Token.TheVariants as token
use Rattle.zim_fault.specs.declared.words.Word.{Word}
use Rattle.zim_fault.specs.declared.words.Word.TheVariants as words
use Rattle.zim_meaning.specs.DataFiles.{StatementStop, AtFault, NoFile, RowSource, rows_in_file}
use Rattle.zim_meaning.specs.Printing.{UnfinishedPrint, doing_output}
use Rattle.zim_meaning.specs.Statements.{world_after}
use Rattle.zim_meaning.specs.World.{World, empty_world, fault_of}
use Rattle.zim_typed.specs.Trees.{typed_angle, typed_loop}
use Rattle.zim_typed.specs.declared.constant.Const.{Const}
use Rattle.zim_typed.specs.declared.constant.Const.TheVariants as const
use Rattle.zim_typed.specs.declared.constant.Loop.{Loop}
use Rattle.zim_typed.specs.declared.constant.LoopSlot.{LoopSlot}
use Rattle.zim_typed.specs.declared.constant.LoopSlot.TheVariants as slot
use Rattle.zim_typed.specs.declared.constant.Resolved.TheVariants as resolved
use Rattle.zim_typed.specs.declared.constant.TBody.TheVariants as body
use Rattle.zim_typed.specs.declared.statement.TBracket.TheVariants as bracket
use Rattle.zim_typed.specs.declared.statement.TDoing.{TDoing}
use Rattle.zim_typed.specs.declared.statement.TDoing.TheVariants as doing
use Rattle.zim_typed.specs.declared.statement.TParSide.{TParSide}
use Rattle.zim_typed.specs.declared.statement.TParSide.TheVariants as par_side
use Rattle.zim_typed.specs.declared.statement.TPrinted.TheVariants as item
use Rattle.zim_typed.specs.declared.statement.TSetSide.TheVariants as set_side
use Rattle.zim_typed.specs.declared.statement.TShape.{TShape}
use Rattle.zim_typed.specs.declared.statement.TShape.TheVariants as shape
use Rattle.zim_typed.specs.declared.statement.TStmt.{TStmt}
use Rattle.zim_typed.specs.declared.statement.TReading.{TReading}

-- ---- what is told

-- a data file of these bytes, or no file, whatever its name
abbrev pub file_of_bytes : Option (List ℕ) → RowSource
file_of_bytes bytes = record { file = 1; rows = λ request. rows_in_file 1 request bytes }

-- the world behind statements
abbrev pub world_behind : RowSource → List TStmt → Answer World StatementStop
world_behind source stmts = goes (λ world stmt. world_after world source stmt) empty_world stmts

-- what was printed, and the fault that stopped it or the name of no file, if one did
pub record Told : Type 0 where
  pub text : List ℕ
  pub fault : Option Fault
  pub no_file : Option (List ℕ)

-- this text alone
abbrev pub told_text : List ℕ → Told
told_text text = record { text = text; fault = None; no_file = None }

-- this text, and then a fault of this kind at a place
abbrev pub told_fault : List ℕ → Place → Kind → Told
told_fault text place why = record { text = text; fault = Some (fault_of place why); no_file = None }

-- what a print tells
abbrev pub told_of_print : Result (List ℕ) UnfinishedPrint → Told
told_of_print (Ok text) = told_text text
told_of_print (Err unfinished) = record { text = unfinished.text; fault = Some unfinished.fault; no_file = None }

-- what a doing tells behind statements
abbrev pub told_in : Answer World StatementStop → TDoing → Told
told_in (Ok world) does = told_of_print (doing_output world does [] [])
told_in (Err (AtFault fault)) does = record { text = []; fault = Some fault; no_file = None }
told_in (Err (NoFile name)) does = record { text = []; fault = None; no_file = Some name }

-- what is told by statements that read a file of these bytes, and then a doing
abbrev pub told_with_file : Option (List ℕ) → List TStmt → TDoing → Told
told_with_file bytes stmts does = told_in (world_behind (file_of_bytes bytes) stmts) does

-- behind these statements a doing prints this text
abbrev pub PrintsBehind : List TStmt → TDoing → List ℕ → Type 0
PrintsBehind stmts does text = told_with_file None stmts does ≡ told_text text

-- these statements, or a doing behind them, meet this fault before anything is printed
abbrev pub StopsBehind : List TStmt → TDoing → Place → Kind → Type 0
StopsBehind stmts does place why = told_with_file None stmts does ≡ told_fault [] place why

-- ---- trees

-- the line of most tokens
abbrev pub here : Place
here = record { file = 0; line = 1 }

-- the line of the tokens of which a place is asked
abbrev pub there : Place
there = record { file = 0; line = 2 }

-- a number
abbrev pub numeral : List ℕ → Const
numeral digits = const.Number here digits

-- a text
abbrev pub quoted : List ℕ → Const
quoted s = const.Text here s true

-- a name that an index or a function binds
abbrev pub bound_use : List ℕ → Const
bound_use name = const.Name here name resolved.Local

-- the name of a set
abbrev pub set_use : List ℕ → Const
set_use name = const.Name here name resolved.Set

-- `-a`
abbrev pub minus_tree : Const → Const
minus_tree a = const.Signed here true a

-- `a + b` and the like, whose sign stands at a place
abbrev pub sum_tree : Place → Const → Sign → Const → Const
sum_tree place a op b = const.Plus a ((place, token.Sign op, b) ∷ [])

-- `a union b` and the like
abbrev pub word_sum_tree : Const → Word → Const → Const
word_sum_tree a op b = const.Plus a ((here, token.Word op, b) ∷ [])

-- `a * b` and the like
abbrev pub product_tree : Place → Const → Sign → Const → Const
product_tree place a op b = const.Times a ((place, token.Sign op, b) ∷ [])

-- `a div b` and the like
abbrev pub word_product_tree : Const → Word → Const → Const
word_product_tree a op b = const.Times a ((here, token.Word op, b) ∷ [])

-- `1/0`, whose `/` stands on the other line
abbrev pub no_quotient : Const
no_quotient = product_tree there (numeral (codes "1")) sign.SSlash (numeral (codes "0"))

-- `1/0 == 1`
abbrev pub no_truth : Const
no_truth = const.Compare here relation.EqualTo no_quotient (numeral (codes "1"))

-- a function that is a word
abbrev pub word_call : Word → List Const → Const
word_call name given = const.Func here name given

-- `{a, b}`
abbrev pub members_tree : List Const → Const
members_tree members = const.Braces here (body.Members members)

-- `{<a, b>, <c, d>}`
abbrev pub tuples_tree : List (List Const) → Const
tuples_tree tuples = const.Braces here (body.Tuples (map (typed_angle here) tuples))

-- `{a..b by c}`
abbrev pub span_tree : Const → Const → Option Const → Const
span_tree from to by = const.Braces here (body.Span from false to by)

-- an index whose `in` stands on the other line
abbrev pub index_tree : List LoopSlot → Const → Loop
index_tree slots over = typed_loop there slots over None

-- `sum index : a` and the like
abbrev pub big_tree : Word → Loop → Const → Const
big_tree name index c = const.Big here name index false c

-- a statement whose name stands on the other line
abbrev pub stated : List ℕ → TShape → TStmt
stated name what = record { first = here; at = there; name = name; shape = what }

-- `set NAME := a;`
abbrev pub set_stated : List ℕ → Const → TStmt
set_stated name c = stated name (shape.Set None (set_side.Value c))

-- `param NAME := a;`
abbrev pub param_stated : List ℕ → Const → TStmt
param_stated name c = stated name (shape.Param None (par_side.Value c))

-- `param NAME[over] := ..;`
abbrev pub params_stated : List ℕ → Const → TParSide → TStmt
params_stated name over listed = stated name (shape.Param (Some (bracket.Over over)) listed)

-- a `read` whose `as` stands on the other line
abbrev pub reading_tree : List ℕ → List ℕ → List (Place × Word × Const) → TReading
reading_tree file template options = record { place = there; file = quoted file; template = quoted template; options = options }

-- a `print` of values
abbrev pub print_tree : List Const → TDoing
print_tree items = doing.Print here (map (λ c. item.Value c) items)

-- ---- numbers

-- numbers are exact, and a half is rounded away from 0
pub record NumbersAreExact : Type 0 where
  pub lowest_terms : PrintsBehind [] (print_tree (product_tree here (numeral (codes "2")) sign.SSlash (numeral (codes "6")) ∷ [])) (codes "1/3\n")
  pub quotient_and_rest :
      PrintsBehind [] (print_tree (word_product_tree (minus_tree (numeral (codes "7"))) words.WDiv (numeral (codes "2")) ∷ word_product_tree (minus_tree (numeral (codes "7"))) words.WMod (numeral (codes "2")) ∷ [])) (codes "-3 -1\n")
  pub half : PrintsBehind [] (print_tree (word_call words.WRound (product_tree here (numeral (codes "5")) sign.SSlash (numeral (codes "2")) ∷ []) ∷ [])) (codes "3\n")
  pub greatest_factorial :
      PrintsBehind [] (print_tree (const.Compare here relation.EqualTo (const.Factorial (numeral (codes "33")) (here ∷ [])) (numeral (codes "8683317618811886495518194401280000000")) ∷ [])) (codes "true\n")
  pub factorial_past : StopsBehind [] (print_tree (const.Factorial (numeral (codes "34")) (there ∷ []) ∷ [])) there kind.Past
  pub literal_past : StopsBehind [] (print_tree (numeral (codes "170141183460469231731687303715884105728") ∷ [])) here kind.Past
  pub divisor : StopsBehind [] (print_tree (no_quotient ∷ [])) there kind.DivZero
  pub exponent_sign : StopsBehind [] (print_tree (const.Power here sign.SCaret (numeral (codes "2")) (Some (there, true)) (quoted (codes "a")) ∷ [])) there kind.WrongKind

-- ---- texts

-- texts are lists of bytes
pub record TextsAreLists : Type 0 where
  pub joined : PrintsBehind [] (print_tree (sum_tree here (quoted (codes "ab")) sign.SPlus (quoted (codes "c")) ∷ [])) (codes "abc\n")
  pub part : PrintsBehind [] (print_tree (word_call words.WSubstr (quoted (codes "hamburg") ∷ numeral (codes "1") ∷ numeral (codes "3") ∷ []) ∷ [])) (codes "amb\n")
  pub behind_the_end : PrintsBehind [] (print_tree (word_call words.WSubstr (quoted (codes "ab") ∷ numeral (codes "5") ∷ numeral (codes "3") ∷ []) ∷ [])) (codes "\n")
  pub order : PrintsBehind [] (print_tree (const.Compare here relation.LessThan (quoted (codes "ab")) (quoted (codes "b")) ∷ [])) (codes "true\n")

-- ---- order

-- operands are evaluated from left to right, and an operator is applied once its own are
pub record OperandsGoFromTheLeft : Type 0 where
  pub operands_first : StopsBehind [] (print_tree (sum_tree here (const.Truth here true) sign.SPlus no_quotient ∷ [])) there kind.DivZero
  pub each_in_turn :
      StopsBehind [] (print_tree (const.Plus (quoted (codes "a")) ((here, token.Sign sign.SPlus, numeral (codes "1")) ∷ (here, token.Sign sign.SPlus, no_quotient) ∷ []) ∷ [])) here kind.WrongKind
  pub and_looks_first : StopsBehind [] (print_tree (const.And (numeral (codes "5")) ((here, no_truth) ∷ []) ∷ [])) here kind.WrongKind
  pub and_skips : PrintsBehind [] (print_tree (const.And (const.Truth here false) ((here, no_truth) ∷ []) ∷ [])) (codes "false\n")
  pub or_skips : PrintsBehind [] (print_tree (const.Or (const.Truth here true) ((here, false, no_truth) ∷ []) ∷ [])) (codes "true\n")
  pub xor_skips_nothing : StopsBehind [] (print_tree (const.Or (const.Truth here true) ((here, true, no_truth) ∷ []) ∷ [])) there kind.DivZero
  pub members_first : StopsBehind [] (print_tree (members_tree (numeral (codes "1") ∷ quoted (codes "a") ∷ no_quotient ∷ []) ∷ [])) there kind.DivZero
  pub chosen_branch : PrintsBehind [] (print_tree (const.If here (const.Truth here true) (numeral (codes "1")) no_quotient ∷ [])) (codes "1\n")

-- ---- sets

-- `set A := {3,1,2,1}; set B := {<2>,<4>};`
abbrev pub two_sets : List TStmt
two_sets =
    set_stated (codes "A") (members_tree (numeral (codes "3") ∷ numeral (codes "1") ∷ numeral (codes "2") ∷ numeral (codes "1") ∷ []))
    ∷ set_stated (codes "B") (tuples_tree ((numeral (codes "2") ∷ []) ∷ (numeral (codes "4") ∷ []) ∷ [])) ∷ []

-- `set A := {3,1,2,1}; set P[] := subsets(A,2);`
abbrev pub pairs_of_set : List TStmt
pairs_of_set =
    set_stated (codes "A") (members_tree (numeral (codes "3") ∷ numeral (codes "1") ∷ numeral (codes "2") ∷ numeral (codes "1") ∷ []))
    ∷ stated (codes "P") (shape.Set (Some bracket.Empty) (set_side.Value (word_call words.WSubsets (set_use (codes "A") ∷ numeral (codes "2") ∷ [])))) ∷ []

-- `abs(i-2)`
abbrev pub distance_to_two : Const
distance_to_two = word_call words.WAbs (sum_tree here (bound_use (codes "i")) sign.SMinus (numeral (codes "2")) ∷ [])

-- `<i> in A`
abbrev pub each_of_set : Loop
each_of_set = index_tree (slot.Free (codes "i") ∷ []) (set_use (codes "A"))

-- sets keep their order
pub record SetsAreLists : Type 0 where
  pub operators :
      PrintsBehind two_sets (print_tree (word_sum_tree (set_use (codes "A")) words.WUnion (set_use (codes "B"))
      ∷ word_product_tree (set_use (codes "A")) words.WInter (set_use (codes "B"))
      ∷ sum_tree here (set_use (codes "A")) sign.SBackslash (set_use (codes "B"))
      ∷ word_sum_tree (set_use (codes "A")) words.WSymdiff (set_use (codes "B")) ∷ []))
      (codes "{<3>,<1>,<2>,<4>} {<2>} {<3>,<1>} {<3>,<1>,<4>}\n")
  pub families :
      PrintsBehind pairs_of_set (print_tree (word_call words.WCard (word_call words.WIndexset (set_use (codes "P") ∷ []) ∷ []) ∷ const.Item here (codes "P") (numeral (codes "3") ∷ []) resolved.Set ∷ []))
      (codes "3 {<1>,<2>}\n")
  pub projection :
      PrintsBehind [] (print_tree (const.Proj here (tuples_tree ((numeral (codes "1") ∷ quoted (codes "a") ∷ []) ∷ (numeral (codes "2") ∷ quoted (codes "a") ∷ []) ∷ [])) (typed_angle here (numeral (codes "2") ∷ [])) ∷ []))
      (codes "{<a>}\n")
  pub best_tuples : PrintsBehind two_sets (print_tree (big_tree words.WArgmin each_of_set distance_to_two ∷ big_tree words.WArgmax each_of_set distance_to_two ∷ [])) (codes "{<2>} {<3>}\n")
  pub steps : PrintsBehind [] (print_tree (span_tree (numeral (codes "1")) (numeral (codes "6")) (Some (numeral (codes "2"))) ∷ [])) (codes "{<1>,<3>,<5>}\n")
  pub empty_spans :
      PrintsBehind [] (print_tree (span_tree (numeral (codes "5")) (numeral (codes "1")) None ∷ span_tree (numeral (codes "1")) (numeral (codes "5")) (Some (minus_tree (numeral (codes "1")))) ∷ [])) (codes "{} {}\n")
  pub longer_tuple : PrintsBehind two_sets (print_tree (const.Member here (typed_angle here (numeral (codes "1") ∷ numeral (codes "2") ∷ [])) (set_use (codes "A")) ∷ [])) (codes "false\n")
  pub kinds : StopsBehind [] (print_tree (members_tree (numeral (codes "1") ∷ quoted (codes "a") ∷ []) ∷ [])) here kind.WrongKind
  pub half_end : StopsBehind [] (print_tree (span_tree (numeral (codes "1")) (product_tree here (numeral (codes "5")) sign.SSlash (numeral (codes "2"))) None ∷ [])) here kind.NotInteger
  pub no_step : StopsBehind [] (print_tree (span_tree (numeral (codes "1")) (numeral (codes "3")) (Some (numeral (codes "0"))) ∷ [])) here kind.StepZero
  pub least_of_none : StopsBehind [] (print_tree (big_tree words.WMin (index_tree (slot.Free (codes "i") ∷ []) (const.Braces here body.Empty)) (bound_use (codes "i")) ∷ [])) here kind.EmptyChoice

-- ---- indices

-- `set A := {1,2}; set C := {<1,1>,<1,2>};`
abbrev pub set_and_pairs : List TStmt
set_and_pairs =
    set_stated (codes "A") (members_tree (numeral (codes "1") ∷ numeral (codes "2") ∷ []))
    ∷ set_stated (codes "C") (tuples_tree ((numeral (codes "1") ∷ numeral (codes "1") ∷ []) ∷ (numeral (codes "1") ∷ numeral (codes "2") ∷ []) ∷ [])) ∷ []

-- a name that is bound around an index isn't bound anew, and a name that stands again equals the first
pub record IndicesBindOnce : Type 0 where
  pub bound_outside :
      PrintsBehind set_and_pairs (print_tree (big_tree words.WSum each_of_set (big_tree words.WSum (index_tree (slot.Fixed (bound_use (codes "i")) ∷ slot.Free (codes "b") ∷ []) (set_use (codes "C"))) (numeral (codes "1"))) ∷ []))
      (codes "2\n")
  pub bound_before :
      PrintsBehind set_and_pairs (print_tree (big_tree words.WSum (index_tree (slot.Free (codes "i") ∷ slot.Again 0 ∷ []) (set_use (codes "C"))) (numeral (codes "1")) ∷ [])) (codes "1\n")
  pub other_length : StopsBehind set_and_pairs (print_tree (big_tree words.WSum (index_tree (slot.Free (codes "i") ∷ []) (set_use (codes "C"))) (numeral (codes "1")) ∷ [])) there kind.WrongKind
  pub condition :
      PrintsBehind set_and_pairs (print_tree (const.Braces here (body.Those (typed_loop here (slot.Free (codes "i") ∷ []) (set_use (codes "A")) (Some (const.Compare here relation.GreaterThan (bound_use (codes "i")) (numeral (codes "1")))))) ∷ []))
      (codes "{<2>}\n")

-- ---- parameters and functions

-- `{1..n}`
abbrev pub up_to : List ℕ → Const
up_to digits = span_tree (numeral (codes "1")) (numeral digits) None

-- `defnumb sq(a) := a^2; param u[{1..3}] := <1> 5, <3> 7 default -1; param h[{1,2}*{"a","b"}] := |"a","b"| |1|10,20| |2|30,40|;`
abbrev pub function_and_params : List TStmt
function_and_params =
    stated (codes "sq") (shape.Define words.WDefnumb ((here, codes "a") ∷ []) (const.Power here sign.SCaret (bound_use (codes "a")) None (numeral (codes "2"))))
    ∷ params_stated (codes "u") (up_to (codes "3")) (par_side.Entries ((typed_angle here (numeral (codes "1") ∷ []), numeral (codes "5")) ∷ (typed_angle here (numeral (codes "3") ∷ []), numeral (codes "7")) ∷ []) (Some (here, minus_tree (numeral (codes "1")))))
    ∷ params_stated (codes "h") (product_tree here (members_tree (numeral (codes "1") ∷ numeral (codes "2") ∷ [])) sign.SStar (members_tree (quoted (codes "a") ∷ quoted (codes "b") ∷ [])))
    (par_side.Table (record {
      head = quoted (codes "a") ∷ quoted (codes "b") ∷ [];
      rows = (numeral (codes "1") ∷ [], numeral (codes "10") ∷ numeral (codes "20") ∷ []) ∷ (numeral (codes "2") ∷ [], numeral (codes "30") ∷ numeral (codes "40") ∷ []) ∷ [];
    }) None) ∷ []

-- a value of a parameter at an index
abbrev pub item_use : List ℕ → List Const → Const
item_use name index = const.Item there name index resolved.Parameter

-- `param u[{1..2}] := <1> 5;`, with a further entry whose `<` stands on the other line
abbrev pub entry_then : List Const → Const → TStmt
entry_then index c = params_stated (codes "u") (up_to (codes "2")) (par_side.Entries ((typed_angle here (numeral (codes "1") ∷ []), numeral (codes "5")) ∷ (typed_angle there index, c) ∷ []) (Some (here, no_quotient)))

-- parameters have the values that they were given, and functions those of their bodies
pub record ParametersKeepTheirValues : Type 0 where
  pub values :
      PrintsBehind function_and_params (print_tree (const.Call here (codes "sq") (numeral (codes "3") ∷ []) resolved.Function ∷ item_use (codes "u") (numeral (codes "2") ∷ []) ∷ item_use (codes "h") (numeral (codes "2") ∷ quoted (codes "a") ∷ []) ∷ []))
      (codes "9 -1 30\n")
  pub none_given :
      StopsBehind (params_stated (codes "u") (up_to (codes "2")) (par_side.Entries ((typed_angle here (numeral (codes "1") ∷ []), numeral (codes "5")) ∷ []) None) ∷ []) (print_tree (item_use (codes "u") (numeral (codes "2") ∷ []) ∷ [])) there kind.NoEntry
  pub beyond_the_default : StopsBehind function_and_params (print_tree (item_use (codes "u") (numeral (codes "4") ∷ []) ∷ [])) there kind.NoEntry
  pub outside : StopsBehind (entry_then (numeral (codes "4") ∷ []) (numeral (codes "1")) ∷ []) (print_tree []) there kind.NoEntry
  pub twice : StopsBehind (entry_then (numeral (codes "1") ∷ []) (numeral (codes "6")) ∷ []) (print_tree []) there kind.Twice
  pub default_last : StopsBehind (entry_then (numeral (codes "4") ∷ []) (members_tree []) ∷ []) (print_tree []) there kind.WrongKind
  pub a_set : StopsBehind (param_stated (codes "p") (up_to (codes "2")) ∷ []) (print_tree []) there kind.WrongKind

-- ---- data files

-- the bytes of a file of two lines
abbrev pub two_lines : List ℕ
two_lines = codes "a 1\nb 2\n"

-- `param w := read "e.txt" as "2n" skip n;`
abbrev pub read_param_stated : List ℕ → TStmt
read_param_stated digits = stated (codes "w") (shape.Param None (par_side.Read (reading_tree (codes "e.txt") (codes "2n") ((here, words.WSkip, numeral digits) ∷ [])) None))

-- `set T := { read "d.csv" as template skip 1 use 2 };`
abbrev pub read_set_stated : List ℕ → TStmt
read_set_stated template = stated (codes "T") (shape.Set None (set_side.Read (reading_tree (codes "d.csv") template ((here, words.WSkip, numeral (codes "1")) ∷ (here, words.WUse, numeral (codes "2")) ∷ []))))

-- rows of a file become members and values
pub record FilesAreRead : Type 0 where
  pub first_row : told_with_file (Some two_lines) (read_param_stated (codes "1") ∷ []) (print_tree (const.Name here (codes "w") resolved.Parameter ∷ [])) ≡ told_text (codes "2\n")
  pub no_row : told_with_file (Some two_lines) (read_param_stated (codes "2") ∷ []) (print_tree []) ≡ told_fault [] there kind.NoEntry
  pub tuples :
      told_with_file (Some (codes "name;a;b;c;d\nHamburg;3;x;y;7\nBremen;1;a;b;2\nKiel;5;e;f;9")) (read_set_stated (codes "<1s,5n,2n>") ∷ []) (print_tree (set_use (codes "T") ∷ []))
      ≡ told_text (codes "{<Hamburg,7,3>,<Bremen,2,1>}\n")
  pub short_line :
      told_with_file (Some (codes "name;a;b;c;d\nHamburg;3;x;y;7\nBremen;1;a;b\n")) (read_set_stated (codes "<1s,5n,2n>") ∷ []) (print_tree [])
      ≡ told_fault [] (record { file = 1; line = 3 }) kind.ShortLine
  pub bad_template : told_with_file (Some []) (read_set_stated (codes "<1q>") ∷ []) (print_tree []) ≡ told_fault [] there kind.BadTemplate
  pub missing : told_with_file None (read_set_stated (codes "<1s>") ∷ []) (print_tree []) ≡ record { text = []; fault = None; no_file = Some (codes "d.csv") }

-- ---- what is done

-- a check that is false stops, and what was printed before a fault stays
pub record DoingsStopAtFaults : Type 0 where
  pub check : StopsBehind [] (doing.Check there (const.Compare here relation.GreaterThan (numeral (codes "1")) (numeral (codes "2")))) there kind.CheckFailed
  pub each :
      told_with_file None [] (doing.Forall here (index_tree (slot.Free (codes "i") ∷ []) (members_tree (numeral (codes "2") ∷ numeral (codes "0") ∷ []))) false (print_tree (product_tree there (numeral (codes "2")) sign.SSlash (bound_use (codes "i")) ∷ [])))
      ≡ told_fault (codes "1\n") there kind.DivZero
  pub tuple : PrintsBehind [] (doing.Print here (item.Tuple (typed_angle here (quoted (codes "a") ∷ numeral (codes "1") ∷ [])) ∷ [])) (codes "<a,1>\n")
