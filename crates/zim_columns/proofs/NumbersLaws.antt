-- What the table of numbers has where nothing was put into it.
use Rattle.std.proofs.Common.{ℕ, ◌≡◌, List, [], ◌∷◌, nat_eq, Result, Ok, Err, OnErr}
use Rattle.std.specs.Cmp.Lexicographic.{pointwise}
use Rattle.indexmap.specs.IndexMap.{get}
use Rattle.zim_columns.specs.declared.numbers.NumberTable.{NumberTable}
use Rattle.zim_columns.specs.Numbers.{KeepsIndexedNumbers, KeepsNumbers}

pub numbers_kept : (old new : NumberTable) → ((other : List ℕ) → get (pointwise nat_eq) new.single other ≡ get (pointwise nat_eq) old.single other) → KeepsIndexedNumbers old.indexed new.indexed → KeepsNumbers old new
numbers_kept old new single indexed other [] = single other
numbers_kept old new single indexed other (e ∷ es) = indexed other (e ∷ es)

-- what follows from a clause on an error
pub on_err : {A E : Type 0} {P Q : Type 0} (result : Result A E) → (P → Q) → OnErr result P → OnErr result Q
on_err (Ok value) step h = tt
on_err (Err error) step h = step h
