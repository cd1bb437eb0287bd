-- Each example is computed, by one equation for each form of its trees.
use Rattle.std.proofs.Common.{◌≡◌, lit<}
use Rattle.std.proofs.lemmas.Fmt.{decimal_digit, decimal_step}
use Rattle.std.specs.Prelude.{codes, decimal}
use Rattle.zim_meaning.proofs.MeaningLaws.{meanings}
use Rattle.zim_meaning.proofs.OnWrittenTrees.{on_written_trees}
use Rattle.zim_meaning.proofs.laws.values_of_some_expressions.Goals as goal

-- ---- the digits of the numbers that are printed

digits-0 : decimal 0 ≡ codes "0"
digits-0 = decimal_digit 0 (lit< tt)

digits-1 : decimal 1 ≡ codes "1"
digits-1 = decimal_digit 1 (lit< tt)

digits-2 : decimal 2 ≡ codes "2"
digits-2 = decimal_digit 2 (lit< tt)

digits-3 : decimal 3 ≡ codes "3"
digits-3 = decimal_digit 3 (lit< tt)

digits-4 : decimal 4 ≡ codes "4"
digits-4 = decimal_digit 4 (lit< tt)

digits-5 : decimal 5 ≡ codes "5"
digits-5 = decimal_digit 5 (lit< tt)

digits-6 : decimal 6 ≡ codes "6"
digits-6 = decimal_digit 6 (lit< tt)

digits-7 : decimal 7 ≡ codes "7"
digits-7 = decimal_digit 7 (lit< tt)

digits-8 : decimal 8 ≡ codes "8"
digits-8 = decimal_digit 8 (lit< tt)

digits-9 : decimal 9 ≡ codes "9"
digits-9 = decimal_digit 9 (lit< tt)

digits-30 : decimal 30 ≡ codes "30"
digits-30 = simp (decimal_step 30 (lit< tt) (lit< tt), digits-3)

ruleset digits = (digits-0, digits-1, digits-2, digits-3, digits-4, digits-5, digits-6, digits-7, digits-8, digits-9, digits-30)

-- ---- the examples

pub returns-clause-numbers : goal.returns-clause-numbers
unfolding on_written_trees
returns-clause-numbers c = record {
  lowest_terms = simp (meanings, digits);
  quotient_and_rest = simp (meanings, digits);
  half = simp (meanings, digits);
  greatest_factorial = simp (meanings, digits);
  factorial_past = simp (meanings, digits);
  literal_past = simp (meanings, digits);
  divisor = simp (meanings, digits);
  exponent_sign = simp (meanings, digits);
}

pub returns-clause-texts : goal.returns-clause-texts
unfolding on_written_trees
returns-clause-texts c = record {
  joined = simp (meanings, digits);
  part = simp (meanings, digits);
  behind_the_end = simp (meanings, digits);
  order = simp (meanings, digits);
}

pub returns-clause-order : goal.returns-clause-order
unfolding on_written_trees
returns-clause-order c = record {
  operands_first = simp (meanings, digits);
  each_in_turn = simp (meanings, digits);
  and_looks_first = simp (meanings, digits);
  and_skips = simp (meanings, digits);
  or_skips = simp (meanings, digits);
  xor_skips_nothing = simp (meanings, digits);
  members_first = simp (meanings, digits);
  chosen_branch = simp (meanings, digits);
}

pub returns-clause-sets : goal.returns-clause-sets
unfolding on_written_trees
returns-clause-sets c = record {
  operators = simp (meanings, digits);
  families = simp (meanings, digits);
  projection = simp (meanings, digits);
  best_tuples = simp (meanings, digits);
  steps = simp (meanings, digits);
  empty_spans = simp (meanings, digits);
  longer_tuple = simp (meanings, digits);
  kinds = simp (meanings, digits);
  half_end = simp (meanings, digits);
  no_step = simp (meanings, digits);
  least_of_none = simp (meanings, digits);
}

pub returns-clause-indices : goal.returns-clause-indices
unfolding on_written_trees
returns-clause-indices c = record {
  bound_outside = simp (meanings, digits);
  bound_before = simp (meanings, digits);
  other_length = simp (meanings, digits);
  condition = simp (meanings, digits);
}

pub returns-clause-parameters : goal.returns-clause-parameters
unfolding on_written_trees
returns-clause-parameters c = record {
  values = simp (meanings, digits);
  none_given = simp (meanings, digits);
  beyond_the_default = simp (meanings, digits);
  outside = simp (meanings, digits);
  twice = simp (meanings, digits);
  default_last = simp (meanings, digits);
  a_set = simp (meanings, digits);
}

pub returns-clause-files : goal.returns-clause-files
unfolding on_written_trees
returns-clause-files c = record {
  first_row = simp (meanings, digits);
  no_row = simp (meanings, digits);
  tuples = simp (meanings, digits);
  short_line = simp (meanings, digits);
  bad_template = simp (meanings, digits);
  missing = simp (meanings, digits);
}

pub returns-clause-doings : goal.returns-clause-doings
unfolding on_written_trees
returns-clause-doings c = record {
  check = simp (meanings, digits);
  each = simp (meanings, digits);
  tuple = simp (meanings, digits);
}
