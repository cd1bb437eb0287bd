-- A declared column is found by its name and its tuple and by no others, and one more stands at the end.
use Rattle.std.proofs.Common.{ℕ, suc, ◌≡◌, ◌<◌, ◌≤◌, Bool, true, false, IsTrue, cond, List, [], ◌∷◌, nat_eq, nat_le, Option, Some, None, unwrap_or, All, if◌then◌else◌, refl, ap, sym, ◌∙◌, subst, arith}
use Rattle.std.specs.Cmp.{IsEquivalence, decided, on_equiv, and_equiv}
use Rattle.std.specs.Cmp.Lexicographic.{pointwise, pointwise_decides, bytes_decides, lists_equiv, nat_list_eq_equiv}
use Rattle.std.specs.List.{find}
use Rattle.std.specs.Option.{option_map}
use Rattle.std.proofs.lemmas.Bool.{and_from, and_parts, le-leb, leb-true}
use Rattle.zim_tuples.specs.Elements.{same_element, same_Decides}
use Rattle.zim_tuples.specs.declared.elements.Elem.{Elem}
use Rattle.zim_columns.specs.declared.declared.Declared.{Declared}
use Rattle.zim_columns.specs.Names.{Named, is_named, are_same, known_by, column_declared, are_rising, IsKnownBy}

pub are_same_equiv : IsEquivalence are_same
are_same_equiv = and_equiv (on_equiv (λ (n : Named). n.0) nat_list_eq_equiv) (on_equiv (λ (n : Named). n.1) (lists_equiv (decided same_element same_Decides)))

-- names that are the same are equal, and so are the tuples with them
pub same_is : (one other : Named) → IsTrue (are_same one other) → (one.0 ≡ other.0) × (one.1 ≡ other.1)
same_is one other h =
    let parts = and_parts (pointwise nat_eq one.0 other.0) (pointwise same_element one.1 other.1) h in
    ((bytes_decides one.0 other.0).0 parts.0, (pointwise_decides same_Decides one.1 other.1).0 parts.1)

abbrev column_of : Declared → ℕ
column_of d = d.column

some_is : (m n : ℕ) → ◌≡◌ {A = Option ℕ} (Some m) (Some n) → m ≡ n
some_is m n e = ap (λ (o : Option ℕ). unwrap_or o 0) e

-- a column that is found is one from the first on
found_within : (first : ℕ) (ds : List Declared) (name : List ℕ) (tuple : List Elem) (j : ℕ) → IsTrue (are_rising first ds) → column_declared ds name tuple ≡ Some j → first ≤ j
found_within first [] name tuple j rising e = cc
found_within first (d ∷ ds) name tuple j rising e =
    let parts = and_parts (nat_le first d.column) (are_rising (suc d.column) ds) rising in
    by (is_named name tuple d) e (leb-true first d.column parts.0) (found_within (suc d.column) ds name tuple j parts.1)
  where
    by : (b : Bool) → option_map column_of (cond b (Some d) (find (is_named name tuple) ds)) ≡ Some j → first ≤ d.column → (column_declared ds name tuple ≡ Some j → suc d.column ≤ j) → first ≤ j
    by true f le rest = let same_element = some_is d.column j f in omega arith
    by false f le rest = let more = rest f in omega arith

-- a column is found by one name and one tuple
pub found_once : (first : ℕ) (ds : List Declared) (name other : List ℕ) (tuple further : List Elem) (j : ℕ) → IsTrue (are_rising first ds) → column_declared ds name tuple ≡ Some j → column_declared ds other further ≡ Some j → IsKnownBy name tuple other further
found_once first [] name other tuple further j rising e f = cc
found_once first (d ∷ ds) name other tuple further j rising e f =
    by (is_named name tuple d) (is_named other further d) refl refl e f (found_once (suc d.column) ds name other tuple further j rest)
  where
    rest : IsTrue (are_rising (suc d.column) ds)
    rest = (and_parts (nat_le first d.column) (are_rising (suc d.column) ds) rising).1

    by : (b c : Bool) → is_named name tuple d ≡ b → is_named other further d ≡ c
        → option_map column_of (cond b (Some d) (find (is_named name tuple) ds)) ≡ Some j → option_map column_of (cond c (Some d) (find (is_named other further) ds)) ≡ Some j
        → (column_declared ds name tuple ≡ Some j → column_declared ds other further ≡ Some j → IsKnownBy name tuple other further) → IsKnownBy name tuple other further
    by true true p q g h next =
        let one = same_is (name, tuple) (known_by d) p in
        let two = same_is (other, further) (known_by d) q in
        record { names = one.0 ∙ sym two.0; tuples = one.1 ∙ sym two.1 }
    by true false p q g h next =
        let here = some_is d.column j g in
        let more = found_within (suc d.column) ds other further j rest h in
        absurd (omega arith)
    by false true p q g h next =
        let here = some_is d.column j h in
        let more = found_within (suc d.column) ds name tuple j rest g in
        absurd (omega arith)
    by false false p q g h next = next g h
