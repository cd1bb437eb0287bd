-- The points of an instance and the solutions of the system that it says: each is got from the other, one to one.
use Rattle.std.proofs.Common.{◌≡◌, ℕ, Bool, true, false, cond, List, [], ◌∷◌, Option, Some, None, unwrap_or, refl, sym, ◌∙◌, ap, subst}
use Rattle.std.specs.List.{AllByRecursion}
use Rattle.std.specs.Str.{bytes_eq}
use Rattle.std.proofs.lemmas.Slice.Eq.{bytes_eq-Decides}
use mathlib.Core.Path.{fun_ext}
use Rattle.zim_rational.specs.Rational.{Rational, zero}
use Rattle.zim_instance.specs.Instance.{Column, Instance, Point, KeepsNamedColumn, KeepsName, KeepsRow, IsInstancePoint, number_named}
use Rattle.zim_instance.specs.System.{NamedColumn, System, column_named, HasDistinctNames, Says, numbers_of, point_of, KeepsColumns, IsSolution}

-- the column and the number that a name has in the two lists keep each other
pub KeepsName-point_of : (cs : List NamedColumn) (qs : List Rational) → KeepsColumns cs qs → (name : List ℕ) → KeepsName (column_named cs name) (point_of cs qs name)
KeepsName-point_of [] [] k name = tt
KeepsName-point_of [] (q ∷ qs) k name = absurd k
KeepsName-point_of (c ∷ cs) [] k name = absurd k
KeepsName-point_of (c ∷ cs) (q ∷ qs) k name =
    elim (bytes_eq name c.name) as (λ b. KeepsName (cond b (Some c.column) (column_named cs name)) (cond b (Some q) (point_of cs qs name))) [ true ↦ k.0 | false ↦ KeepsName-point_of cs qs k.1 name ]

-- a solution of the system is a point of the instance
pub IsPoint-point_of : (i : Instance) (s : System) (qs : List Rational) → Says i s → IsSolution s qs → IsInstancePoint i (point_of s.columns qs)
IsPoint-point_of i s qs says k = record {
  columns = λ name. rw (says.columns name) (KeepsName-point_of s.columns qs k.columns name);
  rows = (says.rows (point_of s.columns qs)).1 k.rows;
}

-- a number that stands beside a column
some_kept : (c : Column) (o : Option Rational) → KeepsName (Some c) o → (o ≡ Some (unwrap_or o zero)) × KeepsNamedColumn c (unwrap_or o zero)
some_kept c None k = absurd k
some_kept c (Some q) k = (refl, k)

none_kept : (o : Option Rational) → KeepsName None o → o ≡ None
none_kept None k = refl
none_kept (Some q) k = absurd k

-- texts that test as equal are equal
pub same-bytes_eq : (a b : List ℕ) → bytes_eq a b ≡ true → a ≡ b
same-bytes_eq a b e = (bytes_eq-Decides a b).0 e

pub bytes_eq-same : (a : List ℕ) → bytes_eq a a ≡ true
bytes_eq-same a = (bytes_eq-Decides a a).1 refl

other_name : (a b : List ℕ) (t : Bool) → bytes_eq b a ≡ t → bytes_eq a b ≡ false → bytes_eq b a ≡ false
other_name a b true e f = let same : bytes_eq a b ≡ true = (bytes_eq-Decides a b).1 (sym (same-bytes_eq b a e)) in cc
other_name a b false e f = e

-- the same where the texts are exchanged
pub other-bytes_eq : (a b : List ℕ) → bytes_eq a b ≡ false → bytes_eq b a ≡ false
other-bytes_eq a b e = other_name a b (bytes_eq b a) refl e

-- a name that is not that of the first column finds a later one
pub column_named-later : (c : NamedColumn) (cs : List NamedColumn) (name : List ℕ) → bytes_eq name c.name ≡ false → column_named (c ∷ cs) name ≡ column_named cs name
column_named-later c cs name e = rw e

point_of-first : (c : NamedColumn) (cs : List NamedColumn) (p : Point) (name : List ℕ) (t : Bool) → bytes_eq name c.name ≡ t → (KeepsName (column_named cs name) (p name) → p name ≡ point_of cs (numbers_of p cs) name) → KeepsName (column_named (c ∷ cs) name) (p name) → p name ≡ point_of (c ∷ cs) (numbers_of p (c ∷ cs)) name
point_of-first c cs p name true e later k =
    let kept : KeepsName (Some c.column) (p name) = rw e at k in
    rw e ((some_kept c.column (p name) kept).0 ∙ ap (λ n. Some (number_named p n)) (same-bytes_eq name c.name e))
point_of-first c cs p name false e later k =
    let kept : KeepsName (column_named cs name) (p name) = rw e at k in
    rw e (later kept)

-- a point that keeps the columns by name is the point of its numbers
pub point_of-numbers_of : (cs : List NamedColumn) (p : Point) (name : List ℕ) → KeepsName (column_named cs name) (p name) → p name ≡ point_of cs (numbers_of p cs) name
point_of-numbers_of [] p name k = none_kept (p name) k
point_of-numbers_of (c ∷ cs) p name k = point_of-first c cs p name (bytes_eq name c.name) refl (point_of-numbers_of cs p name) k

-- a column is the one that has its name
abbrev IsNamed : List NamedColumn → NamedColumn → Type 0
IsNamed cs c = column_named cs c.name ≡ Some c.column

named_later : (c : NamedColumn) (cs ds : List NamedColumn) → AllByRecursion (λ (d : NamedColumn). bytes_eq c.name d.name ≡ false) ds → AllByRecursion (IsNamed cs) ds → AllByRecursion (IsNamed (c ∷ cs)) ds
named_later c cs [] others named = tt
named_later c cs (d ∷ ds) others named =
    (column_named-later c cs d.name (other-bytes_eq c.name d.name others.0) ∙ named.0, named_later c cs ds others.1 named.1)

-- where names are distinct, each column is the one that has its name
pub all_named : (cs : List NamedColumn) → HasDistinctNames cs → AllByRecursion (λ (c : NamedColumn). column_named cs c.name ≡ Some c.column) cs
all_named [] distinct = tt
all_named (c ∷ cs) distinct = (rw (bytes_eq-same c.name) refl, named_later c cs cs distinct.0 (all_named cs distinct.1))

kept_each : (cs ds : List NamedColumn) (p : Point) → ((name : List ℕ) → KeepsName (column_named cs name) (p name)) → AllByRecursion (IsNamed cs) ds → KeepsColumns ds (numbers_of p ds)
kept_each cs [] p kept named = tt
kept_each cs (d ∷ ds) p kept named =
    let here : KeepsName (Some d.column) (p d.name) = rw named.0 at (kept d.name) in
    ((some_kept d.column (p d.name) here).1, kept_each cs ds p kept named.1)

-- the numbers of a point that keeps the columns by name keep them in their order
pub KeepsColumns-numbers_of : (cs : List NamedColumn) (p : Point) → HasDistinctNames cs → ((name : List ℕ) → KeepsName (column_named cs name) (p name)) → KeepsColumns cs (numbers_of p cs)
KeepsColumns-numbers_of cs p distinct kept = kept_each cs cs p kept (all_named cs distinct)

numbers_later : (c : NamedColumn) (cs : List NamedColumn) (q : Rational) (qs : List Rational) (ds : List NamedColumn) → AllByRecursion (λ (d : NamedColumn). bytes_eq c.name d.name ≡ false) ds → numbers_of (point_of (c ∷ cs) (q ∷ qs)) ds ≡ numbers_of (point_of cs qs) ds
numbers_later c cs q qs [] others = refl
numbers_later c cs q qs (d ∷ ds) others =
    rw (other-bytes_eq c.name d.name others.0) (ap (λ rest. unwrap_or (point_of cs qs d.name) zero ∷ rest) (numbers_later c cs q qs ds others.1))

-- the point of a list of numbers has these numbers
pub numbers_of-point_of : (cs : List NamedColumn) (qs : List Rational) → HasDistinctNames cs → KeepsColumns cs qs → numbers_of (point_of cs qs) cs ≡ qs
numbers_of-point_of [] [] distinct k = refl
numbers_of-point_of [] (q ∷ qs) distinct k = absurd k
numbers_of-point_of (c ∷ cs) [] distinct k = absurd k
numbers_of-point_of (c ∷ cs) (q ∷ qs) distinct k =
    rw (bytes_eq-same c.name) (ap (λ rest. q ∷ rest) (numbers_later c cs q qs cs distinct.0 ∙ numbers_of-point_of cs qs distinct.1 k.1))

-- the numbers of a point solve the system that its instance says
pub IsSolution-numbers_of : (i : Instance) (s : System) (p : Point) → Says i s → HasDistinctNames s.columns → IsInstancePoint i p → IsSolution s (numbers_of p s.columns)
IsSolution-numbers_of i s p says distinct k =
    let kept : (name : List ℕ) → KeepsName (column_named s.columns name) (p name) = λ name. rw (says.columns name) at (k.columns name) in
    let same : p ≡ point_of s.columns (numbers_of p s.columns) = fun_ext (λ name. point_of-numbers_of s.columns p name (kept name)) in
    record {
      columns = KeepsColumns-numbers_of s.columns p distinct kept;
      rows = subst (λ q. AllByRecursion (KeepsRow q) s.rows) same ((says.rows p).0 k.rows);
    }

-- a point of an instance is the point of its numbers, so two points with the same numbers are one
pub IsPoint-is_point_of : (i : Instance) (s : System) (p : Point) → Says i s → IsInstancePoint i p → p ≡ point_of s.columns (numbers_of p s.columns)
IsPoint-is_point_of i s p says k =
    fun_ext (λ name. point_of-numbers_of s.columns p name (rw (says.columns name) at (k.columns name)))
