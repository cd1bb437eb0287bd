-- How declared columns are kept once one more stands at their end.
use Rattle.std.proofs.Common.{ℕ, suc, ◌≡◌, ◌<◌, ◌≤◌, Bool, true, false, ◌&&◌, IsTrue, cond, List, [], ◌∷◌, ◌++◌, nat_le, Option, Some, None, All, if◌then◌else◌, refl, ap, ap₂, sym, ◌∙◌, subst, true≢false, arith}
use Rattle.std.specs.List.{find}
use Rattle.std.specs.Option.{option_map}
use Rattle.std.proofs.lemmas.Bool.{and_from, and_parts, le-leb}
use Rattle.std.proofs.lemmas.List.Elements.{All-head, All-tail, All-nil, All-push, All-weaker}
use Rattle.zim_tuples.specs.declared.elements.Elem.{Elem}
use Rattle.zim_columns.specs.declared.asks.Ask.{Ask}
use Rattle.zim_columns.specs.declared.declared.Declared.{Declared}
use Rattle.zim_columns.specs.declared.numbers.NumberTable.{NumberTable}
use Rattle.zim_columns.specs.Declaring.{declared_as}
use Rattle.zim_columns.specs.Names.{is_named, are_same, known_by, column_declared, are_rising, IsFoundByName}
use Rattle.zim_columns.specs.Numbers.{table_number, HasNoNumber, AssignsNumber, KeepsNumbers}
use Rattle.zim_columns.specs.Parts.{HasPartsWithin}
use Rattle.zim_columns.specs.Numbered.{AreNumbered}
use Rattle.zim_columns.proofs.NamesLaws.{are_same_equiv, same_is}

abbrev column_of : Declared → ℕ
column_of d = d.column

some_is_not_none : (n : ℕ) → ¬ (◌≡◌ {A = Option ℕ} (Some n) None)
some_is_not_none n e = cc

-- ---- what is found

known : (d : Declared) (name : List ℕ) (tuple : List Elem) → are_same (known_by d) (name, tuple) ≡ true → known_by d ≡ (name, tuple)
known d name tuple q =
    let s = same_is (known_by d) (name, tuple) q in ap₂ (λ (n : List ℕ) (t : List Elem). (n, t)) s.0 s.1

-- what is found once d stands at the end: what was found, or else d where it has the name and the tuple
found_more : (ds : List Declared) (d : Declared) (name : List ℕ) (tuple : List Elem) → column_declared ds d.name d.tuple ≡ None
    → column_declared (ds ++ d ∷ []) name tuple ≡ cond (are_same (known_by d) (name, tuple)) (Some d.column) (column_declared ds name tuple)
found_more [] d name tuple absent =
    ap (λ (b : Bool). option_map column_of (cond b (Some d) None)) (are_same_equiv.symm (name, tuple) (known_by d)) ∙ by (are_same (known_by d) (name, tuple))
  where
    by : (b : Bool) → option_map column_of (cond b (Some d) None) ≡ cond b (Some d.column) None
    by true = refl
    by false = refl
found_more (c ∷ cs) d name tuple absent =
    by (is_named name tuple c) (are_same (known_by d) (name, tuple)) refl refl (is_named d.name d.tuple c) refl absent (found_more cs d name tuple)
  where
    by : (b e : Bool) → is_named name tuple c ≡ b → are_same (known_by d) (name, tuple) ≡ e → (f : Bool) → is_named d.name d.tuple c ≡ f
        → option_map column_of (cond f (Some c) (find (is_named d.name d.tuple) cs)) ≡ None
        → (column_declared cs d.name d.tuple ≡ None → column_declared (cs ++ d ∷ []) name tuple ≡ cond (are_same (known_by d) (name, tuple)) (Some d.column) (column_declared cs name tuple))
        → option_map column_of (cond b (Some c) (find (is_named name tuple) (cs ++ d ∷ []))) ≡ cond e (Some d.column) (option_map column_of (cond b (Some c) (find (is_named name tuple) cs)))
    by b e p q true g h next = cc
    by true true p q false g h next =
        absurd (true≢false (sym (ap (λ (n : List ℕ × List Elem). are_same n (known_by c)) (known d name tuple q) ∙ p) ∙ g))
    by true false p q false g h next = refl
    by false e p q false g h next = next h ∙ ap (λ (x : Bool). cond x (Some d.column) (column_declared cs name tuple)) q

found_still : (ds : List Declared) (d e : Declared) → column_declared ds d.name d.tuple ≡ None → IsFoundByName ds e → IsFoundByName (ds ++ d ∷ []) e
found_still ds d e absent found =
    found_more ds d e.name e.tuple absent ∙ by (are_same (known_by d) (known_by e)) refl
  where
    by : (b : Bool) → are_same (known_by d) (known_by e) ≡ b → cond b (Some d.column) (column_declared ds e.name e.tuple) ≡ Some e.column
    by false p = found
    by true p =
        let s = same_is (known_by d) (known_by e) p in
        absurd (some_is_not_none e.column (sym found ∙ sym (ap₂ (column_declared ds) s.0 s.1) ∙ absent))

all_found : (ds : List Declared) (d : Declared) → column_declared ds d.name d.tuple ≡ None → All (IsFoundByName ds) ds → All (IsFoundByName (ds ++ d ∷ [])) (ds ++ d ∷ [])
all_found ds d absent found =
    All-push (IsFoundByName (ds ++ d ∷ [])) ds d
    (All-weaker (IsFoundByName ds) (IsFoundByName (ds ++ d ∷ [])) (λ e h. found_still ds d e absent h) ds found)
    (found_more ds d d.name d.tuple absent ∙ ap (λ (b : Bool). cond b (Some d.column) (column_declared ds d.name d.tuple)) (are_same_equiv.refl (known_by d)))

-- ---- the numbers

rising_further : (first : ℕ) (ds : List Declared) (d : Declared) → first ≤ d.column → IsTrue (are_rising first ds) → All (λ e. e.column < d.column) ds → IsTrue (are_rising first (ds ++ d ∷ []))
rising_further first [] d le rising each = and_from (nat_le first d.column) true (le-leb first d.column le) refl
rising_further first (e ∷ es) d le rising each =
    let parts = and_parts (nat_le first e.column) (are_rising (suc e.column) es) rising in
    let next : e.column < d.column = All-head (λ (x : Declared). x.column < d.column) e es each in
    and_from (nat_le first e.column) (are_rising (suc e.column) (es ++ d ∷ [])) parts.0
    (rising_further (suc e.column) es d (omega arith) parts.1 (All-tail (λ (x : Declared). x.column < d.column) e es each))

-- ---- how they are kept

-- nothing is declared
pub none_kept : (columns : List Declared) (table : NumberTable) → columns ≡ [] → HasNoNumber table → AreNumbered columns table
none_kept [] table e none = record { found = All-nil (IsFoundByName []); rising = refl; parts = All-nil HasPartsWithin; numbers = none }
none_kept (d ∷ ds) table e none = cc

-- the table changed in nothing
pub kept_still : (columns later : List Declared) (old new : NumberTable) → later ≡ columns → KeepsNumbers old new → AreNumbered columns old → AreNumbered later new
kept_still columns later old new same keeps kept =
    subst (λ (ds : List Declared). AreNumbered ds new) (sym same)
    (record { found = kept.found; rising = kept.rising; parts = kept.parts; numbers = λ name tuple. keeps name tuple ∙ kept.numbers name tuple })

-- one more was declared and put into the table
pub kept_more : (columns later : List Declared) (old new : NumberTable) (d : Declared) → later ≡ columns ++ d ∷ [] → AssignsNumber old new d.name d.tuple d.column
    → column_declared columns d.name d.tuple ≡ None → 0 < d.column → All (λ e. e.column < d.column) columns → HasPartsWithin d → AreNumbered columns old → AreNumbered later new
kept_more columns later old new d same assigns absent positive rising parts kept =
    subst (λ (ds : List Declared). AreNumbered ds new) (sym same)
    (record {
      found = all_found columns d absent kept.found;
      rising = rising_further 1 columns d positive kept.rising rising;
      parts = All-push HasPartsWithin columns d kept.parts parts;
      numbers = λ name tuple.
          assigns name tuple ∙ ap (cond (are_same (known_by d) (name, tuple)) (Some d.column)) (kept.numbers name tuple) ∙ sym (found_more columns d name tuple absent);
    })

-- a push that has room puts its item at the end
pub pushed : (before reserved later : List Declared) (d e : Declared) (ok : Bool) → ok ≡ true → reserved ≡ before → e ≡ d → later ≡ (if ok then reserved ++ e ∷ [] else reserved) → later ≡ before ++ d ∷ []
pushed before reserved later d e true fits same is made = made ∙ ap₂ (λ (ds : List Declared) (x : Declared). ds ++ x ∷ []) same is
pushed before reserved later d e false fits same is made = absurd (true≢false (sym fits))
