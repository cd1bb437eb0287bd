-- What is read of a list, item by item: its parts, or the number that it is where it names no variable.
use Rattle.std.proofs.Common.{ℕ, ◌≡◌, ◌<◌, ◌≤◌, ◌+◌, ◌||◌, Bool, true, false, List, [], ◌∷◌, ◌++◌, map, length, take, drop, get_or, IsTrue, Option, Some, None, arith, refl, sym, ap, ap₂, subst, ◌∙◌, append_assoc, append-nil}
use Rattle.std.specs.Prelude.{if◌then◌else◌, IfSome, Ok, Err}
use Rattle.std.specs.List.{AllByRecursion}
use Rattle.std.proofs.lemmas.List.{map-append, take_more, take_all}
use Rattle.zim_fault.specs.declared.faults.Place.{Place}
use Rattle.zim_fault.specs.declared.faults.Fault.{Fault}
use Rattle.zim_fault.specs.declared.kinds.Kind.TheVariants.{Past}
use Rattle.zim_rational.specs.Rational as rational
use Rattle.zim_rational.specs.Rational.{Rational, plus}
use Rattle.zim_rational.proofs.Ring.{zero_plus}
use Rattle.zim_fraction.specs.Limit.{is_number, is_sum_within}
use Rattle.zim_fraction.specs.Answers.{sum_answer}
use Rattle.zim_fraction.specs.declared.fault.Past as fraction
use Rattle.zim_linear.proofs.AnswerLaws.{sum_ok, sum_past, sum_value}
use Rattle.zim_plain.specs.declared.parts.Part.{Part}
use Rattle.zim_plain.specs.declared.statement.Further as code
use Rattle.zim_plain.specs.Reader.{item_of, further_of}
use Rattle.zim_plain.specs.Statements.{WrittenText, Item, Constant, Multiple, Further, Sum, first_negative, signed_items}
use Rattle.zim_plain.specs.Meaning.{sum_number}
use Rattle.zim_plain.specs.Suits.{SuitsItem, SuitsSum}
use Rattle.zim_plain.specs.Faults.{fault_at, item_fault, items_fault, has_name, any_has_name, has_variable, add_up, amount, amount_among, constants_fault, numbers_fault, first_item}
use Rattle.zim_plain.specs.Parts.{item_column, part_at, part_behind, IsPart}
use Rattle.zim_plain.specs.Sides.{IsDeclared, SuitsNumbers, SuitOthers, ArePartsOf, PartAnswer, parts_numbers_fault}
use Rattle.zim_plain.proofs.Limits.{sum_is_number}
use Rattle.zim_plain.proofs.Faulting.{first_of_second, first_of_first, past_some, none_past}
use Rattle.zim_plain.proofs.Literals.{number_of_amount}
use Rattle.zim_plain.proofs.Amounts.{declared_place, column_behind}
use Rattle.zim_plain.proofs.SuitLaws.{drop_item, drop_end, item_declared, item_numbers, sum_others, pair_of}
use Rattle.zim_plain.proofs.SideLaws.{AreConstants, constants_number, sum_constants}

-- ---- whether a list names a variable

abbrev pub IsSeeking : List code.Further → ℕ → Type 0
IsSeeking all i = any_has_name (map further_of all) ≡ any_has_name (map further_of (drop i all))

pub seek_step : (all : List code.Further) (i : ℕ) (f : code.Further) (b : Bool) → IsSeeking all i → i < length all → get_or all i f ≡ f → b ≡ has_name (item_of f.item) → b ≡ false → IsSeeking all (i + 1)
unfolding any_has_name
seek_step all i f b s l e is other =
    s ∙ ap (λ (fs : List code.Further). any_has_name (map further_of fs)) (drop_item all i f l e)
    ∙ ap (λ (h : Bool). h || any_has_name (map further_of (drop (i + 1) all))) (sym is ∙ other)

pub seek_found : (all : List code.Further) (i : ℕ) (f : code.Further) (b : Bool) → IsSeeking all i → i < length all → get_or all i f ≡ f → b ≡ has_name (item_of f.item) → b ≡ true → true ≡ any_has_name (map further_of all)
unfolding any_has_name
seek_found all i f b s l e is there =
    sym (s ∙ ap (λ (fs : List code.Further). any_has_name (map further_of fs)) (drop_item all i f l e)
    ∙ ap (λ (h : Bool). h || any_has_name (map further_of (drop (i + 1) all))) (sym is ∙ there))

pub seek_end : (all : List code.Further) (i : ℕ) → IsSeeking all i → length all ≤ i → false ≡ any_has_name (map further_of all)
unfolding any_has_name
seek_end all i s l = sym (s ∙ ap (λ (fs : List code.Further). any_has_name (map further_of fs)) (drop_end all i l))

-- ---- a part

part_column : (names : List WrittenText) (item : Item) → IsDeclared names item → IfSome (item_column names item) (λ j. 0 < j)
part_column names (Constant c) h = tt
part_column names (Multiple factor place name) h =
    let p = declared_place names name h in subst (λ (j : ℕ). 0 < j) (sym (column_behind names name p.0 p.1)) (omega arith)

pub part_ok : (names : List WrittenText) (place : Place) (negative : Bool) (item : Item) (made : Part) → SuitsItem names (false, item) → item_fault item ≡ None → made ≡ part_at names place negative item → PartAnswer (item_fault item) (part_at names place negative item) (Ok made)
part_ok names place negative item made suits none is =
    (none, is, subst IsPart (sym is) (record { within = number_of_amount negative item none; column = part_column names item (item_declared names false item suits) }))

-- ---- parts

all_push : {X : Type 0} (P : X → Type 0) (xs : List X) (x : X) → AllByRecursion P xs → P x → AllByRecursion P (xs ++ x ∷ [])
all_push P [] x h p = (p, tt)
all_push P (y ∷ xs) x h p = (h.0, all_push P xs x h.1 p)

-- parts are read as far as some further items
pub record IsReading (names : List WrittenText) (sum : Sum) (all : List code.Further) (i : ℕ) (parts : List Part) : Type 0 where
  pub fault : parts_numbers_fault sum ≡ items_fault (map further_of (drop i all))
  pub first : Part
  pub first_is : first ≡ part_at names first.place (first_negative sum.sign) sum.first
  pub parts_are : parts ≡ first ∷ map (part_behind names) (map further_of (take i all))
  pub each : AllByRecursion IsPart parts
  pub rest : SuitOthers names (map further_of (drop i all))

pub read_start : (names : List WrittenText) (sum : Sum) (all : List code.Further) (place : Place) (negative : Bool) (first : Part) (parts none : List Part) → map further_of all ≡ sum.others → SuitOthers names sum.others → negative ≡ first_negative sum.sign → PartAnswer (item_fault sum.first) (part_at names place negative sum.first) (Ok first) → none ≡ [] → parts ≡ none ++ first ∷ [] → IsReading names sum all 0 parts
read_start names sum all place negative first parts none others suits sign answer e f =
    let is : parts ≡ first ∷ [] = f ∙ ap (λ (ps : List Part). ps ++ first ∷ []) e in
    record {
      fault = first_of_second _ _ _ answer.0 (ap items_fault (sym others));
      first = first;
      first_is = answer.1 ∙ ap₂ (λ (p : Place) (b : Bool). part_at names p b sum.first) (sym (ap (λ (p : Part). p.place) answer.1)) sign;
      parts_are = is;
      each = subst (AllByRecursion IsPart) (sym is) (answer.2, tt);
      rest = subst (SuitOthers names) (sym others) suits;
    }

pub read_suits : (names : List WrittenText) (sum : Sum) (all : List code.Further) (i : ℕ) (f : code.Further) (parts : List Part) → IsReading names sum all i parts → i < length all → get_or all i f ≡ f → SuitsItem names (false, item_of f.item)
read_suits names sum all i f parts r l e =
    let rest : SuitOthers names (map further_of (f ∷ drop (i + 1) all)) = subst (λ (fs : List code.Further). SuitOthers names (map further_of fs)) (drop_item all i f l e) r.rest in
    rest.0

pub read_step : (names : List WrittenText) (sum : Sum) (all : List code.Further) (i : ℕ) (f : code.Further) (old new : List Part) (part : Part) → IsReading names sum all i old → i < length all → get_or all i f ≡ f → PartAnswer (item_fault (item_of f.item)) (part_behind names (further_of f)) (Ok part) → new ≡ old ++ part ∷ [] → IsReading names sum all (i + 1) new
unfolding items_fault
read_step names sum all i f old new part r l e answer pushed =
    let more : take (i + 1) all ≡ take i all ++ f ∷ [] = take_more all i f l ∙ ap (λ (g : code.Further). take i all ++ g ∷ []) e in
    let last : map (part_behind names) (map further_of (take (i + 1) all)) ≡ map (part_behind names) (map further_of (take i all)) ++ part_behind names (further_of f) ∷ [] =
    ap (λ (fs : List code.Further). map (part_behind names) (map further_of fs)) more
    ∙ ap (map (part_behind names)) (map-append further_of (take i all) (f ∷ []))
    ∙ map-append (part_behind names) (map further_of (take i all)) (further_of f ∷ []) in
    record {
      fault =
          r.fault ∙ ap (λ (fs : List code.Further). items_fault (map further_of fs)) (drop_item all i f l e)
          ∙ first_of_second _ _ _ answer.0 refl;
      first = r.first;
      first_is = r.first_is;
      parts_are =
          pushed ∙ ap (λ (ps : List Part). ps ++ part ∷ []) r.parts_are
          ∙ ap (λ (p : Part). r.first ∷ (map (part_behind names) (map further_of (take i all)) ++ p ∷ [])) answer.1
          ∙ ap (λ (ps : List Part). r.first ∷ ps) (sym last);
      each = subst (AllByRecursion IsPart) (sym pushed) (all_push IsPart old part r.each answer.2);
      rest = (subst (λ (fs : List code.Further). SuitOthers names (map further_of fs)) (drop_item all i f l e) r.rest).1;
    }

pub read_stop : (names : List WrittenText) (sum : Sum) (all : List code.Further) (i : ℕ) (f : code.Further) (parts : List Part) (fault : Fault) → IsReading names sum all i parts → i < length all → get_or all i f ≡ f → item_fault (item_of f.item) ≡ Some fault → parts_numbers_fault sum ≡ Some fault
unfolding items_fault
read_stop names sum all i f parts fault r l e met =
    r.fault ∙ ap (λ (fs : List code.Further). items_fault (map further_of fs)) (drop_item all i f l e) ∙ first_of_first _ _ _ met

pub read_end : (names : List WrittenText) (sum : Sum) (all : List code.Further) (i : ℕ) (parts : List Part) → map further_of all ≡ sum.others → IsReading names sum all i parts → length all ≤ i → (parts_numbers_fault sum ≡ None) × ArePartsOf names sum parts × AllByRecursion IsPart parts
unfolding items_fault
read_end names sum all i parts others r l =
    let whole : map further_of (take i all) ≡ sum.others = ap (map further_of) (take_all i all l) ∙ others in (
      r.fault ∙ ap (λ (fs : List code.Further). items_fault (map further_of fs)) (drop_end all i l),
      subst (ArePartsOf names sum) (sym r.parts_are) (r.first_is, ap (map (part_behind names)) whole),
      r.each,
    )

-- ---- a list without variables

among_append : (item : Item) (s : Rational) (xs ys : List (Bool × Item)) → amount_among item s (xs ++ ys) ≡ amount_among item (amount_among item s xs) ys
unfolding amount_among
among_append item s [] ys = refl
among_append item s (x ∷ xs) ys = among_append item (if add_up item x.1 then plus s (amount x) else s) xs ys

among_one : (item : Item) (s : Rational) (i : Bool × Item) → has_name item ≡ false → has_name i.1 ≡ false → amount_among item s (i ∷ []) ≡ plus s (amount i)
unfolding amount_among
among_one (Constant c) s (negative, Constant d) e f = refl
among_one (Constant c) s (negative, Multiple factor place name) e f = cc
among_one (Multiple factor place name) s i e f = cc

-- the numbers before have come to a total
pub record IsTotalling (sum : Sum) (all : List code.Further) (i : ℕ) (total : Rational) : Type 0 where
  pub before : List (Bool × Item)
  pub whole : signed_items sum ≡ before ++ map pair_of (map further_of (drop i all))
  pub fault : numbers_fault sum ≡ constants_fault before (map further_of (drop i all))
  pub total_is : (item : Item) → has_name item ≡ false → amount_among item rational.zero before ≡ total
  pub within : IsTrue (is_number total)
  pub names : List WrittenText
  pub rest : SuitOthers names (map further_of (drop i all))
  pub constants : AreConstants (map pair_of (map further_of (drop i all)))

pub total_start : (sum : Sum) (all : List code.Further) (first : Rational) → (names : List WrittenText) × SuitsSum names sum → map further_of all ≡ sum.others → has_variable sum ≡ false → item_fault sum.first ≡ None → first ≡ amount (first_negative sum.sign, sum.first) → IsTotalling sum all 0 first
total_start sum all first suits others none faultless is =
    let constants : AreConstants (signed_items sum) = sum_constants sum none in
    let i : Bool × Item = (first_negative sum.sign, sum.first) in
    record {
      before = first_item sum;
      whole = ap (λ (fs : List Further). i ∷ map pair_of fs) (sym others);
      fault =
          first_of_second _ _ _ faultless
          (ap (λ (b : Bool). if b then items_fault sum.others else constants_fault (first_item sum) sum.others) none ∙ ap (constants_fault (first_item sum)) (sym others));
      total_is = λ item e. among_one item rational.zero i e constants.0 ∙ zero_plus (amount i) ∙ sym is;
      within = subst (λ (q : Rational). IsTrue (is_number q)) (sym is) (number_of_amount (first_negative sum.sign) sum.first faultless);
      names = suits.0;
      rest = subst (SuitOthers suits.0) (sym others) (sum_others suits.0 sum suits.1);
      constants = subst (λ (fs : List Further). AreConstants (map pair_of fs)) (sym others) constants.1;
    }

pub total_suits : (sum : Sum) (all : List code.Further) (i : ℕ) (f : code.Further) (total : Rational) → IsTotalling sum all i total → i < length all → get_or all i f ≡ f → SuitsNumbers (item_of f.item)
total_suits sum all i f total t l e =
    let rest : SuitOthers t.names (map further_of (f ∷ drop (i + 1) all)) = subst (λ (fs : List code.Further). SuitOthers t.names (map further_of fs)) (drop_item all i f l e) t.rest in
    item_numbers t.names false (item_of f.item) rest.0

next_constants : (all : List code.Further) (i : ℕ) (f : code.Further) → i < length all → get_or all i f ≡ f → AreConstants (map pair_of (map further_of (drop i all))) → (has_name (item_of f.item) ≡ false) × AreConstants (map pair_of (map further_of (drop (i + 1) all)))
next_constants all i f l e h = subst (λ (fs : List code.Further). AreConstants (map pair_of (map further_of fs))) (drop_item all i f l e) h

pub total_step : (sum : Sum) (all : List code.Further) (i : ℕ) (f : code.Further) (old next new : Rational) → IsTotalling sum all i old → i < length all → get_or all i f ≡ f → item_fault (item_of f.item) ≡ None → next ≡ amount (f.sign.negative, item_of f.item) → Ok new ≡ sum_answer old next → IsTotalling sum all (i + 1) new
unfolding constants_fault
total_step sum all i f old next new t l e faultless is answer =
    let k : Bool × Item = pair_of (further_of f) in
    let constants = next_constants all i f l e t.constants in
    let sum_is : new ≡ plus old (amount k) = sum_value old next new answer ∙ ap (plus old) is in
    let ok : IsTrue (is_sum_within old (amount k)) = subst (λ (q : Rational). IsTrue (is_sum_within old q)) is (sum_ok old next new answer) in
    let ok_there : IsTrue (is_sum_within (amount_among k.1 rational.zero t.before) (amount k)) =
    subst (λ (q : Rational). IsTrue (is_sum_within q (amount k))) (sym (t.total_is k.1 constants.0)) ok in
    record {
      before = t.before ++ k ∷ [];
      whole =
          t.whole ∙ ap (λ (fs : List code.Further). t.before ++ map pair_of (map further_of fs)) (drop_item all i f l e)
          ∙ sym (append_assoc t.before (k ∷ []) (map pair_of (map further_of (drop (i + 1) all))));
      fault =
          t.fault ∙ ap (λ (fs : List code.Further). constants_fault t.before (map further_of fs)) (drop_item all i f l e)
          ∙ first_of_second _ _ _ faultless (first_of_second _ _ _ (none_past _ f.sign.place ok_there) refl);
      total_is = λ item h.
          among_append item rational.zero t.before (k ∷ []) ∙ ap (λ (q : Rational). amount_among item q (k ∷ [])) (t.total_is item h)
          ∙ among_one item old k h constants.0 ∙ sym sum_is;
      within = subst (λ (q : Rational). IsTrue (is_number q)) (sym sum_is) (sum_is_number old (amount k) ok);
      names = t.names;
      rest = (subst (λ (fs : List code.Further). SuitOthers t.names (map further_of fs)) (drop_item all i f l e) t.rest).1;
      constants = constants.1;
    }

pub total_stop : (sum : Sum) (all : List code.Further) (i : ℕ) (f : code.Further) (total : Rational) (fault : Fault) → IsTotalling sum all i total → i < length all → get_or all i f ≡ f → item_fault (item_of f.item) ≡ Some fault → numbers_fault sum ≡ Some fault
unfolding constants_fault
total_stop sum all i f total fault t l e met =
    t.fault ∙ ap (λ (fs : List code.Further). constants_fault t.before (map further_of fs)) (drop_item all i f l e) ∙ first_of_first _ _ _ met

pub total_past : (sum : Sum) (all : List code.Further) (i : ℕ) (f : code.Further) (total next : Rational) (p : fraction.Past) (fault : Fault) → IsTotalling sum all i total → i < length all → get_or all i f ≡ f → item_fault (item_of f.item) ≡ None → next ≡ amount (f.sign.negative, item_of f.item) → Err p ≡ sum_answer total next → fault ≡ fault_at Past f.sign.place → numbers_fault sum ≡ Some fault
unfolding constants_fault
total_past sum all i f total next p fault t l e faultless is answer at =
    let k : Bool × Item = pair_of (further_of f) in
    let constants = next_constants all i f l e t.constants in
    t.fault ∙ ap (λ (fs : List code.Further). constants_fault t.before (map further_of fs)) (drop_item all i f l e)
    ∙ first_of_second _ _ _ faultless
    (first_of_first _ _ _ (past_some _ f.sign.place (λ ok.
    sum_past total next p answer
    (subst (λ (q : Rational). IsTrue (is_sum_within total q)) (sym is)
    (subst (λ (q : Rational). IsTrue (is_sum_within q (amount k))) (t.total_is k.1 constants.0) ok)))
    ∙ ap Some (sym at)))

pub total_end : (sum : Sum) (all : List code.Further) (i : ℕ) (total : Rational) → has_variable sum ≡ false → IsTotalling sum all i total → length all ≤ i → (numbers_fault sum ≡ None) × ((x : WrittenText → Rational) → sum_number x sum ≡ total) × IsTrue (is_number total)
unfolding constants_fault
total_end sum all i total none t l =
    let whole : signed_items sum ≡ t.before = t.whole ∙ ap (λ (fs : List code.Further). t.before ++ map pair_of (map further_of fs)) (drop_end all i l) ∙ append-nil t.before in
    let constants : AreConstants (signed_items sum) = sum_constants sum none in (
      t.fault ∙ ap (λ (fs : List code.Further). constants_fault t.before (map further_of fs)) (drop_end all i l),
      λ x. constants_number sum.first sum x constants.0 constants ∙ ap (amount_among sum.first rational.zero) whole ∙ t.total_is sum.first constants.0,
      t.within,
    )

-- ---- what the code makes

abbrev pub part_from : Place → Option ℕ → Rational → Part
part_from place column amount = record { place = place; column = column; amount = amount }
