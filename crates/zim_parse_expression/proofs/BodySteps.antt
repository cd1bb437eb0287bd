-- What the parser makes of an index and of what stands in braces, where it reads their parts.
use Rattle.std.proofs.Common.{◌≡◌, ℕ, ◌<◌, Bool, true, false, List, [], ◌∷◌, ◌++◌, length, Some, None, refl, ◌∙◌, append_assoc, length-append, arith}
use Rattle.zim_fault.specs.declared.faults.Place.{Place}
use Rattle.zim_fault.specs.declared.tokens.Token.TheVariants.{Word as word_token, Sign as sign_token}
use Rattle.zim_fault.specs.declared.tokens.Placed.{Placed}
use Rattle.zim_fault.specs.declared.signs.Sign.TheVariants.{SComma, SRightBrace, SLess, SGreater}
use Rattle.zim_fault.specs.declared.words.Word.TheVariants.{WIn, WBy}
use Rattle.zim_tree.specs.declared.expr.Expr.{Expr}
use Rattle.zim_tree.specs.declared.expr.Angle.{Angle}
use Rattle.zim_tree.specs.declared.expr.Body.{Body}
use Rattle.zim_tree.specs.declared.expr.Body.TheVariants as body
use Rattle.zim_tree.specs.declared.classes.Class.{Class}
use Rattle.zim_tree.specs.declared.classes.Class.TheVariants as class
use Rattle.zim_tree.specs.Trees.{angle_of, index_of}
use Rattle.zim_tree.specs.Levels.{sum, disjunction, placed, condition_token, span_token}
use Rattle.zim_scan.specs.Nesting.{class_at}
use Rattle.zim_parse_expression.specs.Next.{start_at, start_of, is_in}
use Rattle.zim_parse_expression.specs.Parser.{Inner, Parser, and_then, expect, flag_of, span_in, tuple_of, index_from, body_at, body_behind, body_tuple, body_of, parse}
use Rattle.zim_parse_expression.proofs.BeginningLaws.{no, is_term}
use Rattle.zim_parse_expression.proofs.ListLaws.{Listed, last_item, next_item, no_comma, listed_more, listed_none}
use Rattle.zim_parse_expression.proofs.PrimaryLaws.{Complete, CompleteList, CompleteBody, CompleteIndex, deeper, tuple_reads, behind_in, behind_in_with}

pub complete_index : (p q r : Place) {ts us : List Placed} {items : List Expr} {set : Expr} → CompleteList sum ts items → Complete sum us set →
    CompleteIndex ((placed q (sign_token SLess) ∷ (ts ++ placed r (sign_token SGreater) ∷ [])) ++ placed p (word_token WIn) ∷ us) (index_of p (angle_of q items) set None)
unfolding index_from and_then
complete_index p q r {ts = ts} {us = us} l d = record {
  indices = λ n h rest s c.
      let l1 : length ts < n = omega (arith, length-append (ts ++ placed r (sign_token SGreater) ∷ []) (placed p (word_token WIn) ∷ us), length-append ts (placed r (sign_token SGreater) ∷ []), h) in
      let l2 : length us < n = omega (arith, length-append (ts ++ placed r (sign_token SGreater) ∷ []) (placed p (word_token WIn) ∷ us), h) in
      rw (
        append_assoc (ts ++ placed r (sign_token SGreater) ∷ []) (placed p (word_token WIn) ∷ us) rest,
        tuple_reads l q r n l1 (placed p (word_token WIn) ∷ (us ++ rest)),
        behind_in p (angle_of q _) d n l2 rest s c,
      ) refl;
}

pub complete_index_with : (p q r t : Place) (bar : Bool) {ts us vs : List Placed} {items : List Expr} {set cond : Expr} → CompleteList sum ts items → Complete sum us set → Complete disjunction vs cond →
    CompleteIndex ((placed q (sign_token SLess) ∷ (ts ++ placed r (sign_token SGreater) ∷ [])) ++ placed p (word_token WIn) ∷ (us ++ placed t (condition_token bar) ∷ vs))
    (index_of p (angle_of q items) set (Some (bar, cond)))
unfolding index_from and_then
complete_index_with p q r t bar {ts = ts} {us = us} {vs = vs} l d e = record {
  indices = λ n h rest s c.
      let last : List Placed = us ++ placed t (condition_token bar) ∷ vs in
      let l1 : length ts < n = omega (arith, length-append (ts ++ placed r (sign_token SGreater) ∷ []) (placed p (word_token WIn) ∷ last), length-append ts (placed r (sign_token SGreater) ∷ []), h) in
      let l2 : length last < n = omega (arith, length-append (ts ++ placed r (sign_token SGreater) ∷ []) (placed p (word_token WIn) ∷ last), h) in
      rw (
        append_assoc (ts ++ placed r (sign_token SGreater) ∷ []) (placed p (word_token WIn) ∷ last) rest,
        tuple_reads l q r n l1 (placed p (word_token WIn) ∷ (last ++ rest)),
        behind_in_with p t bar (angle_of q _) d e n l2 rest s,
      ) refl;
}

-- bodies

pub complete_nothing : CompleteBody [] body.Empty
unfolding body_of and_then
complete_nothing = record { bodies = λ n h q rest. refl }

-- what the parser does in braces where a sum comes first
abbrev sum_first : Inner → Parser Body
sum_first inner ts = and_then (inner sum ts) (λ first rest. body_behind inner first (flag_of span_in rest) rest)

sum_class : (inner : Inner) (k : Class) (ts rest : List Placed) → is_term (start_at k rest) ≡ true → body_at inner k ts ≡ sum_first inner ts
sum_class inner class.RightBrace ts rest h = no h
sum_class inner class.Less ts rest h = no h
sum_class inner _ ts rest h = refl

body_sum : (inner : Inner) (ts : List Placed) → is_term (start_of ts) ≡ true → body_of inner ts ≡ sum_first inner ts
unfolding body_of and_then
body_sum inner [] h = no h
body_sum inner (t ∷ rest) h = sum_class inner (class_at t) (t ∷ rest) rest h

members_listed : (inner : Inner) {rest ts : List Placed} {xs : List Expr} → Listed (inner sum) rest ts xs → no_comma rest → flag_of span_in rest ≡ None →
    sum_first inner (ts ++ rest) ≡ Some (body.Members xs, rest)
unfolding and_then
members_listed inner {rest = rest} (last_item ts {x = x} e) c f = rw (e, f, listed_none (inner sum) x rest c) refl
members_listed inner {rest = rest} (next_item p ts us {x = x} e d) c f = rw (append_assoc ts (placed p (sign_token SComma) ∷ us) rest, e, listed_more p x d c) refl

pub complete_members : {ts : List Placed} {members : List Expr} → ((rest : List Placed) → is_term (start_of (ts ++ rest)) ≡ true) → CompleteList sum ts members → CompleteBody ts (body.Members members)
complete_members {ts = ts} b l = record {
  bodies = λ n h q rest.
      let behind : List Placed = placed q (sign_token SRightBrace) ∷ rest in
      body_sum (parse n) (ts ++ behind) (b behind) ∙ members_listed (parse n) (l.lists n h behind (omega arith)) refl refl;
}

-- one or more tuples with commas between them, which open a body
pub record CompleteTuples (ts : List Placed) (tuples : List Angle) : Type 0 where
  pub tupled : (n : ℕ) → length ts < n → (rest : List Placed) → Listed (tuple_of (parse n)) rest ts tuples
  pub tuple_first : (inner : Inner) (rest : List Placed) → body_of inner (ts ++ rest) ≡ and_then (tuple_of inner (ts ++ rest)) (λ tuple left. body_tuple inner tuple (expect is_in left) left)

pub complete_last_tuple : (q r : Place) {ts : List Placed} {items : List Expr} → CompleteList sum ts items →
    CompleteTuples (placed q (sign_token SLess) ∷ (ts ++ placed r (sign_token SGreater) ∷ [])) (angle_of q items ∷ [])
unfolding body_of and_then
complete_last_tuple q r {ts = ts} l = record {
  tupled = λ n h rest. last_item (placed q (sign_token SLess) ∷ (ts ++ placed r (sign_token SGreater) ∷ []))
      (tuple_reads l q r n (omega (arith, length-append ts (placed r (sign_token SGreater) ∷ []), h)) rest);
  tuple_first = λ inner rest. refl;
}

pub complete_more_tuple : (p q r : Place) {ts us : List Placed} {items : List Expr} {tuples : List Angle} → CompleteList sum ts items → CompleteTuples us tuples →
    CompleteTuples ((placed q (sign_token SLess) ∷ (ts ++ placed r (sign_token SGreater) ∷ [])) ++ placed p (sign_token SComma) ∷ us) (angle_of q items ∷ tuples)
unfolding body_of and_then
complete_more_tuple p q r {ts = ts} {us = us} l d = record {
  tupled = λ n h rest. next_item p (placed q (sign_token SLess) ∷ (ts ++ placed r (sign_token SGreater) ∷ [])) us
      (tuple_reads l q r n (omega (arith, length-append (ts ++ placed r (sign_token SGreater) ∷ []) (placed p (sign_token SComma) ∷ us), length-append ts (placed r (sign_token SGreater) ∷ []), h)) (placed p (sign_token SComma) ∷ (us ++ rest)))
      (d.tupled n (omega (arith, length-append (ts ++ placed r (sign_token SGreater) ∷ []) (placed p (sign_token SComma) ∷ us), h)) rest);
  tuple_first = λ inner rest. refl;
}

tuples_listed : (inner : Inner) {rest ts : List Placed} {xs : List Angle} → Listed (tuple_of inner) rest ts xs → no_comma rest → expect is_in rest ≡ None →
    and_then (tuple_of inner (ts ++ rest)) (λ tuple left. body_tuple inner tuple (expect is_in left) left) ≡ Some (body.Tuples xs, rest)
unfolding and_then
tuples_listed inner {rest = rest} (last_item ts {x = x} e) c f = rw (e, f, listed_none (tuple_of inner) x rest c) refl
tuples_listed inner {rest = rest} (next_item p ts us {x = x} e d) c f = rw (append_assoc ts (placed p (sign_token SComma) ∷ us) rest, e, listed_more p x d c) refl

pub complete_tuples : {ts : List Placed} {tuples : List Angle} → CompleteTuples ts tuples → CompleteBody ts (body.Tuples tuples)
complete_tuples d = record {
  bodies = λ n h q rest.
      let behind : List Placed = placed q (sign_token SRightBrace) ∷ rest in
      d.tuple_first (parse n) behind ∙ tuples_listed (parse n) (d.tupled n h behind) refl refl;
}

pub complete_choices : (p q r : Place) {ts us : List Placed} {items : List Expr} {set : Expr} → CompleteList sum ts items → Complete sum us set →
    CompleteBody ((placed q (sign_token SLess) ∷ (ts ++ placed r (sign_token SGreater) ∷ [])) ++ placed p (word_token WIn) ∷ us) (body.Those (index_of p (angle_of q items) set None))
unfolding body_of and_then
complete_choices p q r {ts = ts} {us = us} l d = record {
  bodies = λ n h t rest.
      let behind : List Placed = placed t (sign_token SRightBrace) ∷ rest in
      let l1 : length ts < n = omega (arith, length-append (ts ++ placed r (sign_token SGreater) ∷ []) (placed p (word_token WIn) ∷ us), length-append ts (placed r (sign_token SGreater) ∷ []), h) in
      let l2 : length us < n = omega (arith, length-append (ts ++ placed r (sign_token SGreater) ∷ []) (placed p (word_token WIn) ∷ us), h) in
      rw (
        append_assoc (ts ++ placed r (sign_token SGreater) ∷ []) (placed p (word_token WIn) ∷ us) behind,
        tuple_reads l q r n l1 (placed p (word_token WIn) ∷ (us ++ behind)),
        behind_in p (angle_of q _) d n l2 behind (omega arith) refl,
      ) refl;
}

pub complete_choices_with : (p q r u : Place) (bar : Bool) {ts us vs : List Placed} {items : List Expr} {set cond : Expr} → CompleteList sum ts items → Complete sum us set → Complete disjunction vs cond →
    CompleteBody ((placed q (sign_token SLess) ∷ (ts ++ placed r (sign_token SGreater) ∷ [])) ++ placed p (word_token WIn) ∷ (us ++ placed u (condition_token bar) ∷ vs))
    (body.Those (index_of p (angle_of q items) set (Some (bar, cond))))
unfolding body_of and_then
complete_choices_with p q r u bar {ts = ts} {us = us} {vs = vs} l d e = record {
  bodies = λ n h t rest.
      let behind : List Placed = placed t (sign_token SRightBrace) ∷ rest in
      let last : List Placed = us ++ placed u (condition_token bar) ∷ vs in
      let l1 : length ts < n = omega (arith, length-append (ts ++ placed r (sign_token SGreater) ∷ []) (placed p (word_token WIn) ∷ last), length-append ts (placed r (sign_token SGreater) ∷ []), h) in
      let l2 : length last < n = omega (arith, length-append (ts ++ placed r (sign_token SGreater) ∷ []) (placed p (word_token WIn) ∷ last), h) in
      rw (
        append_assoc (ts ++ placed r (sign_token SGreater) ∷ []) (placed p (word_token WIn) ∷ last) behind,
        tuple_reads l q r n l1 (placed p (word_token WIn) ∷ (last ++ behind)),
        behind_in_with p u bar (angle_of q _) d e n l2 behind (omega arith),
      ) refl;
}

span_read : (p : Place) (with_to : Bool) {ts us : List Placed} {from to : Expr} → Complete sum ts from → Complete sum us to →
    (n : ℕ) → length ts < n → length us < n → (t : Place) (rest : List Placed) →
    sum_first (parse n) ((ts ++ placed p (span_token with_to) ∷ us) ++ (placed t (sign_token SRightBrace) ∷ rest)) ≡ Some (body.Span from with_to to None, placed t (sign_token SRightBrace) ∷ rest)
unfolding and_then
span_read p true {ts = ts} {us = us} d e n l1 l2 t rest =
    rw (
      append_assoc ts (placed p (span_token true) ∷ us) (placed t (sign_token SRightBrace) ∷ rest),
      deeper d n l1 (placed p (span_token true) ∷ (us ++ (placed t (sign_token SRightBrace) ∷ rest))) (omega arith),
      deeper e n l2 (placed t (sign_token SRightBrace) ∷ rest) (omega arith),
    ) refl
span_read p false {ts = ts} {us = us} d e n l1 l2 t rest =
    rw (
      append_assoc ts (placed p (span_token false) ∷ us) (placed t (sign_token SRightBrace) ∷ rest),
      deeper d n l1 (placed p (span_token false) ∷ (us ++ (placed t (sign_token SRightBrace) ∷ rest))) (omega arith),
      deeper e n l2 (placed t (sign_token SRightBrace) ∷ rest) (omega arith),
    ) refl

pub complete_span : (p : Place) (with_to : Bool) {ts us : List Placed} {from to : Expr} → ((rest : List Placed) → is_term (start_of (ts ++ rest)) ≡ true) → Complete sum ts from → Complete sum us to →
    CompleteBody (ts ++ placed p (span_token with_to) ∷ us) (body.Span from with_to to None)
complete_span p with_to {ts = ts} {us = us} b d e = record {
  bodies = λ n h t rest.
      let starts : is_term (start_of ((ts ++ placed p (span_token with_to) ∷ us) ++ (placed t (sign_token SRightBrace) ∷ rest))) ≡ true =
      rw (append_assoc ts (placed p (span_token with_to) ∷ us) (placed t (sign_token SRightBrace) ∷ rest)) (b _) in
      body_sum (parse n) _ starts ∙
      span_read p with_to d e n (omega (arith, length-append ts (placed p (span_token with_to) ∷ us), h)) (omega (arith, length-append ts (placed p (span_token with_to) ∷ us), h)) t rest;
}

span_by_read : (p q : Place) (with_to : Bool) {ts us vs : List Placed} {from to by : Expr} → Complete sum ts from → Complete sum us to → Complete sum vs by →
    (n : ℕ) → length ts < n → length us < n → length vs < n → (t : Place) (rest : List Placed) →
    sum_first (parse n) ((ts ++ placed p (span_token with_to) ∷ (us ++ placed q (word_token WBy) ∷ vs)) ++ (placed t (sign_token SRightBrace) ∷ rest))
    ≡ Some (body.Span from with_to to (Some by), placed t (sign_token SRightBrace) ∷ rest)
unfolding and_then
span_by_read p q true {ts = ts} {us = us} {vs = vs} d e f n l1 l2 l3 t rest =
    rw (
      append_assoc ts (placed p (span_token true) ∷ (us ++ placed q (word_token WBy) ∷ vs)) (placed t (sign_token SRightBrace) ∷ rest),
      deeper d n l1 (placed p (span_token true) ∷ ((us ++ placed q (word_token WBy) ∷ vs) ++ (placed t (sign_token SRightBrace) ∷ rest))) (omega arith),
      append_assoc us (placed q (word_token WBy) ∷ vs) (placed t (sign_token SRightBrace) ∷ rest),
      deeper e n l2 (placed q (word_token WBy) ∷ (vs ++ (placed t (sign_token SRightBrace) ∷ rest))) (omega arith),
      deeper f n l3 (placed t (sign_token SRightBrace) ∷ rest) (omega arith),
    ) refl
span_by_read p q false {ts = ts} {us = us} {vs = vs} d e f n l1 l2 l3 t rest =
    rw (
      append_assoc ts (placed p (span_token false) ∷ (us ++ placed q (word_token WBy) ∷ vs)) (placed t (sign_token SRightBrace) ∷ rest),
      deeper d n l1 (placed p (span_token false) ∷ ((us ++ placed q (word_token WBy) ∷ vs) ++ (placed t (sign_token SRightBrace) ∷ rest))) (omega arith),
      append_assoc us (placed q (word_token WBy) ∷ vs) (placed t (sign_token SRightBrace) ∷ rest),
      deeper e n l2 (placed q (word_token WBy) ∷ (vs ++ (placed t (sign_token SRightBrace) ∷ rest))) (omega arith),
      deeper f n l3 (placed t (sign_token SRightBrace) ∷ rest) (omega arith),
    ) refl

pub complete_span_by : (p q : Place) (with_to : Bool) {ts us vs : List Placed} {from to by : Expr} → ((rest : List Placed) → is_term (start_of (ts ++ rest)) ≡ true) →
    Complete sum ts from → Complete sum us to → Complete sum vs by →
    CompleteBody (ts ++ placed p (span_token with_to) ∷ (us ++ placed q (word_token WBy) ∷ vs)) (body.Span from with_to to (Some by))
complete_span_by p q with_to {ts = ts} {us = us} {vs = vs} b d e f = record {
  bodies = λ n h t rest.
      let last : List Placed = us ++ placed q (word_token WBy) ∷ vs in
      let starts : is_term (start_of ((ts ++ placed p (span_token with_to) ∷ last) ++ (placed t (sign_token SRightBrace) ∷ rest))) ≡ true =
      rw (append_assoc ts (placed p (span_token with_to) ∷ last) (placed t (sign_token SRightBrace) ∷ rest)) (b _) in
      let l1 : length ts < n = omega (arith, length-append ts (placed p (span_token with_to) ∷ last), h) in
      let l2 : length us < n = omega (arith, length-append ts (placed p (span_token with_to) ∷ last), length-append us (placed q (word_token WBy) ∷ vs), h) in
      let l3 : length vs < n = omega (arith, length-append ts (placed p (span_token with_to) ∷ last), length-append us (placed q (word_token WBy) ∷ vs), h) in
      body_sum (parse n) _ starts ∙ span_by_read p q with_to d e f n l1 l2 l3 t rest;
}
