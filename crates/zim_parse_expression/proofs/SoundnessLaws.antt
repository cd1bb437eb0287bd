-- What the parser reads has a derivation.
use Rattle.std.proofs.Common.{◌≡◌, ℕ, zero, suc, Bool, true, false, if◌then◌else◌, List, [], ◌∷◌, None, nat_eq, refl, ap, arith, eqb-true}
use Rattle.std.proofs.lemmas.Option.{none-some}
use Rattle.zim_fault.specs.declared.tokens.Token.{Token}
use Rattle.zim_fault.specs.declared.tokens.Token.TheVariants.{Word as word_token, Sign as sign_token}
use Rattle.zim_fault.specs.declared.tokens.Placed.{Placed}
use Rattle.zim_fault.specs.declared.signs.Sign.TheVariants.{SLess}
use Rattle.zim_fault.specs.declared.words.Word.TheVariants.{WForall, WIn, WNot}
use Rattle.zim_tree.specs.declared.expr.Expr.{Expr}
use Rattle.zim_tree.specs.declared.expr.Expr.TheVariants as tree
use Rattle.zim_tree.specs.declared.classes.Class.{Class}
use Rattle.zim_tree.specs.declared.classes.Class.TheVariants as class
use Rattle.zim_tree.specs.Classes.{token_class, word_class}
use Rattle.zim_tree.specs.Levels.{Level, primary, postfix, power, unary, product, big, loop, term, sum, comparison, negation, conjunction, disjunction, whole, sums, relations, conjunctions, disjunctions, placed, separator_token, is_loop}
use Rattle.zim_tree.specs.Grammar.{Reads, a_big, no_loop_sign, a_loop_sign, a_product, a_loop, a_product_with_loop, a_member, no_not, a_not, no_forall, a_forall}
use Rattle.zim_scan.specs.Nesting.{class_at}
use Rattle.zim_parse_expression.specs.Next.{class_looseness, looseness, Start, a_less, start_of, opens}
use Rattle.zim_parse_expression.specs.Parser.{Inner, and_then, flag_of, separator_in, word_of_token, index_from, big_of, loop_of, term_behind, term_of, sum_of, member_of, comparison_at, comparison_of, negation_at, negation_of, conjunction_of, disjunction_of, whole_at, expression_of, at_level, parse}
use Rattle.zim_parse_expression.proofs.BeginningLaws.{no}
use Rattle.zim_parse_expression.proofs.InversionLaws.{then_parts, answer, Split, Got, concluded, prefixed, infixed, got_in, got_separator, Sound}
use Rattle.zim_parse_expression.proofs.PrimarySoundLaws.{SoundInner, tuple_sound, index_sound, primary_sound}
use Rattle.zim_parse_expression.proofs.LevelSound.{postfix_sound, power_sound, unary_sound, product_sound, chain_sound, sign_sound}

-- loops

loop_back : (token : Token) → is_loop (token_class token) ≡ true → (token ≡ word_token (word_of_token token)) × (is_loop (word_class (word_of_token token)) ≡ true)
loop_back (word_token w) h = (refl, h)
loop_back (sign_token SLess) h = no h
loop_back _ h = no h

big_if : (inner : Inner) → SoundInner inner → (t : Placed) (more : List Placed) (b : Bool) → (b ≡ true → is_loop (class_at t) ≡ true) → (e : Expr) (rest : List Placed) →
    (if b then and_then (index_from inner more) (λ index r1. and_then (flag_of separator_in r1) (λ with_do r2.
    and_then (inner term r2) (λ operand left. answer (tree.Big t.place (word_of_token t.token) index with_do operand) left))) else None) ≡ answer e rest → Got (Reads big) (t ∷ more) e rest
big_if inner s t more true k e rest h =
    let a = then_parts h in
    let b = then_parts a.gave in
    let c = then_parts b.gave in
    let back = loop_back t.token (k refl) in
    let i = (index_sound inner s).gets more a.first a.behind a.was in
    let f = got_separator a.behind b.first b.behind b.was in
    let d = (s term).gets b.behind c.first c.behind c.was in
    concluded (Reads big) (a_big t.place f.at (word_of_token t.token) b.first back.1 i.derives d.derives)
    (prefixed (placed t.place (word_token (word_of_token t.token))) (ap (λ (x : Token). placed t.place x ∷ more) back.0) (infixed (placed f.at (separator_token b.first)) i.splits f.is_first d.splits)) c.gave
big_if inner s t more false k e rest h = absurd (none-some (e, rest) h)

big_by_tokens : (inner : Inner) → SoundInner inner → (ts : List Placed) (e : Expr) (rest : List Placed) → big_of inner ts ≡ answer e rest → Got (Reads big) ts e rest
unfolding big_of
big_by_tokens inner s [] e rest h = absurd (none-some (e, rest) h)
big_by_tokens inner s (t ∷ more) e rest h = big_if inner s t more (is_loop (class_at t)) (λ k. k) e rest h

big_sound : (inner : Inner) → SoundInner inner → Sound (Reads big) (big_of inner)
big_sound inner s = record { gets = big_by_tokens inner s }

loop_sound : (inner : Inner) → SoundInner inner → Sound (Reads loop) (loop_of inner)
loop_sound inner s = record {
  gets = sign_sound big loop (big_of inner) (big_sound inner s) (λ us e d. no_loop_sign d) (λ p minus us e d. a_loop_sign p minus d);
}

-- terms

looseness_product : (k : Class) (b : Bool) → class_looseness k b ≡ 5 → k ≡ class.Product
looseness_product class.Product b h = refl
looseness_product _ b h = absurd (omega arith)

term_if : (inner : Inner) → SoundInner inner → (first : Expr) (us : List Placed) (t : Placed) (more ts : List Placed) → Split ts us (t ∷ more) → Reads product us first → (b : Bool) → (b ≡ true → class_at t ≡ class.Product) →
    (e : Expr) (rest : List Placed) → (if b then and_then (loop_of inner more) (λ last left. answer (tree.Times first ((t.place, t.token, last) ∷ [])) left) else answer first (t ∷ more)) ≡ answer e rest → Got (Reads term) ts e rest
term_if inner s first us t more ts sp d true k e rest h =
    let a = then_parts h in
    let l = (loop_sound inner s).gets more a.first a.behind a.was in
    concluded (Reads term) (a_product_with_loop t.place t.token (k refl) d l.derives) (infixed t sp refl l.splits) a.gave
term_if inner s first us t more ts sp d false k e rest h = concluded (Reads term) (a_product d) sp h

term_ended : (inner : Inner) → SoundInner inner → (first : Expr) (us behind ts : List Placed) → Split ts us behind → Reads product us first →
    (e : Expr) (rest : List Placed) → term_behind inner first behind ≡ answer e rest → Got (Reads term) ts e rest
unfolding term_behind
term_ended inner s first us [] ts sp d e rest h = concluded (Reads term) (a_product d) sp h
term_ended inner s first us (t ∷ more) ts sp d e rest h =
    term_if inner s first us t more ts sp d (nat_eq (looseness (t ∷ more)) 5) (λ k. looseness_product (class_at t) (opens more) (eqb-true (looseness (t ∷ more)) 5 k)) e rest h

term_by_start : (inner : Inner) → SoundInner inner → (b : Bool) (ts : List Placed) (e : Expr) (rest : List Placed) →
    (if b then loop_of inner ts else and_then (at_level inner product ts) (λ first behind. term_behind inner first behind)) ≡ answer e rest → Got (Reads term) ts e rest
term_by_start inner s true ts e rest h =
    let d = (loop_sound inner s).gets ts e rest h in
    record { used = d.used; splits = d.splits; derives = a_loop d.derives }
term_by_start inner s false ts e rest h =
    let a = then_parts h in
    let d = (product_sound inner s).gets ts a.first a.behind a.was in
    term_ended inner s a.first d.used a.behind ts d.splits d.derives e rest a.gave

term_sound : (inner : Inner) → SoundInner inner → Sound (Reads term) (term_of inner)
unfolding term_of
term_sound inner s = record { gets = λ ts e rest h. term_by_start inner s (opens ts) ts e rest h }

sum_sound : (inner : Inner) → SoundInner inner → Sound (Reads sum) (sum_of inner)
sum_sound inner s = chain_sound sums (at_level inner term) (term_sound inner s)

-- comparisons and what stands above them

member_sound : (inner : Inner) → SoundInner inner → (ts : List Placed) (e : Expr) (rest : List Placed) → member_of inner ts ≡ answer e rest → Got (Reads comparison) ts e rest
unfolding member_of
member_sound inner s ts e rest h =
    let a = then_parts h in
    let b = then_parts a.gave in
    let c = then_parts b.gave in
    let t = (tuple_sound inner s).gets ts a.first a.behind a.was in
    let d = (sum_sound inner s).gets b.behind c.first c.behind c.was in
    concluded (Reads comparison) (a_member b.first t.derives d.derives) (infixed (placed b.first (word_token WIn)) t.splits (got_in a.behind b.first b.behind b.was) d.splits) c.gave

comparison_by_start : (inner : Inner) → SoundInner inner → (start : Start) (ts : List Placed) (e : Expr) (rest : List Placed) → comparison_at inner start ts ≡ answer e rest → Got (Reads comparison) ts e rest
comparison_by_start inner s a_less ts e rest h = member_sound inner s ts e rest h
comparison_by_start inner s _ ts e rest h = (chain_sound relations (sum_of inner) (sum_sound inner s)).gets ts e rest h

comparison_sound : (inner : Inner) → SoundInner inner → Sound (Reads comparison) (comparison_of inner)
unfolding comparison_of
comparison_sound inner s = record { gets = λ ts e rest h. comparison_by_start inner s (start_of ts) ts e rest h }

is_not : Class → Bool
is_not class.Not = true
is_not _ = false

not_back : (token : Token) → is_not (token_class token) ≡ true → token ≡ word_token WNot
unfolding is_not
not_back (word_token WNot) h = refl
not_back (sign_token SLess) h = no h
not_back _ h = no h

negation_by_class : (inner : Inner) → SoundInner inner → (k : Class) (t : Placed) (more : List Placed) → class_at t ≡ k → (e : Expr) (rest : List Placed) → negation_at inner k t more ≡ answer e rest → Got (Reads negation) (t ∷ more) e rest
unfolding is_not
negation_by_class inner s class.Not t more c e rest h =
    let a = then_parts h in
    let d = (comparison_sound inner s).gets more a.first a.behind a.was in
    concluded (Reads negation) (a_not t.place d.derives) (prefixed (placed t.place (word_token WNot)) (ap (λ (x : Token). placed t.place x ∷ more) (not_back t.token (ap is_not c))) d.splits) a.gave
negation_by_class inner s _ t more c e rest h =
    let d = (comparison_sound inner s).gets (t ∷ more) e rest h in
    record { used = d.used; splits = d.splits; derives = no_not d.derives }

negation_by_tokens : (inner : Inner) → SoundInner inner → (ts : List Placed) (e : Expr) (rest : List Placed) → negation_of inner ts ≡ answer e rest → Got (Reads negation) ts e rest
unfolding negation_of
negation_by_tokens inner s [] e rest h = absurd (none-some (e, rest) h)
negation_by_tokens inner s (t ∷ more) e rest h = negation_by_class inner s (class_at t) t more refl e rest h

negation_sound : (inner : Inner) → SoundInner inner → Sound (Reads negation) (negation_of inner)
negation_sound inner s = record { gets = negation_by_tokens inner s }

conjunction_sound : (inner : Inner) → SoundInner inner → Sound (Reads conjunction) (conjunction_of inner)
conjunction_sound inner s = chain_sound conjunctions (negation_of inner) (negation_sound inner s)

disjunction_sound : (inner : Inner) → SoundInner inner → Sound (Reads disjunction) (disjunction_of inner)
disjunction_sound inner s = chain_sound disjunctions (conjunction_of inner) (conjunction_sound inner s)

is_forall : Class → Bool
is_forall class.Forall = true
is_forall _ = false

forall_back : (token : Token) → is_forall (token_class token) ≡ true → token ≡ word_token WForall
unfolding is_forall
forall_back (word_token WForall) h = refl
forall_back (sign_token SLess) h = no h
forall_back _ h = no h

whole_by_class : (inner : Inner) → SoundInner inner → (k : Class) (t : Placed) (more : List Placed) → class_at t ≡ k → (e : Expr) (rest : List Placed) → whole_at inner k t more ≡ answer e rest → Got (Reads whole) (t ∷ more) e rest
unfolding is_forall
whole_by_class inner s class.Forall t more c e rest h =
    let a = then_parts h in
    let b = then_parts a.gave in
    let d = then_parts b.gave in
    let i = (index_sound inner s).gets more a.first a.behind a.was in
    let f = got_separator a.behind b.first b.behind b.was in
    let inside = (s whole).gets b.behind d.first d.behind d.was in
    concluded (Reads whole) (a_forall t.place f.at b.first i.derives inside.derives)
    (prefixed (placed t.place (word_token WForall)) (ap (λ (x : Token). placed t.place x ∷ more) (forall_back t.token (ap is_forall c)))
    (infixed (placed f.at (separator_token b.first)) i.splits f.is_first inside.splits)) d.gave
whole_by_class inner s _ t more c e rest h =
    let d = (disjunction_sound inner s).gets (t ∷ more) e rest h in
    record { used = d.used; splits = d.splits; derives = no_forall d.derives }

whole_by_tokens : (inner : Inner) → SoundInner inner → (ts : List Placed) (e : Expr) (rest : List Placed) → expression_of inner ts ≡ answer e rest → Got (Reads whole) ts e rest
unfolding expression_of
whole_by_tokens inner s [] e rest h = absurd (none-some (e, rest) h)
whole_by_tokens inner s (t ∷ more) e rest h = whole_by_class inner s (class_at t) t more refl e rest h

whole_sound : (inner : Inner) → SoundInner inner → Sound (Reads whole) (expression_of inner)
whole_sound inner s = record { gets = whole_by_tokens inner s }

-- every level

pub level_sound : (inner : Inner) → SoundInner inner → (level : Level) → Sound (Reads level) (at_level inner level)
level_sound inner s primary = primary_sound inner s
level_sound inner s postfix = postfix_sound inner s
level_sound inner s power = power_sound inner s
level_sound inner s unary = unary_sound inner s
level_sound inner s product = product_sound inner s
level_sound inner s big = big_sound inner s
level_sound inner s loop = loop_sound inner s
level_sound inner s term = term_sound inner s
level_sound inner s sum = sum_sound inner s
level_sound inner s comparison = comparison_sound inner s
level_sound inner s negation = negation_sound inner s
level_sound inner s conjunction = conjunction_sound inner s
level_sound inner s disjunction = disjunction_sound inner s
level_sound inner s whole = whole_sound inner s

pub parse_sound : (depth : ℕ) → SoundInner (parse depth)
unfolding parse
parse_sound zero level = record { gets = λ ts e rest h. absurd (none-some (e, rest) h) }
parse_sound (suc depth) level = record { gets = λ ts e rest h. (level_sound (parse depth) (parse_sound depth) level).gets ts e rest h }
