-- What the parser reads at each level has a derivation.
use Rattle.std.proofs.Common.{◌≡◌, ℕ, zero, suc, ◌≤◌, Bool, true, false, if◌then◌else◌, List, [], ◌∷◌, ◌++◌, length, nat_eq, refl, ap, subst, arith, eqb-true}
use Rattle.std.proofs.lemmas.Option.{none-some, same_Some}
use Rattle.zim_fault.specs.declared.faults.Place.{Place}
use Rattle.zim_fault.specs.declared.tokens.Token.{Token}
use Rattle.zim_fault.specs.declared.tokens.Token.TheVariants.{Word as word_token, Sign as sign_token}
use Rattle.zim_fault.specs.declared.tokens.Placed.{Placed}
use Rattle.zim_fault.specs.declared.signs.Sign.TheVariants.{SExclamation, SCaret, SStarStar, SPlus, SMinus}
use Rattle.zim_fault.specs.declared.words.Word.TheVariants.{WIn}
use Rattle.zim_tree.specs.declared.expr.Expr.{Expr}
use Rattle.zim_tree.specs.declared.expr.Expr.TheVariants as tree
use Rattle.zim_tree.specs.declared.classes.Class.{Class}
use Rattle.zim_tree.specs.declared.classes.Class.TheVariants as class
use Rattle.zim_tree.specs.Classes.{token_class, sign_class}
use Rattle.zim_tree.specs.Levels.{Level, postfix, power, unary, product, Chain, products, sums, relations, conjunctions, disjunctions, level_of, operand_of, joins, Limits, Operands, placed, exclamations, sign_token_of, exponent_sign}
use Rattle.zim_tree.specs.Grammar.{Reads, ReadsOperands, a_postfix, no_power, a_power, no_sign, a_sign, a_chain, no_operand, an_operand}
use Rattle.zim_scan.specs.Nesting.{class_at}
use Rattle.zim_parse_expression.specs.Next.{class_looseness, looseness, rank, is_exclamation, opens}
use Rattle.zim_parse_expression.specs.Parser.{Inner, Parser, and_then, sign_of_token, is_minus, marks_of, postfix_of, signed_of, sign_before, power_at, power_behind, power_of, sign_or, signed_or, unary_of, operands_of, turns_of, chain_of, products_of}
use Rattle.zim_parse_expression.proofs.BeginningLaws.{no}
use Rattle.zim_parse_expression.proofs.InversionLaws.{then_parts, answer, Split, Got, concluded, prefixed, appended, infixed, Sound}
use Rattle.zim_parse_expression.proofs.PrimarySoundLaws.{SoundInner, primary_sound}

-- postfix

exclamation_back : (token : Token) → is_exclamation (token_class token) ≡ true → token ≡ sign_token SExclamation
exclamation_back (sign_token SExclamation) h = refl
exclamation_back (word_token WIn) h = no h
exclamation_back _ h = no h

-- the mark of a token and those behind it, or none
abbrev chosen : Bool → Placed → List Placed → List Place → List Placed → List Place × List Placed
chosen b t more marks left = if b then (t.place ∷ marks, left) else ([], t ∷ more)

marks_if : (b : Bool) (t : Placed) (more left : List Placed) (marks : List Place) → (b ≡ true → t.token ≡ sign_token SExclamation) → Split more (exclamations marks) left →
    Split (t ∷ more) (exclamations (chosen b t more marks left).0) (chosen b t more marks left).1
marks_if true t more left marks k s = prefixed (placed t.place (sign_token SExclamation)) (ap (λ (x : Token). placed t.place x ∷ more) (k refl)) s
marks_if false t more left marks k s = record { parts = refl }

marks_split : (ts : List Placed) → Split ts (exclamations (marks_of ts).0) (marks_of ts).1
unfolding marks_of
marks_split [] = record { parts = refl }
marks_split (t ∷ more) = marks_if (is_exclamation (class_at t)) t more (marks_of more).1 (marks_of more).0 (exclamation_back t.token) (marks_split more)

pub postfix_sound : (inner : Inner) → SoundInner inner → Sound (Reads postfix) (postfix_of inner)
unfolding postfix_of
postfix_sound inner s = record {
  gets = λ ts e rest h.
      let a = then_parts h in
      let d = (primary_sound inner s).gets ts a.first a.behind a.was in
      concluded (Reads postfix) (a_postfix (marks_of a.behind).0 d.derives) (appended d.splits (marks_split a.behind)) a.gave;
}

-- power

is_power : Class → Bool
is_power class.Power = true
is_power _ = false

power_back : (token : Token) → is_power (token_class token) ≡ true → (token ≡ sign_token (sign_of_token token)) × (sign_class (sign_of_token token) ≡ class.Power)
unfolding is_power
power_back (sign_token SCaret) h = (refl, refl)
power_back (sign_token SStarStar) h = (refl, refl)
power_back (word_token WIn) h = no h
power_back _ h = no h

is_plus : Class → Bool
is_plus class.PlusOrMinus = true
is_plus _ = false

plus_back : (token : Token) → is_plus (token_class token) ≡ true → token ≡ sign_token_of (is_minus token)
unfolding is_plus
plus_back (sign_token SPlus) h = refl
plus_back (sign_token SMinus) h = refl
plus_back (word_token WIn) h = no h
plus_back _ h = no h

signed_class : (k : Class) (t : Placed) (more : List Placed) → class_at t ≡ k → Split (t ∷ more) (exponent_sign (sign_before k t more).0) (sign_before k t more).1
unfolding is_plus
signed_class class.PlusOrMinus t more c = prefixed (placed t.place (sign_token_of (is_minus t.token))) (ap (λ (x : Token). placed t.place x ∷ more) (plus_back t.token (ap is_plus c))) (record { parts = refl })
signed_class _ t more c = record { parts = refl }

signed_split : (ts : List Placed) → Split ts (exponent_sign (signed_of ts).0) (signed_of ts).1
signed_split [] = record { parts = refl }
signed_split (t ∷ more) = signed_class (class_at t) t more refl

power_class : (inner : Inner) → SoundInner inner → (base : Expr) (us : List Placed) (k : Class) (t : Placed) (more ts : List Placed) → class_at t ≡ k → Split ts us (t ∷ more) → Reads postfix us base →
    (e : Expr) (rest : List Placed) → power_at inner base k t more ≡ answer e rest → Got (Reads power) ts e rest
unfolding is_power
power_class inner s base us class.Power t more ts c sp d e rest h =
    let a = then_parts h in
    let back = power_back t.token (ap is_power c) in
    let x = (postfix_sound inner s).gets (signed_of more).1 a.first a.behind a.was in
    concluded (Reads power) (a_power t.place (sign_of_token t.token) (signed_of more).0 back.1 d x.derives)
    (infixed (placed t.place (sign_token (sign_of_token t.token))) sp (ap (λ (k : Token). placed t.place k ∷ more) back.0) (appended (signed_split more) x.splits)) a.gave
power_class inner s base us _ t more ts c sp d e rest h = concluded (Reads power) (no_power d) sp h

power_ended : (inner : Inner) → SoundInner inner → (base : Expr) (us behind ts : List Placed) → Split ts us behind → Reads postfix us base →
    (e : Expr) (rest : List Placed) → power_behind inner base behind ≡ answer e rest → Got (Reads power) ts e rest
unfolding power_behind
power_ended inner s base us [] ts sp d e rest h = concluded (Reads power) (no_power d) sp h
power_ended inner s base us (t ∷ more) ts sp d e rest h = power_class inner s base us (class_at t) t more ts refl sp d e rest h

pub power_sound : (inner : Inner) → SoundInner inner → Sound (Reads power) (power_of inner)
unfolding power_of
power_sound inner s = record {
  gets = λ ts e rest h.
      let a = then_parts h in
      let d = (postfix_sound inner s).gets ts a.first a.behind a.was in
      power_ended inner s a.first d.used a.behind ts d.splits d.derives e rest a.gave;
}

-- signs

sign_class_sound : (inside outside : Level) (operand : Parser Expr) → Sound (Reads inside) operand →
    ((us : List Placed) (e : Expr) → Reads inside us e → Reads outside us e) →
    ((p : Place) (minus : Bool) (us : List Placed) (e : Expr) → Reads inside us e → Reads outside (placed p (sign_token_of minus) ∷ us) (tree.Signed p minus e)) →
    (k : Class) (t : Placed) (more : List Placed) → class_at t ≡ k → (e : Expr) (rest : List Placed) → sign_or operand k t more ≡ answer e rest → Got (Reads outside) (t ∷ more) e rest
unfolding is_plus
sign_class_sound inside outside operand s plain signed class.PlusOrMinus t more c e rest h =
    let a = then_parts h in
    let d = s.gets more a.first a.behind a.was in
    concluded (Reads outside) (signed t.place (is_minus t.token) d.used a.first d.derives)
    (prefixed (placed t.place (sign_token_of (is_minus t.token))) (ap (λ (x : Token). placed t.place x ∷ more) (plus_back t.token (ap is_plus c))) d.splits) a.gave
sign_class_sound inside outside operand s plain signed _ t more c e rest h =
    let d = s.gets (t ∷ more) e rest h in
    record { used = d.used; splits = d.splits; derives = plain d.used e d.derives }

pub sign_sound : (inside outside : Level) (operand : Parser Expr) → Sound (Reads inside) operand →
    ((us : List Placed) (e : Expr) → Reads inside us e → Reads outside us e) →
    ((p : Place) (minus : Bool) (us : List Placed) (e : Expr) → Reads inside us e → Reads outside (placed p (sign_token_of minus) ∷ us) (tree.Signed p minus e)) →
    (ts : List Placed) (e : Expr) (rest : List Placed) → signed_or operand ts ≡ answer e rest → Got (Reads outside) ts e rest
unfolding signed_or
sign_sound inside outside operand s plain signed [] e rest h = absurd (none-some (e, rest) h)
sign_sound inside outside operand s plain signed (t ∷ more) e rest h = sign_class_sound inside outside operand s plain signed (class_at t) t more refl e rest h

pub unary_sound : (inner : Inner) → SoundInner inner → Sound (Reads unary) (unary_of inner)
unary_sound inner s = record {
  gets = sign_sound power unary (power_of inner) (power_sound inner s) (λ us e d. no_sign d) (λ p minus us e d. a_sign p minus d);
}

-- lists of operands

rank_joins : (chain : Chain) (k : Class) (b : Bool) → class_looseness k b ≡ rank chain → joins chain k ≡ true
rank_joins products class.Product false h = refl
rank_joins products class.Product true h = absurd (omega arith)
rank_joins products _ b h = absurd (omega arith)
rank_joins sums class.PlusOrMinus b h = refl
rank_joins sums class.OtherSum b h = refl
rank_joins sums class.Product true h = absurd (omega arith)
rank_joins sums class.Product false h = absurd (omega arith)
rank_joins sums _ b h = absurd (omega arith)
rank_joins relations class.Less b h = refl
rank_joins relations class.Greater b h = refl
rank_joins relations class.OtherRelation b h = refl
rank_joins relations class.Product true h = absurd (omega arith)
rank_joins relations class.Product false h = absurd (omega arith)
rank_joins relations _ b h = absurd (omega arith)
rank_joins conjunctions class.And b h = refl
rank_joins conjunctions class.Product true h = absurd (omega arith)
rank_joins conjunctions class.Product false h = absurd (omega arith)
rank_joins conjunctions _ b h = absurd (omega arith)
rank_joins disjunctions class.OrOrXor b h = refl
rank_joins disjunctions class.Product true h = absurd (omega arith)
rank_joins disjunctions class.Product false h = absurd (omega arith)
rank_joins disjunctions _ b h = absurd (omega arith)

pub record GotOperands (chain : Chain) (turns : ℕ) (ts : List Placed) (others : Operands) (rest : List Placed) : Type 0 where
  pub used : List Placed
  pub splits : Split ts used rest
  pub derives : ReadsOperands chain used others
  pub count : length others ≤ turns

no_more_operands : (chain : Chain) (turns : ℕ) (ts : List Placed) (others : Operands) (rest : List Placed) → answer {A = Operands} [] ts ≡ answer others rest → GotOperands chain turns ts others rest
no_more_operands chain turns ts others rest h =
    let none : Operands = [] in
    let same : (none, ts) ≡ (others, rest) = same_Some (none, ts) (others, rest) h in
    record {
      used = [];
      splits = record { parts = ap (λ (z : Operands × List Placed). z.1) same };
      derives = subst (λ (z : Operands × List Placed). ReadsOperands chain [] z.0) same (no_operand chain);
      count = subst (λ (z : Operands × List Placed). length z.0 ≤ turns) same (omega arith);
    }

operand_if : (chain : Chain) (operand : Parser Expr) (turns : ℕ) (t : Placed) (more : List Placed) → Sound (Reads (operand_of chain)) operand →
    ((ts : List Placed) (others : Operands) (rest : List Placed) → operands_of chain operand turns ts ≡ answer others rest → GotOperands chain turns ts others rest) →
    (b : Bool) → (b ≡ true → joins chain (class_at t) ≡ true) → (others : Operands) (rest : List Placed) →
    (if b then and_then (operand more) (λ e behind. and_then (operands_of chain operand turns behind) (λ others left. answer ((t.place, t.token, e) ∷ others) left)) else answer {A = Operands} [] (t ∷ more)) ≡ answer others rest →
    GotOperands chain (suc turns) (t ∷ more) others rest
operand_if chain operand turns t more s recur true j others rest h =
    let a = then_parts h in
    let b = then_parts a.gave in
    let d = s.gets more a.first a.behind a.was in
    let l = recur a.behind b.first b.behind b.was in
    let same : ((t.place, t.token, a.first) ∷ b.first, b.behind) ≡ (others, rest) = same_Some ((t.place, t.token, a.first) ∷ b.first, b.behind) (others, rest) b.gave in
    let fits : suc (length b.first) ≤ suc turns = omega (arith, l.count) in
    record {
      used = t ∷ (d.used ++ l.used);
      splits = subst (λ (z : Operands × List Placed). Split (t ∷ more) (t ∷ (d.used ++ l.used)) z.1) same (prefixed t refl (appended d.splits l.splits));
      derives = subst (λ (z : Operands × List Placed). ReadsOperands chain (t ∷ (d.used ++ l.used)) z.0) same (an_operand chain t.place t.token (j refl) d.derives l.derives);
      count = subst (λ (z : Operands × List Placed). length z.0 ≤ suc turns) same fits;
    }
operand_if chain operand turns t more s recur false j others rest h = no_more_operands chain (suc turns) (t ∷ more) others rest h

operands_sound : (chain : Chain) (operand : Parser Expr) → Sound (Reads (operand_of chain)) operand → (turns : ℕ) (ts : List Placed) (others : Operands) (rest : List Placed) →
    operands_of chain operand turns ts ≡ answer others rest → GotOperands chain turns ts others rest
unfolding operands_of
operands_sound chain operand s zero ts others rest h = no_more_operands chain zero ts others rest h
operands_sound chain operand s (suc turns) [] others rest h = no_more_operands chain (suc turns) [] others rest h
operands_sound chain operand s (suc turns) (t ∷ more) others rest h =
    operand_if chain operand turns t more s (operands_sound chain operand s turns) (nat_eq (looseness (t ∷ more)) (rank chain))
    (λ e. rank_joins chain (class_at t) (opens more) (eqb-true (looseness (t ∷ more)) (rank chain) e)) others rest h

limits_kept : (chain : Chain) (rest : List Placed) (others : Operands) → length others ≤ turns_of chain rest → Limits chain (length others)
limits_kept relations rest others h = h
limits_kept products rest others h = tt
limits_kept sums rest others h = tt
limits_kept conjunctions rest others h = tt
limits_kept disjunctions rest others h = tt

pub chain_sound : (chain : Chain) (operand : Parser Expr) → Sound (Reads (operand_of chain)) operand → Sound (Reads (level_of chain)) (chain_of chain operand)
unfolding chain_of
chain_sound chain operand s = record {
  gets = λ ts e rest h.
      let a = then_parts h in
      let b = then_parts a.gave in
      let d = s.gets ts a.first a.behind a.was in
      let l = operands_sound chain operand s (turns_of chain a.behind) a.behind b.first b.behind b.was in
      concluded (Reads (level_of chain)) (a_chain chain (limits_kept chain a.behind b.first l.count) d.derives l.derives) (appended d.splits l.splits) b.gave;
}

pub product_sound : (inner : Inner) → SoundInner inner → Sound (Reads product) (products_of inner)
product_sound inner s = chain_sound products (unary_of inner) (unary_sound inner s)
