-- What the parser reads in brackets and as the right side of a set or a parameter has a derivation.
use Rattle.std.proofs.Common.{◌≡◌, List, ◌∷◌, Option, Some, None, refl}
use Rattle.zim_fault.specs.declared.faults.Place.{Place}
use Rattle.zim_fault.specs.declared.tokens.Token.TheVariants.{Sign as sign_token}
use Rattle.zim_fault.specs.declared.tokens.Placed.{Placed}
use Rattle.zim_fault.specs.declared.signs.Sign.TheVariants.{SLeftBracket, SRightBracket, SBar}
use Rattle.zim_tree.specs.declared.stmt.Bracket.{Bracket}
use Rattle.zim_tree.specs.Levels.{sum, placed}
use Rattle.zim_tree.specs.StatementGrammar.{ReadsBracket, a_bracket_loop, a_bracket_over, ReadsBrackets, no_bracket, a_bracket, ReadsSetBrackets, filled_or_none, empty_brackets}
use Rattle.zim_parse_expression.specs.Next.{Start, a_less, start_of, is_right_bracket}
use Rattle.zim_parse_expression.specs.Parser.{Inner, Parsed, expect}
use Rattle.zim_parse_expression.specs.StatementTokens.{expect_token, is_left_bracket, is_bar}
use Rattle.zim_parse.specs.StatementParser.{bracket_at, bracket_of, brackets_at, brackets_of, empty_or, set_brackets_at, set_brackets_of}
use Rattle.zim_parse_expression.proofs.InversionLaws.{then_parts, answer, Got, concluded, prefixed, single, enclosed, got_right_bracket, Sound}
use Rattle.zim_parse_expression.proofs.PrimarySoundLaws.{SoundInner, index_sound}
use Rattle.zim_parse.proofs.StatementSound.{token_fixed, bar_back, left_bracket_back}

got_bar : (ts : List Placed) (p : Place) (rest : List Placed) → expect_token is_bar ts ≡ answer p rest → ts ≡ placed p (sign_token SBar) ∷ rest
got_bar = token_fixed is_bar (sign_token SBar) bar_back

got_left_bracket : (ts : List Placed) (p : Place) (rest : List Placed) → expect_token is_left_bracket ts ≡ answer p rest → ts ≡ placed p (sign_token SLeftBracket) ∷ rest
got_left_bracket = token_fixed is_left_bracket (sign_token SLeftBracket) left_bracket_back

-- brackets

bracket_by : (inner : Inner) → SoundInner inner → (start : Start) (p : Place) (more ts : List Placed) → ts ≡ placed p (sign_token SLeftBracket) ∷ more → (inside : Bracket) (rest : List Placed) → bracket_at inner start more ≡ answer inside rest → Got ReadsBracket ts inside rest
bracket_by inner s a_less p more ts begin inside rest h =
    let a = then_parts h in
    let b = then_parts a.gave in
    let i = (index_sound inner s).gets more a.first a.behind a.was in
    concluded ReadsBracket (a_bracket_loop p b.first i.derives) (enclosed (placed p (sign_token SLeftBracket)) (placed b.first (sign_token SRightBracket)) begin i.splits (got_right_bracket a.behind b.first b.behind b.was)) b.gave
bracket_by inner s _ p more ts begin inside rest h =
    let a = then_parts h in
    let b = then_parts a.gave in
    let d = (s sum).gets more a.first a.behind a.was in
    concluded ReadsBracket (a_bracket_over p b.first d.derives) (enclosed (placed p (sign_token SLeftBracket)) (placed b.first (sign_token SRightBracket)) begin d.splits (got_right_bracket a.behind b.first b.behind b.was)) b.gave

bracket_sound : (inner : Inner) → SoundInner inner → (p : Place) (more ts : List Placed) → ts ≡ placed p (sign_token SLeftBracket) ∷ more → (inside : Bracket) (rest : List Placed) → bracket_of inner more ≡ answer inside rest → Got ReadsBracket ts inside rest
unfolding bracket_of
bracket_sound inner s p more ts begin inside rest h = bracket_by inner s (start_of more) p more ts begin inside rest h

brackets_by : (inner : Inner) → SoundInner inner → (ts : List Placed) (o : Parsed Place) → expect_token is_left_bracket ts ≡ o → (inside : Option Bracket) (rest : List Placed) → brackets_at inner o ts ≡ answer inside rest → Got ReadsBrackets ts inside rest
brackets_by inner s ts None e inside rest h = concluded ReadsBrackets no_bracket (record { parts = refl }) h
brackets_by inner s ts (Some x) e inside rest h =
    let a = then_parts h in
    let b = bracket_sound inner s x.0 x.1 ts (got_left_bracket ts x.0 x.1 e) a.first a.behind a.was in
    concluded ReadsBrackets (a_bracket b.derives) b.splits a.gave

pub brackets_sound : (inner : Inner) → SoundInner inner → Sound ReadsBrackets (brackets_of inner)
unfolding brackets_of
brackets_sound inner s = record { gets = λ ts inside rest h. brackets_by inner s ts (expect_token is_left_bracket ts) refl inside rest h }

empty_by : (inner : Inner) → SoundInner inner → (p : Place) (more ts : List Placed) → ts ≡ placed p (sign_token SLeftBracket) ∷ more → (o : Parsed Place) → expect is_right_bracket more ≡ o → (inside : Option Bracket) (rest : List Placed) →
    empty_or inner o more ≡ answer inside rest → Got ReadsSetBrackets ts inside rest
empty_by inner s p more ts begin None e inside rest h =
    let a = then_parts h in
    let b = bracket_sound inner s p more ts begin a.first a.behind a.was in
    concluded ReadsSetBrackets (filled_or_none (a_bracket b.derives)) b.splits a.gave
empty_by inner s p more ts begin (Some x) e inside rest h =
    concluded ReadsSetBrackets (empty_brackets p x.0) (prefixed (placed p (sign_token SLeftBracket)) begin (single (placed x.0 (sign_token SRightBracket)) (got_right_bracket more x.0 x.1 e))) h

set_brackets_by : (inner : Inner) → SoundInner inner → (ts : List Placed) (o : Parsed Place) → expect_token is_left_bracket ts ≡ o → (inside : Option Bracket) (rest : List Placed) → set_brackets_at inner o ts ≡ answer inside rest → Got ReadsSetBrackets ts inside rest
set_brackets_by inner s ts None e inside rest h = concluded ReadsSetBrackets (filled_or_none no_bracket) (record { parts = refl }) h
set_brackets_by inner s ts (Some x) e inside rest h = empty_by inner s x.0 x.1 ts (got_left_bracket ts x.0 x.1 e) (expect is_right_bracket x.1) refl inside rest h

pub set_brackets_sound : (inner : Inner) → SoundInner inner → Sound ReadsSetBrackets (set_brackets_of inner)
unfolding set_brackets_of
set_brackets_sound inner s = record { gets = λ ts inside rest h. set_brackets_by inner s ts (expect_token is_left_bracket ts) refl inside rest h }
