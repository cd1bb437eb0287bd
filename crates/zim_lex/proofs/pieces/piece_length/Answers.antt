-- Each class of the first byte is one lemma on the longest piece.
use Rattle.std.proofs.Common.{◌≡◌, ◌∙◌, sym, ap, subst, arith, true, false, Some}
use Rattle.std.proofs.lemmas.Bool.Decides.{nat_tests}
use Rattle.zim_lex.specs.Classes.{begins_comment}
use Rattle.zim_lex.specs.Fronts.{IsFrontThat}
use Rattle.zim_decimal.specs.Token.{is_number_token}
use Rattle.zim_lex.proofs.FrontLemmas.{first_byte, some_bytes, no_bytes, longest-nil, longest_blanks, longest_comment, longest_name, longest_string, longest_number, longest_signs}
use Rattle.zim_lex.proofs.pieces.piece_length.Goals as goal

pub returns-then-is_empty : goal.returns-then-is_empty
returns-then-is_empty c = rw (no_bytes c.args.bytes.now c.is_empty.result c.is_empty.ensures c.if-is_empty.true) (sym longest-nil)

pub returns-then-is_blank : goal.returns-then-is_blank
returns-then-is_blank c =
    ap Some c.count_blanks.ensures
    ∙ sym (longest_blanks c.args.bytes.now (some_bytes c.args.bytes.now c.is_empty.result c.is_empty.ensures c.if-is_empty.false) (sym c.is_blank.ensures ∙ c.if-is_blank.true))

pub returns-then-first-eq35 : goal.returns-then-first-eq35
returns-then-first-eq35 c =
    let comment : begins_comment (first_byte c.args.bytes.now) ≡ true = ap begins_comment c.if-first-eq35.true in
    sym (longest_comment c.args.bytes.now (some_bytes c.args.bytes.now c.is_empty.result c.is_empty.ensures c.if-is_empty.false) (sym c.is_blank.ensures ∙ c.if-is_blank.false) comment)

pub returns-then-begins_name : goal.returns-then-begins_name
returns-then-begins_name c =
    let comment : begins_comment (first_byte c.args.bytes.now) ≡ false = grind (arith, nat_tests) in
    ap Some c.count_name_bytes.ensures
    ∙ sym (longest_name c.args.bytes.now (some_bytes c.args.bytes.now c.is_empty.result c.is_empty.ensures c.if-is_empty.false) (sym c.is_blank.ensures ∙ c.if-is_blank.false) comment
    (sym c.begins_name.ensures ∙ c.if-begins_name.true))

pub returns-then-is_quote : goal.returns-then-is_quote
returns-then-is_quote c =
    let comment : begins_comment (first_byte c.args.bytes.now) ≡ false = grind (arith, nat_tests) in
    sym (longest_string c.args.bytes.now c.string_length.result (some_bytes c.args.bytes.now c.is_empty.result c.is_empty.ensures c.if-is_empty.false) (sym c.is_blank.ensures ∙ c.if-is_blank.false) comment
    (sym c.begins_name.ensures ∙ c.if-begins_name.false) (sym c.is_quote.ensures ∙ c.if-is_quote.true) c.string_length.ensures)

pub returns-in-Some : goal.returns-in-Some
returns-in-Some c =
    let comment : begins_comment (first_byte c.args.bytes.now) ≡ false = grind (arith, nat_tests) in
    let found = subst (IsFrontThat is_number_token c.args.bytes.now) c.in-Some.is c.number_length.ensures in
    sym (longest_number c.args.bytes.now c.in-Some.length (some_bytes c.args.bytes.now c.is_empty.result c.is_empty.ensures c.if-is_empty.false) (sym c.is_blank.ensures ∙ c.if-is_blank.false) comment
    (sym c.begins_name.ensures ∙ c.if-begins_name.false) (sym c.is_quote.ensures ∙ c.if-is_quote.false) found)

pub returns-in-None : goal.returns-in-None
returns-in-None c =
    let comment : begins_comment (first_byte c.args.bytes.now) ≡ false = grind (arith, nat_tests) in
    let none = subst (IsFrontThat is_number_token c.args.bytes.now) c.in-None.is c.number_length.ensures in
    c.sign_length.ensures
    ∙ sym (longest_signs c.args.bytes.now (some_bytes c.args.bytes.now c.is_empty.result c.is_empty.ensures c.if-is_empty.false) (sym c.is_blank.ensures ∙ c.if-is_blank.false) comment
    (sym c.begins_name.ensures ∙ c.if-begins_name.false) (sym c.is_quote.ensures ∙ c.if-is_quote.false) none)
