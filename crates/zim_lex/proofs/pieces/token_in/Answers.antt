-- Each class of the first byte is one lemma on the token.
use Rattle.std.proofs.Common.{◌≡◌, ◌∙◌, sym, subst, Option, arith}
use Rattle.std.specs.Prelude.{IfOk}
use Rattle.zim_fault.specs.declared.tokens.Token.{Token}
use Rattle.zim_lex.proofs.TokenLemmas.{piece_has_byte, string_has_quotes, token_of-word, token_of-name, token_of-string, token_of-other, token_of-sign}
use Rattle.zim_lex.proofs.pieces.token_in.Goals as goal

pub bounds-piece-0 : goal.bounds-piece-0
bounds-piece-0 c = piece_has_byte c.args.piece.now c.requires

pub returns-in-Some : goal.returns-in-Some
returns-in-Some c = sym (token_of-word c.args.piece.now c.in-Some.word c.in-Some.ensures.spelled (sym c.begins_name.ensures ∙ c.if-begins_name.true))

pub returns-in_ok-from_slice-in-None : goal.returns-in_ok-from_slice-in-None
returns-in_ok-from_slice-in-None c =
    rw c.in_ok-from_slice-in-None.ensures
    (sym (token_of-name c.args.piece.now c.requires (sym c.begins_name.ensures ∙ c.if-begins_name.true) (λ word spelled. (let found = c.in-None.ensures.every word spelled in cc))))

pub slice_bounds-from_slice-count : goal.slice_bounds-from_slice-count
slice_bounds-from_slice-count c = omega (arith, string_has_quotes c.args.piece.now c.requires (sym c.is_quote.ensures ∙ c.if-is_quote.true))

pub slice_bounds-from_slice-start : goal.slice_bounds-from_slice-start
slice_bounds-from_slice-start c = omega (arith, string_has_quotes c.args.piece.now c.requires (sym c.is_quote.ensures ∙ c.if-is_quote.true))

pub returns-in_ok-text : goal.returns-in_ok-text
returns-in_ok-text c = rw c.in_ok-text.ensures (sym (token_of-string c.args.piece.now c.requires (sym c.is_quote.ensures ∙ c.if-is_quote.true)))

pub returns-in-Some-sign_of : goal.returns-in-Some-sign_of
returns-in-Some-sign_of c =
    sym (token_of-sign c.args.piece.now c.in-Some-sign_of.sign (sym c.begins_name.ensures ∙ c.if-begins_name.false) (sym c.is_quote.ensures ∙ c.if-is_quote.false) (sym c.sign_of.ensures ∙ c.in-Some-sign_of.is))

pub returns-in-None-sign_of : goal.returns-in-None-sign_of
returns-in-None-sign_of c =
    subst (λ (t : Option Token). IfOk c.number_in.result (λ token. token ≡ t))
    (sym (token_of-other c.args.piece.now c.requires (sym c.begins_name.ensures ∙ c.if-begins_name.false) (sym c.is_quote.ensures ∙ c.if-is_quote.false) (sym c.sign_of.ensures ∙ c.in-None-sign_of.is))) c.number_in.ensures
