-- The string ends at the first quote after its own.
use Rattle.std.proofs.Common.{sym, ◌∙◌}
use Rattle.zim_lex.specs.Classes.{is_quote}
use Rattle.zim_lex.proofs.NumberLemmas.{first_within}
use Rattle.zim_lex.proofs.StringLemmas.{string_found, string_open}
use Rattle.zim_lex.proofs.numbers.string_length.Goals as goal

pub after-quoted-requires : goal.after-quoted-requires
after-quoted-requires c = first_within is_quote c.args.bytes.now (sym c.begins_string.ensures ∙ c.if-not-begins_string.false)

pub returns-in-Some : goal.returns-in-Some
returns-in-Some c =
    string_found c.args.bytes.now c.after-quoted.result.now c.memchr.result c.in-Some.end (sym c.begins_string.ensures ∙ c.if-not-begins_string.false) c.after-quoted.ensures c.memchr.ensures c.in-Some.is

pub returns-in-None : goal.returns-in-None
returns-in-None c = string_open c.args.bytes.now c.after-quoted.result.now c.memchr.result c.after-quoted.ensures c.memchr.ensures c.in-None.is
