-- The word and what follows it.
use Rattle.std.proofs.Common.{sym, ◌∙◌}
use Rattle.zim_lex.proofs.IncludeLemmas.{included_word, included_other}
use Rattle.zim_lex.proofs.includes.included.Goals as goal

pub returns-then-starts_with : goal.returns-then-starts_with
returns-then-starts_with c =
    c.quoted_name.ensures
    ∙ sym (included_word c.args.line.now c.word_text-word.result.now c.after_blanks-first.result.now c.after.result.now c.after_blanks.result.now c.starts_with.result c.word_text-word.ensures c.after_blanks-first.ensures c.after.ensures c.after_blanks.ensures c.starts_with.ensures.value c.if-starts_with.true)

pub returns-else-starts_with : goal.returns-else-starts_with
returns-else-starts_with c = sym (included_other c.args.line.now c.word_text-word.result.now c.after_blanks-first.result.now c.starts_with.result c.word_text-word.ensures c.after_blanks-first.ensures c.starts_with.ensures.value c.if-starts_with.false)
