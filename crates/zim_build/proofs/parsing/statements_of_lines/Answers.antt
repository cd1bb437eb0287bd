-- Each first fault, and the statements.
use Rattle.std.proofs.Common.{◌≡◌, List, Ok, ap, sym, ◌∙◌, subst}
use Rattle.zim_fault.specs.declared.tokens.Placed.{Placed}
use Rattle.zim_answer.specs.Gives.{Gives}
use Rattle.zim_lex.specs.Causes.{lex_cause}
use Rattle.zim_lex.specs.Statements.{statements_of}
use Rattle.zim_build.proofs.SpanLemmas.{spans_within}
use Rattle.zim_build.proofs.CompileLemmas.{lexed_stuck, cut_open, answer_over, parsed_broken}
use Rattle.zim_build.proofs.parsing.statements_of_lines.Goals as goal

pub returns-in-Err-Fault : goal.returns-in-Err-Fault
returns-in-Err-Fault c =
    rw c.in-Err-Fault.fault-is
    (lexed_stuck c.args.lines.now c.lex.result c.in-Err-Fault.field-0 c.in-Err-Fault.fault c.in-Err-Fault.is c.in-Err-Fault.field-0-is c.lex.ensures.stuck)

pub returns-in-Err-Fault-statements : goal.returns-in-Err-Fault-statements
returns-in-Err-Fault-statements c =
    rw c.in-Err-Fault-statements.fault-is
    (cut_open (λ spans. spans.items) c.args.lines.now c.in-Ok.tokens.items c.statements.result c.in-Err-Fault-statements.field-0 c.in-Err-Fault-statements.fault c.in-Ok.ensures.tokens c.in-Err-Fault-statements.is c.in-Err-Fault-statements.field-0-is
    (subst (λ (ts : List Placed). Gives (λ spans. spans.items) lex_cause (statements_of ts) c.statements.result) c.as_slice.ensures.value c.statements.ensures))

pub parsed_statements-requires : goal.parsed_statements-requires
parsed_statements-requires c =
    let cut : statements_of c.in-Ok.tokens.items ≡ Ok c.in-Ok-statements.spans.items = ap statements_of (sym c.as_slice.ensures.value) ∙ c.in-Ok-statements.ensures in
    rw (c.as_slice-3.ensures.value, c.as_slice-2.ensures.value) (spans_within c.in-Ok.tokens.items c.in-Ok-statements.spans.items cut)

pub returns-in-Err-Fault-parsed_statements : goal.returns-in-Err-Fault-parsed_statements
returns-in-Err-Fault-parsed_statements c =
    let cut : statements_of c.in-Ok.tokens.items ≡ Ok c.in-Ok-statements.spans.items = ap statements_of (sym c.as_slice.ensures.value) ∙ c.in-Ok-statements.ensures in
    rw c.in-Err-Fault-parsed_statements.fault-is
    (parsed_broken c.args.lines.now c.in-Ok.tokens.items c.in-Ok-statements.spans.items c.parsed_statements.result c.in-Err-Fault-parsed_statements.field-0 c.in-Err-Fault-parsed_statements.fault c.in-Ok.ensures.tokens cut
    c.in-Err-Fault-parsed_statements.is c.in-Err-Fault-parsed_statements.field-0-is
    (answer_over c.as_slice-2.result.now c.in-Ok.tokens.items c.as_slice-3.result.now c.in-Ok-statements.spans.items c.parsed_statements.result c.as_slice-2.ensures.value c.as_slice-3.ensures.value c.parsed_statements.ensures))

pub returns-in-Ok-parsed_statements : goal.returns-in-Ok-parsed_statements
returns-in-Ok-parsed_statements c =
    let cut : statements_of c.in-Ok.tokens.items ≡ Ok c.in-Ok-statements.spans.items = ap statements_of (sym c.as_slice.ensures.value) ∙ c.in-Ok-statements.ensures in
    record {
      placed = c.in-Ok.tokens.items;
      tokens = c.in-Ok.ensures.tokens;
      spans = c.in-Ok-statements.spans.items;
      cut = cut;
      parsed = answer_over c.as_slice-2.result.now c.in-Ok.tokens.items c.as_slice-3.result.now c.in-Ok-statements.spans.items (Ok c.in-Ok-parsed_statements.parsed) c.as_slice-2.ensures.value c.as_slice-3.ensures.value c.in-Ok-parsed_statements.ensures;
    }
