-- The spans so far and those of what is left are those of all tokens; no token since the last semicolon is one.
use Rattle.std.proofs.Common.{◌≡◌, ◌≤◌}
use Rattle.zim_lex.specs.Statements.{statements_of}
use Rattle.zim_lex.proofs.SpansLemmas.{NoneEnds, between, with_spans}
use Rattle.zim_lex.proofs.spans.statements.Given as goal

abbrev pub invariant-loop-at : goal.invariant-loop-at
invariant-loop-at l = record {
  told : with_spans l.spans.items l.from l.tokens ≡ statements_of l.tokens;
  low : l.from ≤ l.at;
  passed : NoneEnds (between l.tokens l.from l.at);
}
