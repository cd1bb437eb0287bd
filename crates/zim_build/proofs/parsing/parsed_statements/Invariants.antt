-- The spans so far are the statements so far.
use Rattle.std.proofs.Common.{take}
use Rattle.zim_build.specs.Parsed.{AreParsed}
use Rattle.zim_build.proofs.parsing.parsed_statements.Given as goal

abbrev pub invariant-loop-span : goal.invariant-loop-span
invariant-loop-span l = AreParsed l.tokens (take l.span-index l.spans) l.parsed
