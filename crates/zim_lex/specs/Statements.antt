-- The statements of a list of tokens: it is cut after each semicolon.
use Rattle.std.specs.Prelude.{ℕ, ◌+◌, List, [], ◌∷◌, length, Bool, true, false, Ok, Err}
use Rattle.std.specs.List.{slice_split}
use Rattle.zim_answer.specs.Answer.{Answer, ◌>>=◌}
use Rattle.zim_fault.specs.declared.faults.Fault.{Fault}
use Rattle.zim_fault.specs.declared.kinds.Kind.TheVariants.{OpenStatement}
use Rattle.zim_fault.specs.declared.signs.Sign.TheVariants.{SSemicolon}
use Rattle.zim_fault.specs.declared.tokens.Token.{Token}
use Rattle.zim_fault.specs.declared.tokens.Token.TheVariants.{Sign}
use Rattle.zim_fault.specs.declared.tokens.Placed.{Placed}
use Rattle.zim_lex.specs.declared.lines.Span.{Span}

-- whether a token ends a statement
abbrev pub is_semicolon_token : Token → Bool
is_semicolon_token (Sign SSemicolon) = true
is_semicolon_token _ = false

-- the same of a token with its place
abbrev pub ends_statement : Placed → Bool
ends_statement placed = is_semicolon_token placed.token

-- the spans of the parts between semicolons, each with the semicolon after it; the last part has none after it, and is to be empty
abbrev pub spans_from : ℕ → List (List Placed) → Answer (List Span) Fault
spans_from at [] = Ok []
spans_from at ([] ∷ []) = Ok []
spans_from at ((left ∷ more) ∷ []) = Err (record { place = left.place; kind = OpenStatement })
spans_from at (part ∷ next ∷ parts) = spans_from (at + length part + 1) (next ∷ parts) >>= λ spans. Ok (record { from = at; to = at + length part + 1 } ∷ spans)

-- the spans of the statements, or the fault at the first token that no semicolon ends
unfoldable pub statements_of : List Placed → Answer (List Span) Fault
statements_of tokens = spans_from 0 (slice_split ends_statement tokens)
