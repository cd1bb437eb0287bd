-- Counts that rose, and fronts of texts.
use Rattle.std.proofs.Common.{ℕ, ◌≤◌, List, ◌++◌, sym, ap, ◌∙◌, append_assoc, arith, inl, inr}
use Rattle.zim_gate.specs.Counts.{Rose, IsFrontOf}

-- a count that rose has risen from each earlier value
pub Rose-from : (a b c : ℕ) → a ≤ b → Rose b c → Rose a c
Rose-from a b c h r = elim r [ inl lt ↦ inl (omega arith) | inr last ↦ inr last ]

-- the front of a text is the front of a longer one
pub IsFrontOf-longer : (front x y : List ℕ) → IsFrontOf front x → IsFrontOf front (x ++ y)
IsFrontOf-longer front x y p = record { rest = p.rest ++ y; whole = sym (append_assoc front p.rest y) ∙ ap (λ t. t ++ y) p.whole }

-- a text and the front of a second one are a front of their join
pub IsFrontOf-after : (x front y : List ℕ) → IsFrontOf front y → IsFrontOf (x ++ front) (x ++ y)
IsFrontOf-after x front y p = record { rest = p.rest; whole = append_assoc x front p.rest ∙ ap (λ t. x ++ t) p.whole }
