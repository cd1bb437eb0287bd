-- Two texts that a pen wrote to a sink one after the other are their join: `c.put.ensures ▸ c.put-2.ensures`.
use Rattle.std.proofs.Common.{◌≡◌, ℕ, List, [], ◌++◌, Option, None, Some, Result, Ok, Err, refl, sym, ap, ◌∙◌, subst, append_assoc, arith}
use Rattle.std.specs.Prelude.{⊤}
use Rattle.std.specs.Borrow.{MutBor}
use Rattle.std.specs.Io.KnownBytes.{append_known}
use Rattle.std.proofs.lemmas.List.{append-nil}
use Rattle.zim_gate.specs.declared.stops.Failed.{Failed}
use Rattle.zim_gate.specs.declared.sink_pens.SinkPen.{SinkPen}
use Rattle.zim_gate.specs.Sink.{SinkState, SinkAppends, SinkPuts}
use Rattle.zim_gate.specs.Pen.{GoesOn}
use Rattle.zim_gate.specs.SinkPen.{SinkStarts, SinkWrites}
use Rattle.zim_gate.proofs.Counting.{Rose-from, IsFrontOf-longer, IsFrontOf-after}
use Rattle.zim_gate.proofs.Going.{Joins, GoesOn-nothing, GoesOn-both}

-- nothing is added to what is known
append_known-nothing : (known : Option (List ℕ)) → known ≡ append_known known []
append_known-nothing None = refl
append_known-nothing (Some xs) = ap Some (sym (append-nil xs))

-- two texts are added as their join
append_known-both : (known : Option (List ℕ)) (x y : List ℕ) → append_known (append_known known x) y ≡ append_known known (x ++ y)
append_known-both None x y = refl
append_known-both (Some xs) x y = ap Some (append_assoc xs x y)

SinkAppends-both : (a b c : SinkState) (x y : List ℕ) → SinkAppends a b x → SinkAppends b c y → SinkAppends a c (x ++ y)
SinkAppends-both a b c x y p q = record {
  taken = q.taken ∙ ap (λ known. append_known known y) p.taken ∙ append_known-both a.taken x y;
  faults = omega (arith, p.faults, q.faults);
}

-- a put of nothing
SinkPuts-nothing : (s : SinkState) → SinkPuts s s [] (Ok tt)
SinkPuts-nothing s = record { ok = record { taken = append_known-nothing s.taken; faults = omega arith }; err = tt }

-- a put that went well and one after it are one of both texts
SinkPuts-both : (a b c : SinkState) (x y : List ℕ) (r : Result ⊤ Failed) → SinkPuts a b x (Ok tt) → SinkPuts b c y r → SinkPuts a c (x ++ y) r
SinkPuts-both a b c x y (Ok _) p q = record { ok = SinkAppends-both a b c x y p.ok q.ok; err = tt }
SinkPuts-both a b c x y (Err _) p q = record {
  ok = tt;
  err = record {
    bytes = x ++ q.err.bytes;
    front = IsFrontOf-after x q.err.bytes y q.err.front;
    appends = SinkAppends-both a b c x q.err.bytes p.ok q.err.appends;
    rose = Rose-from a.faults b.faults c.faults p.ok.faults q.err.rose;
  };
}

-- a put that stopped has stopped in each longer text
SinkPuts-stopped : (a b : SinkState) (x y : List ℕ) (e : Failed) → SinkPuts a b x (Err e) → SinkPuts a b (x ++ y) (Err e)
SinkPuts-stopped a b x y e p = record {
  ok = tt;
  err = record {
    bytes = p.err.bytes;
    front = IsFrontOf-longer p.err.bytes x y p.err.front;
    appends = p.err.appends;
    rose = p.err.rose;
  };
}

-- puts to a sink join
pub SinkPuts-Joins : Joins SinkPuts
SinkPuts-Joins = record { nothing = SinkPuts-nothing; both = SinkPuts-both; stopped = SinkPuts-stopped }

module _ {E : Type 0} {state : E → SinkState} where
  -- a pen that wrote nothing
  pub SinkWrites-nothing : (pen : SinkPen E) → SinkWrites state pen pen []
  SinkWrites-nothing pen = record { same = refl; goes = GoesOn-nothing SinkPuts-Joins (state pen.sink.now) pen.outcome }

  infixr 20 ◌▸◌
  -- a text and then another
  pub ◌▸◌ : {a b c : SinkPen E} {x y : List ℕ} → SinkWrites state a b x → SinkWrites state b c y → SinkWrites state a c (x ++ y)
  ◌▸◌ {a} {b} {c} {x} {y} p q = record {
    same = q.same ∙ p.same;
    goes = GoesOn-both SinkPuts-Joins (state a.sink.now) (state b.sink.now) (state c.sink.now) x y a.outcome b.outcome c.outcome p.goes q.goes;
  }

  -- what a pen did that was made for a sink, wrote a text and was finished
  pub sink_finished : {lent : MutBor E} {a b : SinkPen E} {x : List ℕ} {answer : Result ⊤ Failed} {left : E} → SinkStarts lent a →
      SinkWrites state a b x → answer ≡ b.outcome → left ≡ b.sink.now → SinkPuts (state lent.now) (state left) x answer
  sink_finished {lent} {a} {b} {x} {answer} {left} p q outcome sink =
      let goes = subst (λ o. GoesOn SinkPuts (state a.sink.now) o (state b.sink.now) b.outcome x) p.outcome q.goes in
      let puts = subst (λ s. SinkPuts (state s) (state b.sink.now) x b.outcome) p.sink goes.on_ok in
      subst (λ s. SinkPuts (state lent.now) (state s) x answer) (sym sink)
      (subst (λ r. SinkPuts (state lent.now) (state b.sink.now) x r) (sym outcome) puts)
