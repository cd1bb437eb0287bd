-- One row more.
use Rattle.std.proofs.Common.{◌≡◌, ℕ, ◌+◌, ◌≤◌, List, ◌++◌, take, get_or, sym, subst, ap, ◌∙◌, arith, to_z, of_z}
use Rattle.std.proofs.Math.Facts.{to_z-of_z}
use Rattle.std.specs.Int.{w128}
use Rattle.std.specs.Prelude.{◌==◌, if◌then◌else◌, flat_map}
use Rattle.std.specs.List.{enumerate_from}
use Rattle.std.proofs.lemmas.List.{get_or_default}
use Rattle.zim_gate.specs.Pen.{Writes}
use Rattle.zim_gate.proofs.PenLaws.{◌▸◌, Writes-nothing}
use Rattle.zim_fields.proofs.Numbered.{numbered-next}
use Rattle.zim_rows.specs.declared.rows.Row.{Row}
use Rattle.zim_table.specs.Text.{statement_of, statement_name, row_line, row_text}
use Rattle.zim_table.proofs.Places.{count_of, place_next}
use Rattle.zim_table.proofs.writer.put_rows.Goals as goal

pub loop-index-init : goal.loop-index-init
loop-index-init g c = record {
  put = Writes-nothing c.args.pen.now;
  counted = search;
  before = λ k d h. absurd (omega arith);
  later = λ k d h m. omega arith;
}

pub loop-index-preserved : goal.loop-index-preserved
loop-index-preserved g c =
    let rows : List Row = c.args.rows.now in
    let index : ℕ = c.loop-index.index in
    let row : Row = c.index-rows-index.result in
    let statement : ℕ = row.from.statement in
    let known = c.loop-index.invariant in
    let at : (d : Row) → statement_of (get_or rows index d) ≡ statement = λ d. ap statement_of (get_or_default rows index d row c.loop-index-test.true ∙ sym c.index-rows-index.is) in
    let placed : c.next_place-place.result ≡ count_of rows (index + 1) statement =
    c.next_place-place.ensures
    ∙ subst
    (λ (s : ℕ). (if s == c.loop-index.statement then c.loop-index.place + 1 else 1) ≡ count_of rows (index + 1) s)
    (at row)
    (place_next rows index row c.loop-index.statement c.loop-index.place c.loop-index-test.true known.counted known.before (known.later index row (omega arith) c.loop-index-test.true)) in
    let back : to_z w128 (of_z w128 row.factor) ≡ row.factor = to_z-of_z {w = w128} search in
    let here : Writes g.F.Folder.state c.loop-index.pen c.put_row.new.pen (row_text c.args.names.now rows (index + 1, row)) =
    subst
    (λ (place : ℕ). Writes g.F.Folder.state c.loop-index.pen c.put_row.new.pen (row_line (index + 1) (statement_name c.args.names.now statement) place row.factor))
    placed
    (subst
    (λ (name : List ℕ). Writes g.F.Folder.state c.loop-index.pen c.put_row.new.pen (row_line (index + 1) name c.next_place-place.result row.factor))
    c.name_of.ensures
    (simp back at c.put_row.ensures)) in
    record {
      put =
          subst
          (λ (t : List ℕ). Writes g.F.Folder.state c.args.pen.now c.put_row.new.pen t)
          (sym (numbered-next (row_text c.args.names.now rows) rows index row c.loop-index-test.true))
          (subst
          (λ (r : Row). Writes g.F.Folder.state c.args.pen.now c.put_row.new.pen (flat_map (row_text c.args.names.now rows) (enumerate_from 1 (take index rows)) ++ row_text c.args.names.now rows (index + 1, r)))
          c.index-rows-index.is
          (known.put ▸ here));
      counted = placed;
      before = λ k d h. subst (λ (s : ℕ). statement_of (get_or rows k d) ≤ s) (at d) (c.requires.rising k index d (omega arith) c.loop-index-test.true);
      later = λ k d h m. subst (λ (s : ℕ). s ≤ statement_of (get_or rows k d)) (at d) (c.requires.rising index k d (omega arith) m);
    }
