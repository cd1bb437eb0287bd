-- One column more.
use Rattle.std.proofs.Common.{◌≡◌, ℕ, ◌+◌, ◌<◌, List, length, get_or, sym, subst, ap, ◌∙◌, arith, refl}
use Rattle.std.specs.Prelude.{All}
use Rattle.zim_gate.specs.Pen.{Writes}
use Rattle.zim_gate.proofs.PenLaws.{◌▸◌, Writes-nothing}
use Rattle.zim_linear.specs.Forms.{Term}
use Rattle.zim_rows.specs.declared.rows.Column.{Column}
use Rattle.zim_rows.specs.Entries.{entries_of_column}
use Rattle.zim_rows.specs.Finished.{program_of}
use Rattle.zim_rows.specs.Program.{LinearProgram, IsShortTerm}
use Rattle.zim_mps.specs.Puts.{AreCosts}
use Rattle.zim_mps.specs.Text.{coefficient_of, minimised, cost_of}
use Rattle.zim_mps.proofs.CostLemmas.{AreCosts-terms}
use Rattle.zim_mps.proofs.Pieces.{short_entries, entries_count, entries_at, column_put, mark_more}
use Rattle.zim_mps.proofs.columns.put_numbered_columns.Goals as goal

pub loop-index-init : goal.loop-index-init
loop-index-init g c =
    let p : LinearProgram = program_of c.args.system.now in
    let objective = c.args.system.now.program.objective in
    record {
      text = Writes-nothing c.args.pen.now;
      mark = refl;
      costs = subst (AreCosts 1) (sym c.as_slice-costs.ensures) (AreCosts-terms (length p.columns) p.target.terms objective.terms objective.columns objective.short);
      same = λ j h. ap (λ (ts : List Term). coefficient_of ts j) c.as_slice-costs.ensures;
    }

pub bounds-entries-index : goal.bounds-entries-index
bounds-entries-index g c =
    let p : LinearProgram = program_of c.args.system.now in
    let count : length c.as_slice-entries.result.now ≡ length p.columns =
    entries_count (length p.columns) p.rows c.as_slice-entries.result.now (c.as_slice-entries.ensures ∙ c.args.system.now.agrees) in
    let columns : length c.as_slice-column-items.result.now ≡ length p.columns = ap length c.as_slice-column-items.ensures in
    omega (arith, count, columns, c.loop-index-test.true)

pub put_column-requires-clause-entries : goal.put_column-requires-clause-entries
put_column-requires-clause-entries g c =
    let p : LinearProgram = program_of c.args.system.now in
    let within : c.loop-index.index < length p.columns = subst (λ (cs : List Column). c.loop-index.index < length cs) c.as_slice-column-items.ensures c.loop-index-test.true in
    subst
    (All IsShortTerm)
    (sym (c.as_slice.ensures ∙ c.index-entries-index.is ∙ entries_at (length p.columns) c.loop-index.index p.rows c.as_slice-entries.result.now c.index-entries-index.result (c.as_slice-entries.ensures ∙ c.args.system.now.agrees) within))
    (short_entries (length p.columns) (c.loop-index.index + 1) p.rows c.args.system.now.program.each_row)

pub loop-index-preserved : goal.loop-index-preserved
loop-index-preserved g c =
    let p : LinearProgram = program_of c.args.system.now in
    let i : ℕ = c.loop-index.index in
    let d : Column = c.column-item.result in
    let within : i < length p.columns = subst (λ (cs : List Column). i < length cs) c.as_slice-column-items.ensures c.loop-index-test.true in
    let here : d ≡ get_or p.columns i d = c.column-item.is ∙ ap (λ (cs : List Column). get_or cs i d) c.as_slice-column-items.ensures in
    let cost : c.minimised_cost.result ≡ cost_of p.target (i + 1) =
    c.minimised_cost.ensures.value ∙ ap (minimised p.target.maximize) (c.split_cost-cost.ensures.cost ∙ c.loop-index.invariant.same (i + 1) (omega arith)) in
    let entries : c.as_slice.result.now ≡ entries_of_column p.rows (i + 1) =
    c.as_slice.ensures ∙ c.index-entries-index.is ∙ entries_at (length p.columns) i p.rows c.as_slice-entries.result.now c.index-entries-index.result (c.as_slice-entries.ensures ∙ c.args.system.now.agrees) within in
    record {
      text =
          subst
          (λ (t : List ℕ). Writes g.F.Folder.state c.args.pen.now c.put_column.new.pen t)
          (column_put p i d c.loop-index.before c.minimised_cost.result c.as_slice.result.now within here c.loop-index.invariant.mark cost entries)
          (c.loop-index.invariant.text ▸ c.put_marker.ensures ▸ c.put_column.ensures);
      mark = ap (λ (column : Column). column.integer) here ∙ sym (mark_more p i d within);
      costs = c.split_cost-cost.ensures.behind;
      same = λ j h. c.split_cost-cost.ensures.same j h ∙ c.loop-index.invariant.same j (omega arith);
    }
