-- A line is taken or what it includes, and a file is its lines.
use Rattle.std.proofs.Common.{rules, ◌≡◌, suc, ◌+◌, ◌-◌, ◌≤◌, ◌<◌, List, [], ◌∷◌, ◌++◌, length, map, refl, ap, sym, ◌∙◌, arith}
use Rattle.std.specs.Prelude.{⊤}
use Rattle.std.specs.Vec.Iter.{into_iter_items, into_iter_len}
use Rattle.std.proofs.lemmas.List.Sums.{sum_by-cons}
use Rattle.std.proofs.lemmas.Result.{err_from_is_err_and}
use Rattle.zim_lex.specs.declared.lines.Line.{Line}
use Rattle.zim_lex.specs.Lines.{most_bytes, bytes_of}
use Rattle.zim_lex.specs.Opened.{ComeFirst}
use Rattle.zim_lex.proofs.ExpandedLemmas.{begins-refl, begins-trans, moved}
use Rattle.zim_lex.proofs.GrowsLemmas.{growing_first, growing_on}
use Rattle.zim_lex.proofs.IncludeLemmas.{included_is, include_has_bytes}
use Rattle.zim_lex.proofs.ExpandingLemmas.{begins-same, known_from, opens_first, only_both, too_deep, includes_file, file_stops, file_begins, file_goes_on, file_stops_at, file_done}
use Rattle.zim_lex.proofs.expanding.+expand.Goals as goal

pub take_line-expand-requires : goal.take_line-expand-requires
take_line-expand-requires g t c =
    let is = included_is c.args.line.bytes c.as_slice.result.now c.included.result c.in-Some.name c.included.ensures c.as_slice.ensures c.in-Some.is in
    let room : length c.args.so_far.now.files + c.args.so_far.now.room ≤ most_bytes = omega (arith, c.requires.room, include_has_bytes c.args.line.bytes c.in-Some.name.now is) in
    search rules

pub take_line-returns-then-left-eq0-clause-expands : goal.take_line-returns-then-left-eq0-clause-expands
take_line-returns-then-left-eq0-clause-expands g t c =
    let is = included_is c.args.line.bytes c.as_slice.result.now c.included.result c.in-Some.name c.included.ensures c.as_slice.ensures c.in-Some.is in
    too_deep (g.F.Folder.state c.args.folder.now) c.args.so_far.now c.args.line c.in-Some.name.now c.args.left (length c.args.line.bytes) is c.if-left-eq0.true c.requires.place

pub take_line-returns-else-left-eq0-clause-expands : goal.take_line-returns-else-left-eq0-clause-expands
take_line-returns-else-left-eq0-clause-expands g t c =
    let is = included_is c.args.line.bytes c.as_slice.result.now c.included.result c.in-Some.name c.included.ensures c.as_slice.ensures c.in-Some.is in
    let less : c.args.left ≡ suc (c.args.left - 1) = omega (arith, c.if-left-eq0.false) in
    includes_file (g.F.Folder.state c.args.folder.now) (g.F.Folder.state c.expand.new.folder) c.args.so_far.now c.expand.new.so_far c.args.line c.in-Some.name.now c.args.left (c.args.left - 1) c.expand.result is less c.expand.ensures.expands

pub expand-returns-in_err-lines-clause-expands : goal.expand-returns-in_err-lines-clause-expands
expand-returns-in_err-lines-clause-expands g t c =
    let p = err_from_is_err_and c.from_residual.result c.from_residual.ensures.1 in
    rw (p.1, p.2) (file_stops (g.F.Folder.state c.args.folder.now) (g.F.Folder.state c.open_file.new.folder) c.args.so_far.now c.open_file.new.so_far c.args.name.now c.args.left c.in_err-lines.field-0.0 c.in_err-lines.ensures)

pub expand-loop-line-init : goal.expand-loop-line-init
expand-loop-line-init g t c =
    let items : into_iter_items c.into_iter-line-iterator.result ≡ c.in_ok-lines.lines = c.into_iter-line-iterator.ensures.into_iter_gives.0 ∙ c.into_vec-line-items.ensures in
    let counted : into_iter_len c.into_iter-line-iterator.result ≡ length (into_iter_items c.into_iter-line-iterator.result) = search rules in
    record {
      only = c.in_ok-lines.ensures.only;
      begun = c.in_ok-lines.ensures.begun;
      told = rw items
          (file_begins (g.F.Folder.state c.args.folder.now) (g.F.Folder.state c.open_file.new.folder) c.args.so_far.now c.open_file.new.so_far c.args.name.now c.args.left c.len-file.result c.in_ok-lines.lines c.in_ok-lines.ensures c.len-file.ensures);
      growing = growing_first c.args.so_far.now c.open_file.new.so_far c.args.name.now (bytes_of (into_iter_items c.into_iter-line-iterator.result)) c.in_ok-lines.ensures.lines c.in_ok-lines.ensures.files (rw items c.in_ok-lines.ensures.room);
      file = c.len-file.ensures;
      opened = begins-same (c.args.so_far.now.files ++ c.args.name.now ∷ []) c.open_file.new.so_far.files c.in_ok-lines.ensures.files;
      counted = counted;
    }

pub expand-take_line-requires : goal.expand-take_line-requires
expand-take_line-requires g t c =
    let split : bytes_of (into_iter_items c.loop-line.line-iterator) ≡ length c.in-Some.line.bytes + bytes_of (into_iter_items c.next.new.self) =
    ap bytes_of c.in-Some.ensures.steps.0 ∙ sum_by-cons (λ (l : Line). length l.bytes) c.in-Some.line (into_iter_items c.next.new.self) in
    let room : length c.loop-line.so_far.files + c.loop-line.so_far.room + length c.in-Some.line.bytes ≤ most_bytes + 1 = omega (arith, split, c.requires.room, c.loop-line.invariant.growing.files) in
    let place : c.len-file.result < length c.loop-line.so_far.files = omega (arith, c.loop-line.invariant.file, c.loop-line.invariant.growing.more) in
    search rules

pub expand-loop-line-preserved : goal.expand-loop-line-preserved
expand-loop-line-preserved g t c =
    let at = c.loop-line in
    let state = g.F.Folder.state in
    let steps = c.in-Some.ensures.steps.0 in
    let line = moved c.len-file.result c.in-Some.line in
    let rest = map (moved c.len-file.result) (into_iter_items c.next.new.self) in
    let was = at.invariant.counted in
    let gone = c.in-Some.ensures.steps.1 in
    let short = ap length steps in
    let split : bytes_of (into_iter_items at.line-iterator) ≡ length c.in-Some.line.bytes + bytes_of (into_iter_items c.next.new.self) =
    ap bytes_of steps ∙ sum_by-cons (λ (l : Line). length l.bytes) c.in-Some.line (into_iter_items c.next.new.self) in
    record {
      only = only_both (state c.args.folder.now) (state at.folder) (state c.take_line.new.folder) at.invariant.only c.in_ok-take_line.ensures.expands.only;
      begun = c.in_ok-take_line.ensures.begun at.invariant.begun;
      told = file_goes_on (state c.args.folder.now) (state at.folder) (state c.take_line.new.folder) c.args.so_far.now at.so_far c.take_line.new.so_far c.args.name.now c.args.left (length c.in-Some.line.bytes) line rest tt at.invariant.only
          (rw steps at at.invariant.told) c.in_ok-take_line.ensures.expands;
      growing = growing_on c.args.so_far.now at.so_far c.take_line.new.so_far (length c.in-Some.line.bytes) (bytes_of (into_iter_items at.line-iterator)) (bytes_of (into_iter_items c.next.new.self)) split at.invariant.growing
          c.in_ok-take_line.ensures.expands.grows;
      file = at.invariant.file;
      opened = begins-trans (c.args.so_far.now.files ++ c.args.name.now ∷ []) at.so_far.files c.take_line.new.so_far.files at.invariant.opened c.in_ok-take_line.ensures.opened;
      counted = omega arith;
    }

pub expand-returns-in_err-take_line-clause-expands : goal.expand-returns-in_err-take_line-clause-expands
expand-returns-in_err-take_line-clause-expands g t c =
    let at = c.loop-line in
    let state = g.F.Folder.state in
    let p = err_from_is_err_and c.from_residual-in_err-take_line.result c.from_residual-in_err-take_line.ensures.1 in
    rw (p.1, p.2)
    (file_stops_at (state c.args.folder.now) (state at.folder) (state c.take_line.new.folder) c.args.so_far.now at.so_far c.take_line.new.so_far c.args.name.now c.args.left (length c.in-Some.line.bytes) (moved c.len-file.result c.in-Some.line)
    (map (moved c.len-file.result) (into_iter_items c.next.new.self)) c.in_err-take_line.field-0.0 at.invariant.only (rw c.in-Some.ensures.steps.0 at at.invariant.told) c.in_err-take_line.ensures.expands)

nothing_left : {X : Type 0} (l : List X) → length l ≡ 0 → l ≡ []
nothing_left [] h = refl
nothing_left (x ∷ xs) h = absurd (omega arith)

pub expand-returns-clause-expands : goal.expand-returns-clause-expands
expand-returns-clause-expands g t c =
    let at = c.loop-line in
    let state = g.F.Folder.state in
    let empty : into_iter_items at.line-iterator ≡ [] = nothing_left (into_iter_items at.line-iterator) (sym at.invariant.counted ∙ c.in-None.ensures.steps.0) in
    file_done (state c.args.folder.now) (state at.folder) c.args.so_far.now at.so_far c.args.name.now c.args.left (bytes_of (into_iter_items at.line-iterator)) (map (moved c.len-file.result) (into_iter_items at.line-iterator)) tt at.invariant.only
    (ap (map (moved c.len-file.result)) empty) at.invariant.told at.invariant.growing

-- the files that were opened

pub take_line-returns-then-left-eq0-clause-opened : goal.take_line-returns-then-left-eq0-clause-opened
take_line-returns-then-left-eq0-clause-opened g t c = begins-refl c.args.so_far.now.files

pub take_line-returns-else-left-eq0-clause-opened : goal.take_line-returns-else-left-eq0-clause-opened
take_line-returns-else-left-eq0-clause-opened g t c =
    opens_first c.args.so_far.now.files (c.in-Some.name.now ∷ []) c.expand.new.so_far.files c.expand.result c.expand.ensures.opened

pub take_line-returns-in_ok-push-in-None-clause-opened : goal.take_line-returns-in_ok-push-in-None-clause-opened
take_line-returns-in_ok-push-in-None-clause-opened g t c = begins-refl c.args.so_far.now.files

pub expand-returns-in_err-lines-clause-opened : goal.expand-returns-in_err-lines-clause-opened
expand-returns-in_err-lines-clause-opened g t c =
    let p = err_from_is_err_and c.from_residual.result c.from_residual.ensures.1 in
    rw (p.1, p.2)
    (known_from (List Line) ⊤ c.in_err-lines.field-0.0 (c.open_file.new.so_far.files ≡ c.args.so_far.now.files ++ c.args.name.now ∷ []) (ComeFirst (c.args.so_far.now.files ++ c.args.name.now ∷ []) c.open_file.new.so_far.files)
    (begins-same (c.args.so_far.now.files ++ c.args.name.now ∷ []) c.open_file.new.so_far.files) c.in_err-lines.ensures.files)

pub expand-returns-in_err-take_line-clause-opened : goal.expand-returns-in_err-take_line-clause-opened
expand-returns-in_err-take_line-clause-opened g t c =
    let at = c.loop-line in
    let p = err_from_is_err_and c.from_residual-in_err-take_line.result c.from_residual-in_err-take_line.ensures.1 in
    rw (p.1, p.2)
    (known_from ⊤ ⊤ c.in_err-take_line.field-0.0 (ComeFirst at.so_far.files c.take_line.new.so_far.files) (ComeFirst (c.args.so_far.now.files ++ c.args.name.now ∷ []) c.take_line.new.so_far.files)
    (begins-trans (c.args.so_far.now.files ++ c.args.name.now ∷ []) at.so_far.files c.take_line.new.so_far.files at.invariant.opened) c.in_err-take_line.ensures.opened)
