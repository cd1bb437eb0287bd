-- The file's lines are taken one after another; below each there is a depth less.
use Rattle.std.proofs.Common.{◌≡◌, ◌+◌, ◌*◌, [], ◌∷◌, ◌++◌, length, map, None}
use Rattle.std.specs.Prelude.{IfSome}
use Rattle.std.specs.Vec.Iter.{into_iter_items, into_iter_len}
use Rattle.zim_answer.specs.Answer.{goes}
use Rattle.zim_lex.specs.Expanded.{taken, includes, opened}
use Rattle.zim_lex.specs.Lines.{bytes_of}
use Rattle.zim_lex.specs.Opened.{ComeFirst}
use Rattle.zim_gate.specs.Folder.{OnlyRead}
use Rattle.zim_lex.proofs.ExpandedLemmas.{moved}
use Rattle.zim_lex.proofs.GrowsLemmas.{Growing}
use Rattle.zim_lex.proofs.expanding.+expand.Given as goal

abbrev pub decreases-take_line : goal.decreases-take_line
decreases-take_line g l = 2 * l.left

abbrev pub decreases-expand : goal.decreases-expand
decreases-expand g l = 2 * l.left + 1

abbrev pub invariant-expand-loop-line : goal.invariant-expand-loop-line
invariant-expand-loop-line g l =
    let state = g.F.Folder.state in
    record {
      only : OnlyRead (state l.fn.folder) (state l.folder);
      begun : (state l.folder).begun ≡ None;
      told : IfSome (state l.fn.folder).held (λ held. goes (taken (includes l.left held)) l.so_far (map (moved l.file) (into_iter_items l.line-iterator)) ≡ opened held (includes l.left held) l.fn.so_far l.name);
      growing : Growing l.fn.so_far l.so_far (bytes_of (into_iter_items l.line-iterator));
      file : l.file ≡ length l.fn.so_far.files;
      opened : ComeFirst (l.fn.so_far.files ++ l.name ∷ []) l.so_far.files;
      counted : into_iter_len l.line-iterator ≡ length (into_iter_items l.line-iterator);
    }
