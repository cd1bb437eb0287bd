-- The two slices, copied one behind the other, are the front of the room.
use Rattle.std.proofs.Common.{◌≡◌, ℕ, ◌+◌, List, ◌++◌, length, take, refl, ap, ◌∙◌, arith, length-append}
use Rattle.std.proofs.lemmas.List.{take_at}
use Rattle.std.proofs.lemmas.Slice.{take-put_mid}
use borrow.Rule.Slice.PartMut.{put_mid}
use Rattle.zim_fault.proofs.bytes.Inline.joined.Goals as goal

-- what is copied to the front and what is copied behind it
two_copied : {X : Type 0} (k : ℕ) (front more one other rest : List X) → one ≡ front → other ≡ more →
    take (length front + length more) (put_mid (length front) k (one ++ rest) other) ≡ front ++ more
two_copied k front more one other rest e f =
    rw (e, f)
    (take-put_mid (length front) k (front ++ rest) more _ refl (omega (arith, length-append front rest)) ∙ ap (λ it. it ++ more) (take_at front rest _ refl))

pub returns : goal.returns
returns c = two_copied _ c.args.front.now c.args.more.now _ _ _ c.copy_from_slice.ensures.after c.copy_from_slice-2.ensures.after
