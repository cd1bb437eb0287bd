-- Cutting a line from left to right gives its one list of pieces, each as long as it can be, and stops exactly where a byte begins none.
use Rattle.std.proofs.Common.{◌≡◌, ℕ, zero, suc, ◌+◌, ◌-◌, ◌≤◌, ◌<◌, true, false, List, [], ◌∷◌, ◌++◌, length, take, drop, get_or, Option, Some, None, Ok, Err, ◌⊎◌, inl, inr, refl, ap, sym, ◌∙◌, subst, arith, length-append, length-drop}
use Rattle.std.proofs.Math.Seq.{take-add, take-append-add, take-append_seam, drop-append_seam}
use Rattle.std.proofs.lemmas.List.{take-append-drop, take_all}
use Rattle.zim_answer.specs.Answer.{Answer, ◌>>=◌}
use Rattle.zim_answer.proofs.BindLemmas.{bind_gave, bind_failed}
use Rattle.zim_fault.specs.declared.kinds.Kind.{Kind}
use Rattle.zim_lex.specs.Pieces.{is_piece}
use Rattle.zim_lex.specs.Cut.{pieces_joined, IsLongest, AreLongest, IsCut, IsStuck, stuck_at, longest, or_stuck, cut_up_to, cut}
use Rattle.zim_lex.proofs.PieceLemmas.{is_piece-nil}
use Rattle.zim_lex.proofs.LongestLemmas.{IsLongestFront, fronts_at, none_at, longest_at, longest_none}

-- what the longest piece at the front is
pub front_of : (bytes : List ℕ) (n : ℕ) → longest bytes ≡ Some n → IsLongestFront bytes (length bytes) n
unfolding longest
front_of bytes n h = fronts_at (length bytes) bytes n h

pub no_front_of : (bytes : List ℕ) → longest bytes ≡ None → (m : ℕ) → m ≤ length bytes → is_piece (take m bytes) ≡ false
unfolding longest
no_front_of bytes h = none_at (length bytes) bytes h

-- one turn of the cut
cut_up_to-turn : (most : ℕ) (b : ℕ) (bs : List ℕ) → cut_up_to (suc most) (b ∷ bs) ≡ (or_stuck b (longest (b ∷ bs)) >>= λ n. cut_up_to most (drop n (b ∷ bs)) >>= λ others. Ok (take n (b ∷ bs) ∷ others))
unfolding cut_up_to
cut_up_to-turn most b bs = refl

cut_up_to-nil : (most : ℕ) → cut_up_to most [] ≡ Ok []
unfolding cut_up_to
cut_up_to-nil most = refl

-- going on after a length is found
after_found : {B : Type 0} (b : ℕ) (found : Option ℕ) (f g : ℕ → Answer B Kind) → ((n : ℕ) → found ≡ Some n → f n ≡ g n) → (or_stuck b found >>= f) ≡ (or_stuck b found >>= g)
after_found b (Some n) f g same = same n refl
after_found b None f g same = refl

-- turns to spare change nothing
enough_turns : (t u : ℕ) (bytes : List ℕ) → length bytes ≤ t → length bytes ≤ u → cut_up_to t bytes ≡ cut_up_to u bytes
enough_turns t u [] few many = cut_up_to-nil t ∙ sym (cut_up_to-nil u)
enough_turns zero u (b ∷ bs) few many = absurd (omega arith)
enough_turns (suc t) zero (b ∷ bs) few many = absurd (omega arith)
enough_turns (suc t) (suc u) (b ∷ bs) few many =
    cut_up_to-turn t b bs
    ∙ after_found b (longest (b ∷ bs)) _ _ (λ n found.
    let front = front_of (b ∷ bs) n found in
    let shorter : length (drop n (b ∷ bs)) ≤ length bs = rw length-drop (omega (arith, front.some)) in
    ap (λ (a : Answer (List (List ℕ)) Kind). a >>= λ others. Ok (take n (b ∷ bs) ∷ others)) (enough_turns t u (drop n (b ∷ bs)) (omega arith) (omega arith)))
    ∙ sym (cut_up_to-turn u b bs)

pub cut-nil : cut [] ≡ Ok []
unfolding cut cut_up_to
cut-nil = refl

-- a line is cut at its longest first piece
pub cut-turn : (bytes : List ℕ) (n : ℕ) → longest bytes ≡ Some n → cut bytes ≡ (cut (drop n bytes) >>= λ others. Ok (take n bytes ∷ others))
unfolding cut
cut-turn [] n found = let front = front_of [] n found in absurd (omega (arith, front.some, front.within))
cut-turn (b ∷ bs) n found =
    let front = front_of (b ∷ bs) n found in
    let shorter : length (drop n (b ∷ bs)) ≤ length bs = rw length-drop (omega (arith, front.some)) in
    cut_up_to-turn (length bs) b bs
    ∙ rw found (ap (λ (a : Answer (List (List ℕ)) Kind). a >>= λ others. Ok (take n (b ∷ bs) ∷ others)) (enough_turns (length bs) (length (drop n (b ∷ bs))) (drop n (b ∷ bs)) shorter (omega arith)))

-- and stops where no piece begins
pub cut-stuck : (bytes : List ℕ) → 0 < length bytes → longest bytes ≡ None → cut bytes ≡ Err (stuck_at (get_or bytes 0 0))
unfolding cut
cut-stuck [] some none = absurd (omega arith)
cut-stuck (b ∷ bs) some none = cut_up_to-turn (length bs) b bs ∙ rw none refl

-- the longest front, as a piece before the rest
longest_piece : (bytes : List ℕ) (n : ℕ) → longest bytes ≡ Some n → IsLongest (take n bytes) (drop n bytes)
longest_piece bytes n found =
    let front = front_of bytes n found in record {
      is = front.is;
      longest = λ m some within.
          (let fits : n + m ≤ length bytes = fits_in bytes n m front.within within in
          ap is_piece (sym (take-add n m bytes)) ∙ front.longer (n + m) (omega arith) fits);
    }
  where
    fits_in : (bs : List ℕ) (k m : ℕ) → k ≤ length bs → m ≤ length (drop k bs) → k + m ≤ length bs
    fits_in bs k m low high = (let h : m ≤ length bs - k = simp length-drop at high in omega arith)

-- and back: a piece that can be no longer is the longest front
found_again : (piece after : List ℕ) → IsLongest piece after → longest (piece ++ after) ≡ Some (length piece)
unfolding longest
found_again piece after long =
    let whole : is_piece (take (length piece) (piece ++ after)) ≡ true = rw (take-append_seam piece after) long.is in
    longest_at (length (piece ++ after)) (length piece) (piece ++ after) (not_nothing piece long.is) (omega (arith, length-append piece after)) whole (λ m low high.
    let more : length piece + (m - length piece) ≡ m = omega arith in
    let longer : take m (piece ++ after) ≡ piece ++ take (m - length piece) after =
    subst (λ (k : ℕ). take k (piece ++ after) ≡ piece ++ take (m - length piece) after) more (take-append-add piece after (m - length piece)) in
    ap is_piece longer ∙ long.longest (m - length piece) (omega arith) (omega (arith, length-append piece after)))
  where
    not_nothing : (text : List ℕ) → is_piece text ≡ true → 0 < length text
    not_nothing [] h = (let none : is_piece [] ≡ false = is_piece-nil in cc)
    not_nothing (b ∷ bs) h = omega arith

-- the cut goes over one piece that can be no longer
cut-piece : (piece after : List ℕ) → IsLongest piece after → cut (piece ++ after) ≡ (cut after >>= λ others. Ok (piece ∷ others))
cut-piece piece after long =
    let front : take (length piece) (piece ++ after) ≡ piece = take-append_seam piece after in
    let rest : drop (length piece) (piece ++ after) ≡ after = drop-append_seam piece after in
    cut-turn (piece ++ after) (length piece) (found_again piece after long) ∙ rw (front, rest) refl

found_from : (b : ℕ) (o : Option ℕ) (n : ℕ) → or_stuck b o ≡ Ok n → o ≡ Some n
found_from b (Some m) n h = (let e : m ≡ n = cc in cc)
found_from b None n h = cc

none_from : (b : ℕ) (o : Option ℕ) (kind : Kind) → or_stuck b o ≡ Err kind → (o ≡ None) × (stuck_at b ≡ kind)
none_from b (Some m) kind h = cc
none_from b None kind h = (refl, cc)

shorter : (bytes : List ℕ) (most n : ℕ) → longest bytes ≡ Some n → length bytes ≤ suc most → length (drop n bytes) ≤ most
shorter bytes most n found few = let front = front_of bytes n found in rw length-drop (omega (arith, front.some))

-- the longest front and the pieces of the rest
more_pieces : (bytes : List ℕ) (n : ℕ) (others : List (List ℕ)) → longest bytes ≡ Some n → IsCut (drop n bytes) others → IsCut bytes (take n bytes ∷ others)
more_pieces bytes n others found rest = record {
  spelled = ap (λ (after : List ℕ). take n bytes ++ after) rest.spelled ∙ take-append-drop n bytes;
  longest = (subst (IsLongest (take n bytes)) (sym rest.spelled) (longest_piece bytes n found), rest.longest);
}

-- what is cut is the line's pieces
cut_up_to_is : (most : ℕ) (bytes : List ℕ) (pieces : List (List ℕ)) → length bytes ≤ most → cut_up_to most bytes ≡ Ok pieces → IsCut bytes pieces
cut_up_to_is most [] pieces few h =
    let same : [] ≡ pieces = (let e : Ok [] ≡ Ok pieces = sym (cut_up_to-nil most) ∙ h in cc) in
    subst (IsCut []) same (record { spelled = refl; longest = tt })
cut_up_to_is zero (b ∷ bs) pieces few h = absurd (omega arith)
cut_up_to_is (suc most) (b ∷ bs) pieces few h =
    let (n, is_n, after) = bind_gave (or_stuck b (longest (b ∷ bs))) _ pieces (sym (cut_up_to-turn most b bs) ∙ h) in
    let (others, rest, made) = bind_gave (cut_up_to most (drop n (b ∷ bs))) _ pieces after in
    let found : longest (b ∷ bs) ≡ Some n = found_from b (longest (b ∷ bs)) n is_n in
    let same : take n (b ∷ bs) ∷ others ≡ pieces = cc in
    subst (IsCut (b ∷ bs)) same (more_pieces (b ∷ bs) n others found (cut_up_to_is most (drop n (b ∷ bs)) others (shorter (b ∷ bs) most n found few) rest))

pub cut_is : (line : List ℕ) (pieces : List (List ℕ)) → cut line ≡ Ok pieces → IsCut line pieces
unfolding cut
cut_is line pieces h = cut_up_to_is (length line) line pieces (omega arith) h

-- and the line's pieces are what is cut
pub is_cut : (pieces : List (List ℕ)) (line : List ℕ) → IsCut line pieces → cut line ≡ Ok pieces
is_cut [] line whole = ap cut (sym whole.spelled) ∙ cut-nil
is_cut (piece ∷ pieces) line whole =
    let rest : IsCut (pieces_joined pieces []) pieces = record { spelled = refl; longest = whole.longest.1 } in
    ap cut (sym whole.spelled) ∙ cut-piece piece (pieces_joined pieces []) whole.longest.0 ∙ rw (is_cut pieces (pieces_joined pieces []) rest) refl

-- a line has at most one list of pieces
pub one_cut : (line : List ℕ) (first second : List (List ℕ)) → IsCut line first → IsCut line second → first ≡ second
one_cut line first second one other = let both : Ok first ≡ Ok second = sym (is_cut first line one) ∙ is_cut second line other in cc

-- the longest front, before a rest that is stuck
more_stuck : (bytes : List ℕ) (n : ℕ) (kind : Kind) → longest bytes ≡ Some n → IsStuck (drop n bytes) kind → IsStuck bytes kind
more_stuck bytes n kind found rest = record {
  pieces = take n bytes ∷ rest.pieces;
  byte = rest.byte;
  after = rest.after;
  spelled = ap (λ (after : List ℕ). take n bytes ++ after) rest.spelled ∙ take-append-drop n bytes;
  longest = (subst (IsLongest (take n bytes)) (sym rest.spelled) (longest_piece bytes n found), rest.longest);
  begins_none = rest.begins_none;
  met = rest.met;
}

either_way : (n k : ℕ) → (n ≤ k) ⊎ (k ≤ n)
either_way zero k = inl (omega arith)
either_way (suc n) zero = inr (omega arith)
either_way (suc n) (suc k) = elim (either_way n k) [ inl low ↦ inl (omega arith) | inr high ↦ inr (omega arith) ]

-- where no front is a piece
stuck_here : (b : ℕ) (bs : List ℕ) (kind : Kind) → longest (b ∷ bs) ≡ None → stuck_at b ≡ kind → IsStuck (b ∷ bs) kind
stuck_here b bs kind none met = record {
  pieces = [];
  byte = b;
  after = bs;
  spelled = refl;
  longest = tt;
  begins_none = λ n. elim (either_way n (length (b ∷ bs))) [
    | inl within ↦ no_front_of (b ∷ bs) none n within
    | inr past ↦ ap is_piece (take_all n (b ∷ bs) past ∙ sym (take_all (length (b ∷ bs)) (b ∷ bs) (omega arith))) ∙ no_front_of (b ∷ bs) none (length (b ∷ bs)) (omega arith)
  ];
  met = met;
}

-- the cut fails only where the line is stuck
cut_up_to_fails : (most : ℕ) (bytes : List ℕ) (kind : Kind) → length bytes ≤ most → cut_up_to most bytes ≡ Err kind → IsStuck bytes kind
cut_up_to_fails most [] kind few h = let e : Ok [] ≡ Err kind = sym (cut_up_to-nil most) ∙ h in cc
cut_up_to_fails zero (b ∷ bs) kind few h = absurd (omega arith)
cut_up_to_fails (suc most) (b ∷ bs) kind few h =
    elim (bind_failed (or_stuck b (longest (b ∷ bs))) _ kind (sym (cut_up_to-turn most b bs) ∙ h)) [
      | inl here ↦ (let none = none_from b (longest (b ∷ bs)) kind here in stuck_here b bs kind none.0 none.1)
      | inr later ↦ (let (n, is_n, after) = later in
          let found : longest (b ∷ bs) ≡ Some n = found_from b (longest (b ∷ bs)) n is_n in
          elim (bind_failed (cut_up_to most (drop n (b ∷ bs))) _ kind after) [
            | inl there ↦ more_stuck (b ∷ bs) n kind found (cut_up_to_fails most (drop n (b ∷ bs)) kind (shorter (b ∷ bs) most n found few) there)
            | inr never ↦ (let (others, gave, e) = never in cc)
          ])
    ]

pub cut_fails : (line : List ℕ) (kind : Kind) → cut line ≡ Err kind → IsStuck line kind
unfolding cut
cut_fails line kind h = cut_up_to_fails (length line) line kind (omega arith) h

-- and always there
stuck_after : (pieces : List (List ℕ)) (b : ℕ) (bs : List ℕ) → AreLongest pieces (b ∷ bs) → ((n : ℕ) → is_piece (take n (b ∷ bs)) ≡ false) → cut (pieces_joined pieces (b ∷ bs)) ≡ Err (stuck_at b)
unfolding longest
stuck_after [] b bs all none = cut-stuck (b ∷ bs) (omega arith) (longest_none (length (b ∷ bs)) (b ∷ bs) (λ m _ _. none m))
stuck_after (piece ∷ pieces) b bs all none = cut-piece piece (pieces_joined pieces (b ∷ bs)) all.0 ∙ rw (stuck_after pieces b bs all.1 none) refl

pub is_stuck : (line : List ℕ) (kind : Kind) → IsStuck line kind → cut line ≡ Err kind
is_stuck line kind stuck = ap cut (sym stuck.spelled) ∙ stuck_after stuck.pieces stuck.byte stuck.after stuck.longest stuck.begins_none ∙ ap Err stuck.met
