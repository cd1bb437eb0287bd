-- Going on never forgets a file that was opened, and a stop within an expansion is the stop of all of it.
use Rattle.std.proofs.Common.{◌≡◌, ℕ, zero, suc, ◌+◌, ◌-◌, Bool, true, false, List, [], ◌∷◌, ◌++◌, length, map, Option, Some, None, Result, Ok, Err, ◌⊎◌, inl, inr, refl, ap, sym, ◌∙◌, subst, arith, append_assoc}
use Rattle.std.specs.Prelude.{nat_lt, if◌then◌else◌}
use Rattle.std.specs.FinMap as finite
use Rattle.std.proofs.lemmas.Bool.Decides.{nat_tests}
use Rattle.std.proofs.lemmas.List.{append-nil}
use Rattle.zim_answer.specs.Answer.{Answer, ◌>>=◌, goes}
use Rattle.zim_answer.proofs.GoesLemmas.{goes-nil, goes-cons}
use Rattle.zim_fault.specs.declared.faults.Fault as faults
use Rattle.zim_fault.specs.declared.kinds.Kind.TheVariants.{LongFile}
use Rattle.zim_gate.specs.Folder.{HeldFiles}
use Rattle.zim_lex.specs.declared.expanding.Expansion.{Expansion}
use Rattle.zim_lex.specs.declared.expanding.Stop.{Stop}
use Rattle.zim_lex.specs.declared.expanding.Stop.TheVariants.{Fault, Read, Memory}
use Rattle.zim_lex.specs.declared.lines.Line.{Line}
use Rattle.zim_lex.specs.Includes.{included}
use Rattle.zim_lex.specs.Expanded.{Refusal, Missing, At, Including, taken_as, taken, with_text, with_held, opened, includes}
use Rattle.zim_lex.specs.Expanding.{IsTaken, IsTooLong, IsExpanded}
use Rattle.zim_lex.specs.Lines.{lines_of, line_of_byte, placed_lines}
use Rattle.zim_lex.specs.Opened.{ComeFirst}
use Rattle.zim_lex.specs.Unread.{names_by, MayBeUnread}

abbrev pub names : Answer Expansion Refusal → List (List ℕ)
names answer = names_by (λ all. all.files) answer

pub begins-refl : (front : List (List ℕ)) → ComeFirst front front
begins-refl front = record { rest = []; whole = append-nil front }

pub begins-more : (front more all : List (List ℕ)) → ComeFirst (front ++ more) all → ComeFirst front all
begins-more front more all b = record { rest = more ++ b.rest; whole = sym (append_assoc front more b.rest) ∙ b.whole }

pub begins-trans : (a b c : List (List ℕ)) → ComeFirst a b → ComeFirst b c → ComeFirst a c
begins-trans a b c one two =
    record { rest = one.rest ++ two.rest; whole = sym (append_assoc a one.rest two.rest) ∙ ap (λ (front : List (List ℕ)). front ++ two.rest) one.whole ∙ two.whole }

-- what goes on with more files keeps those that are there
abbrev pub Keeps : (Expansion → Answer Expansion Refusal) → Type 0
Keeps next = (so_far : Expansion) → ComeFirst so_far.files (names (next so_far))

bind_keeps : (answer : Answer Expansion Refusal) (next : Expansion → Answer Expansion Refusal) (front : List (List ℕ)) → ComeFirst front (names answer) → Keeps next → ComeFirst front (names (answer >>= next))
bind_keeps (Ok all) next front begins keeps = begins-trans front all.files (names (next all)) begins (keeps all)
bind_keeps (Err (Missing name files)) next front begins keeps = begins
bind_keeps (Err (At fault files)) next front begins keeps = begins

-- an include line keeps the files
abbrev pub KeepsAll : Including → Type 0
KeepsAll include = (so_far : Expansion) (line : Line) (name : List ℕ) → ComeFirst so_far.files (names (include so_far line name))

taken_keeps : (include : Including) → KeepsAll include → (line : Line) → Keeps (λ so_far. taken include so_far line)
taken_keeps include keeps line so_far = at (included line.bytes) where
  at : (found : Option (List ℕ)) → ComeFirst so_far.files (names (taken_as include so_far line found))
  at None = begins-refl so_far.files
  at (Some name) = keeps so_far line name

pub goes_keeps : (include : Including) → KeepsAll include → (lines : List Line) → Keeps (λ so_far. goes (taken include) so_far lines)
goes_keeps include keeps [] so_far = rw goes-nil (begins-refl so_far.files)
goes_keeps include keeps (line ∷ lines) so_far =
    subst (λ (a : Answer Expansion Refusal). ComeFirst so_far.files (names a)) (sym (goes-cons (taken include) so_far line lines))
    (bind_keeps (taken include so_far line) (λ next. goes (taken include) next lines) so_far.files (taken_keeps include keeps line so_far) (goes_keeps include keeps lines))

-- a file that is read stays among the files
text_keeps : (include : Including) → KeepsAll include → (so_far : Expansion) (name text : List ℕ) → ComeFirst (so_far.files ++ name ∷ []) (names (with_text include so_far name text))
text_keeps include keeps so_far name text = at (nat_lt so_far.room (length text)) where
  next : Expansion
  next = record { lines = so_far.lines; files = so_far.files ++ name ∷ []; room = so_far.room - length text }

  at : (long : Bool) → ComeFirst (so_far.files ++ name ∷ [])
      (names (if long then Err (At (record { place = record { file = length so_far.files; line = line_of_byte text so_far.room }; kind = LongFile }) (so_far.files ++ name ∷ []))
      else goes (taken include) (record { lines = so_far.lines; files = so_far.files ++ name ∷ []; room = so_far.room - length text }) (placed_lines (length so_far.files) 1 (lines_of text))))
  at true = begins-refl (so_far.files ++ name ∷ [])
  at false = goes_keeps include keeps (placed_lines (length so_far.files) 1 (lines_of text)) (record { lines = so_far.lines; files = so_far.files ++ name ∷ []; room = so_far.room - length text })

opened_keeps : (held : HeldFiles) (include : Including) → KeepsAll include → (name : List ℕ) → Keeps (λ so_far. opened held include so_far name)
opened_keeps held include keeps name so_far = at (finite.get held name) where
  at : (text : Option (List ℕ)) → ComeFirst so_far.files (names (with_held include so_far name text))
  at None = begins-refl so_far.files
  at (Some text) = begins-more so_far.files (name ∷ []) (names (with_text include so_far name text)) (text_keeps include keeps so_far name text)

pub includes_keep : (left : ℕ) (held : HeldFiles) → KeepsAll (includes left held)
unfolding includes
includes_keep zero held so_far line name = begins-refl so_far.files
includes_keep (suc left) held so_far line name = opened_keeps held (includes left held) (includes_keep left held) name so_far

-- a file that is held is among those that are opened where it is opened; so it may be unread where a count rose, and one that isn't held is missing
pub unread_here : (held : HeldFiles) (include : Including) (rose : Type 0) → KeepsAll include → (so_far : Expansion) (name : List ℕ) → (finite.get held name ≡ None) ⊎ rose → MayBeUnread (λ all. all.files) rose (opened held include so_far name) name
unread_here held include rose keeps so_far name why = at (finite.get held name) why where
  at : (text : Option (List ℕ)) → (text ≡ None) ⊎ rose → MayBeUnread (λ all. all.files) rose (with_held include so_far name text) name
  at None w = inl (record { files = so_far.files; met = refl })
  at (Some text) (inl none) = cc
  at (Some text) (inr r) = (let begins = text_keeps include keeps so_far name text in inr (r, record { before = so_far.files; after = begins.rest; whole = sym (append_assoc so_far.files (name ∷ []) begins.rest) ∙ begins.whole }))

-- going on changes neither
pub unread_later : (answer : Answer Expansion Refusal) (next : Expansion → Answer Expansion Refusal) (rose : Type 0) (name : List ℕ) → Keeps next → MayBeUnread (λ all. all.files) rose answer name → MayBeUnread (λ all. all.files) rose (answer >>= next) name
unread_later answer next rose name keeps (inl missing) = inl (record { files = missing.files; met = ap (λ (a : Answer Expansion Refusal). a >>= next) missing.met })
unread_later (Ok all) next rose name keeps (inr both) =
    let begins = keeps all in
    inr (
      both.0,
      record {
        before = both.1.before;
        after = both.1.after ++ begins.rest;
        whole = sym (append_assoc both.1.before (name ∷ both.1.after) begins.rest) ∙ ap (λ (front : List (List ℕ)). front ++ begins.rest) both.1.whole ∙ begins.whole;
      },
    )
unread_later (Err (Missing other files)) next rose name keeps (inr both) = inr both
unread_later (Err (At fault files)) next rose name keeps (inr both) = inr both

-- a fact that stands for a risen count may be another one that follows from it
pub unread_rose : {A : Type 0} (view : A → List (List ℕ)) (one two : Type 0) (answer : Result A Refusal) (name : List ℕ) → (one → two) → MayBeUnread view one answer name → MayBeUnread view two answer name
unread_rose view one two answer name follows (inl missing) = inl missing
unread_rose view one two answer name follows (inr both) = inr (follows both.0, both.1)

-- a stop at a line is the stop of all lines
pub stops_at : (include : Including) (one two : Type 0) (so_far new : Expansion) (line : Line) (lines : List Line) (whole : Answer Expansion Refusal) (stop : Stop) → KeepsAll include → (one → two)
    → goes (taken include) so_far (line ∷ lines) ≡ whole → IsExpanded (taken include so_far line) one new (Err stop) → IsExpanded whole two new (Err stop)
stops_at include one two so_far new line lines whole (Fault fault) keeps follows all here =
    sym all ∙ goes-cons (taken include) so_far line lines ∙ ap (λ (a : Answer Expansion Refusal). a >>= λ next. goes (taken include) next lines) here
stops_at include one two so_far new line lines whole (Read name) keeps follows all here =
    subst (λ (a : Answer Expansion Refusal). MayBeUnread (λ v. v.files) two a name) (sym (goes-cons (taken include) so_far line lines) ∙ all)
    (unread_later (taken include so_far line) (λ next. goes (taken include) next lines) two name (goes_keeps include keeps lines) (unread_rose (λ v. v.files) one two (taken include so_far line) name follows here))
stops_at include one two so_far new line lines whole Memory keeps follows all here = tt

-- a line that is taken leaves the others
pub goes_on : (include : Including) (so_far new : Expansion) (line : Line) (lines : List Line) (whole : Answer Expansion Refusal) → goes (taken include) so_far (line ∷ lines) ≡ whole → taken include so_far line ≡ Ok new → goes (taken include) new lines ≡ whole
goes_on include so_far new line lines whole all here =
    sym (ap (λ (a : Answer Expansion Refusal). a >>= λ next. goes (taken include) next lines) here) ∙ sym (goes-cons (taken include) so_far line lines) ∙ all

-- a line in another file
abbrev pub moved : ℕ → Line → Line
moved file line = record { place = record { file = file; line = line.place.line }; bytes = line.bytes }

moved_lines : (file n : ℕ) (parts : List (List ℕ)) → map (moved file) (placed_lines 0 n parts) ≡ placed_lines file n parts
moved_lines file n [] = refl
moved_lines file n (part ∷ parts) = ap (λ (lines : List Line). record { place = record { file = file; line = n }; bytes = part } ∷ lines) (moved_lines file (n + 1) parts)

same_expansion : (a b : Expansion) → a.lines ≡ b.lines → a.files ≡ b.files → a.room ≡ b.room → a ≡ b
same_expansion a b lines files room =
    ap (λ (x : List Line). record { lines = x; files = a.files; room = a.room }) lines
    ∙ ap (λ (x : List (List ℕ)). record { lines = b.lines; files = x; room = a.room }) files
    ∙ ap (λ (x : ℕ). record { lines = b.lines; files = b.files; room = x }) room

-- the lines of a file that was read are what is left of it
pub file_taken : (held : HeldFiles) (include : Including) (old new : Expansion) (name text : List ℕ) (lines : List Line) → finite.get held name ≡ Some text → IsTaken old new name text lines → new.lines ≡ old.lines → new.files ≡ old.files ++ name ∷ []
    → goes (taken include) new (map (moved (length old.files)) lines) ≡ opened held include old name
file_taken held include old new name text lines is taken_is same_lines same_files =
    let short : nat_lt old.room (length text) ≡ false = grind (arith, nat_tests, taken_is.room) in
    let left : new.room ≡ old.room - length text = omega (arith, taken_is.room) in
    let all : map (moved (length old.files)) lines ≡ placed_lines (length old.files) 1 (lines_of text) = ap (map (moved (length old.files))) taken_is.lines_are ∙ moved_lines (length old.files) 1 (lines_of text) in
    let made : Expansion = record { lines = old.lines; files = old.files ++ name ∷ []; room = old.room - length text } in
    let start : new ≡ made = same_expansion new made same_lines same_files left in
    ap (λ (e : Expansion). goes (taken include) e (map (moved (length old.files)) lines)) start
    ∙ ap (goes (taken include) made) all
    ∙ sym (ap (with_held include old name) is ∙ rw short refl)

-- a file that is too long
pub file_long : (held : HeldFiles) (include : Including) (old new : Expansion) (name text : List ℕ) (fault : faults.Fault) → finite.get held name ≡ Some text → IsTooLong old text fault → new.files ≡ old.files ++ name ∷ []
    → opened held include old name ≡ Err (At fault new.files)
file_long held include old new name text fault is long same_files =
    let past : nat_lt old.room (length text) ≡ true = grind (arith, nat_tests, long.long) in
    ap (with_held include old name) is ∙ rw past (ap (λ (f : faults.Fault). Err (At f (old.files ++ name ∷ []))) (sym long.met)) ∙ ap (λ (files : List (List ℕ)). Err (At fault files)) (sym same_files)
