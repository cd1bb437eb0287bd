-- What files in memory hold by name, file by file.
use Rattle.std.proofs.Common.{◌≡◌, ℕ, suc, ◌+◌, ◌<◌, ◌≤◌, Bool, true, false, cond, List, ◌∷◌, length, drop, get_or, None, Some, nat_eq, sym, ap, ◌∙◌, add-one}
use Rattle.std.proofs.Math.Seq.{drop-cons}
use Rattle.std.proofs.Math.ListN.{drop_of_length-le}
use Rattle.std.specs.Ordering.{nat_cmp}
use Rattle.std.proofs.lemmas.Cmp.{eq_by_cmp_equiv}
use Rattle.std.specs.Cmp.Lexicographic.{pointwise, slice_cmp, nat_list_cmp_total, texts_ties}
use Rattle.std.specs.FinMap as finite
use Rattle.zim_gate.specs.declared.stored.Stored.{Stored}
use Rattle.zim_gate.specs.Stored.{files_of}

-- the first file has the name, or the others tell
first_or_others : (file : Stored) (files : List Stored) (name : List ℕ) →
    finite.get (files_of (file ∷ files)) name ≡ cond (pointwise nat_eq file.name name) (Some file.content.bytes) (finite.get (files_of files) name)
first_or_others file files name =
    finite.get-insert nat_list_cmp_total (files_of files) file.name file.content.bytes name
    ∙ ap (λ b. cond b (Some file.content.bytes) (finite.get (files_of files) name))
    ((eq_by_cmp_equiv nat_list_cmp_total).symm name file.name ∙ sym (texts_ties file.name name))

-- the same of the files from a place on
pub found_from : (files : List Stored) (i : ℕ) (file : Stored) (name : List ℕ) → i < length files → file ≡ get_or files i file →
    finite.get (files_of (drop i files)) name ≡ cond (pointwise nat_eq file.name name) (Some file.content.bytes) (finite.get (files_of (drop (i + 1) files)) name)
found_from files i file name within is =
    ap (λ l. finite.get (files_of l) name) (drop-cons files i file within ∙ ap (λ f. f ∷ drop (suc i) files) (sym is))
    ∙ first_or_others file (drop (suc i) files) name
    ∙ ap (λ k. cond (pointwise nat_eq file.name name) (Some file.content.bytes) (finite.get (files_of (drop k files)) name)) (sym (add-one i))

-- whether a name that is shown is that of the file at a place
told_there : (files : List Stored) (i : ℕ) (file : Stored) (name shown : List ℕ) (r : Bool) → i < length files → file ≡ get_or files i file →
    shown ≡ file.name → r ≡ pointwise nat_eq shown name →
    finite.get (files_of (drop i files)) name ≡ cond r (Some file.content.bytes) (finite.get (files_of (drop (i + 1) files)) name)
told_there files i file name shown r within is same test =
    found_from files i file name within is
    ∙ ap (λ b. cond b (Some file.content.bytes) (finite.get (files_of (drop (i + 1) files)) name)) (sym (test ∙ ap (λ s. pointwise nat_eq s name) same))

-- where the file at a place has another name, the files behind it tell
pub not_there : (files : List Stored) (i : ℕ) (file : Stored) (name shown : List ℕ) (r : Bool) →
    finite.get (files_of files) name ≡ finite.get (files_of (drop i files)) name → i < length files → file ≡ get_or files i file →
    shown ≡ file.name → r ≡ pointwise nat_eq shown name → r ≡ false →
    finite.get (files_of files) name ≡ finite.get (files_of (drop (i + 1) files)) name
not_there files i file name shown r so_far within is same test differs =
    so_far ∙ told_there files i file name shown r within is same test
    ∙ ap (λ b. cond b (Some file.content.bytes) (finite.get (files_of (drop (i + 1) files)) name)) differs

-- where the file at a place has the name and none before it has, it is what is held
pub is_there : (files : List Stored) (i : ℕ) (file : Stored) (name shown bytes : List ℕ) (r : Bool) →
    finite.get (files_of files) name ≡ finite.get (files_of (drop i files)) name → i < length files → file ≡ get_or files i file →
    shown ≡ file.name → r ≡ pointwise nat_eq shown name → r ≡ true → bytes ≡ file.content.bytes →
    Some bytes ≡ finite.get (files_of files) name
is_there files i file name shown bytes r so_far within is same test equal got =
    ap Some got ∙ sym (so_far ∙ told_there files i file name shown r within is same test
    ∙ ap (λ b. cond b (Some file.content.bytes) (finite.get (files_of (drop (i + 1) files)) name)) equal)

-- where no file has the name, it isn't held
pub nowhere : (files : List Stored) (i : ℕ) (name : List ℕ) →
    finite.get (files_of files) name ≡ finite.get (files_of (drop i files)) name → length files ≤ i → None ≡ finite.get (files_of files) name
nowhere files i name so_far past =
    sym (so_far ∙ ap (λ l. finite.get (files_of l) name) (drop_of_length-le files past) ∙ finite.get-empty (slice_cmp nat_cmp) name)
