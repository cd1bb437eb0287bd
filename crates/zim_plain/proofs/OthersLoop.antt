-- The items behind others are read one after another.
use Rattle.std.proofs.Common.{ℕ, ◌≡◌, ◌<◌, ◌≤◌, ◌+◌, List, [], ◌∷◌, ◌++◌, map, length, drop, get_or, Option, Some, None, refl, sym, ap, ◌∙◌, append_assoc, append-nil}
use Rattle.std.proofs.lemmas.List.{map-append}
use Rattle.zim_fault.specs.declared.faults.Place.{Place}
use Rattle.zim_fault.specs.declared.tokens.Token.{Token}
use Rattle.zim_tree.specs.declared.expr.Expr.{Expr}
use Rattle.zim_tree.specs.Levels.{Operands}
use Rattle.zim_plain.specs.declared.statement.Further as code
use Rattle.zim_plain.specs.Reader.{further_of}
use Rattle.zim_plain.specs.Reading.{◌>>=◌, read_further, read_others}
use Rattle.zim_plain.specs.Statements.{Further}
use Rattle.zim_plain.proofs.SuitLaws.{drop_item, drop_end}

-- some items, if others behind them are read
abbrev pub behind : List Further → Option (List Further) → Option (List Further)
behind read rest = rest >>= (λ (fs : List Further). Some (read ++ fs))

-- the items so far are read, and the rest is left
abbrev pub IsReadAsFar : Operands → ℕ → List code.Further → Type 0
IsReadAsFar all i read = read_others all ≡ behind (map further_of read) (read_others (drop i all))

behind_none : (rest : Option (List Further)) → rest ≡ behind [] rest
behind_none None = refl
behind_none (Some fs) = refl

behind_more : (read : List Further) (further : Further) (rest : Option (List Further)) → behind read (rest >>= (λ (fs : List Further). Some (further ∷ fs))) ≡ behind (read ++ further ∷ []) rest
behind_more read further None = refl
behind_more read further (Some fs) = ap (λ (xs : List Further). Some xs) (sym (append_assoc read (further ∷ []) fs))

pub others_start : (all : Operands) (read : List code.Further) → read ≡ [] → IsReadAsFar all 0 read
others_start all read e = behind_none (read_others all) ∙ ap (λ (fs : List code.Further). behind (map further_of fs) (read_others all)) (sym e)

pub others_step : (all : Operands) (i : ℕ) (x : Place × Token × Expr) (further : code.Further) (old new : List code.Further) → IsReadAsFar all i old → i < length all → get_or all i x ≡ x → read_further x ≡ Some (further_of further) → new ≡ old ++ further ∷ [] → IsReadAsFar all (i + 1) new
unfolding read_others
others_step all i x further old new far l e read pushed =
    far ∙ ap (λ (xs : Operands). behind (map further_of old) (read_others xs)) (drop_item all i x l e)
    ∙ ap (λ (o : Option Further). behind (map further_of old) (o >>= (λ (f : Further). read_others (drop (i + 1) all) >>= (λ (fs : List Further). Some (f ∷ fs))))) read
    ∙ behind_more (map further_of old) (further_of further) (read_others (drop (i + 1) all))
    ∙ ap (λ (fs : List Further). behind fs (read_others (drop (i + 1) all))) (sym (ap (map further_of) pushed ∙ map-append further_of old (further ∷ [])))

pub others_stop : (all : Operands) (i : ℕ) (x : Place × Token × Expr) (read : List code.Further) → IsReadAsFar all i read → i < length all → get_or all i x ≡ x → read_further x ≡ None → read_others all ≡ None
unfolding read_others
others_stop all i x read far l e none =
    far ∙ ap (λ (xs : Operands). behind (map further_of read) (read_others xs)) (drop_item all i x l e)
    ∙ ap (λ (o : Option Further). behind (map further_of read) (o >>= (λ (f : Further). read_others (drop (i + 1) all) >>= (λ (fs : List Further). Some (f ∷ fs))))) none

pub others_end : (all : Operands) (i : ℕ) (read : List code.Further) → IsReadAsFar all i read → length all ≤ i → read_others all ≡ Some (map further_of read)
unfolding read_others
others_end all i read far l =
    far ∙ ap (λ (xs : Operands). behind (map further_of read) (read_others xs)) (drop_end all i l)
    ∙ ap (λ (fs : List Further). Some fs) (append-nil (map further_of read))
