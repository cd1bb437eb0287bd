-- The lines of a table that is put together from lines.
use Rattle.std.proofs.Common.{◌≡◌, ℕ, List, [], ◌∷◌, ◌++◌, map, refl, sym, ◌∙◌, ap, append_assoc}
use Rattle.std.specs.List.{AllByRecursion, flat_map}
use Rattle.zim_fields.specs.Fields.{Field, lines, fields, IsField}
use Rattle.zim_fields.proofs.Cutting.{spread_line, fields-first, lines-first}

-- A text gives lines of fields, whatever follows.
pub record Gives (text : List ℕ) (ls : List (List Field)) : Type 0 where
  pub cut : (rest : List ℕ) → map fields (lines (text ++ rest)) ≡ ls ++ map fields (lines rest)

pub Gives-nil : Gives [] []
Gives-nil = record { cut = λ rest. refl }

pub Gives-append : (a b : List ℕ) (ls ms : List (List Field)) → Gives a ls → Gives b ms → Gives (a ++ b) (ls ++ ms)
Gives-append a b ls ms first second = record {
  cut = λ rest.
      ap (λ t. map fields (lines t)) (append_assoc a b rest)
      ∙ first.cut (b ++ rest)
      ∙ ap (λ ns. ls ++ ns) (second.cut rest)
      ∙ sym (append_assoc ls ms (map fields (lines rest)));
}

-- a line of a field and others behind blanks
pub Gives-line : (text : List ℕ) (f : Field) (fs : List Field) → text ≡ f ++ spread_line fs → IsField f → AllByRecursion IsField fs → Gives text ((f ∷ fs) ∷ [])
Gives-line text f fs same is all = record {
  cut = λ rest.
      ap (λ t. map fields (lines (t ++ rest))) same
      ∙ ap (map fields) (lines-first f fs rest is all)
      ∙ ap (λ gs. gs ∷ map fields (lines rest)) (fields-first f fs is all);
}

-- a line for each member of a list
pub Gives-each : {X : Type 0} (text : X → List ℕ) (line : X → List Field) (xs : List X) → AllByRecursion (λ x. Gives (text x) (line x ∷ [])) xs → Gives (flat_map text xs) (map line xs)
Gives-each text line [] all = Gives-nil
Gives-each text line (x ∷ xs) all = Gives-append (text x) (flat_map text xs) (line x ∷ []) (map line xs) all.0 (Gives-each text line xs all.1)

-- lines for each member of a list
pub Gives-flat : {X : Type 0} (text : X → List ℕ) (ls : X → List (List Field)) (xs : List X) → AllByRecursion (λ x. Gives (text x) (ls x)) xs → Gives (flat_map text xs) (flat_map ls xs)
Gives-flat text ls [] all = Gives-nil
Gives-flat text ls (x ∷ xs) all = Gives-append (text x) (flat_map text xs) (ls x) (flat_map ls xs) all.0 (Gives-flat text ls xs all.1)
