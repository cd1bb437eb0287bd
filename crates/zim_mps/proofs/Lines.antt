-- The lines of a text that is put together from lines.
use Rattle.std.proofs.Common.{◌≡◌, ℕ, false, List, [], ◌∷◌, ◌++◌, map, refl, sym, ◌∙◌, ap, append_assoc, append-nil}
use Rattle.std.specs.List.{AllByRecursion, flat_map}
use Rattle.zim_fields.specs.Fields.{Field, IsField}
use Rattle.zim_fields.proofs.Cutting.{IsInLine, lines-line, spread_line, fields-spread, lines-spread}
use Rattle.zim_mps.specs.Sections.{Line, begins_with_blank, line_of, mps_lines, Section, parts}
use Rattle.zim_mps.specs.Sections.Line.{Heading, Fields}

-- A text gives lines, whatever follows.
pub record Gives (text : List ℕ) (ls : List Line) : Type 0 where
  pub cut : (rest : List ℕ) → mps_lines (text ++ rest) ≡ ls ++ mps_lines rest

pub Gives-nil : Gives [] []
Gives-nil = record { cut = λ rest. refl }

pub Gives-append : (a b : List ℕ) (ls ms : List Line) → Gives a ls → Gives b ms → Gives (a ++ b) (ls ++ ms)
Gives-append a b ls ms first second = record {
  cut = λ rest. ap mps_lines (append_assoc a b rest) ∙ first.cut (b ++ rest) ∙ ap (λ ns. ls ++ ns) (second.cut rest) ∙ sym (append_assoc ls ms (mps_lines rest));
}

-- a line of fields behind blanks
pub Gives-fields : (text : List ℕ) (f : Field) (fs : List Field) → text ≡ spread_line (f ∷ fs) → AllByRecursion IsField (f ∷ fs) → Gives text (Fields (f ∷ fs) ∷ [])
Gives-fields text f fs same all = record {
  cut = λ rest.
      ap (λ t. mps_lines (t ++ rest)) same
      ∙ ap (map line_of) (lines-spread (f ∷ fs) rest all)
      ∙ ap (λ gs. Fields gs ∷ mps_lines rest) (fields-spread (f ∷ fs) all);
}

-- a heading
pub Gives-heading : (heading : List ℕ) → IsInLine heading → begins_with_blank heading ≡ false → Gives (heading ++ 10 ∷ []) (Heading heading ∷ [])
Gives-heading heading h begins = record {
  cut = λ rest.
      ap mps_lines (append_assoc heading (10 ∷ []) rest)
      ∙ ap (map line_of) (lines-line heading rest h)
      ∙ rw begins refl;
}

-- lines for each member of a list
pub Gives-each : {X : Type 0} (text : X → List ℕ) (line : X → List Field) (xs : List X) → AllByRecursion (λ x. Gives (text x) (Fields (line x) ∷ [])) xs → Gives (flat_map text xs) (map Fields (map line xs))
Gives-each text line [] all = Gives-nil
Gives-each text line (x ∷ xs) all = Gives-append (text x) (flat_map text xs) (Fields (line x) ∷ []) (map Fields (map line xs)) all.0 (Gives-each text line xs all.1)

-- fields go before the first heading
pub parts-fields : (fs : List (List Field)) (ls : List Line) → parts (map Fields fs ++ ls) ≡ (fs ++ (parts ls).0, (parts ls).1)
parts-fields [] ls = refl
parts-fields (f ∷ fs) ls = ap (λ (p : List (List Field) × List Section). let more : List (List Field) × List Section = (f ∷ p.0, p.1) in more) (parts-fields fs ls)

-- a heading with fields up to the next one
pub parts-section : (heading next : List ℕ) (fs : List (List Field)) (ls : List Line) → parts (Heading heading ∷ (map Fields fs ++ (Heading next ∷ ls))) ≡ ([], record { heading = heading; lines = fs } ∷ (parts (Heading next ∷ ls)).1)
parts-section heading next fs ls =
    ap (λ (p : List (List Field) × List Section). let more : List (List Field) × List Section = ([], record { heading = heading; lines = p.0 } ∷ p.1) in more)
    (parts-fields fs (Heading next ∷ ls) ∙ ap (λ (gs : List (List Field)). let p : List (List Field) × List Section = (gs, (parts (Heading next ∷ ls)).1) in p) (append-nil fs))
