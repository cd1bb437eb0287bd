-- The words of the texts of terms, rows, bounds and integer columns.
use Rattle.std.proofs.Common.{ℕ, ◌+◌, ◌%◌, Bool, true, false, cond, List, [], ◌∷◌, ◌++◌, Option, Some, None, refl}
use Rattle.std.specs.Prelude.{◌==◌, codes, flat_map}
use Rattle.std.specs.List.{AllByRecursion}
use Rattle.zim_rows.specs.declared.rows.Sense.{Sense}
use Rattle.zim_rows.specs.declared.rows.Sense.TheVariants.{AtLeast, AtMost, Equal}
use Rattle.zim_lp.specs.Words.{Word}
use Rattle.zim_lp.specs.FileText.{WrittenNumber, WrittenTerm, WrittenRow, WrittenColumn, number_text, first_term_text, break_text, sign_text, further_term_text, numbered_text, terms_text, sense_text, row_text, ends_text, bound_text, general_text}
use Rattle.zim_lp.proofs.Cutting.{IsWord, Closed, Open, Further, Open-word, Closed-Closed, Closed-Open, Open-Further, Open-Closed, Further-Further, Further-nil, Further-Open}
use Rattle.zim_lp.proofs.Numbers.{number_word}
use Rattle.zim_lp.proofs.Readable.{number_said, IsReadableNumber, IsReadableTerm, AreReadableTerms, IsReadableRow, IsReadableEnd, IsReadableColumn}

-- the sign of a further term
abbrev pub sign_word : Bool → Word
sign_word negative = cond negative (codes "-") (codes "+")

-- the words of a first term, and of a further one
abbrev pub first_term_words : WrittenTerm → List Word
first_term_words t = number_text t.number ∷ t.name ∷ []

abbrev pub behind_sign : WrittenTerm → List Word
behind_sign t = t.number.absolute ∷ t.name ∷ []

abbrev pub further_terms_words : List WrittenTerm → List Word
further_terms_words ts = flat_map (λ (t : WrittenTerm). sign_word t.number.negative ∷ behind_sign t) ts

-- the words of a list of terms
abbrev pub terms_words : List WrittenTerm → List Word
terms_words [] = []
terms_words (t ∷ ts) = first_term_words t ++ further_terms_words ts

space_closed : Closed (32 ∷ []) []
space_closed = record { cut = λ rest. refl }

line_end_closed : Closed (10 ∷ []) []
line_end_closed = record { cut = λ rest. refl }

-- a blank and a word
spaced_word : (w : List ℕ) → IsWord w → Further (32 ∷ w) (w ∷ [])
spaced_word w word = Further-Open 32 w (w ∷ []) refl (Closed-Open (32 ∷ []) w [] (w ∷ []) space_closed (Open-word w word))

-- a number is a word
readable_word : (n : WrittenNumber) → IsReadableNumber n → IsWord (number_text n)
readable_word n is = number_word n (number_said n) is

first_term_open : (t : WrittenTerm) → IsReadableTerm t → Open (first_term_text t) (first_term_words t)
first_term_open t is =
    Open-Further
    (number_text t.number)
    (32 ∷ t.name)
    (number_text t.number ∷ [])
    (t.name ∷ [])
    (Open-word (number_text t.number) (readable_word t.number is.number))
    (spaced_word t.name is.name.word)

signed_further : (negative : Bool) (text : List ℕ) (ws : List Word) → Open text ws → Further (sign_text negative ++ text) (sign_word negative ∷ ws)
signed_further true text ws is =
    Further-Open 32 (45 ∷ 32 ∷ text) (codes "-" ∷ ws) refl (Closed-Open (codes " - ") text (codes "-" ∷ []) ws (record { cut = λ rest. refl }) is)
signed_further false text ws is =
    Further-Open 32 (43 ∷ 32 ∷ text) (codes "+" ∷ ws) refl (Closed-Open (codes " + ") text (codes "+" ∷ []) ws (record { cut = λ rest. refl }) is)

break_further : (before : ℕ) (text : List ℕ) (ws : List Word) → Further text ws → Further (break_text before ++ text) ws
break_further before text ws is = broken (before % 4 == 0) text ws is
  where
    broken : (b : Bool) (text : List ℕ) (ws : List Word) → Further text ws → Further (cond b (codes "\n ") [] ++ text) ws
    broken true text ws is = record { starts = λ rest gap. refl; cut = λ rest gap. is.cut rest gap }
    broken false text ws is = is

further_term : (before : ℕ) (t : WrittenTerm) → IsReadableTerm t → Further (further_term_text before t) (sign_word t.number.negative ∷ behind_sign t)
further_term before t is =
    break_further
    before
    (sign_text t.number.negative ++ (t.number.absolute ++ (32 ∷ t.name)))
    (sign_word t.number.negative ∷ behind_sign t)
    (signed_further
    t.number.negative
    (t.number.absolute ++ (32 ∷ t.name))
    (behind_sign t)
    (Open-Further
    t.number.absolute
    (32 ∷ t.name)
    (t.number.absolute ∷ [])
    (t.name ∷ [])
    (Open-word t.number.absolute is.number.word)
    (spaced_word t.name is.name.word)))

further_terms : (before : ℕ) (ts : List WrittenTerm) → AllByRecursion IsReadableTerm ts → Further (numbered_text further_term_text before ts) (further_terms_words ts)
further_terms before [] all = Further-nil
further_terms before (t ∷ ts) all =
    Further-Further
    (further_term_text before t)
    (numbered_text further_term_text (before + 1) ts)
    (sign_word t.number.negative ∷ behind_sign t)
    (further_terms_words ts)
    (further_term before t all.0)
    (further_terms (before + 1) ts all.1)

-- a list of terms
pub terms_open : (ts : List WrittenTerm) → AreReadableTerms ts → Open (terms_text ts) (terms_words ts)
terms_open [] all = absurd all
terms_open (t ∷ ts) all =
    Open-Further
    (first_term_text t)
    (numbered_text further_term_text 1 ts)
    (first_term_words t)
    (further_terms_words ts)
    (first_term_open t all.0)
    (further_terms 1 ts all.1)

-- rows

-- the relation of a row as a word
abbrev pub sense_word : Sense → Word
sense_word AtLeast = codes ">="
sense_word AtMost = codes "<="
sense_word Equal = codes "="

-- a word that ends its line
word_line : (w : List ℕ) → IsWord w → Closed (w ++ (10 ∷ [])) (w ∷ [])
word_line w word = Open-Closed w 10 [] (w ∷ []) [] (Open-word w word) refl line_end_closed

relation_closed : (sense : Sense) (n : WrittenNumber) (text : List ℕ) (ws : List Word) → IsReadableNumber n → Open text ws → Closed (text ++ (sense_text sense ++ (number_text n ++ codes "\n"))) (ws ++ (sense_word sense ∷ number_text n ∷ []))
relation_closed AtLeast n text ws is terms =
    Open-Closed text 32 (62 ∷ 61 ∷ 32 ∷ (number_text n ++ codes "\n")) ws (codes ">=" ∷ number_text n ∷ []) terms refl (Closed-Closed (codes " >= ") (number_text n ++ codes "\n") (codes ">=" ∷ []) (number_text n ∷ []) (record { cut = λ rest. refl }) (word_line (number_text n) (readable_word n is)))
relation_closed AtMost n text ws is terms =
    Open-Closed text 32 (60 ∷ 61 ∷ 32 ∷ (number_text n ++ codes "\n")) ws (codes "<=" ∷ number_text n ∷ []) terms refl (Closed-Closed (codes " <= ") (number_text n ++ codes "\n") (codes "<=" ∷ []) (number_text n ∷ []) (record { cut = λ rest. refl }) (word_line (number_text n) (readable_word n is)))
relation_closed Equal n text ws is terms =
    Open-Closed text 32 (61 ∷ 32 ∷ (number_text n ++ codes "\n")) ws (codes "=" ∷ number_text n ∷ []) terms refl (Closed-Closed (codes " = ") (number_text n ++ codes "\n") (codes "=" ∷ []) (number_text n ∷ []) (record { cut = λ rest. refl }) (word_line (number_text n) (readable_word n is)))

-- a text behind a word and a blank
behind_word : (w text : List ℕ) (ws : List Word) → IsWord w → Closed text ws → Closed (w ++ (32 ∷ text)) (w ∷ ws)
behind_word w text ws word is =
    Open-Closed w 32 text (w ∷ []) ws (Open-word w word) refl (Closed-Closed (32 ∷ []) text [] ws space_closed is)

-- the words behind a row's label
abbrev pub behind_label : WrittenRow → List Word
behind_label r = terms_words r.terms ++ (sense_word r.sense ∷ number_text r.right ∷ [])

pub row_closed : (r : WrittenRow) → IsReadableRow r → Closed (row_text r) (r.label ∷ behind_label r)
row_closed r is =
    Closed-Closed
    (32 ∷ [])
    (r.label ++ (32 ∷ (terms_text r.terms ++ (sense_text r.sense ++ (number_text r.right ++ codes "\n")))))
    []
    (r.label ∷ behind_label r)
    space_closed
    (behind_word
    r.label
    (terms_text r.terms ++ (sense_text r.sense ++ (number_text r.right ++ codes "\n")))
    (behind_label r)
    is.word
    (relation_closed r.sense r.right (terms_text r.terms) (terms_words r.terms) is.right (terms_open r.terms is.terms)))

-- bounds

-- the words of a bound: the first and the others
abbrev pub first_of_bound : List ℕ → Option WrittenNumber → Option WrittenNumber → Word
first_of_bound name (Some lower) (Some upper) = number_text lower
first_of_bound name (Some lower) None = name
first_of_bound name None (Some upper) = codes "-inf"
first_of_bound name None None = name

abbrev pub more_of_bound : List ℕ → Option WrittenNumber → Option WrittenNumber → List Word
more_of_bound name (Some lower) (Some upper) = codes "<=" ∷ name ∷ codes "<=" ∷ number_text upper ∷ []
more_of_bound name (Some lower) None = codes ">=" ∷ number_text lower ∷ []
more_of_bound name None (Some upper) = codes "<=" ∷ name ∷ codes "<=" ∷ number_text upper ∷ []
more_of_bound name None None = codes "free" ∷ []

-- ` <= u` or ` >= l` behind an open text
at_most_closed : (text : List ℕ) (ws : List Word) (n : WrittenNumber) → Open text ws → IsReadableNumber n → Closed (text ++ (codes " <= " ++ (number_text n ++ codes "\n"))) (ws ++ (codes "<=" ∷ number_text n ∷ []))
at_most_closed text ws n is number = relation_closed AtMost n text ws number is

ends_closed : (name : List ℕ) (lower upper : Option WrittenNumber) → IsWord name → IsReadableEnd lower → IsReadableEnd upper → Closed (ends_text name lower upper) (first_of_bound name lower upper ∷ more_of_bound name lower upper)
ends_closed name (Some lower) (Some upper) word low high =
    Closed-Closed
    (32 ∷ [])
    (number_text lower ++ (codes " <= " ++ (name ++ (codes " <= " ++ (number_text upper ++ codes "\n")))))
    []
    (number_text lower ∷ codes "<=" ∷ name ∷ codes "<=" ∷ number_text upper ∷ [])
    space_closed
    (Open-Closed
    (number_text lower)
    32
    (codes "<= " ++ (name ++ (codes " <= " ++ (number_text upper ++ codes "\n"))))
    (number_text lower ∷ [])
    (codes "<=" ∷ name ∷ codes "<=" ∷ number_text upper ∷ [])
    (Open-word (number_text lower) (readable_word lower low))
    refl
    (Closed-Closed
    (codes " <= ")
    (name ++ (codes " <= " ++ (number_text upper ++ codes "\n")))
    (codes "<=" ∷ [])
    (name ∷ codes "<=" ∷ number_text upper ∷ [])
    (record { cut = λ rest. refl })
    (at_most_closed name (name ∷ []) upper (Open-word name word) high)))
ends_closed name (Some lower) None word low high =
    Closed-Closed
    (32 ∷ [])
    (name ++ (codes " >= " ++ (number_text lower ++ codes "\n")))
    []
    (name ∷ codes ">=" ∷ number_text lower ∷ [])
    space_closed
    (relation_closed AtLeast lower name (name ∷ []) low (Open-word name word))
ends_closed name None (Some upper) word low high =
    Closed-Closed
    (codes " -inf <= ")
    (name ++ (codes " <= " ++ (number_text upper ++ codes "\n")))
    (codes "-inf" ∷ codes "<=" ∷ [])
    (name ∷ codes "<=" ∷ number_text upper ∷ [])
    (record { cut = λ rest. refl })
    (at_most_closed name (name ∷ []) upper (Open-word name word) high)
ends_closed name None None word low high =
    Closed-Closed
    (32 ∷ [])
    (name ++ codes " free\n")
    []
    (name ∷ codes "free" ∷ [])
    space_closed
    (Open-Closed name 32 (codes "free\n") (name ∷ []) (codes "free" ∷ []) (Open-word name word) refl (record { cut = λ rest. refl }))

pub bound_closed : (c : WrittenColumn) → IsReadableColumn c → Closed (bound_text c) (first_of_bound c.name c.lower c.upper ∷ more_of_bound c.name c.lower c.upper)
bound_closed c is = ends_closed c.name c.lower c.upper is.name.word is.lower is.upper

-- integer columns

pub general_closed : (c : WrittenColumn) → IsReadableColumn c → Closed (general_text c) (c.name ∷ [])
general_closed c is = Closed-Closed (32 ∷ []) (c.name ++ (10 ∷ [])) [] (c.name ∷ []) space_closed (word_line c.name is.name.word)

-- texts of things that each give their words
pub each_closed : {X : Type 0} (text : X → List ℕ) (first : X → Word) (more : X → List Word) (xs : List X) → AllByRecursion (λ x. Closed (text x) (first x ∷ more x)) xs → Closed (flat_map text xs) (flat_map (λ x. first x ∷ more x) xs)
each_closed text first more [] all = record { cut = λ rest. refl }
each_closed text first more (x ∷ xs) all =
    Closed-Closed (text x) (flat_map text xs) (first x ∷ more x) (flat_map (λ y. first y ∷ more y) xs) all.0 (each_closed text first more xs all.1)
