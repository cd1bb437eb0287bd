-- Fields with commas between them, one after another, and the number that digits spell.
use Rattle.std.proofs.Common.{◌≡◌, ℕ, suc, ◌+◌, ◌-◌, ◌*◌, ◌≤◌, ◌<◌, Bool, true, false, List, [], ◌∷◌, ◌++◌, length, take, drop, get_or, min, Option, Some, None, Ok, refl, ap, sym, ◌∙◌, subst, arith, append_assoc}
use Rattle.std.specs.Prelude.{◌==◌, ◌&&◌, cond, nat_lt, position, option_map}
use Rattle.std.specs.Int.{IsInRange}
use Rattle.std.specs.Char.{is_ascii_digit, digit_value}
use Rattle.std.specs.List.{prefix_len, list_all, position_or_len}
use Rattle.std.specs.Str.Parse.{digits_value}
use Rattle.std.proofs.lemmas.Int.Digits.{digits_value_more}
use Rattle.std.proofs.lemmas.Grind.{common_steps}
use Rattle.std.proofs.lemmas.List.{append-nil}
use Rattle.std.proofs.lemmas.List.Sums.{AllPass-from_list_all}
use Rattle.std.proofs.lemmas.Str.{digit_value_digit}
use Rattle.memchr.specs.Find.{IsFirstByte, is_byte}
use Rattle.zim_answer.specs.Gives.{Stops}
use Rattle.zim_read.specs.declared.stops.TemplateFault.{TemplateFault}
use Rattle.zim_read.specs.declared.stops.TemplateFault.TheVariants as template
use Rattle.zim_read.specs.declared.templates.Field.{Field}
use Rattle.zim_read.specs.Causes.{spelled, template_cause}
use Rattle.zim_read.specs.Private.{value_within, with_spelled}
use Rattle.zim_read.specs.declared.templates.FieldKind.{FieldKind}
use Rattle.zim_read.specs.declared.templates.ReadKind.TheVariants as kinds
use Rattle.zim_read.specs.declared.templates.Template.{Template}
use Rattle.zim_read.specs.declared.templates.Template.TheVariants.{Fields, Every}
use Rattle.zim_read.specs.Templates.{◌>>=◌, last_position, after_blanks, is_blank_only, kind_then_blanks, at_greater, every_of, position_of, field_of, each_field, fields_spelled, in_angles, set_template, indexed_template, template_of}
use Rattle.zim_read.proofs.SearchLemmas.{split_found, split_unfound}

-- fields behind others
abbrev pub behind : List Field → Option (List Field) → Option (List Field)
behind front fields = option_map (λ (fs : List Field). front ++ fs) fields

pub behind_nothing : (fields : Option (List Field)) → fields ≡ behind [] fields
behind_nothing None = refl
behind_nothing (Some fields) = refl

-- the first field, and the others
abbrev first_and_others : Option Field → Option (List Field) → Option (List Field)
first_and_others first others = first >>= λ f. others >>= λ fs. Some (f ∷ fs)

fields_first : (rest : List ℕ) (found : Option ℕ) (k : ℕ) → IsFirstByte (is_byte 44) rest found → found ≡ Some k → fields_spelled rest ≡ first_and_others (field_of (take k rest)) (fields_spelled (drop (k + 1) rest))
unfolding fields_spelled
fields_first rest found k first is = ap each_field (split_found 44 rest found k first is)

fields_last : (rest : List ℕ) (found : Option ℕ) → IsFirstByte (is_byte 44) rest found → found ≡ None → fields_spelled rest ≡ first_and_others (field_of rest) (Some [])
unfolding fields_spelled
fields_last rest found first is = ap each_field (split_unfound 44 rest found first is)

joined : (front more : List Field) (first : Option Field) (others : Option (List Field)) → spelled (option_map (λ (f : Field). front ++ f ∷ []) first) ≡ Ok more → behind front (first_and_others first others) ≡ behind more others
joined front more None others h = cc
joined front more (Some f) None h = refl
joined front more (Some f) (Some fs) h = let same : front ++ f ∷ [] ≡ more = cc in ap Some (sym (append_assoc front (f ∷ []) fs)) ∙ ap (λ (l : List Field). Some (l ++ fs)) same

-- a field more
pub fields_next : (text rest : List ℕ) (front more : List Field) (found : Option ℕ) (k : ℕ) → IsFirstByte (is_byte 44) rest found → found ≡ Some k → spelled (with_spelled front (take k rest)) ≡ Ok more → fields_spelled text ≡ behind front (fields_spelled rest)
    → fields_spelled text ≡ behind more (fields_spelled (drop (k + 1) rest))
fields_next text rest front more found k first is adds so_far =
    so_far ∙ ap (behind front) (fields_first rest found k first is)
    ∙ joined front more (field_of (take k rest)) (fields_spelled (drop (k + 1) rest)) adds

-- the last field
pub fields_done : (text rest : List ℕ) (front more : List Field) (found : Option ℕ) → IsFirstByte (is_byte 44) rest found → found ≡ None → spelled (with_spelled front rest) ≡ Ok more → fields_spelled text ≡ behind front (fields_spelled rest) → spelled (fields_spelled text) ≡ Ok more
fields_done text rest front more found first is adds so_far =
    ap spelled (so_far ∙ ap (behind front) (fields_last rest found first is) ∙ joined front more (field_of rest) (Some []) adds ∙ ap Some (append-nil more))

none_stops : (front : List Field) (first : Option Field) (others : Option (List Field)) (fault : TemplateFault) → Stops (spelled (option_map (λ (f : Field). front ++ f ∷ []) first)) (template_cause fault) → Stops (spelled (behind front (first_and_others first others))) (template_cause fault)
none_stops front None others template.BadTemplate stops = refl
none_stops front (Some f) others template.BadTemplate stops = cc
none_stops front first others template.Memory stops = tt

-- a part that is no field
pub fields_stop : (text rest : List ℕ) (front : List Field) (found : Option ℕ) (k : ℕ) (fault : TemplateFault) → IsFirstByte (is_byte 44) rest found → found ≡ Some k → Stops (spelled (with_spelled front (take k rest))) (template_cause fault) → fields_spelled text ≡ behind front (fields_spelled rest)
    → Stops (spelled (fields_spelled text)) (template_cause fault)
fields_stop text rest front found k fault first is stops so_far =
    subst (λ (o : Option (List Field)). Stops (spelled o) (template_cause fault)) (sym (so_far ∙ ap (behind front) (fields_first rest found k first is)))
    (none_stops front (field_of (take k rest)) (fields_spelled (drop (k + 1) rest)) fault stops)

-- a last part that is none
pub fields_stop_last : (text rest : List ℕ) (front : List Field) (found : Option ℕ) (fault : TemplateFault) → IsFirstByte (is_byte 44) rest found → found ≡ None → Stops (spelled (with_spelled front rest)) (template_cause fault) → fields_spelled text ≡ behind front (fields_spelled rest)
    → Stops (spelled (fields_spelled text)) (template_cause fault)
fields_stop_last text rest front found fault first is stops so_far =
    subst (λ (o : Option (List Field)). Stops (spelled o) (template_cause fault)) (sym (so_far ∙ ap (behind front) (fields_last rest found first is)))
    (none_stops front (field_of rest) (Some []) fault stops)

-- ---- the number that digits spell

least : (v e : ℕ) → min (min v (last_position + 1) * 10 + e) (last_position + 1) ≡ min (v * 10 + e) (last_position + 1)
least v e = omega arith

in_range : (c : ℕ) → is_ascii_digit c ≡ true → IsInRange 48 57 c
in_range c h = grind (arith, common_steps)

-- a digit more
pub value_next : (digits : List ℕ) (i value next : ℕ) → i < length digits → list_all is_ascii_digit digits ≡ true → value ≡ value_within (take i digits) → next ≡ min (value * 10 + (get_or digits i 0 - 48)) (last_position + 1) → next ≡ value_within (take (i + 1) digits)
value_next digits i value next low all so_far is =
    let d : ℕ = get_or digits i 0 in
    let digit : digit_value d + 48 ≡ d = digit_value_digit d (in_range d (AllPass-from_list_all is_ascii_digit digits all i 0 low)) in
    let worth : d - 48 ≡ digit_value d = omega arith in
    is ∙ ap (λ (v : ℕ). min (v * 10 + (d - 48)) (last_position + 1)) so_far
    ∙ ap (λ (e : ℕ). min (value_within (take i digits) * 10 + e) (last_position + 1)) worth
    ∙ least (digits_value 10 (take i digits)) (digit_value d)
    ∙ ap (λ (v : ℕ). min v (last_position + 1)) (sym (digits_value_more 10 digits i low))

pub value_fits : (digits : List ℕ) (i value : ℕ) → value ≡ value_within (take i digits) → value ≤ 65537
value_fits digits i value so_far = omega (arith, so_far)

pub at_digit : (digits : List ℕ) (i : ℕ) → i < length digits → list_all is_ascii_digit digits ≡ true → (48 ≤ get_or digits i 0) × (get_or digits i 0 ≤ 57)
at_digit digits i low all = in_range (get_or digits i 0) (AllPass-from_list_all is_ascii_digit digits all i 0 low)

-- the digits at the front are digits
pub all_in_front : (p : ℕ → Bool) (xs : List ℕ) → list_all p (take (prefix_len p xs) xs) ≡ true
all_in_front p [] = refl
all_in_front p (x ∷ xs) = at (p x) refl (all_in_front p xs) where
  at : (t : Bool) → p x ≡ t → list_all p (take (prefix_len p xs) xs) ≡ true → list_all p (take (cond t (1 + prefix_len p xs) 0) (x ∷ xs)) ≡ true
  at true e rest =
      let one : 1 + prefix_len p xs ≡ suc (prefix_len p xs) = omega arith in
      ap (λ (n : ℕ). list_all p (take n (x ∷ xs))) one ∙ ap (λ (t : Bool). t && list_all p (take (prefix_len p xs) xs)) e ∙ rest
  at false e rest = refl

-- ---- a field

-- a field by its parts
pub field_parts : (text stripped digits rest : List ℕ) (n : ℕ) → stripped ≡ after_blanks text → n ≡ prefix_len is_ascii_digit stripped → digits ≡ take n stripped → rest ≡ drop n stripped
    → field_of text ≡ (position_of digits >>= λ at. kind_then_blanks (after_blanks rest) >>= λ kind. Some (record { at = at; kind = kind }))
unfolding field_of
field_parts text stripped digits rest n is_stripped is_n is_digits is_rest = rw (is_digits, is_rest, is_n, is_stripped) refl

-- ---- whole templates

-- a text without angles spells no template of a set or of a parameter with an index
pub no_angles : (text : List ℕ) → in_angles text ≡ None → (template_of kinds.Set text ≡ None) × (template_of kinds.Indexed text ≡ None)
unfolding template_of
no_angles text none = (rw none refl, rw none refl)

-- one with angles spells what these parts do
pub by_angles : (text inner rest : List ℕ) → in_angles text ≡ Some (inner, rest) → (template_of kinds.Set text ≡ set_template (inner, rest)) × (template_of kinds.Indexed text ≡ indexed_template (inner, rest))
unfolding template_of
by_angles text inner rest some = (rw some refl, rw some refl)

pub scalar_is : (text : List ℕ) → template_of kinds.Scalar text ≡ option_map (λ (value : Field). Fields [] (Some value)) (field_of text)
unfolding template_of
scalar_is text = refl

-- a set's template with something behind `>`
pub set_followed : (inner rest : List ℕ) → is_blank_only rest ≡ false → set_template (inner, rest) ≡ None
set_followed inner rest some = rw some refl

pub set_every : (inner rest : List ℕ) (kind : FieldKind) → is_blank_only rest ≡ true → every_of inner ≡ Some kind → set_template (inner, rest) ≡ Some (Every kind)
set_every inner rest kind none every = rw (none, every) refl

pub set_fields : (inner rest : List ℕ) → is_blank_only rest ≡ true → every_of inner ≡ None → set_template (inner, rest) ≡ option_map (λ (index : List Field). Fields index None) (fields_spelled inner)
set_fields inner rest none every = rw (none, every) refl

mapped_ok : (fields : Option (List Field)) (index : List Field) → spelled fields ≡ Ok index → option_map (λ (i : List Field). Fields i None) fields ≡ Some (Fields index None)
mapped_ok None index h = cc
mapped_ok (Some fields) index h = let same : fields ≡ index = cc in ap (λ (i : List Field). Some (Fields i None)) same

mapped_stop : (fields : Option (List Field)) (fault : TemplateFault) → Stops (spelled fields) (template_cause fault) → Stops (spelled (option_map (λ (i : List Field). Fields i None) fields)) (template_cause fault)
mapped_stop None template.BadTemplate stops = refl
mapped_stop (Some fields) template.BadTemplate stops = cc
mapped_stop fields template.Memory stops = tt

pub set_given : (text inner rest : List ℕ) (index : List Field) → in_angles text ≡ Some (inner, rest) → is_blank_only rest ≡ true → every_of inner ≡ None → spelled (fields_spelled inner) ≡ Ok index → spelled (template_of kinds.Set text) ≡ Ok (Fields index None)
set_given text inner rest index angles none every fields =
    ap spelled ((by_angles text inner rest angles).0 ∙ set_fields inner rest none every ∙ mapped_ok (fields_spelled inner) index fields)

pub set_stops : (text inner rest : List ℕ) (fault : TemplateFault) → in_angles text ≡ Some (inner, rest) → is_blank_only rest ≡ true → every_of inner ≡ None → Stops (spelled (fields_spelled inner)) (template_cause fault) → Stops (spelled (template_of kinds.Set text)) (template_cause fault)
set_stops text inner rest fault angles none every stops =
    subst (λ (o : Option Template). Stops (spelled o) (template_cause fault)) (sym ((by_angles text inner rest angles).0 ∙ set_fields inner rest none every))
    (mapped_stop (fields_spelled inner) fault stops)

indexed_ok : (fields : Option (List Field)) (value : Option Field) (index : List Field) → spelled fields ≡ Ok index → (fields >>= λ i. value >>= λ v. Some (Fields i (Some v))) ≡ (value >>= λ v. Some (Fields index (Some v)))
indexed_ok None value index h = cc
indexed_ok (Some fields) value index h = let same : fields ≡ index = cc in ap (λ (i : List Field). value >>= λ v. Some (Fields i (Some v))) same

indexed_stop : (fields : Option (List Field)) (value : Option Field) (fault : TemplateFault) → Stops (spelled fields) (template_cause fault) → Stops (spelled (fields >>= λ i. value >>= λ v. Some (Fields i (Some v)))) (template_cause fault)
indexed_stop None value template.BadTemplate stops = refl
indexed_stop (Some fields) value template.BadTemplate stops = cc
indexed_stop fields value template.Memory stops = tt

pub indexed_given : (text inner rest : List ℕ) (index : List Field) → in_angles text ≡ Some (inner, rest) → spelled (fields_spelled inner) ≡ Ok index → template_of kinds.Indexed text ≡ (field_of rest >>= λ v. Some (Fields index (Some v)))
indexed_given text inner rest index angles fields = (by_angles text inner rest angles).1 ∙ indexed_ok (fields_spelled inner) (field_of rest) index fields

pub indexed_stops : (text inner rest : List ℕ) (fault : TemplateFault) → in_angles text ≡ Some (inner, rest) → Stops (spelled (fields_spelled inner)) (template_cause fault) → Stops (spelled (template_of kinds.Indexed text)) (template_cause fault)
indexed_stops text inner rest fault angles stops =
    subst (λ (o : Option Template). Stops (spelled o) (template_cause fault)) (sym (by_angles text inner rest angles).1)
    (indexed_stop (fields_spelled inner) (field_of rest) fault stops)

-- ---- the first `>`

some_first : (t : Bool) (n k length : ℕ) → (t ≡ true → n < length) → cond t (Some n) None ≡ Some k → k < length
some_first true n k length low h = let same : n ≡ k = cc in omega (arith, low refl, same)
some_first false n k length low h = cc

pub position_within : (p : ℕ → Bool) (xs : List ℕ) (k : ℕ) → position p xs ≡ Some k → k < length xs
position_within p xs k h = some_first (nat_lt (position_or_len p xs) (length xs)) (position_or_len p xs) k (length xs) (λ t. grind (arith, common_steps)) h

pub around : (text front back : List ℕ) (k : ℕ) → position (λ b. b == 62) text ≡ Some k → front ≡ take k text → back ≡ drop (k + 1) text → Some (front, back) ≡ at_greater text
around text front back k is is_front is_back = rw (is, is_front, is_back) refl
