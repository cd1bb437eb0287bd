-- A text is a front and an ending exactly where it begins with the front and what is left is the ending.
use Rattle.std.proofs.Common.{◌≡◌, ◌≢◌, ◌++◌, ℕ, List, Bool, false, eqb, Some, None, ap, ◌∙◌, sym}
use Rattle.std.specs.Str.{bytes_eq}
use Rattle.std.specs.Cmp.Lexicographic.{pointwise}
use Rattle.std.proofs.lemmas.Bool.Decides.{same_from_decides, Decides-like, Decides-eqb}
use Rattle.std.proofs.lemmas.List.{append_cancel_left}
use Rattle.std.proofs.lemmas.Slice.Eq.{strip_prefix_is, slice_eq-Decides, bytes_eq-Decides}
use Rattle.zim_cli.proofs.words.is_joined.Goals as goal

joined : (text front ending rest : List ℕ) (r : Bool) → text ≡ front ++ rest → r ≡ pointwise eqb rest ending →
    r ≡ bytes_eq text (front ++ ending)
joined text front ending rest r cut same =
    same_from_decides {P = text ≡ front ++ ending} r (bytes_eq text (front ++ ending))
    (Decides-like r
    (λ e. cut ∙ ap (λ (xs : List ℕ). front ++ xs) e)
    (λ e. append_cancel_left front rest ending (sym cut ∙ e))
    (slice_eq-Decides Decides-eqb rest ending r same))
    (bytes_eq-Decides text (front ++ ending))

apart : (text front ending : List ℕ) → ((rest : List ℕ) → text ≢ front ++ rest) →
    false ≡ bytes_eq text (front ++ ending)
apart text front ending none =
    same_from_decides {P = text ≡ front ++ ending} false (bytes_eq text (front ++ ending))
    ((λ e. cc), (λ e. absurd (none ending e)))
    (bytes_eq-Decides text (front ++ ending))

pub returns-in-Some : goal.returns-in-Some
returns-in-Some c =
    joined c.args.text.now c.args.front.now c.args.ending.now c.in-Some.rest.now c.eq.result
    (strip_prefix_is Decides-eqb c.args.text.now c.args.front.now (Some c.in-Some.rest) c.in-Some.ensures.cases)
    c.eq.ensures

pub returns-in-None : goal.returns-in-None
returns-in-None c =
    apart c.args.text.now c.args.front.now c.args.ending.now
    (strip_prefix_is Decides-eqb c.args.text.now c.args.front.now None c.in-None.ensures.cases)
