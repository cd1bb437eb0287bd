-- Statements have one first fault at most, and none where they are those of an accepted model; a model has one program.
use Rattle.std.proofs.Common.{◌≡◌, List, [], ◌∷◌, ◌++◌, Some, None, refl, sym, ◌∙◌, ap, ap₂, subst, append_assoc, append-nil}
use Rattle.zim_fault.specs.declared.faults.Fault.{Fault}
use Rattle.zim_fault.specs.declared.kinds.Kind.TheVariants.{Syntax}
use Rattle.zim_tree.specs.declared.stmt.Stmt.{Stmt}
use Rattle.zim_rows.specs.System.{LinearSystem}
use Rattle.zim_rows.specs.Scaled.{scaled_program, first_fault}
use Rattle.zim_plain.specs.Statements.{Statement, PlainModel}
use Rattle.zim_plain.specs.Trees.{tree_of, trees_of, IsOfPlainForm}
use Rattle.zim_plain.specs.Faults.{fault_at, HasFault, unsuited, numbers, IsFaultless, AreFaultless, IsPlain}
use Rattle.zim_plain.specs.Systems.{IsSystemOf}
use Rattle.zim_plain.specs.Answers.{IsFirstFault, not_plain, stated, finished, HasOneModel, HasOneFault, HasNoFaultAsModel, HasOneProgram}
use Rattle.zim_plain.proofs.TreeLaws.{one_statement}
use Rattle.zim_plain.proofs.SystemLaws.{a_model_has_one_system}

-- ---- one model for trees

same_models : (a b : PlainModel) → trees_of a ≡ trees_of b → a ≡ b
same_models [] [] e = refl
same_models [] (t ∷ b) e = cc
same_models (s ∷ a) [] e = cc
same_models (s ∷ a) (t ∷ b) e =
    let first : tree_of s ≡ tree_of t = cc in
    let rest : trees_of a ≡ trees_of b = cc in
    ap₂ (λ (u : Statement) (m : PlainModel). u ∷ m) (one_statement s t first) (same_models a b rest)

pub one_model : (trees : List Stmt) → HasOneModel trees
one_model trees a b e f = same_models a b (sym e ∙ f)

-- ---- statements with a fault

one_fault : (before : PlainModel) (s : Statement) (f g : Fault) → HasFault before s f → HasFault before s g → f ≡ g
one_fault before s f g (unsuited a) (unsuited b) = refl
one_fault before s f g (unsuited a) (numbers _ b e) = absurd (a b)
one_fault before s f g (numbers _ a e) (unsuited b) = absurd (b a)
one_fault before s f g (numbers _ a e) (numbers _ b h) = let both : Some f ≡ Some g = sym e ∙ h in cc

no_fault : (before : PlainModel) (s : Statement) (f : Fault) → IsFaultless before s → HasFault before s f → ⊥
no_fault before s f is (unsuited a) = a is.follows
no_fault before s f is (numbers _ a e) = let both : Some f ≡ None = sym e ∙ is.numbers in cc

-- a tree at which the statements stop: it is of no plain form, or that of a statement with a fault behind those before it
data StopsAt (before : PlainModel) (stmt : Stmt) : Fault → Type 0 where
  outside : ¬ IsOfPlainForm stmt → StopsAt before stmt (fault_at Syntax stmt.first)
  faulty : (s : Statement) (fault : Fault) → tree_of s ≡ stmt → HasFault before s fault → StopsAt before stmt fault

one_stop : (before : PlainModel) (stmt : Stmt) (f g : Fault) → StopsAt before stmt f → StopsAt before stmt g → f ≡ g
one_stop before stmt f g (outside a) (outside b) = refl
one_stop before stmt f g (outside a) (faulty t _ e h) = absurd (a (t, e))
one_stop before stmt f g (faulty s _ e h) (outside b) = absurd (b (s, e))
one_stop before stmt f g (faulty s _ e h) (faulty t _ d k) =
    one_fault before s f g h (subst (λ (u : Statement). HasFault before u g) (one_statement t s (d ∙ sym e)) k)

no_stop : (before : PlainModel) (s : Statement) (f : Fault) → IsFaultless before s → StopsAt before (tree_of s) f → ⊥
no_stop before s f is (outside a) = a (s, refl)
no_stop before s f is (faulty t _ e h) = no_fault before s f is (subst (λ (u : Statement). HasFault before u f) (one_statement t s e) h)

-- the first tree at which statements stop is one
first_same : (p before other : PlainModel) (a b : Stmt) (after later : List Stmt) (f g : Fault) → trees_of before ++ a ∷ after ≡ trees_of other ++ b ∷ later → AreFaultless p before → AreFaultless p other → StopsAt (p ++ before) a f → StopsAt (p ++ other) b g → f ≡ g
first_same p [] [] a b after later f g e h k x y =
    let same : b ≡ a = cc in one_stop (p ++ []) a f g x (subst (λ (t : Stmt). StopsAt (p ++ []) t g) same y)
first_same p [] (u ∷ other) a b after later f g e h k x y =
    let same : a ≡ tree_of u = cc in
    absurd (no_stop p u f k.0 (subst (λ (t : Stmt). StopsAt p t f) same (subst (λ (m : PlainModel). StopsAt m a f) (append-nil p) x)))
first_same p (u ∷ before) [] a b after later f g e h k x y =
    let same : b ≡ tree_of u = cc in
    absurd (no_stop p u g h.0 (subst (λ (t : Stmt). StopsAt p t g) same (subst (λ (m : PlainModel). StopsAt m b g) (append-nil p) y)))
first_same p (u ∷ before) (v ∷ other) a b after later f g e h k x y =
    let rest : trees_of before ++ a ∷ after ≡ trees_of other ++ b ∷ later = cc in
    let first : tree_of v ≡ tree_of u = cc in
    let same : v ≡ u = one_statement v u first in
    first_same (p ++ u ∷ []) before other a b after later f g rest h.1
    (subst (λ (w : Statement). AreFaultless (p ++ w ∷ []) other) same k.1)
    (subst (λ (m : PlainModel). StopsAt m a f) (sym (append_assoc p (u ∷ []) before)) x)
    (subst (λ (m : PlainModel). StopsAt m b g) (sym (append_assoc p (u ∷ []) other)) (subst (λ (w : Statement). StopsAt (p ++ w ∷ other) b g) same y))

-- the statements of a plain model stop nowhere
plain_stops : (p model before : PlainModel) (a : Stmt) (after : List Stmt) (f : Fault) → trees_of model ≡ trees_of before ++ a ∷ after → AreFaultless p model → StopsAt (p ++ before) a f → ⊥
plain_stops p [] [] a after f e h x = cc
plain_stops p [] (u ∷ before) a after f e h x = cc
plain_stops p (s ∷ model) [] a after f e h x =
    let same : a ≡ tree_of s = cc in
    no_stop p s f h.0 (subst (λ (t : Stmt). StopsAt p t f) same (subst (λ (m : PlainModel). StopsAt m a f) (append-nil p) x))
plain_stops p (s ∷ model) (u ∷ before) a after f e h x =
    let rest : trees_of model ≡ trees_of before ++ a ∷ after = cc in
    let first : tree_of u ≡ tree_of s = cc in
    plain_stops (p ++ s ∷ []) model before a after f rest h.1
    (subst (λ (m : PlainModel). StopsAt m a f) (sym (append_assoc p (s ∷ []) before))
    (subst (λ (w : Statement). StopsAt (p ++ w ∷ before) a f) (one_statement u s first) x))

-- ---- the laws

-- the first fault is at the first tree at which the statements stop, or of the system of them all
data IsMet (trees : List Stmt) (fault : Fault) : Type 0 where
  at_tree : (before : PlainModel) (a : Stmt) (after : List Stmt) → trees ≡ trees_of before ++ a ∷ after → AreFaultless [] before → StopsAt before a fault → IsMet trees fault
  at_end : (model : PlainModel) (system : LinearSystem) → trees ≡ trees_of model → IsPlain model → IsSystemOf model system → first_fault system ≡ Some fault → IsMet trees fault

met : (trees : List Stmt) (fault : Fault) → IsFirstFault trees fault → IsMet trees fault
met trees _ (not_plain before stmt after whole faultless other) = at_tree before stmt after whole faultless (outside other)
met trees _ (stated before s after fault whole faultless has) = at_tree before (tree_of s) after whole faultless (faulty s fault refl has)
met trees _ (finished model system fault whole plain is e) = at_end model system whole plain is e

one_met : (trees : List Stmt) (f g : Fault) → IsMet trees f → IsMet trees g → f ≡ g
one_met trees f g (at_tree before a after whole h x) (at_tree other b later same k y) = first_same [] before other a b after later f g (sym whole ∙ same) h k x y
one_met trees f g (at_tree before a after whole h x) (at_end model system same plain is e) = absurd (plain_stops [] model before a after f (sym same ∙ whole) plain x)
one_met trees f g (at_end model system whole plain is e) (at_tree other b later same k y) = absurd (plain_stops [] model other b later g (sym whole ∙ same) plain y)
one_met trees f g (at_end model system whole plain is e) (at_end more second same plain' is' e') =
    let alike : more ≡ model = one_model trees more model same whole in
    let one : second ≡ system = a_model_has_one_system model second system (subst (λ (m : PlainModel). IsSystemOf m second) alike is') is in
    let both : Some f ≡ Some g = sym e ∙ ap first_fault (sym one) ∙ e' in cc

pub one_first_fault : (trees : List Stmt) → HasOneFault trees
one_first_fault trees f g x y = one_met trees f g (met trees f x) (met trees g y)

pub no_first_fault : (model : PlainModel) → HasNoFaultAsModel model
no_first_fault model fault accepted first = none (met (trees_of model) fault first)
  where
    none : IsMet (trees_of model) fault → ⊥
    none (at_tree before a after whole h x) = plain_stops [] model before a after fault whole accepted.plain x
    none (at_end more system whole plain is e) =
        let alike : more ≡ model = same_models more model (sym whole) in
        let one : system ≡ accepted.system = a_model_has_one_system model system accepted.system (subst (λ (m : PlainModel). IsSystemOf m system) alike is) accepted.system_is in
        let both : Some fault ≡ None = sym e ∙ ap first_fault one ∙ accepted.faultless in cc

pub one_program : (model : PlainModel) → HasOneProgram model
one_program model one other a b =
    a.program_is ∙ ap scaled_program (a_model_has_one_system model a.system b.system a.system_is b.system_is) ∙ sym b.program_is
