-- A name is one model at most, or has one first fault at most, or misses one file at most, and it isn't two of these.
use Rattle.std.proofs.Common.{◌≡◌, ℕ, List, [], Ok, Err, refl, sym, ◌∙◌, ap, subst}
use Rattle.zim_answer.specs.Answer.{Answer}
use Rattle.zim_fault.specs.declared.faults.Fault.{Fault}
use Rattle.zim_gate.specs.Folder.{HeldFiles}
use Rattle.zim_lex.specs.declared.lines.Loaded.{Loaded}
use Rattle.zim_lex.specs.Expanded.{Refusal, At, Missing, model_in}
use Rattle.zim_build.specs.ExactlyOne.{NamesOneModel, HasOneFirstFault, MissesOneFile, IsOneAtMost}
use Rattle.zim_build.specs.Model.{Model}
use Rattle.zim_build.specs.Reading.{HasModel, HasFirstFault, not_loaded, no_statements, no_model}
use Rattle.zim_build.specs.Steps.{AreNoModel, not_read, not_accepted}
use Rattle.zim_build.proofs.BreakLemmas.{LinesSpell, spelled, breaks, one_model, breaks_spell_none, one_line_fault}

-- a name has one load
abbrev Loading : Type 0
Loading = Answer Loaded Refusal

one_loaded : (load : Loading) (loaded other : Loaded) → load ≡ Ok loaded → load ≡ Ok other → loaded ≡ other
one_loaded load loaded other e f = cc

loaded_at : (load : Loading) (loaded : Loaded) (fault : Fault) (opened : List (List ℕ)) → load ≡ Ok loaded → load ≡ Err (At fault opened) → ⊥
loaded_at load loaded fault opened e f = cc

loaded_missing : (load : Loading) (loaded : Loaded) (name : List ℕ) (opened : List (List ℕ)) → load ≡ Ok loaded → load ≡ Err (Missing name opened) → ⊥
loaded_missing load loaded name opened e f = cc

at_missing : (load : Loading) (fault : Fault) (opened : List (List ℕ)) (name : List ℕ) (others : List (List ℕ)) → load ≡ Err (At fault opened) → load ≡ Err (Missing name others) → ⊥
at_missing load fault opened name others e f = cc

-- ---- the first fault, as one of loading or one of the lines

-- the fault of a load or of the lines that were loaded; nothing was printed
data IsMet (load : Loading) (printed : List ℕ) : Fault → List (List ℕ) → Type 0 where
  at_load : (fault : Fault) (opened : List (List ℕ)) → load ≡ Err (At fault opened) → printed ≡ [] → IsMet load printed fault opened
  at_lines : (loaded : Loaded) (fault : Fault) → load ≡ Ok loaded → AreNoModel loaded.lines fault → printed ≡ [] → IsMet load printed fault loaded.files

met : (files : HeldFiles) (name : List ℕ) (fault : Fault) (opened : List (List ℕ)) (printed : List ℕ) → HasFirstFault files name fault opened printed → IsMet (model_in files name) printed fault opened
met files name _ _ _ (not_loaded fault opened is) = at_load fault opened is refl
met files name _ _ _ (no_statements loaded fault is none) = at_lines loaded fault is (not_read fault none) refl
met files name _ _ _ (no_model loaded trees fault printed is are first) =
    at_lines loaded fault is (not_accepted trees fault are (record { first = first.first; nothing = refl })) first.nothing

nothing_printed : (load : Loading) (printed : List ℕ) (fault : Fault) (opened : List (List ℕ)) → IsMet load printed fault opened → printed ≡ []
nothing_printed load printed _ _ (at_load fault opened is none) = none
nothing_printed load printed _ _ (at_lines loaded fault is breaks none) = none

-- what two first faults of a name have in common
abbrev IsSame : Fault → List (List ℕ) → Fault → List (List ℕ) → Type 0
IsSame fault opened other others = (fault ≡ other) × (opened ≡ others)

one_refusal : (load : Loading) (fault other : Fault) (opened others : List (List ℕ)) → load ≡ Err (At fault opened) → load ≡ Err (At other others) → IsSame fault opened other others
one_refusal load fault other opened others e f = (cc, cc)

one_met : (load : Loading) (fault other : Fault) (opened others : List (List ℕ)) (printed text : List ℕ) → IsMet load printed fault opened → IsMet load text other others → IsSame fault opened other others
one_met load _ _ _ _ printed text (at_load fault opened is n) (at_load other others at m) = one_refusal load fault other opened others is at
one_met load _ _ _ _ printed text (at_load fault opened is n) (at_lines loaded other at break m) = absurd (loaded_at load loaded fault opened at is)
one_met load _ _ _ _ printed text (at_lines loaded fault is break n) (at_load other opened at m) = absurd (loaded_at load loaded other opened is at)
one_met load _ _ _ _ printed text (at_lines loaded fault is break n) (at_lines more other at second m) =
    let same : more ≡ loaded = one_loaded load more loaded at is in (
      one_line_fault loaded.lines fault other (breaks loaded.lines fault break) (breaks loaded.lines other (subst (λ (l : Loaded). AreNoModel l.lines other) same second)),
      ap (λ (l : Loaded). l.files) (sym same),
    )

pub one_fault : (files : HeldFiles) (name : List ℕ) → HasOneFirstFault files name
one_fault files name fault other opened others printed text a b =
    let first = met files name fault opened printed a in
    let second = met files name other others text b in
    let same = one_met (model_in files name) fault other opened others printed text first second in
    (same.0, same.1, nothing_printed (model_in files name) printed fault opened first ∙ sym (nothing_printed (model_in files name) text other others second))

-- ---- models

spells : (files : HeldFiles) (name : List ℕ) (model : Model) (opened : List (List ℕ)) (has : HasModel files name model opened) → LinesSpell has.loaded.lines model
spells files name model opened has = spelled has.loaded.lines has.trees model has.statements has.is_model

pub one_name : (files : HeldFiles) (name : List ℕ) → NamesOneModel files name
one_name files name one other opened others a b =
    let same : b.loaded ≡ a.loaded = one_loaded (model_in files name) b.loaded a.loaded b.loads a.loads in (
      one_model a.loaded.lines one other (spells files name one opened a) (subst (λ (l : Loaded). LinesSpell l.lines other) same (spells files name other others b)),
      a.opened_are ∙ ap (λ (l : Loaded). l.files) (sym same) ∙ sym b.opened_are,
    )

model_met : (files : HeldFiles) (name : List ℕ) (model : Model) (opened : List (List ℕ)) (fault : Fault) (others : List (List ℕ)) (printed : List ℕ) → HasModel files name model opened → IsMet (model_in files name) printed fault others → ⊥
model_met files name model opened _ _ printed has (at_load fault others is none) = loaded_at (model_in files name) has.loaded fault others has.loads is
model_met files name model opened _ _ printed has (at_lines loaded fault is break none) =
    let same : has.loaded ≡ loaded = one_loaded (model_in files name) has.loaded loaded has.loads is in
    breaks_spell_none loaded.lines fault model (breaks loaded.lines fault break)
    (subst (λ (l : Loaded). LinesSpell l.lines model) same (spells files name model opened has))

-- ---- missing files

one_missing : (load : Loading) (other missing : List ℕ) (opened others : List (List ℕ)) → load ≡ Err (Missing other opened) → load ≡ Err (Missing missing others) → other ≡ missing
one_missing load other missing opened others e f = cc

pub one_file : (files : HeldFiles) (name : List ℕ) → MissesOneFile files name
one_file files name missing other printed text a b =
    (one_missing (model_in files name) missing other a.opened b.opened a.met b.met, a.nothing ∙ sym b.nothing)

met_missing : (load : Loading) (fault : Fault) (opened : List (List ℕ)) (printed missing : List ℕ) (others : List (List ℕ)) → IsMet load printed fault opened → load ≡ Err (Missing missing others) → ⊥
met_missing load _ _ printed missing others (at_load fault opened is none) e = at_missing load fault opened missing others is e
met_missing load _ _ printed missing others (at_lines loaded fault is break none) e = loaded_missing load loaded missing others is e

pub at_most_one : (files : HeldFiles) (name : List ℕ) → IsOneAtMost files name
at_most_one files name = record {
  model_or_fault = λ model opened fault others printed has first.
      model_met files name model opened fault others printed has (met files name fault others printed first);
  model_or_missing = λ model opened missing printed has misses.
      loaded_missing (model_in files name) has.loaded missing misses.opened has.loads misses.met;
  fault_or_missing = λ fault opened printed missing text first misses.
      met_missing (model_in files name) fault opened printed missing misses.opened (met files name fault opened printed first) misses.met;
}
