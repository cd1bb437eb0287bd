-- What a name is among some files: a model, or what has a first fault, or what misses a file. It is exactly one of these, as the laws of this crate
-- say.
use Rattle.std.specs.Prelude.{◌≡◌, ℕ, List, [], Ok, Err}
use Rattle.zim_fault.specs.declared.faults.Fault.{Fault}
use Rattle.zim_gate.specs.Folder.{HeldFiles}
use Rattle.zim_lex.specs.declared.lines.Loaded.{Loaded}
use Rattle.zim_lex.specs.Expanded.{At, Missing, model_in}
use Rattle.zim_lex.specs.Unread.{IsAmong, names_by}
use Rattle.zim_tree.specs.declared.stmt.Stmt.{Stmt}
use Rattle.zim_build.specs.Model.{Model, AreModel, HaveFirstFault}
use Rattle.zim_build.specs.Parsed.{AreStatements, AreNoStatements}

-- The lines of the named file, with the lines of the files that it includes in their places, are the statements of this model. The files of these
-- names were opened for it, in this order.
pub record HasModel (files : HeldFiles) (name : List ℕ) (model : Model) (opened : List (List ℕ)) : Type 0 where
  pub loaded : Loaded
  pub loads : model_in files name ≡ Ok loaded
  pub trees : List Stmt
  pub statements : AreStatements loaded.lines trees
  pub is_model : AreModel trees model
  pub opened_are : opened ≡ loaded.files

-- The first fault of a named file that is no model, with the names of the files that were opened so far, among which the fault's place counts, and
-- the text that was printed by then: a fault of loading, which is too many bytes or too deep an include line; else the first fault of the lines;
-- else that of the statements.
pub data HasFirstFault (files : HeldFiles) (name : List ℕ) : Fault → (opened : List (List ℕ)) → (printed : List ℕ) → Type 0 where
  not_loaded : (fault : Fault) (opened : List (List ℕ)) → model_in files name ≡ Err (At fault opened) → HasFirstFault files name fault opened []
  no_statements : (loaded : Loaded) (fault : Fault) → model_in files name ≡ Ok loaded → AreNoStatements loaded.lines fault →
      HasFirstFault files name fault loaded.files []
  no_model : (loaded : Loaded) (trees : List Stmt) (fault : Fault) (printed : List ℕ) → model_in files name ≡ Ok loaded → AreStatements loaded.lines trees →
      HaveFirstFault trees fault printed → HasFirstFault files name fault loaded.files printed

-- Among the files there is none of this name, which the model opens when this text was printed: it is the model's own, or that of a file that it
-- includes.
pub record MissesFile (files : HeldFiles) (model name printed : List ℕ) : Type 0 where
  pub opened : List (List ℕ)
  pub met : model_in files model ≡ Err (Missing name opened)
  pub nothing : printed ≡ []

-- A file of this name is there and is one that the model opens, when this text was printed.
pub record OpensNamedFile (files : HeldFiles) (model name printed : List ℕ) : Type 0 where
  pub among : IsAmong name (names_by (λ loaded. loaded.files) (model_in files model))
  pub nothing : printed ≡ []
