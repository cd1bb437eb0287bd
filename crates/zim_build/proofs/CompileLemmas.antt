-- What a load, the tokens, the parse and plain form tell together of a model.
use Rattle.std.proofs.Common.{[], ◌≡◌, ℕ, List, Option, None, Some, Result, Ok, Err, inl, inr, refl, sym, ap, ap₂, ◌∙◌, subst, length, arith}
use Rattle.std.specs.Prelude.{All, IfSome, ◌⊎◌}
use Rattle.zim_answer.specs.Gives.{Gives}
use Rattle.zim_fault.specs.declared.faults.Fault.{Fault}
use Rattle.zim_fault.specs.declared.tokens.Placed.{Placed}
use Rattle.zim_gate.specs.Counts.{Rose}
use Rattle.zim_gate.specs.Folder.{FolderState, HeldFiles}
use Rattle.zim_lex.specs.declared.lines.Line.{Line}
use Rattle.zim_lex.specs.declared.lines.Loaded.{Loaded}
use Rattle.zim_lex.specs.declared.lines.Span.{Span}
use Rattle.zim_lex.specs.declared.faults.LoadFault.{LoadFault}
use Rattle.zim_lex.specs.declared.faults.LoadFault.TheVariants as loading
use Rattle.zim_lex.specs.declared.faults.LexFault.{LexFault}
use Rattle.zim_lex.specs.declared.faults.LexFault.TheVariants as lexing
use Rattle.zim_lex.specs.Causes.{lex_cause, IfMet}
use Rattle.zim_lex.specs.Expanded.{model_in}
use Rattle.zim_lex.specs.Loading.{IsModel, Loads}
use Rattle.zim_lex.specs.Statements.{statements_of}
use Rattle.zim_lex.specs.Tokens.{AreTokens, IsFirstStuck}
use Rattle.zim_lex.specs.Unread.{MayBeUnread}
use Rattle.zim_columns.specs.Names.{IsFoundByName}
use Rattle.zim_columns.specs.Parts.{HasPartsWithin}
use Rattle.zim_plain.specs.declared.plain_form.PlainProgram.{PlainProgram}
use Rattle.zim_plain.specs.declared.stop.PlainStop.{PlainStop}
use Rattle.zim_plain.specs.declared.stop.PlainStop.TheVariants as stopped
use Rattle.zim_parse.specs.declared.fault.ParseFault.{ParseFault}
use Rattle.zim_parse.specs.declared.fault.ParseFault.TheVariants as parsing
use Rattle.zim_tree.specs.declared.stmt.Stmt.{Stmt}
use Rattle.zim_build.specs.declared.compiled.Compiled.{Compiled}
use Rattle.zim_build.specs.declared.compiled.BuildFault.TheVariants as build
use Rattle.zim_build.specs.declared.stop.ReadStop.{ReadStop}
use Rattle.zim_build.specs.declared.stop.ReadStop.TheVariants as reading
use Rattle.zim_build.specs.Compile.{WhereTold, IsCompiled, Compiles}
use Rattle.zim_build.specs.Parsed.{AreStatements, AreNoStatements, stuck, left_open, unparsed}
use Rattle.zim_build.specs.Steps.{StatementsAnswer, AreLinesOf, AreNoModel, not_read, not_accepted, LinesAnswer, compiled_of}
use Rattle.zim_build.specs.Parsed.{AreParsed}
use Rattle.zim_build.specs.Steps.{ParsedAnswer}
use Rattle.zim_plain.specs.Answers.{PlainAnswer}
use Rattle.zim_build.specs.Reading.{HasModel, HasFirstFault, not_loaded, no_statements, no_model, MissesFile, OpensNamedFile}
use Rattle.zim_build.proofs.BreakLemmas.{breaks}
use Rattle.zim_build.proofs.FaultPlaces.{breaks_in}
use Rattle.zim_build.proofs.ListableLemmas.{listable}
use Rattle.zim_build.proofs.ProgramLemmas.{says_model, is_program, columns_listed}

-- where the tokens' answer is a fault, a line is stuck
pub lexed_stuck : {V : Type 0} (lines : List Line) (r : Result V LexFault) (e : LexFault) (fault : Fault) → r ≡ Err e → e ≡ lexing.Fault fault →
    IfMet r (IsFirstStuck lines) → AreNoStatements lines fault
lexed_stuck {V} lines r e fault is stop met =
    stuck fault (subst (λ (x : Result V LexFault). IfMet x (IsFirstStuck lines)) (is ∙ ap Err stop) met)

-- where the statements' answer is a fault, tokens are left open
pub cut_open : {V : Type 0} (view : V → List Span) (lines : List Line) (placed : List Placed) (r : Result V LexFault) (e : LexFault) (fault : Fault) → AreTokens lines placed → r ≡ Err e → e ≡ lexing.Fault fault →
    Gives view lex_cause (statements_of placed) r → AreNoStatements lines fault
cut_open {V} view lines placed r e fault are is stop gives =
    left_open placed fault are (subst (λ (x : Result V LexFault). Gives view lex_cause (statements_of placed) x) (is ∙ ap Err stop) gives)

-- the parse's answer over tokens and spans that are the same
pub answer_over : (placed tokens : List Placed) (spans cut : List Span) (r : Result (List Stmt) ParseFault) → placed ≡ tokens → spans ≡ cut → ParsedAnswer placed spans r → ParsedAnswer tokens cut r
answer_over placed tokens spans cut r same also answer =
    subst (λ (ss : List Span). ParsedAnswer tokens ss r) also (subst (λ (ts : List Placed). ParsedAnswer ts spans r) same answer)

-- where the parse's answer is a fault, tokens are no statement
pub parsed_broken : (lines : List Line) (placed : List Placed) (spans : List Span) (r : Result (List Stmt) ParseFault) (e : ParseFault) (fault : Fault) → AreTokens lines placed → statements_of placed ≡ Ok spans → r ≡ Err e → e ≡ parsing.Fault fault →
    ParsedAnswer placed spans r → AreNoStatements lines fault
parsed_broken lines placed spans r e fault are cut is stop answer =
    unparsed placed spans fault are cut (subst (λ (x : Result (List Stmt) ParseFault). ParsedAnswer placed spans x) (is ∙ ap Err stop) answer)

-- the statements' answer, where it is a model and where it is none
pub lines_accepted : (lines : List Line) (trees : List Stmt) (r : Result PlainProgram PlainStop) (plain : PlainProgram) → AreStatements lines trees → r ≡ Ok plain → PlainAnswer trees r → AreLinesOf lines plain
lines_accepted lines trees r plain are is answer =
    at (subst (λ (x : Result PlainProgram PlainStop). PlainAnswer trees x) is answer)
  where
    at : PlainAnswer trees (Ok plain) → AreLinesOf lines plain
    at (model, trees_are, plain_is, says) = record {
      model = model;
      trees = trees;
      statements = are;
      is_model = record {
        trees_are = trees_are;
        accepted = record { plain = plain_is; system = says.system; system_is = says.system_is; faultless = says.faultless };
      };
      says = says;
    }

pub lines_refused : (lines : List Line) (trees : List Stmt) (r : Result PlainProgram PlainStop) (e : PlainStop) (fault : Fault) → AreStatements lines trees → r ≡ Err e → e ≡ stopped.Fault fault →
    PlainAnswer trees r → AreNoModel lines fault
lines_refused lines trees r e fault are is stop answer =
    not_accepted trees fault are (record { first = subst (λ (x : Result PlainProgram PlainStop). PlainAnswer trees x) (is ∙ ap Err stop) answer; nothing = refl })

-- where no statements were read, the answer is that of the lines
pub passed_on : (lines : List Line) (stop : ReadStop) → StatementsAnswer lines (Err stop) → LinesAnswer lines (Err stop)
passed_on lines (reading.Refused fault) none = not_read fault none
passed_on lines reading.Memory free = tt

-- what is so of told files is so of them in another way
where_map : (held : Option HeldFiles) (P Q : HeldFiles → Type 0) → ((files : HeldFiles) → P files → Q files) → WhereTold held P → WhereTold held Q
where_map None P Q f told = tt
where_map (Some files) P Q f told = f files told

-- the loaded lines are the model's
abbrev IsLoaded : List ℕ → Loaded → HeldFiles → Type 0
IsLoaded name loaded files = model_in files name ≡ Ok loaded

loaded_told : (before now : FolderState) (name : List ℕ) (loaded : Loaded) → Loads before now name (Ok loaded) → WhereTold before.held (IsLoaded name loaded)
loaded_told before now name loaded loads = at before.held loads.tells.told where
  at : (held : Option HeldFiles) → IfSome held (λ files. IsModel (model_in files name) (Rose before.read_faults now.read_faults) (Ok loaded)) → WhereTold held (IsLoaded name loaded)
  at None told = tt
  at (Some files) told = told

-- the fault of the load is the model's
fault_told : (before now : FolderState) (name : List ℕ) (fault : Fault) (opened : List (List ℕ)) → Loads before now name (Err (loading.Fault fault opened)) →
    WhereTold before.held (λ files. HasFirstFault files name fault opened [])
fault_told before now name fault opened loads = at before.held loads.tells.told where
  at : (held : Option HeldFiles) → IfSome held (λ files. IsModel (model_in files name) (Rose before.read_faults now.read_faults) (Err (loading.Fault fault opened))) → WhereTold held (λ files. HasFirstFault files name fault opened [])
  at None told = tt
  at (Some files) told = not_loaded fault opened told

-- ---- each way in which compiling stops or ends

pub stopped_loading : (before now : FolderState) (name : List ℕ) (fault : Fault) (opened : List (List ℕ)) (text : List ℕ) (r : Result Loaded LoadFault) → text ≡ [] → r ≡ Err (loading.Fault fault opened) →
    Loads before now name r → Compiles before now name (Err (build.Refused fault opened text))
stopped_loading before now name fault opened text r none is loads =
    let at : Loads before now name (Err (loading.Fault fault opened)) = subst (λ (x : Result Loaded LoadFault). Loads before now name x) is loads in
    subst (λ (t : List ℕ). Compiles before now name (Err (build.Refused fault opened t))) (sym none)
    (record { answers = record { place = at.fault.place; own = at.opened; printable = refl; read = fault_told before now name fault opened at }; only = at.only })

pub stopped_unread : (before now : FolderState) (name other text : List ℕ) (r : Result Loaded LoadFault) → text ≡ [] → r ≡ Err (loading.Read other) →
    Loads before now name r → Compiles before now name (Err (build.Read other text))
stopped_unread before now name other text r none is loads =
    let at : Loads before now name (Err (loading.Read other)) = subst (λ (x : Result Loaded LoadFault). Loads before now name x) is loads in
    subst (λ (t : List ℕ). Compiles before now name (Err (build.Read other t))) (sym none)
    (record { answers = record { printable = refl; told = told at.tells.told; untold = at.tells.untold }; only = at.only })
  where
    by : (files : HeldFiles) → MayBeUnread (λ (all : Loaded). all.files) (Rose before.read_faults now.read_faults) (model_in files name) other →
        MissesFile files name other [] ⊎ (Rose before.read_faults now.read_faults × OpensNamedFile files name other [])
    by files (inl misses) = inl (record { opened = misses.files; met = misses.met; nothing = refl })
    by files (inr rose) = inr (rose.0, record { among = rose.1; nothing = refl })

    told : IfSome before.held (λ files. IsModel (model_in files name) (Rose before.read_faults now.read_faults) (Err (loading.Read other))) →
        IfSome before.held (λ files. MissesFile files name other [] ⊎ (Rose before.read_faults now.read_faults × OpensNamedFile files name other []))
    told h = at before.held h
      where
        at : (held : Option HeldFiles) → IfSome held (λ files. IsModel (model_in files name) (Rose before.read_faults now.read_faults) (Err (loading.Read other))) →
            IfSome held (λ files. MissesFile files name other [] ⊎ (Rose before.read_faults now.read_faults × OpensNamedFile files name other []))
        at None h = tt
        at (Some files) h = by files h

pub stopped_memory : (before now : FolderState) (name : List ℕ) (r : Result Loaded LoadFault) → Loads before now name r → Compiles before now name (Err build.Memory)
stopped_memory before now name r loads = record { answers = tt; only = loads.only }

-- what the lines of a model give is compiled of it
is_compiled : (lines : List Line) (plain : PlainProgram) (files : List (List ℕ)) (are : AreLinesOf lines plain) → All (IsFoundByName plain.columns) plain.columns →
    All HasPartsWithin plain.columns → IsCompiled are.model (compiled_of plain files)
is_compiled lines plain files are found parts = record {
  program = is_program are.model plain are.says;
  says = says_model are.model plain are.says;
  columns = columns_listed are.model plain.columns are.says.columns_are;
  names =
      ap₂ (λ (statements : List (List ℕ)) (objective : Option ℕ). record { statements = statements; objective = objective }) are.says.statements are.says.objective_is;
  printed = refl;
  parts = parts;
  listable =
      listable are.statements.placed are.statements.spans lines are.model plain files are.statements.tokens
      (subst (λ (ts : List Stmt). AreParsed are.statements.placed are.statements.spans ts) are.is_model.trees_are are.statements.parsed)
      are.is_model.accepted.plain are.says found;
}

pub all_compiled : (before now : FolderState) (name : List ℕ) (loaded : Loaded) (plain : PlainProgram) (made : Compiled) (r : Result Loaded LoadFault) → made ≡ compiled_of plain loaded.files → r ≡ Ok loaded →
    Loads before now name r → AreLinesOf loaded.lines plain → All (IsFoundByName plain.columns) plain.columns → All HasPartsWithin plain.columns → Compiles before now name (Ok made)
all_compiled before now name loaded plain made r same e loads are found parts =
    let at : Loads before now name (Ok loaded) = subst (λ (x : Result Loaded LoadFault). Loads before now name x) e loads in
    let has : (files : HeldFiles) → IsLoaded name loaded files → HasModel files name are.model loaded.files =
    λ files is. record { loaded = loaded; loads = is; trees = are.trees; statements = are.statements; is_model = are.is_model; opened_are = refl } in
    subst (λ (c : Compiled). Compiles before now name (Ok c)) (sym same)
    (record {
      answers = record {
        model = are.model;
        is = is_compiled loaded.lines plain loaded.files are found parts;
        own = at.opened;
        few = omega (arith, at.within.files);
        read = where_map before.held (IsLoaded name loaded) (λ files. HasModel files name are.model loaded.files) has (loaded_told before now name loaded at);
      };
      only = at.only;
    })

pub stopped_refused : (before now : FolderState) (name : List ℕ) (loaded : Loaded) (fault : Fault) (text : List ℕ) (r : Result Loaded LoadFault) → text ≡ [] → r ≡ Ok loaded →
    Loads before now name r → AreNoModel loaded.lines fault → Compiles before now name (Err (build.Refused fault loaded.files text))
stopped_refused before now name loaded fault text r none is loads break =
    let at : Loads before now name (Ok loaded) = subst (λ (x : Result Loaded LoadFault). Loads before now name x) is loads in
    subst (λ (t : List ℕ). Compiles before now name (Err (build.Refused fault loaded.files t))) (sym none)
    (record {
      answers = record {
        place = breaks_in (length loaded.files) loaded.lines fault (breaks loaded.lines fault break) at.within.lines.places;
        own = at.opened;
        printable = refl;
        read = where_map before.held (IsLoaded name loaded) (λ files. HasFirstFault files name fault loaded.files []) (λ files loads. met_in files loads break) (loaded_told before now name loaded at);
      };
      only = at.only;
    })
  where
    met_in : (files : HeldFiles) → IsLoaded name loaded files → AreNoModel loaded.lines fault → HasFirstFault files name fault loaded.files []
    met_in files loads breaks = of fault breaks where
      of : (met : Fault) → AreNoModel loaded.lines met → HasFirstFault files name met loaded.files []
      of _ (not_read met none) = no_statements loaded met loads none
      of _ (not_accepted trees met are first) = no_model loaded trees met [] loads are first

-- what the lines' answer says where it is a program, and where it is a fault
pub answered_program : (lines read : List Line) (r : Result PlainProgram ReadStop) (plain : PlainProgram) → lines ≡ read → r ≡ Ok plain → LinesAnswer lines r → AreLinesOf read plain
answered_program lines read r plain same is answer =
    subst (λ (ls : List Line). AreLinesOf ls plain) same (subst (λ (x : Result PlainProgram ReadStop). LinesAnswer lines x) is answer)

pub answered_fault : (lines read : List Line) (r : Result PlainProgram ReadStop) (e : ReadStop) (fault : Fault) → lines ≡ read → r ≡ Err e → e ≡ reading.Refused fault → LinesAnswer lines r → AreNoModel read fault
answered_fault lines read r e fault same is stop answer =
    subst (λ (ls : List Line). AreNoModel ls fault) same (subst (λ (x : Result PlainProgram ReadStop). LinesAnswer lines x) (is ∙ ap Err stop) answer)
