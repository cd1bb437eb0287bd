-- The rows of what is kept of a file are those of the file.
use Rattle.std.proofs.Common.{◌≡◌, ℕ, List, Option, Some, None, Result, Ok, Err, ap, sym, ◌∙◌}
use Rattle.std.specs.Prelude.{IfSome, IfNone}
use Rattle.std.specs.FinMap as map
use Rattle.zim_answer.specs.Answer.{Answer}
use Rattle.zim_answer.specs.Gives.{Gives}
use Rattle.zim_fault.specs.declared.faults.Fault as faults
use Rattle.zim_gate.specs.Counts.{Rose}
use Rattle.zim_gate.specs.Folder.{HeldFiles, FolderState}
use Rattle.zim_read.specs.declared.bytes.ReadBytes.{ReadBytes}
use Rattle.zim_read.specs.declared.stops.RowsStop.{RowsStop}
use Rattle.zim_read.specs.declared.stops.RowsStop.TheVariants.{Fault, Read, Memory}
use Rattle.zim_read.specs.Causes.{rows_cause}
use Rattle.zim_read.specs.Private.{kept_of}
use Rattle.zim_read.specs.Reading.{IfRowsUnread, IfRowsFault, IsOfFile, ReadsFile}

if_some : (P Q : HeldFiles → Type 0) (held : Option HeldFiles) → ((files : HeldFiles) → P files → Q files) → IfSome held P → IfSome held Q
if_some P Q None follows h = tt
if_some P Q (Some files) follows h = follows files h

if_none : (P Q : Type 0) (held : Option HeldFiles) → (P → Q) → IfNone held P → IfNone held Q
if_none P Q None follows h = follows h
if_none P Q (Some files) follows h = tt

module _ {V A : Type 0} (view : V → A) (kept : ReadBytes → Answer A faults.Fault) (gives : List ℕ → Answer A faults.Fault) (rose : Type 0) where
  refused : (held : Option (List ℕ)) (stop : RowsStop) → IsOfFile {V = ReadBytes} {A = ReadBytes} (λ read. read) (λ bytes. Ok (kept_of bytes)) rose held (Err stop) → IsOfFile {V = V} view gives rose held (Err stop)
  refused (Some bytes) (Fault fault) h = cc
  refused (Some bytes) Read h = h
  refused (Some bytes) Memory h = tt
  refused None (Fault fault) h = h
  refused None Read h = tt
  refused None Memory h = tt

  refused_unread : (stop : RowsStop) → IfRowsUnread {V = ReadBytes} (Err stop) rose → IfRowsUnread {V = V} (Err stop) rose
  refused_unread (Fault fault) h = tt
  refused_unread Read h = h
  refused_unread Memory h = tt

  module _ (same : (bytes : List ℕ) → kept (kept_of bytes) ≡ gives bytes) where
    of_bytes : (read : ReadBytes) (bytes : List ℕ) → ◌≡◌ {A = Answer ReadBytes faults.Fault} (Ok (kept_of bytes)) (Ok read) → kept read ≡ gives bytes
    of_bytes read bytes h = let is : kept_of bytes ≡ read = cc in sym (ap kept is) ∙ same bytes

    answered : (held : Option (List ℕ)) (read : ReadBytes) (result : Result V RowsStop) → IsOfFile {V = ReadBytes} {A = ReadBytes} (λ read. read) (λ bytes. Ok (kept_of bytes)) rose held (Ok read) → Gives view rows_cause (kept read) result → IsOfFile view gives rose held result
    answered (Some bytes) read (Ok value) h is = sym (of_bytes read bytes h) ∙ is
    answered (Some bytes) read (Err (Fault fault)) h is = sym (of_bytes read bytes h) ∙ is
    answered (Some bytes) read (Err Read) h is = absurd is
    answered (Some bytes) read (Err Memory) h is = tt
    answered None read result h is = absurd h

    answered_unread : (answer : Answer A faults.Fault) (result : Result V RowsStop) → Gives view rows_cause answer result → IfRowsUnread result rose
    answered_unread answer (Ok value) is = tt
    answered_unread answer (Err (Fault fault)) is = tt
    answered_unread answer (Err Read) is = absurd is
    answered_unread answer (Err Memory) is = tt

fault_of : (V : Type 0) (file : ℕ) (stop : RowsStop) → IfRowsFault {V = ReadBytes} (Err stop) (λ fault. fault.place.file ≡ file) → IfRowsFault {V = V} (Err stop) (λ fault. fault.place.file ≡ file)
fault_of V file (Fault fault) h = h
fault_of V file Read h = tt
fault_of V file Memory h = tt

-- a file that isn't read gives no rows
pub reads_nothing : {V A : Type 0} (view : V → A) (gives : List ℕ → Answer A faults.Fault) (before now : FolderState) (name : List ℕ) (file : ℕ) (stop : RowsStop) → ReadsFile (λ read. read) before now name file (λ bytes. Ok (kept_of bytes)) (Err stop) → ReadsFile view before now name file gives (Err stop)
reads_nothing {V} {A} view gives before now name file stop reads = record {
  told = if_some (λ files. IsOfFile {V = ReadBytes} {A = ReadBytes} (λ read. read) (λ bytes. Ok (kept_of bytes)) (Rose before.read_faults now.read_faults) (map.get files name) (Err stop))
      (λ files. IsOfFile {V = V} view gives (Rose before.read_faults now.read_faults) (map.get files name) (Err stop)) before.held
      (λ files. refused view (λ read. gives read.bytes) gives (Rose before.read_faults now.read_faults) (map.get files name) stop) reads.told;
  untold = if_none (IfRowsUnread {V = ReadBytes} (Err stop) (Rose before.read_faults now.read_faults)) (IfRowsUnread {V = V} (Err stop) (Rose before.read_faults now.read_faults)) before.held
      (refused_unread view (λ read. gives read.bytes) gives (Rose before.read_faults now.read_faults) stop) reads.untold;
  place = fault_of V file stop reads.place;
  only = reads.only;
  begun = reads.begun;
}

-- one that is read gives the rows of what is kept
pub reads_rows : {V A : Type 0} (view : V → A) (kept : ReadBytes → Answer A faults.Fault) (gives : List ℕ → Answer A faults.Fault) (before now : FolderState) (name : List ℕ) (file : ℕ) (read : ReadBytes) (result : Result V RowsStop) → ((bytes : List ℕ) → kept (kept_of bytes) ≡ gives bytes)
    → ReadsFile (λ read. read) before now name file (λ bytes. Ok (kept_of bytes)) (Ok read) → Gives view rows_cause (kept read) result → IfRowsFault result (λ fault. fault.place.file ≡ file) → ReadsFile view before now name file gives result
reads_rows {V} {A} view kept gives before now name file read result same reads is place = record {
  told = if_some (λ files. IsOfFile {V = ReadBytes} {A = ReadBytes} (λ read. read) (λ bytes. Ok (kept_of bytes)) (Rose before.read_faults now.read_faults) (map.get files name) (Ok read))
      (λ files. IsOfFile view gives (Rose before.read_faults now.read_faults) (map.get files name) result) before.held
      (λ files h. answered view kept gives (Rose before.read_faults now.read_faults) same (map.get files name) read result h is) reads.told;
  untold = if_none (IfRowsUnread {V = ReadBytes} (Ok read) (Rose before.read_faults now.read_faults)) (IfRowsUnread result (Rose before.read_faults now.read_faults)) before.held
      (λ _. answered_unread view kept gives (Rose before.read_faults now.read_faults) same (kept read) result is) reads.untold;
  place = place;
  only = reads.only;
  begun = reads.begun;
}
