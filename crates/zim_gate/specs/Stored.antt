-- Files in memory, of which the first of a name counts.
use Rattle.std.specs.Prelude.{ℕ, ◌-◌, Bool, true, false, ◌&&◌, nat_le, ◌==◌, List, [], ◌∷◌, ◌++◌, length, map, Option, None, Some}
use Rattle.std.specs.FinMap as finite
use Rattle.zim_gate.specs.declared.stored.Stored.{Stored}
use Rattle.zim_gate.specs.Folder.{HeldFiles}

-- the names and bytes of stored files
abbrev pub entries_of : List Stored → List (List ℕ × List ℕ)
entries_of files = map (λ file. (file.name, file.content.bytes)) files

-- what stored files hold by name
abbrev pub files_of : List Stored → HeldFiles
files_of files = finite.from_entries (entries_of files)

-- stored files with bytes appended to the first
abbrev pub first_appended : List Stored → List ℕ → List Stored
first_appended [] bytes = []
first_appended (file ∷ files) bytes =
    record { name = file.name; content = record { bytes = file.content.bytes ++ bytes; room = file.content.room } } ∷ files

-- the most bytes that the first file can have
abbrev pub first_room : List Stored → ℕ
first_room [] = 0
first_room (file ∷ files) = file.content.room

-- how many bytes more the first file takes
abbrev pub room_left : List Stored → ℕ
room_left [] = 0
room_left (file ∷ files) = file.content.room - length file.content.bytes

-- the name that is begun: that of the first file, where one is begun
abbrev pub begun_name : Bool → List Stored → Option (List ℕ)
begun_name true (file ∷ files) = Some file.name
begun_name true [] = None
begun_name false files = None

-- the file that is begun is there, has the room of all, and has at most the bytes that were put
abbrev pub is_ready : Bool → List Stored → ℕ → ℕ → Bool
is_ready false files room wrote = true
is_ready true [] room wrote = false
is_ready true (file ∷ files) room wrote = (file.content.room == room) && nat_le (length file.content.bytes) wrote

-- where no call is to fail, nothing fails while fewer bytes than the room were put
abbrev pub promised_room : List ℕ → ℕ → Option ℕ
promised_room [] room = Some room
promised_room (_ ∷ _) room = None

-- stored files with an empty one before the others
abbrev pub new_first : List ℕ → ℕ → List Stored → List Stored
new_first name room files = record { name = name; content = record { bytes = []; room = room } } ∷ files
