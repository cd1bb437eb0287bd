-- What is known of the folder on disk: the name that is begun, and its counts.
use Rattle.std.specs.Prelude.{None, option_map}
use Rattle.zim_gate.specs.declared.disk_folders.DiskFolder.{DiskFolder}
use Rattle.zim_gate.specs.Folder.{FolderState}
use Rattle.zim_gate.specs.Untold.{untold_folder}

-- what is known of a folder on disk
abbrev pub disk_state : {R F D : Type 0} → DiskFolder R F D → FolderState
disk_state folder = untold_folder (option_map (λ it. it.name) folder.begun) folder.read_faults folder.write_faults

-- nothing is begun, and nothing has failed
abbrev pub new_disk : FolderState
new_disk = untold_folder None 0 0
