-- Where the bytes of a name or a text stand, for private contracts alone.
use Rattle.std.specs.Prelude.{ℕ, List}
use Rattle.zim_fault.specs.declared.bytes.Held.{Held}
use Rattle.zim_fault.specs.declared.bytes.Held.TheVariants.{Short, Long}

-- the bytes that are held
abbrev pub bytes_held : Held → List ℕ
bytes_held (Short bytes) = bytes
bytes_held (Long bytes) = bytes.value
