-- The longest sign at the front of some bytes.
use Rattle.std.specs.Prelude.{ℕ, List, length, take, nat_le, nat_lt, ◌&&◌, Option, Some, None, if◌then◌else◌}
use Rattle.zim_lex.specs.Pieces.{is_sign}

-- no sign has more than two bytes
abbrev pub longest_sign : List ℕ → Option ℕ
longest_sign bytes =
    if nat_le 2 (length bytes) && is_sign (take 2 bytes) then Some 2
    else (if nat_lt 0 (length bytes) && is_sign (take 1 bytes) then Some 1 else None)
