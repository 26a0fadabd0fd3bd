-- The words of a line, as bytes.
use Rattle.std.specs.Prelude.{ℕ, List, length, decimal}
use Rattle.play_script.specs.declared.text.Word.{Word}
use Rattle.play_script.specs.declared.text.Word.TheVariants.{Plain, Short, Long}

abbrev pub bytes_of : Word → List ℕ
bytes_of (Plain text) = text.now
bytes_of (Short n) = decimal n
bytes_of (Long n) = decimal n

-- at most as many bytes as a word takes
abbrev pub room_of : Word → ℕ
room_of (Plain text) = length text.now
room_of (Short n) = 10
room_of (Long n) = 20
