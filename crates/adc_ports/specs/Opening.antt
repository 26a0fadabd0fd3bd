-- Names that were opened to read, and the files of the system that they led to.
use Rattle.std.specs.Prelude.{ℕ, Bool, List, not, ◌&&◌, ◌==◌, bytes_eq}

-- a name, and the numbers of its file: that of the device, and its own there
pub record OpenedName : Type 0 where
  pub name : List ℕ
  pub device : ℕ
  pub number : ℕ

-- it led to the file with these numbers, and is another name
abbrev pub is_other : OpenedName → List ℕ → ℕ → ℕ → Bool
is_other opened name device number = (opened.device == device && opened.number == number) && not (bytes_eq opened.name name)
