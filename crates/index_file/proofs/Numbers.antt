-- Numbers of byteorder as std reads them.
use Rattle.std.proofs.Common.{◌≡◌, ℕ, List, take, arith}
use Rattle.std.specs.Int.{w16, w32, from_le_bytes}
use Rattle.byteorder.specs.Endian.{little_number}
use Rattle.byteorder.specs.Numbers.{little_from-take}

pub number_is : (xs : List ℕ) → from_le_bytes w32 (take 4 xs) ≡ little_number 4 xs
number_is xs = omega (arith, little_from-take 0 4 4 xs (omega arith))

pub short_is : (xs : List ℕ) → from_le_bytes w16 (take 2 xs) ≡ little_number 2 xs
short_is xs = omega (arith, little_from-take 0 2 2 xs (omega arith))
