-- Rows at their places in a file.
use Rattle.std.specs.Prelude.{◌≡◌, ℕ, List, length, take, drop, Some, Result, Ok, Err, slice_get}
use Rattle.vec_files.specs.declared.VecError.{VecError}
use Rattle.vec_files.specs.declared.VecError.TheVariants.{Missing, Malformed, Limit, ReadFault, Memory}

-- these bytes stand there
abbrev pub StandsAt : List ℕ → ℕ → List ℕ → Type 0
StandsAt bytes at part = take (length part) (drop at bytes) ≡ part

-- a row that begins there is refused at its first byte, or a call on the shelf stopped
abbrev pub RefusesRow : VecError → ℕ → Type 0
RefusesRow Missing at = ⊥
RefusesRow (Malformed place) at = place ≡ at
RefusesRow (Limit what value) at = ⊥
RefusesRow ReadFault at = Unit {0}
RefusesRow Memory at = Unit {0}

abbrev pub OnMalformed : VecError → Type 0 → Type 0
OnMalformed Missing P = Unit {0}
OnMalformed (Malformed place) P = P
OnMalformed (Limit what value) P = Unit {0}
OnMalformed ReadFault P = Unit {0}
OnMalformed Memory P = Unit {0}

-- the row of this number is given, unless a call on the shelf stopped
abbrev pub GivesRow : {A T : Type 0} → Result T VecError → List A → List (List A) → ℕ → Type 0
GivesRow (Ok done) into rows row = slice_get rows row ≡ Some into
GivesRow (Err Missing) into rows row = ⊥
GivesRow (Err (Malformed place)) into rows row = ⊥
GivesRow (Err (Limit what value)) into rows row = ⊥
GivesRow (Err ReadFault) into rows row = Unit {0}
GivesRow (Err Memory) into rows row = Unit {0}
