-- The rows of the inputs by the names that a player has for them.
use Rattle.std.proofs.Common.{◌≡◌, ◌∙◌, ℕ, List, ◌++◌, length, take, ap₂, sym, arith}
use Rattle.std.proofs.lemmas.List.{take-append-le, take_all}
use Rattle.adc_ports.specs.Files.{Files}
use Rattle.play_script.specs.declared.Role.TheVariants as role
use Rattle.adc_program.specs.declared.player.Inputs.{Inputs}
use Rattle.adc_inputs.specs.Inputs.{rows_held}
use Rattle.adc_program.specs.Stages.{ArePlayed}

pub base_held : (files : Files) (d : ℕ) (inputs : Inputs) → ArePlayed files d inputs → inputs.base.checked.d ≡ d
    → rows_held files role.Base inputs.base.name.now d ≡ rows_held files inputs.base.role inputs.base.name.now inputs.base.checked.d
base_held files d inputs played size = ap₂ (λ r n. rows_held files r inputs.base.name.now n) (sym played.base_role) (sym size)

pub queries_held : (files : Files) (d : ℕ) (inputs : Inputs) → ArePlayed files d inputs → inputs.queries.checked.d ≡ d
    → rows_held files role.Queries inputs.queries.name.now d ≡ rows_held files inputs.queries.role inputs.queries.name.now inputs.queries.checked.d
queries_held files d inputs played size = ap₂ (λ r n. rows_held files r inputs.queries.name.now n) (sym played.queries_role) (sym size)

-- a row that was written into room of its size
pub whole_row : (n : ℕ) (row rest : List ℕ) → n ≡ length row → take n (row ++ rest) ≡ row
whole_row n row rest size = take-append-le n row rest (omega (arith, size)) ∙ take_all n row (omega (arith, size))
