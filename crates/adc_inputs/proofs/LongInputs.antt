-- Inputs that are too long are above a limit.
use Rattle.std.proofs.Common.{◌≡◌, ℕ, true, List, length, Err, refl}
use Rattle.std.specs.Prelude.{nat_lt}
use Rattle.adc_ports.specs.declared.What.TheVariants.{Bytes}
use Rattle.codebook_core.specs.Reading.{book_outcome}
use Rattle.play_script.specs.declared.Role.TheVariants as role
use Rattle.play_script.specs.Grammar.{script_outcome}
use Rattle.play_script.specs.SessionGrammar.{session_outcome}
use Rattle.adc_inputs.specs.declared.stop.InputError.TheVariants.{Limit}
use Rattle.adc_inputs.specs.Inputs.{of_role, of_script}

pub book_long : (bytes : List ℕ) → nat_lt 4194304 (length bytes) ≡ true → of_role role.Book (book_outcome bytes) ≡ Err (Limit role.Book Bytes (length bytes))
unfolding book_outcome
book_long bytes big = simp big refl

pub script_long : (bytes : List ℕ) → nat_lt 268435456 (length bytes) ≡ true → of_script (script_outcome bytes) ≡ Err (Limit role.Script Bytes (length bytes))
unfolding script_outcome
script_long bytes big = simp big refl

pub sessions_long : (bytes : List ℕ) → nat_lt 268435456 (length bytes) ≡ true → of_script (session_outcome bytes) ≡ Err (Limit role.Script Bytes (length bytes))
unfolding session_outcome
sessions_long bytes big = simp big refl
