-- What the answer of reading an index tells of an input.
use Rattle.std.proofs.Common.{◌≡◌, ℕ, List, Ok, Err, refl}
use Rattle.std.specs.Prelude.{Option, Some, None, option_map, Result}
use Rattle.adc_ports.specs.Files.{Files, Rose}
use Rattle.adc_ports.specs.States.{ShelfState, OnlyReads, SameReads}
use Rattle.adc_ports.specs.Reading as fields
use Rattle.play_script.specs.declared.Role.TheVariants as role
use Rattle.index_file.specs.Reading.{Indexed, index_outcome}
use Rattle.index_file.specs.View.{Refuses}
use Rattle.index_file.specs.declared.index.IndexError.{IndexError}
use Rattle.index_file.specs.declared.index.IndexError.TheVariants as index
use Rattle.adc_inputs.specs.declared.stop.InputError.{InputError}
use Rattle.adc_inputs.specs.Inputs.{◌>>=◌, of_role, bytes_or_missing}
use Rattle.adc_inputs.specs.Indexes.{index_input, stop_of_index}
use Rattle.adc_inputs.specs.Steps.{Stops, IsDue}

abbrev by_file : Option (List ℕ) → Result Indexed InputError
by_file file = bytes_or_missing role.Index file >>= λ bytes. of_role role.Index (index_outcome bytes)

found_ok : (outcome : Result Indexed fields.Fault) (v : Indexed) → ◌≡◌ {A = Option (Result Indexed fields.Fault)} (Some outcome) (Some (Ok v)) → outcome ≡ Ok v
found_ok outcome v e = cc

found_err : (outcome : Result Indexed fields.Fault) (fault : fields.Fault) → ◌≡◌ {A = Option (Result Indexed fields.Fault)} (Some outcome) (Some (Err fault)) → outcome ≡ Err fault
found_err outcome fault e = cc

by_ok : (file : Option (List ℕ)) (v : Indexed) → option_map index_outcome file ≡ Some (Ok v) → by_file file ≡ Ok v
by_ok None v e = cc
by_ok (Some bytes) v e = rw (found_ok (index_outcome bytes) v e) refl

by_err : (file : Option (List ℕ)) (fault : fields.Fault) → option_map index_outcome file ≡ Some (Err fault) → by_file file ≡ of_role role.Index (Err fault)
by_err None fault e = cc
by_err (Some bytes) fault e = rw (found_err (index_outcome bytes) fault e) refl

by_none : (file : Option (List ℕ)) → option_map index_outcome file ≡ None → by_file file ≡ by_file None
by_none None e = refl
by_none (Some bytes) e = cc

pub index_ok : (files : Files) (name : List ℕ) (v : Indexed) → option_map index_outcome (files name) ≡ Some (Ok v) → index_input files name ≡ Ok v
unfolding index_input
index_ok files name v e = by_ok (files name) v e

pub index_err : (files : Files) (name : List ℕ) (error : IndexError) → Refuses error (option_map index_outcome (files name)) → IsDue (stop_of_index error) (index_input files name)
unfolding index_input
index_err files name index.Missing refuses = by_none (files name) refuses
index_err files name (index.Malformed at) refuses = by_err (files name) (fields.Malformed at) refuses
index_err files name (index.Limit what value) refuses = by_err (files name) (fields.Limit what value) refuses
index_err files name index.ReadFault refuses = tt
index_err files name index.Memory refuses = tt

pub index_cause : (error : IndexError) (old new : ShelfState) → OnlyReads old new → (error ≡ index.ReadFault → Rose old.read_faults new.read_faults) → (error ≡ index.Memory → SameReads old new)
    → Stops (stop_of_index error) old new
index_cause index.Missing old new only rose same = tt
index_cause (index.Malformed at) old new only rose same = tt
index_cause (index.Limit what value) old new only rose same = tt
index_cause index.ReadFault old new only rose same = rose refl
index_cause index.Memory old new only rose same = (same refl, only.writes)
