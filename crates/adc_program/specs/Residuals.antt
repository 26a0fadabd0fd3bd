-- What a residual play is to write, and what its queries tell and compute.
use Rattle.std.specs.Prelude.{◌≡◌, ℕ, ◌+◌, ◌*◌, ◌≤◌, List, [], map, sum_by, Option, Some, None, Result, Ok, Err}
use Rattle.std.specs.Result.{result_unwrap_or}
use Rattle.adc_ports.specs.Files.{Files}
use Rattle.book_model.specs.Book.{Book}
use Rattle.half_tables.specs.Residual.{residual_row, residual_fault}
use Rattle.residual_scan.specs.Answer.{residual_answer, residual_full_count}
use Rattle.residual_scan.specs.Misses.{computed}
use Rattle.prune_scan.specs.declared.meters.Meters.{Meters}
use Rattle.play_script.specs.declared.Role.TheVariants as role
use Rattle.play_script.specs.Play.{Means, Asking, Counts, counts_by}
use Rattle.adc_inputs.specs.declared.stop.InputError.{InputError}
use Rattle.adc_inputs.specs.declared.stop.InputError.TheVariants.{Malformed}
use Rattle.adc_inputs.specs.Names.{Name}
use Rattle.adc_inputs.specs.Inputs.{◌>>=◌, book_input}
use Rattle.adc_program.specs.Plays.{lines_by, asked_in}
use Rattle.adc_program.specs.Played.{Metered}

-- what an engine of residual codes makes of a vector, and answers and counts
abbrev pub by_residuals : Means
by_residuals = record { row = residual_row; answer = residual_answer; full = residual_full_count }

-- a book is malformed at the first field that a residual book may not have
abbrev pub refused_at : Book → Option ℕ → Result Book InputError
refused_at book None = Ok book
refused_at book (Some at) = Err (Malformed role.Book at)

-- the lines of a play by a book, if that is a residual book
unfoldable pub residual_by : Files → Name → Name → Name → Book → Result (List (List ℕ)) InputError
residual_by files base queries script book = refused_at book (residual_fault book) >>= lines_by by_residuals files base queries script

-- the lines of a residual play: the book is looked at first
unfoldable pub residual_lines : Files → Name → Name → Name → Name → Result (List (List ℕ)) InputError
residual_lines files book base queries script = book_input files book >>= residual_by files base queries script

-- what a query line tells, and how many tables of halves its query computes
pub record ResidualCounts : Type 0 where
  pub told : Counts
  pub halves : ℕ

-- with room for so many tables
abbrev pub residual_count : ℕ → Book → Asking → ResidualCounts
residual_count cache book asking = record { told = counts_by by_residuals book asking.query asking.rows; halves = computed cache book asking.query asking.rows }

-- those of a play by a book, and those of a play
abbrev pub residual_counts_by : Files → Name → Name → Name → ℕ → Book → List ResidualCounts
residual_counts_by files base queries script cache book = map (residual_count cache book) (asked_in by_residuals files base queries script book)

unfoldable pub residual_counts : Files → Name → Name → Name → Name → ℕ → List ResidualCounts
residual_counts files book base queries script cache = result_unwrap_or (book_input files book >>= λ b. Ok (residual_counts_by files base queries script cache b)) []

-- residual queries took a full distance for each of their full rows, computed exactly these tables, and read no more sums than they may
pub record ResidualWorks (queries : List ResidualCounts) (old new : Meters) : Type 0 where
  pub full : new.half_full ≡ old.half_full + sum_by (λ query. query.told.full) queries
  pub halves : new.halves ≡ old.halves + sum_by (λ query. query.halves) queries
  pub pairs : (old.pairs ≤ new.pairs) × (new.pairs ≤ old.pairs + sum_by (λ query. 2 * query.told.cells + 1) queries)

abbrev pub metered_of_residual : Meters → Metered
metered_of_residual meters = record { pairs = meters.pairs; full = meters.half_full; halves = meters.halves; blocks = meters.blocks; lanes = meters.lanes }
