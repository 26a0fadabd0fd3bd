-- What the words and the files of a run come to.
use Rattle.std.specs.Prelude.{List, [], Option, Some, None, Result, Ok}
use Rattle.adc_ports.specs.Files.{Files}
use Rattle.adc_inputs.specs.declared.stop.InputError.{InputError}
use Rattle.adc_inputs.specs.Names.{Name}
use Rattle.adc_inputs.specs.Words.{Job, Play, Sample, Info, Build, Upgrade, Search, Radius, Recall, Residual, Exact, Rerank, Allowed, job_of, Sessions}
use Rattle.adc_inputs.specs.Inputs.{◌>>=◌}
use Rattle.adc_program.specs.Outputs.{Output, printed, Verdict, Usage, verdict_of}
use Rattle.adc_program.specs.Infos.{info_lines}
use Rattle.adc_program.specs.Builds.{build_output, upgrade_output}
use Rattle.adc_program.specs.Plays.{play_lines, play_counts}
use Rattle.adc_program.specs.Searches.{search_output}
use Rattle.adc_program.specs.SessionPlays.{session_lines, session_play_counts}
use Rattle.adc_program.specs.Samples.{lines_of_sample, counts_of_sample}
use Rattle.adc_program.specs.Radii.{radius_lines, radius_counts}
use Rattle.adc_program.specs.Recalls.{recall_lines}
use Rattle.adc_program.specs.Residuals.{ResidualCounts, residual_lines, residual_counts}
use Rattle.adc_program.specs.Exacts.{exact_output}
use Rattle.adc_program.specs.Reranks.{rerank_output}
use Rattle.adc_program.specs.Allows.{allowed_output}

-- what a job is to write, or the first thing that is wrong with its inputs
unfoldable pub output_of : Files → Job → Result Output InputError
output_of files (Play book base queries script) = play_lines files book base queries script >>= λ lines. Ok (printed lines (play_counts files book base queries script))
output_of files (Sample start rows) = lines_of_sample (record { start = start; rows = rows }) >>= λ lines. Ok (printed lines (counts_of_sample (record { start = start; rows = rows })))
output_of files (Info index) = info_lines files index >>= λ lines. Ok (printed lines [])
output_of files (Build book base index) = build_output files book base index
output_of files (Upgrade old new) = upgrade_output files old new
output_of files (Search index queries k wanted out) = search_output files index queries k wanted out
output_of files (Radius index queries r wanted) = radius_lines files index queries r wanted >>= λ lines. Ok (printed lines (radius_counts files index queries r wanted))
output_of files (Recall found truth k) = recall_lines files found truth k >>= λ lines. Ok (printed lines [])
output_of files (Residual book base queries script cache) = residual_lines files book base queries script >>= λ lines. Ok (printed lines [])
output_of files (Exact base queries k out) = exact_output files base queries k out
output_of files (Rerank index base queries found k wanted out) = rerank_output files index base queries found k wanted out
output_of files (Allowed index queries k wanted allow out) = allowed_output files index queries k wanted allow out
output_of files (Sessions book base queries script) = session_lines files book base queries script >>= λ lines. Ok (printed lines (session_play_counts files book base queries script))

abbrev pub verdict_by : Files → Option Job → Verdict
verdict_by files None = Usage
verdict_by files (Some job) = verdict_of (output_of files job)

-- what words and files come to
unfoldable pub verdict : List Name → Files → Verdict
verdict words files = verdict_by files (job_of words)

-- what the residual queries of a job tell and compute
abbrev pub residuals_of : Files → Job → List ResidualCounts
residuals_of files (Residual book base queries script cache) = residual_counts files book base queries script cache
residuals_of files _ = []

abbrev pub residuals_by : Files → Option Job → List ResidualCounts
residuals_by files None = []
residuals_by files (Some job) = residuals_of files job

-- and those of words and files
unfoldable pub verdict_residuals : List Name → Files → List ResidualCounts
verdict_residuals words files = residuals_by files (job_of words)
