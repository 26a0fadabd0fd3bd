-- What a run comes to that is a residual play.
use Rattle.std.proofs.Common.{◌≡◌, ℕ, List, [], Some, refl, ap}
use Rattle.adc_ports.specs.Files.{Files}
use Rattle.adc_inputs.specs.Names.{Name}
use Rattle.adc_inputs.specs.Words.{Job, Residual, job_of}
use Rattle.adc_program.specs.Residuals.{residual_lines}
use Rattle.adc_program.specs.Verdict.{output_of, residuals_of, residuals_by, verdict_residuals}
use Rattle.adc_program.proofs.Making.{output_by}

pub residual_is : (files : Files) (book base queries script : Name) (cache : ℕ) → output_of files (Residual book base queries script cache) ≡ output_by (residual_lines files book base queries script) []
unfolding output_of
residual_is files book base queries script cache = refl

pub residuals_job : (words : List Name) (files : Files) (job : Job) → job_of words ≡ Some job → verdict_residuals words files ≡ residuals_of files job
unfolding verdict_residuals
residuals_job words files job e = ap (residuals_by files) e
