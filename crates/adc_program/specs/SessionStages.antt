-- What a play with sessions is played on.
use Rattle.std.specs.Prelude.{◌≡◌, List, Ok}
use Rattle.adc_ports.specs.Files.{Files}
use Rattle.book_model.specs.Book.{Book}
use Rattle.play_script.specs.declared.SessionCommand.{SessionCommand}
use Rattle.play_script.specs.Sessions.{session_play, session_counts}
use Rattle.adc_inputs.specs.declared.job.PlayJob.{PlayJob}
use Rattle.adc_program.specs.declared.player.Inputs.{Inputs}
use Rattle.adc_program.specs.SessionPlays.{session_lines_by, session_counts_by}
use Rattle.adc_program.specs.Stages.{stage_of, ArePlayed}

-- what these names come to is a play of this script on these inputs, and what its queries and sessions visited
pub record AreOpenedFor (files : Files) (names : PlayJob) (book : Book) (inputs : Inputs) (script : List SessionCommand) : Type 0 where
  pub counts : session_counts_by files names.base.now names.queries.now names.script.now book ≡ session_counts (stage_of files inputs book) script
  pub output : session_lines_by files names.base.now names.queries.now names.script.now book ≡ Ok (session_play (stage_of files inputs book) script)
  pub played : ArePlayed files book.d inputs
