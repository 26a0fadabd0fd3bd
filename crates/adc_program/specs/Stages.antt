-- What a run plays on.
use Rattle.std.specs.Prelude.{◌≡◌, ℕ, List, Ok}
use Rattle.adc_ports.specs.Files.{Files}
use Rattle.book_model.specs.Book.{Book}
use Rattle.play_script.specs.declared.Command.{Command}
use Rattle.play_script.specs.Play.{Means, Stage, play_by, asked_by}
use Rattle.play_script.specs.declared.Role.TheVariants as role
use Rattle.adc_inputs.specs.declared.job.PlayJob.{PlayJob}
use Rattle.adc_program.specs.declared.player.Inputs.{Inputs}
use Rattle.adc_inputs.specs.Inputs.{rows_held, IsCheckOf}
use Rattle.adc_program.specs.Plays.{lines_by, asked_in}

-- the book, and the rows of base and queries as the files hold them
abbrev pub stage_of : Files → Inputs → Book → Stage
stage_of files inputs book = record {
  book = book;
  base = rows_held files role.Base inputs.base.name.now book.d;
  queries = rows_held files role.Queries inputs.queries.name.now book.d;
}

-- base and queries were checked, with rows of d components
pub record ArePlayed (files : Files) (d : ℕ) (inputs : Inputs) : Type 0 where
  pub base_role : inputs.base.role ≡ role.Base
  pub queries_role : inputs.queries.role ≡ role.Queries
  pub base : IsCheckOf files role.Base inputs.base.name.now d inputs.base.checked
  pub queries : IsCheckOf files role.Queries inputs.queries.name.now d inputs.queries.checked

-- what these names come to is a play of this script on these inputs, and what it asks
pub record AreOpened (means : Means) (files : Files) (names : PlayJob) (book : Book) (inputs : Inputs) (script : List Command) : Type 0 where
  pub asked : asked_in means files names.base.now names.queries.now names.script.now book ≡ asked_by means (stage_of files inputs book) script
  pub output : lines_by means files names.base.now names.queries.now names.script.now book ≡ Ok (play_by means (stage_of files inputs book) script)
  pub played : ArePlayed files book.d inputs
