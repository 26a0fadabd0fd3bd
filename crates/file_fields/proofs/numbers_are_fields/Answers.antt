use Rattle.std.specs.Int.{w8, w16, w32}
use Rattle.file_fields.proofs.Laws.{numbers_are_fields}
use Rattle.file_fields.proofs.Numbers.{wide8, wide16, wide32}
use Rattle.file_fields.proofs.numbers_are_fields.Goals as goal

pub returns-clause-one : goal.returns-clause-one
returns-clause-one c = numbers_are_fields w8 256 wide8

pub returns-clause-two : goal.returns-clause-two
returns-clause-two c = numbers_are_fields w16 65536 wide16

pub returns-clause-four : goal.returns-clause-four
returns-clause-four c = numbers_are_fields w32 _ wide32
