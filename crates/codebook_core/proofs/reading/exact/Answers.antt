use Rattle.std.proofs.Common.{arith}
use Rattle.codebook_core.specs.Any.{view_any}
use Rattle.codebook_core.proofs.Decoded.{ended_late}
use Rattle.codebook_core.proofs.reading.exact.Goals as goal

pub returns-then-at-bytes : goal.returns-then-at-bytes
returns-then-at-bytes c = ended_late c.args.bytes.now (view_any c.in_ok-book.book) c.in_ok-book.at (omega (arith, c.if-bytes-gt4194304.false)) c.in_ok-book.ensures.exact c.if-at-bytes.true
