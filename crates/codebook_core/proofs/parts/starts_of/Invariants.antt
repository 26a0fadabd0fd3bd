use Rattle.std.proofs.Common.{◌≡◌, ℕ, ◌<◌, get_or, take, vec_len, sum}
use Rattle.codebook_core.proofs.parts.starts_of.Given as goal

abbrev pub invariant-loop-n : goal.invariant-loop-n
invariant-loop-n l = record {
  count : vec_len l.starts ≡ l.n-index;
  next : l.next ≡ sum (take l.n-index l.numbers);
  each : (j : ℕ) → j < l.n-index → get_or l.starts.items j 0 ≡ sum (take j l.numbers);
}
