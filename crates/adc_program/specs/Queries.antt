-- Why a query line is refused.
use Rattle.std.specs.Prelude.{ℕ, ◌||◌, Option, Some, None, nat_lt, nat_le, ◌==◌, List, length, if◌then◌else◌}
use Rattle.std.specs.List.{list_any}
use Rattle.play_script.specs.declared.Cause.{Cause}
use Rattle.play_script.specs.declared.Cause.TheVariants.{Row, K, Wanted, Taken, Sessions}

-- the first cause that refuses a query line, where there are this many query rows
abbrev pub query_cause : ℕ → ℕ → ℕ → ℕ → Option Cause
query_cause rows number k wanted = if nat_le rows number then Some Row
    else (if nat_lt k 1 || nat_lt 1000 k then Some K
    else (if nat_lt wanted 1 || nat_lt 4194304 wanted then Some Wanted
    else None))

-- the first cause that refuses a begin line, where sessions of these numbers are open
abbrev pub or_else : Option Cause → Option Cause → Option Cause
or_else None others = others
or_else (Some why) others = Some why

abbrev pub begin_line_cause : ℕ → List ℕ → ℕ → ℕ → ℕ → ℕ → Option Cause
begin_line_cause rows opened sid number k wanted = or_else (query_cause rows number k wanted) (if list_any (λ n. n == sid) opened then Some Taken else (if nat_le 64 (length opened) then Some Sessions else None))
