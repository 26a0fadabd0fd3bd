-- The lines that are printed.
use Rattle.std.specs.Prelude.{ℕ, Bool, List, [], ◌∷◌, ◌++◌, Option, Some, None, map, codes, decimal, if◌then◌else◌}
use Rattle.std.specs.List.{join_with_byte}
use Rattle.adc_ports.specs.declared.What.{What}
use Rattle.adc_ports.specs.declared.What.TheVariants.{Bytes, D, K0, K1, G, Book as WhatBook, Rows, Id as WhatId, Lines}
use Rattle.play_script.specs.declared.Role.{Role}
use Rattle.play_script.specs.declared.Role.TheVariants.{Book as BookRole, Base, Queries, Script, Index, Out, Found, Truth, Allow}
use Rattle.play_script.specs.declared.Cause.{Cause}
use Rattle.play_script.specs.declared.Cause.TheVariants.{Row, Id, K, Wanted, Present, Absent, Full, Held, Taken, Sessions, Cells}

-- words with a space between each two, and the line's end
abbrev pub line : List (List ℕ) → List ℕ
line words = join_with_byte 32 words ++ 10 ∷ []

abbrev pub cause_name : Cause → List ℕ
cause_name Row = codes "row"
cause_name Id = codes "id"
cause_name K = codes "k"
cause_name Wanted = codes "wanted"
cause_name Present = codes "present"
cause_name Absent = codes "absent"
cause_name Full = codes "full"
cause_name Held = codes "held"
cause_name Taken = codes "taken"
cause_name Sessions = codes "sessions"
cause_name Cells = codes "cells"

unfoldable pub insert_done : ℕ → ℕ → List ℕ
insert_done id cell = line (codes "insert" ∷ decimal id ∷ codes "cell" ∷ decimal cell ∷ [])

-- a verb and its first number, and why it was refused
unfoldable pub refused : List ℕ → ℕ → Cause → List ℕ
refused verb n cause = line (verb ∷ decimal n ∷ codes "refused" ∷ cause_name cause ∷ [])

unfoldable pub delete_done : ℕ → List ℕ
delete_done id = line (codes "delete" ∷ decimal id ∷ [])

unfoldable pub put_done : ℕ → ℕ → List ℕ → List ℕ
put_done id cell how = line (codes "put" ∷ decimal id ∷ codes "cell" ∷ decimal cell ∷ how ∷ [])

unfoldable pub query_done : ℕ → ℕ → ℕ → ℕ → List ℕ
query_done row cells live full = line (codes "query" ∷ decimal row ∷ codes "cells" ∷ decimal cells ∷ codes "live" ∷ decimal live ∷ codes "full" ∷ decimal full ∷ [])

unfoldable pub hit : ℕ → ℕ → List ℕ
hit id distance = line (codes "hit" ∷ decimal id ∷ decimal distance ∷ [])

unfoldable pub end_line : ℕ → ℕ → List ℕ
end_line commands live = line (codes "end" ∷ codes "commands" ∷ decimal commands ∷ codes "live" ∷ decimal live ∷ [])

-- a number and its name
abbrev pub named : List ℕ → ℕ → List (List ℕ)
named name n = name ∷ decimal n ∷ []

-- how many cells and rows were visited, and how many of these rows were full
abbrev pub counts : ℕ → ℕ → ℕ → List (List ℕ)
counts cells live full = named (codes "cells") cells ++ named (codes "live") live ++ named (codes "full") full

-- the lines of a session: its opening at a stamp, a step and whether the visit is over, its end, and its end before the visit was over
unfoldable pub begin_done : ℕ → ℕ → List ℕ
begin_done sid stamp = line (codes "begin" ∷ decimal sid ∷ named (codes "stamp") stamp)

unfoldable pub step_done : ℕ → ℕ → ℕ → ℕ → Bool → List ℕ
step_done sid cells live full ended = line (codes "step" ∷ decimal sid ∷ counts cells live full ++ (if ended then codes "ended" else codes "more") ∷ [])

unfoldable pub session_done : ℕ → ℕ → ℕ → ℕ → List ℕ
session_done sid cells live full = line (codes "session" ∷ decimal sid ∷ counts cells live full)

unfoldable pub session_dropped : ℕ → List ℕ
session_dropped sid = line (codes "session" ∷ decimal sid ∷ codes "dropped" ∷ [])

-- the lines of the other commands
unfoldable pub build_done : ℕ → ℕ → List ℕ
build_done rows cells = line (codes "build" ∷ codes "rows" ∷ decimal rows ∷ codes "cells" ∷ decimal cells ∷ [])

unfoldable pub upgrade_done : ℕ → ℕ → List ℕ
upgrade_done rows cells = line (codes "upgrade" ∷ named (codes "rows") rows ++ named (codes "cells") cells)

unfoldable pub search_done : ℕ → List ℕ
search_done queries = line (codes "search" ∷ codes "queries" ∷ decimal queries ∷ [])

unfoldable pub exact_done : ℕ → ℕ → List ℕ
exact_done queries rows = line (codes "exact" ∷ named (codes "queries") queries ++ named (codes "rows") rows)

unfoldable pub rerank_done : ℕ → List ℕ
rerank_done queries = line (codes "rerank" ∷ named (codes "queries") queries)

unfoldable pub recall_done : ℕ → ℕ → ℕ → List ℕ
recall_done k hits rows = line (codes "recall" ∷ decimal k ∷ named (codes "hits") hits ++ named (codes "rows") rows)

unfoldable pub allowed_done : ℕ → List ℕ
allowed_done queries = line (codes "allowed" ∷ named (codes "queries") queries)

-- a query within a radius, and the end of such queries
unfoldable pub radius_query_done : ℕ → ℕ → ℕ → ℕ → ℕ → List ℕ
radius_query_done row cells live full hits = line (codes "query" ∷ decimal row ∷ counts cells live full ++ named (codes "hits") hits)

unfoldable pub radius_done : ℕ → List ℕ
radius_done queries = line (codes "radius" ∷ named (codes "queries") queries)

-- the widths of a shape with a dash between each two
abbrev pub shape_name : List ℕ → List ℕ
shape_name widths = join_with_byte 45 (map decimal widths)

-- the scale of a book of version 2
abbrev pub scale_words : Option ℕ → List (List ℕ)
scale_words None = []
scale_words (Some scale) = named (codes "scale") scale

-- the numbers of a book of a shape with these widths, and of the rows under it
unfoldable pub info_line : ℕ → ℕ → ℕ → ℕ → List ℕ → ℕ → ℕ → ℕ → Option ℕ → List ℕ
info_line d h k0 k1 widths g rows cells scale = line (codes "info" ∷ named (codes "d") d ++ named (codes "h") h ++ named (codes "k0") k0 ++ named (codes "k1") k1
    ++ codes "shape" ∷ shape_name widths ∷ named (codes "g") g ++ named (codes "rows") rows ++ named (codes "cells") cells ++ scale_words scale)

-- the first line of a sample, whose book has one shape and one size
unfoldable pub sample_start : ℕ → ℕ → List ℕ
sample_start start rows = line (codes "sample" ∷ named (codes "start") start ++ named (codes "rows") rows ++ named (codes "d") 128 ++ codes "shape" ∷ codes "6-6-4" ∷ named (codes "g") 8)

unfoldable pub cells_line : ℕ → List ℕ
cells_line cells = line (named (codes "cells") cells)

-- the first answer of a query
unfoldable pub best_line : ℕ → ℕ → List ℕ
best_line id distance = line (codes "best" ∷ decimal id ∷ decimal distance ∷ [])

-- the last line of a sample
unfoldable pub sample_end : List ℕ
sample_end = line (codes "end" ∷ named (codes "queries") 16)

-- the file that a stop line speaks of
abbrev pub role_name : Role → List ℕ
role_name BookRole = codes "book"
role_name Base = codes "base"
role_name Queries = codes "queries"
role_name Script = codes "script"
role_name Index = codes "index"
role_name Out = codes "out"
role_name Found = codes "found"
role_name Truth = codes "truth"
role_name Allow = codes "allow"

abbrev pub what_name : What → List ℕ
what_name Bytes = codes "bytes"
what_name D = codes "d"
what_name K0 = codes "k0"
what_name K1 = codes "k1"
what_name G = codes "g"
what_name WhatBook = codes "book"
what_name Rows = codes "rows"
what_name WhatId = codes "id"
what_name Lines = codes "lines"

unfoldable pub stop_usage : List ℕ
stop_usage = line (codes "stop" ∷ codes "usage" ∷ [])

unfoldable pub stop_missing : Role → List ℕ
stop_missing role = line (codes "stop" ∷ codes "missing" ∷ role_name role ∷ [])

unfoldable pub stop_malformed : Role → ℕ → List ℕ
stop_malformed role at = line (codes "stop" ∷ codes "malformed" ∷ role_name role ∷ codes "at" ∷ decimal at ∷ [])

unfoldable pub stop_malformed_line : ℕ → List ℕ
stop_malformed_line n = line (codes "stop" ∷ codes "malformed" ∷ codes "script" ∷ codes "line" ∷ decimal n ∷ [])

unfoldable pub stop_limit : Role → What → ℕ → List ℕ
stop_limit role what value = line (codes "stop" ∷ codes "limit" ∷ role_name role ∷ what_name what ∷ decimal value ∷ [])

unfoldable pub stop_read : Role → List ℕ
stop_read role = line (codes "stop" ∷ codes "read" ∷ role_name role ∷ [])

unfoldable pub stop_write : Role → List ℕ
stop_write role = line (codes "stop" ∷ codes "write" ∷ role_name role ∷ [])

unfoldable pub stop_memory : List ℕ
stop_memory = line (codes "stop" ∷ codes "memory" ∷ [])
