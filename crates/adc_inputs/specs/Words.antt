-- What the words of a command line ask for.
use Rattle.std.specs.Prelude.{ℕ, Bool, ◌&&◌, ◌||◌, List, [], ◌∷◌, length, Option, Some, None, nat_lt, nat_le, bytes_eq, codes, if◌then◌else◌}
use Rattle.play_script.specs.Grammar.{number_of}
use Rattle.adc_inputs.specs.Names.{Name}

-- a command with the names of its files and its numbers
pub data Job : Type 0 where
  Play : Name → Name → Name → Name → Job
  Sample : ℕ → ℕ → Job
  Info : Name → Job
  Build : Name → Name → Name → Job
  Upgrade : Name → Name → Job
  Search : Name → Name → ℕ → ℕ → Name → Job
  Radius : Name → Name → ℕ → ℕ → Job
  Recall : Name → Name → ℕ → Job
  Residual : Name → Name → Name → Name → ℕ → Job
  Exact : Name → Name → ℕ → Name → Job
  Rerank : Name → Name → Name → ℕ → ℕ → ℕ → Name → Job
  Allowed : Name → Name → ℕ → ℕ → Name → Name → Job
  Sessions : Name → Name → Name → Name → Job

-- names are any texts that are not empty
abbrev pub is_name : Name → Bool
is_name name = nat_lt 0 (length name)

-- numbers are spelled as in a script, and lie within bounds
abbrev pub is_within : ℕ → ℕ → ℕ → Bool
is_within low high n = nat_le low n && nat_le n high

abbrev pub within : ℕ → ℕ → Option ℕ → Option ℕ
within low high None = None
within low high (Some n) = if is_within low high n then Some n else None

unfoldable pub number_within : ℕ → ℕ → Name → Option ℕ
number_within low high word = within low high (number_of word)

infixl 10 ◌>>=◌
abbrev pub ◌>>=◌ : {A B : Type 0} → Option A → (A → Option B) → Option B
None >>= f = None
(Some x) >>= f = f x

-- the words behind each verb
abbrev pub play_of : List Name → Option Job
play_of (book ∷ base ∷ queries ∷ script ∷ []) = if is_name book && is_name base && is_name queries && is_name script then Some (Play book base queries script) else None
play_of _ = None

abbrev pub sample_of : List Name → Option Job
sample_of (a ∷ b ∷ []) = do
  start ← number_within 0 2147483647 a
  rows ← number_within 1 100000 b
  Some (Sample start rows)
sample_of _ = None

abbrev pub info_of : List Name → Option Job
info_of (index ∷ []) = if is_name index then Some (Info index) else None
info_of _ = None

-- an output has another name than each input
abbrev pub build_of : List Name → Option Job
build_of (book ∷ base ∷ index ∷ []) = if is_name book && is_name base && is_name index then (if bytes_eq index book || bytes_eq index base then None else Some (Build book base index)) else None
build_of _ = None

abbrev pub upgrade_of : List Name → Option Job
upgrade_of (old ∷ new ∷ []) = if is_name old && is_name new then (if bytes_eq new old then None else Some (Upgrade old new)) else None
upgrade_of _ = None

abbrev pub search_of : List Name → Option Job
search_of (index ∷ queries ∷ a ∷ b ∷ out ∷ []) = if is_name index && is_name queries && is_name out then (if bytes_eq out index || bytes_eq out queries then None else (do
  k ← number_within 1 1000 a
  wanted ← number_within 1 4194304 b
  Some (Search index queries k wanted out))) else None
search_of _ = None

-- a radius is any number of a script
abbrev pub radius_of : List Name → Option Job
radius_of (index ∷ queries ∷ a ∷ b ∷ []) = if is_name index && is_name queries then (do
  r ← number_of a
  wanted ← number_within 1 4194304 b
  Some (Radius index queries r wanted)) else None
radius_of _ = None

abbrev pub recall_of : List Name → Option Job
recall_of (found ∷ truth ∷ a ∷ []) = if is_name found && is_name truth then (do
  k ← number_within 1 1000 a
  Some (Recall found truth k)) else None
recall_of _ = None

abbrev pub residual_of : List Name → Option Job
residual_of (book ∷ base ∷ queries ∷ script ∷ cache ∷ []) =
    if is_name book && is_name base && is_name queries && is_name script then (number_within 0 2048 cache >>= λ tables. Some (Residual book base queries script tables)) else None
residual_of _ = None

abbrev pub exact_of : List Name → Option Job
exact_of (base ∷ queries ∷ a ∷ out ∷ []) = if is_name base && is_name queries && is_name out then (if bytes_eq out base || bytes_eq out queries then None else (do
  k ← number_within 1 1000 a
  Some (Exact base queries k out))) else None
exact_of _ = None

-- no more are written than are looked for
abbrev pub rerank_of : List Name → Option Job
rerank_of (index ∷ base ∷ queries ∷ a ∷ b ∷ c ∷ out ∷ []) = if is_name index && is_name base && is_name queries && is_name out then (if bytes_eq out index || bytes_eq out base || bytes_eq out queries then None else (do
  found ← number_within 1 1000 a
  k ← number_within 1 found b
  wanted ← number_within 1 4194304 c
  Some (Rerank index base queries found k wanted out))) else None
rerank_of _ = None

abbrev pub allowed_of : List Name → Option Job
allowed_of (index ∷ queries ∷ a ∷ b ∷ allow ∷ out ∷ []) = if is_name index && is_name queries && is_name allow && is_name out then (if bytes_eq out index || bytes_eq out queries || bytes_eq out allow then None else (do
  k ← number_within 1 1000 a
  wanted ← number_within 1 4194304 b
  Some (Allowed index queries k wanted allow out))) else None
allowed_of _ = None

abbrev pub sessions_of : List Name → Option Job
sessions_of (book ∷ base ∷ queries ∷ script ∷ []) = if is_name book && is_name base && is_name queries && is_name script then Some (Sessions book base queries script) else None
sessions_of _ = None

-- the command line: a verb and its words; none is a wrong usage
unfoldable pub job_of : List Name → Option Job
job_of [] = None
job_of (verb ∷ words) =
    if bytes_eq verb (codes "play") then play_of words
    else (if bytes_eq verb (codes "sample") then sample_of words
    else (if bytes_eq verb (codes "info") then info_of words
    else (if bytes_eq verb (codes "build") then build_of words
    else (if bytes_eq verb (codes "upgrade") then upgrade_of words
    else (if bytes_eq verb (codes "search") then search_of words
    else (if bytes_eq verb (codes "radius") then radius_of words
    else (if bytes_eq verb (codes "recall") then recall_of words
    else (if bytes_eq verb (codes "residual") then residual_of words
    else (if bytes_eq verb (codes "exact") then exact_of words
    else (if bytes_eq verb (codes "rerank") then rerank_of words
    else (if bytes_eq verb (codes "allowed") then allowed_of words
    else (if bytes_eq verb (codes "sessions") then sessions_of words
    else None))))))))))))

-- the name of the file that a job writes, if it writes one
abbrev pub out_of : Job → Option Name
out_of (Play book base queries script) = None
out_of (Sample start rows) = None
out_of (Info index) = None
out_of (Build book base index) = Some index
out_of (Upgrade old new) = Some new
out_of (Search index queries k wanted out) = Some out
out_of (Radius index queries r wanted) = None
out_of (Recall found truth k) = None
out_of (Residual book base queries script cache) = None
out_of (Exact base queries k out) = Some out
out_of (Rerank index base queries found k wanted out) = Some out
out_of (Allowed index queries k wanted allow out) = Some out
out_of (Sessions book base queries script) = None

abbrev pub out_of_job : Option Job → Option Name
out_of_job None = None
out_of_job (Some job) = out_of job

-- the same of words
unfoldable pub out_name : List Name → Option Name
out_name words = out_of_job (job_of words)
