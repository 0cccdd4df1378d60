-- The participants: the callers that events name, by their numbers, then the shards, then the frontier.
use Rattle.std.specs.Prelude.{ℕ, zero, suc, List, [], ◌++◌, codes, decimal}
use Rattle.std.specs.List.{flat_map}

-- `role` gives the words before a caller's number
abbrev pub caller_line : (role : ℕ → List ℕ) → (caller : ℕ) → List ℕ
caller_line role c = codes "    participant C" ++ (decimal c ++ (codes " as " ++ (role c ++ (codes "caller " ++ (decimal c ++ codes "\n")))))

abbrev pub shard_line : (shard : ℕ) → List ℕ
shard_line s = codes "    participant S" ++ (decimal s ++ (codes " as shard " ++ (decimal s ++ codes "\n")))

-- so many shards
abbrev pub shard_lines : (shards : ℕ) → List ℕ
shard_lines zero = []
shard_lines (suc s) = shard_lines s ++ shard_line s

abbrev pub heading : (shards : ℕ) → (role : ℕ → List ℕ) → (callers : List ℕ) → List ℕ
heading shards role callers =
    codes "sequenceDiagram\n" ++ (flat_map (caller_line role) callers ++ (shard_lines shards ++ codes "    participant F as frontier\n"))

-- callers with no name other than their number
abbrev pub no_role : ℕ → List ℕ
no_role caller = []
