-- What `serve` writes: to each line of the input one line, in order. A line that is no request gets its refusal and
-- is no step of the store; the others are a run of the plain store.
use Rattle.std.specs.Prelude.{ℕ, List, [], ◌∷◌, ◌++◌, Result, Ok, Err}
use Rattle.serde_json.specs.Written.{compact_text}
use Rattle.requests.specs.declared.request.Request.{Request}
use Rattle.plain.specs.declared.lines.request_error.RequestError.{RequestError}
use Rattle.plain_store.specs.Store.{Store, opening, step}
use Rattle.plain.specs.Requests.{request_of}
use Rattle.plain.specs.Replies.{reply_data, error_data}
use Rattle.plain.specs.Lines.{ended_lines, lines}

-- what the store is after a line, and the text of the reply without its line feed
abbrev pub answered : Store → Result Request RequestError → Store × List ℕ
answered s (Ok r) = ((step s r).0, compact_text (reply_data (step s r).1))
answered s (Err e) = (s, compact_text (error_data e))

abbrev pub answer : Store → List ℕ → Store × List ℕ
answer s line = answered s (request_of line)

-- the text of the replies to the lines
abbrev pub answers : Store → List (List ℕ) → List ℕ
answers s [] = []
answers s (line ∷ rest) = (answer s line).1 ++ 10 ∷ answers (answer s line).0 rest

abbrev pub served : ℕ → List ℕ → List ℕ
served capacity input = answers (opening capacity) (lines input)

-- what it writes while the input may continue
abbrev pub served_so_far : ℕ → List ℕ → List ℕ
served_so_far capacity input = answers (opening capacity) (ended_lines input)
