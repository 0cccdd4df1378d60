-- The replies to lines as those of one run of the plain store.
use Rattle.std.specs.Prelude.{ℕ, List, [], ◌∷◌, ◌++◌, Result, Ok, Err}
use Rattle.serde_json.specs.Written.{compact_text}
use Rattle.requests.specs.declared.request.Request.{Request}
use Rattle.plain.specs.declared.lines.request_error.RequestError.{RequestError}
use Rattle.requests.specs.declared.reply.Reply.{Reply}
use Rattle.plain.specs.Replies.{reply_data, error_data}

-- the requests among what the lines are
abbrev pub requests : List (Result Request RequestError) → List Request
requests [] = []
requests (Ok r ∷ rest) = r ∷ requests rest
requests (Err _ ∷ rest) = requests rest

-- The text for what the lines are, if these are the replies to the requests among them: each request has the next
-- reply, and a line that is none has its refusal.
abbrev pub reply_lines : List (Result Request RequestError) → List Reply → List ℕ
reply_lines [] _ = []
reply_lines (Err e ∷ rest) rs = compact_text (error_data e) ++ 10 ∷ reply_lines rest rs
reply_lines (Ok _ ∷ rest) [] = []
reply_lines (Ok _ ∷ rest) (r ∷ rs) = compact_text (reply_data r) ++ 10 ∷ reply_lines rest rs
