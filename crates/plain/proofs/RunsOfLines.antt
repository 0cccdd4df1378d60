-- The replies to lines are those of one run of the plain store.
use Rattle.std.proofs.Common.{◌≡◌, ℕ, List, [], ◌∷◌, ◌++◌, map, Result, Ok, Err, refl, ap}
use Rattle.serde_json.specs.Written.{compact_text}
use Rattle.requests.specs.declared.request.Request.{Request}
use Rattle.plain.specs.declared.lines.request_error.RequestError.{RequestError}
use Rattle.plain_store.specs.Store.{Store, step}
use Rattle.plain_store.specs.Run.{replies}
use Rattle.plain.specs.Requests.{request_of}
use Rattle.plain.specs.Replies.{reply_data, error_data}
use Rattle.plain.specs.Served.{answered, answers}
use Rattle.plain.specs.ServedRun.{requests, reply_lines}

-- what is written for what the lines are
abbrev of_run : Store → List (Result Request RequestError) → List ℕ
of_run s readings = reply_lines readings (replies s (requests readings))

of_reading : (s : Store) (reading : Result Request RequestError) (rest : List (List ℕ))
    → ((t : Store) → answers t rest ≡ of_run t (map request_of rest))
    → (answered s reading).1 ++ 10 ∷ answers (answered s reading).0 rest ≡ of_run s (reading ∷ map request_of rest)
of_reading s (Ok r) rest ih = ap (λ t. compact_text (reply_data (step s r).1) ++ 10 ∷ t) (ih (step s r).0)
of_reading s (Err e) rest ih = ap (λ t. compact_text (error_data e) ++ 10 ∷ t) (ih s)

pub answers-of_run : (s : Store) (ls : List (List ℕ)) → answers s ls ≡ of_run s (map request_of ls)
answers-of_run s [] = refl
answers-of_run s (l ∷ ls) = of_reading s (request_of l) ls (λ t. answers-of_run t ls)
