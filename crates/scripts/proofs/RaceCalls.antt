-- What is written of a call, piece by piece.
use Rattle.std.proofs.Common.{◌≡◌, ℕ, [], ◌∷◌, ◌++◌, codes, refl}
use Rattle.json.specs.Token as token
use Rattle.json.specs.Tree.{json_tokens}
use Rattle.serde_json.specs.Written.{outline}
use Rattle.requests.specs.declared.request.Request.{Request}
use Rattle.scripts.specs.RequestLine.{request_data}
use Rattle.scripts.specs.RaceHistory.{call_data, caller_tokens}
use Rattle.scripts.specs.declared.race_role.Role.{Role}
use Rattle.scripts.specs.declared.race_role.Role.TheVariants.{Controller, Kubelet, Operator, Other}

pub call_tokens : (place caller : ℕ) (role : Role) (request : Request)
    → (token.begin_object ∷ []) ++ (caller_tokens place caller role
    ++ ((token.key (codes "request") ∷ []) ++ (json_tokens (outline (request_data request)) ++ (token.end_object ∷ []))))
    ≡ json_tokens (outline (call_data place caller role request))
call_tokens place caller Controller request = refl
call_tokens place caller Kubelet request = refl
call_tokens place caller Operator request = refl
call_tokens place caller Other request = refl
