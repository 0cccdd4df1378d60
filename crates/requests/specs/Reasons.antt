-- The HTTP status of each reason, and its text.
use Rattle.std.specs.Prelude.{ℕ, List, codes}
use Rattle.requests.specs.declared.reply.Reason.{Reason}
use Rattle.requests.specs.declared.reply.Reason.TheVariants.{NotFound, AlreadyExists, Conflict, Invalid, StoreFull, Expired, TooLarge}

abbrev pub reason_code : Reason → ℕ
reason_code NotFound = 404
reason_code AlreadyExists = 409
reason_code Conflict = 409
reason_code Invalid = 422
reason_code StoreFull = 507
reason_code Expired = 410
reason_code TooLarge = 504

abbrev pub reason_name : Reason → List ℕ
reason_name NotFound = codes "NotFound"
reason_name AlreadyExists = codes "AlreadyExists"
reason_name Conflict = codes "Conflict"
reason_name Invalid = codes "Invalid"
reason_name StoreFull = codes "StoreFull"
reason_name Expired = codes "Expired"
reason_name TooLarge = codes "TooLarge"
