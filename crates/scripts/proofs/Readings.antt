-- Steps of reading an event.
use Rattle.std.proofs.Common.{◌≡◌, Option, None, Result, Err, refl, sym, ap, ◌∙◌, subst}
use Rattle.serde_json.specs.Data.{Members}
use Rattle.serde_json.specs.Find.{as_object}
use Rattle.trees.specs.declared.tree.Tree.{Tree}
use Rattle.trees.specs.declared.tree.Tree.TheVariants as tree
use Rattle.objects.specs.declared.fault.ReadError.TheVariants as read
use Rattle.objects.specs.Tree.{data_of}
use Rattle.plain.specs.declared.lines.request_error.RequestError.{RequestError}
use Rattle.plain.specs.declared.lines.request_error.RequestError.TheVariants as request
use Rattle.plain.specs.Requests.{Refuses}
use Rattle.scripts.specs.declared.fault.ScriptError.{ScriptError}
use Rattle.scripts.specs.declared.fault.ScriptError.TheVariants as errors
use Rattle.scripts.specs.Events.{◌>>=◌, Fails, Reads, request_fault, unless_refused}

pub fails_bind : {A B : Type 0} (e : ScriptError) (reading : Option A) (f : A → Option B) → Fails e reading → Fails e (reading >>= f)
fails_bind errors.BadScript reading f h = ap (λ r. r >>= f) h
fails_bind errors.Memory reading f h = tt

-- a refusal is passed on
pub refused : {A B : Type 0} (view : A → B) (result : Result A ScriptError) (y e : ScriptError) (reading : Option B)
    → result ≡ Err y → y ≡ e → Fails e reading → Reads view result reading
refused view result y e reading is same h = subst (λ r. Reads view r reading) (sym (is ∙ ap Err same)) h

pub fault_read : {A : Type 0} (e : RequestError) (reading : Result A RequestError) → Refuses e reading → Fails (request_fault e) (unless_refused reading)
fault_read (request.Read read.NotJson) reading h = ap unless_refused h
fault_read (request.Read read.NotWhole) reading h = ap unless_refused h
fault_read (request.Read read.NoKind) reading h = ap unless_refused h
fault_read (request.Read read.UnknownKind) reading h = ap unless_refused h
fault_read (request.Read read.BadName) reading h = ap unless_refused h
fault_read (request.Read read.BadMeta) reading h = ap unless_refused h
fault_read (request.Read read.TooLong) reading h = ap unless_refused h
fault_read (request.Read read.Memory) reading h = tt
fault_read request.NoVerb reading h = ap unless_refused h
fault_read request.UnknownVerb reading h = ap unless_refused h
fault_read request.BadField reading h = ap unless_refused h

pub request_refused : {A : Type 0} (y : ScriptError) (e : RequestError) (reading : Result A RequestError) → y ≡ request_fault e → Refuses e reading
    → Fails y (unless_refused reading)
request_refused y e reading is h = subst (λ x. Fails x (unless_refused reading)) (sym is) (fault_read e reading h)

pub no_map : (t : Tree) → ((ms : Members) → t ≡ tree.Map ms → ⊥) → as_object (data_of t) ≡ None
no_map tree.Null other = refl
no_map (tree.Truth b) other = refl
no_map (tree.Integer z) other = refl
no_map (tree.Text s) other = refl
no_map (tree.List ds) other = refl
no_map (tree.Map ms) other = absurd (other ms refl)
