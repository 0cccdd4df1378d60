-- Steps of reading a request.
use Rattle.std.proofs.Common.{◌≡◌, ℕ, List, codes, Option, Some, None, Result, Ok, Err, refl, sym, ap, ◌∙◌, subst}
use Rattle.std.specs.Option.{option_and_then, ok_or}
use Rattle.serde_json.specs.Data.{Data, Members}
use Rattle.serde_json.specs.Find.{as_object, as_str, get_member}
use Rattle.objects.specs.declared.fault.ReadError.{ReadError}
use Rattle.objects.specs.declared.fault.ReadError.TheVariants as read
use Rattle.objects.specs.declared.key.Key.{Key}
use Rattle.objects.specs.declared.kind.Kind.{Kind}
use Rattle.trees.specs.declared.tree.Tree.{Tree}
use Rattle.trees.specs.declared.tree.Tree.TheVariants as tree
use Rattle.objects.specs.Tree.{data_of}
use Rattle.objects.specs.Steps.{Fails}
use Rattle.objects.specs.Reading.{key_in, collection_in, reading_of_data}
use Rattle.requests.specs.declared.request.Request.{Request}
use Rattle.requests.specs.declared.request.Request.TheVariants as request
use Rattle.requests.specs.declared.request.Request.TheVariants.{Create, Get, Update, UpdateStatus, Delete, Compact}
use Rattle.plain.specs.declared.lines.request_error.RequestError.{RequestError}
use Rattle.plain.specs.declared.lines.request_error.RequestError.TheVariants as errors
use Rattle.plain.specs.declared.lines.verb.Verb.{Verb}
use Rattle.plain.specs.declared.lines.verb.Verb.TheVariants as verb
use Rattle.plain.specs.Requests.{◌>>=◌, compaction_in, deletion_in, required, exact_in, field_text, lifted, list_in, named_in, object_draft, request_in, request_of, Refuses, Answers}
use Rattle.plain.specs.Verbs.{verb_named, verb_in, request_by}

-- what a step of reading objects refuses, the reading of a request refuses
pub refuses_lifted : {A B : Type 0} (e : ReadError) (r : Result A ReadError) (f : A → Result B RequestError) → Fails e r → Refuses (errors.Read e) (lifted r >>= f)
refuses_lifted read.NotJson r f h = ap (λ x. lifted x >>= f) h
refuses_lifted read.NotWhole r f h = ap (λ x. lifted x >>= f) h
refuses_lifted read.NoKind r f h = ap (λ x. lifted x >>= f) h
refuses_lifted read.UnknownKind r f h = ap (λ x. lifted x >>= f) h
refuses_lifted read.BadName r f h = ap (λ x. lifted x >>= f) h
refuses_lifted read.BadMeta r f h = ap (λ x. lifted x >>= f) h
refuses_lifted read.TooLong r f h = ap (λ x. lifted x >>= f) h
refuses_lifted read.Memory r f h = tt

pub answers_lifted : {A B : Type 0} (result : Result B RequestError) (y : RequestError) (e : ReadError) (r : Result A ReadError) (f : A → Result B RequestError)
    → result ≡ Err y → y ≡ errors.Read e → Fails e r → Answers result (lifted r >>= f)
answers_lifted result y e r f is same h = subst (λ x. Answers x (lifted r >>= f)) (sym (is ∙ ap Err same)) (refuses_lifted e r f h)

-- the request that a value is, by the verb
abbrev pub data_request : Data → Result Request RequestError
data_request d = required errors.NoVerb (as_object d) >>= λ ms. verb_in ms >>= λ v. request_by v ms

pub value_request : (d : Data) → request_in d ≡ data_request d
unfolding request_in
value_request d = refl

-- ---- the request of each verb, and its refusals

answers_at : (v w : Verb) (ms : Members) (result : Result Request RequestError) → v ≡ w → Answers result (request_by w ms) → Answers result (request_by v ms)
answers_at v w ms result is h = subst (λ x. Answers result (request_by x ms)) (sym is) h

-- The request of a verb is made of one part of the members, and is refused if the part is.
abbrev pub IsMadeOf : {A : Type 0} → Verb → Members → Result A ReadError → (A → Request) → Type 0
IsMadeOf v ms part make = request_by v ms ≡ (lifted part >>= λ x. Ok (make x))

pub of_create : (ms : Members) → IsMadeOf verb.Create ms (object_draft (get_member (codes "object") ms)) Create
unfolding request_by
of_create ms = refl

pub of_get : (ms : Members) → IsMadeOf verb.Get ms (key_in ms) Get
unfolding request_by
of_get ms = refl

pub of_update : (ms : Members) → IsMadeOf verb.Update ms (object_draft (get_member (codes "object") ms)) Update
unfolding request_by
of_update ms = refl

pub of_status : (ms : Members) → IsMadeOf verb.Status ms (object_draft (get_member (codes "object") ms)) UpdateStatus
unfolding request_by
of_status ms = refl

pub part_refused : {A : Type 0} (v w : Verb) (ms : Members) (part : Result A ReadError) (make : A → Request) (result : Result Request RequestError) (y : RequestError) (e : ReadError)
    → IsMadeOf w ms part make → v ≡ w → result ≡ Err y → y ≡ errors.Read e → Fails e part → Answers result (request_by v ms)
part_refused v w ms part make result y e made named is same h =
    answers_at v w ms result named (subst (Answers result) (sym made) (answers_lifted result y e part (λ x. Ok (make x)) is same h))

pub part_read : {A : Type 0} (v w : Verb) (ms : Members) (part : Result A ReadError) (make : A → Request) (x : A)
    → IsMadeOf w ms part make → v ≡ w → part ≡ Ok x → request_by v ms ≡ Ok (make x)
part_read v w ms part make x made named h = ap (λ u. request_by u ms) named ∙ made ∙ ap (λ r. lifted r >>= λ z. Ok (make z)) h

pub delete_at : (v : Verb) (ms : Members) (result : Result Request RequestError) → v ≡ verb.Delete → Answers result (deletion_in ms) → Answers result (request_by v ms)
unfolding request_by
delete_at v ms result named h = answers_at v verb.Delete ms result named h

pub list_at : (v : Verb) (ms : Members) (result : Result Request RequestError) → v ≡ verb.List → Answers result (list_in ms) → Answers result (request_by v ms)
unfolding request_by
list_at v ms result named h = answers_at v verb.List ms result named h

-- a refusal that is not the memory's
pub refused_so : (result : Result Request RequestError) (y : RequestError) (reading : Result Request RequestError)
    → result ≡ Err y → reading ≡ Err y → Answers result reading
refused_so result y reading is h = subst (λ x. Answers x reading) (sym is) (go y h)
  where
    go : (z : RequestError) → reading ≡ Err z → Refuses z reading
    go (errors.Read read.NotJson) e = e
    go (errors.Read read.NotWhole) e = e
    go (errors.Read read.NoKind) e = e
    go (errors.Read read.UnknownKind) e = e
    go (errors.Read read.BadName) e = e
    go (errors.Read read.BadMeta) e = e
    go (errors.Read read.TooLong) e = e
    go (errors.Read read.Memory) e = tt
    go errors.NoVerb e = e
    go errors.UnknownVerb e = e
    go errors.BadField e = e

-- ---- a list, part by part

abbrev pub exact_part : Members → Kind × List ℕ → Result Request RequestError
exact_part ms collection = exact_in ms >>= λ exact. Ok (request.List collection.0 collection.1 exact)

pub list_collection_refused : (ms : Members) (result : Result Request RequestError) (y : RequestError) (e : ReadError)
    → result ≡ Err y → y ≡ errors.Read e → Fails e (collection_in ms) → Answers result (list_in ms)
unfolding list_in
list_collection_refused ms result y e is same h = answers_lifted result y e (collection_in ms) (exact_part ms) is same h

list_of : (ms : Members) (collection : Kind × List ℕ) → collection_in ms ≡ Ok collection → list_in ms ≡ exact_part ms collection
unfolding list_in
list_of ms collection h = ap (λ r. lifted r >>= exact_part ms) h

pub list_read : (ms : Members) (collection : Kind × List ℕ) (exact : ℕ) → collection_in ms ≡ Ok collection → Ok exact ≡ exact_in ms
    → list_in ms ≡ Ok (request.List collection.0 collection.1 exact)
list_read ms collection exact h is = list_of ms collection h ∙ ap (λ r. r >>= λ n. Ok (request.List collection.0 collection.1 n)) (sym is)

pub list_version_refused : (ms : Members) (collection : Kind × List ℕ) (result : Result Request RequestError) (y e : RequestError) → collection_in ms ≡ Ok collection
    → Err e ≡ exact_in ms → result ≡ Err y → y ≡ e → Answers result (list_in ms)
list_version_refused ms collection result y e h is at same =
    refused_so result y (list_in ms) at (list_of ms collection h ∙ ap (λ r. r >>= λ n. Ok (request.List collection.0 collection.1 n)) (sym is) ∙ ap Err (sym same))

-- ---- a compaction

pub compact_at : (v : Verb) (ms : Members) (result : Result Request RequestError) → v ≡ verb.Compact → Answers result (compaction_in ms) → Answers result (request_by v ms)
unfolding request_by
compact_at v ms result named h = answers_at v verb.Compact ms result named h

pub compaction_refused : (ms : Members) (result : Result Request RequestError) (y e : RequestError) → Err e ≡ named_in ms → result ≡ Err y → y ≡ e → Answers result (compaction_in ms)
unfolding compaction_in
compaction_refused ms result y e is at same = refused_so result y (compaction_in ms) at (ap (λ r. r >>= λ n. Ok (Compact n)) (sym is) ∙ ap Err (sym same))

pub compaction_read : (ms : Members) (to : ℕ) → Ok to ≡ named_in ms → compaction_in ms ≡ Ok (Compact to)
unfolding compaction_in
compaction_read ms to is = ap (λ r. r >>= λ n. Ok (Compact n)) (sym is)

-- ---- a deletion, part by part

refuses_bind : {A B : Type 0} (e : RequestError) (r : Result A RequestError) (f : A → Result B RequestError) → Refuses e r → Refuses e (r >>= f)
refuses_bind (errors.Read read.NotJson) r f h = ap (λ x. x >>= f) h
refuses_bind (errors.Read read.NotWhole) r f h = ap (λ x. x >>= f) h
refuses_bind (errors.Read read.NoKind) r f h = ap (λ x. x >>= f) h
refuses_bind (errors.Read read.UnknownKind) r f h = ap (λ x. x >>= f) h
refuses_bind (errors.Read read.BadName) r f h = ap (λ x. x >>= f) h
refuses_bind (errors.Read read.BadMeta) r f h = ap (λ x. x >>= f) h
refuses_bind (errors.Read read.TooLong) r f h = ap (λ x. x >>= f) h
refuses_bind (errors.Read read.Memory) r f h = tt
refuses_bind errors.NoVerb r f h = ap (λ x. x >>= f) h
refuses_bind errors.UnknownVerb r f h = ap (λ x. x >>= f) h
refuses_bind errors.BadField r f h = ap (λ x. x >>= f) h

-- what the members say of the time, of the version and of the UID, and then of what comes after
abbrev time_part : Members → Key → Option (List ℕ) → Option (List ℕ) → Result Request RequestError
time_part ms key uid version = field_text (get_member (codes "at") ms) >>= λ at. Ok (Delete key uid version at)

abbrev version_part : Members → Key → Option (List ℕ) → Result Request RequestError
version_part ms key uid = field_text (get_member (codes "resourceVersion") ms) >>= λ version. time_part ms key uid version

abbrev uid_part : Members → Key → Result Request RequestError
uid_part ms key = field_text (get_member (codes "uid") ms) >>= λ uid. version_part ms key uid

named_part : (ms : Members) (key : Key) → key_in ms ≡ Ok key → deletion_in ms ≡ uid_part ms key
unfolding deletion_in
named_part ms key named = ap (λ r. lifted r >>= uid_part ms) named

uid_read : (ms : Members) (key : Key) (uid : Option (List ℕ)) → key_in ms ≡ Ok key → field_text (get_member (codes "uid") ms) ≡ Ok uid → deletion_in ms ≡ version_part ms key uid
uid_read ms key uid named is = named_part ms key named ∙ ap (λ r. r >>= version_part ms key) is

version_read : (ms : Members) (key : Key) (uid version : Option (List ℕ)) → key_in ms ≡ Ok key → field_text (get_member (codes "uid") ms) ≡ Ok uid
    → field_text (get_member (codes "resourceVersion") ms) ≡ Ok version → deletion_in ms ≡ time_part ms key uid version
version_read ms key uid version named uid_is is = uid_read ms key uid named uid_is ∙ ap (λ r. r >>= time_part ms key uid) is

-- a field is refused
field_refused : (result : Result Request RequestError) (y e : RequestError) (ms : Members) (field : Result (Option (List ℕ)) RequestError)
    (then : Option (List ℕ) → Result Request RequestError)
    → deletion_in ms ≡ (field >>= then) → result ≡ Err y → y ≡ e → Refuses e field → Answers result (deletion_in ms)
field_refused result y e ms field then goes is same h =
    subst (Answers result) (sym goes) (subst (λ x. Answers x (field >>= then)) (sym (is ∙ ap Err same)) (refuses_bind e field then h))

pub deletion_key_refused : (ms : Members) (result : Result Request RequestError) (y : RequestError) (e : ReadError)
    → result ≡ Err y → y ≡ errors.Read e → Fails e (key_in ms) → Answers result (deletion_in ms)
unfolding deletion_in
deletion_key_refused ms result y e is same h = answers_lifted result y e _ (uid_part ms) is same h

pub deletion_uid_refused : (ms : Members) (key : Key) (result : Result Request RequestError) (y e : RequestError)
    → key_in ms ≡ Ok key → result ≡ Err y → y ≡ e → Refuses e (field_text (get_member (codes "uid") ms)) → Answers result (deletion_in ms)
deletion_uid_refused ms key result y e named is same h = field_refused result y e ms _ (version_part ms key) (named_part ms key named) is same h

pub deletion_version_refused : (ms : Members) (key : Key) (uid : Option (List ℕ)) (result : Result Request RequestError) (y e : RequestError)
    → key_in ms ≡ Ok key → field_text (get_member (codes "uid") ms) ≡ Ok uid
    → result ≡ Err y → y ≡ e → Refuses e (field_text (get_member (codes "resourceVersion") ms)) → Answers result (deletion_in ms)
deletion_version_refused ms key uid result y e named uid_is is same h =
    field_refused result y e ms _ (time_part ms key uid) (uid_read ms key uid named uid_is) is same h

pub deletion_time_refused : (ms : Members) (key : Key) (uid version : Option (List ℕ)) (result : Result Request RequestError) (y e : RequestError)
    → key_in ms ≡ Ok key → field_text (get_member (codes "uid") ms) ≡ Ok uid → field_text (get_member (codes "resourceVersion") ms) ≡ Ok version
    → result ≡ Err y → y ≡ e → Refuses e (field_text (get_member (codes "at") ms)) → Answers result (deletion_in ms)
deletion_time_refused ms key uid version result y e named uid_is version_is is same h =
    field_refused result y e ms _ (λ at. Ok (Delete key uid version at)) (version_read ms key uid version named uid_is version_is) is same h

pub deletion_read : (ms : Members) (key : Key) (uid version at : Option (List ℕ))
    → key_in ms ≡ Ok key → field_text (get_member (codes "uid") ms) ≡ Ok uid → field_text (get_member (codes "resourceVersion") ms) ≡ Ok version
    → field_text (get_member (codes "at") ms) ≡ Ok at → deletion_in ms ≡ Ok (Delete key uid version at)
deletion_read ms key uid version at named uid_is version_is is =
    version_read ms key uid version named uid_is version_is ∙ ap (λ r. r >>= λ t. Ok (Delete key uid version t)) is

-- ---- the whole line

-- the value is refused
pub line_refused : (line : List ℕ) (result : Result Request RequestError) (y : RequestError) (e : ReadError)
    → result ≡ Err y → y ≡ errors.Read e → Fails e (reading_of_data line) → Answers result (request_of line)
unfolding request_of
line_refused line result y e is same h = answers_lifted result y e _ request_in is same h

-- the value is known
pub line_read : (line : List ℕ) (d : Data) (result : Result Request RequestError)
    → reading_of_data line ≡ Ok d → Answers result (request_in d) → Answers result (request_of line)
unfolding request_of
line_read line d result h answers = subst (λ r. Answers result (lifted r >>= request_in)) (sym h) answers

-- ---- the verb

pub required_of : {A : Type 0} (o : Option A) (e : RequestError) → ok_or o e ≡ required e o
required_of None e = refl
required_of (Some x) e = refl

pub no_verb : (ms : Members) → None ≡ option_and_then as_str (get_member (codes "do") ms) → Err errors.NoVerb ≡ verb_in ms
unfolding verb_in
no_verb ms h = ap (λ o. required errors.NoVerb o >>= λ name. required errors.UnknownVerb (verb_named name)) h

pub verb_of : (ms : Members) (name : List ℕ) (o : Option Verb) → Some name ≡ option_and_then as_str (get_member (codes "do") ms) → o ≡ verb_named name
    → ok_or o errors.UnknownVerb ≡ verb_in ms
unfolding verb_in
verb_of ms name o h is =
    required_of o errors.UnknownVerb ∙ ap (required errors.UnknownVerb) is
    ∙ ap (λ p. required errors.NoVerb p >>= λ s. required errors.UnknownVerb (verb_named s)) h

-- ---- the value of the line

map_read : (t : Tree) (ms : Members) → t ≡ tree.Map ms → request_in (data_of t) ≡ (verb_in ms >>= λ v. request_by v ms)
map_read t ms is = value_request (data_of t) ∙ ap (λ x. data_request (data_of x)) is

pub no_map : (t : Tree) → ((ms : Members) → t ≡ tree.Map ms → ⊥) → request_in (data_of t) ≡ Err errors.NoVerb
no_map tree.Null other = value_request _
no_map (tree.Truth b) other = value_request _
no_map (tree.Integer z) other = value_request _
no_map (tree.Text s) other = value_request _
no_map (tree.List ds) other = value_request _
no_map (tree.Map ms) other = absurd (other ms refl)

pub verb_refused : (t : Tree) (ms : Members) (result : Result Request RequestError) (y e : RequestError)
    → t ≡ tree.Map ms → Err e ≡ verb_in ms → result ≡ Err y → y ≡ e → Answers result (request_in (data_of t))
verb_refused t ms result y e is named at same =
    refused_so result y (request_in (data_of t)) at (map_read t ms is ∙ ap (λ r. r >>= λ v. request_by v ms) (sym named) ∙ ap Err (sym same))

pub verb_read : (t : Tree) (ms : Members) (v : Verb) (result : Result Request RequestError)
    → t ≡ tree.Map ms → Ok v ≡ verb_in ms → Answers result (request_by v ms) → Answers result (request_in (data_of t))
verb_read t ms v result is named answers =
    subst (Answers result) (sym (map_read t ms is ∙ ap (λ r. r >>= λ x. request_by x ms) (sym named))) answers
