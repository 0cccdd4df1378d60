-- A write that is handled with no tree of its line gets the reply to its request.
use Rattle.std.proofs.Common.{◌≡◌, ℕ, ◌+◌, ◌≤◌, List, length, true, codes, Option, Some, None, Result, Ok, Err, refl, sym, ap, ◌∙◌, subst}
use Rattle.std.specs.FinMap as finite
use Rattle.std.specs.Prelude.{Bool, false, is_ok, IfOk, IfSome, MatchResult}
use Rattle.std.specs.Str.{IsUtf8, is_utf8}
use Rattle.std.proofs.lemmas.Str.{is_utf8-from_IsUtf8}
use Rattle.serde_json.specs.Data.{Data, Members, object as map_of}
use Rattle.serde_json.specs.Find.{get_member}
use Rattle.serde_json.specs.Written.{compact_text}
use Rattle.compact.specs.Notes.{IsLine, OfMembers}
use Rattle.compact.specs.Reads.{IsSorted}
use Rattle.compact.specs.declared.scanner.Tables.{Tables}
use Rattle.compact_objects.specs.Maps.{IsMap}
use Rattle.compact_objects.specs.declared.draft.CompactDraft.{CompactDraft}
use Rattle.compact_objects.specs.Lines.{IsDraftOfLine}
use Rattle.compact_objects.specs.ReadFrom.{IsReadFrom}
use Rattle.objects.specs.Reading.{draft_in, draft_of, most_bytes, reading_of_data}
use Rattle.objects.specs.declared.key.Key.{Key}
use Rattle.objects.specs.declared.object.Draft.{Draft}
use Rattle.objects.specs.declared.object.Object.{Object}
use Rattle.requests.specs.declared.reply.Reply.{Reply}
use Rattle.requests.specs.Judgments.{judged_at}
use Rattle.requests.specs.Keys.{key_named}
use Rattle.requests.specs.Verdict.{is_write, verdict}
use Rattle.requests.specs.declared.request.Request.{Request}
use Rattle.requests.specs.declared.request.Request.TheVariants as request
use Rattle.requests.specs.declared.verdict.Judgment.{Judgment}
use Rattle.plain_store.specs.PrintedReplies.{reply_printed}
use Rattle.plain_store.specs.Store.{Store, step}
use Rattle.plain_store.specs.declared.printed_reply.PrintedReply.{PrintedReply}
use Rattle.plain_store.specs.Judged.{IsJudged}
use Rattle.plain.specs.declared.lines.verb.Verb.{Verb}
use Rattle.plain.specs.declared.lines.verb.Verb.TheVariants as verb
use Rattle.plain.specs.Replies.{reply_data}
use Rattle.plain.specs.RequestParts.{◌>>=◌, lifted, object_draft}
use Rattle.plain.specs.Requests.{request_in, request_of}
use Rattle.plain.specs.Served.{answer, answered}
use Rattle.plain.specs.Verbs.{request_by, verb_in, write_of}
use Rattle.plain.proofs.Readings.{of_create, of_status, of_update, part_read}

weaker : {A E : Type 0} (P Q : A → Type 0) (r : Result (Option A) E) → ((x : A) → P x → Q x) → IfOk r (λ f. IfSome f P) → IfOk r (λ f. IfSome f Q)
weaker P Q (Err e) then h = tt
weaker P Q (Ok None) then h = tt
weaker P Q (Ok (Some x)) then h = then x h

-- ---- the write

-- the reply is that of the write which the verb makes of the draft
abbrev pub IsTakenBy : Verb → Draft → (old new : Store) → PrintedReply → Type 0
IsTakenBy v d old new printed = (r : Request) × (write_of v d ≡ Some r) × ((new, reply_printed printed) ≡ step old r)

same_request : (a b : Request) → Some a ≡ Some b → a ≡ b
same_request a b e = cc

-- the write that a verb makes of a draft is the request that it makes of members whose object is that draft
asked_by : (v : Verb) (ms : Members) (d : Draft) (r : Request) → object_draft (get_member (codes "object") ms) ≡ Ok d → write_of v d ≡ Some r → request_by v ms ≡ Ok r
asked_by verb.Create ms d r drafted is = part_read verb.Create verb.Create ms _ request.Create d (of_create ms) refl drafted ∙ ap Ok (same_request (request.Create d) r is)
asked_by verb.Get ms d r drafted is = absurd cc
asked_by verb.List ms d r drafted is = absurd cc
asked_by verb.Update ms d r drafted is = part_read verb.Update verb.Update ms _ request.Update d (of_update ms) refl drafted ∙ ap Ok (same_request (request.Update d) r is)
asked_by verb.Status ms d r drafted is = part_read verb.Status verb.Status ms _ request.UpdateStatus d (of_status ms) refl drafted ∙ ap Ok (same_request (request.UpdateStatus d) r is)
asked_by verb.Delete ms d r drafted is = absurd cc
asked_by verb.Compact ms d r drafted is = absurd cc

-- ---- what a write does

-- this is what the write which the verb makes of the draft does
abbrev pub IsJudgedBy : Verb → Draft → Store → Key → Judgment Object → Type 0
IsJudgedBy v d s k j = (r : Request) × (write_of v d ≡ Some r) × IsJudged s r k j

-- what holds of what is found holds of this
pub found_by : {A : Type 0} (P : A → Type 0) (found : Option A) (x : A) → found ≡ Some x → IfSome found P → P x
found_by P found x is h = subst (λ f. IfSome f P) is h

pub judged_over : {E : Type 0} (v w : Verb) (d : Draft) (make : Draft → Request) (s : Store) (k : Key) (result : Result (Option (Judgment Object)) E) (n : ℕ) (current : Option Object)
    → write_of w d ≡ Some (make d) → is_write (make d) ≡ true → key_named (make d) ≡ Some k → v ≡ w → n ≡ s.counter + 1 → current ≡ finite.get s.objects k
    → IfOk result (λ found. IfSome found (λ j. j ≡ judged_at n (verdict (make d) current)))
    → IfOk result (λ found. IfSome found (IsJudgedBy v d s k))
judged_over v w d make s k result n current made written named is number there judged =
    weaker _ _ result (λ j same. (
      make d,
      ap (λ u. write_of u d) is ∙ made,
      record {
        write = written;
        named = named;
        judged = same ∙ ap (λ m. judged_at m (verdict (make d) current)) number ∙ ap (λ o. judged_at (s.counter + 1) (verdict (make d) o)) there;
      },
    )) judged

-- ---- the line

-- the draft of a line is read from what its object reads as
pub told : (c : CompactDraft) (line : List ℕ) → IsDraftOfLine c line → (d : Draft) × IsReadFrom c d
told c line d = (
  d.draft.read_as.draft,
  record {
    members = d.object;
    draft = d.draft;
    canonical = d.canonical;
    integral = d.integral;
    reads = d.draft.read_as.reads;
  },
)

drafted : (ms os : Members) (d : Draft) → get_member (codes "object") ms ≡ Some (map_of os) → draft_in os ≡ Ok d → object_draft (get_member (codes "object") ms) ≡ Ok d
unfolding draft_of
drafted ms os d found reads = ap object_draft found ∙ reads

same_value : (a b : Data) → Some a ≡ Some b → a ≡ b
same_value a b e = cc

request_is : (line : List ℕ) (ms : Members) (v : Verb) (r : Request) → reading_of_data line ≡ Ok (map_of ms) → verb_in ms ≡ Ok v → request_by v ms ≡ Ok r → request_of line ≡ Ok r
unfolding request_of request_in
request_is line ms v r reads named made = ap (λ x. lifted x >>= request_in) reads ∙ ap (λ x. x >>= λ u. request_by u ms) named ∙ made

abbrev pub IsAnswered : List ℕ → (old new : Store) → PrintedReply → Type 0
IsAnswered line old new printed = answer old line ≡ (new, compact_text (reply_data (reply_printed printed)))

answer_is : (line : List ℕ) (old new : Store) (r : Request) (printed : PrintedReply) → request_of line ≡ Ok r → (new, reply_printed printed) ≡ step old r → IsAnswered line old new printed
answer_is line old new r printed read took = ap (answered old) read ∙ ap (λ (p : Store × Reply). (p.0, compact_text (reply_data p.1))) (sym took)

pub taken_as : (line a b : List ℕ) (s t : Tables) → IsSorted line a s → b ≡ a → t ≡ s → IsSorted line b t
taken_as line a b s t taken text tables = subst (λ x. IsSorted line x t) (sym text) (subst (IsSorted line a) (sym tables) taken)

-- ---- a text

pub text_told : {A E : Type 0} (bytes : List ℕ) (P : A → Type 0) (Q : E → Type 0) (r : Result A E) (b : Bool) → MatchResult r (λ s. P s × IsUtf8 bytes) Q → b ≡ is_ok r → b ≡ true → is_utf8 bytes ≡ true
text_told bytes P Q (Ok x) b h is good = is_utf8-from_IsUtf8 bytes h.1
text_told bytes P Q (Err e) b h is good = absurd (let bad : false ≡ true = sym is ∙ good in cc)

-- ---- the reply

pub answered_by : {E : Type 0} (line text : List ℕ) (tables : Tables) (c : CompactDraft) (v : Verb) (old new : Store) (result : Result (Option PrintedReply) E)
    → IsSorted line text tables → IsDraftOfLine c line → length line ≤ most_bytes → is_utf8 line ≡ true → ((ms : Members) → IsMap text tables.line ms → verb_in ms ≡ Ok v)
    → ((d : Draft) → IsReadFrom c d → IfOk result (λ found. IfSome found (IsTakenBy v d old new)))
    → IfOk result (λ found. IfSome found (IsAnswered line old new))
unfolding told
answered_by line text tables c v old new result t d short valid named took =
    let same = same_value t.found (map_of d.members) (sym t.reads ∙ d.reads) in
    let noted = subst (OfMembers (IsLine tables)) same t.noted in
    let verb = named d.members (t.now ∙ ap compact_text same, noted.0) in
    let object = drafted d.members d.object _ d.found d.draft.read_as.reads in
    weaker _ _ result (λ printed p. answer_is line old new p.0 printed (request_is line d.members v p.0 (d.reading short valid) verb (asked_by v d.members _ p.0 object p.1)) p.2)
    (took (told c line d).0 (told c line d).1)
