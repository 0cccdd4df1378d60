-- What writes of drafts come to that were told of lines, judged over texts.
use Rattle.std.proofs.Common.{◌≡◌, ℕ, Bool, true, false, cond, is_some, Option, Some, None, IfSome, Result, Ok, Err, IfOk, refl, sym, ap, ◌∙◌, subst}
use Rattle.std.specs.Prelude.{not, ◌&&◌, codes}
use Rattle.objects.specs.declared.key.Key.{Key}
use Rattle.objects.specs.declared.object.Draft.{Draft}
use Rattle.objects.specs.declared.object.Object.{Object}
use Rattle.requests.specs.Admission.{create_denied}
use Rattle.requests.specs.Change.{Change, creates, stamp}
use Rattle.requests.specs.Judgments.{judged_at}
use Rattle.requests.specs.Verdict.{born, changes_data, conflicts, has_status, nonempty, same_member, status_unless_same, unless_same, updated, verdict}
use Rattle.requests.specs.declared.change_kind.ChangeKind.TheVariants.{Creation, Update as Updating}
use Rattle.requests.specs.declared.reply.Reason.{Reason}
use Rattle.requests.specs.declared.reply.Reason.TheVariants.{AlreadyExists, Conflict, Invalid}
use Rattle.requests.specs.declared.request.Request.TheVariants.{Create, Update, UpdateStatus}
use Rattle.requests.specs.declared.verdict.Judgment.{Judgment}
use Rattle.requests.specs.declared.verdict.Judgment.TheVariants as judged
use Rattle.requests.specs.declared.verdict.Verdict.{Verdict}
use Rattle.requests.specs.declared.verdict.Verdict.TheVariants.{Refuse, Write}
use Rattle.compact_objects.specs.Drafts.{lent}
use Rattle.compact_objects.specs.declared.draft.CompactDraft.{CompactDraft}
use Rattle.compact_objects.specs.ReadFrom.{IsReadFrom}
use Rattle.compact_objects.specs.Writes.{IsUpdateOf}
use Rattle.compact_objects.proofs.KnownDrafts.{status_kind, uid_told, version_told}

-- what holds of what is found holds of this
pub told_by : {A : Type 0} (P : A → Type 0) (found : Option A) (x : A) → found ≡ Some x → IfSome found P → P x
told_by P found x is h = subst (λ f. IfSome f P) is h

pub weaker : {A E : Type 0} (P Q : A → Type 0) (r : Result (Option A) E) → ((x : A) → P x → Q x) → IfOk r (λ f. IfSome f P) → IfOk r (λ f. IfSome f Q)
weaker P Q (Err e) then h = tt
weaker P Q (Ok None) then h = tt
weaker P Q (Ok (Some x)) then h = then x h

-- ---- creates

abbrev denied_or : Option Reason → Change → Verdict
denied_or None change = Write change
denied_or (Some reason) change = Refuse reason

by_denial : (named there : Bool) (change : Change)
    → cond named (Refuse Invalid) (cond there (Refuse AlreadyExists) (Write change)) ≡ denied_or (cond named (Some Invalid) (cond there (Some AlreadyExists) None)) change
by_denial true there change = refl
by_denial false true change = refl
by_denial false false change = refl

create_by : (c : CompactDraft) (d : Draft) (current : Option Object) (there : Bool) → IsReadFrom c d → is_some current ≡ there
    → denied_or (create_denied (lent c.version) there) (creates (born d.object)) ≡ verdict (Create d) current
create_by c d current there told is =
    sym (by_denial (is_some (nonempty (lent c.version))) there (creates (born d.object)))
    ∙ ap (λ b. cond (is_some (nonempty (lent c.version))) (Refuse Invalid) (cond b (Refuse AlreadyExists) (Write (creates (born d.object))))) (sym is)
    ∙ ap (λ v. cond (is_some (nonempty v)) (Refuse Invalid) (cond (is_some current) (Refuse AlreadyExists) (Write (creates (born d.object))))) (sym (version_told c d told))

pub create_written : (c : CompactDraft) (d : Draft) (current : Option Object) (there : Bool) (n : ℕ) (text : Object) → IsReadFrom c d → is_some current ≡ there
    → create_denied (lent c.version) there ≡ None → text ≡ stamp (creates (born d.object)) n → judged.Write Creation text ≡ judged_at n (verdict (Create d) current)
create_written c d current there n text told is admitted written =
    ap (judged.Write Creation) written
    ∙ ap (judged_at n) (ap (λ x. denied_or x (creates (born d.object))) (sym admitted) ∙ create_by c d current there told is)

conflicts_told : (c : CompactDraft) (d : Draft) (o : Object) → IsReadFrom c d → conflicts d.version d.uid o ≡ conflicts (lent c.version) (lent c.uid) o
conflicts_told c d o told = ap (λ v. conflicts v d.uid o) (version_told c d told) ∙ ap (λ u. conflicts (lent c.version) u o) (uid_told c d told)

-- ---- updates

-- the data of an object that has a status may change
no_data : (h : Bool) (o : Object) (d : Draft) → h ≡ true → (not h && not (same_member (codes "data") o.body d.object.body)) ≡ false
no_data true o d has = refl
no_data false o d has = absurd cc

told_update : (c : CompactDraft) (d : Draft) (o : Object) → IsReadFrom c d → conflicts (lent c.version) (lent c.uid) o ≡ false → has_status o.key.kind ≡ true → unless_same o (updated o d) ≡ verdict (Update d) (Some o)
told_update c d o told agrees has =
    sym (ap (λ b. cond b (Refuse Conflict) (cond (changes_data d o) (Refuse Invalid) (unless_same o (updated o d)))) (conflicts_told c d o told ∙ agrees)
    ∙ ap (λ b. cond b (Refuse Invalid) (unless_same o (updated o d))) (no_data (has_status o.key.kind) o d has))

pub update_written : (c : CompactDraft) (d : Draft) (current : Option Object) (o : Object) (n : ℕ) (text : Object) → IsReadFrom c d → current ≡ Some o → conflicts (lent c.version) (lent c.uid) o ≡ false
    → o.key ≡ c.key → has_status c.key.kind ≡ true → IsUpdateOf o d n text → judged.Write Updating text ≡ judged_at n (verdict (Update d) current)
update_written c d current o n text told there agrees key has written =
    ap (judged.Write Updating) written.1
    ∙ ap (judged_at n) (sym written.0 ∙ told_update c d o told agrees (ap (λ (k : Key). has_status k.kind) key ∙ has) ∙ ap (verdict (Update d)) (sym there))

-- ---- status requests

told_status : (c : CompactDraft) (d : Draft) (o : Object) → IsReadFrom c d → has_status d.object.key.kind ≡ true → conflicts (lent c.version) (lent c.uid) o ≡ false → status_unless_same o d ≡ verdict (UpdateStatus d) (Some o)
told_status c d o told has agrees = rw (has, conflicts_told c d o told ∙ agrees) refl

pub status_judged : (c : CompactDraft) (d : Draft) (current : Option Object) (o : Object) (n : ℕ) (j : Judgment Object) → IsReadFrom c d → current ≡ Some o → conflicts (lent c.version) (lent c.uid) o ≡ false
    → has_status c.key.kind ≡ true → j ≡ judged_at n (status_unless_same o d) → j ≡ judged_at n (verdict (UpdateStatus d) current)
status_judged c d current o n j told there agrees has is =
    is ∙ ap (judged_at n) (told_status c d o told (status_kind c d told has) agrees ∙ ap (verdict (UpdateStatus d)) (sym there))
