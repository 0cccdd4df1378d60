-- The text of a reply, piece by piece.
use Rattle.std.proofs.Common.{◌≡◌, ℕ, ◌<◌, ◌^◌, List, [], ◌∷◌, ◌++◌, codes, decimal, false, refl, sym, ap, ◌∙◌, append_assoc}
use Rattle.std.specs.Fmt.{digits}
use Rattle.json.specs.Print.{escape, escape_byte, print}
use Rattle.json.specs.Token.{Token}
use Rattle.json.specs.Tree.{json_tokens}
use Rattle.serde_json.specs.Data.{Data}
use Rattle.serde_json.specs.Written.{compact_text, items_text, outline}
use Rattle.serde_json.proofs.Texts.{print-outline}
use Rattle.objects.specs.declared.object.Object.{Object}
use Rattle.objects.specs.Text.{text}
use Rattle.objects.proofs.PlainDigits.{plain_decimal}
use Rattle.requests.specs.declared.reply.Reason.{Reason}
use Rattle.requests.specs.declared.reply.Reason.TheVariants.{NotFound, AlreadyExists, Conflict, Invalid, StoreFull, Expired, TooLarge}
use Rattle.plain.specs.declared.lines.request_error.RequestError.{RequestError}
use Rattle.plain.specs.declared.lines.request_error.RequestError.TheVariants as errors
use Rattle.objects.specs.declared.fault.ReadError.TheVariants as read
use Rattle.requests.specs.Reasons.{reason_name}
use Rattle.plain.specs.Replies.{error_name, printed_items, with_items, with_object, with_reason, with_revision}

-- what begins each line
abbrev pub code_text : ℕ → List ℕ
code_text code = codes "{\"code\":" ++ decimal code

-- what ends each line, from the start of its last member on
abbrev pub last_text : List ℕ → List ℕ → List ℕ
last_text front t = front ++ (t ++ codes "\"}\n")

-- a line feed goes after what comes last
feed_last : (a xs ys : List ℕ) → xs ≡ ys ++ 10 ∷ [] → a ++ xs ≡ (a ++ ys) ++ 10 ∷ []
feed_last a xs ys is = ap (λ x. a ++ x) is ∙ sym (append_assoc a ys (10 ∷ []))

quoted_last : (t rest : List ℕ) → escape t ≡ t → t ++ (34 ∷ (rest ++ 10 ∷ [])) ≡ ((escape t ++ 34 ∷ []) ++ rest) ++ 10 ∷ []
quoted_last t rest plain = sym (ap (λ x. ((x ++ 34 ∷ []) ++ rest) ++ 10 ∷ []) plain ∙ append_assoc (t ++ 34 ∷ []) rest (10 ∷ []) ∙ append_assoc t (34 ∷ []) (rest ++ 10 ∷ []))

pub object_text : (code : ℕ) (o : Object) (outcome : List ℕ) → escape outcome ≡ outcome
    → code_text code ++ (codes ",\"object\":" ++ (text o ++ last_text (codes ",\"result\":\"") outcome)) ≡ compact_text (with_object code o outcome) ++ 10 ∷ []
unfolding escape_byte
object_text code o outcome plain =
    let result = codes ",\"result\":\"" ++ ((escape outcome ++ 34 ∷ []) ++ 125 ∷ []) in
    let shown = codes ",\"object\":" ++ (text o ++ result) in
    ap (λ x. codes "{\"code\":" ++ x) (feed_last (decimal code) _ shown
    (ap (λ x. codes ",\"object\":" ++ x) (feed_last (text o) _ result
    (ap (λ x. codes ",\"result\":\"" ++ x) (quoted_last outcome (125 ∷ []) plain)))))

pub made_front : codes "{\"code\":201,\"object\":" ≡ code_text 201 ++ codes ",\"object\":"
unfolding digits
made_front = refl

pub done_front : codes "{\"code\":200,\"object\":" ≡ code_text 200 ++ codes ",\"object\":"
unfolding digits
done_front = refl

-- the same in three pieces
pub object_pieces : (front back : List ℕ) (code : ℕ) (o : Object) (outcome : List ℕ) → escape outcome ≡ outcome → front ≡ code_text code ++ codes ",\"object\":" → back ≡ last_text (codes ",\"result\":\"") outcome
    → front ++ (text o ++ back) ≡ compact_text (with_object code o outcome) ++ 10 ∷ []
object_pieces front back code o outcome plain front_is back_is =
    ap (λ f. f ++ (text o ++ back)) front_is ∙ ap (λ b. (code_text code ++ codes ",\"object\":") ++ (text o ++ b)) back_is
    ∙ append_assoc (code_text code) (codes ",\"object\":") (text o ++ last_text (codes ",\"result\":\"") outcome) ∙ object_text code o outcome plain

pub reason_text : (code : ℕ) (reason : List ℕ) → escape reason ≡ reason
    → code_text code ++ last_text (codes ",\"reason\":\"") reason ≡ compact_text (with_reason code reason) ++ 10 ∷ []
unfolding escape_byte
reason_text code reason plain =
    let said = codes ",\"reason\":\"" ++ ((escape reason ++ 34 ∷ []) ++ 125 ∷ []) in
    ap (λ x. codes "{\"code\":" ++ x) (feed_last (decimal code) _ said
    (ap (λ x. codes ",\"reason\":\"" ++ x) (quoted_last reason (125 ∷ []) plain)))

pub list_text : (os : List Object) (revision : ℕ) → revision < 2 ^ 64
    → code_text 200 ++ (codes ",\"items\":[" ++ (items_text false (printed_items os) ++ (codes ",\"resourceVersion\":\"" ++ (decimal revision ++ last_text (codes "\",\"result\":\"") (codes "Listed")))))
    ≡ compact_text (with_items os revision) ++ 10 ∷ []
unfolding escape_byte
list_text os revision small =
    let version = codes ",\"resourceVersion\":\"" ++ ((escape (decimal revision) ++ 34 ∷ []) ++ codes ",\"result\":\"Listed\"}") in
    let shown = codes ",\"items\":[" ++ (items_text false (printed_items os) ++ version) in
    ap (λ x. codes "{\"code\":" ++ x) (feed_last (decimal 200) _ shown
    (ap (λ x. codes ",\"items\":[" ++ x) (feed_last (items_text false (printed_items os)) _ version
    (ap (λ x. codes ",\"resourceVersion\":\"" ++ x) (quoted_last (decimal revision) (codes ",\"result\":\"Listed\"}") (plain_decimal revision small))))))

pub revision_text : (revision : ℕ) → revision < 2 ^ 64
    → code_text 200 ++ (codes ",\"resourceVersion\":\"" ++ (decimal revision ++ last_text (codes "\",\"result\":\"") (codes "Compacted"))) ≡ compact_text (with_revision revision) ++ 10 ∷ []
unfolding escape_byte
revision_text revision small =
    let version = codes ",\"resourceVersion\":\"" ++ ((escape (decimal revision) ++ 34 ∷ []) ++ codes ",\"result\":\"Compacted\"}") in
    ap (λ x. codes "{\"code\":" ++ x) (feed_last (decimal 200) _ version
    (ap (λ x. codes ",\"resourceVersion\":\"" ++ x) (quoted_last (decimal revision) (codes ",\"result\":\"Compacted\"}") (plain_decimal revision small))))

-- ---- pieces, one after another

then : {A : Type 0} (a b c xs ys : List A) → b ≡ a ++ xs → c ≡ b ++ ys → c ≡ a ++ (xs ++ ys)
then a b c xs ys p q = q ∙ ap (λ ts. ts ++ ys) p ∙ append_assoc a xs ys

pub two : {A : Type 0} (a b c x y all : List A) → b ≡ a ++ x → c ≡ b ++ y → x ++ y ≡ all → c ≡ a ++ all
two a b c x y all p q is = then a b c x y p q ∙ ap (λ z. a ++ z) is

pub three : {A : Type 0} (a b c d w x y all : List A) → b ≡ a ++ w → c ≡ b ++ x → d ≡ c ++ y → w ++ (x ++ y) ≡ all → d ≡ a ++ all
three a b c d w x y all p q r is = then a b d w (x ++ y) p (then b c d x y q r) ∙ ap (λ v. a ++ v) is

pub four : {A : Type 0} (a b c d e w x y z all : List A) → b ≡ a ++ w → c ≡ b ++ x → d ≡ c ++ y → e ≡ d ++ z → w ++ (x ++ (y ++ z)) ≡ all → e ≡ a ++ all
four a b c d e w x y z all p q r s is = three a b c e w x (y ++ z) all p q (then c d e y z r s) is

pub five : {A : Type 0} (a b c d e f v w x y z all : List A) → b ≡ a ++ v → c ≡ b ++ w → d ≡ c ++ x → e ≡ d ++ y → f ≡ e ++ z
    → v ++ (w ++ (x ++ (y ++ z))) ≡ all → f ≡ a ++ all
five a b c d e f v w x y z all p q r s t is = four a b c d f v w x (y ++ z) all p q r (then d e f y z s t) is

pub six : {A : Type 0} (a b c d e f g u v w x y z all : List A) → b ≡ a ++ u → c ≡ b ++ v → d ≡ c ++ w → e ≡ d ++ x → f ≡ e ++ y → g ≡ f ++ z
    → u ++ (v ++ (w ++ (x ++ (y ++ z)))) ≡ all → g ≡ a ++ all
six a b c d e f g u v w x y z all o p q r s t is = five a b c d e g u v w x (y ++ z) all o p q r (then e f g y z s t) is

-- a value that was written on a line of its own
pub line_written : (line before first out : List ℕ) (none tokens : List Token) (d : Data) → line ≡ before ++ (print tokens ++ 10 ∷ []) → before ≡ first
    → first ≡ out → tokens ≡ none ++ json_tokens (outline d) → none ≡ [] → line ≡ out ++ (compact_text d ++ 10 ∷ [])
line_written line before first out none tokens d is begun made wrote empty =
    is ∙ ap (λ b. b ++ (print tokens ++ 10 ∷ [])) (begun ∙ made)
    ∙ ap (λ t. out ++ (t ++ 10 ∷ [])) (ap print (wrote ∙ ap (λ n. n ++ json_tokens (outline d)) empty) ∙ print-outline d)

-- ---- texts that need no escape

pub plain_reason : (r : Reason) → escape (reason_name r) ≡ reason_name r
unfolding escape_byte
plain_reason NotFound = refl
plain_reason AlreadyExists = refl
plain_reason Conflict = refl
plain_reason Invalid = refl
plain_reason StoreFull = refl
plain_reason Expired = refl
plain_reason TooLarge = refl

pub plain_error : (e : RequestError) → escape (error_name e) ≡ error_name e
unfolding escape_byte
plain_error (errors.Read read.NotJson) = refl
plain_error (errors.Read read.NotWhole) = refl
plain_error (errors.Read read.NoKind) = refl
plain_error (errors.Read read.UnknownKind) = refl
plain_error (errors.Read read.BadName) = refl
plain_error (errors.Read read.BadMeta) = refl
plain_error (errors.Read read.TooLong) = refl
plain_error (errors.Read read.Memory) = refl
plain_error errors.NoVerb = refl
plain_error errors.UnknownVerb = refl
plain_error errors.BadField = refl
