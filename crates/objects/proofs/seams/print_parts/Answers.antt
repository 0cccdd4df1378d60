use Rattle.std.proofs.Common.{◌≡◌, ◌-◌, ℕ, length, vec_len, take, Option, None, Some, IfSome, sym, ap, ◌∙◌, subst, length-append, arith, length-drop, refl}
use Rattle.std.specs.Str.{IsUtf8}
use Rattle.std.proofs.lemmas.Str.{IsUtf8-append}
use Rattle.json.specs.Lex.{tokens}
use Rattle.json.specs.Print.{ArePrintableOrBad}
use Rattle.objects.specs.Seams.{HasSeamsAt, IsSpecAt, WritesHead}
use Rattle.objects.specs.declared.seams.Seams.{Seams}
use Rattle.objects.proofs.SeamTexts.{seams_at, front_bytes, parts_read, printable_again, whole_bytes, whole_utf8}
use Rattle.objects.proofs.SpecTexts.{so_printable, spec_at, two_bytes, version_bytes, written_so}
use Rattle.objects.proofs.PrintedTexts.{text_of}
use Rattle.objects.proofs.seams.print_parts.Goals as goal

pub spec_between-spec-requires-clause-order : goal.spec_between-spec-requires-clause-order
spec_between-spec-requires-clause-order c =
    omega (arith, c.len-begin.ensures, c.len-status.ensures, c.into_inner-bytes-2.result.ok, c.in_ok-between.between.bytes.ok, ap length c.in_ok-between.ensures.bytes ∙ length-append c.into_inner-bytes-2.result.items _)

pub spec_between-spec-requires-clause-part : goal.spec_between-spec-requires-clause-part
spec_between-spec-requires-clause-part c = omega (arith, ap length c.in_ok-between.ensures.left ∙ length-drop c.in_ok-between.ensures.count c.in_ok-head.head.after.now)

pub returns-clause-text : goal.returns-clause-text
returns-clause-text c =
    let o = c.args.object.now in
    let versioned = c.in_ok-head.head.versioned.now in
    let after = c.in_ok-head.head.after.now in
    let tail = c.in_ok-between.between.tail.now in
    let between = c.in_ok-between.ensures in
    let mid = take between.count after in
    let head = subst (λ t. WritesHead o versioned after t c.write_head.new.out.tokens) c.new-front.ensures.tokens c.in_ok-head.ensures.written in
    let middle = written_so o versioned after tail _ _ between in
    let empty = c.key.ensures.room.0 ∙ c.write_head.ensures.before ∙ c.new-front.ensures.before ∙ c.requires.empty in
    let first = front_bytes c.write_head.new.out.tokens _ _ _ c.in_ok-key.ensures.ok empty c.into_inner-bytes.ensures.items in
    let versioned_is = version_bytes o versioned _ _ _ _ _ c.new-middle.ensures.tokens c.in_ok-write_version.ensures.tokens (c.write_version.ensures.before ∙ c.new-middle.ensures.before) c.into_inner-bytes-2.ensures.items in
    let second = two_bytes o versioned mid _ _ _ versioned_is between.bytes in
    let is = whole_bytes o versioned after tail _ _ head middle _ _ _ c.requires.written first second c.in_ok-bytes.ensures.bytes in
    let keyed = subst ArePrintableOrBad c.in_ok-key.ensures.ok (printable_again _ c.into_inner-bytes.ensures.reads_back) in
    let known = so_printable o versioned mid _ _ c.new-middle.ensures.tokens c.in_ok-write_version.ensures.tokens c.into_inner-bytes-2.ensures.reads_back between.printable in
    let canonical = c.in_ok-head.ensures.canonical c.in_ok-write_version.ensures.versioned (between.canonical c.in_ok-bytes.ensures.canonical) in
    text_of o c.in_ok-head.ensures.rules canonical _ is
    (ap tokens is ∙ parts_read o versioned after tail _ _ head middle c.requires.written keyed known c.in_ok-bytes.ensures.printable)

pub returns-clause-utf8 : goal.returns-clause-utf8
returns-clause-utf8 c =
    let between = c.in_ok-between.ensures in
    let empty = c.key.ensures.room.0 ∙ c.write_head.ensures.before ∙ c.new-front.ensures.before ∙ c.requires.empty in
    subst IsUtf8 (sym c.in_ok-bytes.ensures.bytes) (IsUtf8-append c.in_ok-between.between.bytes.items _
    (whole_utf8 _ _ _ _ _ _ _ _ empty c.into_inner-bytes.ensures.items (c.write_version.ensures.before ∙ c.new-middle.ensures.before) c.into_inner-bytes-2.ensures.items between.bytes
    c.into_inner-bytes.ensures.utf8 c.into_inner-bytes-2.ensures.utf8 between.utf8) c.in_ok-bytes.ensures.utf8)

if_some : (P Q : Seams → Type 0) (o : Option Seams) → ((x : Seams) → P x → Q x) → IfSome o P → IfSome o Q
if_some P Q None f h = h
if_some P Q (Some x) f h = f x h

pub returns-clause-seams : goal.returns-clause-seams
returns-clause-seams c =
    let o = c.args.object.now in
    let versioned = c.in_ok-head.head.versioned.now in
    let after = c.in_ok-head.head.after.now in
    let tail = c.in_ok-between.between.tail.now in
    let between = c.in_ok-between.ensures in
    let mid = take between.count after in
    let head = subst (λ t. WritesHead o versioned after t c.write_head.new.out.tokens) c.new-front.ensures.tokens c.in_ok-head.ensures.written in
    let middle = written_so o versioned after tail _ _ between in
    let empty = c.key.ensures.room.0 ∙ c.write_head.ensures.before ∙ c.new-front.ensures.before ∙ c.requires.empty in
    let first = front_bytes c.write_head.new.out.tokens _ _ _ c.in_ok-key.ensures.ok empty c.into_inner-bytes.ensures.items in
    let versioned_is = version_bytes o versioned _ _ _ _ _ c.new-middle.ensures.tokens c.in_ok-write_version.ensures.tokens (c.write_version.ensures.before ∙ c.new-middle.ensures.before) c.into_inner-bytes-2.ensures.items in
    let second = two_bytes o versioned mid _ _ _ versioned_is between.bytes in
    let keyed = subst ArePrintableOrBad c.in_ok-key.ensures.ok (printable_again _ c.into_inner-bytes.ensures.reads_back) in
    let known = so_printable o versioned mid _ _ c.new-middle.ensures.tokens c.in_ok-write_version.ensures.tokens c.into_inner-bytes-2.ensures.reads_back between.printable in
    let canonical = c.in_ok-head.ensures.canonical c.in_ok-write_version.ensures.versioned (between.canonical c.in_ok-bytes.ensures.canonical) in
    let length_version : length c.into_inner-bytes.result.items ≡ vec_len c.into_inner-bytes.result = omega (arith, c.into_inner-bytes.result.ok) in
    let length_status : length c.in_ok-between.between.bytes.items ≡ vec_len c.in_ok-between.between.bytes = omega (arith, c.in_ok-between.between.bytes.ok) in
    if_some _ (λ seams. HasSeamsAt o seams.version seams.status) _ (λ seams h.
    seams_at o versioned after tail _ _ head middle _ _ seams.version seams.status c.requires.written first second (h.0 ∙ c.len-version.ensures ∙ sym length_version) (h.1 ∙ c.len-status.ensures ∙ sym length_status) keyed known
    c.in_ok-bytes.ensures.printable c.in_ok-head.ensures.rules canonical h.3) c.seams_before-seams.ensures

if_size : (P Q : ℕ → Type 0) (o found : Option ℕ) → o ≡ found → ((n : ℕ) → P n → Q n) → IfSome found P → IfSome o Q
if_size P Q o None is f h = subst (λ x. IfSome x Q) (sym is) tt
if_size P Q o (Some n) is f h = subst (λ x. IfSome x Q) (sym is) (f n h)

pub returns-clause-spec : goal.returns-clause-spec
returns-clause-spec c =
    let o = c.args.object.now in
    let versioned = c.in_ok-head.head.versioned.now in
    let after = c.in_ok-head.head.after.now in
    let tail = c.in_ok-between.between.tail.now in
    let between = c.in_ok-between.ensures in
    let mid = take between.count after in
    let head = subst (λ t. WritesHead o versioned after t c.write_head.new.out.tokens) c.new-front.ensures.tokens c.in_ok-head.ensures.written in
    let middle = written_so o versioned after tail _ _ between in
    let empty = c.key.ensures.room.0 ∙ c.write_head.ensures.before ∙ c.new-front.ensures.before ∙ c.requires.empty in
    let first = front_bytes c.write_head.new.out.tokens _ _ _ c.in_ok-key.ensures.ok empty c.into_inner-bytes.ensures.items in
    let versioned_is = version_bytes o versioned _ _ _ _ _ c.new-middle.ensures.tokens c.in_ok-write_version.ensures.tokens (c.write_version.ensures.before ∙ c.new-middle.ensures.before) c.into_inner-bytes-2.ensures.items in
    let second = two_bytes o versioned mid _ _ _ versioned_is between.bytes in
    let keyed = subst ArePrintableOrBad c.in_ok-key.ensures.ok (printable_again _ c.into_inner-bytes.ensures.reads_back) in
    let known = so_printable o versioned mid _ _ c.new-middle.ensures.tokens c.in_ok-write_version.ensures.tokens c.into_inner-bytes-2.ensures.reads_back between.printable in
    let canonical = c.in_ok-head.ensures.canonical c.in_ok-write_version.ensures.versioned (between.canonical c.in_ok-bytes.ensures.canonical) in
    let length_version : length c.into_inner-bytes.result.items ≡ vec_len c.into_inner-bytes.result = omega (arith, c.into_inner-bytes.result.ok) in
    let length_begin : length c.into_inner-bytes-2.result.items ≡ vec_len c.into_inner-bytes-2.result = omega (arith, c.into_inner-bytes-2.result.ok) in
    let length_status : length c.in_ok-between.between.bytes.items ≡ vec_len c.in_ok-between.between.bytes = omega (arith, c.in_ok-between.between.bytes.ok) in
    if_some _ (λ seams. IfSome seams.spec (IsSpecAt o seams.version seams.status)) _ (λ seams h.
    if_size _ (IsSpecAt o seams.version seams.status) seams.spec c.spec_between-spec.result h.2 (λ size k.
    let at = seams_at o versioned after tail _ _ head middle _ _ seams.version seams.status c.requires.written first second (h.0 ∙ c.len-version.ensures ∙ sym length_version) (h.1 ∙ c.len-status.ensures ∙ sym length_status) keyed known
    c.in_ok-bytes.ensures.printable c.in_ok-head.ensures.rules canonical h.3 in
    spec_at o versioned after tail _ head between.count seams.version seams.status size c.len-begin.result c.into_inner-bytes-2.result.items c.in_ok-between.between.bytes.items at refl between.left between.above k.1 h.3 between.bytes between.printable
    (c.len-begin.ensures ∙ sym length_begin) (h.1 ∙ c.len-status.ensures ∙ sym length_status) (k.0 ∙ ap (λ n. n - c.len-begin.result) (sym h.1))) c.spec_between-spec.ensures) c.seams_before-seams.ensures
