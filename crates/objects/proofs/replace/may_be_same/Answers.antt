use Rattle.std.proofs.Common.{◌++◌, ◌+◌, ◌-◌, ℕ, List, length, drop, take, nat_eq, string_bytes, sym, ap, ◌∙◌, append_assoc}
use Rattle.std.specs.List.{ends_with, starts_with}
use Rattle.objects.proofs.Around.{before_version, begins_alike, behind_version, ends_alike, whole_rest}
use Rattle.objects.proofs.replace.may_be_same.Goals as goal

pub returns-then-starts_with : goal.returns-then-starts_with
returns-then-starts_with c parts version is =
    let s = c.args.old.now in
    let behind = s.version + 2 + length c.format.result.now in
    c.ends_with.ensures.value
    ∙ ap (λ (t : List ℕ). ends_with nat_eq t (take (length c.as_bytes-old.result.now - behind) (drop behind c.as_bytes-old.result.now))) (c.as_bytes-new.ensures.value ∙ c.as_str-2.ensures.value)
    ∙ ap (λ (r : List ℕ). ends_with nat_eq (string_bytes c.args.new.now.text) r)
    (whole_rest behind c.as_bytes-old.result.now ∙ ap (drop behind) (c.as_bytes-old.ensures.value ∙ c.as_str.ensures.value)
    ∙ behind_version (string_bytes s.text) s.revision s.version s.status behind parts (ap (λ (d : List ℕ). s.version + 2 + length d) c.format.ensures.text))
    ∙ ends_alike (string_bytes c.args.new.now.text) (parts.front ++ version) (parts.middle ++ parts.rest) (is ∙ sym (append_assoc parts.front version (parts.middle ++ parts.rest)))

pub returns-else-starts_with : goal.returns-else-starts_with
returns-else-starts_with c parts version is =
    let s = c.args.old.now in
    c.starts_with.ensures.value
    ∙ ap (λ (t : List ℕ). starts_with nat_eq t (take s.version c.as_bytes-old.result.now)) (c.as_bytes-new.ensures.value ∙ c.as_str-2.ensures.value)
    ∙ ap (λ (r : List ℕ). starts_with nat_eq (string_bytes c.args.new.now.text) r)
    (ap (take s.version) (c.as_bytes-old.ensures.value ∙ c.as_str.ensures.value) ∙ before_version (string_bytes s.text) s.revision s.version s.status parts)
    ∙ begins_alike (string_bytes c.args.new.now.text) parts.front (version ++ (parts.middle ++ parts.rest)) is
