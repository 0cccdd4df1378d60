use Rattle.std.proofs.Common.{◌≡◌, ◌-◌, ◌∙◌, sym, [], ◌∷◌, ◌++◌, refl, arith}
use Rattle.json.specs.Print.{quoted}
use Rattle.serde_json.specs.Written.{compact_text}
use Rattle.compact.proofs.Search.{opened}
use Rattle.compact.proofs.Split.{end_of, rest_text, parted, is_first}
use Rattle.compact.proofs.table.Fields.split_first.Goals as goal

pub returns-clause-first : goal.returns-clause-first
returns-clause-first c ms is are =
    let o = opened ms c.in_ok-entry.entry.now c.in_ok-entry.entries.now c.args.self.entries.now are.0 c.in_ok-entry.ensures.cases.0 are.1 in
    let p = parted c.args.self.left.now ms c.in_ok-entry.entry.now c.in_ok-entry.entries.now is o in
    let key = c.part-name.ensures (34 ∷ []) o.l _ p.key_at refl (p.key_ends ∙ sym (let less : c.saturating_sub.result ≡ c.in_ok-entry.entry.now.key - 1 = omega (arith, c.saturating_sub.ensures) in less)) in
    let behind = c.rest_from-behind.ensures (quoted o.l) (58 ∷ (compact_text o.e ++ end_of o.others ∷ rest_text o.others)) p.value_from p.value_begins in
    let value = c.part-value.ensures (58 ∷ []) (compact_text o.e) (end_of o.others ∷ rest_text o.others) behind refl (p.value_ends ∙ sym (let less : c.saturating_sub-3.result ≡ (c.in_ok-entry.entry.now.size - c.in_ok-entry.entry.now.key) - 1 = omega (arith, c.saturating_sub-3.ensures, c.saturating_sub-2.ensures) in less)) in
    let left = c.rest_from-left.ensures (quoted o.l ++ 58 ∷ (compact_text o.e ++ end_of o.others ∷ [])) (rest_text o.others) p.behind_at p.behind_begins in
    is_first ms c.in_ok-entry.entry.now _ _ _ c.in_ok-entry.entries.now o key value left
