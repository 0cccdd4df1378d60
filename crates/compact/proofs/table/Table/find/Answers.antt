use Rattle.std.proofs.Common.{◌<◌, ◌^◌, ◌∙◌, ap, arith, length, option_map, refl, subst, sym}
use Rattle.std.proofs.lemmas.Slice.Eq.{bytes_eq-Decides}
use Rattle.serde_json.specs.Written.{compact_text}
use Rattle.compact.specs.Fields.{IsLeft}
use Rattle.compact.proofs.Lengths.{none_as_long}
use Rattle.compact.proofs.Passing.{same_bytes}
use Rattle.compact.proofs.Split.{looking_begins, differs, found, passed}
use Rattle.compact.proofs.table.Table.find.Goals as goal
use Rattle.compact.proofs.table.Table.find.Goals.{then-entry-size+in_ok-field+else-eq, else-entry-size}

pub returns-then-not-may_have : goal.returns-then-not-may_have
returns-then-not-may_have c ms is are =
    sym (ap (option_map compact_text) (none_as_long c.args.name.now ms c.args.self.now are (c.if-not-may_have.ensures refl)))

pub members-init : goal.members-init
members-init c = record { looking = λ ms is are. looking_begins c.args.name.now c.args.text.now ms _ is (are.0 ∙ sym c.as_slice-entries.ensures, are.1) }

pub returns-then-eq : goal.returns-then-eq
returns-then-eq c ms is are =
    let k = c.members.invariant.looking ms is are in
    let left = subst (IsLeft k.looking.others) (sym (c.rest_from-left.ensures k.front k.left k.is k.at_is)) k.looking.left_is in
    found c.args.name.now ms _ _ _ _ _ _ k.looking (c.in_ok-field.ensures.first k.looking.others left k.looking.entries_are) (same_bytes _ _ c.if-eq.ensures)

pub members-preserved : goal.members-preserved
members-preserved c = record {
  looking = λ ms is are.
      let k = c.members.invariant.looking ms is are in
      let fits : length c.args.text.now < 2 ^ 64 = omega arith in
      let next = passed c.args.name.now c.args.text.now ms c.members.at _ c.in-Some.entry.now _ c.in-Some.others.now k c.in-Some.ensures.cases.0 fits refl in
      elim c.if-entry-size.branch [
        | then-entry-size+in_ok-field+else-eq w ↦
            let left = subst (IsLeft k.looking.others) (sym (w.rest_from-left.ensures k.front k.left k.is k.at_is)) k.looking.left_is in
            let first = w.in_ok-field.ensures.first k.looking.others left k.looking.entries_are in
            next (λ l d others all key e. differs c.args.name.now _ _ _ k.looking.others _ _ first (bytes_eq-Decides _ c.args.name.now).1 (sym w.if-eq.ensures) l d others all e)
        | else-entry-size w ↦ next (λ l d others all key e. w.if-entry-size.false (omega (arith, key, ap length e)))
      ];
}
