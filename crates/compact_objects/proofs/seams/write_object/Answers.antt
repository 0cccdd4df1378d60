use Rattle.std.proofs.Common.{◌≡◌, ◌++◌, length, vec_len, sym, ap, ◌∙◌, arith}
use Rattle.objects.specs.Meta.{MetaParts}
use Rattle.objects.specs.Seams.{version_text}
use Rattle.compact_objects.proofs.Seaming.{object_written}
use Rattle.compact_objects.proofs.seams.write_object.Goals as goal

pub returns : goal.returns
returns c os ms is ascending metadata_is metadata_ascending =
    let f = c.in_ok-behind.ensures os ms is ascending metadata_is metadata_ascending in
    let b = c.in_ok-last.ensures f.rest f.ascending f.left_is f.entries_are in
    let before_version : length c.write_front.new.out.items ≡ vec_len c.write_front.new.out = omega (arith, c.write_front.new.out.ok) in
    let before_between : length c.write_after_version.new.out.items ≡ vec_len c.write_after_version.new.out = omega (arith, c.write_after_version.new.out.ok) in
    let before_status : length c.write_below.new.out.items ≡ vec_len c.write_below.new.out = omega (arith, c.write_below.new.out.ok) in
    object_written c.args.key.now c.args.meta.now os ms _ _ _ _ _ _ _ _ _ _ _ c.args.end.now _ _ _ _ f
    (c.in_ok-write_version.ensures ∙ ap (λ (m : MetaParts). c.write_front.new.out.items ++ version_text m.revision) c.meta.view_is)
    (c.in_ok-write_after_version.ensures f.versioned f.versioned_ascending f.versioned_left f.versioned_entries) b
    (c.ends_there.ensures b.rest b.left_is b.entries_are c.if-not-ends_there.false) c.in_ok-extend_from_slice.ensures.items
    (c.len-version.ensures ∙ sym before_version) (c.len-begin.ensures ∙ sym before_between) (c.len-status.ensures ∙ sym before_status)
    (c.spec_between-spec.ensures f.rest f.left_is f.entries_are)
