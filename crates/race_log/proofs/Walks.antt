-- Walks over a list, one element after another.
use Rattle.std.proofs.Common.{◌≡◌, ℕ, ◌+◌, ◌<◌, List, length, get_or, drop, sym, ap, ◌∙◌, add-one, drop-cons}
use Rattle.requests.specs.declared.reply.Reply.{Reply}
use Rattle.interleavings.specs.declared.trace.Item.{Item}
use Rattle.race_log.specs.declared.stamp.Stamp.{Stamp}
use Rattle.race_log.specs.Twice.{reply_at, replies_in_order, with_next}

-- the replies so far and the rest are all of them
pub replies_in_order-next : (items : List Item) (order : List Stamp) (at : ℕ) (d : Stamp) (earlier all : List Reply) → at < length order
    → replies_in_order items (drop at order) earlier ≡ all → replies_in_order items (drop (at + 1) order) (with_next (reply_at items (get_or order at d).reply) earlier) ≡ all
replies_in_order-next items order at d earlier all inside so_far =
    ap (λ n. replies_in_order items (drop n order) (with_next (reply_at items (get_or order at d).reply) earlier)) (add-one at)
    ∙ ap (λ ss. replies_in_order items ss earlier) (sym (drop-cons order at d inside)) ∙ so_far
