-- That threads may share a store, and that a caller and a ticket may be sent to another thread. `search` would prove it
-- of each type again, from the trees on, so a type that holds several of them uses these.
use denote.RattleType.{RattleType}
use denote.Param.Send.{IsSend, IsSync, sendable}
use denote.Hole.{as_row}
use Rattle.std.proofs.Crossing.{crosses}
use Rattle.trees.proofs.tree.Items.TheLaws.TheKnot.{both_send-Items, both_send-Members, both_send-Tree}
use Rattle.trees.specs.contracts.tree.Items.TheKnot.{hole-Items, hole-Members}
use Rattle.trees.specs.contracts.text.Text as Text
use Rattle.trees.specs.contracts.integer.Integer as Integer
use Rattle.trees.specs.contracts.tree.Tree as Tree
use Rattle.objects.specs.contracts.object.Object as Object
use Rattle.objects.specs.contracts.object.Draft as Draft
use Rattle.objects.specs.contracts.key.Key as Key
use Rattle.objects.specs.contracts.meta.Meta as Meta
use Rattle.requests.specs.contracts.listing.Listing as Listing
use Rattle.requests.specs.contracts.reply.Reply as Reply
use Rattle.requests.specs.contracts.request.Request as Request
use Rattle.version_map.specs.contracts.map.VersionMap as VersionMap
use Rattle.version_map.proofs.map.VersionMap.TheSendSync.{the_send as versions_send}
use Rattle.versions.specs.contracts.shard.Shard as Shard
use Rattle.line.specs.contracts.seat.ShardSeat as ShardSeat
use Rattle.line.specs.contracts.seat.CallerSeat as CallerSeat
use Rattle.line.proofs.seat.ShardSeat.TheSendSync.{the_send as seat_send}
use Rattle.line.proofs.seat.CallerSeat.TheSendSync.{the_send as caller_seat_send}
use Rattle.line.proofs.line.Line.TheSendSync.{the_sync as line_sync}
use Rattle.store.specs.contracts.writing.Writing as Writing
use Rattle.store.specs.contracts.locked.Locked as Locked
use Rattle.store.specs.contracts.caller.Caller as Caller
use Rattle.store.specs.contracts.ticket.Ticket as Ticket
use Rattle.store.specs.contracts.store.Store as Store
use Rattle.store.specs.declared.naming.Naming.{Ghosts}
use Rattle.store.specs.declared.naming.Sharding.{Ghosts as Shares}

Text-send : IsSend Text.the_row
Text-send = search (sendable, crosses) depth 40

Text-sync : IsSync Text.the_row
Text-sync = search (sendable, crosses) depth 40

integer-send : IsSend (as_row Integer.the_field)
integer-send = search (sendable, crosses) depth 40

integer-sync : IsSync (as_row Integer.the_field)
integer-sync = search (sendable, crosses) depth 40

text-send : IsSend (as_row Text.the_field)
text-send = search (sendable, crosses) depth 40

text-sync : IsSync (as_row Text.the_field)
text-sync = search (sendable, crosses) depth 40

items-send : IsSend hole-Items
items-send = both_send-Items (λ h s y. search (sendable, crosses) depth 40) (λ h s y. search (Text-send, Text-sync, sendable, crosses) depth 40)
    (search sendable) integer-send text-send
    (λ h s y. search (sendable, crosses) depth 40) (λ h s y. search (Text-send, Text-sync, sendable, crosses) depth 40)
    (search sendable) integer-sync text-sync

members-send : IsSend hole-Members
members-send = both_send-Members (λ h s y. search (sendable, crosses) depth 40) (λ h s y. search (Text-send, Text-sync, sendable, crosses) depth 40)
    (search sendable) integer-send text-send
    (λ h s y. search (sendable, crosses) depth 40) (λ h s y. search (Text-send, Text-sync, sendable, crosses) depth 40)
    (search sendable) integer-sync text-sync

tree-send : IsSend (Tree.the_field).row
tree-send = both_send-Tree (search sendable) (search (sendable, crosses) depth 40) Text-send items-send members-send

meta-send : IsSend (Meta.the_field).row
meta-send = search (sendable, crosses) depth 40

key-send : IsSend (Key.the_field).row
key-send = search (sendable, crosses) depth 40

Object-send : IsSend Object.the_row
Object-send = search (key-send, meta-send, tree-send, sendable) depth 40

draft-send : IsSend (Draft.the_field).row
draft-send = search (Object-send, sendable, crosses) depth 40

listing-send : IsSend (Listing.the_field).row
listing-send = search (Object-send, sendable, crosses) depth 40

pub reply-send : IsSend (Reply.the_field).row
reply-send = search (Object-send, listing-send, sendable, crosses) depth 40

pub request-send : IsSend (Request.the_field).row
request-send = search (draft-send, key-send, Text-send, sendable, crosses) depth 40

versions-send : IsSend (VersionMap.the_row Object.the_row)
versions-send = versions_send Object.the_row Object-send

Shard-send : IsSend Shard.the_row
Shard-send = search (versions-send, key-send, sendable, crosses) depth 40

seat-send : IsSend (ShardSeat.the_row Writing.the_row)
seat-send = seat_send Writing.the_row

caller-seat-send : IsSend (CallerSeat.the_row Writing.the_row)
caller-seat-send = caller_seat_send Writing.the_row

locked-send : (H N : RattleType) (h : Shares H.Denot) (n : Ghosts N.Denot) → IsSend H → IsSend N → IsSend (Locked.the_row H N h n)
locked-send H N h n held sent = search (Shard-send, seat-send, sendable, crosses) depth 40

-- a caller and its tickets may be sent with a thread
pub caller-send : (H N : RattleType) (h : Shares H.Denot) (n : Ghosts N.Denot) → IsSend H → IsSend N → IsSend (Caller.the_row H N h n)
caller-send H N h n held sent = search (caller-seat-send, sendable, crosses) depth 40

pub ticket-send : (H N : RattleType) (h : Shares H.Denot) (n : Ghosts N.Denot) → IsSend H → IsSend N → IsSend (Ticket.the_row H N h n)
ticket-send H N h n held sent = search (reply-send, request-send, sendable, crosses) depth 40

-- threads may share a store
pub store-sync : (H N : RattleType) (h : Shares H.Denot) (n : Ghosts N.Denot) → IsSend H → IsSend N → IsSync (Store.the_row H N h n)
store-sync H N h n held sent = search (locked-send, caller-seat-send, line_sync, sendable, crosses) depth 40
