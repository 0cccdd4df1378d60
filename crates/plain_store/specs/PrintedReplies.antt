-- Replies whose objects are kept as texts, as the replies that they are.
use Rattle.std.specs.Prelude.{Option, Some, None, map}
use Rattle.objects.specs.declared.object.Object.{Object}
use Rattle.requests.specs.declared.reply.Reply.{Reply}
use Rattle.requests.specs.declared.reply.Reply.TheVariants as reply
use Rattle.plain_store.specs.declared.printed_reply.PrintedReply.{PrintedReply}
use Rattle.plain_store.specs.declared.printed_reply.PrintedReply.TheVariants as printed
use Rattle.plain_store.specs.declared.stored_reply.StoredReply.{StoredReply}
use Rattle.plain_store.specs.declared.stored_reply.StoredReply.TheVariants as stored

-- the reply to a request that is no write
abbrev pub reply_stored : StoredReply → Reply
reply_stored (stored.Found o) = reply.Found o.now
reply_stored (stored.Listed objects revision) = reply.Listed (map (λ o. o.now) objects.items) revision
reply_stored (stored.Compacted revision) = reply.Compacted revision
reply_stored (stored.Refused reason) = reply.Refused reason

-- the reply to a write
abbrev pub reply_printed : PrintedReply → Reply
reply_printed (printed.Created o) = reply.Created o
reply_printed (printed.Updated o) = reply.Updated o
reply_printed (printed.Unchanged o) = reply.Unchanged o
reply_printed (printed.Marked o) = reply.Marked o
reply_printed (printed.Removed o) = reply.Removed o
reply_printed (printed.Refused reason) = reply.Refused reason

-- the one object that a reply has
abbrev pub reply_object : Reply → Option Object
reply_object (reply.Created o) = Some o
reply_object (reply.Found o) = Some o
reply_object (reply.Listed os revision) = None
reply_object (reply.Updated o) = Some o
reply_object (reply.Unchanged o) = Some o
reply_object (reply.Marked o) = Some o
reply_object (reply.Removed o) = Some o
reply_object (reply.Compacted revision) = None
reply_object (reply.Refused reason) = None
