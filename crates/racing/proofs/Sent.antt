-- The log of a race may move to another thread, and so may be shared behind a lock.
use denote.Param.Send.{IsSend, sendable}
use Rattle.std.proofs.Crossing.{crosses}
use Rattle.std.proofs.MapsCrossing.{crosses as maps}
use Rattle.interleavings.specs.contracts.trace.Item as Item
use Rattle.race_log.specs.contracts.log.Log as Log
use Rattle.race_log.specs.contracts.part.TimedExchange as TimedExchange
use Rattle.race_log.specs.contracts.part.Part as Part
use Rattle.store.proofs.Sent.{reply-send, request-send}

Item-send : IsSend Item.the_row
Item-send = search (reply-send, request-send, sendable, crosses) depth 40

pub Log-send : IsSend Log.the_row
Log-send = search (Item-send, sendable, crosses, maps) depth 40

pub TimedExchange-send : IsSend TimedExchange.the_row
TimedExchange-send = search (reply-send, request-send, sendable, crosses) depth 40

pub Part-send : IsSend Part.the_row
Part-send = search (TimedExchange-send, sendable, crosses) depth 40
