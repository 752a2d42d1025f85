-- What a hub holds may cross threads, and a hub may be shared by threads: each type from those of its parts. A tree holds itself, so
-- Rattle finds this of a tree, and not of what holds one.
use denote.Param.Send.{IsSend, sendable, IsSync}
use denote.Param.SendFields.{declared_send, variants_send, as_row_send, declared_sync, as_row_sync}
use Rattle.std.proofs.Crossing.{crosses, send as global_is}
use Rattle.std.proofs.MapsCrossing.{crosses as maps}
use Rattle.std.proofs.MapsCrossingOver.{crosses as maps_over}
use Rattle.rtrb.proofs.producer.Producer.TheSendSync.{the_send as producer_is}
use Rattle.rtrb.proofs.consumer.Consumer.TheSendSync.{the_send as consumer_is}
use Rattle.std.below.std_heap.proofs.GlobalAllocator.TheSendSync.{the_frees}
use Rattle.pres_tree.proofs.nested.Nested.TheLaws.TheKnot.{crosses as knot}
use Rattle.pres_fan.proofs.level.Level.TheLaws.TheKnot.{crosses as level_knot}
use Rattle.pres_tree.proofs.key.Key.TheSendSync.{the_send as key_is}
use Rattle.pres_tree.proofs.path.Path.TheSendSync.{the_send as path_is}
use Rattle.pres_tree.proofs.scalar.Scalar.TheSendSync.{the_send as scalar_is}
use Rattle.pres_write.proofs.draft.DraftLeaf.TheSendSync.{the_send as slot_is}
use Rattle.pres_write.proofs.items.Items.TheSendSync.{the_send as items_is}
use Rattle.pres_write.proofs.moment.Moment.TheSendSync.{the_send as moment_is}
use Rattle.pres_ids.proofs.id.ClientId.TheSendSync.{the_send as client_is}
use Rattle.pres_ids.proofs.id.SessionId.TheSendSync.{the_send as session_is}
use Rattle.pres_ids.proofs.id.Why.TheSendSync.{the_send as why_is}
use Rattle.pres_ids.proofs.number.Number.TheSendSync.{the_send as number_is}
use Rattle.pres_ids.proofs.number.Count.TheSendSync.{the_send as count_is}
use Rattle.pres_wire.proofs.down.Limit.TheSendSync.{the_send as limit_is}
use Rattle.pres_tree.specs.contracts.scalar.Scalar as scalar
use Rattle.pres_tree.specs.contracts.nested.Nested as nested
use Rattle.pres_write.specs.contracts.draft.DraftLeaf as slot
use Rattle.pres_write.specs.contracts.basic.Basic as basic
use Rattle.pres_write.specs.contracts.op.Op as op
use Rattle.pres_write.specs.contracts.update.Update as update
use Rattle.pres_write.specs.contracts.unconditional.Unconditional as unconditional
use Rattle.pres_write.specs.contracts.outcome.Outcome as outcome
use Rattle.pres_write.specs.contracts.outcome.Kept as kept
use Rattle.pres_write.specs.contracts.puts.Puts as puts
use Rattle.pres_write.specs.contracts.placement.Placement as placement
use Rattle.pres_session.specs.contracts.gone.Gone as gone
use Rattle.pres_session.specs.contracts.live.Live as live
use Rattle.pres_plan.specs.contracts.plan.Plan as plan
use Rattle.pres_retry.specs.contracts.table.RetryTable as retry
use Rattle.pres_retry.specs.contracts.answers.Answers as answers
use Rattle.pres_retry.specs.contracts.shelf.Offsets as offsets
use Rattle.pres_retry.specs.contracts.shelf.Shelf as shelf
use Rattle.pres_fan.specs.contracts.paths.SessionPaths as session_paths
use Rattle.pres_fan.specs.contracts.sessions.Sessions as listening
use Rattle.pres_fan.specs.contracts.level.Level as level
use Rattle.pres_fan.specs.contracts.listeners.Listeners as listeners
use Rattle.pres_log.specs.contracts.entry.Entry as entry
use Rattle.pres_log.specs.contracts.entry.Batch as batch
use Rattle.pres_log.specs.contracts.log.Log as log
use Rattle.pres_plan.specs.contracts.row.PlanRow as plan_row
use Rattle.pres_base.specs.contracts.parts.ClientPart as client_part
use Rattle.pres_base.specs.contracts.parts.SessionPart as session_part
use Rattle.pres_base.specs.contracts.parts.BaseParts as base_parts
use Rattle.pres_base.specs.contracts.base.Base as base
use Rattle.pres_server.specs.contracts.client_sessions.ClientSessions as places
use Rattle.pres_server.specs.contracts.index.Index as index
use Rattle.pres_server.specs.contracts.server.Server as server
use Rattle.pres_wire.specs.contracts.values.Values as values
use Rattle.pres_wire.specs.contracts.down.Down as down
use Rattle.pres_wire.specs.contracts.up.Up as up
use Rattle.pres_ring.specs.contracts.feed.Feed as feed
use Rattle.pres_ring.specs.contracts.outbox.Outbox as outbox
use Rattle.pres_ring.specs.contracts.lines.Lines as lines
use Rattle.pres_keeper.specs.contracts.memory.MemKeeper as keeper
use Rattle.pres_ring.specs.contracts.session_feed.SessionFeed as place
use denote.RattleType.{RattleType}
use Rattle.std.specs.declared.sync.ledger.Ledger as ledger
use Rattle.pres_keeper.specs.declared.keeper.Keeper as keeping
use Rattle.pres_keeper.specs.contracts.engine.Engine as engine
use Rattle.pres_dispatch.specs.contracts.dispatcher.Dispatcher as dispatcher
use Rattle.pres_dispatch.specs.contracts.bells.Bells as bells
use Rattle.pres_dispatch.specs.contracts.bells.SessionBell as hung
use Rattle.pres_dispatch.specs.contracts.bells.DueBell as due
use Rattle.pres_hub.specs.contracts.center.Said as said
use Rattle.pres_hub.specs.contracts.center.Core as core
use Rattle.pres_hub.specs.contracts.locked.Hub as hub
use Rattle.pres_hub.specs.contracts.request.Request as request
use Rattle.pres_hub.specs.contracts.request.Answer as answer
use Rattle.pres_hub.specs.contracts.queue.Queue as queue
use Rattle.pres_hub.specs.contracts.queue.Signals as signals
use Rattle.pres_accounting.proofs.tally.Tally.TheSendSync.{the_send as tally_is}
use Rattle.pres_accounting.proofs.seat.Seat.TheSendSync.{the_send as seat_is}
use Rattle.pres_faults.proofs.hub_fault.HubFault.TheSendSync.{the_send as fault_is}

pub tree_send : IsSend (nested.the_row scalar.the_row)
tree_send = search (key_is, scalar_is, maps, crosses, knot, sendable) depth 60 fits 20000

pub draft_send : IsSend (nested.the_row slot.the_row)
draft_send = search (key_is, slot_is, maps, crosses, knot, sendable) depth 60 fits 20000

pub basic_send : IsSend basic.the_row
basic_send = search (path_is, tree_send, crosses, sendable) depth 60 fits 20000

pub placement_send : IsSend placement.the_row
placement_send = search (path_is, draft_send, crosses, sendable) depth 60 fits 20000

pub puts_send : IsSend puts.the_row
puts_send = search (placement_send, crosses, sendable) depth 60 fits 20000

pub op_send : IsSend op.the_row
op_send = search (path_is, tree_send, draft_send, placement_send, maps, crosses, sendable) depth 60 fits 20000

pub update_send : IsSend update.the_row
update_send = search (path_is, tree_send, draft_send, placement_send, maps, crosses, sendable) depth 60 fits 20000

pub unconditional_send : IsSend unconditional.the_row
unconditional_send = search (placement_send, update_send, crosses, sendable) depth 60 fits 20000

pub up_send : IsSend up.the_row
up_send = search (session_is, number_is, path_is, op_send, unconditional_send, variants_send, as_row_send, crosses, sendable) depth 60 fits 20000

pub outcome_send : IsSend outcome.the_row
outcome_send = search (tree_send, basic_send, items_is, crosses, sendable) depth 60 fits 20000

pub kept_send : IsSend kept.the_row
kept_send = search (tree_send, crosses, sendable) depth 60 fits 20000

pub gone_send : IsSend gone.the_row
gone_send = search (crosses, sendable) depth 60 fits 20000

pub plan_send : IsSend plan.the_row
plan_send = search (placement_send, path_is, number_is, maps, crosses, sendable) depth 60 fits 20000

pub live_send : IsSend (live.the_row plan.the_row)
live_send = search (plan_send, count_is, moment_is, crosses, sendable) depth 60 fits 20000

pub offsets_send : IsSend offsets.the_row
offsets_send = search (crosses, sendable) depth 60 fits 20000

pub shelf_send : IsSend shelf.the_row
shelf_send = search (offsets_send, crosses, sendable) depth 60 fits 20000

pub answers_send : IsSend answers.the_row
answers_send = search (number_is, shelf_send, tree_send, maps, crosses, sendable) depth 60 fits 20000

pub retry_send : IsSend retry.the_row
retry_send = search (client_is, answers_send, maps, crosses, sendable) depth 60 fits 20000

pub session_paths_send : IsSend session_paths.the_row
session_paths_send = search (path_is, session_is, maps, maps_over, crosses, sendable) depth 60 fits 20000

pub listening_send : IsSend listening.the_row
listening_send = search (session_is, crosses, sendable) depth 60 fits 20000

pub level_send : IsSend level.the_row
level_send = search (key_is, listening_send, maps, crosses, level_knot, sendable) depth 60 fits 20000

pub listeners_send : IsSend listeners.the_row
listeners_send = search (session_paths_send, level_send, declared_send, as_row_send, crosses, sendable) depth 60 fits 20000

pub values_send : IsSend values.the_row
values_send = search (path_is, tree_send, crosses, sendable) depth 60 fits 20000

pub down_send : IsSend down.the_row
down_send = search (session_is, number_is, count_is, path_is, tree_send, values_send, crosses, sendable) depth 60 fits 20000

pub entry_send : IsSend entry.the_row
entry_send = search (session_is, number_is, why_is, limit_is, path_is, op_send, outcome_send, basic_send, items_is, puts_send, variants_send, as_row_send, crosses, sendable) depth 60 fits 20000

pub batch_send : IsSend batch.the_row
batch_send = search (number_is, moment_is, entry_send, items_is, crosses, sendable) depth 60 fits 20000

pub log_send : IsSend log.the_row
log_send = search (batch_send, crosses, sendable) depth 60 fits 20000

pub places_send : IsSend places.the_row
places_send = search (client_is, live_send, gone_send, maps, crosses, sendable) depth 60 fits 20000

pub index_send : IsSend index.the_row
index_send = search (places_send, retry_send, listeners_send, tree_send, declared_send, as_row_send, crosses, sendable) depth 60 fits 20000

pub server_send : IsSend server.the_row
server_send = search (log_send, moment_is, index_send, global_is, declared_send, as_row_send, crosses, sendable) depth 60 fits 20000

pub feed_send : IsSend feed.the_row
feed_send = search (session_is, down_send, producer_is, global_is, the_frees, declared_send, as_row_send, crosses, sendable) depth 60 fits 20000

pub outbox_send : IsSend outbox.the_row
outbox_send = search (session_is, down_send, consumer_is, global_is, the_frees, declared_send, as_row_send, crosses, sendable) depth 60 fits 20000

pub place_send : IsSend place.the_row
place_send = search (feed_send, why_is, crosses, sendable) depth 60 fits 20000

pub lines_send : IsSend lines.the_row
lines_send = search (session_is, place_send, maps, crosses, sendable) depth 60 fits 20000

pub client_part_send : IsSend client_part.the_row
client_part_send = search (client_is, number_is, answers_send, crosses, sendable) depth 60 fits 20000

pub plan_row_send : IsSend plan_row.the_row
plan_row_send = search (number_is, placement_send, path_is, crosses, sendable) depth 60 fits 20000

pub session_part_send : IsSend session_part.the_row
session_part_send = search (count_is, items_is, path_is, plan_row_send, crosses, sendable) depth 60 fits 20000

pub base_parts_send : IsSend base_parts.the_row
base_parts_send = search (count_is, moment_is, tree_send, items_is, client_part_send, session_part_send, crosses, sendable) depth 60 fits 20000

pub base_send : IsSend base.the_row
base_send = search (base_parts_send, declared_send, crosses, sendable) depth 60 fits 20000

pub keeper_send : IsSend keeper.the_row
keeper_send = search (base_send, batch_send, global_is, declared_send, as_row_send, crosses, sendable) depth 60 fits 20000

module _ (K : RattleType) (g : keeping.Ghosts K.Denot) (k : IsSend K) where
  pub engine_send : IsSend (engine.the_row K g)
  engine_send = search (server_send, declared_send, as_row_send, crosses, sendable) depth 60 fits 20000

module _ (B : RattleType) (b : IsSend B) where
  pub hung_send : IsSend (hung.the_row B)
  hung_send = search (declared_send, as_row_send, crosses, sendable) depth 60 fits 20000

  pub due_send : IsSend (due.the_row B)
  due_send = search (declared_send, as_row_send, crosses, sendable) depth 60 fits 20000

  pub bells_send : IsSend (bells.the_row B)
  bells_send = search (hung_send, due_send, session_is, maps, declared_send, as_row_send, crosses, sendable) depth 60 fits 20000

module _ (K B : RattleType) (g : keeping.Ghosts K.Denot) where
  pub dispatcher_send : IsSend K → IsSend B → IsSend (dispatcher.the_row K B g)
  dispatcher_send k b = search (engine_send, lines_send, bells_send, declared_send, as_row_send, crosses, sendable) depth 60 fits 20000

pub signals_sync : IsSync signals.the_row
signals_sync = search (declared_sync, as_row_sync, crosses, sendable) depth 60 fits 20000

pub said_send : IsSend said.the_row
said_send = search (crosses, sendable) depth 60 fits 20000

module _ (L : RattleType) (l : ledger.Ghosts L.Denot) where
  pub request_send : IsSend (request.the_row L l)
  request_send = search (seat_is, up_send, said_send, fault_is, declared_send, as_row_send, crosses, sendable) depth 60 fits 20000

  pub answer_send : IsSend (answer.the_row L l)
  answer_send = search (seat_is, said_send, fault_is, declared_send, as_row_send, crosses, sendable) depth 60 fits 20000

  pub queue_send : IsSend (queue.the_row L l)
  queue_send = search (request_send, answer_send, declared_send, as_row_send, crosses, sendable) depth 60 fits 20000

module _ (L K B : RattleType) (l : ledger.Ghosts L.Denot) (g : keeping.Ghosts K.Denot) where
  pub core_send : IsSend K → IsSend B → IsSend (core.the_row L K B l g)
  core_send k b = search (dispatcher_send, tally_is, global_is, declared_send, as_row_send, crosses, sendable) depth 60 fits 20000

  module _ (G : RattleType) where
    pub hub_sync : IsSend K → IsSend B → IsSync G → IsSync (hub.the_row L K B G l g)
    hub_sync k b y = search (core_send, queue_send, signals_sync, declared_sync, as_row_sync, crosses, sendable) depth 60 fits 20000
