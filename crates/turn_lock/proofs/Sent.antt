-- A place at the table may go to another thread, and the table may be shared, where the state may go. For the types above, whose states are too large for one search.
use denote.RattleType.{RattleType}
use denote.Param.Send.{IsSend, IsSync, Frees, part_keyless, sendable, recorded_sync, struct_sync}
use denote.Struct.Struct.{Struct}
use denote.Struct.Owning.{shape}
use Rattle.atomic_table.specs.declared.shared.TableRule.{Ghosts}
use Rattle.atomic_table.specs.contracts.shared.Seat.{the_row as place_row}
use Rattle.atomic_table.specs.contracts.shared.Shared.{the_row as board_row, the_type as board_type}
use Rattle.std.specs.declared.alloc.Allocator as Allocator
use Rattle.std.specs.contracts.option.Option.{the_row as option_row}
use Rattle.atomic_table.specs.contracts.send_lease.SendLease.{the_row as lease_row}
use Rattle.atomic_table.proofs.Rights.{right_send}
use Rattle.atomic_table.proofs.Sent.{seat_keyless, shares_keyless}
use Rattle.std.proofs.Crossing as heap
use denote.Builtin.{u64}
use Rattle.turn_lock.specs.declared.booked.Booked as booked
use Rattle.atomic_table.specs.contracts.owned.Table.{the_type as table_type}
use Rattle.turn_lock.specs.contracts.known.Known.{the_row as known_row}
use Rattle.std.specs.contracts.snapshot.Snapshot.{the_row as snapshot_row}
use Rattle.turn_lock.specs.contracts.rule.ByTheBook.{the_row as rule_row}
use Rattle.std.specs.contracts.alloc.Global.{the_row as heap_row}
use Rattle.turn_lock.specs.contracts.rule.ByTheBookTableRuleOptionKnownEntrySnapshot.TheImpl as rule
use Rattle.std.specs.contracts.impls.GlobalAllocator.TheImpl.{ghosts as heap_ghosts}
use Rattle.turn_lock.specs.contracts.seat.Seat.{the_row as seat_row}
use Rattle.turn_lock.specs.contracts.turn.Turn.{the_row as turn_row}
use Rattle.turn_lock.specs.contracts.turn.Turn.TheInside as inside
use denote.Struct.Declared as declared

pub place_sent : (S V : RattleType) → IsSend S → IsSend (place_row S V)
place_sent S V s = record { owned = λ d vs. ((λ vss. (tt, ((λ uss. (tt, tt)), tt))), seat_keyless S s V.coded.code d.table_id d.id d.me); leaving = λ k f vs. tt }

pub board_shared : (S V K P : RattleType) (g : Ghosts P.Denot S.Denot V.Denot K.Denot) → IsSend S → IsSync (board_row S V K P g)
board_shared S V K P g s = let fields : IsSync (Struct (shape (board_type S V K P g))) = search sendable depth 20 in
    record { shared = λ d b o ν. (fields.shared (d.words, (d.slots, (tt, tt))) b o ν, shares_keyless S s V.coded.code d.table_id (g.holds d.key) d.words d.slots ν) }

option_sent : (S : RattleType) → IsSend S → IsSend (option_row S)
option_sent S s = search sendable depth 30

lease_shared : (T A : RattleType) (g : Allocator.Ghosts A.Denot) → IsSend A → Frees g g.dealloc_token → IsSync (lease_row T A g)
lease_shared T A g s f = record { shared = λ d b o ν q. part_keyless (lease_row T A g) (right_send T A g f) q d b o }

module _ (S E : RattleType) (g : booked.Ghosts S.Denot E.Denot) (s : IsSend S) where
  pub seat_sent : IsSend (seat_row S E g)
  seat_sent = search (sendable, place_sent) depth 30

  board : IsSync (board_row (option_row S) (known_row S E) (snapshot_row S) rule_row (rule.ghosts S E g rule.no_dict rule.no_dict))
  board = board_shared (option_row S) (known_row S E) (snapshot_row S) rule_row (rule.ghosts S E g rule.no_dict rule.no_dict) (option_sent S s)

  words : IsSync (lease_row u64 heap_row heap_ghosts)
  words = lease_shared u64 heap_row heap_ghosts heap.send heap.frees

  slots : IsSync (lease_row (option_row S) heap_row heap_ghosts)
  slots = lease_shared (option_row S) heap_row heap_ghosts heap.send heap.frees

  inside_shared : IsSync (inside.the_row S E g)
  inside_shared =
      recorded_sync (inside.the_field S E g).row _ _ (inside.the_type S E g).to_one (struct_sync (declared.shape (inside.the_type S E g)) (struct_sync (declared.shape (table_type (option_row S) (known_row S E) (snapshot_row S) rule_row heap_row (rule.ghosts S E g rule.no_dict rule.no_dict) heap_ghosts)) (board, (search sendable, (search sendable, (words, (slots, (heap.sync, tt)))))), tt))

  pub turn_shared : IsSync (turn_row S E g)
  turn_shared = search (sendable, inside_shared) depth 30
